-- A name that is known before it is read: where it stands with a colon behind it, and how far a comparison with it goes.
use Rattle.std.proofs.Common.{◌≡◌, ℕ, ◌≤◌, Bool, true, false, not, ◌&&◌, ◌==◌, cond, drop, [], ◌∷◌, ◌++◌, codes, ◌⊎◌, inl, inr, refl, sym, ap, ap₂, ◌∙◌, arith}
use Rattle.std.proofs.Common.{eqb-true}
use Rattle.std.specs.List.{list_all}
use Rattle.std.proofs.lemmas.Bool.{and_parts, and_right}
use Rattle.std.proofs.Math.Bool.{or-true}
use Rattle.unicode_ident.proofs.Computing.{unicode_ident}
use Rattle.ron_spec_words.specs.Characters.{Text, starts_name, continues_name, in_raw_name, colon}
use Rattle.ron_spec_words.specs.Runs.{begins, Every, begins_with, after_run}
use Rattle.ron_spec_words.specs.Reader.{got}
use Rattle.ron_spec_words.specs.Name.{name, opens_literal, PlainName}
use Rattle.ron_spec_words.specs.Scan.{opens_raw_name}
use Rattle.ron_spec_words.specs.Beyond.{bytes_in, in_look, past_look, beyond}
use Rattle.ron_spec_words.proofs.Classes.{apart}
use Rattle.ron_spec_words.proofs.Names.{word_name}
use Rattle.ron_spec_words.proofs.Sizes.{run_behind, run_no_more, beyond_plain, beyond_raw, size_run, size_end}
use Rattle.ron_lex_text.specs.Stretch.{IsSuffix, in_ascii_name, stands_called, parting}
use Rattle.ron_lex_text.proofs.StretchLemmas.{end_whole, end_past_char}
use Rattle.ron_lex.specs.Turns.{IsLook}

-- ---- the name

every_continues : (n : Text) → list_all in_ascii_name n ≡ true → Every continues_name n
every_continues [] h = tt
every_continues (c ∷ n) h =
    let k = and_parts (in_ascii_name c) (list_all in_ascii_name n) h in
    ((and_parts _ (continues_name c) k.0).1, every_continues n k.1)

-- a word that no name and a colon begin with: before its colon, if it has one, stands a character that no name goes on with
abbrev EndsNames : Text → Type 0
EndsNames [] = ⊥
EndsNames (c ∷ w) = ((colon == c) ≡ false) × ((continues_name c ≡ false) ⊎ EndsNames w)

no_word : (w n rest : Text) → Every continues_name n → EndsNames w → begins_with w (n ++ colon ∷ rest) ≡ false
no_word [] n rest h b = absurd b
no_word (c ∷ w) [] rest h b = ap (λ x. x && begins_with w rest) b.0
no_word (c ∷ w) (d ∷ n) rest h b = go b.1 (no_word w n rest h.1)
  where
    go : (continues_name c ≡ false) ⊎ EndsNames w → (EndsNames w → begins_with w (n ++ colon ∷ rest) ≡ false)
        → ((d == c) && begins_with w (n ++ colon ∷ rest)) ≡ false
    go (inl e) ih = rw (apart continues_name c d e h.0) refl
    go (inr k) ih = rw (ih k) (and_right (d == c) false refl)

no_literal : (n rest : Text) → Every continues_name n → opens_literal (n ++ colon ∷ rest) ≡ false
unfolding unicode_ident
no_literal n rest h = rw (
  no_word (codes "b\"") n rest h (refl, inr (refl, inl refl)),
  no_word (codes "b'") n rest h (refl, inr (refl, inl refl)),
  no_word (codes "br#") n rest h (refl, inr (refl, inr (refl, inl refl))),
  no_word (codes "br\"") n rest h (refl, inr (refl, inr (refl, inl refl))),
  no_word (codes "r\"") n rest h (refl, inr (refl, inl refl)),
  no_word (codes "r#") n rest h (refl, inr (refl, inl refl)),
) refl

plain_name : (n rest : Text) → begins starts_name n ≡ true → Every continues_name n → PlainName n (colon ∷ rest) n
unfolding unicode_ident
plain_name [] rest b h = cc
plain_name (c ∷ n) rest b h = (ap not (no_literal (c ∷ n) rest h), record { spelled = record { same = refl; every = (b, h.1); longest = refl }; other = refl })

pub called_name : (n s rest : Text) → begins starts_name n ≡ true → stands_called n s ≡ true → s ≡ n ++ colon ∷ rest → name s ≡ got n (colon ∷ rest)
called_name n s rest b h e =
    let every = every_continues n (and_parts (list_all in_ascii_name n) (begins_with (n ++ colon ∷ []) s) h).0 in
    ap name e ∙ (word_name.complete n (colon ∷ rest) n (inr (plain_name n rest b every))).answer

-- ---- the comparison

part_end : (n s : Text) → IsSuffix (parting n s) s
part_end [] s = end_whole s
part_end (c ∷ n) [] = end_whole []
part_end (c ∷ n) (d ∷ s) = go ((d == c) && in_ascii_name c) (part_end n s)
  where
    go : (b : Bool) → IsSuffix (parting n s) s → IsSuffix (cond b (parting n s) (d ∷ s)) (d ∷ s)
    go true ih = end_past_char d (d ∷ s) s (parting n s) refl ih
    go false ih = end_whole (d ∷ s)

-- it goes no further than a run of a name's characters
part_run : (n s : Text) → after_run continues_name (parting n s) ≡ after_run continues_name s
part_run [] s = refl
part_run (c ∷ n) [] = refl
part_run (c ∷ n) (d ∷ s) = go ((d == c) && in_ascii_name c) refl (part_run n s)
  where
    go : (b : Bool) → ((d == c) && in_ascii_name c) ≡ b → after_run continues_name (parting n s) ≡ after_run continues_name s
        → after_run continues_name (cond b (parting n s) (d ∷ s)) ≡ after_run continues_name (d ∷ s)
    go true e ih =
        let k = and_parts (d == c) (in_ascii_name c) e in
        let is : continues_name d ≡ true = ap continues_name (eqb-true d c k.0) ∙ (and_parts _ (continues_name c) k.1).1 in
        ih ∙ sym (ap (λ b. cond b (after_run continues_name s) (d ∷ s)) is)
    go false e ih = refl

continues_in_look : (c : ℕ) → continues_name c ≡ true → in_look c ≡ true
continues_in_look c e = rw (e, or-true (starts_name c)) refl

-- what stands beyond the words is no more than what such a run leaves
beyond_run : (s : Text) → bytes_in (beyond s) ≤ bytes_in (after_run continues_name s)
unfolding unicode_ident
beyond_run s = go (opens_raw_name s) refl
  where
    raw : (s : Text) → opens_raw_name s ≡ true → bytes_in (past_look (after_run in_raw_name (drop 2 s))) ≤ bytes_in (after_run continues_name s)
    raw [] e = absurd (let z : true ≡ false = sym (and_parts false false e).0 in cc)
    raw (c ∷ []) e = absurd (let z : true ≡ false = sym (and_parts ((c == 114) && false) false e).1 in cc)
    raw (c ∷ d ∷ s) e =
        let k = and_parts ((c == 114) && ((d == 35) && true)) (begins in_raw_name s) e in
        let l = and_parts (c == 114) ((d == 35) && true) k.0 in
        let m = and_parts (d == 35) true l.1 in
        let is : after_run continues_name (c ∷ d ∷ s) ≡ 35 ∷ s = ap₂ (λ x y. after_run continues_name (x ∷ y ∷ s)) (eqb-true c 114 l.0) (eqb-true d 35 m.0) in
        omega (arith, run_no_more (after_run in_raw_name s), size_run in_raw_name s, size_end (35 ∷ []) s (35 ∷ s) refl, ap bytes_in is)

    go : (b : Bool) → opens_raw_name s ≡ b → bytes_in (beyond s) ≤ bytes_in (after_run continues_name s)
    go true e = omega (arith, ap bytes_in (beyond_raw s e), raw s e)
    go false e = omega (arith, ap bytes_in (beyond_plain s e ∙ sym (run_behind continues_name continues_in_look s)), run_no_more (after_run continues_name s))

pub parting_look : (n s end : Text) → end ≡ parting n s → IsLook s end
parting_look n s end e = rw e (record {
  is_end = part_end n s;
  within = omega (arith, beyond_run s, ap bytes_in (part_run n s), size_run continues_name (parting n s));
})
