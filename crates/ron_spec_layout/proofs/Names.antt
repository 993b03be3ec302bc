-- A name as it is written spells the name: for every shape that writes one, and for `ron_ser`, which writes it.
use Rattle.std.proofs.Common.{◌≡◌, ℕ, ◌==◌, Bool, true, false, not, ◌&&◌, ◌||◌, cond, [], ◌∷◌, ◌++◌, codes, ◌⊎◌, inl, inr, refl, ap, arith, eqb-true}
use Rattle.std.specs.List.{list_any, list_all}
use Rattle.unicode_ident.specs.Ident.{is_xid_start}
use Rattle.unicode_ident.proofs.Computing.{unicode_ident}
use Rattle.unicode_ident.proofs.IdentLemmas.{is_xid_start-is_xid_continue}
use Rattle.ron_spec_words.specs.Characters.{Text, starts_name, continues_name, in_raw_name, continues_word}
use Rattle.ron_spec_words.specs.Runs.{begins, is_at, Every, begins_with, same_text}
use Rattle.ron_spec_words.specs.Name.{value_words, opens_literal, is_name_mark, PlainName, RawName, Name, is_name, is_plain_identifier}
use Rattle.std.proofs.lemmas.Bool.{and_from, and_parts, and_right, or_parts, or_right}
use Rattle.ron_spec_words.proofs.Classes.{apart}
use Rattle.ron_spec_words.proofs.TokenRuns.{every_of}
use Rattle.ron_spec_layout.specs.Name.{is_plain_name, written_name}

-- ---- what may stand behind a name

-- a word that no name and what follows it begin with: what follows begins with none of its characters up to one that no name goes on with
abbrev Breaks : Text → Text → Type 0
Breaks next [] = ⊥
Breaks next (c ∷ w) = (is_at c next ≡ false) × ((continues_name c ≡ false) ⊎ Breaks next w)

no_word : (w n next : Text) → Every continues_name n → Breaks next w → begins_with w (n ++ next) ≡ false
no_word [] n next h b = absurd b
no_word (c ∷ w) [] [] h b = refl
no_word (c ∷ w) [] (d ∷ next) h b = rw b.0 refl
no_word (c ∷ w) (d ∷ n) next h b = go b.1 (no_word w n next h.1)
  where
    go : (continues_name c ≡ false) ⊎ Breaks next w → (Breaks next w → begins_with w (n ++ next) ≡ false) → ((d == c) && begins_with w (n ++ next)) ≡ false
    go (inl e) ih = rw (apart continues_name c d e h.0) refl
    go (inr k) ih = rw (ih k) (and_right (d == c) false refl)

-- what the character behind a name is not
record Behind (next : Text) : Type 0 where
  no_mark : begins is_name_mark next ≡ false
  no_more : begins continues_name next ≡ false
  raw_over : begins in_raw_name next ≡ false
  no_quotes : is_at 34 next ≡ false
  no_quote : is_at 39 next ≡ false
  no_hash : is_at 35 next ≡ false

raw_false : (a b c d : Bool) → (a || b || c || d) ≡ false → ((a || b || c) ≡ false) × (d ≡ false)
raw_false a b c d e = (grind arith, grind arith)

behind : (next : Text) → begins continues_word next ≡ false → Behind next
behind [] h = record { no_mark = refl; no_more = refl; raw_over = refl; no_quotes = refl; no_quote = refl; no_hash = refl }
behind (c ∷ next) h =
    let raw = or_parts (in_raw_name c) _ h in
    let parts = raw_false (c == 46) (c == 43) (c == 45) (continues_name c) raw.0 in
    let marks = or_parts (c == 34) _ raw.1 in
    let last = or_parts (c == 39) (c == 35) marks.1 in
    record { no_mark = parts.0; no_more = parts.1; raw_over = raw.0; no_quotes = marks.0; no_quote = last.0; no_hash = last.1 }

-- a character that a name goes on with does not stand where none goes on
not_at : (c : ℕ) (next : Text) → not (continues_name c) ≡ false → begins continues_name next ≡ false → is_at c next ≡ false
not_at c [] e h = refl
not_at c (d ∷ next) e h = apart (λ c. not (continues_name c)) c d e (ap not h)

plain_opens_no_literal : (n next : Text) → Every continues_name n → Behind next → opens_literal (n ++ next) ≡ false
unfolding unicode_ident
plain_opens_no_literal n next h k =
    let b = not_at 98 next refl k.no_more in
    let r = not_at 114 next refl k.no_more in
    rw (
      no_word (codes "b\"") n next h (b, inr (k.no_quotes, inl refl)),
      no_word (codes "b'") n next h (b, inr (k.no_quote, inl refl)),
      no_word (codes "br#") n next h (b, inr (r, inr (k.no_hash, inl refl))),
      no_word (codes "br\"") n next h (b, inr (r, inr (k.no_quotes, inl refl))),
      no_word (codes "r\"") n next h (r, inr (k.no_quotes, inl refl)),
      no_word (codes "r#") n next h (r, inr (k.no_hash, inl refl)),
    ) refl

-- ---- names

pub first_continues : (c : ℕ) → starts_name c ≡ true → continues_name c ≡ true
unfolding unicode_ident
first_continues c h = go (c == 95) refl h
  where
    go : (b : Bool) → (c == 95) ≡ b → (b || is_xid_start c) ≡ true → continues_name c ≡ true
    go true e k = ap continues_name (eqb-true c 95 e)
    go false e k = is_xid_start-is_xid_continue c k

plain_spelled : (n next : Text) → is_plain_identifier n ≡ true → Behind next → PlainName n next n
plain_spelled [] next h k = absurd (cc)
plain_spelled (c ∷ n) next h k =
    let e = and_parts (starts_name c) (list_all continues_name n) h in
    let every = every_of continues_name n e.1 in (
      ap not (plain_opens_no_literal (c ∷ n) next (first_continues c e.0, every) k),
      record { spelled = record { same = refl; every = (e.0, every); longest = k.no_more }; other = k.no_mark },
    )

raw_continues : (c : ℕ) → continues_name c ≡ true → in_raw_name c ≡ true
raw_continues c h = or_right ((c == 46) || (c == 43) || (c == 45)) (continues_name c) h

all_raw : (n : Text) → list_all continues_name n ≡ true → list_all in_raw_name n ≡ true
all_raw [] h = refl
all_raw (c ∷ n) h = let k = and_parts (continues_name c) (list_all continues_name n) h in
    and_from (in_raw_name c) (list_all in_raw_name n) (raw_continues c k.0) (all_raw n k.1)

-- a name that is made as a plain identifier is can be written
pub plain_is_name : (n : Text) → is_plain_identifier n ≡ true → is_name n ≡ true
plain_is_name [] h = absurd (cc)
plain_is_name (c ∷ n) h = let k = and_parts (starts_name c) (list_all continues_name n) h in
    and_from (in_raw_name c) (list_all in_raw_name n) (raw_continues c (first_continues c k.0)) (all_raw n k.1)

raw_spelled : (n next : Text) → is_name n ≡ true → Behind next → RawName (codes "r#" ++ n) next n
raw_spelled [] next h k = absurd (cc)
raw_spelled (c ∷ n) next h k =
    let every = every_of in_raw_name (c ∷ n) h in
    record {
      rest = 35 ∷ c ∷ n;
      split = refl;
      spelled = record { rest = c ∷ n; split = refl; spelled = record { same = refl; every = (every.0, every.1); longest = k.raw_over } };
    }

pub name_spelled : (n next : Text) → is_name n ≡ true → begins continues_word next ≡ false → Name (written_name n) next n
unfolding is_plain_name
name_spelled n next h e = go (is_plain_name n) refl
  where
    go : (b : Bool) → is_plain_name n ≡ b → Name (cond b n (codes "r#" ++ n)) next n
    go true k = inr (plain_spelled n next (and_parts (is_plain_identifier n) (not (list_any (same_text n) value_words)) k).0 (behind next e))
    go false k = inl (raw_spelled n next h (behind next e))
