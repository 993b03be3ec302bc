-- Raw strings are read exactly: for the words of literals.
use Rattle.std.proofs.Common.{◌≡◌, ℕ, zero, suc, ◌≤◌, ◌==◌, Bool, true, false, ◌&&◌, cond, drop, length, [], ◌∷◌, ◌++◌, Option, Some, None, if◌then◌else◌, refl}
use Rattle.std.proofs.Common.{sym, ap, ap₂, ◌∙◌, append_assoc, eqb-true, arith, length-append}
use Rattle.std.proofs.lemmas.List.{append_cancel_right}
use Rattle.std.proofs.Math.Seq.{drop-append_seam}
use Rattle.std.proofs.lemmas.Option.{same_Some}
use Rattle.ron_spec_words.specs.Characters.{Text}
use Rattle.ron_spec_words.specs.Runs.{is_at, begins_with}
use Rattle.ron_spec_words.specs.Lang.{Lang, Behind}
use Rattle.ron_spec_words.specs.Reader.{deep, bad, Got, got, failed, meant}
use Rattle.ron_spec_words.specs.Exact.{Takes, IsWordReader}
use Rattle.ron_spec_words.specs.Directly.{Directly}
use Rattle.ron_spec_words.specs.Quoted.{hashes, EndsAlone, Raw, utf8, String, ByteString, one_more, count_hashes, with_first, upto, raw, string, byte_string}
use Rattle.ron_spec_words.proofs.Words.{meant_got, meant_calm, word_behind, word_choose, word_means, first_behind, pick_calm}
use Rattle.ron_spec_words.proofs.Direct.{word_directly, word_like, begins-drop, begins-append}
use Rattle.ron_spec_words.proofs.Quotes.{word_quoted_string, word_quoted_bytes}

-- ---- hashes

-- as many hashes as there are
record Hashes (t next : Text) (n : ℕ) : Type 0 where
  same : t ≡ hashes n
  longest : is_at 35 next ≡ false

some_number : (m n : ℕ) → Some m ≡ Some n → m ≡ n
some_number m n e = cc

hashes_next : (c : ℕ) (s : Text) (m n : ℕ) (rest : Text) → (c == 35) ≡ true → Takes Hashes s m rest → suc m ≡ n → Takes Hashes (c ∷ s) n rest
hashes_next c s m n rest h y e = record {
  stretch = 35 ∷ y.stretch;
  split = ap₂ (λ x u. x ∷ u) (eqb-true c 35 h) y.split;
  spelled = rw (← e) (record { same = ap (λ u. 35 ∷ u) y.spelled.same; longest = y.spelled.longest });
}

hashes_take : (s : Text) (n : ℕ) (rest : Text) → count_hashes s ≡ got n rest → Takes Hashes s n rest
hashes_take [] n rest e = let z : 0 ≡ n = cc in
    let u : [] ≡ rest = cc in
    record { stretch = []; split = u; spelled = rw (← z, ← u) (record { same = refl; longest = refl }) }
hashes_take (c ∷ s) n rest e = go (c == 35) refl (λ m k. hashes_take s m rest k) e
  where
    go : (b : Bool) → (c == 35) ≡ b → ((m : ℕ) → count_hashes s ≡ got m rest → Takes Hashes s m rest)
        → cond b (meant (count_hashes s) one_more) (got 0 (c ∷ s)) ≡ got n rest → Takes Hashes (c ∷ s) n rest
    go true h ih k = let m = meant_got (count_hashes s) one_more n rest k in hashes_next c s m.0 n rest h (ih m.0 m.1) (some_number _ _ m.2)
    go false h ih k = let z : 0 ≡ n = cc in
        let u : c ∷ s ≡ rest = cc in
        record { stretch = []; split = u; spelled = rw (← z, ← u) (record { same = refl; longest = h }) }

hashes_at : (n : ℕ) (next : Text) → is_at 35 next ≡ false → count_hashes (hashes n ++ next) ≡ got n next
hashes_at zero [] h = refl
hashes_at zero (c ∷ s) h = rw h refl
hashes_at (suc n) next h = rw (hashes_at n next h) refl

hashes_calm : (s : Text) → count_hashes s ≡ failed deep → ⊥
hashes_calm [] e = cc
hashes_calm (c ∷ s) e = pick_calm (c == 35) (meant (count_hashes s) one_more) (got 0 (c ∷ s)) (meant_calm (count_hashes s) one_more (hashes_calm s)) (λ k. cc) e

word_hashes : IsWordReader count_hashes Hashes
word_hashes = record { sound = hashes_take; complete = λ t next n l. record { answer = rw l.same (hashes_at n next l.longest) }; calm = hashes_calm }

-- ---- up to the ending

-- what follows a text that is long enough is not looked at
begins-front : (w t next : Text) → length w ≤ length t → begins_with w (t ++ next) ≡ begins_with w t
begins-front [] t next m = refl
begins-front (c ∷ w) [] next m = absurd (omega (arith, m))
begins-front (c ∷ w) (d ∷ t) next m = ap (λ b. (d == c) && b) (begins-front w t next (omega (arith, m)))

-- an ending that begins with d
module _ (d : ℕ) (v : Text) where
  abbrev ending : Text
  ending = d ∷ v

  -- a text and the ending, which stands in them at their end alone
  record Upto (t next text : Text) : Type 0 where
    same : t ≡ text ++ ending
    alone : EndsAlone ending text

  ending-front : (c : ℕ) (t rest : Text) → begins_with ending (c ∷ (t ++ (ending ++ rest))) ≡ begins_with ending ((c ∷ t) ++ ending)
  ending-front c t rest = ap (λ z. begins_with ending (c ∷ z)) (sym (append_assoc t ending rest))
      ∙ begins-front ending ((c ∷ t) ++ ending) rest (omega (arith, length-append (c ∷ t) ending))

  with_first_got : (c : ℕ) (o : Got Text) (a rest : Text) → meant o (with_first c) ≡ got a rest → (w : Text) × (o ≡ got w rest) × (c ∷ w ≡ a)
  with_first_got c o a rest e = let k = meant_got o (with_first c) a rest e in (k.0, k.1, same_Some _ _ k.2)

  upto_next : (c : ℕ) (s x a rest : Text) → begins_with ending (c ∷ s) ≡ false → Takes Upto s x rest → c ∷ x ≡ a → Takes Upto (c ∷ s) a rest
  upto_next c s x a rest h y e =
      let z : s ≡ x ++ (ending ++ rest) = y.split ∙ ap (λ u. u ++ rest) y.spelled.same ∙ append_assoc x ending rest in
      let f : begins_with ending ((c ∷ x) ++ ending) ≡ false = sym (ending-front c x rest) ∙ ap (λ u. begins_with ending (c ∷ u)) (sym z) ∙ h in
      record {
        stretch = c ∷ y.stretch;
        split = ap (λ u. c ∷ u) y.split;
        spelled = rw (← e) (record { same = ap (λ u. c ∷ u) y.spelled.same; alone = (f, y.spelled.alone) });
      }

  upto_take : (s a rest : Text) → upto ending s ≡ got a rest → Takes Upto s a rest
  upto_take [] a rest e = absurd (cc)
  upto_take (c ∷ s) a rest e = go (begins_with ending (c ∷ s)) refl (λ x k. upto_take s x rest k) e
    where
      go : (b : Bool) → begins_with ending (c ∷ s) ≡ b → ((x : Text) → upto ending s ≡ got x rest → Takes Upto s x rest)
          → cond b (got [] (drop (length ending) (c ∷ s))) (meant (upto ending s) (with_first c)) ≡ got a rest → Takes Upto (c ∷ s) a rest
      go true h ih k =
          let z : [] ≡ a = cc in
          let u : drop (length ending) (c ∷ s) ≡ rest = cc in
          record { stretch = ending; split = begins-drop ending (c ∷ s) h ∙ ap (λ x. ending ++ x) u; spelled = rw (← z) (record { same = refl; alone = tt }) }
      go false h ih k = let m = with_first_got c (upto ending s) a rest k in upto_next c s m.0 a rest h (ih m.0 m.1) m.2

  upto_at : (t next : Text) → EndsAlone ending t → upto ending (t ++ (ending ++ next)) ≡ got t next
  upto_at [] next h = rw (begins-append ending next) (ap (λ x. got [] x) (drop-append_seam ending next))
  upto_at (c ∷ t) next h = rw (ending-front c t next ∙ h.0, upto_at t next h.1) refl

  upto_calm : (s : Text) → upto ending s ≡ failed deep → ⊥
  upto_calm [] e = cc
  upto_calm (c ∷ s) e = pick_calm (begins_with ending (c ∷ s)) (got [] (drop (length ending) (c ∷ s))) (meant (upto ending s) (with_first c)) (λ k. cc)
      (meant_calm (upto ending s) (with_first c) (upto_calm s)) e

  word_upto : IsWordReader (upto ending) Upto
  word_upto = record {
    sound = upto_take;
    complete = λ t next a l. record { answer = rw (l.same, append_assoc a ending next) (upto_at a next l.alone) };
    calm = upto_calm;
  }

-- ---- the place of an ending

-- what follows the text before the first place where the ending stands
abbrev pub ending_at : Text → Text → Option Text
ending_at ending [] = None
ending_at ending (c ∷ s) = if begins_with ending (c ∷ s) then Some (c ∷ s) else ending_at ending s

place_shorter : (ending s u : Text) → ending_at ending s ≡ Some u → length u ≤ length s
place_shorter ending [] u e = absurd (cc)
place_shorter ending (c ∷ s) u e = go (begins_with ending (c ∷ s)) refl e (place_shorter ending s u)
  where
    go : (b : Bool) → begins_with ending (c ∷ s) ≡ b → cond b (Some (c ∷ s)) (ending_at ending s) ≡ Some u → (ending_at ending s ≡ Some u → length u ≤ length s)
        → length u ≤ length (c ∷ s)
    go true h f ih = let same : c ∷ s ≡ u = cc in rw (← same) (omega arith)
    go false h f ih = let m = ih f in omega (arith, m)

-- what stands before that place is the text up to the ending
pub upto-from_place : (ending s a u : Text) → ending_at ending s ≡ Some u → s ≡ a ++ u → upto ending s ≡ got a (drop (length ending) u)
upto-from_place ending [] a u e k = absurd (cc)
upto-from_place ending (c ∷ s) a u e k = go (begins_with ending (c ∷ s)) refl e (λ b f l. upto-from_place ending s b u f l)
  where
    behind : (a : Text) → c ∷ s ≡ a ++ u → ending_at ending s ≡ Some u → ((b : Text) → ending_at ending s ≡ Some u → s ≡ b ++ u
        → upto ending s ≡ got b (drop (length ending) u)) → meant (upto ending s) (with_first c) ≡ got a (drop (length ending) u)
    behind [] k f ih = absurd (let m = place_shorter ending s u f in omega (arith, m, ap length k))
    behind (d ∷ b) k f ih = let same : c ≡ d = cc in let l : s ≡ b ++ u = cc in rw (ih b f l, same) refl

    go : (b : Bool) → begins_with ending (c ∷ s) ≡ b → cond b (Some (c ∷ s)) (ending_at ending s) ≡ Some u
        → ((b : Text) → ending_at ending s ≡ Some u → s ≡ b ++ u → upto ending s ≡ got b (drop (length ending) u))
        → cond b (got [] (drop (length ending) (c ∷ s))) (meant (upto ending s) (with_first c)) ≡ got a (drop (length ending) u)
    go true h f ih = let same : c ∷ s ≡ u = cc in let none : [] ≡ a = append_cancel_right [] a u (sym same ∙ k) in rw (← none, same) refl
    go false h f ih = behind a k f ih

pub upto-no_place : (ending s : Text) → ending_at ending s ≡ None → upto ending s ≡ failed bad
upto-no_place ending [] e = refl
upto-no_place ending (c ∷ s) e = go (begins_with ending (c ∷ s)) refl e (upto-no_place ending s)
  where
    go : (b : Bool) → begins_with ending (c ∷ s) ≡ b → cond b (Some (c ∷ s)) (ending_at ending s) ≡ None
        → (ending_at ending s ≡ None → upto ending s ≡ failed bad)
        → cond b (got [] (drop (length ending) (c ∷ s))) (meant (upto ending s) (with_first c)) ≡ failed bad
    go true h f ih = absurd (cc)
    go false h f ih = rw (ih f) refl

-- ---- raw strings

abbrev Parts : Lang Text
Parts = Directly Hashes (λ n. Behind 34 (Upto 34 (hashes n)))

parts_raw : (t next a : Text) → Parts t next a → Raw t next a
parts_raw t next a z = record {
  count = z.value;
  same = z.split ∙ ap₂ (λ x y. x ++ y) z.first.same (z.second.split ∙ ap (λ y. 34 ∷ y) z.second.spelled.same);
  alone = z.second.spelled.alone;
}

raw_parts : (t next a : Text) → Raw t next a → Parts t next a
raw_parts t next a z = record {
  value = z.count;
  left = hashes z.count;
  right = 34 ∷ (a ++ 34 ∷ hashes z.count);
  split = z.same;
  first = record { same = refl; longest = refl };
  second = record { rest = a ++ 34 ∷ hashes z.count; split = refl; spelled = record { same = refl; alone = z.alone } };
}

pub word_raw : IsWordReader raw Raw
unfolding raw
word_raw = word_like Parts Raw parts_raw raw_parts (word_directly _ _ _ _ word_hashes (λ n. word_behind 34 _ _ (word_upto 34 (hashes n))))

-- ---- strings and byte strings, quoted or raw

pub word_string : IsWordReader string String
unfolding string
word_string = word_choose (is_at 34) (first_behind _ 34 _ (λ s. refl)) (first_behind _ 114 _ (λ s. refl)) word_quoted_string (word_behind 114 _ _ word_raw)

pub word_byte_string : IsWordReader byte_string ByteString
unfolding byte_string
word_byte_string = word_behind 98 _ _ (word_choose (is_at 34) (first_behind _ 34 _ (λ s. refl)) (first_behind _ 114 _ (λ s. refl)) word_quoted_bytes
    (word_behind 114 _ _ (word_means utf8 word_raw)))
