-- Integers, of every base and with suffixes, are read exactly: for the words of integers.
use Rattle.std.proofs.Common.{◌≡◌, ℕ, Bool, true, false, not, ◌||◌, cond, drop, length, List, [], ◌∷◌, ◌++◌, codes, Option, Some, None, refl, sym, ap, ◌∙◌}
use Rattle.std.proofs.lemmas.Bool.{not-true, or_parts}
use Rattle.std.proofs.Math.Seq.{drop-append_seam}
use Rattle.std.specs.Char.{is_ascii_hexdigit}
use Rattle.ron_spec_words.specs.Characters.{Text, continues_name}
use Rattle.ron_spec_words.specs.Runs.{begins, is_at, begins_with}
use Rattle.ron_spec_words.specs.Lang.{Lang, When, Behind}
use Rattle.ron_spec_words.specs.Reader.{deep, got, failed, behind}
use Rattle.ron_spec_words.specs.Exact.{Takes, Answers, IsWordReader}
use Rattle.ron_spec_words.specs.Directly.{stands}
use Rattle.ron_spec_words.specs.Number.{Suffix, i8, i16, i32, i64, i128, u8, u16, u32, u64, u128, suffix_word, OptSuffix, in_number, InBase, opens_base}
use Rattle.ron_spec_words.specs.Number.{Magnitude, Unsigned, Number, suffixes, first_standing, past_suffix, opt_suffix, in_base, magnitude, unsigned, number}
use Rattle.ron_spec_words.proofs.Words.{First, word_run, word_behind, word_choose, word_means, word_when, first_run, first_behind, first_or, first_means}
use Rattle.ron_spec_words.proofs.Words.{first_when}
use Rattle.ron_spec_words.proofs.Classes.{apart}
use Rattle.ron_spec_words.proofs.Direct.{word_directly, first_directly, stands-splits}

-- ---- suffixes

-- the suffix that is found stands there
found : (xs : List Suffix) (s : Text) (x : Suffix) → first_standing xs s ≡ Some x → stands (suffix_word x) s ≡ true
found [] s x e = absurd (cc)
found (y ∷ ys) s x e = go (stands (suffix_word y) s) refl e (found ys s x)
  where
    go : (b : Bool) → stands (suffix_word y) s ≡ b → cond b (Some y) (first_standing ys s) ≡ Some x
        → (first_standing ys s ≡ Some x → stands (suffix_word x) s ≡ true) → stands (suffix_word x) s ≡ true
    go true h k f = let same : y ≡ x = cc in ap (λ z. stands (suffix_word z) s) (sym same) ∙ h
    go false h k f = f k

-- none of these stands there
abbrev NoneStands : List Suffix → Text → Type 0
NoneStands [] s = Unit {0}
NoneStands (x ∷ xs) s = (stands (suffix_word x) s ≡ false) × NoneStands xs s

none_found : (xs : List Suffix) (s : Text) → first_standing xs s ≡ None → NoneStands xs s
none_found [] s e = tt
none_found (y ∷ ys) s e = go (stands (suffix_word y) s) refl e (none_found ys s)
  where
    go : (b : Bool) → stands (suffix_word y) s ≡ b → cond b (Some y) (first_standing ys s) ≡ None → (first_standing ys s ≡ None → NoneStands ys s)
        → (stands (suffix_word y) s ≡ false) × NoneStands ys s
    go true h k f = absurd (cc)
    go false h k f = (h, f k)

none_stands : (s : Text) → NoneStands suffixes s → (x : Suffix) → stands (suffix_word x) s ≡ false
none_stands s h i8 = h.0
none_stands s h i16 = h.1.0
none_stands s h i32 = h.1.1.0
none_stands s h i64 = h.1.1.1.0
none_stands s h i128 = h.1.1.1.1.0
none_stands s h u8 = h.1.1.1.1.1.0
none_stands s h u16 = h.1.1.1.1.1.1.0
none_stands s h u32 = h.1.1.1.1.1.1.1.0
none_stands s h u64 = h.1.1.1.1.1.1.1.1.0
none_stands s h u128 = h.1.1.1.1.1.1.1.1.1.0

finds_none : (xs : List Suffix) (s : Text) → ((x : Suffix) → stands (suffix_word x) s ≡ false) → first_standing xs s ≡ None
finds_none [] s h = refl
finds_none (x ∷ xs) s h = rw (h x, finds_none xs s h) refl

-- the suffix that stands there is found: none is a front of another
finds : (x : Suffix) (next : Text) → begins continues_name next ≡ false → first_standing suffixes (suffix_word x ++ next) ≡ Some x
finds i8 next e = rw e refl
finds i16 next e = rw e refl
finds i32 next e = rw e refl
finds i64 next e = rw e refl
finds i128 next e = rw e refl
finds u8 next e = rw e refl
finds u16 next e = rw e refl
finds u32 next e = rw e refl
finds u64 next e = rw e refl
finds u128 next e = rw e refl

suffix_takes : (s : Text) (o : Option Suffix) → first_standing suffixes s ≡ o → (a : Option Suffix) (rest : Text) → past_suffix o s ≡ got a rest
    → Takes OptSuffix s a rest
suffix_takes s (Some x) h a rest e =
    let z = stands-splits (suffix_word x) s (found suffixes s x h) in
    let u : drop (length (suffix_word x)) s ≡ rest = cc in
    let v : Some x ≡ a = cc in
    rw (← v) (record {
      stretch = suffix_word x;
      split = z.0 ∙ ap (λ y. suffix_word x ++ y) u;
      spelled = record { same = refl; ends = ap (λ y. begins continues_name y) (sym u) ∙ z.1; value = refl };
    })
suffix_takes s None h a rest e =
    let u : s ≡ rest = cc in
    let v : None ≡ a = cc in
    rw (← v) (record { stretch = []; split = u; spelled = (refl, rw u at (none_stands s (none_found suffixes s h))) })

suffix_calm : (o : Option Suffix) (s : Text) → past_suffix o s ≡ failed deep → ⊥
suffix_calm (Some x) s e = cc
suffix_calm None s e = cc

pub word_suffix : IsWordReader opt_suffix OptSuffix
unfolding opt_suffix
word_suffix = record {
  sound = λ s a rest e. suffix_takes s (first_standing suffixes s) refl a rest e;
  complete = from;
  calm = λ s e. suffix_calm (first_standing suffixes s) s e;
}
  where
    from : (t next : Text) (a : Option Suffix) → OptSuffix t next a → Answers opt_suffix t next a
    from t next (Some x) l = record { answer = rw (l.same, finds x next l.ends) (ap (λ z. got (Some x) z) (drop-append_seam (suffix_word x) next)) }
    from t next None l = record { answer = rw (l.0, finds_none suffixes next l.1) refl }

-- ---- digits

word_in_base : (base : ℕ) → IsWordReader (in_base base) (InBase base)
word_in_base base = word_means _ (word_run is_ascii_hexdigit in_number)

-- where no base stands, none of the three stands
no_base : (s : Text) → opens_base s ≡ false → (begins_with (codes "0b") s ≡ false) × (begins_with (codes "0o") s ≡ false) × (begins_with (codes "0x") s ≡ false)
no_base s e =
    let k = or_parts (begins_with (codes "0b") s) (begins_with (codes "0o") s || begins_with (codes "0x") s) e in
    let l = or_parts (begins_with (codes "0o") s) (begins_with (codes "0x") s) k.1 in
    (k.0, l.0, l.1)

abbrev Decimal : Lang ℕ
Decimal = When (λ s. not (opens_base s)) (InBase 10)

no_base_before : First (λ s. opens_base s ≡ false) Decimal
no_base_before = record { holds = λ t next n z. not-true (opens_base (t ++ next)) z.0 }

decimal_first : (w : Text) → ((s : Text) → opens_base s ≡ false → begins_with w s ≡ false) → First (λ s. begins_with w s ≡ false) Decimal
decimal_first w k = record { holds = λ t next n z. k (t ++ next) (no_base_before.holds t next n z) }

word_based : (d base : ℕ) → IsWordReader (behind 48 (behind d (in_base base))) (Behind 48 (Behind d (InBase base)))
word_based d base = word_behind 48 _ _ (word_behind d _ _ (word_in_base base))

pub first_based : (P : Text → Type 0) (d base : ℕ) → ((s : Text) → P (48 ∷ d ∷ s)) → First P (Behind 48 (Behind d (InBase base)))
first_based P d base k = record { holds = λ t next a z. rw (z.split, z.spelled.split) (k (z.spelled.rest ++ next)) }

pub word_magnitude : IsWordReader magnitude Magnitude
unfolding magnitude
word_magnitude =
    word_choose (begins_with (codes "0b")) (first_based (λ s. begins_with (codes "0b") s ≡ true) 98 2 (λ s. refl))
    (first_or (first_based (λ s. begins_with (codes "0b") s ≡ false) 111 8 (λ s. refl))
    (first_or (first_based (λ s. begins_with (codes "0b") s ≡ false) 120 16 (λ s. refl)) (decimal_first (codes "0b") (λ s e. (no_base s e).0))))
    (word_based 98 2)
    (word_choose (begins_with (codes "0o")) (first_based (λ s. begins_with (codes "0o") s ≡ true) 111 8 (λ s. refl))
    (first_or (first_based (λ s. begins_with (codes "0o") s ≡ false) 120 16 (λ s. refl)) (decimal_first (codes "0o") (λ s e. (no_base s e).1)))
    (word_based 111 8)
    (word_choose (begins_with (codes "0x")) (first_based (λ s. begins_with (codes "0x") s ≡ true) 120 16 (λ s. refl))
    (decimal_first (codes "0x") (λ s e. (no_base s e).2))
    (word_based 120 16)
    (word_when (λ s. not (opens_base s)) (word_in_base 10))))

-- ---- whole

-- what a magnitude begins with: a digit, of any base
pub first_magnitude : (P : Text → Type 0) → ((c : ℕ) (s : Text) → is_ascii_hexdigit c ≡ true → P (c ∷ s)) → First P Magnitude
first_magnitude P k =
    first_or (first_behind P 48 _ (λ s. k 48 s refl)) (first_or (first_behind P 48 _ (λ s. k 48 s refl)) (first_or (first_behind P 48 _ (λ s. k 48 s refl))
    (first_when (λ s. not (opens_base s)) (first_means (first_run P is_ascii_hexdigit in_number k)))))

word_unsigned : (minus : Bool) → IsWordReader (unsigned minus) (Unsigned minus)
word_unsigned minus = word_directly _ _ _ _ word_magnitude (λ n. word_means _ word_suffix)

pub no_sign : (minus : Bool) (c : ℕ) → is_ascii_hexdigit c ≡ false → First (λ s. is_at c s ≡ false) (Unsigned minus)
no_sign minus c e = first_directly (first_magnitude _ (λ d s k. apart is_ascii_hexdigit c d e k))

pub word_number : IsWordReader number Number
unfolding number
word_number = word_choose (is_at 43) (first_behind _ 43 _ (λ s. refl)) (first_or (first_behind _ 45 _ (λ s. refl)) (no_sign false 43 refl))
    (word_behind 43 _ _ (word_unsigned false))
    (word_choose (is_at 45) (first_behind _ 45 _ (λ s. refl)) (no_sign false 45 refl)
    (word_behind 45 _ _ (word_unsigned true))
    (word_unsigned false))
