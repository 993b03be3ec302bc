-- A number or a range is spelled before any text that may follow a value, if it is before one: what stands behind a number is quiet, or points, and points cut
-- what a float may be.
use Rattle.std.proofs.Common.{◌≡◌, ℕ, ◌==◌, Bool, true, false, not, ◌||◌, ◌&&◌, cond, [], ◌∷◌, ◌++◌, inl, inr, Option, Some, None, refl, sym, ap, ap₂, ◌∙◌}
use Rattle.std.proofs.Common.{append_assoc, append-nil, length, nat_lt}
use Rattle.std.proofs.lemmas.Bool.{or_parts}
use Rattle.ron_spec_words.proofs.Classes.{Clear, solid_class}
use Rattle.unicode_ident.proofs.Computing.{unicode_ident}
use Rattle.ron_spec_words.specs.Characters.{Text}
use Rattle.ron_spec_words.specs.Runs.{begins, begins_with, run_of}
use Rattle.ron_spec_words.specs.Gap.{ends_value}
use Rattle.ron_spec_words.specs.Lang.{Empty, Behind, Means, Or, When}
use Rattle.ron_spec_words.specs.Exact.{FollowsValue}
use Rattle.ron_spec_words.specs.Directly.{stands}
use Rattle.ron_spec_words.specs.Number.{Suffix, suffix_word, OptSuffix, in_number, opens_base, Numeral, Unsigned, Number}
use Rattle.ron_spec_words.specs.AnyInteger.{starts_integer, in_float, before_dots, is_float, AnyInteger, UntypedInteger}
use Rattle.ron_spec_words.specs.Range.{Interval, one, range, up_to, is_open, Points, opens_points, BehindNumber, NumberOrRange}
use Rattle.ron_spec_grammar.proofs.Raw.Quiet.{quiet_value}
use Rattle.ron_spec_grammar.proofs.Raw.Settled.{Digits, magnitude_over, settled_integer, steady_byte_numeral}

-- the two begin with points
abbrev dotted : Text → Text
dotted u = 46 ∷ 46 ∷ u

module _ (u v : Text) where
  -- the two runs begin alike
  dot_alike : (p : ℕ → Bool) → p 46 ≡ true → (s : Text) → begins_with (46 ∷ []) (run_of p (s ++ dotted u)) ≡ begins_with (46 ∷ []) (run_of p (s ++ dotted v))
  dot_alike p e [] = rw e refl
  dot_alike p e (d ∷ s) = elim (p d) as (λ b. begins_with (46 ∷ []) (cond b (d ∷ run_of p (s ++ dotted u)) [])
      ≡ begins_with (46 ∷ []) (cond b (d ∷ run_of p (s ++ dotted v)) [])) [ true ↦ refl | false ↦ refl ]

  -- a run, cut at its first points, knows nothing of what stands behind them
  cut_alike : (p : ℕ → Bool) → p 46 ≡ true → (s : Text) → before_dots (run_of p (s ++ dotted u)) ≡ before_dots (run_of p (s ++ dotted v))
  cut_alike p e [] = rw e refl
  cut_alike p e (c ∷ s) = go (p c) (dot_alike p e s) (cut_alike p e s)
    where
      go : (b : Bool) → begins_with (46 ∷ []) (run_of p (s ++ dotted u)) ≡ begins_with (46 ∷ []) (run_of p (s ++ dotted v))
          → before_dots (run_of p (s ++ dotted u)) ≡ before_dots (run_of p (s ++ dotted v))
          → before_dots (cond b (c ∷ run_of p (s ++ dotted u)) []) ≡ before_dots (cond b (c ∷ run_of p (s ++ dotted v)) [])
      go false k ih = refl
      go true k ih = ap₂ (λ b (t : Text). cond ((c == 46) && b) [] (c ∷ t)) k ih

  run_alike : (p : ℕ → Bool) → p 46 ≡ false → (s : Text) → run_of p (s ++ dotted u) ≡ run_of p (s ++ dotted v)
  run_alike p e [] = rw e refl
  run_alike p e (c ∷ s) = ap (λ t. cond (p c) (c ∷ t) []) (run_alike p e s)

  float_of : (s : Text) → nat_lt (length (run_of in_number (s ++ dotted u))) (length (before_dots (run_of in_float (s ++ dotted u))))
      ≡ nat_lt (length (run_of in_number (s ++ dotted v))) (length (before_dots (run_of in_float (s ++ dotted v))))
  float_of s = rw (run_alike in_number refl s, cut_alike in_float refl s) refl

  float_alike : (s : Text) → is_float (s ++ dotted u) ≡ is_float (s ++ dotted v)
  float_alike [] = float_of []
  float_alike (c ∷ s) = go ((c == 43) || (c == 45)) refl
    where
      go : (b : Bool) → ((c == 43) || (c == 45)) ≡ b → is_float (c ∷ (s ++ dotted u)) ≡ is_float (c ∷ (s ++ dotted v))
      go true k = rw k (float_of s)
      go false k = rw k (float_of (c ∷ s))

  digits_alike : (right : Text) → Digits (right ++ dotted u) (right ++ dotted v)
  digits_alike right = record { first = first right; base = λ t. rw (← append_assoc t right (dotted v), ← append_assoc t right (dotted u)) (base (t ++ right)) }
    where
      first : (right : Text) → begins in_number (right ++ dotted v) ≡ begins in_number (right ++ dotted u)
      first [] = refl
      first (c ∷ right) = refl

      base : (s : Text) → opens_base (s ++ dotted v) ≡ opens_base (s ++ dotted u)
      base [] = refl
      base (c ∷ []) = refl
      base (c ∷ d ∷ s) = refl

  no_suffix : (x : Suffix) → stands (suffix_word x) (dotted v) ≡ false
  no_suffix Suffix.i8 = refl
  no_suffix Suffix.i16 = refl
  no_suffix Suffix.i32 = refl
  no_suffix Suffix.i64 = refl
  no_suffix Suffix.i128 = refl
  no_suffix Suffix.u8 = refl
  no_suffix Suffix.u16 = refl
  no_suffix Suffix.u32 = refl
  no_suffix Suffix.u64 = refl
  no_suffix Suffix.u128 = refl

  suffix_over : (t : Text) (o : Option Suffix) → OptSuffix t (dotted u) o → OptSuffix t (dotted v) o
  unfolding unicode_ident
  suffix_over t (Some x) z = record { same = z.same; ends = refl; value = z.value }
  suffix_over t None z = (z.0, no_suffix)

  unsigned_over : (minus : Bool) (t : Text) (n : Numeral) → Unsigned minus t (dotted u) n → Unsigned minus t (dotted v) n
  unsigned_over minus t n z = record {
    value = z.value;
    left = z.left;
    right = z.right;
    split = z.split;
    first = magnitude_over z.left (z.right ++ dotted u) (z.right ++ dotted v) z.value (digits_alike z.right) z.first;
    second = record { value = z.second.value; spelled = suffix_over z.right z.second.value z.second.spelled; meant = z.second.meant };
  }

  number_over : (t : Text) (n : Numeral) → Number t (dotted u) n → Number t (dotted v) n
  number_over t n (inl z) = inl (record { rest = z.rest; split = z.split; spelled = unsigned_over false z.rest n z.spelled })
  number_over t n (inr (inl z)) = inr (inl (record { rest = z.rest; split = z.split; spelled = unsigned_over true z.rest n z.spelled }))
  number_over t n (inr (inr z)) = inr (inr (unsigned_over false t n z))

  integer_over : (t : Text) (n : Numeral) → AnyInteger t (dotted u) n → AnyInteger t (dotted v) n
  integer_over t n (inl z) = inl (steady_byte_numeral.over t (dotted u) (dotted v) n z)
  integer_over t n (inr z) = inr (number_over t n z)

  untyped_over : (t : Text) (n : Numeral) → UntypedInteger t (dotted u) n → UntypedInteger t (dotted v) n
  untyped_over t n z = (ap not (sym (float_alike t)) ∙ z.0, integer_over t n z.1)

-- ---- ranges

-- what may follow a value goes on with no range
abbrev goes_on : ℕ → Bool
goes_on c = starts_integer c || ((c == 46) || ((c == 61) || (c == 98)))

on_clear : Clear goes_on
on_clear = record {
  stop = (refl, refl, refl, refl, refl);
  range = (refl, (refl, (refl, (refl, (refl, tt)))));
  blank = (refl, refl, refl, refl, refl, refl);
  slash = refl;
  hash = refl;
}

pub on_ends : (next : Text) → FollowsValue next → begins goes_on next ≡ false
on_ends [] f = refl
on_ends (c ∷ s) f = go (goes_on c) refl
  where
    go : (b : Bool) → goes_on c ≡ b → b ≡ false
    go false e = refl
    go true e = let k = solid_class goes_on on_clear c s e in absurd (let x : true ≡ false = sym f ∙ ap ends_value k.1 ∙ k.0 in cc)

pub open_there : (next : Text) → begins goes_on next ≡ false → is_open next ≡ true
open_there [] e = refl
open_there (c ∷ s) e =
    let k = or_parts (starts_integer c) ((c == 46) || ((c == 61) || (c == 98))) e in
    let l = or_parts (c == 46) ((c == 61) || (c == 98)) k.1 in
    let m = or_parts (c == 61) (c == 98) l.1 in
    rw (m.0, m.1, k.0) refl

pub no_points_there : (next : Text) → begins goes_on next ≡ false → opens_points next ≡ false
no_points_there [] e = refl
no_points_there (c ∷ s) e =
    let k = or_parts (starts_integer c) ((c == 46) || ((c == 61) || (c == 98))) e in
    let l = or_parts (c == 46) ((c == 61) || (c == 98)) k.1 in
    rw l.0 refl

module _ (next other : Text) (fn : FollowsValue next) (fo : FollowsValue other) where
  number_moves : (t : Text) (n : Numeral) → UntypedInteger t next n → UntypedInteger t other n
  number_moves t n z = settled_integer.over t next other n (quiet_value next fn) (quiet_value other fo) z

  dots_move : (a : Option Numeral) (t : Text) (b : Interval) → Points a t next b → Points a t other b
  dots_move a t b z = record {
    rest = z.rest;
    split = z.split;
    spelled = record { rest = z.spelled.rest; split = z.spelled.split; spelled = go z.spelled.rest z.spelled.spelled };
  }
    where
      go : (t : Text) → Or (Behind 61 (Means UntypedInteger (up_to a true)))
          (Or (Means UntypedInteger (up_to a false)) (When is_open (Empty (range a false None)))) t next b
          → Or (Behind 61 (Means UntypedInteger (up_to a true))) (Or (Means UntypedInteger (up_to a false)) (When is_open (Empty (range a false None)))) t other
          b
      go t (inl y) = inl (record {
        rest = y.rest;
        split = y.split;
        spelled = record { value = y.spelled.value; spelled = number_moves y.rest y.spelled.value y.spelled.spelled; meant = y.spelled.meant };
      })
      go t (inr (inl y)) = inr (inl (record { value = y.value; spelled = number_moves t y.value y.spelled; meant = y.meant }))
      go t (inr (inr y)) = inr (inr (rw y.1.0 (open_there other (on_ends other fo)), y.1))

  behind_moves : (a : Numeral) (t : Text) (b : Interval) → BehindNumber a t next b → BehindNumber a t other b
  behind_moves a t b (inl z) = inl (dots_move (Some a) t b z)
  behind_moves a t b (inr z) = inr (rw z.1.0 (ap not (no_points_there other (on_ends other fo))), z.1)

  first_moves : (a : Numeral) (left right : Text) (b : Interval) → BehindNumber a right next b → UntypedInteger left (right ++ next) a
      → UntypedInteger left (right ++ other) a
  first_moves a left right b (inl z) h =
      rw (z.split, z.spelled.split) (untyped_over (z.spelled.rest ++ next) (z.spelled.rest ++ other) left a (rw (z.split, z.spelled.split) at h))
  first_moves a left right b (inr z) h = rw z.1.0 (number_moves left a (rw z.1.0 at h))

  pub interval_moves : (t : Text) (b : Interval) → NumberOrRange t next b → NumberOrRange t other b
  interval_moves t b (inl z) = inl (dots_move None t b z)
  interval_moves t b (inr z) = inr (record {
    value = z.value;
    left = z.left;
    right = z.right;
    split = z.split;
    first = first_moves z.value z.left z.right b z.second z.first;
    second = behind_moves z.value z.right b z.second;
  })

-- a number alone stands before what may follow a value
pub one_stands : (t next : Text) (n : Numeral) → UntypedInteger t next n → FollowsValue next → NumberOrRange t next (one n)
one_stands t next n z f = inr (record {
  value = n;
  left = t;
  right = [];
  split = sym (append-nil t);
  first = z;
  second = inr (ap not (no_points_there next (on_ends next f)), (refl, refl));
})
