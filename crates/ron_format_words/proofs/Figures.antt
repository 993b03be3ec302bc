-- Numbers and ranges in texts of the same words.
use Rattle.std.proofs.Common.{◌≡◌, ℕ, Bool, true, false, not, ◌||◌, ◌==◌, if◌then◌else◌, [], ◌∷◌, ◌++◌, Some, None, Option, inl, inr, refl, sym, ap, ◌∙◌, codes}
use Rattle.std.proofs.Common.{length, nat_lt}
use Rattle.std.specs.Char.{is_ascii_hexdigit}
use Rattle.unicode_ident.proofs.Computing.{unicode_ident}
use Rattle.ron_spec_words.specs.Characters.{Text, continues_name}
use Rattle.ron_spec_words.specs.Runs.{begins, run_of}
use Rattle.ron_spec_words.specs.Lang.{Means}
use Rattle.ron_spec_words.specs.Exact.{FollowsValue}
use Rattle.ron_spec_words.specs.Number.{Suffix, suffix_word, OptSuffix, in_number, InBase, opens_base, Magnitude, Numeral, Unsigned, Number, i8, i16, i32, i64}
use Rattle.ron_spec_words.specs.Number.{i128, u8, u16, u32, u64, u128}
use Rattle.ron_spec_words.specs.AnyInteger.{AnyInteger, UntypedInteger, is_float, in_float, past_sign, before_dots, opens_integer, starts_integer}
use Rattle.ron_spec_words.specs.Range.{Interval, Points, BehindNumber, NumberOrRange, is_open, opens_points}
use Rattle.ron_spec_words.specs.Scan.{token}
use Rattle.ron_spec_words.proofs.Words.{First, first_behind, first_means, first_or, first_when}
use Rattle.ron_spec_words.proofs.Direct.{first_directly}
use Rattle.ron_spec_words.proofs.Numbers.{first_magnitude}
use Rattle.ron_spec_words.proofs.LiteralStarts.{first_byte, first_number}
use Rattle.ron_spec_words.proofs.Classes.{apart, Clear, no_blank}
use Rattle.ron_spec_words.proofs.Tokens.{token_byte}
use Rattle.ron_spec_words.proofs.TokenRuns.{token_unsigned, value_ends}
use Rattle.ron_format_words.specs.Alike.{is_solid}
use Rattle.ron_format_words.specs.Near.{MovesWord, MovesNear}
use Rattle.ron_format_words.proofs.Steps.{Within}
use Rattle.ron_format_words.proofs.Ahead.{All, front, Sees, seen_same, sees_begins, sees_with, one_within}
use Rattle.ron_format_words.proofs.Free.{free_byte, Stable, stable_free, stable_run, stable_behind, stable_means, stable_or, stable_when, stable_directly}
use Rattle.ron_format_words.proofs.Free.{stable_fixed, sees_not}
use Rattle.ron_format_words.proofs.Near.{Opening, word_token, word_means, word_or, word_when, word_before, word_behind, word_directly, near_word, near_empty}
use Rattle.ron_format_words.proofs.Near.{near_or, sees_or, sees_run, sees_stands}

-- ---- classes

within_clear : (p : ℕ → Bool) → Clear p → (p 40 ≡ false) × (p 91 ≡ false) × (p 123 ≡ false) → Within p
within_clear p k o c h =
    rw (
      no_blank p k c h,
      apart p 47 c k.slash h,
      apart p 44 c k.stop.0 h,
      apart p 58 c k.stop.1 h,
      apart p 41 c k.stop.2 h,
      apart p 93 c k.stop.3 h,
      apart p 125 c k.stop.4 h,
      apart p 40 c o.0 h,
      apart p 91 c o.1 h,
      apart p 123 c o.2 h,
    ) refl

number_within : Within in_number
number_within = within_clear in_number (record {
  stop = (refl, refl, refl, refl, refl);
  range = (refl, (refl, (refl, (refl, (refl, tt)))));
  blank = (refl, refl, refl, refl, refl, refl);
  slash = refl;
  hash = refl;
}) (refl, refl, refl)

float_within : Within in_float
float_within = within_clear in_float (record {
  stop = (refl, refl, refl, refl, refl);
  range = (refl, (refl, (refl, (refl, (refl, tt)))));
  blank = (refl, refl, refl, refl, refl, refl);
  slash = refl;
  hash = refl;
}) (refl, refl, refl)

starts_within : Within starts_integer
starts_within = within_clear starts_integer (record {
  stop = (refl, refl, refl, refl, refl);
  range = (refl, (refl, (refl, (refl, (refl, tt)))));
  blank = (refl, refl, refl, refl, refl, refl);
  slash = refl;
  hash = refl;
}) (refl, refl, refl)

sign_within : (c : ℕ) → ((c == 43) || (c == 45)) ≡ true → is_solid c ≡ true
sign_within =
    within_clear (λ c. (c == 43) || (c == 45))
    (record {
      stop = (refl, refl, refl, refl, refl);
      range = (refl, (refl, (refl, (refl, (refl, tt)))));
      blank = (refl, refl, refl, refl, refl, refl);
      slash = refl;
      hash = refl;
    }) (refl, refl, refl)

-- ---- tests

sees_base : Sees opens_base
sees_base =
    sees_or (sees_with (codes "0b") (refl, (refl, tt))) (sees_or (sees_with (codes "0o") (refl, (refl, tt))) (sees_with (codes "0x") (refl, (refl, tt))))

sees_points : Sees opens_points
sees_points = sees_with (codes "..") (refl, (refl, tt))

sees_integer : Sees opens_integer
sees_integer = sees_or (sees_with (codes "b'") (refl, (refl, tt))) (sees_begins starts_integer starts_within)

sees_open : Sees is_open
sees_open = sees_not (sees_or (sees_begins (λ c. c == 61) (one_within 61 refl)) sees_integer)

kept : (c : ℕ) (s : Text) → is_solid c ≡ true → front (c ∷ s) ≡ c ∷ front s
kept c s e = rw e refl

none_left : (c : ℕ) (s : Text) → is_solid c ≡ false → front (c ∷ s) ≡ []
none_left c s e = rw e refl

-- what a sign leaves of the front is the front of what it leaves of the text
sign_front : (p : ℕ → Bool) → Within p → Sees (λ s. run_of p (past_sign s))
sign_front p w = record { at = at }
  where
    at : (s : Text) → run_of p (past_sign s) ≡ run_of p (past_sign (front s))
    at [] = refl
    at (c ∷ s) = go (is_solid c) refl ((c == 43) || (c == 45)) refl
      where
        go : (b : Bool) → is_solid c ≡ b → (m : Bool) → ((c == 43) || (c == 45)) ≡ m
            → run_of p (if m then s else c ∷ s) ≡ run_of p (past_sign (if b then c ∷ front s else []))
        go true e true l = rw l ((sees_run p w).at s)
        go true e false l = rw l ((sees_run p w).at (c ∷ s) ∙ ap (run_of p) (kept c s e))
        go false e true l = absurd (let y = sign_within c l in cc)
        go false e false l = (sees_run p w).at (c ∷ s) ∙ ap (run_of p) (none_left c s e)

sees_float : Sees is_float
sees_float = record {
  at = λ s.
      ap (λ x. nat_lt (length x) (length (before_dots (run_of in_float (past_sign s))))) ((sign_front in_number number_within).at s)
      ∙ ap (λ x. nat_lt (length (run_of in_number (past_sign (front s)))) (length (before_dots x))) ((sign_front in_float float_within).at s);
}

-- ---- integers

suffix_solid : (x : Suffix) → All is_solid (suffix_word x)
suffix_solid i8 = (refl, (refl, tt))
suffix_solid i16 = (refl, (refl, (refl, tt)))
suffix_solid i32 = (refl, (refl, (refl, tt)))
suffix_solid i64 = (refl, (refl, (refl, tt)))
suffix_solid i128 = (refl, (refl, (refl, (refl, tt))))
suffix_solid u8 = (refl, (refl, tt))
suffix_solid u16 = (refl, (refl, (refl, tt)))
suffix_solid u32 = (refl, (refl, (refl, tt)))
suffix_solid u64 = (refl, (refl, (refl, tt)))
suffix_solid u128 = (refl, (refl, (refl, (refl, tt))))

stable_suffix : Stable OptSuffix
stable_suffix = record { at = at }
  where
    at : (t next u : Text) (a : Option Suffix) → OptSuffix t next a → front next ≡ front u → OptSuffix t u a
    at t next u (Some x) z e = (stable_fixed (suffix_word x) x).at t next u x z e
    at t next u None z e = (z.0, λ x. sym (seen_same (sees_stands (suffix_word x) (suffix_solid x)) {s = next} {u = u} e) ∙ z.1 x)

stable_base : (base : ℕ) → Stable (InBase base)
stable_base base = stable_means (stable_run is_ascii_hexdigit in_number number_within)

stable_magnitude : Stable Magnitude
stable_magnitude =
    stable_or (stable_behind (stable_behind (stable_base 2))) (stable_or (stable_behind (stable_behind (stable_base 8)))
    (stable_or (stable_behind (stable_behind (stable_base 16))) (stable_when (sees_not sees_base) (stable_base 10))))

stable_unsigned : (minus : Bool) → Stable (Unsigned minus)
stable_unsigned minus = stable_directly stable_magnitude (λ n. stable_means stable_suffix)

hex_opening : (c : ℕ) (s : Text) → is_ascii_hexdigit c ≡ true → Opening (c ∷ s)
hex_opening c s e = number_within c (rw e refl)

unsigned_opening : (minus : Bool) → First Opening (Unsigned minus)
unsigned_opening minus = first_directly (first_magnitude Opening hex_opening)

abbrev pub EndsRun : Text → Type 0
EndsRun next = begins continues_name next ≡ false

alone : ((s : Text) → token (43 ∷ s) ≡ Some s) × ((s : Text) → token (45 ∷ s) ≡ Some s) × ((s : Text) → token (46 ∷ s) ≡ Some s)
    × ((s : Text) → token (61 ∷ s) ≡ Some s)
unfolding token unicode_ident
alone = (λ s. refl, λ s. refl, λ s. refl, λ s. refl)

integer_opening : First Opening UntypedInteger
integer_opening =
    first_when (λ s. not (is_float s)) (first_or (first_means (first_byte Opening (λ s. refl))) (first_number Opening (λ s. refl) (λ s. refl) hex_opening))

point_ends : continues_name 46 ≡ false
unfolding unicode_ident
point_ends = refl

module _ {commas : Text → Bool} where
  word_unsigned : (minus : Bool) → MovesWord commas (Unsigned minus) EndsRun
  word_unsigned minus = word_token (unsigned_opening minus) (λ t next n z f. token_unsigned minus t next n z f) (stable_unsigned minus)

  pub word_number : MovesWord commas Number EndsRun
  word_number = word_or (word_behind 43 refl alone.0 (near_word (unsigned_opening false) (word_unsigned false)))
      (word_or (word_behind 45 refl alone.1 (near_word (unsigned_opening true) (word_unsigned true))) (word_unsigned false))

  pub word_any_integer : MovesWord commas AnyInteger EndsRun
  word_any_integer =
      word_or (word_means (word_token (first_byte Opening (λ s. refl)) (λ t next a z f. token_byte t next a z) (stable_free free_byte))) word_number

  pub word_untyped_integer : MovesWord commas UntypedInteger EndsRun
  word_untyped_integer = word_when (sees_not sees_float) word_any_integer

  -- ---- ranges

  near_end : {B : Type 0} (f : Numeral → Option B) → MovesNear commas (Means UntypedInteger f) FollowsValue
  near_end f = near_word (first_means integer_opening) (word_means (word_before EndsRun FollowsValue value_ends word_untyped_integer))

  word_points : (start : Option Numeral) → MovesWord commas (Points start) FollowsValue
  word_points start = word_behind 46 refl alone.2 (near_word (first_behind Opening 46 _ (λ s. refl)) (word_behind 46 refl alone.2
      (near_or (near_word (first_behind Opening 61 _ (λ s. refl)) (word_behind 61 refl alone.3 (near_end _)))
      (near_or (near_end _) (near_empty is_open _ sees_open)))))

  near_behind : (n : Numeral) → MovesNear commas (BehindNumber n) FollowsValue
  near_behind n =
      near_or (near_word (first_behind Opening 46 _ (λ s. refl)) (word_points (Some n))) (near_empty (λ s. not (opens_points s)) _ (sees_not sees_points))

  pub word_number_or_range : MovesWord commas NumberOrRange FollowsValue
  word_number_or_range = word_or (word_points None) (word_directly word_untyped_integer near_behind follows)
    where
      follows : (n : Numeral) (right next : Text) (b : Interval) → BehindNumber n right next b → FollowsValue next → EndsRun (right ++ next)
      follows n right next b (inl z) f = rw z.split point_ends
      follows n right next b (inr z) f = rw z.1.0 (value_ends next f)
