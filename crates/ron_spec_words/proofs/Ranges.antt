-- Numbers and ranges without a type are read exactly.
use Rattle.std.proofs.Common.{eqb-true, ◌≡◌, ℕ, ◌==◌, Bool, true, false, not, [], ◌∷◌, ◌++◌, append_assoc, inl, inr, Option, Some, None, refl, ap}
use Rattle.std.proofs.lemmas.Bool.{or_parts, not-true}
use Rattle.std.proofs.Math.Bool.{or-true}
use Rattle.std.specs.Char.{is_ascii_digit}
use Rattle.unicode_ident.proofs.Computing.{unicode_ident}
use Rattle.ron_spec_words.specs.Characters.{Text, starts_name, continues_name}
use Rattle.ron_spec_words.specs.Runs.{is_at}
use Rattle.ron_spec_words.specs.Lang.{Lang, Empty, Behind, Means, Or, When}
use Rattle.ron_spec_words.specs.Reader.{got, give}
use Rattle.ron_spec_words.specs.Exact.{IsWordReader, Anything, FollowsValue}
use Rattle.ron_spec_words.specs.Directly.{Directly}
use Rattle.ron_spec_words.specs.Name.{opens_literal, Name, PlainIdentifier, UntypedName}
use Rattle.ron_spec_words.specs.Number.{Numeral}
use Rattle.ron_spec_words.specs.AnyInteger.{opens_integer, is_float, UntypedInteger}
use Rattle.ron_spec_words.specs.Scan.{token, Walk, here, Passes}
use Rattle.ron_spec_words.specs.Range.{Interval, one, range, up_to, is_open, Points, opens_points, BehindNumber, NumberOrRange, opens_interval, points}
use Rattle.ron_spec_words.specs.Range.{behind_number, number_or_range}
use Rattle.ron_spec_words.proofs.Words.{First, word_behind, word_choose, word_means, word_when, first_behind, first_or, first_means, first_when, first_run}
use Rattle.ron_spec_words.proofs.Exactly.{exact_give}
use Rattle.ron_spec_words.proofs.Classes.{apart, Solid, solid_mark}
use Rattle.ron_spec_words.proofs.Direct.{word_directly, first_directly, first_weaker}
use Rattle.ron_spec_words.proofs.AnyIntegers.{word_untyped_integer, any_integer_solid}
use Rattle.ron_spec_words.proofs.UntypedWords.{first_untyped_integer, Unnamed, unnamed_mark, unnamed_integer, identifier_no_integer}
use Rattle.ron_spec_words.proofs.Walks.{is_other, walk_token, walk_on}
use Rattle.ron_spec_words.proofs.TokenRuns.{value_ends}
use Rattle.ron_spec_words.proofs.WordsPass.{EndsRun, passes_untyped_before, passes_untyped_integer}

-- ---- exactness

word_give : {A : Type 0} (a : A) → IsWordReader (give a) (Empty a)
word_give a = record { sound = (exact_give a Anything).sound; complete = λ t next b l. record { answer = rw l.0 (ap (λ z. got z next) l.1) }; calm = λ s e. cc }

digit_no_equals : (c : ℕ) → is_ascii_digit c ≡ true → (c == 61) ≡ false
digit_no_equals c e = apart is_ascii_digit 61 c refl e

digit_no_point : (c : ℕ) → is_ascii_digit c ≡ true → (c == 46) ≡ false
digit_no_point c e = apart is_ascii_digit 46 c refl e

integer_no_equals : First (λ s. is_at 61 s ≡ false) UntypedInteger
integer_no_equals = first_untyped_integer _ (λ s. refl) (λ s. refl) (λ s. refl) (λ c s e. digit_no_equals c e)

integer_opens : First (λ s. opens_integer s ≡ true) UntypedInteger
integer_opens = first_untyped_integer _ (λ s. refl) (λ s. refl) (λ s. refl) (λ c s e. rw (apart is_ascii_digit 98 c refl e, e) refl)

integer_no_points : First (λ s. opens_points s ≡ false) UntypedInteger
integer_no_points = first_untyped_integer _ (λ s. refl) (λ s. refl) (λ s. refl) (λ c s e. rw (digit_no_point c e) refl)

open_first : {A : Type 0} (a : A) → First (λ s. is_open s ≡ true) (When is_open (Empty a))
open_first a = record { holds = λ t next b z. z.0 }

open_parts : (s : Text) → is_open s ≡ true → (is_at 61 s ≡ false) × (opens_integer s ≡ false)
open_parts s e = or_parts (is_at 61 s) (opens_integer s) (not-true _ e)

pub word_points : (a : Option Numeral) → IsWordReader (points a) (Points a)
word_points a = word_behind 46 _ _ (word_behind 46 _ _
    (word_choose (is_at 61) (first_behind _ 61 _ (λ s. refl))
    (first_or (first_means integer_no_equals) (first_weaker _ _ (λ s e. (open_parts s e).0) (open_first (range a false None))))
    (word_behind 61 _ _ (word_means (up_to a true) word_untyped_integer))
    (word_choose opens_integer (first_means integer_opens) (first_weaker _ _ (λ s e. (open_parts s e).1) (open_first (range a false None)))
    (word_means (up_to a false) word_untyped_integer)
    (word_when is_open (word_give (range a false None))))))

-- what points begin with
pub first_points : (P : Text → Type 0) (a : Option Numeral) → ((s : Text) → P (46 ∷ 46 ∷ s)) → First P (Points a)
first_points P a k = record { holds = λ t next b z. rw (z.split, z.spelled.split) (k (z.spelled.rest ++ next)) }

word_behind_number : (a : Numeral) → IsWordReader (behind_number a) (BehindNumber a)
word_behind_number a = word_choose opens_points (first_points _ (Some a) (λ s. refl)) (record { holds = λ t next b z. not-true (opens_points (t ++ next)) z.0 })
    (word_points (Some a)) (word_when (λ s. not (opens_points s)) (word_give (one a)))

pub word_number_or_range : IsWordReader number_or_range NumberOrRange
unfolding number_or_range
word_number_or_range = word_choose opens_points (first_points _ None (λ s. refl)) (first_directly integer_no_points) (word_points None)
    (word_directly _ _ _ _ word_untyped_integer word_behind_number)

-- ---- what they begin with

pub first_interval : (P : Text → Type 0) → ((s : Text) → P (46 ∷ 46 ∷ s)) → First P UntypedInteger → First P NumberOrRange
first_interval P k h = first_or (first_points P None k) (first_directly h)

pub integer_solid : First Solid UntypedInteger
integer_solid = first_when (λ s. not (is_float s)) any_integer_solid

pub interval_solid : First Solid NumberOrRange
interval_solid = first_interval Solid (λ s. solid_mark 46 (46 ∷ s) refl refl refl) integer_solid

no_point_starts : starts_name 46 ≡ false
unfolding unicode_ident
no_point_starts = refl

pub unnamed_interval : First Unnamed NumberOrRange
unnamed_interval = first_interval Unnamed (λ s. unnamed_mark 46 (46 ∷ s) no_point_starts refl) unnamed_integer

pub interval_opens : First (λ s. opens_interval s ≡ true) NumberOrRange
interval_opens = first_interval _ (λ s. refl) (first_weaker _ _ (λ s e. rw e (or-true (opens_points s))) integer_opens)

-- ---- walks

point_alone : (s : Text) → token (46 ∷ s) ≡ Some s
unfolding token unicode_ident
point_alone s = refl

equals_alone : (s : Text) → token (61 ∷ s) ≡ Some s
unfolding token unicode_ident
equals_alone s = refl

-- a walk that leaves what may follow where it is
record Goes {A : Type 0} (b : Bool) (L : Lang A) (F : Text → Type 0) : Type 0 where
  over : (d : ℕ) (t next : Text) (a : A) → L t next a → F next → Walk b d (t ++ next) d next

goes_behind : {A : Type 0} {b : Bool} {L : Lang A} {F : Text → Type 0} (c : ℕ) → is_other c ≡ true → ((s : Text) → token (c ∷ s) ≡ Some s) → Goes b L F
    → Goes b (Behind c L) F
goes_behind {b = b} c h k p = record {
  over = λ d t next a z f. rw z.split (walk_on (walk_token b d (c ∷ []) (z.rest ++ next) h (k (z.rest ++ next))) (p.over d z.rest next a z.spelled f));
}

goes_or : {A : Type 0} {b : Bool} {L M : Lang A} {F : Text → Type 0} → Goes b L F → Goes b M F → Goes b (Or L M) F
goes_or {A} {b} {L} {M} {F} h k = record { over = both }
  where
    both : (d : ℕ) (t next : Text) (a : A) → Or L M t next a → F next → Walk b d (t ++ next) d next
    both d t next a (inl z) f = h.over d t next a z f
    both d t next a (inr z) f = k.over d t next a z f

goes_means : {A B : Type 0} {b : Bool} {L : Lang A} {F : Text → Type 0} {f : A → Option B} → Goes b L F → Goes b (Means L f) F
goes_means h = record { over = λ d t next a z. h.over d t next z.value z.spelled }

goes_empty : {A : Type 0} {b : Bool} {F : Text → Type 0} (p : Text → Bool) (a : A) → Goes b (When p (Empty a)) F
goes_empty p a = record { over = λ d t next x z f. rw z.1.0 (here d next) }

-- an integer begins no gap
goes_integer : {b : Bool} {F : Text → Type 0} → Passes b UntypedInteger F → Goes b UntypedInteger F
goes_integer p = record { over = λ d t next n z f. p.over d t next n z f (integer_solid.holds t next n z).1 }

goes_points : {b : Bool} (a : Option Numeral) → Goes b (Points a) FollowsValue
goes_points a = goes_behind 46 refl point_alone (goes_behind 46 refl point_alone
    (goes_or (goes_behind 61 refl equals_alone (goes_means (goes_integer passes_untyped_integer)))
    (goes_or (goes_means (goes_integer passes_untyped_integer)) (goes_empty is_open (range a false None)))))

goes_behind_number : {b : Bool} (a : Numeral) → Goes b (BehindNumber a) FollowsValue
goes_behind_number a = goes_or (goes_points (Some a)) (goes_empty (λ s. not (opens_points s)) (one a))

point_ends : (s : Text) → EndsRun (46 ∷ s)
unfolding unicode_ident
point_ends s = refl

-- behind a number no run goes on
number_run : (a : Numeral) (t next : Text) (b : Interval) → BehindNumber a t next b → EndsRun next → EndsRun (t ++ next)
number_run a t next b (inl z) f = (first_points EndsRun (Some a) (λ s. point_ends (46 ∷ s))).holds t next b z
number_run a t next b (inr z) f = rw z.1.0 f

goes_number : {b : Bool} → Goes b (Directly UntypedInteger BehindNumber) FollowsValue
goes_number {b} = record {
  over = λ d t next x z f.
      let p : Goes b UntypedInteger EndsRun = goes_integer passes_untyped_before in
      let k : Goes b (BehindNumber z.value) FollowsValue = goes_behind_number z.value in
      rw (z.split, append_assoc z.left z.right next)
      (walk_on (p.over d z.left (z.right ++ next) z.value z.first (number_run z.value z.right next x z.second (value_ends next f)))
      (k.over d z.right next x z.second f));
}

pub passes_number_or_range : {b : Bool} → Passes b NumberOrRange FollowsValue
passes_number_or_range {b} = record { over = λ d t next x z f n. go.over d t next x z f }
  where
    go : Goes b NumberOrRange FollowsValue
    go = goes_or (goes_points None) goes_number

-- ---- where none begins

no_interval : (s : Text) → opens_points s ≡ false → opens_integer s ≡ false → opens_interval s ≡ false
no_interval s e f = rw (e, f) refl

identifier_no_points : First (λ s. opens_points s ≡ false) PlainIdentifier
identifier_no_points =
    first_when (λ s. not (opens_literal s)) (first_run _ starts_name continues_name (λ c s e. rw (apart starts_name 46 c no_point_starts e) refl))

identifier_no_interval : First (λ s. opens_interval s ≡ false) PlainIdentifier
identifier_no_interval =
    record { holds = λ t next n z. no_interval (t ++ next) (identifier_no_points.holds t next n z) (identifier_no_integer.holds t next n z) }

-- where a name stands
pub name_no_interval : First (λ s. opens_interval s ≡ false) Name
name_no_interval = first_or (first_behind _ 114 _ (λ s. refl)) (record { holds = λ t next n z. identifier_no_interval.holds t next n (z.0, z.1.spelled) })

pub untyped_name_no_interval : First (λ s. opens_interval s ≡ false) UntypedName
untyped_name_no_interval = first_or (first_behind _ 114 _ (λ s. refl)) (first_means identifier_no_interval)

-- where a closing parenthesis does
pub close_no_interval : (s : Text) → is_at 41 s ≡ true → opens_interval s ≡ false
close_no_interval [] e = refl
close_no_interval (c ∷ s) e = let same : c ≡ 41 = eqb-true c 41 e in rw same refl
