-- Numbers without a type and ranges of them: two points with a number before them, behind them or both, and no gap within.
--
-- A number and a range are one word. Were they two, a number would be exact only before what is no point, and what
-- follows a value would have to say so everywhere. As one word it is exact whatever follows: where points stand, they
-- belong to it. So `1..2` is never the integer 1 with a rest, and an integer shape, whose own word is the integer, is
-- followed by points only where it is refused.
use Rattle.std.specs.Prelude.{Bool, true, false, not, ◌||◌, codes, Option, Some, None}
use Rattle.ron_spec_words.specs.Characters.{Text, dot, equals_sign}
use Rattle.ron_spec_words.specs.Runs.{is_at, begins_with}
use Rattle.ron_spec_words.specs.Lang.{Lang, Empty, Behind, Means, Or, When}
use Rattle.ron_spec_words.specs.Reader.{bad, Reader, fail, give, behind, means, pick}
use Rattle.ron_spec_words.specs.Directly.{Directly, directly}
use Rattle.ron_spec_words.specs.Number.{Numeral}
use Rattle.ron_spec_words.specs.AnyInteger.{opens_integer, UntypedInteger, untyped_integer}

-- a number alone; or a range, by its start, whether it is closed, as by `..=`, and its end
pub data Interval : Type 0 where
  one : Numeral → Interval
  range : Option Numeral → Bool → Option Numeral → Interval

-- a range up to a number
abbrev pub up_to : Option Numeral → Bool → Numeral → Option Interval
up_to start closed end = Some (range start closed (Some end))

-- Points stand alone only where nothing goes on. `..` before `=` or before what begins a number is the beginning of a
-- longer word, so `1..` is one only where neither follows (`is_open`). A sign begins a number: `..-x` is no range
-- with a rest.
--
-- Neither `=` nor a number follows, so that points stand alone.
abbrev pub is_open : Text → Bool
is_open s = not (is_at equals_sign s || opens_integer s)

-- behind the start, if there is one: `..=` and a number, `..` and a number, or `..` alone
abbrev pub Points : Option Numeral → Lang Interval
Points start = Behind 46 (Behind 46
    (Or (Behind 61 (Means UntypedInteger (up_to start true))) (Or (Means UntypedInteger (up_to start false)) (When is_open (Empty (range start false None))))))

-- two points stand here
abbrev pub opens_points : Text → Bool
opens_points s = begins_with (codes "..") s

-- behind a number: points, or nothing where none follow
abbrev pub BehindNumber : Numeral → Lang Interval
BehindNumber n = Or (Points (Some n)) (When (λ s. not (opens_points s)) (Empty (one n)))

-- a number, or a range in one of its six forms
abbrev pub NumberOrRange : Lang Interval
NumberOrRange = Or (Points None) (Directly UntypedInteger BehindNumber)

-- ---- its reader function

-- two points or an integer begin here
abbrev pub opens_interval : Text → Bool
opens_interval s = opens_points s || opens_integer s

abbrev pub points : Option Numeral → Reader Interval
points start = behind dot (behind dot (pick (is_at equals_sign) (behind equals_sign (means untyped_integer (up_to start true)))
    (pick opens_integer (means untyped_integer (up_to start false)) (pick is_open (give (range start false None)) (fail bad)))))

abbrev pub behind_number : Numeral → Reader Interval
behind_number n = pick opens_points (points (Some n)) (pick (λ s. not (opens_points s)) (give (one n)) (fail bad))

unfoldable pub number_or_range : Reader Interval
number_or_range = pick opens_points (points None) (directly untyped_integer behind_number)
