-- Where an integer begins, and what may stand right behind one as most are spelled.
use Rattle.std.specs.Prelude.{◌≡◌, ◌==◌, ◌&&◌, ◌||◌, Bool, true, ℕ, [], ◌∷◌, chars}
use Rattle.std.specs.Char.{is_ascii_hexdigit}
use Rattle.ron_spec_words.specs.Characters.{Text, carriage_return, colon, comma, line_feed, minus, right_brace, right_bracket, right_parenthesis, space, tab}
use Rattle.ron_spec_words.specs.Runs.{begins, is_at, after_run}
use Rattle.ron_spec_words.specs.AnyInteger.{past_sign, is_float}
use Rattle.ron_lex_text.specs.Stretch.{IsSuffix}
use Rattle.ron_lex.specs.Numeral.{base_at, past_base, digits_on}
use Rattle.ron_lex.specs.Untyped.{passes_digits, in_both}
use Rattle.ron_lex.specs.declared.plain.Begun.{Begun}

-- an integer was begun at the start of this text
pub record IsBegun (s : Text) (begun : Begun) : Type 0 where
  pub sign : begun.is_negative ≡ is_at minus s
  pub base : begun.base ≡ base_at (past_sign s)
  pub digits : chars begun.digits.now ≡ past_base (past_sign s)
  pub so_far : digits_on begun.base begun.start (chars begun.behind.now) ≡ digits_on begun.base 0 (chars begun.digits.now)
  pub end : IsSuffix (chars begun.behind.now) (chars begun.digits.now)
  pub both : after_run in_both (chars begun.behind.now) ≡ after_run in_both (chars begun.digits.now)
  pub float : is_float s ≡ (begun.base == 10) && passes_digits (chars begun.behind.now)

-- a comma, a closing bracket, a colon or a blank, none of which an integer or a float holds
abbrev pub is_behind_plain : ℕ → Bool
is_behind_plain c = (c == comma) || ((c == right_parenthesis)
    || ((c == right_bracket) || ((c == right_brace) || ((c == colon) || ((c == space) || ((c == line_feed) || ((c == carriage_return) || (c == tab))))))))

-- one of these stands here, or nothing
abbrev pub ends_plain : Text → Bool
ends_plain [] = true
ends_plain (c ∷ s) = is_behind_plain c

-- what was begun is all of the integer: a digit stands there, and right behind those that are gone over nothing that goes on
abbrev pub is_plain : Begun → Bool
is_plain begun = ends_plain (chars begun.behind.now) && begins is_ascii_hexdigit (chars begun.digits.now)
