-- What the code's words for places mean, and what the pass over a text keeps.
use Rattle.std.specs.Prelude.{◌≡◌, Bool, ◌++◌, chars}
use Rattle.ron_spec_words.specs.Characters.{Text}
use Rattle.ron_format_words.specs.Alike.{Before, a_parenthesis, a_mark, an_end, a_word}
use Rattle.ron_format_words.specs.Places.{Place, in_head, in_attribute, in_body, commas_in}
use Rattle.ron_format_words.specs.Edge.{IsEdge, IsGranted}
use Rattle.ron_spec_words.specs.Gap.{skip}
use Rattle.ron_format_words.specs.Written.{WrittenToEdge, WrittenToWord}
use Rattle.ron_lex_text.specs.Stretch.{IsSuffix}
use Rattle.ron_format.specs.Whole.{IsWholeOn}
use Rattle.ron_format.specs.declared.place.Before.{Before as CodeBefore}
use Rattle.ron_format.specs.declared.place.Before.TheVariants.{Parenthesis, Mark, End, Word}
use Rattle.ron_format.specs.declared.place.Place.{Place as CodePlace}
use Rattle.ron_format.specs.declared.place.Place.TheVariants.{Head, Attribute, Body}
use Rattle.ron_format.specs.declared.place.Spot.{Spot}
use Rattle.ron_format.specs.declared.grant.Around.{Around}
use Rattle.ron_format.specs.declared.formatting.Next.{Next}

-- what stands before an edge
abbrev pub before_view : CodeBefore → Before
before_view Parenthesis = a_parenthesis
before_view Mark = a_mark
before_view End = an_end
before_view Word = a_word

-- where a word stands
abbrev pub place_view : CodePlace → Place
place_view Head = in_head
place_view Attribute = in_attribute
place_view Body = in_body

-- whether last commas may come and go there, before the rest
abbrev pub commas_at : CodePlace → Text → Bool
commas_at place rest = commas_in (place_view place) rest

-- from the old text to the new one something was put that may stand in the edge's place
pub record PutsGranted (old new : Text) (around : Around) (edge : Text) : Type 0 where
  pub given : Text
  pub is : new ≡ old ++ given
  pub granted : IsGranted (commas_at around.spot.place (chars around.rest.now)) (before_view around.spot.before) edge given (chars around.rest.now)

-- the text begins with an edge that this rest follows
pub record BeginsWithEdge (s rest : Text) : Type 0 where
  pub edge : Text
  pub split : s ≡ edge ++ rest
  pub is_edge : IsEdge edge rest

-- The text begins with an edge at this spot. From the old text to the new one something was put in its place, and the next word or mark follows it.
pub record PassesEdge (spot : Spot) (s old new : Text) (next : Next) : Type 0 where
  pub goes_on : (text : Text)
      → WrittenToEdge (place_view spot.place) (before_view spot.before) text old s
      → WrittenToWord (place_view next.place) text new (chars next.rest.now)
  pub longest : skip (chars next.rest.now) ≡ chars next.rest.now
  pub ends : IsSuffix (chars next.rest.now) s
  pub whole : IsWholeOn s → IsWholeOn (chars next.rest.now)
