-- Where whole tokens lead in a text, and what stands behind the opening brackets there.
use Rattle.std.specs.Prelude.{◌≡◌, ℕ, zero, suc, ◌-◌, true, if◌then◌else◌, List, [], ◌∷◌, ◌++◌, map, length, Contains, Some, option_map}
use Rattle.std.specs.Option.{unwrap_or}
use Rattle.std.specs.List.Sorted.{IsNonDecreasing}
use Rattle.ron_spec_words.specs.Characters.{Text}
use Rattle.ron_spec_words.specs.Gap.{skip}
use Rattle.ron_spec_words.specs.Scan.{token, is_opening}
use Rattle.ron_spec_words.specs.Kind.{kind}
use Rattle.ron_spec_words.specs.KindTable.{kinds}
use Rattle.ron_spec_words.specs.Beyond.{bytes_in}

-- Whole tokens lead from the one place of a text to the other.
pub data Leads : Text → Text → Type 0 where
  same : (s : Text) → Leads s s
  past : (s next u : Text) → token s ≡ Some next → Leads next u → Leads s u

-- Whole tokens lead to an opening bracket, and what it holds begins there: behind it and the gap behind it.
pub record BeginsContent (s content : Text) : Type 0 where
  pub bracket : ℕ
  pub inside : Text
  pub opens : is_opening bracket ≡ true
  pub leads : Leads s (bracket ∷ inside)
  pub begins : content ≡ skip inside

-- What stands behind the opening brackets in their order, up to the first broken token. The number counts characters of a token that are still to be passed.
unfoldable pub insides_from : ℕ → Text → List Text
insides_from k [] = []
insides_from (suc k) (c ∷ s) = insides_from k s
insides_from zero (c ∷ s) = unwrap_or (option_map (λ rest. (if is_opening c then s ∷ [] else []) ++ insides_from (length s - length rest) s) (token (c ∷ s))) []

abbrev pub insides : Text → List Text
insides s = insides_from zero s

-- how many bytes of a text stand before the content that begins behind a bracket and the gap behind it
abbrev pub content_place : Text → Text → ℕ
content_place text inside = bytes_in text - bytes_in (skip inside)

-- ---- what is claimed of it

-- The kinds are those of what stands behind the brackets.
abbrev pub AreKindsOfInsides : Type 0
AreKindsOfInsides = (s : Text) → kinds s ≡ map kind (insides s)

-- Where whole tokens lead to content, what stands behind its bracket is among them.
abbrev pub FindsContent : Type 0
FindsContent = (s content : Text) (h : BeginsContent s content) → Contains (insides s) h.inside

-- Each of them is an end of the text.
abbrev pub AreEnds : Type 0
AreEnds = (s inside : Text) → Contains (insides s) inside → (front : Text) × (s ≡ front ++ inside)

-- They stand in their order: no content begins before that of an earlier bracket.
abbrev pub AreInOrder : Type 0
AreInOrder = (s : Text) → IsNonDecreasing (map (content_place s) (insides s))
