-- The lookahead that tells what stands between `(` and `)`, where no type does: fields by the first name, several items by the first comma.
--
-- What is broken ends the lookahead. Where a literal or a comment is left open before the first comma, no several
-- items are found; reading refuses such a text in any case. What is broken behind that comma doesn't count. A comma
-- at the end of the text separates, and reading then refuses.
use Rattle.std.specs.Prelude.{◌≡◌, ◌↔◌, ℕ, zero, suc, ◌-◌, Bool, true, false, not, ◌&&◌, if◌then◌else◌, drop, length, [], ◌∷◌, option_map}
use Rattle.std.specs.Option.{unwrap_or}
use Rattle.ron_spec_words.specs.Characters.{Text, comma, colon, left_parenthesis, right_parenthesis}
use Rattle.ron_spec_words.specs.Runs.{is_at}
use Rattle.ron_spec_words.specs.Gap.{skip}
use Rattle.ron_spec_words.specs.Reader.{Got, got, failed}
use Rattle.ron_spec_words.specs.Name.{name, untyped_name}
use Rattle.ron_spec_words.specs.Scan.{token, level, ends, Walk}

-- ---- by the first name

-- behind what is answered and a gap, this character stands
abbrev pub leads_to : {A : Type 0} → ℕ → Got A → Bool
leads_to c (got a rest) = is_at c (skip rest)
leads_to c (failed f) = false

-- a name, a gap and `:`
unfoldable pub opens_field : Text → Bool
opens_field s = leads_to colon (name s)

-- a name that is no word of a value, a gap and `(`
unfoldable pub opens_named_group : Text → Bool
opens_named_group s = leads_to left_parenthesis (untyped_name s)

-- ---- by the first comma

-- The text from the first token on that ends what stands outside all brackets, a comma or a closing bracket. Nothing, where the text ends or a token is broken
-- before. The first number counts characters of a token that are still to be passed, the second open brackets.
unfoldable pub seek : ℕ → ℕ → Text → Text
seek k d [] = []
seek (suc k) d (c ∷ s) = seek k d s
seek zero d (c ∷ s) = if ends false d c then c ∷ s else unwrap_or (option_map (λ rest. seek (length s - length rest) (level d c) s) (token (c ∷ s))) []

-- a comma, and behind it more than a gap and `)`
abbrev pub separates : Text → Bool
separates s = is_at comma s && not (is_at right_parenthesis (skip (drop 1 s)))

-- The first comma outside all brackets separates items.
unfoldable pub holds_several : Text → Bool
holds_several s = separates (seek zero zero s)

-- ---- what is claimed of it

-- Several items stand here: whole tokens lead to a comma outside all brackets, and more than a gap and `)` stands behind it. A walk passes no such comma, so it
-- is the first one.
pub record HoldsSeveral (s : Text) : Type 0 where
  pub rest : Text
  pub walk : Walk false 0 s 0 (comma ∷ rest)
  pub more : is_at right_parenthesis (skip rest) ≡ false

-- The lookahead answers so exactly there.
abbrev pub TellsSeveral : Type 0
TellsSeveral = (s : Text) → (holds_several s ≡ true) ↔ HoldsSeveral s
