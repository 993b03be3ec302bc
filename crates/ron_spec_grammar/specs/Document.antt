-- Whole texts.
--
-- A head and a body. The plain rule has a gap, attributes with gaps between and behind them, a value and a gap. Here
-- each attribute takes the gap before it, and what is left is a body: a gap, a value and a gap, as in a text with no
-- attributes. The pairs are the same, since it is one list of gaps and attributes split at other places. So the laws
-- of bodies stand as they are, and those of documents need one fact more. A body begins with no `#` behind its gap
-- (`no_hash`), as what begins a value is never a slash, a blank or a mark (`Solid`), so no text has two heads
-- (`EndsHead`). The announced sets are a list in the order of the text; what is in force is their union with the
-- default ones, whatever the order.
use Rattle.std.specs.Prelude.{◌≡◌, ℕ, zero, suc, Bool, true, false, if◌then◌else◌, List, [], ◌∷◌, ◌++◌, length, ◌==◌}
use Rattle.ron_spec_words.specs.Characters.{Text}
use Rattle.ron_spec_words.specs.Gap.{Gap, LongGap, skip}
use Rattle.ron_spec_words.specs.Reader.{Fault, deep, bad, Got, got, failed, after_gap}
use Rattle.ron_spec_words.specs.Runs.{is_ended}
use Rattle.ron_spec_grammar.specs.Data.{Data}
use Rattle.ron_spec_grammar.specs.Schema.{Shape}
use Rattle.ron_spec_grammar.specs.Rule.{Extensions}
use Rattle.ron_spec_grammar.specs.Attribute.{Head, in_force, head as read_head}
use Rattle.ron_spec_grammar.specs.Grammar.{SpellsAt}
use Rattle.ron_spec_grammar.specs.Reading.{read_at}
use Rattle.ron_spec_grammar.specs.Room.{enough}

-- The body of a document is a gap, a value to a depth of at most `limit`, and a gap.
pub record BodyAt (at_start : Bool) (x : Extensions) (schema : List Shape) (root limit : ℕ) (text : Text) (d : Data) : Type 0 where
  pub before : Text
  pub value : Text
  pub after : Text
  pub split : text ≡ before ++ (value ++ after)
  pub is_before : LongGap before (value ++ after)
  pub spelled : SpellsAt at_start x schema limit false root before value after d
  pub is_after : Gap after []

-- a body as a whole text: nothing but its gap stands before its value
abbrev pub Body : Extensions → List Shape → ℕ → ℕ → Text → Data → Type 0
Body = BodyAt true

-- A document is a head, whose attributes announce extensions, and a body under what is then in force.
pub record Document (x : Extensions) (schema : List Shape) (root limit : ℕ) (text : Text) (d : Data) : Type 0 where
  pub announced : List Extensions
  pub head : Text
  pub body : Text
  pub split : text ≡ head ++ body
  pub is_head : Head announced head body
  pub is_body : BodyAt (is_ended head) (in_force x announced) schema root limit body d

-- what reading a whole text answers
pub data Answer : Type 0 where
  ok : Data → Answer
  err : Fault → Answer

-- the data, where the text has ended
abbrev pub at_end : Data → Text → Answer
at_end d [] = ok d
at_end d (c ∷ s) = err bad

-- a value is a whole text where only a gap follows it
abbrev pub whole : Got Data → Answer
whole (got d rest) = at_end d (skip rest)
whole (failed f) = err f

-- reads a body
unfoldable pub answer_at : Bool → Extensions → List Shape → ℕ → ℕ → Text → Answer
answer_at at_start x schema root limit text = whole (after_gap (read_at at_start x schema limit false root) text)

-- as a whole text
abbrev pub answer : Extensions → List Shape → ℕ → ℕ → Text → Answer
answer = answer_at true

-- what is read of the body, by what is in force behind the head
abbrev pub behind_head : Got Extensions → (Extensions → Text → Answer) → Answer
behind_head (got y body) q = q y body
behind_head (failed f) q = err f

-- reads a document
unfoldable pub answer_document : Extensions → List Shape → ℕ → ℕ → Text → Answer
answer_document x schema root limit text = behind_head (read_head x text) (λ y body. answer_at (length body == length text) y schema root limit body)

-- ---- the depth of a body and of a document

-- it is too deep
abbrev pub is_deep : Answer → Bool
is_deep (ok d) = false
is_deep (err deep) = true
is_deep (err bad) = false

-- the first number from n on that fails the test, in so many steps
abbrev pub first_failing : (ℕ → Bool) → ℕ → ℕ → ℕ
first_failing test zero n = n
first_failing test (suc fuel) n = if test n then first_failing test fuel (suc n) else n

-- the depth of a body: the least limit within which reading it is not too deep
unfoldable pub body_depth : Extensions → List Shape → ℕ → Text → ℕ
body_depth x schema root text = first_failing (λ limit. is_deep (answer x schema root limit text)) (enough schema false root (length text)) 0

-- the depth of a document, which is its body's
unfoldable pub document_depth : Extensions → List Shape → ℕ → Text → ℕ
document_depth x schema root text = first_failing (λ limit. is_deep (answer_document x schema root limit text)) (enough schema false root (length text)) 0
