-- Attributes, which stand before the value of a text and announce extensions.
use Rattle.std.specs.Prelude.{◌≡◌, ℕ, zero, suc, false, if◌then◌else◌, List, [], ◌∷◌, ◌++◌, length, codes, Option, Some, None}
use Rattle.ron_spec_words.specs.Characters.{Text, slash, hash, exclamation_mark, equals_sign, left_parenthesis, right_parenthesis, left_bracket, right_bracket}
use Rattle.ron_spec_words.specs.Runs.{is_at}
use Rattle.ron_spec_words.specs.Gap.{LongGap, skip}
use Rattle.ron_spec_words.specs.Lang.{Lang, Done, done, Mark, Means, Or, Then, Items, Group}
use Rattle.ron_spec_words.specs.Reader.{Reader, bad, got, failed, give, mark, means, pick, in_sequence, after_gap, items, group}
use Rattle.ron_spec_words.specs.Directly.{FixedWord, stands, fixed_word, and_directly, directly}
use Rattle.ron_spec_words.specs.Turns.{rest_of_group}
use Rattle.ron_spec_words.specs.Name.{Name, name}
use Rattle.ron_spec_words.specs.Quoted.{String, string}
use Rattle.ron_base.specs.Extensions.{no_extensions, union, extension_of_name}
use Rattle.ron_spec_grammar.specs.Rule.{Extensions}

-- what is in force where these are announced, in turn
abbrev pub in_force : Extensions → List Extensions → Extensions
in_force x [] = x
in_force x (e ∷ es) = in_force (union x e) es

-- one or more, together
abbrev pub together : List Extensions → Option Extensions
together [] = None
together (e ∷ es) = Some (in_force e es)

-- `enable`, and the names of one or more extensions in parentheses
abbrev pub Enable : Lang Extensions
Enable = Then (FixedWord (codes "enable") done)
    (λ _ _. Group left_parenthesis right_parenthesis (λ gap. Means (Items (λ _ _. Means Name extension_of_name) gap) together))

-- `type` or `schema`, `=` and a string, which announces nothing
abbrev pub Ignored : Lang Extensions
Ignored = Then (Or (FixedWord (codes "type") done) (FixedWord (codes "schema") done))
    (λ _ _. Then (Mark equals_sign done) (λ _ _. Means String (λ _. Some no_extensions)))

-- `#`, `!`, and either in brackets
abbrev pub Attribute : Lang Extensions
Attribute = Then (Mark hash done) (λ _ _. Then (Mark exclamation_mark done) (λ _ _. Group left_bracket right_bracket (λ _. Or Enable Ignored)))

-- an attribute behind a gap, and more behind it
pub record BehindGap (e : Extensions) (More : Text → Text → Type 0) (t next : Text) : Type 0 where
  pub gap : Text
  pub attribute : Text
  pub rest : Text
  pub split : t ≡ gap ++ (attribute ++ rest)
  pub is_gap : LongGap gap (attribute ++ (rest ++ next))
  pub spelled : Attribute attribute (rest ++ next) e
  pub more : More rest next

-- the head of a text: attributes, each behind a gap, which announce these, in turn
abbrev pub Head : List Extensions → Text → Text → Type 0
Head [] t next = t ≡ []
Head (e ∷ es) t next = BehindGap e (Head es) t next

-- The text is a head and a body that no attribute begins; this is in force in the body.
pub record EndsHead (x : Extensions) (text : Text) (y : Extensions) (body : Text) : Type 0 where
  pub announced : List Extensions
  pub stretch : Text
  pub split : text ≡ stretch ++ body
  pub is_head : Head announced stretch body
  pub is_in_force : y ≡ in_force x announced
  pub ends : is_at hash (skip body) ≡ false

-- The text is a head, a gap and this rest, which begins with no blank, no slash and no attribute; this is in force there.
pub record StartsValue (x : Extensions) (text : Text) (y : Extensions) (gap rest : Text) : Type 0 where
  pub head_ends : EndsHead x text y (gap ++ rest)
  pub is_gap : LongGap gap rest
  pub no_slash : is_at slash rest ≡ false

-- ---- their reader functions

abbrev pub extension : Reader Extensions
extension = means name extension_of_name

-- the names in parentheses
abbrev pub names : Reader Extensions
names = group left_parenthesis right_parenthesis (λ gap. means (items (λ _ _. extension) right_parenthesis gap) together)

abbrev pub enable : Reader Extensions
enable = in_sequence (fixed_word (codes "enable") done) (λ _ _. names)

-- `type` or `schema`
abbrev pub ignored_word : Reader Done
ignored_word = pick (stands (codes "type")) (fixed_word (codes "type") done) (fixed_word (codes "schema") done)

abbrev pub ignored : Reader Extensions
ignored = in_sequence ignored_word (λ _ _. in_sequence (mark equals_sign done) (λ _ _. means string (λ _. Some no_extensions)))

-- what stands in an attribute's brackets
abbrev pub in_brackets : Reader Extensions
in_brackets = pick (stands (codes "enable")) enable ignored

unfoldable pub attribute : Reader Extensions
attribute = in_sequence (mark hash done) (λ _ _. in_sequence (mark exclamation_mark done) (λ _ _. group left_bracket right_bracket (λ _. in_brackets)))

-- What is in force behind the head, and the text behind it. No text has more attributes than characters, so `fuel` ends it and changes nothing.
abbrev pub head_in : ℕ → Extensions → Reader Extensions
head_in zero x s = failed bad
head_in (suc fuel) x s = if is_at hash (skip s) then and_directly (attribute (skip s)) (λ e. head_in fuel (union x e)) else got x s

-- the head of a text
unfoldable pub head : Extensions → Reader Extensions
head x s = head_in (suc (length s)) x s

-- the head and the gap behind it, up to where a value begins: what is in force there, and that gap
unfoldable pub value_start : Extensions → Reader (Extensions × Text)
value_start x = directly (head x) (λ y. after_gap (λ gap. give (y, gap)))

-- ---- from a place within, for code that reads step by step

-- the names from a place on and the closing parenthesis, where these stand before the place, the last of them first
unfoldable pub names_from : List Extensions → Text → Reader Extensions
names_from seen before s = rest_of_group (λ _ _. extension) right_parenthesis together seen before s
