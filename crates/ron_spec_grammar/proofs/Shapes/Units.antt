-- What the rules of booleans, the unit and unit structs owe: fixed words and names are read exactly.
use Rattle.std.proofs.Common.{◌≡◌, ℕ, Bool, true, false, List, ◌∷◌, ◌++◌, codes, Some, None, cond, slice_get, refl}
use Rattle.ron_spec_words.specs.Characters.{Text, left_parenthesis, right_parenthesis}
use Rattle.ron_spec_words.specs.Runs.{is_at, same_text}
use Rattle.ron_spec_words.specs.Range.{Interval, one, range, opens_interval}
use Rattle.ron_spec_words.proofs.Ranges.{interval_solid, name_no_interval}
use Rattle.ron_spec_grammar.specs.Shapes.Range.{full_data}
use Rattle.ron_spec_grammar.proofs.Shapes.Range.{range_begins, part_range, comma_no_span}
use Rattle.ron_spec_grammar.proofs.Values.Telling.{starts_first, starts_means, part_tell}
use Rattle.ron_spec_words.specs.Lang.{Done, done, OptComma}
use Rattle.ron_spec_words.specs.Reader.{opt_comma}
use Rattle.ron_spec_words.specs.Exact.{Before, IsWordReader}
use Rattle.ron_spec_words.specs.Directly.{stands}
use Rattle.ron_spec_words.proofs.Words.{First, word_mark, word_behind, word_choose, first_behind, first_means, first_or}
use Rattle.ron_spec_words.proofs.Direct.{word_fixed, stands-append}
use Rattle.ron_spec_words.proofs.Exactly.{Opens}
use Rattle.ron_spec_words.proofs.Classes.{Solid, solid_mark, first_solid}
use Rattle.ron_spec_words.proofs.Names.{word_named, name_solid, name_no_bracket}
use Rattle.ron_spec_words.proofs.Values.{AnyValue}
use Rattle.ron_spec_words.specs.Scan.{Passes}
use Rattle.ron_spec_words.proofs.Passing.{passes_or, passes_empty_brackets}
use Rattle.ron_spec_words.proofs.WordsPass.{passes_named, passes_fixed, plain_words}
use Rattle.ron_spec_words.proofs.Parts.{Part, part_weaker, part_word, part_means, part_choose, part_opt_comma}
use Rattle.ron_spec_grammar.specs.Data.{Data, bool_of, the_unit, unit_struct_of}
use Rattle.ron_spec_grammar.specs.Schema.{Shape, bool, unit, unit_struct}
use Rattle.ron_spec_grammar.specs.Shapes.Bool.{bool_data, Boolean, BoolText, boolean, read_bool}
use Rattle.ron_spec_grammar.specs.Shapes.Unit.{unit_data, EmptyBrackets, empty_brackets, UnitText, read_unit}
use Rattle.ron_spec_grammar.specs.Shapes.UnitStruct.{unit_struct_data, UnitStructText, read_unit_struct}
use Rattle.ron_spec_grammar.proofs.Rule.{After, IsDataOf, part_plain, part_without, first_without}

-- ---- words

word_boolean : IsWordReader boolean Boolean
word_boolean = word_choose (stands (codes "true"))
    (record { holds = λ t next b z. rw z.same (stands-append (codes "true") next z.ends) })
    (record { holds = λ t next b z. rw z.same refl })
    (word_fixed (codes "true") true) (word_fixed (codes "false") false)

boolean_solid : First Solid Boolean
boolean_solid = first_or
    (record { holds = λ t next b z. rw z.same (solid_mark 116 (codes "rue" ++ next) refl refl refl) })
    (record { holds = λ t next b z. rw z.same (solid_mark 102 (codes "alse" ++ next) refl refl refl) })

passes_boolean : {b : Bool} {F : Text → Type 0} → Passes b Boolean F
passes_boolean = passes_or (passes_fixed (codes "true") true plain_words.0) (passes_fixed (codes "false") false plain_words.1)

pub word_empty : IsWordReader empty_brackets EmptyBrackets
word_empty = word_behind left_parenthesis _ _ (word_mark right_parenthesis done)

-- what the brackets begin with
pub first_empty : (P : Text → Type 0) → ((s : Text) → P (left_parenthesis ∷ s)) → First P EmptyBrackets
first_empty P k = first_behind P left_parenthesis _ k

pub empty_solid : First Solid EmptyBrackets
empty_solid = first_empty Solid (λ s. solid_mark left_parenthesis s refl refl refl)

pub passes_empty : {b : Bool} {F : Text → Type 0} → Passes b EmptyBrackets F
passes_empty = passes_empty_brackets left_parenthesis right_parenthesis done refl refl

-- ---- the parts

part_comma : {room step e : ℕ} → Part room step true AnyValue (opt_comma done) (opt_comma done) (OptComma done) (Before right_parenthesis) e
part_comma = part_weaker (λ _ _. tt) (part_opt_comma {P = AnyValue} done)

module _ {schema : List Shape} {room i : ℕ} (s : slice_get schema i ≡ Some bool) where
  is_bool : (b : Bool) (d : Data) → bool_data b ≡ Some d → IsDataOf schema room 0 i d
  is_bool b d e = let same : bool_of b ≡ d = cc in rw (← same) (record { of_shape = λ _. s })

  pub part_bool : {step e : ℕ} (bare : Bool) → Part room step bare (IsDataOf schema room 0 i) (read_bool bare) (read_bool bare) (BoolText bare) (After bare) e
  part_bool bare = part_plain bare (part_means bool_data (λ b d _. is_bool b d) (part_word word_boolean (first_solid boolean_solid) passes_boolean))

module _ {schema : List Shape} {room i : ℕ} (s : slice_get schema i ≡ Some unit) where
  is_unit : (u : Done) (d : Data) → unit_data u ≡ Some d → IsDataOf schema room 0 i d
  is_unit u d e = let same : the_unit ≡ d = cc in rw (← same) (record { of_shape = λ _. s })

  pub part_unit : {step e : ℕ} (bare : Bool) → Part room step bare (IsDataOf schema room 0 i) (read_unit bare) (read_unit bare) (UnitText bare) (After bare) e
  part_unit false = part_means unit_data (λ u d _. is_unit u d) (part_word word_empty (first_solid empty_solid) passes_empty)
  part_unit true = part_means unit_data (λ u d _. is_unit u d) part_comma

module _ (name : Text) (required : Bool) {schema : List Shape} {room i : ℕ} (s : slice_get schema i ≡ Some (unit_struct name)) where
  is_unit_struct : {A : Type 0} (a : A) (d : Data) → unit_struct_data name a ≡ Some d → IsDataOf schema room 0 i d
  is_unit_struct a d e = let same : unit_struct_of name ≡ d = cc in rw (← same) (record { of_shape = λ _. s })

  is_full : (s : Interval) (d : Data) → full_data name s ≡ Some d → IsDataOf schema room 0 i d
  is_full (one n) d e = absurd (cc)
  is_full (range (Some a) closed b) d e = absurd (cc)
  is_full (range None closed (Some b)) d e = absurd (cc)
  is_full (range None closed None) d e = go (same_text name (codes "RangeFull")) e
    where
      go : (b : Bool) → cond b (Some (unit_struct_of name)) None ≡ Some d → IsDataOf schema room 0 i d
      go true q = is_unit_struct done d q
      go false q = absurd (cc)

  pub part_unit_struct : {step e : ℕ} (bare : Bool) → Part room step bare (IsDataOf schema room 0 i) (read_unit_struct required name bare)
      (read_unit_struct required name bare) (UnitStructText required name bare) (After bare) e
  part_unit_struct false = part_choose opens_interval (range_begins false (full_data name))
      (first_or (first_without required (first_means (first_empty (λ t. opens_interval t ≡ false) (λ t. refl)))) (first_means (first_means name_no_interval)))
      (part_range false (full_data name) is_full) (part_choose (is_at left_parenthesis)
      (first_without required (first_means (first_empty (λ t. is_at left_parenthesis t ≡ true) (λ t. refl)))) (first_means (first_means name_no_bracket))
      (part_without required (part_means (unit_struct_data name) (λ u d _. is_unit_struct u d) (part_word word_empty (first_solid empty_solid) passes_empty)))
      (part_means (unit_struct_data name) (λ u d _. is_unit_struct u d)
      (part_word (word_named name) (first_means (first_solid name_solid)) (passes_named name))))
  part_unit_struct true =
      part_tell opens_interval (starts_first (Before right_parenthesis) (range_begins true (full_data name))) (starts_means (comma_no_span done))
      (part_range true (full_data name) is_full) (part_means (unit_struct_data name) (λ u d _. is_unit_struct u d) part_comma)

pub bool_opens : Opens (BoolText false)
bool_opens = first_means boolean_solid

pub unit_opens : Opens (UnitText false)
unit_opens = first_means empty_solid

pub unit_struct_opens : (required : Bool) (name : Text) → Opens (UnitStructText required name false)
unit_struct_opens required name =
    first_or (first_means interval_solid) (first_or (first_without required (first_means empty_solid)) (first_means (first_means name_solid)))
