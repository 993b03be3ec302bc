-- What the rule of newtypes owes: a wrapped or an unwrapped content is read exactly.
use Rattle.std.proofs.Common.{◌≡◌, ℕ, ◌≤◌, Bool, true, false, List, Some, slice_get, refl, ap, arith}
use Rattle.std.specs.Option.{option_and_then}
use Rattle.ron_spec_words.specs.Characters.{Text, left_parenthesis, right_parenthesis}
use Rattle.ron_spec_words.specs.Runs.{is_at}
use Rattle.ron_spec_words.specs.Lang.{done}
use Rattle.ron_spec_words.specs.Exact.{Anything, FollowsValue}
use Rattle.ron_spec_words.proofs.Words.{first_means, first_or}
use Rattle.ron_spec_words.proofs.Classes.{Solid, solid_mark, first_solid}
use Rattle.ron_spec_words.proofs.Names.{word_named, name_solid, name_no_bracket}
use Rattle.ron_spec_words.proofs.Exactly.{Opens, first_then, first_mark}
use Rattle.ron_spec_words.proofs.WordsPass.{passes_named}
use Rattle.ron_spec_words.proofs.Parts.{Part, part_more, part_any, part_means, part_behind, part_choose, part_with_comma, part_group}
use Rattle.ron_spec_grammar.specs.Data.{Data, newtype_of}
use Rattle.ron_spec_grammar.specs.Schema.{Shape, newtype, content_of, content_at}
use Rattle.ron_spec_grammar.specs.Rule.{Langs, Readers}
use Rattle.ron_spec_grammar.specs.Room.{step}
use Rattle.ron_spec_grammar.specs.Shapes.Newtype.{newtype_data, Wrapped, NewtypeText, wrapped, read_newtype}
use Rattle.ron_spec_grammar.proofs.Room.{Sizes, size, size_within, size_content, size_chain}
use Rattle.ron_spec_grammar.proofs.Rule.{After, IsDataOf, Fit, part_without, part_either, first_without}
use Rattle.ron_spec_grammar.proofs.Shapes.Option.{past_room}

newtype_content : (schema : List Shape) (i j : ℕ) (name : Text) → slice_get schema i ≡ Some (newtype name j) → content_at schema i ≡ Some j
newtype_content schema i j name s = ap (option_and_then content_of) s

module _ {schema : List Shape} {room top : ℕ} {base : ℕ → ℕ} (sizes : Sizes schema top base) (within : room ≤ top) (required : Bool) (q r : ℕ → Readers)
    (L : ℕ → Langs) (h : Fit schema base room 1 (q 0) (r 0) (L 0)) (f g : Readers) (M : Langs) (k : Fit schema base room 1 f g M) (name : Text) (j i : ℕ)
    (s : slice_get schema i ≡ Some (newtype name j)) where
  is_newtype : (c d : Data) → IsDataOf schema room 1 j c → newtype_data name c ≡ Some d → IsDataOf schema room 0 i d
  is_newtype c d p e = let same : newtype_of name c ≡ d = cc in rw (← same) (record { of_shape = λ formed. (j, s, p.of_shape formed) })

  part_wrapped : Part room (step schema) false (IsDataOf schema room 0 i) (wrapped name j (q 0)) (wrapped name j (r 0)) (Wrapped name j (L 0)) Anything
      (size schema base false i)
  part_wrapped = part_means (newtype_data name) is_newtype (part_group left_parenthesis right_parenthesis (size schema base false i) refl refl
      (λ gap. part_with_comma (part_more (h.part false j gap) (omega arith))) (size_content schema sizes false i j))

  pub part_newtype : (unwrap bare : Bool) (before : Text)
      → Part room (step schema) bare (IsDataOf schema room 0 i) (read_newtype required unwrap name j q f bare before)
      (read_newtype required unwrap name j r g bare before) (NewtypeText required unwrap name j L M bare before) (After bare) (size schema base bare i)
  part_newtype unwrap true before = let w = size_within schema sizes i j in
      part_with_comma (part_means (newtype_data name) is_newtype (part_more (k.part false j before) (omega (arith, w))))
  part_newtype true false before = part_means (newtype_data name) is_newtype
      (part_either (k.part false j before) (past_room within (size_chain schema sizes false i j (newtype_content schema i j name s))))
  part_newtype false false before =
      let g = part_any FollowsValue part_wrapped in
      part_choose (is_at left_parenthesis) (first_without required (first_means (first_then (first_mark _ left_parenthesis done (λ s. refl)))))
      (first_then (first_means name_no_bracket))
      (part_without required g) (part_behind (word_named name) (first_means (first_solid name_solid)) (passes_named name) (λ _. g))

pub newtype_opens : (required unwrap : Bool) (name : Text) (j : ℕ) (L : ℕ → Langs) (M : Langs) (before : Text) → Opens (M false j before)
    → Opens (NewtypeText required unwrap name j L M false before)
newtype_opens required true name j L M before h = first_means h
newtype_opens required false name j L M before h =
    first_or (first_without required (first_means (first_then (first_mark Solid left_parenthesis done (λ s. solid_mark left_parenthesis s refl refl refl)))))
    (first_then (first_means name_solid))
