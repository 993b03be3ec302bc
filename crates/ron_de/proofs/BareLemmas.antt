-- Options and bare content, beside the steps of `bare.rt`.
use Rattle.std.proofs.Common.{◌≡◌, ℕ, suc, ◌+◌, ◌*◌, ◌<◌, ◌≤◌, Bool, true, false, List, [], ◌∷◌, length, codes, drop, Some, None, Result, slice_get, refl, sym}
use Rattle.std.proofs.Common.{ap, ap₂, subst, ◌∙◌, arith, chars, string_bytes, String, Box, Vec, Global, ◌==◌, eqb-true}
use Rattle.std.proofs.Math.Nat.{mul-le-mul_right}
use Rattle.ron_spec_words.specs.Characters.{Text}
use Rattle.ron_spec_words.specs.Directly.{stands, fixed_word}
use Rattle.ron_spec_words.specs.Gap.{skip, gap_of}
use Rattle.ron_spec_words.specs.Lang.{done}
use Rattle.ron_spec_words.specs.Reader.{deep, Got, got, failed, meant, opt_comma}
use Rattle.ron_spec_words.specs.Range.{opens_interval}
use Rattle.ron_spec_words.specs.Runs.{is_at}
use Rattle.ron_spec_grammar.specs.Data as plain
use Rattle.ron_spec_grammar.specs.Schema.{Shape, FieldList, optional, unit_struct, newtype, struct}
use Rattle.ron_spec_grammar.specs.Rule.{Extensions}
use Rattle.ron_spec_grammar.specs.Reading.{read}
use Rattle.ron_spec_grammar.specs.Room.{step, rank, enough}
use Rattle.ron_spec_grammar.specs.Shapes.Option.{opens_some, none_data, some_data}
use Rattle.ron_spec_grammar.specs.Shapes.Newtype.{newtype_data}
use Rattle.ron_spec_grammar.specs.Turns.{read_below, read_content, read_closed, read_bare, read_bare_below, read_bare_items, read_tuple_inside}
use Rattle.ron_spec_grammar.proofs.Room.{step_is, rank_at_most}
use Rattle.ron_spec_grammar.proofs.ContentTurns.{closed, content_unwrapped, read_unit_struct_of}
use Rattle.ron_spec_grammar.proofs.GroupTurns.{read_range_of}
use Rattle.ron_spec_grammar.proofs.BareTurns.{bracketed, closed_is, bare_range, bare_full_range, bare_below_here, bare_below_deep, option_none, option_some}
use Rattle.ron_spec_grammar.proofs.BareTurns.{bare_newtype, bare_items_inside, bare_items_none, bare_items_deep}
use Rattle.ron_base.specs.declared.error.Error.{Error}
use Rattle.ron_base.specs.Class.{ErrorClass, class_of}
use Rattle.ron_lex.specs.Place.{Place}
use Rattle.ron_de_steps.specs.Reads.{IsFaultOf, Reads}
use Rattle.ron_data.specs.declared.data.Data.{Data}
use Rattle.ron_data.specs.declared.data.Data.TheVariants as data_
use Rattle.ron_data.specs.Datum.{data_view, items_view}
use Rattle.ron_data.proofs.DatumLemmas.{view-none, view-some, view-unit_struct}
use Rattle.ron_de_parts.specs.Content.{ReadsBare}
use Rattle.ron_de_parts.specs.Errors.{IsMemoryOr}
use Rattle.ron_de_steps.specs.Steps.{behind_comma}
use Rattle.ron_de_parts.specs.Steps.{past_end, past_bare_end}
use Rattle.ron_de_parts.specs.Terms.{Terms, IsDeeper}
use Rattle.ron_de_parts.specs.Room.{IsRoom, enough_for_items, enough_for_group}
use Rattle.ron_de_parts.proofs.RoomLemmas.{RoomBelow, room_below, room_less, value_within_bare}
use Rattle.ron_de_steps.proofs.ErrorLemmas.{memory_or_more, is_fault, fault_of}
use Rattle.ron_de_parts.proofs.RangeLemmas.{full_is}
use Rattle.ron_de_parts.proofs.ContentLemmas.{ends_at, perhaps_comma, bracketed_at, closed_fault, not_closed, closed_value}

-- ---- the room of bare content

module _ (schema : List Shape) where
  -- one value within brackets, bare
  pub bare_in_group : (j m n : ℕ) → m < n → enough schema true j m + 2 ≤ enough_for_group schema n
  unfolding enough enough_for_group
  bare_in_group j m n lt = let k : (m + 1) * step schema ≤ n * step schema = mul-le-mul_right (step schema) (omega arith) in
      omega (arith, k, step_is schema, rank_at_most schema j)

  -- what an option or a newtype holds, at the same text
  pub held_of_bare : (bare : Bool) (i j n : ℕ) → rank schema i ≡ suc (rank schema j) → suc (enough schema bare j n) ≡ enough schema bare i n
  unfolding enough
  held_of_bare true i j n e = omega (arith, e)
  held_of_bare false i j n e = omega (arith, e)

  pub items_of_bare : (i n : ℕ) → enough_for_items schema n + 1 ≤ enough schema true i n
  unfolding enough enough_for_items
  items_of_bare i n = omega arith

module _ (terms : Terms) where
  pub room_of_bare : (place : Place) (u : Text) (i room : ℕ) → length place.rest ≤ length u → IsRoom terms.limit
      (enough_for_group terms.schema (length (40 ∷ u))) room → IsRoom terms.limit (suc (enough terms.schema true i (length place.rest))) room
  room_of_bare place u i room le r =
      room_less terms.limit _ _ room r (omega (arith, bare_in_group terms.schema i (length place.rest) (length (40 ∷ u)) (omega (arith, le))))

  pub room_of_alone : (i j n room : ℕ) → rank terms.schema i ≡ suc (rank terms.schema j) → IsRoom terms.limit (enough terms.schema true i n) room
      → IsRoom terms.limit (suc (enough terms.schema true j n)) room
  room_of_alone i j n room e r = room_less terms.limit _ _ room r (omega (arith, held_of_bare terms.schema true i j n e))

  pub room_of_bare_newtype : (i j n room : ℕ) → rank terms.schema i ≡ suc (rank terms.schema j) → IsRoom terms.limit (enough terms.schema true i n) room
      → IsRoom terms.limit (suc (enough terms.schema false j n)) room
  room_of_bare_newtype i j n room e r =
      room_less terms.limit _ _ room r (omega (arith, held_of_bare terms.schema false i j n e, value_within_bare terms.schema i n))

  pub room_of_bare_items : (i n room : ℕ) → IsRoom terms.limit (enough terms.schema true i n) room
      → IsRoom terms.limit (enough_for_items terms.schema n + 1) room
  room_of_bare_items i n room r = room_less terms.limit _ _ room r (omega (arith, items_of_bare terms.schema i n))

-- ---- a level deeper

pub reads_bare_below : (terms inner : Terms) → IsDeeper terms inner → (j : ℕ) (place : Place) (room : ℕ)
    → IsRoom terms.limit (suc (enough terms.schema true j (length place.rest))) room
    → (result : Result Data Error) (rest : Text) → ReadsBare inner j place result rest
    → Reads data_view result (read_bare_below terms.extensions terms.schema room j place.gap place.rest) rest
reads_bare_below terms inner d j place room r result rest g =
    let there : RoomBelow inner.limit (enough terms.schema true j (length place.rest)) room = room_below terms.limit inner.limit _ _ room d.2 r (omega arith) in
    let n = there.left in
    let h = g n (subst (λ (s : List Shape). IsRoom inner.limit (enough s true j (length place.rest)) n) (sym d.1) there.is_room) in
    let is : read_bare_below terms.extensions terms.schema room j place.gap place.rest ≡ read_bare terms.extensions terms.schema n j place.gap place.rest =
    ap (λ k. read_bare_below terms.extensions terms.schema k j place.gap place.rest) there.is
    ∙ bare_below_here terms.extensions terms.schema n j place.gap place.rest in
    subst (λ o. Reads data_view result o rest) (sym is)
    (subst (λ (s : List Shape). Reads data_view result (read_bare terms.extensions s n j place.gap place.rest) rest) d.1
    (subst (λ (x : Extensions). Reads data_view result (read_bare x inner.schema n j place.gap place.rest) rest) d.0 h))

pub bare_ended : (x : Extensions) (schema : List Shape) (room j : ℕ) (before s : Text) → room ≡ 0 → read_bare_below x schema room j before s ≡ failed deep
bare_ended x schema room j before s e = ap (λ k. read_bare_below x schema k j before s) e ∙ bare_below_deep x schema j before s

-- unwrapped content is what is read behind its bracket
pub unwrapped_here : (terms : Terms) (i : ℕ) (place : Place) (u : Text) (room : ℕ) → is_at 47 (skip u) ≡ false → place.gap ≡ gap_of u → place.rest ≡ skip u
    → (b : Bool) → b ≡ true
    → read_content terms.extensions terms.schema room b i (40 ∷ u) ≡ read_bare_below terms.extensions terms.schema room i place.gap place.rest
unwrapped_here terms i place u room m g w b e = ap (λ b. read_content terms.extensions terms.schema room b i (40 ∷ u)) e ∙ content_unwrapped terms.extensions
    terms.schema room i (40 ∷ u) u refl m ∙ ap₂ (λ gap s. read_bare_below terms.extensions terms.schema room i gap s) (sym g) (sym w)

-- ---- ranges

module _ (x : Extensions) (schema : List Shape) (room i : ℕ) (before s name : Text) where
  pub ranged_struct : (list : FieldList) → slice_get schema i ≡ Some (struct name list) → opens_interval s ≡ true
      → read_bare x schema room i before s ≡ read_closed x schema room i before s
  ranged_struct list e f = bare_range x schema room i before s name list e f
      ∙ sym (closed_is x schema room i before s ∙ ap closed (read_range_of x schema room i before s name list e f))

  pub ranged_unit : slice_get schema i ≡ Some (unit_struct name) → opens_interval s ≡ true
      → read_bare x schema room i before s ≡ read_closed x schema room i before s
  ranged_unit e f = bare_full_range x schema room i before s name e f
      ∙ sym (closed_is x schema room i before s ∙ ap closed (read_unit_struct_of x schema room i before s name e ∙ full_is x.explicit_struct_names name s f))

-- ---- options

module _ (x : Extensions) (schema : List Shape) (room i : ℕ) (before s : Text) (j : ℕ) (is : slice_get schema i ≡ Some (optional j)) where
  pub none_value : (rest : Text) → stands (codes "None") s ≡ true → fixed_word (codes "None") done s ≡ got done rest
      → read x schema room false i before s ≡ got (data_view (data_.Option None)) rest
  none_value rest b e = option_none x schema room i before s j is b ∙ ap (λ o. meant o none_data) e ∙ ap (λ d. got d rest) (sym view-none)

  pub some_here : (unwrap : Bool) (t : Text) → stands (codes "None") s ≡ false → opens_some s ≡ true → unwrap ≡ x.unwrap_variant_newtypes → t ≡ skip (drop 4 s)
      → read x schema room false i before s ≡ meant (read_content x schema room unwrap j t) some_data
  some_here unwrap t n e u w = option_some x schema room i before s j is n e ∙ ap₂ (λ b t. meant (read_content x schema room b j t) some_data) (sym u) (sym w)

pub option_value : (value : Box Data Global) (d : Data) (rest : Text) → value.value ≡ d
    → got (plain.some_of (data_view d)) rest ≡ got (data_view (data_.Option (Some value))) rest
option_value value d rest v = ap (λ d. got d rest) (ap (λ d. plain.some_of (data_view d)) (sym v) ∙ sym (view-some value))

-- ---- bare content

-- what stands behind perhaps a comma
pub bare_end_at : (d : plain.Data) (s : Text) → bracketed (opt_comma d s) ≡ ends_at d (past_bare_end s)
bare_end_at d s = ap bracketed (perhaps_comma d s) ∙ bracketed_at d (behind_comma s)

pub bare_end_value : (d : plain.Data) (s rest : Text) (whole : Got plain.Data) → whole ≡ bracketed (opt_comma d s) → past_bare_end s ≡ Some rest
    → whole ≡ got d rest
bare_end_value d s rest whole w e = w ∙ bare_end_at d s ∙ ap (ends_at d) e

pub bare_end_fault : (d : plain.Data) (s : Text) (whole : Got plain.Data) → whole ≡ bracketed (opt_comma d s) → (e : Error)
    → IsMemoryOr (past_bare_end s ≡ None) e → IsFaultOf (class_of e) whole
bare_end_fault d s whole w e h = is_fault (class_of e) whole (memory_or_more e (λ n. w ∙ bare_end_at d s ∙ ap (ends_at d) n) h)

-- a newtype's content alone, up to and past the bracket
module _ (x : Extensions) (schema : List Shape) (room i : ℕ) (before s n : Text) (j : ℕ) (is : slice_get schema i ≡ Some (newtype n j)) where
  abbrev alone : Got plain.Data
  alone = meant (read_below x schema room j before s) (newtype_data n)

  pub bare_newtype_fault : (k : ErrorClass) → IsFaultOf k (read_below x schema room j before s) → IsFaultOf k (read_bare x schema room i before s)
  bare_newtype_fault k h = closed_fault k alone _ (bare_newtype x schema room i before s n j is)
      (fault_of k (read_below x schema room j before s) alone (λ fault e. ap (λ o. meant o (newtype_data n)) e) h)

  module _ (d : plain.Data) (rest : Text) (e : read_below x schema room j before s ≡ got d rest) where
    pub bare_newtype_open : (code : Error) → IsMemoryOr (past_end rest ≡ None) code → IsFaultOf (class_of code) (read_bare x schema room i before s)
    bare_newtype_open code h =
        not_closed alone _ (plain.newtype_of n d) rest (bare_newtype x schema room i before s n j is) (ap (λ o. meant o (newtype_data n)) e) code h

    pub bare_newtype_value : (end : Text) → past_end rest ≡ Some end → read_bare x schema room i before s ≡ got (plain.newtype_of n d) end
    bare_newtype_value end h =
        closed_value alone _ (plain.newtype_of n d) rest end (bare_newtype x schema room i before s n j is) (ap (λ o. meant o (newtype_data n)) e) h

-- a tuple's items
module _ (terms : Terms) (room : ℕ) (make : plain.Datas → plain.Data) (js : List ℕ) (place : Place) where
  pub bare_items_here : (js ≡ [] → ⊥) → read_bare_items terms.extensions terms.schema room make js place.gap place.rest
      ≡ read_tuple_inside terms.extensions terms.schema room make js place.gap place.rest
  bare_items_here n = bare_items_inside terms.extensions terms.schema room 0 place.gap place.rest make js n

  pub bare_items_ended : js ≡ [] → room ≡ 0 → read_bare_items terms.extensions terms.schema room make js place.gap place.rest ≡ failed deep
  bare_items_ended n e = ap₂ (λ js k. read_bare_items terms.extensions terms.schema k make js place.gap place.rest) n e
      ∙ bare_items_deep terms.extensions terms.schema make place.gap place.rest

  pub bare_items_empty : (inner : Terms) → IsDeeper terms inner → IsRoom terms.limit (enough_for_items terms.schema (length place.rest) + 1) room → js ≡ []
      → read_bare_items terms.extensions terms.schema room make js place.gap place.rest ≡ bracketed (opt_comma (make plain.no_datas) place.rest)
  bare_items_empty inner d r n =
      let there : RoomBelow inner.limit (enough_for_items terms.schema (length place.rest)) room =
      room_below terms.limit inner.limit _ _ room d.2 r (omega arith) in
      ap₂ (λ js k. read_bare_items terms.extensions terms.schema k make js place.gap place.rest) n there.is
      ∙ bare_items_none terms.extensions terms.schema there.left make place.gap place.rest

pub not_empty : (js : List ℕ) → false ≡ (length js == 0) → js ≡ [] → ⊥
not_empty [] e n = let q : false ≡ true = e in cc
not_empty (j ∷ js) e n = let q : (j ∷ js) ≡ [] = n in cc

pub is_nothing : (js : List ℕ) → true ≡ (length js == 0) → js ≡ []
is_nothing [] e = refl
is_nothing (j ∷ js) e = absurd (omega (arith, eqb-true (length (j ∷ js)) 0 (sym e)))

pub no_items : (make : plain.Datas → plain.Data) (items : Vec Data Global) (rest : Text) → items.items ≡ []
    → got (make plain.no_datas) rest ≡ got (make (items_view items.items)) rest
no_items make items rest e = ap (λ ds. got (make (items_view ds)) rest) (sym e)

-- ---- values

pub unit_struct_value : (name : String Global) (spelled : List ℕ) (rest : Text) → string_bytes name ≡ spelled
    → got (plain.unit_struct_of (chars spelled)) rest ≡ got (data_view (data_.UnitStruct name)) rest
unit_struct_value name spelled rest e = ap (λ d. got d rest) (ap (λ b. plain.unit_struct_of (chars b)) (sym e) ∙ sym (view-unit_struct name))
