-- Somes that are kept, as code finds it by the beginning of the text: for `somes.rt` and the calls that ask it.
use Rattle.std.proofs.Common.{◌≡◌, Bool, true, false, ◌&&◌, ◌||◌, cond, Option, None, Some, List, [], ◌∷◌, slice_get, Box, Vec, String, Global, refl, sym, ap}
use Rattle.std.proofs.Common.{subst, ◌∙◌}
use Rattle.ron_spec_words.specs.Characters.{Text}
use Rattle.ron_value.specs.Tree.{Tree}
use Rattle.ron_value.specs.View.{tree_of}
use Rattle.ron_value.specs.declared.value.Value.{Value}
use Rattle.ron_value.specs.declared.value.Value.TheVariants as value_
use Rattle.ron_spec_grammar.specs.Data as tree
use Rattle.ron_spec_grammar.specs.Rule.{Extensions}
use Rattle.ron_spec_grammar.specs.Raw.{raw_valid}
use Rattle.ron_de_raw.specs.Raw.{raw_text_of}
use Rattle.ron_de_raw.specs.declared.raw.RawValue.{RawValue}
use Rattle.ron_data.specs.declared.any_value.AnyValue.{AnyValue}
use Rattle.ron_data.specs.AnyValue.{held_value}
use Rattle.ron_spec_layout.specs.Config.{blank}
use Rattle.ron_spec_layout.specs.Brackets.{opens_as_option}
use Rattle.ron_spec_layout.specs.Keeping.{is_kept, value_keeps, leads, IsValidFirst}
use Rattle.ron_spec_layout.proofs.Closed.{are_gaps}
use Rattle.ron_spec_layout.proofs.Leading.{keeps_same, items_open, no_items_open}
use Rattle.ron_data.specs.declared.data.Data.{Data}
use Rattle.ron_data.specs.declared.data.Data.TheVariants as data_
use Rattle.ron_data.specs.Datum.{Content, no_content, one_of, items_of, named_of, variant_of, data_view, items_view}
use Rattle.ron_data.proofs.DatumLemmas.{view-none, view-raw, view-some, view-newtype, view-tuple, view-tuple_struct, view-value}
use Rattle.ron_ser.specs.declared.somes.Somes.{Somes}
use Rattle.ron_ser.specs.declared.somes.Somes.TheVariants as somes
use Rattle.ron_ser.specs.Place.{Place}
use Rattle.ron_ser.specs.Written.{keeps_at, inside_tuple}
use Rattle.ron_ser.specs.Piece.{IsKnown}
use Rattle.ron_ser.proofs.TreeLemmas.{tree-none, tree-some}

module _ (p : Place) (blank : blank p.config ≡ true) (implicit : p.extensions.implicit_some ≡ true) where
  -- the items' text begins as an option where the first one's does
  pub first_leads : (ds : List Data) (d : Data) → Some d ≡ slice_get ds 0 → IsValidFirst (data_view d)
      → leads p.extensions (data_view d) ≡ opens_as_option (inside_tuple p (items_view ds))
  first_leads [] d e v = absurd (cc)
  first_leads (a ∷ ds) d e v = let same : d ≡ a = cc in
      ap (λ d. leads p.extensions (data_view d)) same ∙ sym (items_open p.config (are_gaps p.config blank) p.extensions p.level p.docs implicit (data_view a)
      (items_view ds) (subst (λ d. IsValidFirst (data_view d)) same v))

  pub none_kept : (ds : List Data) → None ≡ slice_get ds 0 → false ≡ opens_as_option (inside_tuple p (items_view ds))
  none_kept [] e = sym (no_items_open p.config (are_gaps p.config blank) p.extensions p.level p.docs implicit)
  none_kept (a ∷ ds) e = absurd (cc)

-- of data that is not bare the place does not matter
pub kept_anywhere : (p : Place) (d : tree.Data) → keeps_at p false d ≡ is_kept p.extensions d
kept_anywhere p d = keeps_same p.config p.extensions p.level p.docs d

-- ---- data that is neither a raw text nor a newtype

abbrev is_itself : tree.Data → Bool
is_itself (tree.raw_of t) = false
is_itself (tree.newtype_of name d) = false
is_itself _ = true

-- Data that is not bare begins as an option exactly where Somes around it are written out; and it is no raw text that is invalid.
abbrev pub LeadsAsKept : Extensions → tree.Data → Type 0
LeadsAsKept x d = (is_kept x d ≡ leads x d) × IsValidFirst d

-- it begins as it keeps its Somes
itself_leads : (x : Extensions) (t : tree.Data) → is_itself t ≡ true → LeadsAsKept x t
itself_leads x (tree.bool_of b) h = (refl, tt)
itself_leads x (tree.int_of w n) h = (refl, tt)
itself_leads x (tree.char_of c) h = (refl, tt)
itself_leads x (tree.str_of t) h = (refl, tt)
itself_leads x (tree.bytes_of bs) h = (refl, tt)
itself_leads x tree.the_unit h = (refl, tt)
itself_leads x tree.the_none h = (refl, tt)
itself_leads x (tree.some_of d) h = (refl, tt)
itself_leads x (tree.unit_struct_of name) h = (refl, tt)
itself_leads x (tree.list_of ds) h = (refl, tt)
itself_leads x (tree.tuple_of ds) h = (refl, tt)
itself_leads x (tree.tuple_struct_of name ds) h = (refl, tt)
itself_leads x (tree.map_of ps) h = (refl, tt)
itself_leads x (tree.struct_of name fields) h = (refl, tt)
itself_leads x (tree.unit_variant_of name v) h = (refl, tt)
itself_leads x (tree.newtype_variant_of name v d) h = (refl, tt)
itself_leads x (tree.tuple_variant_of name v ds) h = (refl, tt)
itself_leads x (tree.struct_variant_of name v fields) h = (refl, tt)
itself_leads x (tree.value_of t) h = (refl, tt)
itself_leads x _ h = absurd (cc)

pub leads_as : (x : Extensions) (d e : Data) (t : tree.Data) → d ≡ e → data_view e ≡ t → is_itself t ≡ true → LeadsAsKept x (data_view d)
leads_as x d e t i v h = itself_leads x (data_view d) (ap (λ d. is_itself (data_view d)) i ∙ ap is_itself v ∙ h)

pub option_leads : (x : Extensions) (d : Data) (o : Option (Box Data Global)) → d ≡ data_.Option o → LeadsAsKept x (data_view d)
option_leads x d None i = leads_as x d _ _ i view-none refl
option_leads x d (Some b) i = leads_as x d _ _ i (view-some b) refl

pub newtype_leads : (x : Extensions) (d : Data) (name : String Global) (content : Box Data Global) → d ≡ data_.Newtype name content
    → leads x (data_view d) ≡ (x.unwrap_newtypes && leads x (data_view content.value))
newtype_leads x d name content i = ap (leads x) (ap data_view i ∙ view-newtype name content)

pub newtype_first : (d : Data) (name : String Global) (content : Box Data Global) → d ≡ data_.Newtype name content → IsValidFirst (data_view content.value)
    → IsValidFirst (data_view d)
newtype_first d name content i h = subst IsValidFirst (sym (ap data_view i ∙ view-newtype name content)) h

pub raw_leads : (x : Extensions) (d : Data) (raw : RawValue) → d ≡ data_.Raw raw → leads x (data_view d) ≡ opens_as_option (raw_text_of raw)
raw_leads x d raw i = ap (leads x) (ap data_view i ∙ view-raw raw)

pub raw_first : (d : Data) (raw : RawValue) → d ≡ data_.Raw raw → raw_valid (raw_text_of raw) ≡ true → IsValidFirst (data_view d)
raw_first d raw i h = subst IsValidFirst (sym (ap data_view i ∙ view-raw raw)) h

pub known_for : (known : Somes) {a b : Bool} → a ≡ b → IsKnown known a → IsKnown known b
known_for known e h = subst (IsKnown known) e h

-- of a newtype's content that stands alone, what is known of the newtype
pub known_inside : (known : Somes) (alone b : Bool) → IsKnown known (alone && b) → IsKnown (cond alone known somes.Unasked) b
known_inside known true b h = h
known_inside known false b h = tt

-- ---- what the test is of data of code

pub variant_kept : (p : Place) (bare : Bool) (name v : Text) (content : Content) → keeps_at p bare (variant_of name v content) ≡ false
variant_kept p bare name v no_content = refl
variant_kept p bare name v (one_of d) = refl
variant_kept p bare name v (items_of ds) = refl
variant_kept p bare name v (named_of fields) = refl

module _ (p : Place) (bare : Bool) {d : Data} where
  pub some_kept : {o : Option (Box Data Global)} {content : Box Data Global} → d ≡ data_.Option o → o ≡ Some content
      → keeps_at p bare (data_view d) ≡ keeps_at p bare (data_view content.value)
  some_kept {content = content} i o = ap (λ d. keeps_at p bare (data_view d)) (i ∙ ap data_.Option o) ∙ ap (keeps_at p bare) (view-some content)

  pub newtype_kept : {name : String Global} {content : Box Data Global} {alone : Bool} → d ≡ data_.Newtype name content
      → alone ≡ (bare || p.extensions.unwrap_newtypes) → keeps_at p bare (data_view d) ≡ (alone && keeps_at p false (data_view content.value))
  newtype_kept {name = name} {content = content} i a = ap (λ d. keeps_at p bare (data_view d)) i ∙ ap (keeps_at p bare) (view-newtype name content)
      ∙ ap (λ b. b && keeps_at p false (data_view content.value)) (sym a)

  pub tuple_kept : (items : Vec Data Global) {b : Bool} → d ≡ data_.Tuple items → bare ≡ b
      → keeps_at p bare (data_view d) ≡ (b && opens_as_option (inside_tuple p (items_view items.items)))
  tuple_kept items i e = ap (λ d. keeps_at p bare (data_view d)) i ∙ ap (keeps_at p bare) (view-tuple items)
      ∙ ap (λ b. b && opens_as_option (inside_tuple p (items_view items.items))) e

  pub tuple_struct_kept : {name : String Global} (items : Vec Data Global) {b : Bool} → d ≡ data_.TupleStruct name items → bare ≡ b
      → keeps_at p bare (data_view d) ≡ (b && opens_as_option (inside_tuple p (items_view items.items)))
  tuple_struct_kept {name = name} items i e = ap (λ d. keeps_at p bare (data_view d)) i ∙ ap (keeps_at p bare) (view-tuple_struct name items)
      ∙ ap (λ b. b && opens_as_option (inside_tuple p (items_view items.items))) e

  pub held_kept : {v : AnyValue} → d ≡ data_.Value v → keeps_at p bare (data_view d) ≡ value_keeps (tree_of (held_value v))
  held_kept {v = v} i = ap (λ d. keeps_at p bare (data_view d)) i ∙ ap (keeps_at p bare) (view-value v)

  pub raw_kept : {raw : RawValue} → d ≡ data_.Raw raw → true ≡ keeps_at p bare (data_view d)
  raw_kept {raw = raw} i = sym (ap (λ d. keeps_at p bare (data_view d)) i ∙ ap (keeps_at p bare) (view-raw raw))

  -- all else keeps none
  pub never_kept : {e : Data} (t : tree.Data) → d ≡ e → data_view e ≡ t → keeps_at p bare t ≡ false → false ≡ keeps_at p bare (data_view d)
  never_kept t i v n = sym (ap (λ d. keeps_at p bare (data_view d)) i ∙ ap (keeps_at p bare) v ∙ n)

-- ---- what it is of a value without a schema

module _ {v : Value} where
  pub value_none_kept : {o : Option (Box Value Global)} → v ≡ value_.Option o → o ≡ None → true ≡ value_keeps (tree_of v)
  value_none_kept i o = sym (ap (λ v. value_keeps (tree_of v)) (i ∙ ap value_.Option o) ∙ ap value_keeps tree-none)

  pub value_some_kept : {o : Option (Box Value Global)} {content : Box Value Global} → v ≡ value_.Option o → o ≡ Some content
      → value_keeps (tree_of v) ≡ value_keeps (tree_of content.value)
  value_some_kept {content = content} i o = ap (λ v. value_keeps (tree_of v)) (i ∙ ap value_.Option o) ∙ ap value_keeps (tree-some content)

  -- all else keeps none
  pub value_never_kept : {w : Value} (t : Tree) → v ≡ w → tree_of w ≡ t → value_keeps t ≡ false → false ≡ value_keeps (tree_of v)
  value_never_kept t i e n = sym (ap (λ v. value_keeps (tree_of v)) i ∙ ap value_keeps e ∙ n)
