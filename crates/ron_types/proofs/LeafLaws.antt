-- Types that hold no other accept all data of their schemas.
use Rattle.std.proofs.Common.{◌≡◌, [], ◌∷◌, true, refl, sym, subst, rules}
use Rattle.ron_spec_grammar.specs.Schema.{Shape, bool, int, char, str, unit, any_value, any_raw, is_well_formed}
use Rattle.ron_value_number.specs.declared.width.Width.{Width}
use Rattle.ron_value_number.specs.Number.{number_width}
use Rattle.ron_data.specs.declared.data.Data.{Data, out-Data, the_lemmas}
use Rattle.ron_data.specs.declared.data.Data.TheVariants as held
use Rattle.ron_data.specs.declared.data.Data.TheOpen.{Data-F}
use Rattle.ron_data.specs.declared.data.VariantData.{VariantData}
use Rattle.ron_types.specs.Accepts.{IsBool, IsInt, IsChar, IsText, IsUnit, IsAnyValue, IsRaw}
use Rattle.ron_types.specs.Tables.{leaf}
use Rattle.ron_types.specs.Laws.{AcceptsAll}
use Rattle.ron_types.proofs.OutlineLaws.{outline, outline_in, whole_accepts}

-- data of the outline is accepted
is_bool : (d : Data) (o : Data-F Data VariantData) → out-Data d ≡ o → bool ≡ outline_in o → IsBool d
is_bool d (Data-F.Bool b) at e = let is : d ≡ held.Bool b = search (rules, the_lemmas) in subst IsBool (sym is) tt
is_bool d o at e = absurd (cc)

is_int : (w : Width) (d : Data) (o : Data-F Data VariantData) → out-Data d ≡ o → int w ≡ outline_in o → IsInt w d
is_int w d (Data-F.Int n) at e = let is : d ≡ held.Int n = search (rules, the_lemmas) in let width : number_width n ≡ w = cc in subst (IsInt w) (sym is) width
is_int w d o at e = absurd (cc)

is_char : (d : Data) (o : Data-F Data VariantData) → out-Data d ≡ o → char ≡ outline_in o → IsChar d
is_char d (Data-F.Char c) at e = let is : d ≡ held.Char c = search (rules, the_lemmas) in subst IsChar (sym is) tt
is_char d o at e = absurd (cc)

is_text : (d : Data) (o : Data-F Data VariantData) → out-Data d ≡ o → str ≡ outline_in o → IsText d
is_text d (Data-F.Str t) at e = let is : d ≡ held.Str t = search (rules, the_lemmas) in subst IsText (sym is) tt
is_text d o at e = absurd (cc)

is_unit : (d : Data) (o : Data-F Data VariantData) → out-Data d ≡ o → unit ≡ outline_in o → IsUnit d
is_unit d Data-F.Data::Unit at e = let is : d ≡ held.Unit = search (rules, the_lemmas) in subst IsUnit (sym is) tt
is_unit d o at e = absurd (cc)

is_any_value : (d : Data) (o : Data-F Data VariantData) → out-Data d ≡ o → any_value ≡ outline_in o → IsAnyValue d
is_any_value d (Data-F.Value v) at e = let is : d ≡ held.Value v = search (rules, the_lemmas) in subst IsAnyValue (sym is) tt
is_any_value d o at e = absurd (cc)

is_raw : (d : Data) (o : Data-F Data VariantData) → out-Data d ≡ o → any_raw ≡ outline_in o → IsRaw d
is_raw d (Data-F.Raw r) at e = let is : d ≡ held.Raw r = search (rules, the_lemmas) in subst IsRaw (sym is) tt
is_raw d o at e = absurd (cc)

-- a leaf whose data has one outline
leaf_accepts : (s : Shape) (P : Data → Type 0) → is_well_formed (s ∷ []) 0 ≡ true
    → ((d : Data) (o : Data-F Data VariantData) → out-Data d ≡ o → outline s ≡ outline_in o → P d) → AcceptsAll (leaf s) P
leaf_accepts s P formed step = whole_accepts (leaf s) s P formed refl (λ d o at e h. step d o at e)

pub booleans : AcceptsAll (leaf bool) IsBool
booleans = leaf_accepts bool IsBool refl is_bool

pub integers : (w : Width) → AcceptsAll (leaf (int w)) (IsInt w)
integers w = leaf_accepts (int w) (IsInt w) refl (is_int w)

pub characters : AcceptsAll (leaf char) IsChar
characters = leaf_accepts char IsChar refl is_char

pub texts : AcceptsAll (leaf str) IsText
texts = leaf_accepts str IsText refl is_text

pub units : AcceptsAll (leaf unit) IsUnit
units = leaf_accepts unit IsUnit refl is_unit

pub values : AcceptsAll (leaf any_value) IsAnyValue
values = leaf_accepts any_value IsAnyValue refl is_any_value

pub raw_texts : AcceptsAll (leaf any_raw) IsRaw
raw_texts = leaf_accepts any_raw IsRaw refl is_raw
