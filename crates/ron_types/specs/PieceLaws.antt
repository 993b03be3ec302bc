-- What is told by the data of structs and variants: that of their parts.
use Rattle.std.specs.Prelude.{◌≡◌, ℕ, Bool, true, false, List, [], ◌∷◌, chars}
use Rattle.std.proofs.Common.{refl, sym, ap, ◌∙◌, true≢false}
use Rattle.ron_spec_words.specs.Characters.{Text}
use Rattle.ron_spec_grammar.specs.Data.{Data, struct_of, the_unit, unit_variant_of, newtype_variant_of, tuple_variant_of, struct_variant_of, Datas, no_datas}
use Rattle.ron_spec_grammar.specs.Data.{datas, Fields, no_fields, field_and}
use Rattle.ron_data.specs.Datum.{Content, no_content, one_of, items_of, named_of, variant_of}
use Rattle.ron_types.specs.Kinds.{variant_data}
use Rattle.ron_types.specs.Keys as keys
use Rattle.ron_types.specs.Rows.{named_fields, struct_data}
use Rattle.ron_types.specs.Recovery.{AreEqual, AreEqualNamed}
use Rattle.ron_types.specs.RecoveryLaws.{equal_lists, items_back}

-- ---- fields

abbrev is_field : Fields → Bool
is_field no_fields = false
is_field (field_and n d fs) = true

abbrev first_field_or : Data → Fields → Data
first_field_or d no_fields = d
first_field_or d (field_and n e fs) = e

abbrev others_of : Fields → Fields
others_of no_fields = no_fields
others_of (field_and n d fs) = fs

fields_tell : (names : List (List ℕ)) (ds es : List Data) → named_fields names ds ≡ named_fields names es → AreEqualNamed names ds es
fields_tell [] ds es e = tt
fields_tell (n ∷ ns) [] [] e = tt
fields_tell (n ∷ ns) [] (c ∷ cs) e = absurd (true≢false (sym (ap is_field e)))
fields_tell (n ∷ ns) (d ∷ ds) [] e = absurd (true≢false (ap is_field e))
fields_tell (n ∷ ns) (d ∷ ds) (c ∷ cs) e = (ap (first_field_or d) e, fields_tell ns ds cs (ap others_of e))

abbrev fields_in : Data → Fields
fields_in (struct_of name fs) = fs
fields_in _ = no_fields

-- structs, by the data of their fields
pub structs_tell : {T : Type 0} (name : List ℕ) (names : List (List ℕ)) (x y : T) (fields : T → List Data)
    → struct_data name names (fields x) ≡ struct_data name names (fields y) → AreEqualNamed names (fields x) (fields y)
structs_tell name names x y fields e = fields_tell names (fields x) (fields y) (ap fields_in e)

-- ---- what variants hold

abbrev one_in : Data → Data
one_in (newtype_variant_of name v d) = d
one_in _ = the_unit

abbrev row_in : Data → Datas
row_in (tuple_variant_of name v ds) = ds
row_in _ = no_datas

abbrev named_in : Data → Fields
named_in (struct_variant_of name v fs) = fs
named_in _ = no_fields

pub newtype_variants_tell : (name v : List ℕ) (d e : Data) → variant_data name v (one_of d) ≡ variant_data name v (one_of e) → d ≡ e
newtype_variants_tell name v d e same = ap one_in same

pub tuple_variants_tell : (name v : List ℕ) (ds es : List Data) → variant_data name v (items_of (datas ds)) ≡ variant_data name v (items_of (datas es))
    → AreEqual ds es
tuple_variants_tell name v ds es same = equal_lists ds es (sym (items_back ds) ∙ ap (λ d. keys.items_of (row_in d)) same ∙ items_back es)

pub struct_variants_tell : (name v : List ℕ) (names : List (List ℕ)) (ds es : List Data)
    → variant_data name v (named_of (named_fields names ds)) ≡ variant_data name v (named_of (named_fields names es)) → AreEqualNamed names ds es
struct_variants_tell name v names ds es same = fields_tell names ds es (ap named_in same)

-- ---- variants that differ

abbrev variant_in : Data → Text
variant_in (unit_variant_of name v) = v
variant_in (newtype_variant_of name v d) = v
variant_in (tuple_variant_of name v ds) = v
variant_in (struct_variant_of name v fs) = v
variant_in _ = []

variant_back : (name v : Text) (c : Content) → variant_in (variant_of name v c) ≡ v
variant_back name v no_content = refl
variant_back name v (one_of d) = refl
variant_back name v (items_of ds) = refl
variant_back name v (named_of fs) = refl

-- variants with equal data have one name
pub variants_tell : (name v w : List ℕ) (c d : Content) → variant_data name v c ≡ variant_data name w d → chars v ≡ chars w
variants_tell name v w c d e = sym (variant_back (chars name) (chars v) c) ∙ ap variant_in e ∙ variant_back (chars name) (chars w) d
