-- What is accepted of a struct, and what it stands for: for structs of a user's own.
use Rattle.std.proofs.Common.{◌≡◌, List, Vec, String, Global, chars, string_bytes, rules, sym, ap, subst, ◌∙◌}
use Rattle.ron_spec_words.specs.Characters.{Text}
use Rattle.ron_spec_grammar.specs.Data as plain
use Rattle.ron_data.specs.declared.data.Data.{Data, the_lemmas}
use Rattle.ron_data.specs.declared.data.Data.TheVariants as held
use Rattle.ron_data.specs.Datum.{data_view, fields_view}
use Rattle.ron_types.specs.Accepts.{IsStruct}
use Rattle.ron_types.specs.FieldNames.{Field}
use Rattle.ron_types.proofs.BackLemmas.{view-Struct}

pub accepts-Struct : (name : Text) (P : List Field → Type 0) (found : String Global) (fields : Vec Field Global) → chars (string_bytes found) ≡ name
    → P fields.items → IsStruct name P (held.Struct found fields)
accepts-Struct name P found fields e h = search (rules, the_lemmas)

from-Struct : (name : Text) (P : List Field → Type 0) (found : String Global) (fields : Vec Field Global) → IsStruct name P (held.Struct found fields)
    → P fields.items
from-Struct name P found fields h = search (rules, the_lemmas)

module _ (name : Text) (d : Data) (found : String Global) (fields : Vec Field Global) (is : d ≡ held.Struct found fields) where
  pub struct_accepted : (P : List Field → Type 0) → chars (string_bytes found) ≡ name → P fields.items → IsStruct name P d
  struct_accepted P e h = subst (IsStruct name P) (sym is) (accepts-Struct name P found fields e h)

  pub struct_fields : (P : List Field → Type 0) → IsStruct name P d → P fields.items
  struct_fields P h = from-Struct name P found fields (subst (IsStruct name P) is h)

  pub struct_view : chars (string_bytes found) ≡ name → data_view d ≡ plain.struct_of name (fields_view fields.items)
  struct_view e = ap data_view is ∙ (view-Struct found fields ∙ ap (λ n. plain.struct_of n (fields_view fields.items)) e)
