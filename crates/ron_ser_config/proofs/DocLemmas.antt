-- The doc comment at a name, and those within, by the field that is found there.
use Rattle.std.proofs.Common.{◌≡◌, ℕ, true, false, cond, Option, None, Some, List, [], ◌∷◌, map, refl, sym, ap, ◌∙◌, string_bytes, IsUtf8, encode_utf8_all}
use Rattle.std.specs.Prelude.{String, chars}
use Rattle.std.specs.Global.{Global}
use Rattle.std.specs.Option.{option_map}
use Rattle.std.specs.Ordering.{is_eq}
use Rattle.std.specs.Str.{bytes_eq}
use Rattle.std.proofs.lemmas.Str.{encodes-chars, IsUtf8-string_bytes}
use Rattle.std.proofs.lemmas.Bool.Decides.{same_from_decides, Decides-at}
use Rattle.std.proofs.lemmas.Slice.Eq.{bytes_eq-Decides}
use Rattle.std.proofs.lemmas.Map.Text.{is_eq-slice_cmp}
use Rattle.ron_spec_words.specs.Runs.{same_text}
use Rattle.ron_spec_layout.specs.Config.{Docs, no_docs}
use Rattle.ron_spec_layout.specs.Docs.{doc_of, docs_within}
use Rattle.ron_ser_config.specs.declared.path_meta.field.Field.{Field}
use Rattle.ron_ser_config.specs.declared.path_meta.fields.Fields.{Fields}
use Rattle.ron_ser_config.specs.Tree.{FieldTree, field_from, fields_from}
use Rattle.ron_ser_config.specs.View.{doc_bytes, fields_within, Entries, entry_tree, field_tree, fields_tree, doc_in, docs_in, docs_under, docs_of, doc_told}
use Rattle.ron_ser_config.specs.View.{docs_below, meta_tree}
use Rattle.ron_ser_config.specs.Entries.{name_cmp, field_at}
use Rattle.ron_ser_config.proofs.FieldTrees.{field_tree-is}

-- ---- one field

-- what is below a field of this tree
abbrev pub docs_seen : Option FieldTree → Docs
docs_seen None = no_docs
docs_seen (Some t) = docs_under t

doc_from : (doc : List ℕ) (o : Option Fields) → doc_in (field_from doc (option_map fields_tree o)) ≡ doc
doc_from doc None = refl
doc_from doc (Some fs) = refl

under_from : (doc : List ℕ) (o : Option Fields) → docs_under (field_from doc (option_map fields_tree o)) ≡ docs_of o
under_from doc None = refl
under_from doc (Some fs) = refl

doc_in-is : (f : Field) → doc_in (field_tree f) ≡ doc_bytes f
doc_in-is f = ap doc_in (field_tree-is f) ∙ doc_from (doc_bytes f) (fields_within f)

docs_under-is : (f : Field) → docs_under (field_tree f) ≡ docs_of (fields_within f)
docs_under-is f = ap docs_under (field_tree-is f) ∙ under_from (doc_bytes f) (fields_within f)

-- fields of one tree have the same docs below
pub docs_below-is : (o : Option Field) → docs_below o ≡ docs_seen (meta_tree o)
docs_below-is None = refl
docs_below-is (Some f) = sym (docs_under-is f)

-- ---- among entries

-- a text is a name where both have the same bytes, and so the same characters
same_name : (text : List ℕ) (name : String Global) → IsUtf8 text → same_text (chars (string_bytes name)) (chars text) ≡ is_eq (name_cmp text name)
same_name text name u =
    let by_chars = bytes_eq-Decides (chars (string_bytes name)) (chars text) in
    let back = λ (same : chars text ≡ chars (string_bytes name)). sym (encodes-chars text u) ∙ ap encode_utf8_all same
    ∙ encodes-chars (string_bytes name) (IsUtf8-string_bytes name) in
    same_from_decides {P = text ≡ string_bytes name} (same_text (chars (string_bytes name)) (chars text)) (is_eq (name_cmp text name))
    (λ t. back (sym (by_chars.0 t)), λ same. by_chars.1 (ap chars (sym same)))
    (Decides-at (is_eq (name_cmp text name)) (bytes_eq text (string_bytes name)) (is_eq-slice_cmp text (string_bytes name))
    (bytes_eq-Decides text (string_bytes name)))

module _ (text : List ℕ) (u : IsUtf8 text) where
  pub doc_at : (es : Entries) → doc_of (docs_in (fields_from (map entry_tree es))) (chars text) ≡ doc_told (field_at text es)
  doc_at [] = refl
  doc_at (e ∷ es) =
      let rest = doc_of (docs_in (fields_from (map entry_tree es))) (chars text) in
      rw (same_name text e.0 u) (elim (is_eq (name_cmp text e.0))
      as (λ b. cond b (chars (doc_in (field_tree e.1))) rest ≡ doc_told (cond b (Some e.1) (field_at text es))) [
        | true ↦ ap chars (doc_in-is e.1)
        | false ↦ doc_at es
      ])

  pub docs_at : (es : Entries) → docs_within (docs_in (fields_from (map entry_tree es))) (chars text) ≡ docs_below (field_at text es)
  docs_at [] = refl
  docs_at (e ∷ es) =
      let rest = docs_within (docs_in (fields_from (map entry_tree es))) (chars text) in
      rw (same_name text e.0 u) (elim (is_eq (name_cmp text e.0))
      as (λ b. cond b (docs_under (field_tree e.1)) rest ≡ docs_below (cond b (Some e.1) (field_at text es))) [
        | true ↦ docs_under-is e.1
        | false ↦ docs_at es
      ])
