use Rattle.std.proofs.Common.{chars, string_bytes, sym, ap, ◌∙◌, arith}
use Rattle.ron_spec_grammar.specs.Data as plain
use Rattle.ron_data.specs.declared.data.Data.TheVariants as data_
use Rattle.ron_data.specs.Datum.{data_view, content_view, pairs_of, fields_of, named_of}
use Rattle.ron_data.proofs.DatumLemmas.{view-some, view-map, view-struct, view-named}
use Rattle.ron_data.proofs.WeightLemmas.{weight, content_weight}
use Rattle.ron_data.proofs.owned.+owned.Goals as goal

pub owned-returns-in_ok-owned_box-in-Some : goal.owned-returns-in_ok-owned_box-in-Some
owned-returns-in_ok-owned_box-in-Some t c =
    view-some c.in_ok-owned_box-in-Some.field-0 ∙ ap plain.some_of c.in_ok-owned_box-in-Some.ensures ∙ sym (view-some c.in-Some.content)
    ∙ sym (ap data_view (c.in-Option.is ∙ ap data_.Option c.in-Some.is))

pub owned-returns-in_ok-owned_pairs-in-Map : goal.owned-returns-in_ok-owned_pairs-in-Map
owned-returns-in_ok-owned_pairs-in-Map t c =
    view-map c.in_ok-owned_pairs-in-Map.field-0 ∙ ap (λ ps. plain.map_of (pairs_of ps)) c.in_ok-owned_pairs-in-Map.ensures ∙ sym (view-map c.in-Map.pairs)
    ∙ sym (ap data_view c.in-Map.is)

pub owned-returns-in_ok-owned_fields-in-Struct : goal.owned-returns-in_ok-owned_fields-in-Struct
owned-returns-in_ok-owned_fields-in-Struct t c =
    view-struct c.in-Struct.name c.in_ok-owned_fields-in-Struct.field-0 ∙ ap (λ fs. plain.struct_of (chars (string_bytes c.in-Struct.name)) (fields_of fs))
    c.in_ok-owned_fields-in-Struct.ensures ∙ sym (view-struct c.in-Struct.name c.in-Struct.fields) ∙ sym (ap data_view c.in-Struct.is)

pub owned_content-returns-in_ok-owned_fields-in-Struct :
    goal.owned_content-returns-in_ok-owned_fields-in-Struct
owned_content-returns-in_ok-owned_fields-in-Struct t c =
    view-named c.in_ok-owned_fields-in-Struct.field-0 ∙ ap (λ fs. named_of (fields_of fs)) c.in_ok-owned_fields-in-Struct.ensures
    ∙ sym (view-named c.in-Struct.fields) ∙ sym (ap content_view c.in-Struct.is)

pub owned-owned_fields-requires : goal.owned-owned_fields-requires
owned-owned_fields-requires t c =
    let larger = ap weight (ap data_view c.in-Struct.is ∙ view-struct c.in-Struct.name c.in-Struct.fields) in (omega (arith, larger), tt)

pub owned_content-owned_fields-requires : goal.owned_content-owned_fields-requires
owned_content-owned_fields-requires t c =
    let larger = ap content_weight (ap content_view c.in-Struct.is ∙ view-named c.in-Struct.fields) in (omega (arith, larger), tt)
