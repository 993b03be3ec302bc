use Rattle.std.proofs.Common.{List, ℕ, chars, subst, string_bytes}
use Rattle.ron_spec_grammar.specs.Schema.{newtype}
use Rattle.ron_types.proofs.PartLemmas.{Makes, above_is}
use Rattle.ron_types_fields.specs.NamedStructs.{table_of_newtype}
use Rattle.ron_types_fields.proofs.newtypes.newtype_schema.Goals as goal

pub returns : goal.returns
returns g c =
    let t = g.T.Schematic.schema_is in
    subst (λ (name : List ℕ). Makes c.top.result (table_of_newtype name t)) c.in_ok-from_str.ensures.ok
    (above_is c.top.result (newtype (chars (string_bytes c.in_ok-from_str.field-0))) t c.in_ok-held.held _ _ c.new-parts.ensures c.in_ok-held.ensures.value
    c.top.ensures)
