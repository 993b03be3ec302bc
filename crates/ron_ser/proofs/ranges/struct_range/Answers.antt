use Rattle.std.proofs.Common.{◌≡◌, None, chars, sym, subst, ◌∙◌}
use Rattle.ron_spec_grammar.specs.Data.{struct_of}
use Rattle.ron_spec_layout.specs.Ranges.{range_text}
use Rattle.ron_data.specs.Datum.{fields_view}
use Rattle.ron_ser.proofs.RangeLemmas.{many_none}
use Rattle.ron_ser.proofs.ranges.struct_range.Goals as goal

pub returns-in-None : goal.returns-in-None
returns-in-None c suffixes =
    let name = chars c.args.name.now in
    subst (λ fields. None ≡ range_text suffixes (struct_of name (fields_view fields))) (sym c.in-Some.ensures.cases.0)
    (many_none suffixes name c.in-Some.first.now c.in-Some.rest.now (sym c.is_empty.ensures ∙ c.if-is_empty.false) c.in-None.ensures)
