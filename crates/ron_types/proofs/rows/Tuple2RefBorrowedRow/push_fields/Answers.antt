use Rattle.std.proofs.Common.{List, ◌∷◌, ℕ, sym, ap, subst}
use Rattle.std.proofs.lemmas.Result.{MatchResult-weaker}
use Rattle.ron_types.specs.FieldNames.{texts_of}
use Rattle.ron_types.specs.Rows.{NamedThen, PushesFields}
use Rattle.ron_types.proofs.RowLemmas.{fields_pushed}
use Rattle.ron_types.proofs.rows.Tuple2RefBorrowedRow.push_fields.Goals as goal

pub returns-in_ok-push-in-Some-clause-value : goal.returns-in_ok-push-in-Some-clause-value
returns-in_ok-push-in-Some-clause-value g c =
    let held = c.in_ok-field-in-Some.ensures in
    let names = ap texts_of c.in-Some.ensures.cases.0 in
    let datas = g.A.Schematic.data c.args.self.0.now ∷ g.R.BorrowedRow.datas c.args.self.1 in
    let accepts = NamedThen g.A.Schematic.accepts g.R.BorrowedRow.accepts_named in
    MatchResult-weaker c.push_fields.result c.push_fields.ensures.value
    (λ new h. subst (λ (names : List (List ℕ)). PushesFields names datas accepts c.args.fields.items new.items) (sym names)
    (fields_pushed g.A.Schematic.accepts _ _ g.R.BorrowedRow.accepts_named c.in-Some.name.now.now _ _ _ _ c.in_ok-field-in-Some.field-0 held.value held.accepted
    c.in_ok-push-in-Some.ensures.items h))
    (λ e h. h)
