use Rattle.std.proofs.Common.{◌≡◌, true, List, ◌∷◌, Option, option_map, chars, refl, sym, ap, subst, ◌∙◌}
use Rattle.std.specs.Result.{OnOk}
use Rattle.std.proofs.lemmas.Result.{MatchResult-weaker, on_ok_weaker}
use Rattle.ron_spec_grammar.specs.Data as plain
use Rattle.ron_data.specs.Datum.{data_view}
use Rattle.ron_types.specs.FieldNames.{Field}
use Rattle.ron_types_fields.specs.Names.{Name, name_in, names_in}
use Rattle.ron_types_fields.specs.Rows.{PushesFields, own_differ}
use Rattle.ron_types_fields.specs.Spelled.{spelled_fields, spelled_normal, SpelledThen}
use Rattle.ron_types_fields.proofs.RowLemmas.{left_out, put_in, kept_then}
use Rattle.ron_types_fields.proofs.rows.Tuple2FieldsToData.push_fields.Goals as goal

pub returns-in_ok-push-in-Some-held-clause-value : goal.returns-in_ok-push-in-Some-held-clause-value
returns-in_ok-push-in-Some-held-clause-value g c =
    let P = g.F.FieldType.accepts in
    let Rest = g.R.FieldRow.accepts in
    let names = ap names_in c.in-Some.ensures.cases.0 in
    let n = name_in c.in-Some.name.now in
    let ns = names_in c.in-Some.names.now in
    let ds = g.R.FieldsToData.lent c.args.values.1 in
    let old = c.args.fields.items in
    let held = c.in-Some-held.held in
    let field : Field = (c.in_ok-from_str-in-Some-held.field-0, held) in
    let is = sym (ap (option_map data_view) c.in-Some-held.is) ∙ c.in_ok-held.ensures.value in
    let accepted = subst P c.in-Some-held.is c.in_ok-held.ensures.accepted in
    let called = ap chars c.in_ok-from_str-in-Some-held.ensures.ok in
    MatchResult-weaker c.push_fields-in-Some-held.result c.push_fields-in-Some-held.ensures.value
    (λ new h. subst (λ (names : List Name). PushesFields names (g.F.FieldType.spelled c.args.values.0.now ∷ ds) (SpelledThen P Rest) old new.items) (sym names)
    (subst (λ (d : Option plain.Data). PushesFields (n ∷ ns) (d ∷ ds) (SpelledThen P Rest) old new.items) is
    (put_in P Rest n ns ds (data_view held) old _ new.items field called refl accepted c.in_ok-push-in-Some-held.ensures.items h)))
    (λ e h. h)

pub returns-in-None-clause-value : goal.returns-in-None-clause-value
returns-in-None-clause-value g c =
    let P = g.F.FieldType.accepts in
    let Rest = g.R.FieldRow.accepts in
    let names = ap names_in c.in-Some.ensures.cases.0 in
    let n = name_in c.in-Some.name.now in
    let ns = names_in c.in-Some.names.now in
    let ds = g.R.FieldsToData.lent c.args.values.1 in
    let old = c.args.fields.items in
    let is = sym (ap (option_map data_view) c.in-None.is) ∙ c.in_ok-held.ensures.value in
    let accepted = subst P c.in-None.is c.in_ok-held.ensures.accepted in
    MatchResult-weaker c.push_fields-in-None.result c.push_fields-in-None.ensures.value
    (λ new h. subst (λ (names : List Name). PushesFields names (g.F.FieldType.spelled c.args.values.0.now ∷ ds) (SpelledThen P Rest) old new.items) (sym names)
    (subst (λ (d : Option plain.Data). PushesFields (n ∷ ns) (d ∷ ds) (SpelledThen P Rest) old new.items) is
    (left_out P Rest n ns ds old new.items accepted h)))
    (λ e h. h)

pub returns-in-None-clause-kept : goal.returns-in-None-clause-kept
returns-in-None-clause-kept g c =
    let f = g.F.FieldType.normal in
    let fs = g.R.FieldRow.normals in
    let names = ap names_in c.in-Some.ensures.cases.0 in
    let n = name_in c.in-Some.name.now in
    let ns = names_in c.in-Some.names.now in
    let d = g.F.FieldType.spelled c.args.values.0.now in
    let ds = g.R.FieldsToData.lent c.args.values.1 in
    subst (λ (names : List Name). OnOk c.push_fields-in-None.result
    (own_differ names ≡ true → spelled_normal names (f ∷ fs) (spelled_fields names (d ∷ ds)) ≡ spelled_fields names (d ∷ ds))) (sym names)
    (on_ok_weaker c.push_fields-in-None.result (kept_then f fs n ns d ds c.in_ok-held.ensures.kept) c.push_fields-in-None.ensures.kept)
