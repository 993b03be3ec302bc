use Rattle.std.proofs.Common.{◌≡◌, Ok, Err, IfOk, IfErr, MatchResult, chars, string_bytes, refl, sym, subst, inl}
use Rattle.std.proofs.lemmas.Result.{err_from_is_err_and}
use Rattle.ron.specs.Config.{no_config}
use Rattle.ron.specs.Table.{table_of}
use Rattle.ron.specs.ValueText.{value_table}
use Rattle.ronv_command.specs.Faults.{IsFaultBy}
use Rattle.ronv_command.specs.Flags.{layout_of}
use Rattle.ronv_command.specs.Point.{point_table}
use Rattle.ronv_command.specs.Run.{RewritesBy}
use Rattle.ronv_command.proofs.RunLemmas.{mapped_from, unmade}
use Rattle.ronv_command.proofs.run.answer.Goals as goal

pub returns-in_ok-schema-in-Point-clause-text : goal.returns-in_ok-schema-in-Point-clause-text
returns-in_ok-schema-in-Point-clause-text g c =
    let schema : c.point_schema.result ≡ Ok c.in_ok-schema-in-Point.schema =
    mapped_from c.point_schema.result _ c.in_ok-schema-in-Point.schema refl c.in_ok-schema-in-Point.ensures.cases in
    let table : table_of c.in_ok-schema-in-Point.schema ≡ point_table = rw schema at c.point_schema.ensures in
    rw c.in-Point.is (subst (λ t. IfOk c.compact.result (λ s. RewritesBy t no_config (g.R.Read.remaining c.args.input.now) (chars (string_bytes s)))) table
    c.compact.ensures.text)

pub returns-in_ok-schema-in-Point-clause-fault : goal.returns-in_ok-schema-in-Point-clause-fault
returns-in_ok-schema-in-Point-clause-fault g c =
    let schema : c.point_schema.result ≡ Ok c.in_ok-schema-in-Point.schema =
    mapped_from c.point_schema.result _ c.in_ok-schema-in-Point.schema refl c.in_ok-schema-in-Point.ensures.cases in
    let table : table_of c.in_ok-schema-in-Point.schema ≡ point_table = rw schema at c.point_schema.ensures in
    rw c.in-Point.is (subst (λ t. IfErr c.compact.result (IsFaultBy t no_config (g.R.Read.remaining c.args.input.now))) table c.compact.ensures.fault)

pub returns-in_ok-schema-in-Value-clause-text : goal.returns-in_ok-schema-in-Value-clause-text
returns-in_ok-schema-in-Value-clause-text g c =
    let schema : c.value_schema.result ≡ Ok c.in_ok-schema-in-Value.schema =
    mapped_from c.value_schema.result _ c.in_ok-schema-in-Value.schema refl c.in_ok-schema-in-Value.ensures.cases in
    let table : table_of c.in_ok-schema-in-Value.schema ≡ value_table = rw schema at c.value_schema.ensures in
    rw c.in-Value.is (subst (λ t. IfOk c.compact-in-Value.result (λ s. RewritesBy t no_config (g.R.Read.remaining c.args.input.now) (chars (string_bytes s))))
    table c.compact-in-Value.ensures.text)

pub returns-in_ok-schema-in-Value-clause-fault : goal.returns-in_ok-schema-in-Value-clause-fault
returns-in_ok-schema-in-Value-clause-fault g c =
    let schema : c.value_schema.result ≡ Ok c.in_ok-schema-in-Value.schema =
    mapped_from c.value_schema.result _ c.in_ok-schema-in-Value.schema refl c.in_ok-schema-in-Value.ensures.cases in
    let table : table_of c.in_ok-schema-in-Value.schema ≡ value_table = rw schema at c.value_schema.ensures in
    rw c.in-Value.is
    (subst (λ t. IfErr c.compact-in-Value.result (IsFaultBy t no_config (g.R.Read.remaining c.args.input.now))) table c.compact-in-Value.ensures.fault)

pub returns-in_ok-schema-in-Format-clause-text : goal.returns-in_ok-schema-in-Format-clause-text
returns-in_ok-schema-in-Format-clause-text g c =
    let schema : c.value_schema-in-Format.result ≡ Ok c.in_ok-schema-in-Format.schema =
    mapped_from c.value_schema-in-Format.result _ c.in_ok-schema-in-Format.schema refl c.in_ok-schema-in-Format.ensures.cases in
    let table : table_of c.in_ok-schema-in-Format.schema ≡ value_table = rw schema at c.value_schema-in-Format.ensures in
    rw c.in-Format.is (subst (λ t. IfOk c.format.result
    (λ s. RewritesBy t (layout_of c.in-Format.flags) (g.R.Read.remaining c.args.input.now) (chars (string_bytes s)))) table c.format.ensures.text)

pub returns-in_ok-schema-in-Format-clause-fault : goal.returns-in_ok-schema-in-Format-clause-fault
returns-in_ok-schema-in-Format-clause-fault g c =
    let schema : c.value_schema-in-Format.result ≡ Ok c.in_ok-schema-in-Format.schema =
    mapped_from c.value_schema-in-Format.result _ c.in_ok-schema-in-Format.schema refl c.in_ok-schema-in-Format.ensures.cases in
    let table : table_of c.in_ok-schema-in-Format.schema ≡ value_table = rw schema at c.value_schema-in-Format.ensures in
    rw c.in-Format.is
    (subst (λ t. IfErr c.format.result (IsFaultBy t (layout_of c.in-Format.flags) (g.R.Read.remaining c.args.input.now))) table c.format.ensures.fault)

pub returns-in_err-schema-in-Point-clause-fault : goal.returns-in_err-schema-in-Point-clause-fault
returns-in_err-schema-in-Point-clause-fault g c =
    let known = g.R.Read.remaining c.args.input.now in
    let p = err_from_is_err_and c.from_residual.result c.from_residual.ensures.1 in
    let told = unmade _ point_table no_config known c.point_schema.result c.map_err.result c.point_schema.ensures c.map_err.ensures.cases in
    rw c.in-Point.is (rw (p.1, p.2) (subst (λ r. IfErr r (IsFaultBy point_table no_config known)) c.in_err-schema-in-Point.was told))

pub returns-in_err-schema-in-Value-clause-fault : goal.returns-in_err-schema-in-Value-clause-fault
returns-in_err-schema-in-Value-clause-fault g c =
    let known = g.R.Read.remaining c.args.input.now in
    let p = err_from_is_err_and c.from_residual-in_err-schema-in-Value.result c.from_residual-in_err-schema-in-Value.ensures.1 in
    let told = unmade _ value_table no_config known c.value_schema.result c.map_err-in-Value.result c.value_schema.ensures c.map_err-in-Value.ensures.cases in
    rw c.in-Value.is (rw (p.1, p.2) (subst (λ r. IfErr r (IsFaultBy value_table no_config known)) c.in_err-schema-in-Value.was told))

pub returns-in_err-schema-in-Format-clause-fault : goal.returns-in_err-schema-in-Format-clause-fault
returns-in_err-schema-in-Format-clause-fault g c =
    let known = g.R.Read.remaining c.args.input.now in
    let p = err_from_is_err_and c.from_residual-in_err-schema-in-Format.result c.from_residual-in_err-schema-in-Format.ensures.1 in
    let told = unmade _ value_table (layout_of c.in-Format.flags) known c.value_schema-in-Format.result c.map_err-in-Format.result
    c.value_schema-in-Format.ensures c.map_err-in-Format.ensures.cases in
    rw c.in-Format.is (rw (p.1, p.2) (subst (λ r. IfErr r (IsFaultBy value_table (layout_of c.in-Format.flags) known)) c.in_err-schema-in-Format.was told))
