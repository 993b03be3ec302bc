use Rattle.std.proofs.Common.{◌≡◌, true, Ok, IfOk, IfErr, chars, string_bytes, refl, sym, subst, rules}
use Rattle.std.proofs.lemmas.Result.{err_from_is_err_and}
use Rattle.ron.specs.Bytes.{ReadsReader}
use Rattle.ron.specs.Datum.{data_view}
use Rattle.ron.specs.Encodable.{is_encodable}
use Rattle.ron.specs.Layout.{extensions_under, full_layout}
use Rattle.ron.specs.Table.{table_of}
use Rattle.ron.specs.Name.{first_refused}
use Rattle.ron.specs.Whole.{EndsDocs, SpellsNormalForm}
use Rattle.ron.specs.WritingRefusals.{RefusesText, HoldsName}
use Rattle.ronv_command.specs.Faults.{IsFaultBy}
use Rattle.ronv_command.specs.Flags.{layout_of}
use Rattle.ronv_command.specs.Run.{RewritesBy}
use Rattle.ronv_command.proofs.RunLemmas.{rewritten, refused_of, unwritten, mapped_ok, mapped_err, mapped_from}
use Rattle.ronv_command.proofs.run.format.Goals as goal

pub returns-clause-text : goal.returns-clause-text
returns-clause-text g c =
    let options = c.default-options.result in
    let known = g.R.Read.remaining c.args.input.now in
    let left = g.R.Read.remaining c.from_reader_seed.new.reader in
    let table = table_of c.args.schema.now in
    let datum = data_view c.in_ok-data.data in
    let written = c.to_string_data.result in
    let answer : c.from_reader_seed.result ≡ Ok c.in_ok-data.data = mapped_from c.from_reader_seed.result _ c.in_ok-data.data refl c.in_ok-data.ensures.cases in
    let read = subst (λ r. ReadsReader options.default_extensions options.recursion_limit table known left r) answer c.from_reader_seed.ensures.reads in
    let text =
    subst (λ k. IfOk written (λ s. chars (string_bytes s) ≡ full_layout options.default_extensions k datum)) c.layout.ensures c.to_string_data.ensures.text in
    let back = subst (λ k. IfOk written (λ s. is_encodable (extensions_under options.default_extensions k).implicit_some datum ≡ true → EndsDocs k datum
    → SpellsNormalForm options.default_extensions k datum (chars (string_bytes s)))) c.layout.ensures c.to_string_data.ensures.reads_back in
    mapped_ok (λ t. RewritesBy table (layout_of c.args.flags) known (chars (string_bytes t))) _ written c.map_err-2.result c.map_err-2.ensures.cases
    (rewritten _ _ table (layout_of c.args.flags) known left c.in_ok-data.data datum written (search rules) (search rules) read refl refl refl text back
    c.to_string_data.ensures.encodable)

pub returns-clause-fault : goal.returns-clause-fault
returns-clause-fault g c =
    let options = c.default-options.result in
    let known = g.R.Read.remaining c.args.input.now in
    let left = g.R.Read.remaining c.from_reader_seed.new.reader in
    let table = table_of c.args.schema.now in
    let datum = data_view c.in_ok-data.data in
    let answer : c.from_reader_seed.result ≡ Ok c.in_ok-data.data = mapped_from c.from_reader_seed.result _ c.in_ok-data.data refl c.in_ok-data.ensures.cases in
    let read = subst (λ r. ReadsReader options.default_extensions options.recursion_limit table known left r) answer c.from_reader_seed.ensures.reads in
    mapped_err (IsFaultBy table (layout_of c.args.flags) known) _ c.to_string_data.result c.map_err-2.result c.map_err-2.ensures.cases (λ e f was is.
    subst (IsFaultBy table (layout_of c.args.flags) known) (sym is)
    (unwritten _ _ table (layout_of c.args.flags) known left c.in_ok-data.data e (search rules) (search rules) read
    (subst (λ r. IfErr r (RefusesText (layout_of c.args.flags) options.recursion_limit datum)) was (rw c.layout.ensures at c.to_string_data.ensures).refused)
    (subst (λ r. IfErr r (HoldsName (first_refused datum))) was c.to_string_data.ensures.refused_name)))

pub returns-in_err-data-clause-fault : goal.returns-in_err-data-clause-fault
returns-in_err-data-clause-fault g c =
    let options = c.default-options.result in
    let known = g.R.Read.remaining c.args.input.now in
    let left = g.R.Read.remaining c.from_reader_seed.new.reader in
    let table = table_of c.args.schema.now in
    let p = err_from_is_err_and c.from_residual.result c.from_residual.ensures.1 in
    let told = mapped_err (IsFaultBy table (layout_of c.args.flags) known) _ c.from_reader_seed.result c.map_err.result c.map_err.ensures.cases (λ e f was is.
    subst (IsFaultBy table (layout_of c.args.flags) known) (sym is)
    (refused_of _ _ table known left e (search rules) (search rules)
    (subst (λ r. ReadsReader options.default_extensions options.recursion_limit table known left r) was c.from_reader_seed.ensures.reads))) in
    rw (p.1, p.2) (subst (λ r. IfErr r (IsFaultBy table (layout_of c.args.flags) known)) c.in_err-data.was told)
