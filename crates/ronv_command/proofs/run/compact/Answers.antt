use Rattle.std.proofs.Common.{◌≡◌, Ok, IfErr, chars, string_bytes, refl, sym, subst, rules}
use Rattle.std.proofs.lemmas.Result.{err_from_is_err_and}
use Rattle.ron.specs.Bytes.{ReadsReader}
use Rattle.ron.specs.Config.{no_config}
use Rattle.ron.specs.Datum.{data_view}
use Rattle.ron.specs.Table.{table_of}
use Rattle.ron.specs.Name.{first_refused}
use Rattle.ron.specs.WritingRefusals.{RefusesText, HoldsName}
use Rattle.ronv_command.specs.Faults.{IsFaultBy}
use Rattle.ronv_command.specs.Run.{RewritesBy}
use Rattle.ronv_command.proofs.RunLemmas.{rewritten, refused_of, unwritten, mapped_ok, mapped_err, mapped_from}
use Rattle.ronv_command.proofs.run.compact.Goals as goal

pub returns-clause-text : goal.returns-clause-text
returns-clause-text g c =
    let options = c.default-options.result in
    let known = g.R.Read.remaining c.args.input.now in
    let left = g.R.Read.remaining c.from_reader_seed.new.reader in
    let table = table_of c.args.schema.now in
    let answer : c.from_reader_seed.result ≡ Ok c.in_ok-data.data = mapped_from c.from_reader_seed.result _ c.in_ok-data.data refl c.in_ok-data.ensures.cases in
    let read = subst (λ r. ReadsReader options.default_extensions options.recursion_limit table known left r) answer c.from_reader_seed.ensures.reads in
    mapped_ok (λ t. RewritesBy table no_config known (chars (string_bytes t))) _ c.to_string_data.result c.map_err-2.result c.map_err-2.ensures.cases
    (rewritten _ _ table no_config known left c.in_ok-data.data (data_view c.in_ok-data.data) c.to_string_data.result (search rules) (search rules) read refl
    refl refl c.to_string_data.ensures.text c.to_string_data.ensures.reads_back c.to_string_data.ensures.encodable)

pub returns-clause-fault : goal.returns-clause-fault
returns-clause-fault g c =
    let options = c.default-options.result in
    let known = g.R.Read.remaining c.args.input.now in
    let left = g.R.Read.remaining c.from_reader_seed.new.reader in
    let table = table_of c.args.schema.now in
    let datum = data_view c.in_ok-data.data in
    let answer : c.from_reader_seed.result ≡ Ok c.in_ok-data.data = mapped_from c.from_reader_seed.result _ c.in_ok-data.data refl c.in_ok-data.ensures.cases in
    let read = subst (λ r. ReadsReader options.default_extensions options.recursion_limit table known left r) answer c.from_reader_seed.ensures.reads in
    mapped_err (IsFaultBy table no_config known) _ c.to_string_data.result c.map_err-2.result c.map_err-2.ensures.cases (λ e f was is.
    subst (IsFaultBy table no_config known) (sym is)
    (unwritten _ _ table no_config known left c.in_ok-data.data e (search rules) (search rules) read
    (subst (λ r. IfErr r (RefusesText no_config options.recursion_limit datum)) was c.to_string_data.ensures.refused)
    (subst (λ r. IfErr r (HoldsName (first_refused datum))) was c.to_string_data.ensures.refused_name)))

pub returns-in_err-data-clause-fault : goal.returns-in_err-data-clause-fault
returns-in_err-data-clause-fault g c =
    let options = c.default-options.result in
    let known = g.R.Read.remaining c.args.input.now in
    let left = g.R.Read.remaining c.from_reader_seed.new.reader in
    let table = table_of c.args.schema.now in
    let p = err_from_is_err_and c.from_residual.result c.from_residual.ensures.1 in
    let told = mapped_err (IsFaultBy table no_config known) _ c.from_reader_seed.result c.map_err.result c.map_err.ensures.cases (λ e f was is.
    subst (IsFaultBy table no_config known) (sym is)
    (refused_of _ _ table known left e (search rules) (search rules)
    (subst (λ r. ReadsReader options.default_extensions options.recursion_limit table known left r) was c.from_reader_seed.ensures.reads))) in
    rw (p.1, p.2) (subst (λ r. IfErr r (IsFaultBy table no_config known)) c.in_err-data.was told)
