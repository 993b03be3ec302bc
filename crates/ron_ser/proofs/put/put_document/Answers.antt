use Rattle.std.proofs.Common.{ap, ◌∙◌, rules}
use Rattle.ron_spec_layout.specs.Bytes.{full_layout_bytes}
use Rattle.ron_ser_config.specs.View.{config_view}
use Rattle.ron_data.specs.Datum.{data_view}
use Rattle.ron_base_device.specs.Output.{error_of}
use Rattle.ron_base_device.proofs.AnswerLemmas.{names}
use Rattle.ron_ser.specs.Refusals.{RefusesData}
use Rattle.ron_ser.proofs.PutLemmas.{told_of_data, told_of_writer}
use Rattle.ron_ser.proofs.put.put_document.Goals as goal

pub returns-clause-put : goal.returns-clause-put
returns-clause-put g c =
    let config = config_view c.args.settings.now.config.now in
    let d = data_view c.args.value.now in
    let refused = RefusesData config c.args.settings.now.limit d in
    let text = full_layout_bytes c.args.settings.now.extensions config d in
    let called = c.write_document-written.ensures in
    let written = c.write_document-written.result in
    let o = c.new-output.result in
    let p = c.write_document-written.new.out in
    let fresh = c.new-output.ensures.fault ∙ c.none-fault.ensures in
    let wrote = told_of_data _ o p text config c.args.settings.now.limit d written called.text called.refused called.refused_name called.beginning in
    let same = names g.P.Puts.took g.P.Puts.left g.P.Puts.refuses refused o p text fresh written wrote in
    told_of_writer g.P.Puts.took g.P.Puts.left g.P.Puts.refuses refused o p text fresh c.new-output.ensures.writer (search (rules, same)) written
    c.answer.result wrote c.answer.ensures (ap error_of (search (rules, same)))
