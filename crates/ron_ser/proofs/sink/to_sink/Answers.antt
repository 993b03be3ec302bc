use Rattle.std.proofs.Common.{◌≡◌, OnOk, OnErr, IfErr, ap, subst, ◌∙◌, rules}
use Rattle.std.proofs.lemmas.Result.{err_from_is_err_and}
use Rattle.std.specs.Io.KnownBytes.{Appends}
use Rattle.ron_spec_layout.specs.Bytes.{full_layout_bytes}
use Rattle.ron_ser_config.specs.View.{config_view}
use Rattle.ron_data.specs.Datum.{data_view}
use Rattle.ron_base_device.specs.Device.{TakesFront}
use Rattle.ron_base_device.proofs.SinkLemmas.{gathered, front_taken}
use Rattle.ron_ser.specs.Refusals.{RefusesSink}
use Rattle.ron_ser.proofs.PutLemmas.{at_last}
use Rattle.ron_ser.proofs.SinkLemmas.{some_lost, sink_refused, passed_taken, passed_kept, passed_front, passed_refused, passed_same}
use Rattle.ron_ser.proofs.sink.to_sink.Goals as goal

pub returns-in_err-put_document-clause-same : goal.returns-in_err-put_document-clause-same
returns-in_err-put_document-clause-same g c =
    let failed = g.S.Sink.failed in
    let contents = g.S.Sink.contents in
    let device = g.S.Sink.device in
    let config = config_view c.args.settings.now.config.now in
    let d = data_view c.args.value.now in
    let start = c.new-gathered.ensures in
    let lost = some_lost failed contents device config c.args.settings.now.limit d _ c.in_err-put_document.ensures.put in
    at_last (λ s. device s ≡ device c.args.sink.now) (search (rules, lost.same_sink)) (lost.same ∙ ap device start.sink)

pub returns-in_err-put_document-clause-beginning : goal.returns-in_err-put_document-clause-beginning
returns-in_err-put_document-clause-beginning g c =
    let failed = g.S.Sink.failed in
    let contents = g.S.Sink.contents in
    let device = g.S.Sink.device in
    let config = config_view c.args.settings.now.config.now in
    let d = data_view c.args.value.now in
    let start = c.new-gathered.ensures in
    let lost = some_lost failed contents device config c.args.settings.now.limit d _ c.in_err-put_document.ensures.put in
    let p = err_from_is_err_and c.from_residual-in_err-put_document.result c.from_residual-in_err-put_document.ensures.1 in
    rw (p.1) (at_last (λ s. TakesFront (contents c.args.sink.now) (contents s) (full_layout_bytes c.args.settings.now.extensions config d))
    (search (rules, lost.same_sink))
    (subst (λ s. TakesFront (contents s) (contents c.put_document.new.writer.sink.now) (full_layout_bytes c.args.settings.now.extensions config d)) start.sink
    (front_taken start.nothing lost)))

pub returns-in_err-put_document-clause-refused : goal.returns-in_err-put_document-clause-refused
returns-in_err-put_document-clause-refused g c =
    let failed = g.S.Sink.failed in
    let contents = g.S.Sink.contents in
    let device = g.S.Sink.device in
    let config = config_view c.args.settings.now.config.now in
    let d = data_view c.args.value.now in
    let start = c.new-gathered.ensures in
    let lost = some_lost failed contents device config c.args.settings.now.limit d _ c.in_err-put_document.ensures.put in
    let p = err_from_is_err_and c.from_residual-in_err-put_document.result c.from_residual-in_err-put_document.ensures.1 in
    rw (p.1, p.2) (at_last (λ s. RefusesSink (failed s) config c.args.settings.now.limit d c.in_err-put_document.field-0.0) (search (rules, lost.same_sink))
    (sink_refused failed contents device config c.args.settings.now.limit d _ c.in_err-put_document.ensures.put).0)

pub returns-clause-taken : goal.returns-clause-taken
returns-clause-taken g c =
    let failed = g.S.Sink.failed in
    let contents = g.S.Sink.contents in
    let device = g.S.Sink.device in
    let config = config_view c.args.settings.now.config.now in
    let d = data_view c.args.value.now in
    let start = c.new-gathered.ensures in
    let came = gathered failed contents device c.in_ok-put_document.ensures.put in
    let same = passed_same failed contents device c.pass_on.new.self start.nothing came c.pass_on.result c.pass_on.ensures.passed in
    at_last (λ s. OnOk c.pass_on.result (Appends (contents c.args.sink.now) (contents s) (full_layout_bytes c.args.settings.now.extensions config d)))
    (search (rules, same))
    (subst
    (λ s. OnOk c.pass_on.result (Appends (contents s) (contents c.pass_on.new.self.sink.now) (full_layout_bytes c.args.settings.now.extensions config d)))
    start.sink (passed_taken failed contents device c.pass_on.new.self start.nothing came c.pass_on.result c.pass_on.ensures.passed c.pass_on.ensures.nothing))

pub returns-clause-kept : goal.returns-clause-kept
returns-clause-kept g c =
    let failed = g.S.Sink.failed in
    let contents = g.S.Sink.contents in
    let device = g.S.Sink.device in
    let config = config_view c.args.settings.now.config.now in
    let d = data_view c.args.value.now in
    let start = c.new-gathered.ensures in
    let came = gathered failed contents device c.in_ok-put_document.ensures.put in
    let same = passed_same failed contents device c.pass_on.new.self start.nothing came c.pass_on.result c.pass_on.ensures.passed in
    at_last (λ s. OnOk c.pass_on.result (failed s ≡ failed c.args.sink.now)) (search (rules, same))
    (subst (λ s. OnOk c.pass_on.result (failed c.pass_on.new.self.sink.now ≡ failed s)) start.sink
    (passed_kept failed contents device c.pass_on.new.self start.nothing came c.pass_on.result c.pass_on.ensures.passed))

pub returns-clause-same : goal.returns-clause-same
returns-clause-same g c =
    let failed = g.S.Sink.failed in
    let contents = g.S.Sink.contents in
    let device = g.S.Sink.device in
    let config = config_view c.args.settings.now.config.now in
    let d = data_view c.args.value.now in
    let start = c.new-gathered.ensures in
    let came = gathered failed contents device c.in_ok-put_document.ensures.put in
    let same = passed_same failed contents device c.pass_on.new.self start.nothing came c.pass_on.result c.pass_on.ensures.passed in
    at_last (λ s. device s ≡ device c.args.sink.now) (search (rules, same)) (same.0 ∙ ap device start.sink)

pub returns-clause-beginning : goal.returns-clause-beginning
returns-clause-beginning g c =
    let failed = g.S.Sink.failed in
    let contents = g.S.Sink.contents in
    let device = g.S.Sink.device in
    let config = config_view c.args.settings.now.config.now in
    let d = data_view c.args.value.now in
    let start = c.new-gathered.ensures in
    let came = gathered failed contents device c.in_ok-put_document.ensures.put in
    let same = passed_same failed contents device c.pass_on.new.self start.nothing came c.pass_on.result c.pass_on.ensures.passed in
    at_last (λ s. OnErr c.pass_on.result (TakesFront (contents c.args.sink.now) (contents s) (full_layout_bytes c.args.settings.now.extensions config d)))
    (search (rules, same))
    (subst
    (λ s. OnErr c.pass_on.result (TakesFront (contents s) (contents c.pass_on.new.self.sink.now) (full_layout_bytes c.args.settings.now.extensions config d)))
    start.sink (passed_front failed contents device c.pass_on.new.self start.nothing came c.pass_on.result c.pass_on.ensures.passed))

pub returns-clause-refused : goal.returns-clause-refused
returns-clause-refused g c =
    let failed = g.S.Sink.failed in
    let contents = g.S.Sink.contents in
    let device = g.S.Sink.device in
    let config = config_view c.args.settings.now.config.now in
    let d = data_view c.args.value.now in
    let start = c.new-gathered.ensures in
    let came = gathered failed contents device c.in_ok-put_document.ensures.put in
    let same = passed_same failed contents device c.pass_on.new.self start.nothing came c.pass_on.result c.pass_on.ensures.passed in
    at_last (λ s. IfErr c.pass_on.result (RefusesSink (failed s) config c.args.settings.now.limit d)) (search (rules, same))
    (passed_refused failed contents device c.pass_on.new.self start.nothing came config c.args.settings.now.limit d c.pass_on.result c.pass_on.ensures.passed)
