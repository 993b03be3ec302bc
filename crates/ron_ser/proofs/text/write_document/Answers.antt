use Rattle.ron_ser_config.specs.View.{config_view}
use Rattle.ron_data.specs.Datum.{data_view}
use Rattle.ron_ser.proofs.HeadLemmas.{headed, headed_front}
use Rattle.ron_ser.proofs.text.write_document.Goals as goal

pub returns-clause-text : goal.returns-clause-text
returns-clause-text g c =
    let config = config_view c.args.settings.now.config.now in
    headed g.O.Output.puts c.args.settings.now.extensions config c.union-extensions.result (data_view c.args.value.now) c.union-extensions.ensures _
    c.write_layout.result c.write_announcements.ensures c.write_layout.ensures.text

pub returns-clause-beginning : goal.returns-clause-beginning
returns-clause-beginning g c =
    let config = config_view c.args.settings.now.config.now in
    headed_front g.O.Output.puts c.args.settings.now.extensions config c.union-extensions.result (data_view c.args.value.now) c.union-extensions.ensures _
    c.write_layout.result c.write_announcements.ensures c.write_layout.ensures.beginning
