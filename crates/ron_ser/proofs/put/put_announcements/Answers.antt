use Rattle.std.proofs.Common.{Ok, ap, ◌∙◌, rules}
use Rattle.ron_spec_layout.specs.Bytes.{announcements_bytes}
use Rattle.ron_ser_config.specs.View.{config_view}
use Rattle.ron_base_device.specs.Output.{error_of}
use Rattle.ron_base_device.proofs.AnswerLemmas.{names}
use Rattle.ron_ser.proofs.PutLemmas.{told_of_writer}
use Rattle.ron_ser.proofs.put.put_announcements.Goals as goal

pub returns : goal.returns
returns g c =
    let text = announcements_bytes c.args.defaults (config_view c.args.config.now) in
    let o = c.new-output.result in
    let p = c.write_announcements.new.out in
    let fresh = c.new-output.ensures.fault ∙ c.none-fault.ensures in
    let wrote = c.write_announcements.ensures in
    let same = names g.P.Puts.took g.P.Puts.left g.P.Puts.refuses (λ _. ⊥) o p text fresh (Ok tt) wrote in
    told_of_writer g.P.Puts.took g.P.Puts.left g.P.Puts.refuses (λ _. ⊥) o p text fresh c.new-output.ensures.writer (search (rules, same)) (Ok tt)
    c.answer.result wrote c.answer.ensures (ap error_of (search (rules, same)))
