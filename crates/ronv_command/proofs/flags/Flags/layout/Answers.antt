use Rattle.std.proofs.Common.{rules, arith, ap, ◌∙◌, chars, codes}
use Rattle.ron.specs.Config.{times}
use Rattle.ronv_command.proofs.FlagLemmas.{spaces_are}
use Rattle.ronv_command.proofs.flags.Flags.layout.Goals.{in-Some, in-None, then-self, else-self}
use Rattle.ronv_command.proofs.flags.Flags.layout.Goals as goal

pub returns-in-Some-indent : goal.returns-in-Some-indent
returns-in-Some-indent c =
    let e = ap chars c.indentor.ensures.text ∙ spaces_are c.min.result c.range.result.now (omega (arith, c.min.ensures)) c.range.ensures.value
    ∙ ap (λ n. times n (codes " ")) c.min.ensures in
    elim c.match-self.branch [
      | in-Some w ↦ elim c.if-self.branch [
        | then-self v ↦ rw (c.indentor.ensures.others, e, c.in-Some-indent.is) (search rules)
        | else-self v ↦ rw (c.indentor.ensures.others, e, c.in-Some-indent.is) (search rules)
      ]
      | in-None w ↦ elim c.if-self.branch [
        | then-self v ↦ rw (c.indentor.ensures.others, e, c.in-Some-indent.is) (search rules)
        | else-self v ↦ rw (c.indentor.ensures.others, e, c.in-Some-indent.is) (search rules)
      ]
    ]
