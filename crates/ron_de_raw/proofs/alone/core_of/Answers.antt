use Rattle.std.proofs.Common.{chars, sym, ap, ◌∙◌}
use Rattle.ron_spec_words.specs.Gap.{gap_of, skip}
use Rattle.ron_spec_words.specs.Runs.{is_at}
use Rattle.ron_de_raw.proofs.AloneLemmas.{by_slash, stands_there, ok_of, core_or_memory}
use Rattle.ron_de_raw.proofs.alone.core_of.Goals as goal

pub unreachable-requires : goal.unreachable-requires
unreachable-requires c =
    let s = chars c.args.ron.now in
    let slash =
    by_slash c.pass_gap.result (is_at 47 (skip s)) (sym c.is_err.ensures.value ∙ c.if-is_err.true) (rw c.new-cursor.ensures.rest at c.pass_gap.ensures.slash) in
    let none = (stands_there s c.requires).no_slash in cc

pub returns : goal.returns
returns c =
    let ok = sym c.is_err.ensures.value ∙ c.if-is_err.false in
    let start = c.new-cursor.ensures.rest in
    core_or_memory (λ core. chars core.now) (chars c.args.ron.now) c.pass_gap.new.self c.pass_value.result c.pass_value.new.cursor.rest
    (ok_of c.pass_gap.result ok c.pass_gap.ensures.gap ∙ ap gap_of start) (ok_of c.pass_gap.result ok c.pass_gap.ensures.rest ∙ ap skip start) c.requires
    c.pass_value.ensures.value c.pass_value.ensures.stretch
