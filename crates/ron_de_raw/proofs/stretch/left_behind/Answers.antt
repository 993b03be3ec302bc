use Rattle.std.proofs.Common.{◌++◌, chars, sym, ap, ◌∙◌}
use Rattle.std.proofs.lemmas.List.{append_cancel_right}
use Rattle.ron_spec_grammar.specs.Raw.{trim_back, leaves_open, kept}
use Rattle.ron_de_raw.proofs.StretchLemmas.{line_left, all_white_left}
use Rattle.ron_de_raw.proofs.stretch.left_behind.Goals as goal

pub returns-then-leaves_open : goal.returns-then-leaves_open
returns-then-leaves_open c =
    let gap = chars c.args.gap.now in
    let white = chars c.trailing_white-white.result.now in
    let front = append_cancel_right (trim_back gap) (chars c.before-2.result.now) white (sym c.trailing_white-white.ensures ∙ c.before-2.ensures) in
    line_left gap white c.trailing_white-white.ensures (ap leaves_open front ∙ sym c.leaves_open.ensures ∙ c.if-leaves_open.true)
    ∙ ap (λ r. kept gap ++ r) (sym c.skip_line.ensures.value)

pub returns-else-leaves_open : goal.returns-else-leaves_open
returns-else-leaves_open c =
    let gap = chars c.args.gap.now in
    let white = chars c.trailing_white-white.result.now in
    let front = append_cancel_right (trim_back gap) (chars c.before-2.result.now) white (sym c.trailing_white-white.ensures ∙ c.before-2.ensures) in
    all_white_left gap white c.trailing_white-white.ensures (ap leaves_open front ∙ sym c.leaves_open.ensures ∙ c.if-leaves_open.false)
