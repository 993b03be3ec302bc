use Rattle.std.proofs.Common.{chars, ◌++◌, subst, sym, ap, ◌∙◌}
use Rattle.ron_spec_words.specs.Characters.{Text}
use Rattle.ron_lex_text.specs.Stretch.{IsSuffix}
use Rattle.ron_lex_text.proofs.StretchLemmas.{end_behind_end}
use Rattle.ron_de_raw.proofs.StretchLemmas.{front_trimmed}
use Rattle.ron_de_raw.proofs.stretch.raw_start.Goals as goal

pub rest_behind-requires-2 : goal.rest_behind-requires-2
rest_behind-requires-2 c =
    subst (IsSuffix (chars c.skip_run.result.now)) (c.gap-gap.ensures.gap ∙ sym c.add_turns.ensures.place.gap) (front_trimmed _ _ c.skip_run.ensures.value)

pub returns-clause-end : goal.returns-clause-end
returns-clause-end c =
    let trimmed = subst (IsSuffix (chars c.skip_run.result.now)) c.gap-gap.ensures.gap (front_trimmed _ _ c.skip_run.ensures.value) in
    let is = c.rest_behind-2.ensures ∙ ap (λ (s : Text). chars c.skip_run.result.now ++ s) c.add_turns.ensures.place.rest in
    subst (λ (t : Text). IsSuffix t c.args.cursor.now.text) (sym is) (end_behind_end _ _ _ trimmed c.gap-gap.ensures.end)
