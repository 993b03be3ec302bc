use Rattle.std.proofs.Common.{chars, map, sym, IsUtf8, rules}
use Rattle.std.specs.Prelude.{reverse}
use Rattle.ron_lex_text.proofs.StretchLemmas.{past_is_shorter}
use Rattle.ron_lex.specs.Kinds.{kind_view, stage_view}
use Rattle.ron_lex.proofs.KindLemmas.{pass_on, places_on, found_all, length_view}
use Rattle.ron_lex.proofs.kinds.Kinds.of_text.Goals as goal

pub loop-after-smaller : goal.loop-after-smaller
loop-after-smaller c = past_is_shorter c.loop-after.rest.now c.in-Some.after.now c.loop-after.invariant.0 (search rules) c.in-Some.ensures.past

pub loop-after-preserved : goal.loop-after-preserved
loop-after-preserved c =
    let u : IsUtf8 c.in-Some.after.now = search rules in
    let before = c.loop-after.filling in
    let behind = c.in_ok-pass.ensures in (
      u,
      pass_on (stage_view before.stage) _ (reverse before.groups.items) _ (map kind_view before.found.kinds.items) _ _ _ (chars c.loop-after.rest.now)
          (chars c.in-Some.after.now) c.in-Some.ensures.value (sym (length_view before.found.kinds.items)) behind.stage behind.groups behind.kinds
          c.loop-after.invariant.1,
      places_on (chars c.args.text.now) before.found.places.items _ _ (chars c.loop-after.rest.now) (chars c.in-Some.after.now) c.in-Some.ensures.value
          behind.places c.loop-after.invariant.2,
    )

pub returns : goal.returns
returns c = found_all (chars c.args.text.now) (stage_view c.loop-after.filling.stage) (reverse c.loop-after.filling.groups.items) _ _
    (chars c.loop-after.rest.now) c.in_default.ensures.value c.loop-after.invariant.1 c.loop-after.invariant.2
