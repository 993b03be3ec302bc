use Rattle.std.proofs.Common.{◌∙◌}
use Rattle.std.proofs.lemmas.Str.{IsCharBoundary-from_drop}
use Rattle.ron_lex_text.specs.Stretch.{is_space}
use Rattle.ron_lex_text.proofs.NameLemmas.{ends_with_text}
use Rattle.ron_lex_text.proofs.BlankLemmas.{space_passes, spaces_end}
use Rattle.ron_lex_text.proofs.text.skip_spaces.Goals as goal

pub range_from-requires : goal.range_from-requires
range_from-requires c _ = IsCharBoundary-from_drop _ _ c.loop-place.invariant.0 c.loop-place.invariant.1

pub returns-then-bytes-place-ne32-clause-value : goal.returns-then-bytes-place-ne32-clause-value
returns-then-bytes-place-ne32-clause-value c =
    spaces_end _ c.as_bytes-bytes.ensures.value c.loop-place.invariant.1 c.if-bytes-place-ne32.true c.range_from.ensures.value ∙ c.loop-place.invariant.2

pub loop-place-preserved : goal.loop-place-preserved
loop-place-preserved c =
    let next = space_passes c.as_bytes-bytes.ensures.value c.loop-place-test.true c.loop-place.invariant.1 c.if-bytes-place-ne32.false in
    (next.0, next.1, next.2 ∙ c.loop-place.invariant.2)

pub returns-clause-value : goal.returns-clause-value
returns-clause-value c = ends_with_text is_space c.as_bytes-bytes.ensures.value c.loop-place-test.false ∙ c.loop-place.invariant.2
