use Rattle.std.proofs.Common.{sym, ◌∙◌}
use Rattle.std.proofs.lemmas.Bool.{and_parts, ltb-true}
use Rattle.std.proofs.lemmas.Str.{IsCharBoundary-from_drop}
use Rattle.ron_spec_words.specs.Characters.{continues_name}
use Rattle.ron_lex_text.proofs.NameLemmas.{byte_passes, byte_ends, ends_with_text}
use Rattle.ron_lex_text.proofs.text.skip_name.Goals as goal

pub range_from-rest-requires : goal.range_from-rest-requires
range_from-rest-requires c _ = IsCharBoundary-from_drop _ _ c.loop-place.invariant.0 c.loop-place.invariant.1

pub returns-then-is_ascii-clause-value : goal.returns-then-is_ascii-clause-value
returns-then-is_ascii-clause-value c =
    byte_ends continues_name c.as_bytes-bytes.ensures.value c.loop-place-test.true c.loop-place.invariant.1 (sym c.is_ascii.ensures ∙ c.if-is_ascii.true)
    (sym c.is_name_byte.ensures ∙ c.if-not-is_name_byte.true) c.range_from-rest.ensures.value
    ∙ c.loop-place.invariant.2

pub loop-place-preserved : goal.loop-place-preserved
loop-place-preserved c =
    let is = and_parts _ _ (sym c.is_name_byte.ensures ∙ c.if-not-is_name_byte.false) in
    let next = byte_passes continues_name c.as_bytes-bytes.ensures.value c.loop-place-test.true c.loop-place.invariant.1 (ltb-true _ 128 is.0) is.1 in
    (next.0, next.1, next.2 ∙ c.loop-place.invariant.2)

pub returns-clause-value : goal.returns-clause-value
returns-clause-value c = ends_with_text continues_name c.as_bytes-bytes.ensures.value c.loop-place-test.false ∙ c.loop-place.invariant.2
