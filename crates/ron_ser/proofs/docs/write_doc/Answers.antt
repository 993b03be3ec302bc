use Rattle.std.proofs.Common.{rules, encode_utf8_all, flat_map, codes, ◌++◌, List, ℕ, sym, subst, IsUtf8}
use Rattle.std.specs.Fmt.{WritesInCalls}
use Rattle.ron_spec_layout.specs.Config.{line_at}
use Rattle.ron_ser.specs.Stand.{place_of}
use Rattle.ron_ser.proofs.Pieces.{nothing, one, both, piece}
use Rattle.ron_ser.proofs.DocLemmas.{doc_text}
use Rattle.ron_ser.proofs.docs.write_doc.Goals as goal

pub loop-line-preserved : goal.loop-line-preserved
loop-line-preserved g c =
    let took = g.O.Output.puts in
    let gap = line_at (place_of c.args.writing.now).config c.args.level in
    let line_utf8 : IsUtf8 c.in-Some.line.now = search rules in (
      search rules,
      λ v h. c.loop-line.invariant.1 v (piece took _ _ _ _ _ _
          (doc_text gap c.loop-line.rest.now c.in-Some.line.now c.in-Some.after.now line_utf8 c.in-Some.ensures.lines)
          (both took _ _ _ _ _ (one took _ _ _ (c.put.ensures)) (both took _ _ _ _ _ (one took _ _ _ (c.put-in-Some.ensures)) c.begin_line.ensures)) h),
    )

pub returns : goal.returns
returns g c =
    let took = g.O.Output.puts in
    let gap = line_at (place_of c.args.writing.now).config c.args.level in
    c.loop-line.invariant.1 _ (subst (λ (ls : List (List ℕ)). WritesInCalls took c.loop-line.out
    (encode_utf8_all (flat_map (λ t. codes "/// " ++ (t ++ gap)) ls)) c.loop-line.out) (sym c.in_default.ensures.lines) (nothing took _))
