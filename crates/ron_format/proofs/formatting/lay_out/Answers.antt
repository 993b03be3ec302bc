use Rattle.std.proofs.Common.{chars, string_bytes, []}
use Rattle.std.proofs.lemmas.Str.{IsUtf8-string_bytes}
use Rattle.ron_format.proofs.LayLemmas.{put_on, lay_start, lay_on, lay_end}
use Rattle.ron_format.proofs.WholeLemmas.{token_end, whole_behind, whole_ended}
use Rattle.ron_format.proofs.formatting.lay_out.Goals as goal

pub loop-after-init : goal.loop-after-init
loop-after-init c =
    let h = c.in_ok-next.ensures in (
      lay_start c.start.result c.args.text.now (string_bytes c.new-out.result) (chars (string_bytes c.pass_edge.new.out)) c.in_ok-next.next
          c.start.ensures.before c.start.ensures.place c.new-out.ensures.bytes h,
      h.longest,
      λ w. h.whole (record { around = []; whole = w }),
    )

pub before-token-requires : goal.before-token-requires
before-token-requires c = token_end (chars c.loop-after.next.rest.now) (chars c.in-Some.after.now) c.in-Some.ensures.value

pub loop-after-preserved : goal.loop-after-preserved
loop-after-preserved c =
    let h = c.in_ok-next-2.ensures in
    let rest = chars c.loop-after.next.rest.now in
    let put = put_on (string_bytes c.loop-after.out) (string_bytes c.push_str.new.self) c.before-token.result.now (IsUtf8-string_bytes c.loop-after.out)
    c.in_ok-push_str.ensures.bytes in (
      lay_on c.loop-after.next.place c.behind.result (chars c.args.text.now) (chars (string_bytes c.loop-after.out)) rest (chars c.before-token.result.now)
          (chars (string_bytes c.push_str.new.self)) (chars c.in-Some.after.now) (chars (string_bytes c.pass_edge-in-Some.new.out)) c.in_ok-next-2.next
          c.loop-after.invariant.0 c.loop-after.invariant.1 c.in-Some.ensures.value c.before-token.ensures put c.behind.ensures.before c.behind.ensures.place h,
      h.longest,
      λ w. h.whole (whole_behind rest (chars c.in-Some.after.now) c.in-Some.ensures.value (c.loop-after.invariant.2 w)),
    )

pub returns : goal.returns
returns c = λ w. lay_end c.loop-after.next.place (chars c.args.text.now) (chars (string_bytes c.loop-after.out)) (chars c.loop-after.next.rest.now)
    c.loop-after.invariant.0 (whole_ended (chars c.loop-after.next.rest.now) c.in_default.ensures.value (c.loop-after.invariant.2 w))
