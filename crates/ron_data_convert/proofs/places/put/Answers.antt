use Rattle.std.proofs.Common.{refl, arith}
use Rattle.ron_data_convert.proofs.PlaceLemmas.{put_at, put_next}
use Rattle.ron_data_convert.proofs.places.put.Goals as goal
use Rattle.ron_data_convert.proofs.places.put.Goals.{then-index-len+in_ok-push, else-index-len+in_ok-put_out_of_turn}

pub returns-clause-places : goal.returns-clause-places
returns-clause-places c =
    put_at c.args.index c.args.name c.args.value c.args.is_filled.now _ c.args.places.now.items c.if-index-len.places.items (elim c.if-index-len.branch [
      | then-index-len+in_ok-push w ↦ rw (w.places-is) (put_next c.args.index c.args.places.now.items _ (c.args.name, c.args.value)
          (omega (arith, w.if-index-len.true, c.len.ensures, c.args.places.now.ok.0)) w.in_ok-push.ensures.items)
      | else-index-len+in_ok-put_out_of_turn w ↦ rw (w.places-is) w.in_ok-put_out_of_turn.ensures.places
    ]) c.requires.room refl
