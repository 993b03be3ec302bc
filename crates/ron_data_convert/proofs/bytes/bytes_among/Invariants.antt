use Rattle.ron_data_convert.proofs.ItemLemmas.{BytesGone}
use Rattle.ron_data_convert.proofs.bytes.bytes_among.Given as goal

-- the bytes of the items before this one, and then those of the rest
abbrev pub invariant-loop-item : goal.invariant-loop-item
invariant-loop-item l = BytesGone l.items l.bytes.items l.item-index
