use Rattle.std.proofs.Common.{arith}
use Rattle.ron_data_convert.proofs.ItemLemmas.{byte_more, all_bytes}
use Rattle.ron_data_convert.proofs.bytes.bytes_among.Goals as goal

pub loop-item-preserved : goal.loop-item-preserved
loop-item-preserved c =
    byte_more c.args.items.now c.loop-item.bytes.items c.push.new.self.items c.loop-item.item-index c.item-item.result c.in_ok-byte_of.field-0
    c.loop-item.invariant (omega (arith, c.loop-item-test.true)) c.item-item.is c.in_ok-byte_of.ensures c.in_ok-push.ensures.items

pub returns-clause-value : goal.returns-clause-value
returns-clause-value c = all_bytes c.args.items.now c.loop-item.bytes.items c.loop-item.item-index c.loop-item.invariant (omega (arith, c.loop-item-test.false))
