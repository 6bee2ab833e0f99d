use Rattle.elastic.proofs.Steps.{more_bytes}
use Rattle.elastic.proofs.reading.append_bytes.Goals as goal

pub loop-item-preserved : goal.loop-item-preserved
loop-item-preserved c =
    more_bytes c.args.items.now c.loop-item.item-index _ c.loop-item.letter.items c.append_item.new.letter.items _ c.loop-item-test.true c.in_ok-append_item.ensures c.loop-item.invariant
