use Rattle.elastic.proofs.Steps.{three_words}
use Rattle.elastic.proofs.reading.append_item.Goals as goal

pub returns : goal.returns
returns c =
    three_words _ _ _ _ _ _ _ _ _ _ c.in_ok-extend_from_slice.ensures.items c.in_ok-extend_from_slice-2.ensures.items c.in_ok-extend_from_slice-3.ensures.items
    c.to_le_bytes.ensures c.to_le_bytes-2.ensures c.to_le_bytes-3.ensures
