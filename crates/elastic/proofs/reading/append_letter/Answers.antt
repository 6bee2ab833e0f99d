use Rattle.elastic.proofs.Steps.{letter_made}
use Rattle.elastic.proofs.reading.append_letter.Goals as goal

pub returns : goal.returns
returns c =
    letter_made c.args.first c.args.rest.now _ _ _ _ _ _ _ c.requires c.in_ok-extend_from_slice.ensures.items c.in_ok-extend_from_slice-2.ensures.items c.in_ok-append_bytes.ensures c.truncate.ensures.items
    c.to_le_bytes.ensures c.to_le_bytes-2.ensures
