-- The sender of what comes over one hop. Assumes `Logic`.
use Rattle.std.proofs.Common.{◌≡◌, ℕ, List, ap, ◌∙◌}
use Rattle.bale_items.specs.declared.item.Tag.{Tag}
use Rattle.route_tensor.specs.Tag.{sender_of, tag_rank}
use Rattle.route_tensor.proofs.Places.{place-zero}

-- on one hop it is the near end of the link, whatever the tag
pub near_sender : (dims : List ℕ) (tag : Tag) (h a : ℕ) → h ≡ 1 → sender_of dims tag h a ≡ a
near_sender dims tag h a one = ap (λ (k : ℕ). sender_of dims tag k a) one ∙ place-zero dims a (tag_rank dims tag)
