-- The queries that came to a rank of ig, by their senders.
use Rattle.std.specs.Prelude.{◌<◌, ◌/◌, ◌^◌, ℕ, List, length}
use Rattle.std.specs.List.{All}
use Rattle.bale_items.specs.declared.item.Item.{Item}

-- a rank of so many can reply to queries: each asks for one of its sums, and their senders are
-- numbered in 32 bits
pub record CanReply (ranks : ℕ) (sums : List ℕ) (senders : ℕ) (queries : List (List Item)) : Type 0 where
  pub some : 0 < ranks
  pub numbered : senders < 2 ^ 32
  pub asked : All (All (λ x. (x.a < 2 ^ 32) × (x.a / ranks < length sums))) queries
