-- What a node sends in an epoch: the emissions of a round, or the votes on it.
use Rattle.std.specs.Prelude.{ℕ, zero, suc, ◌+◌, ◌*◌, ◌^◌, ◌-◌, Bool, true, false, List, [], ◌∷◌, ◌++◌, if◌then◌else◌}
use Rattle.bale_items.specs.declared.item.Item.{Item}
use Rattle.round_program.specs.Rules.{Rules}
use Rattle.round_program.specs.Epochs.{vote_item}
use Rattle.rank_node.specs.declared.sends.Sends.{Sends}
use Rattle.rank_node.specs.declared.sends.Sends.TheVariants.{Emissions, Nothing, Votes}

-- One vote to each of the ranks 0, 1, .., p - 1, in this order.
-- votes_to 2 7 is (0,(7,0,0)), (1,(7,0,0)).
abbrev pub votes_to : ℕ → ℕ → List (ℕ × Item)
votes_to zero v = []
votes_to (suc p) v = votes_to p v ++ (p, vote_item v) ∷ []

-- What a node sends, by the state of its program: the emissions, nothing, or one vote to each rank.
abbrev pub to_send : {S : Type 0} → Rules S → S → Sends → List (ℕ × Item)
to_send R prog Emissions = R.emissions prog
to_send R prog Nothing = []
to_send R prog (Votes v p) = votes_to p v

abbrev pub is_voting : Sends → Bool
is_voting Emissions = false
is_voting Nothing = false
is_voting (Votes v p) = true

-- Epoch 2m is the work of round m, and epoch 2m + 1 carries its votes.
abbrev pub epoch_of : ℕ → Bool → ℕ
epoch_of round voting = if voting then 2 * round + 1 else 2 * round

-- The vote of a rank whose program is spoiled makes the sum saturate.
abbrev pub spoiled_vote : ℕ
spoiled_vote = 2 ^ 64 - 1
