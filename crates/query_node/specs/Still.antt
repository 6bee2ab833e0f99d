-- A turn that moved no parcel, and why.
use Rattle.std.specs.Prelude.{◌≡◌, ◌⊎◌, ℕ, Bool, true}
use Rattle.hop_core.specs.declared.phase.Phase.TheVariants.{Complete}
use Rattle.rank_node.specs.Movers.{AllRead}
use Rattle.rank_node.specs.Stuck.{HasCrowded, IsStill}
use Rattle.query_node.specs.States.{BiState, Sides}

-- What a rank's two ports know of their links.
pub record Known : Type 0 where
  pub crowded : ℕ → Bool
  pub idle : ℕ → Bool
  pub replies_crowded : ℕ → Bool
  pub replies_idle : ℕ → Bool

-- A turn that moved no parcel in either direction.
-- asked: the rank is done asking, or a query was refused, and a link out of the queries is crowded.
-- answered: all queries that came are answered, or an answer was refused, and a link out of the
-- replies is crowded.
-- done: it is done replying if and only if its queries are complete.
pub record IsStuckBoth {S : Type 0} (n n' : BiState S) (old new : Sides) (known : Known) : Type 0 where
  pub queries : IsStill n.queries n'.queries old.asking old.asked new.asking new.asked known.crowded known.idle
  pub replies : IsStill n.replies n'.replies old.replying old.replied new.replying new.replied known.replies_crowded
      known.replies_idle
  pub asked : (n'.queries.done ≡ true) ⊎ HasCrowded n.queries.dims n.queries.rank known.crowded
  pub answered : AllRead n'.queries ⊎ HasCrowded n.replies.dims n.replies.rank known.replies_crowded
  pub done : n'.queries.phase ≡ Complete → n'.replies.done ≡ true
