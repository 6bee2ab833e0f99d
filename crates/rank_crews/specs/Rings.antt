-- How a rank is handed to its thread.
use Rattle.std.specs.Prelude.{◌≡◌, [], ◌∷◌}
use Rattle.rtrb.specs.declared.consumer.Consumer.{Consumer}
use Rattle.rtrb.specs.Ring.{received, SameConsumer}

-- One rank came through the ring that ends at `end`, and turns took it to `back`.
pub record CameBack {A G P : Type 0} (ran : A → A → Type 0) (before after : Consumer A G P) (back : A) : Type 0 where
  pub ring : SameConsumer before after
  pub came : A
  pub once : received after ≡ came ∷ []
  pub turned : ran came back
