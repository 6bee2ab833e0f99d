-- One more emission is pushed.
use Rattle.std.proofs.Common.{◌≡◌, ℕ, ◌<◌, true, All}
use Rattle.bale_items.specs.declared.item.Item.{Item}
use Rattle.list_laws.proofs.Lists.{all_get, all_from_gets}
use Rattle.round_program.specs.Rules.{Rules}
use Rattle.round_program.specs.Laws.{Laws}

-- the ranks that a program's emissions go to are those of the run
pub receivers_below : {S : Type 0} (R : Rules S) → Laws R → (s : S) → R.valid s → All (λ (e : ℕ × Item). e.0 < R.ranks s) (R.emissions s)
receivers_below R laws s v =
    all_from_gets (λ (e : ℕ × Item). e.0 < R.ranks s) (R.emissions s)
    (λ i e is. (laws.within (R.shape s) (R.ranks s) (R.round s) e.0 (R.rank s) e.1
    (all_get (λ e. R.may_be_sent (R.shape s) (R.ranks s) (R.round s) e.0 (R.rank s) e.1 ≡ true) (R.emissions s) i e (laws.emits s v) is)).0)
