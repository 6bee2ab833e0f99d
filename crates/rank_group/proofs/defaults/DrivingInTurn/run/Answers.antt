use Rattle.std.proofs.Common.{ℕ, ◌≡◌, List, Result, IfOk, false, subst, ap, ◌∙◌}
use Rattle.std.specs.List.{range_with_len}
use Rattle.bale_items.specs.declared.fault.NoMemory.{NoMemory}
use Rattle.list_laws.proofs.Results.{if_ok_is, if_ok_from}
use Rattle.route_tensor.specs.Grid.{ranks}
use Rattle.round_program.specs.Rules.{Rules}
use Rattle.rank_node.specs.Movers.{Manner, manner_of}
use Rattle.rank_group.specs.declared.drive.Finished.{Finished}
use Rattle.rank_group.specs.declared.defaults.Settings.{Settings}
use Rattle.rank_group.specs.Defaults.{count_of, HasDriven}
use Rattle.rank_group.specs.DrivePromises.{HasFinished, HasSwept}
use Rattle.rank_group.specs.Transcript.{BankShape}
use Rattle.rank_group.specs.Turns.{SweptBy}
use Rattle.rank_group.proofs.defaults.DrivingInTurn.run.Goals as goal

-- the number of slots and the order are those of the settings and of the grid
module _ {S : Type 0} (R : Rules S) (cap : ℕ) (dims : List ℕ) (settings : Settings) (starts : List S) (r : Result (Finished S) NoMemory) where
  abbrev manner : Manner
  manner = manner_of settings.via settings.steady

  abbrev made : ℕ → BankShape
  made slots = record { dims = dims; cap = cap; slots = slots; by_slots = false }

  driven : (slots : ℕ) (order : List ℕ) (before after : ℕ) → slots ≡ count_of settings.slots → order ≡ range_with_len 0 (ranks dims) → IfOk r (HasFinished R starts (made slots) manner)
      → IfOk r (HasSwept R starts (made slots) manner order before after) → IfOk r (HasDriven R cap dims settings starts)
  driven slots order before after number numbers finished swept =
      if_ok_from (HasDriven R cap dims settings starts) r (λ f e. record {
        finished = subst (λ n. HasFinished R starts (made n) manner f) number (if_ok_is (HasFinished R starts (made slots) manner) r f e finished);
        order = (
          before,
          after,
          subst (λ o. SweptBy R dims cap (count_of settings.slots) manner starts o before after f.progs) numbers
              (subst (λ n. SweptBy R dims cap n manner starts order before after f.progs) number (if_ok_is (HasSwept R starts (made slots) manner order before after) r f e swept).order),
        );
      })

pub returns : goal.returns
returns g c =
    driven g.Q.Program.rules g.row.CAP c.args.self.grid.now c.args.self.settings c.args.self.progs c.drive_serial.result c.count-slots.result c.deref.result.now c.args.steps.now c.drive_serial.new.steps
    c.count-slots.ensures.number (c.deref.ensures.value ∙ c.in_ok-order.ensures.numbers ∙ ap (range_with_len 0) c.ranks.ensures.value) c.drive_serial.ensures.finished c.drive_serial.ensures.swept
