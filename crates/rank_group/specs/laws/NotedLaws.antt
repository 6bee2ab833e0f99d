-- If no parcel moves in some turns and none in the following ones, none moves in both together.
use Rattle.std.proofs.Common.{refl, ◌∙◌}
use Rattle.link_slots.specs.SeatView.{SeatView}
use Rattle.rank_crews.specs.Runs.{RanLaws}
use Rattle.rank_group.specs.TurnNotes.{HasSame}

pub same_laws : {S : Type 0} (seat : S → SeatView) → RanLaws (λ x y. HasSame (seat x) (seat y))
same_laws seat =
    record {
      none = λ x. record { sent = refl; got = refl };
      on = λ x y z a b. record { sent = b.sent ∙ a.sent; got = b.got ∙ a.got };
    }
