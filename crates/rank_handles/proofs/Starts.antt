-- A rank that was just made.
use Rattle.std.proofs.Common.{◌≡◌, ℕ, Bool, List, [], sym, ap, ◌∙◌, subst}
use Rattle.route_tensor.specs.Link.{links}
use Rattle.port_bank.specs.Logs.{Logs as Posts}
use Rattle.item_buffer.specs.Contents.{Contents}
use Rattle.link_slots.specs.Logs.{Lists, sent_of, got_of}
use Rattle.link_slots.specs.View.{no_logs}
use Rattle.link_slots.specs.Shape.{Shape, shipped_all}
use Rattle.link_slots.specs.SeatView.{BankIdentity, SeatView, posted_on, collected_from}
use Rattle.link_slots.proofs.Opening.{no_sent, no_got}
use Rattle.hop_core.specs.State.{State}
use Rattle.convey.specs.Conveyors.{AgreesWith}
use Rattle.rank_handles.specs.RankAtBank.{IsAtBank}
use Rattle.rank_handles.specs.Grouped.{new_state, NewRank}
use Rattle.rank_handles.proofs.Moves.{at}

module _ (bank : BankIdentity) (grid : List ℕ) (rank cap : ℕ) (steady : Bool) (seat : SeatView) (st : State)
    (same_grid : grid ≡ bank.shape.dims) (id : seat.id ≡ bank.id) (shape : seat.shape ≡ bank.shape) (rank_is : seat.rank ≡ rank) (lists : seat.lists ≡ no_logs (links bank.shape.dims))
    (is : st ≡ new_state grid rank cap steady) (agrees : AgreesWith st (λ l. []) (λ l. [])) where
  pub none_sent : posted_on seat ≡ (λ l. [])
  none_sent = ap (λ (x : Lists Contents). shipped_all (sent_of x)) lists ∙ ap shipped_all (no_sent Contents (links bank.shape.dims))

  pub none_got : collected_from seat ≡ (λ l. [])
  none_got = ap (λ (x : Lists Contents). shipped_all (got_of x)) lists ∙ ap shipped_all (no_got Contents (links bank.shape.dims))

  pub seated_at : IsAtBank bank seat st
  seated_at = record {
    id = id;
    shape = shape;
    rank = rank_is ∙ sym (ap (λ (z : State). z.rank) is);
    dims = ap (λ (s : Shape). s.dims) shape ∙ (sym same_grid ∙ sym (ap (λ (z : State). z.dims) is));
    agrees = subst (λ (z : Posts × Posts). AgreesWith st z.0 z.1) (λ k. (sym none_sent k, sym none_got k)) agrees;
    dormant = λ _. ap (λ (z : State). z.done) is;
    working = λ _. ap (λ (z : State). z.done) is;
  }

  pub new_at : NewRank bank rank cap steady (at seat st)
  new_at = record {
    id = id;
    shape = shape;
    state = is ∙ ap (λ (d : List ℕ). new_state d rank cap steady) same_grid;
    sent = none_sent;
    got = none_got;
  }
