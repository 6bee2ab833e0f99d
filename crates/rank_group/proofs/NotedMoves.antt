-- What a port notes of a parcel that moved.
use Rattle.std.proofs.Common.{◌≡◌, ℕ, ◌+◌, ◌≤◌, ◌==◌, Bool, true, false, cond, List, [], ◌∷◌, ◌++◌, length, length-append, refl, sym, ap, ◌∙◌, arith}
use Rattle.std.proofs.lemmas.Bool.{eq-eqb}
use Rattle.std.specs.Prelude.{Result}
use Rattle.bale_items.specs.declared.fault.NoMemory.{NoMemory}
use Rattle.item_buffer.specs.Contents.{Contents, Shipped}
use Rattle.port_bank.specs.declared.port.Posted.{Posted}
use Rattle.port_bank.specs.declared.port.Collected.{Collected}
use Rattle.port_bank.specs.Logs.{Logs, with_parcel}
use Rattle.port_bank.specs.Port.{PortView, Others}
use Rattle.port_bank.specs.PortCalls.{Posts, Collects}
use Rattle.link_slots.specs.SeatView.{SeatView, posted_on, collected_from}
use Rattle.rank_group.specs.TurnNotes.{HasSame, NoLess}

longer : (b : Bool) (log : List Shipped) (p : Shipped) → length log ≤ length (cond b (log ++ p ∷ []) log)
longer true log p = omega (arith, length-append log (p ∷ []))
longer false log p = omega arith

longer_here : (logs : Logs) (l : ℕ) (p : Shipped) → length (with_parcel logs l p l) ≡ length (logs l) + 1
longer_here logs l p = ap (λ b. length (cond b (logs l ++ p ∷ []) (logs l))) (eq-eqb l l refl) ∙ length-append (logs l) (p ∷ [])

-- where nothing moved
pub no_less_same : (x y z : SeatView) → NoLess x y → posted_on z ≡ posted_on y → collected_from z ≡ collected_from y → NoLess x z
no_less_same x y z n sent got =
    record {
      sent = λ l. omega (arith, n.sent l, ap (λ (logs : Logs). length (logs l)) sent);
      got = λ l. omega (arith, n.got l, ap (λ (logs : Logs). length (logs l)) got);
    }

pub not_same : (x y z : SeatView) → (HasSame x y → ⊥) → posted_on z ≡ posted_on y → collected_from z ≡ collected_from y → HasSame x z → ⊥
not_same x y z apart sent got same = apart record { sent = sym sent ∙ same.sent; got = sym got ∙ same.got }

-- where a parcel was posted
pub no_less_posted : (x y z : SeatView) (l : ℕ) (p : Shipped) → NoLess x y → posted_on z ≡ with_parcel (posted_on y) l p → collected_from z ≡ collected_from y → NoLess x z
no_less_posted x y z l p n sent got =
    record {
      sent = λ m. omega (arith, n.sent m, longer (m == l) (posted_on y m) p, ap (λ (logs : Logs). length (logs m)) sent);
      got = λ m. omega (arith, n.got m, ap (λ (logs : Logs). length (logs m)) got);
    }

pub has_posted : (x y z : SeatView) (l : ℕ) (p : Shipped) → NoLess x y → posted_on z ≡ with_parcel (posted_on y) l p → HasSame x z → ⊥
has_posted x y z l p n sent same =
    omega (arith, n.sent l, longer_here (posted_on y) l p, ap (λ (logs : Logs). length (logs l)) sent, ap (λ (logs : Logs). length (logs l)) same.sent)

-- where one was collected
pub no_less_collected : (x y z : SeatView) (l : ℕ) (p : Shipped) → NoLess x y → posted_on z ≡ posted_on y → collected_from z ≡ with_parcel (collected_from y) l p → NoLess x z
no_less_collected x y z l p n sent got =
    record {
      sent = λ m. omega (arith, n.sent m, ap (λ (logs : Logs). length (logs m)) sent);
      got = λ m. omega (arith, n.got m, longer (m == l) (collected_from y m) p, ap (λ (logs : Logs). length (logs m)) got);
    }

pub has_collected : (x y z : SeatView) (l : ℕ) (p : Shipped) → NoLess x y → collected_from z ≡ with_parcel (collected_from y) l p → HasSame x z → ⊥
has_collected x y z l p n got same =
    omega (arith, n.got l, longer_here (collected_from y) l p, ap (λ (logs : Logs). length (logs l)) got, ap (λ (logs : Logs). length (logs l)) same.got)

-- what a call did to a port it did to the same port among others
abbrev among : Others → PortView → PortView
among o v = record v { others = o }

pub posts_among : (old : PortView) (l : ℕ) (p : Contents) (answer : Result Posted NoMemory) (new : PortView) (p' : Contents) (o o' : Others) → o' ≡ o → Posts old l p answer new p' → Posts (among o old) l p answer (among o' new) p'
posts_among old l p answer new p' o o' same t =
    record {
      sent = t.sent;
      emptied = t.emptied;
      room = t.room;
      looked = t.looked;
      no_room = t.no_room;
      crowded = t.crowded;
      at_hand = t.at_hand;
      not_sent = t.not_sent;
      still_idle = t.still_idle;
      kept = t.kept;
      crowded_here = t.crowded_here;
      idle_here = t.idle_here;
      calls = t.calls;
      looks_out = t.looks_out;
      looks_here = t.looks_here;
      same_ins = record { got = t.same_ins.got; looks_in = t.same_ins.looks_in; listens = t.same_ins.listens; noted = t.same_ins.noted };
      same_port = record { rank = t.same_port.rank; dims = t.same_port.dims; slots = t.same_port.slots; others = same };
    }

pub collects_among : (cap : ℕ) (old : PortView) (l : ℕ) (p : Contents) (answer : Collected) (new : PortView) (p' : Contents) (o o' : Others) → o' ≡ o → Collects cap old l p answer new p' → Collects cap (among o old) l p answer (among o' new) p'
collects_among cap old l p answer new p' o o' same t =
    record {
      got = t.got;
      arrived = t.arrived;
      epoch = t.epoch;
      fits = t.fits;
      fair = t.fair;
      known = t.known;
      own = t.own;
      heard = t.heard;
      none_known = t.none_known;
      idle = t.idle;
      not_got = t.not_got;
      still_crowded = t.still_crowded;
      kept = t.kept;
      at_hand = t.at_hand;
      calls = t.calls;
      noted = t.noted;
      listens = t.listens;
      looks_in = t.looks_in;
      crowded_here = t.crowded_here;
      idle_here = t.idle_here;
      same_outs = record { sent = t.same_outs.sent; looks_out = t.same_outs.looks_out };
      same_port = record { rank = t.same_port.rank; dims = t.same_port.dims; slots = t.same_port.slots; others = same };
    }
