use Rattle.std.proofs.Common.{arith, ap, ⊎_elim}
use Rattle.item_buffer.specs.Contents.{Contents}
use Rattle.route_tensor.specs.Ends.{sender_at, reader_at}
use Rattle.link_slots.specs.Logs.{OutLog, out_of, in_of}
use Rattle.link_slots.specs.Shape.{wiring}
use Rattle.link_slots.proofs.Bells.{none_left, none_unheard}
use Rattle.link_slots.proofs.slot_bank.live.bell_law.Goals as goal

-- no ring is counted after the hear
pub returns-clause-step : goal.returns-clause-step
returns-clause-step g c =
    λ shape s s' l was now below same more.
    let before = (was.each_bell l below).rung in
    let at = ap (λ (o : OutLog Contents). o.rung_at) same in
    ⊎_elim (λ never. absurd (omega arith)) (λ heard. heard) (now.each_bell l below).answered

pub returns-clause-heard : goal.returns-clause-heard
returns-clause-heard g c =
    λ shape s l bank below heard settled.
    none_unheard (wiring shape) l (out_of (bank.logs (sender_at shape.dims l)) l) (in_of (bank.logs (reader_at shape.dims l)) l) s.words
    (bank.each_bell l below) heard settled.unmarked settled.taken

pub returns-clause-unset : goal.returns-clause-unset
returns-clause-unset g c =
    λ shape s l bank below unset settled.
    none_left (wiring shape) l (out_of (bank.logs (sender_at shape.dims l)) l) (in_of (bank.logs (reader_at shape.dims l)) l) s.words
    (bank.each_bell l below) unset settled.unmarked settled.taken
