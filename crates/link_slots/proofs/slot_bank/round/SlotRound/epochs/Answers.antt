use Rattle.std.proofs.Common.{arith, ◌≡◌, ◌+◌, ℕ, suc, List, map, get_or, sym, ap, ◌∙◌, Option, None}
use Rattle.item_buffer.specs.Contents.{as_shipped, Shipped}
use Rattle.route_tensor.specs.Link.{links}
use Rattle.route_tensor.specs.Ends.{reader_at}
use Rattle.port_bank.specs.Logs.{lasts}
use Rattle.port_bank.specs.Round.{ended_by_all, epochs_of}
use Rattle.port_bank.proofs.Closing.{some_links}
use Rattle.link_slots.specs.declared.seat.rank_ends.EndedCounts.{EndedCounts}
use Rattle.link_slots.specs.Logs.{got_of}
use Rattle.list_laws.specs.Counts.{saturated_count}
use Rattle.link_slots.specs.ClosedBank.{each_below, logs_at, first_lists, ended_of}
use Rattle.link_slots.proofs.Giving.{any_default}
use Rattle.link_slots.proofs.Settling.{least_next}
use Rattle.link_slots.proofs.slot_bank.round.SlotRound.epochs.Goals as goal

pub loop-link-preserved : goal.loop-link-preserved
loop-link-preserved c =
    let r = c.self.inside in let n : ℕ = c.loop-link.link in let f : ℕ → List Shipped = λ k. map as_shipped (got_of (logs_at (first_lists r.last.value.views) (reader_at r.grid k)) k) in
    let reader : ℕ = c.ends-reader.result.2 in
    let at : reader_at r.grid n ≡ reader = sym c.ends-reader.ensures.reader in
    let read : c.index.result.now ≡ get_or r.ended.items reader None = c.index.ensures ∙ any_default r.ended.items reader c.index.result.now None (let a = c.ends-reader.ensures.link.reader in let b = c.self.invariant.many in omega arith) in
    let e : c.ended_on.result ≡ saturated_count (lasts (f n)) = c.ended_on.ensures ∙ ap (λ (z : Option EndedCounts). ended_of z n) read ∙ c.self.invariant.each reader n (let a = c.loop-link-test.true in let b = c.links-link-end.ensures.value in omega arith) at
    ∙ ap (λ (z : ℕ). saturated_count (lasts (map as_shipped (got_of (logs_at (first_lists r.last.value.views) z) n)))) (sym at) in
    let next : c.min-least.result ≡ saturated_count (ended_by_all (each_below f (suc n))) = c.min-least.ensures ∙ least_next f n c.loop-link.least c.ended_on.result c.loop-link.invariant.none c.loop-link.invariant.some e in
    record {
      none = λ h. absurd (omega arith);
      some = λ h. next ∙ ap (λ (z : ℕ). saturated_count (ended_by_all (each_below f z))) (let q : suc n ≡ n + 1 = omega arith in q);
    }

pub returns-clause-value : goal.returns-clause-value
returns-clause-value c =
    let r = c.self.inside in let n : ℕ = c.loop-link.link in let f : ℕ → List Shipped = λ k. map as_shipped (got_of (logs_at (first_lists r.last.value.views) (reader_at r.grid k)) k) in
    let all : n ≡ links r.grid = (let a = c.loop-link-test.false in let b = c.links-link-end.ensures.value in let d = c.loop-link.auto.link-end in omega arith) in
    c.loop-link.invariant.some (let s = some_links r.grid c.self.invariant.round.grid in omega arith) ∙ ap (λ (z : ℕ). saturated_count (ended_by_all (each_below f z))) all ∙ ap (λ z. saturated_count (epochs_of z)) c.self.view_is
