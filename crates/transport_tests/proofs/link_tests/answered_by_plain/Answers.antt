use Rattle.std.proofs.Common.{◌≡◌, ◌∙◌, ℕ, [], refl, ap}
use Rattle.port_bank.specs.Logs.{Logs, starting_at, ending_at}
use Rattle.port_bank.specs.Plain.{Bank, empty_bank, sent_of, got_of}
use Rattle.port_bank.proofs.Closing.{none_sent, none_got}
use Rattle.transport_tests.proofs.ByHand.{begins}
use Rattle.transport_tests.proofs.link_tests.answered_by_plain.Goals as goal

pub new-requires-3 : goal.new-requires-3
new-requires-3 c =
    let r : ℕ = c.port-plain.result.rank in
    let made : c.port-plain.result.bank ≡ empty_bank c.in-Ok.grid c.args.slots = c.port-plain.ensures.bank ∙ c.in_ok-new.ensures.made in
    let there : Bank = c.port-plain.result.bank in
    let sent : ◌≡◌ {A = Logs} (starting_at there.dims r (sent_of there)) (λ l. []) =
    ap (λ (z : Bank). starting_at z.dims r (sent_of z)) made ∙ (λ i l. none_sent c.in-Ok.grid c.args.slots r l i) in
    let got : ◌≡◌ {A = Logs} (ending_at there.dims r (got_of there)) (λ l. []) =
    ap (λ (z : Bank). ending_at z.dims r (got_of z)) made ∙ (λ i l. none_got c.in-Ok.grid c.args.slots r l i) in
    let begun = begins there.dims r (starting_at there.dims r (sent_of there)) (ending_at there.dims r (got_of there)) sent got in
    record {
      new = record {
        same_dims = ap (λ (z : Bank). z.dims) made;
        is_grid = c.in-Ok.ensures.grid;
        law = begun.0;
        none_sent = begun.1;
        none_got = begun.2;
        out_empty = refl;
        into_empty = refl;
      };
    }
