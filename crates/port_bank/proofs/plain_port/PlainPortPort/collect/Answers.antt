use Rattle.std.proofs.Common.{rules, ◌≡◌, ℕ, List, ◌<◌, length, arith, sym, ap, subst}
use Rattle.item_buffer.specs.Contents.{as_shipped}
use Rattle.route_tensor.specs.Link.{links}
use Rattle.route_tensor.specs.Ends.{sender_at, reader_at}
use Rattle.port_bank.specs.Calls.{calls_of}
use Rattle.port_bank.specs.Plain.{Bank}
use Rattle.port_bank.proofs.Ports.{collect_turn, collect_leaves, crowded_here, idle_here, begins_own, none_falls}
use Rattle.port_bank.proofs.plain_port.PlainPortPort.collect.Goals as goal

pub returns-clause-collects : goal.returns-clause-collects
returns-clause-collects g c =
    let b = c.args.self.now.bank in
    let b' = c.collect-answer.new.self in
    let r = c.args.self.now.rank in
    let l = c.args.link in
    let does = c.collect-answer.ensures.does in
    let within : l < length b.channels = omega (arith, c.requires.may.link, c.known.ensures.number) in
    let t = collect_turn b b' l c.collect-answer.result (as_shipped c.collect-answer.new.p) within does.got does.nothing in
    let leaves = collect_leaves b b' r l c.collect-answer.result (as_shipped c.collect-answer.new.p) (calls_of c.args.self.now.calls) (calls_of c.note_collect.new.self) within c.requires.may.ends_here does in
    record {
      got = leaves.got;
      arrived = search rules;
      epoch = search rules;
      fits = search rules;
      fair = search rules;
      known = search rules;
      own = λ is from.
          let dims : b'.dims ≡ b.dims = ap (λ (x : Bank). x.dims) (does.got is) in
          begins_own g.row.CAP r l b' c.known-2.ensures
          (subst (λ (d : List ℕ). l < links d) (sym dims) c.requires.may.link)
          (subst (λ (d : List ℕ). sender_at d l ≡ r) (sym dims) from)
          (subst (λ (d : List ℕ). reader_at d l ≡ r) (sym dims) c.requires.may.ends_here);
      heard = search rules;
      none_known = search rules;
      idle = search rules;
      not_got = leaves.not_got;
      still_crowded = leaves.still_crowded;
      kept = search rules;
      at_hand = search rules;
      calls = search rules;
      noted = leaves.noted;
      listens = none_falls (λ x. x.listens) b b' l t c.collect-answer.ensures.listens;
      looks_in = none_falls (λ x. x.looks_in) b b' l t c.collect-answer.ensures.looks;
      crowded_here = crowded_here r b b' l t;
      idle_here = idle_here r b b' l t;
      same_outs = leaves.same_outs;
      same_port = leaves.same_port;
    }
