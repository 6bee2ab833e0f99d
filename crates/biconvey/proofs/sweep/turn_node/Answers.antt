use Rattle.std.proofs.Common.{rules, ◌≡◌, refl, ap, ◌∙◌, sym, subst}
use Rattle.port_bank.specs.Calls.{calls_of}
use Rattle.port_bank.specs.Plain.{Bank}
use Rattle.biconvey.specs.RanksOverBanks.{AfterBiRank, sides_of}
use Rattle.biconvey.proofs.Ranked.{PortTurns, after_turn, port_needs}
use Rattle.biconvey.proofs.sweep.turn_node.Goals as goal

pub turn-requires : goal.turn-requires
turn-requires g c =
    let T = g.A.Asker.talk in
    let q = c.args.banks.queries in
    let r = c.args.banks.replies in
    let n = c.args.node.now in
    let h = c.requires.rank.1 in
    let eq = c.port-asking.ensures.bank in
    let er = c.port-replying.ensures.bank in (
      search rules,
      record {
        queries = record { same_dims = subst (λ (b : Bank). b.dims ≡ n.queries.dims) (sym eq) (sym h.same_dims); same_rank = c.port-asking.ensures.rank ∙ sym h.same_rank };
        replies = record {
          same_dims = subst (λ (b : Bank). b.dims ≡ n.replies.dims) (sym er) (c.requires.banks.replies_dims ∙ sym (h.node.same_dims ∙ h.same_dims));
          same_rank = c.port-replying.ensures.rank ∙ sym (h.node.same_rank ∙ h.same_rank);
        };
        start = c.requires.rank.0;
        node = port_needs T q.dims c.args.number c.requires.rank.0 n q r c.port-asking.result.bank c.port-replying.result.bank c.port-asking.result.rank c.port-replying.result.rank refl c.requires.banks.replies_dims eq er c.port-asking.ensures.rank c.port-replying.ensures.rank h;
      },
    )

pub returns-clause-banks : goal.returns-clause-banks
returns-clause-banks g c =
    let q = c.args.banks.queries in
    let r = c.args.banks.replies in
    record {
      queries = c.into_bank.ensures.lawful;
      replies = c.into_bank-2.ensures.lawful;
      queries_dims = ap (λ (b : Bank). b.dims) c.into_bank.ensures.bank ∙ (c.turn.ensures.turns.queries.same_port.dims ∙ ap (λ (b : Bank). b.dims) c.port-asking.ensures.bank);
      replies_dims = ap (λ (b : Bank). b.dims) c.into_bank-2.ensures.bank ∙ (c.turn.ensures.turns.replies.same_port.dims ∙ (ap (λ (b : Bank). b.dims) c.port-replying.ensures.bank ∙ c.requires.banks.replies_dims));
      queries_slots = ap (λ (b : Bank). b.slots) c.into_bank.ensures.bank ∙ (c.turn.ensures.turns.queries.same_port.slots ∙ ap (λ (b : Bank). b.slots) c.port-asking.ensures.bank);
      replies_slots = ap (λ (b : Bank). b.slots) c.into_bank-2.ensures.bank ∙ (c.turn.ensures.turns.replies.same_port.slots ∙ (ap (λ (b : Bank). b.slots) c.port-replying.ensures.bank ∙ c.requires.banks.replies_slots));
    }

pub returns-clause-turned : goal.returns-clause-turned
returns-clause-turned g c =
    let T = g.A.Asker.talk in
    let q : Bank = c.args.banks.queries in
    let r : Bank = c.args.banks.replies in
    let n = c.args.node.now in
    let n' = c.turn.new.self in
    let h = c.requires.rank.1 in
    let pq : Bank = c.port-asking.result.bank in
    let pr : Bank = c.port-replying.result.bank in
    let pq' : Bank = c.turn.new.queries.bank in
    let pr' : Bank = c.turn.new.replies.bank in
    let a = c.port-asking.result.rank in
    let b = c.port-replying.result.rank in
    let a' = c.turn.new.queries.rank in
    let b' = c.turn.new.replies.rank in
    let k = calls_of c.port-asking.result.calls in
    let k' = calls_of c.turn.new.queries.calls in
    let j = calls_of c.port-replying.result.calls in
    let j' = calls_of c.turn.new.replies.calls in
    let notified : PortTurns T g.row.CAP n n' k k' j j' pq a pq' a' pr b pr' b' = record { turns = c.turn.ensures.turns; stuck = c.in_ok-_turn.ensures.stuck } in
    subst (λ (x : Bank). AfterBiRank T q.dims g.row.CAP q.slots c.args.number n n' (sides_of q r) (sides_of x c.into_bank-2.result)) (sym c.into_bank.ensures.bank)
    (subst (λ (x : Bank). AfterBiRank T q.dims g.row.CAP q.slots c.args.number n n' (sides_of q r) (sides_of pq' x)) (sym c.into_bank-2.ensures.bank)
    (after_turn T q.dims g.row.CAP q.slots c.args.number n n' k k' j j' q a pq' a' r b pr' b' refl refl c.requires.banks.replies_dims c.requires.banks.replies_slots
    (c.turn.ensures.turns.queries.same_port.dims ∙ ap (λ (x : Bank). x.dims) c.port-asking.ensures.bank) (c.turn.ensures.turns.queries.same_port.slots ∙ ap (λ (x : Bank). x.slots) c.port-asking.ensures.bank)
    (c.turn.ensures.turns.replies.same_port.dims ∙ ap (λ (x : Bank). x.dims) c.port-replying.ensures.bank) (c.turn.ensures.turns.replies.same_port.slots ∙ ap (λ (x : Bank). x.slots) c.port-replying.ensures.bank)
    c.port-asking.ensures.rank c.turn.ensures.turns.queries.same_port.rank c.port-replying.ensures.rank c.turn.ensures.turns.replies.same_port.rank
    h.same_dims h.same_rank (h.node.same_dims ∙ h.same_dims) (h.node.same_rank ∙ h.same_rank)
    (subst (λ (x : Bank). PortTurns T g.row.CAP n n' k k' j j' q a pq' a' x b pr' b') c.port-replying.ensures.bank (subst (λ (x : Bank). PortTurns T g.row.CAP n n' k k' j j' x a pq' a' pr b pr' b') c.port-asking.ensures.bank notified))))
