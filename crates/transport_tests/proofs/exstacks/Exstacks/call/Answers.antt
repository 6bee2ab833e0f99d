use Rattle.std.proofs.Common.{◌≡◌, ◌<◌, ◌∷◌, [], length, get_or, set, sym, ap, subst, ◌∙◌, rules, arith}
use Rattle.std.proofs.lemmas.List.{length-set}
use Rattle.route_tensor.specs.Grid.{ranks}
use Rattle.port_bank.specs.Plain.{IsBank, sent_of, got_of}
use Rattle.exstack.specs.Law.{StacksAgree}
use Rattle.exstack.proofs.OneHop.{ranks_one}
use Rattle.transport_tests.specs.declared.exstack_side.Side.{Side}
use Rattle.transport_tests.proofs.OverPlain.{changes, together_port, together_poll, WantsPort, Polls}
use Rattle.transport_tests.proofs.exstacks.Exstacks.call.Goals as goal

pub port-port-requires : goal.port-port-requires
port-port-requires g c =
    let sides = c.self.inside.sides.items in
    let within : c.args.rank < length sides = omega (arith, c.if-rank-len.false, c.len.ensures) in
    (search rules, (search rules, subst (λ ds. c.args.rank < ranks ds) (sym c.self.invariant.0) (subst (λ n. c.args.rank < n) (sym (ranks_one (length sides))) within)))

pub make-requires : goal.make-requires
make-requires g c =
    let sides = c.self.inside.sides.items in
    let within : c.args.rank < length sides = omega (arith, c.if-rank-len.false, c.len.ensures) in
    let d = c.index_mut.result.now in
    let w : WantsPort d.stack c.port-port.result.bank c.port-port.result.rank = together_port (length sides) g.row.CAP c.args.rank (λ q. (get_or sides q d).stack) d.stack c.self.inside.bank c.port-port.result.bank c.port-port.result.rank
    c.self.invariant.0 (c.self.invariant.1 d) within (ap (λ s. s.stack) c.index_mut.ensures.value) c.port-port.ensures.bank c.port-port.ensures.rank in
    (search rules, record { same_dims = w.same_dims; same_rank = w.same_rank; agrees = w.agrees })

pub invariant_of-result-2 : goal.invariant_of-result-2
invariant_of-result-2 g c =
    let sides = c.self.inside.sides.items in
    let within : c.args.rank < length sides = omega (arith, c.if-rank-len.false, c.len.ensures) in
    let a : Polls g.row.CAP c.index_mut.result.now.stack c.make.new.self.stack c.port-port.result.bank c.make.new.port.bank c.port-port.result.rank c.make.new.port.rank = record {
      agrees = c.in_ok-answer.ensures.keeps.agrees;
      standing = c.in_ok-answer.ensures.standing;
      self_ranks = c.in_ok-answer.ensures.keeps.ranks;
      self_rank = c.in_ok-answer.ensures.keeps.rank;
      port_dims = c.in_ok-answer.ensures.keeps.same_port.dims;
      port_rank = c.in_ok-answer.ensures.keeps.same_port.rank;
      port_slots = c.in_ok-answer.ensures.keeps.same_port.slots;
      rest = c.in_ok-answer.ensures.keeps.same_port.others;
      lawful = subst (IsBank g.row.CAP) c.into_bank-bank.ensures.bank c.into_bank-bank.ensures.lawful;
    } in
    let count : length (set sides c.args.rank c.make.new.self) ≡ length sides = length-set sides c.args.rank c.make.new.self in
    let polled = λ (d : Side g.row.CAP). together_poll (length sides) g.row.CAP c.args.rank _ _ _ _ c.self.inside.bank c.port-port.result.bank c.make.new.port.bank c.into_bank-bank.result c.port-port.result.rank c.make.new.port.rank
    c.exchange_law.ensures.together c.self.invariant.0 (c.self.invariant.1 d) within
    (changes (λ s. s.stack) sides c.args.rank c.index_mut.result.now c.make.new.self d within c.index_mut.ensures.value)
    c.port-port.ensures.bank c.port-port.ensures.rank a c.into_bank-bank.ensures.bank in (
      (polled c.make.new.self).0 ∙ (c.self.invariant.0 ∙ ap (λ n. n ∷ []) (sym count)),
      λ d. subst (λ n. StacksAgree n g.row.CAP c.into_bank-bank.result.slots (λ r. (get_or (set sides c.args.rank c.make.new.self) r d).stack) (sent_of c.into_bank-bank.result) (got_of c.into_bank-bank.result)) (sym count) (polled d).1,
    )
