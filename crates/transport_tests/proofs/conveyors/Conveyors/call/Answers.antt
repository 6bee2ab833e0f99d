use Rattle.std.proofs.Common.{◌<◌, length, get_or, sym, ap, subst, ◌∙◌, arith}
use Rattle.std.proofs.lemmas.List.{length-set}
use Rattle.route_tensor.specs.Grid.{ranks}
use Rattle.port_bank.specs.Plain.{IsBank}
use Rattle.convey.proofs.Together.{changes, together_port, together_advance, Advances}
use Rattle.transport_tests.specs.declared.conveyor_side.Side.{Side}
use Rattle.transport_tests.proofs.conveyors.Conveyors.call.Goals as goal

pub make-requires : goal.make-requires
make-requires g c =
    let sides = c.self.inside.sides.items in
    let d = c.index_mut.result.now in
    let within : c.args.rank < length sides = omega (arith, c.if-rank-len.false, c.len.ensures) in
    let w = together_port g.row.CAP c.args.rank (λ q. (get_or sides q d).conveyor) d.conveyor c.self.inside.bank c.port-port.result.bank c.port-port.result.rank (c.self.invariant.1 d)
    (subst (λ n. c.args.rank < n) c.self.invariant.0 within) (ap (λ s. s.conveyor) c.index_mut.ensures.value) c.port-port.ensures.bank c.port-port.ensures.rank in
    (omega arith, record { same_dims = w.0; same_rank = w.1.0; agrees = w.1.1 })

pub invariant_of-result-2 : goal.invariant_of-result-2
invariant_of-result-2 g c =
    let sides = c.self.inside.sides.items in
    let within : c.args.rank < length sides = omega (arith, c.if-rank-len.false, c.len.ensures) in
    let a : Advances g.row.CAP c.args.rank c.index_mut.result.now.conveyor c.make.new.self.conveyor c.port-port.result.bank c.make.new.port.bank c.port-port.result.rank c.make.new.port.rank = record {
      agrees = c.in_ok-answer.ensures.keeps.agrees;
      sound = c.in_ok-answer.ensures.sound;
      self_dims = c.in_ok-answer.ensures.keeps.dims;
      self_rank = c.in_ok-answer.ensures.keeps.rank;
      port_dims = c.in_ok-answer.ensures.keeps.same_port.dims;
      port_rank = c.in_ok-answer.ensures.keeps.same_port.rank;
      port_slots = c.in_ok-answer.ensures.keeps.same_port.slots;
      rest = c.in_ok-answer.ensures.keeps.same_port.others;
      lawful = subst (IsBank g.row.CAP) c.into_bank-bank.ensures.bank c.into_bank-bank.ensures.lawful;
    } in
    let advanced = λ (d : Side g.row.CAP g.row.HOPS). together_advance g.row.CAP c.args.rank _ _ _ _ c.self.inside.bank c.port-port.result.bank c.make.new.port.bank c.into_bank-bank.result c.port-port.result.rank c.make.new.port.rank
    c.exchange_law.ensures.together (c.self.invariant.1 d) (subst (λ n. c.args.rank < n) c.self.invariant.0 within)
    (changes (λ s. s.conveyor) sides c.args.rank c.index_mut.result.now c.make.new.self d within c.index_mut.ensures.value)
    c.port-port.ensures.bank c.port-port.ensures.rank a c.into_bank-bank.ensures.bank in (
      length-set sides c.args.rank c.make.new.self ∙ (c.self.invariant.0 ∙ ap ranks (sym (advanced c.make.new.self).0)),
      λ d. (advanced d).1,
    )
