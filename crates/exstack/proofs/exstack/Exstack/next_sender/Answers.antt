use Rattle.std.proofs.Common.{◌≡◌, Some, None, sym, subst, rules}
use Rattle.port_bank.specs.Machine.{IsOwnStep}
use Rattle.port_bank.specs.Machine.Step.{Idle}
use Rattle.exstack.specs.State.{Stack, lowest_unread_sender}
use Rattle.exstack.specs.Agreement.{AgreesIn}
use Rattle.exstack.specs.Parts.{stack_part}
use Rattle.exstack.proofs.Beginning.{agrees_rest}
use Rattle.exstack.proofs.Stepping.{idle_step}
use Rattle.exstack.proofs.Batches.{rest_from, rest_at}
use Rattle.exstack.proofs.exstack.Exstack.next_sender.Goals as goal

pub invariant_of-self : goal.invariant_of-self
invariant_of-self g c = rest_from g.row.CAP _ c.self.inside.from c.self.invariant

pub invariant_of-self-2 : goal.invariant_of-self-2
invariant_of-self-2 g c =
    let st : Stack = record {
      ranks = c.self.inside.ranks;
      rank = c.self.inside.rank;
      stage = c.self.inside.stage;
      done = c.self.inside.done;
      epoch = c.self.inside.epoch;
      outs = c.self.inside.outs.items;
      ins = c.self.inside.ins.items;
      popped = c.self.inside.popped;
    } in
    let now : Stack = c.args.self.now in
    let view : st ≡ now = c.self.view_is in
    let found : lowest_unread_sender st ≡ Some c.in_ok-sender.sender = search rules in
    rest_at g.row.CAP st c.self.inside.from c.in_ok-sender.sender c.self.invariant found

pub returns-in_err-sender-clause-kept : goal.returns-in_err-sender-clause-kept
returns-in_err-sender-clause-kept g c = λ n sent got a.
    subst (λ (t : Stack). AgreesIn n (record t { popped = None }) sent got) (sym c.self.view_is) (agrees_rest n c.args.self.now sent got a)

pub returns-in_err-sender-clause-step : goal.returns-in_err-sender-clause-step
returns-in_err-sender-clause-step g c = λ n sent got a.
    subst (λ (t : Stack). IsOwnStep Idle (stack_part c.args.self.now sent got) (stack_part (record t { popped = None }) sent got)) (sym c.self.view_is) (idle_step c.args.self.now n sent got)

pub returns-clause-kept : goal.returns-clause-kept
returns-clause-kept g c = λ n sent got a.
    subst (λ (t : Stack). AgreesIn n (record t { popped = None }) sent got) (sym c.self.view_is) (agrees_rest n c.args.self.now sent got a)

pub returns-clause-step : goal.returns-clause-step
returns-clause-step g c = λ n sent got a.
    subst (λ (t : Stack). IsOwnStep Idle (stack_part c.args.self.now sent got) (stack_part (record t { popped = None }) sent got)) (sym c.self.view_is) (idle_step c.args.self.now n sent got)
