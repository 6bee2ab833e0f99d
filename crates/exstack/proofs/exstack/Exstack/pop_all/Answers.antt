use Rattle.std.proofs.Common.{◌≡◌, Some, length, sym, ap, subst, ◌∙◌, arith}
use Rattle.std.proofs.lemmas.List.Quantifiers.{position-Some}
use Rattle.exstack.specs.Links.{no_stack_in, has_unread}
use Rattle.exstack.specs.State.{Stack, stack_in_at, lowest_unread_sender, pops}
use Rattle.exstack.specs.Agreement.{AgreesIn}
use Rattle.exstack.specs.Standing.{IsStack}
use Rattle.exstack.proofs.Batches.{all_kept, pops_keep, pops_same}
use Rattle.exstack.proofs.exstack.Exstack.pop_all.Goals as goal

pub index_mut-requires : goal.index_mut-requires
index_mut-requires g c =
    let st : Stack = record {
      ranks = c.self.inside.ranks;
      rank = c.self.inside.rank;
      stage = c.self.inside.stage;
      done = c.self.inside.done;
      epoch = c.self.inside.epoch;
      outs = c.self.inside.outs.items;
      ins = c.self.inside.ins.items;
      popped = c.self.inside.popped;
    } in
    let now : Stack = c.args.self.now in
    let view : st ≡ now = c.self.view_is in
    let found : lowest_unread_sender st ≡ Some c.args.sender = ap lowest_unread_sender view ∙ c.requires.lowest in
    omega (arith, (position-Some has_unread st.ins c.args.sender no_stack_in found).0, c.self.inside.ins.ok)

pub invariant_of-self : goal.invariant_of-self
invariant_of-self g c =
    let st : Stack = record {
      ranks = c.self.inside.ranks;
      rank = c.self.inside.rank;
      stage = c.self.inside.stage;
      done = c.self.inside.done;
      epoch = c.self.inside.epoch;
      outs = c.self.inside.outs.items;
      ins = c.self.inside.ins.items;
      popped = c.self.inside.popped;
    } in
    let now : Stack = c.args.self.now in
    let view : st ≡ now = c.self.view_is in
    let found : lowest_unread_sender st ≡ Some c.args.sender = ap lowest_unread_sender view ∙ c.requires.lowest in
    (all_kept g.row.CAP st c.self.inside.from c.args.sender c.index_mut.result.now c.read_all.new.self c.self.invariant found c.index_mut.ensures.value c.read_all.ensures).0

pub returns-clause-state : goal.returns-clause-state
returns-clause-state g c =
    let st : Stack = record {
      ranks = c.self.inside.ranks;
      rank = c.self.inside.rank;
      stage = c.self.inside.stage;
      done = c.self.inside.done;
      epoch = c.self.inside.epoch;
      outs = c.self.inside.outs.items;
      ins = c.self.inside.ins.items;
      popped = c.self.inside.popped;
    } in
    let now : Stack = c.args.self.now in
    let view : st ≡ now = c.self.view_is in
    let found : lowest_unread_sender st ≡ Some c.args.sender = ap lowest_unread_sender view ∙ c.requires.lowest in
    (all_kept g.row.CAP st c.self.inside.from c.args.sender c.index_mut.result.now c.read_all.new.self c.self.invariant found c.index_mut.ensures.value c.read_all.ensures).1
    ∙ ap (λ (t : Stack). pops (length (stack_in_at t c.args.sender).unread) t) view

pub returns-clause-kept : goal.returns-clause-kept
returns-clause-kept g c =
    let st : Stack = record {
      ranks = c.self.inside.ranks;
      rank = c.self.inside.rank;
      stage = c.self.inside.stage;
      done = c.self.inside.done;
      epoch = c.self.inside.epoch;
      outs = c.self.inside.outs.items;
      ins = c.self.inside.ins.items;
      popped = c.self.inside.popped;
    } in
    let now : Stack = c.args.self.now in
    let view : st ≡ now = c.self.view_is in
    let found : lowest_unread_sender st ≡ Some c.args.sender = ap lowest_unread_sender view ∙ c.requires.lowest in
    let is =
    (all_kept g.row.CAP st c.self.inside.from c.args.sender c.index_mut.result.now c.read_all.new.self c.self.invariant found c.index_mut.ensures.value c.read_all.ensures).1
    ∙ ap (λ (t : Stack). pops (length (stack_in_at t c.args.sender).unread) t) view in
    let s : IsStack g.row.CAP c.args.self.now = subst (IsStack g.row.CAP) c.self.view_is c.self.invariant.standing in
    λ n sent got a. subst (λ (t : Stack). AgreesIn n t sent got) (sym is) (pops_keep now c.args.sender c.requires.lowest g.row.CAP s (length (stack_in_at now c.args.sender).unread) (omega arith) n sent got a)

pub returns-clause-same : goal.returns-clause-same
returns-clause-same g c =
    let st : Stack = record {
      ranks = c.self.inside.ranks;
      rank = c.self.inside.rank;
      stage = c.self.inside.stage;
      done = c.self.inside.done;
      epoch = c.self.inside.epoch;
      outs = c.self.inside.outs.items;
      ins = c.self.inside.ins.items;
      popped = c.self.inside.popped;
    } in
    let now : Stack = c.args.self.now in
    let view : st ≡ now = c.self.view_is in
    let found : lowest_unread_sender st ≡ Some c.args.sender = ap lowest_unread_sender view ∙ c.requires.lowest in
    let is =
    (all_kept g.row.CAP st c.self.inside.from c.args.sender c.index_mut.result.now c.read_all.new.self c.self.invariant found c.index_mut.ensures.value c.read_all.ensures).1
    ∙ ap (λ (t : Stack). pops (length (stack_in_at t c.args.sender).unread) t) view in
    pops_same now c.args.sender c.requires.lowest (length (stack_in_at now c.args.sender).unread) (omega arith) _ is
