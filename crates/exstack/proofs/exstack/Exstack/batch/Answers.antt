use Rattle.std.proofs.Common.{◌≡◌, ◌<◌, length, slice_get, Some, sym, ap, subst, ◌∙◌, arith}
use Rattle.std.proofs.lemmas.List.{get_or_default}
use Rattle.std.proofs.lemmas.List.Quantifiers.{position-Some}
use Rattle.exstack.specs.Links.{StackIn, no_stack_in, has_unread}
use Rattle.exstack.specs.State.{Stack, stack_in_at, lowest_unread_sender}
use Rattle.exstack.specs.Standing.{IsStack}
use Rattle.exstack.proofs.Batches.{gives_next}
use Rattle.exstack.proofs.exstack.Exstack.batch.Goals as goal

pub index-requires : goal.index-requires
index-requires g c =
    let st : Stack = record {
      ranks = c.self.inside.ranks;
      rank = c.self.inside.rank;
      stage = c.self.inside.stage;
      done = c.self.inside.done;
      epoch = c.self.inside.epoch;
      outs = c.self.inside.outs.items;
      ins = c.self.inside.ins.items;
      popped = c.self.inside.popped;
    } in
    let found : lowest_unread_sender st ≡ Some c.args.sender = ap lowest_unread_sender c.self.view_is ∙ c.requires.lowest in
    omega (arith, (position-Some has_unread st.ins c.args.sender no_stack_in found).0, c.self.inside.ins.ok)

pub returns-clause-gives : goal.returns-clause-gives
returns-clause-gives g c =
    let st : Stack = record {
      ranks = c.self.inside.ranks;
      rank = c.self.inside.rank;
      stage = c.self.inside.stage;
      done = c.self.inside.done;
      epoch = c.self.inside.epoch;
      outs = c.self.inside.outs.items;
      ins = c.self.inside.ins.items;
      popped = c.self.inside.popped;
    } in
    let now : Stack = c.args.self.now in
    let view : st ≡ now = c.self.view_is in
    let found : lowest_unread_sender st ≡ Some c.args.sender = ap lowest_unread_sender view ∙ c.requires.lowest in
    let low : c.args.sender < length st.ins = (position-Some has_unread st.ins c.args.sender no_stack_in found).0 in
    let s : IsStack g.row.CAP now = subst (IsStack g.row.CAP) view c.self.invariant.standing in
    let value = c.unread.ensures ∙ (ap (λ (i : StackIn). i.unread) (c.index.ensures ∙ get_or_default st.ins c.args.sender c.index.result.now no_stack_in low) ∙ ap (λ (t : Stack). (stack_in_at t c.args.sender).unread) view) in
    λ i e h. gives_next now c.args.sender c.requires.lowest g.row.CAP s i e (ap (λ es. slice_get es i) (sym value) ∙ h)
