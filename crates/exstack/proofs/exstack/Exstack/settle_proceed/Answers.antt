use Rattle.std.proofs.Common.{◌≡◌, true, None, sym, ap, ◌∙◌, rules}
use Rattle.exstack.specs.declared.stage.Stage.TheVariants.{Proceeding}
use Rattle.exstack.specs.State.{Stack, missing_link, all_ended}
use Rattle.exstack.proofs.Settling.{filling_kept, all_done_kept}
use Rattle.exstack.proofs.exstack.Exstack.settle_proceed.Goals as goal

pub invariant_of-self : goal.invariant_of-self
invariant_of-self g c =
    let st : Stack = record {
      ranks = c.self.inside.ranks;
      rank = c.self.inside.rank;
      stage = c.self.inside.stage;
      done = c.self.inside.done;
      epoch = c.self.inside.epoch;
      outs = c.self.inside.outs.items;
      ins = c.self.inside.ins.items;
      popped = c.self.inside.popped;
    } in
    let now : Stack = c.args.self.now in
    let view : st ≡ now = c.self.view_is in
    let none : missing_link st ≡ None = ap missing_link view ∙ (sym c.requires.is_missing ∙ search rules) in
    let stage : st.stage ≡ Proceeding = ap (λ (t : Stack). t.stage) view ∙ c.requires.proceeding in
    let ended : all_ended st ≡ true = search rules in
    all_done_kept g.row.CAP st c.self.inside.from c.self.invariant (ap (λ (t : Stack). t.popped) view ∙ c.requires.forgotten) none stage ended

pub invariant_of-self-else-all_ended : goal.invariant_of-self-else-all_ended
invariant_of-self-else-all_ended g c =
    let st : Stack = record {
      ranks = c.self.inside.ranks;
      rank = c.self.inside.rank;
      stage = c.self.inside.stage;
      done = c.self.inside.done;
      epoch = c.self.inside.epoch;
      outs = c.self.inside.outs.items;
      ins = c.self.inside.ins.items;
      popped = c.self.inside.popped;
    } in
    let now : Stack = c.args.self.now in
    let view : st ≡ now = c.self.view_is in
    let none : missing_link st ≡ None = ap missing_link view ∙ (sym c.requires.is_missing ∙ search rules) in
    let stage : st.stage ≡ Proceeding = ap (λ (t : Stack). t.stage) view ∙ c.requires.proceeding in
    filling_kept g.row.CAP st c.self.inside.from c.self.invariant (ap (λ (t : Stack). t.popped) view ∙ c.requires.forgotten) none stage
