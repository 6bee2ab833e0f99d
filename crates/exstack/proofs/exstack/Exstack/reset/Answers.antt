use Rattle.std.proofs.Common.{◌≡◌, subst, sym, ap, ◌∙◌}
use Rattle.port_bank.specs.Machine.{IsOwnStep}
use Rattle.port_bank.specs.Machine.Step.{Reset}
use Rattle.exstack.specs.declared.stage.Stage.TheVariants.{AllDone}
use Rattle.exstack.specs.State.{Stack, after_reset}
use Rattle.exstack.specs.Standing.{IsStack, IsKeptStack}
use Rattle.exstack.specs.Agreement.{AgreesIn}
use Rattle.exstack.specs.Parts.{stack_part}
use Rattle.exstack.proofs.Resetting.{reset_agrees, reset_step}
use Rattle.exstack.proofs.Calls.{reset_kept}
use Rattle.exstack.proofs.exstack.Exstack.reset.Goals as goal

pub invariant_of-self : goal.invariant_of-self
invariant_of-self g c =
    let st : Stack = record {
      ranks = c.self.inside.ranks;
      rank = c.self.inside.rank;
      stage = c.self.inside.stage;
      done = c.self.inside.done;
      epoch = c.self.inside.epoch;
      outs = c.self.inside.outs.items;
      ins = c.self.inside.ins.items;
      popped = c.self.inside.popped;
    } in
    let all : st.stage ≡ AllDone = ap (λ (t : Stack). t.stage) c.self.view_is ∙ c.requires.all_done in
    let k : IsKeptStack g.row.CAP (after_reset st) c.self.inside.from = reset_kept g.row.CAP st c.self.inside.from c.self.invariant all in
    subst (λ outs. IsKeptStack g.row.CAP (record (after_reset st) { outs = outs; ins = c.resume_all.new.links.items }) c.self.inside.from) (sym c.reopen_all.ensures)
    (subst (λ ins. IsKeptStack g.row.CAP (record (after_reset st) { ins = ins }) c.self.inside.from) (sym c.resume_all.ensures) k)

pub returns-clause-kept : goal.returns-clause-kept
returns-clause-kept g c =
    let st : Stack = record {
      ranks = c.self.inside.ranks;
      rank = c.self.inside.rank;
      stage = c.self.inside.stage;
      done = c.self.inside.done;
      epoch = c.self.inside.epoch;
      outs = c.self.inside.outs.items;
      ins = c.self.inside.ins.items;
      popped = c.self.inside.popped;
    } in
    let now : Stack = c.args.self.now in
    let is : record (after_reset st) { outs = c.reopen_all.new.links.items; ins = c.resume_all.new.links.items } ≡ after_reset now =
    (λ k. record (after_reset st) { outs = c.reopen_all.ensures k; ins = c.resume_all.ensures k }) ∙ ap after_reset c.self.view_is in
    let s : IsStack g.row.CAP c.args.self.now = subst (IsStack g.row.CAP) c.self.view_is c.self.invariant.standing in
    λ n sent got a. subst (λ (t : Stack). AgreesIn 0 t sent got) (sym is) (reset_agrees g.row.CAP n now sent got s c.requires.all_done a)

pub returns-clause-step : goal.returns-clause-step
returns-clause-step g c =
    let st : Stack = record {
      ranks = c.self.inside.ranks;
      rank = c.self.inside.rank;
      stage = c.self.inside.stage;
      done = c.self.inside.done;
      epoch = c.self.inside.epoch;
      outs = c.self.inside.outs.items;
      ins = c.self.inside.ins.items;
      popped = c.self.inside.popped;
    } in
    let now : Stack = c.args.self.now in
    let is : record (after_reset st) { outs = c.reopen_all.new.links.items; ins = c.resume_all.new.links.items } ≡ after_reset now =
    (λ k. record (after_reset st) { outs = c.reopen_all.ensures k; ins = c.resume_all.ensures k }) ∙ ap after_reset c.self.view_is in
    let s : IsStack g.row.CAP c.args.self.now = subst (IsStack g.row.CAP) c.self.view_is c.self.invariant.standing in
    λ n sent got a. subst (λ (t : Stack). IsOwnStep Reset (stack_part now sent got) (stack_part t sent got)) (sym is) (reset_step g.row.CAP n now sent got s c.requires.all_done a)
