use Rattle.std.proofs.Common.{◌≡◌, true, false, map, List, None, sym, ap, subst, ◌∙◌, rules}
use Rattle.exstack.specs.declared.stage.Stage.TheVariants.{Proceeding}
use Rattle.exstack.specs.Links.{StackOut, StackIn, begun_out, begun_in}
use Rattle.exstack.specs.State.{Stack, is_proceeding, may_proceed}
use Rattle.exstack.specs.Standing.{IsKeptStack}
use Rattle.exstack.proofs.Beginning.{proceed_kept}
use Rattle.exstack.proofs.exstack.Exstack.begin_proceed.Goals as goal

pub invariant_of-self-2 : goal.invariant_of-self-2
invariant_of-self-2 g c =
    let st : Stack = record {
      ranks = c.self.inside.ranks;
      rank = c.self.inside.rank;
      stage = c.self.inside.stage;
      done = c.self.inside.done;
      epoch = c.self.inside.epoch;
      outs = c.self.inside.outs.items;
      ins = c.self.inside.ins.items;
      popped = c.self.inside.popped;
    } in
    let now : Stack = c.args.self.now in
    let view : st ≡ now = c.self.view_is in
    let may : may_proceed st.stage ≡ true = ap (λ (t : Stack). may_proceed t.stage) view ∙ c.requires.may in
    let not_yet : is_proceeding st.stage ≡ false = search rules in
    let stays : st.done ≡ true → c.args.done ≡ true = λ h. c.requires.done_stays (ap (λ (t : Stack). t.done) (sym view) ∙ h) in
    let k : IsKeptStack g.row.CAP (record st { stage = Proceeding; done = c.args.done; outs = map begun_out st.outs; ins = map begun_in st.ins; popped = None }) c.self.inside.from =
    proceed_kept g.row.CAP st c.self.inside.from c.args.done c.self.invariant may not_yet stays in
    subst (λ (outs : List StackOut). IsKeptStack g.row.CAP (record st { stage = Proceeding; done = c.args.done; outs = outs; ins = c.begin_ins.new.links.items; popped = None }) c.self.inside.from) (sym c.begin_outs.ensures)
    (subst (λ (ins : List StackIn). IsKeptStack g.row.CAP (record st { stage = Proceeding; done = c.args.done; outs = map begun_out st.outs; ins = ins; popped = None }) c.self.inside.from) (sym c.begin_ins.ensures) k)
