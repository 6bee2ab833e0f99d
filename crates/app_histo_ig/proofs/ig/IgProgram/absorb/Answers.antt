use Rattle.std.proofs.Common.{arith, length, map, ap, sym, subst, ◌∙◌}
use Rattle.std.specs.Vec.{with_items}
use Rattle.std.proofs.lemmas.List.{with_items_is}
use Rattle.round_program.specs.Laws.{Fits}
use Rattle.app_histo_ig.specs.Owners.{with_sum_risen}
use Rattle.app_histo_ig.specs.laws.OwnerLaws.{risen_len}
use Rattle.app_histo_ig.specs.Igs.{IsIg, ig_rules, ig_replies_from}
use Rattle.app_histo_ig.specs.code.IgView.{ig_state}
use Rattle.app_histo_ig.proofs.IgSent.{same_early}
use Rattle.app_histo_ig.proofs.IgSteps.{note_valid, rise_valid}
use Rattle.app_histo_ig.proofs.ig.IgProgram.absorb.Goals as goal

pub invariant_of-self : goal.invariant_of-self
invariant_of-self c =
    let s = ig_state c.self.inside in
    let is = c.rise.ensures ∙ ap (λ l. with_sum_risen s.ranks l c.args.item) c.deref_mut.ensures.value in
    let sums = (with_items c.self.inside.sums c.rise.new.sums).items in
    record {
      state = subst (λ o. IsIg (record s { sums = sums; outgoing = o })) (same_early s.round s.ranks c.self.inside.own.items _ (ig_replies_from s.ranks sums 0 s.queries) (omega (arith, c.if-self-eq0.true)))
          (rise_valid s c.args.item sums c.self.invariant.state
          (with_items_is c.self.inside.sums c.rise.new.sums (ap length is ∙ risen_len s.ranks s.sums c.args.item ∙ sym (ap length c.deref_mut.ensures.value) ∙ c.deref_mut.ensures.len) ∙ is));
      count = λ e. absurd (omega (arith, e, c.if-self-eq0.true));
    }

pub invariant_of-self-then-self-eq1 : goal.invariant_of-self-then-self-eq1
invariant_of-self-then-self-eq1 c =
    let s = ig_state c.self.inside in
    let queries = map (λ l. l.items) c.note.new.queries.items in
    record {
      state = subst (λ o. IsIg (record s { queries = queries; outgoing = o })) (same_early s.round s.ranks c.self.inside.own.items _ (ig_replies_from s.ranks s.sums 0 queries) (omega (arith, c.if-self-eq1.true)))
          (note_valid s c.args.from c.args.item _ queries c.self.invariant.state (subst (λ s. Fits ig_rules s c.args.from c.args.item) (sym c.self.view_is) c.requires) c.if-self-eq1.true c.note.ensures);
      count = λ e. absurd (omega (arith, e, c.if-self-eq1.true));
    }
