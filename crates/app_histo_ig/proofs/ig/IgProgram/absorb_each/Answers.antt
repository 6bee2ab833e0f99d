-- What ig makes of a batch is what it makes of its items one by one, in each of its rounds.
use Rattle.std.proofs.Common.{◌≡◌, ◌<◌, ℕ, List, length, map, refl, ap, sym, subst, ◌∙◌, arith}
use Rattle.std.specs.Vec.{with_items}
use Rattle.std.proofs.lemmas.List.{with_items_is, length-map}
use Rattle.bale_items.specs.declared.Item.{Item}
use Rattle.round_program.specs.Batches.{all_taken_in}
use Rattle.round_program.proofs.Batches.{then}
use Rattle.app_histo_ig.specs.declared.seat.Seat.{Seat}
use Rattle.app_histo_ig.specs.Igs.{IsIg, ig_rules, ig_replies_from}
use Rattle.app_histo_ig.specs.code.IgView.{ig_state}
use Rattle.app_histo_ig.specs.code.Batches.{all_risen, all_answered}
use Rattle.app_histo_ig.proofs.IgSent.{same_early}
use Rattle.app_histo_ig.proofs.Taken.{all_risen_len, all_answered_len, values_taken, queries_taken, replies_taken, values_valid}
use Rattle.app_histo_ig.proofs.ig.IgProgram.absorb_each.Goals as goal

pub invariant_of-self : goal.invariant_of-self
invariant_of-self g c =
    let s = ig_state c.self.inside in
    let seat : Seat = record { rank = s.rank; ranks = s.ranks; cols = s.cols } in
    let came = g.I.Arrivals.items c.args.came in
    let is : c.rise_each.new.sums ≡ all_risen seat s.sums came = c.rise_each.ensures ∙ ap (λ l. all_risen seat l came) c.deref_mut.ensures.value in
    let len = ap length is ∙ all_risen_len seat s.sums came ∙ sym (ap length c.deref_mut.ensures.value) ∙ c.deref_mut.ensures.len in
    let new : (with_items c.self.inside.sums c.rise_each.new.sums).items ≡ all_risen seat s.sums came = with_items_is c.self.inside.sums c.rise_each.new.sums len ∙ is in
    let sums = (with_items c.self.inside.sums c.rise_each.new.sums).items in
    record {
      state = subst (λ o. IsIg (record s { sums = sums; outgoing = o })) (same_early s.round s.ranks c.self.inside.own.items _ (ig_replies_from s.ranks sums 0 s.queries) (omega (arith, c.if-self-eq0.true)))
          (values_valid s seat came sums c.self.invariant.state new);
      count = λ e. absurd (omega (arith, e, c.if-self-eq0.true));
    }

pub invariant_of-self-then-self-eq1 : goal.invariant_of-self-then-self-eq1
invariant_of-self-then-self-eq1 g c =
    let s = ig_state c.self.inside in
    let v = c.self.invariant.state in
    let queries = map (λ l. l.items) c.note_each.new.queries.items in
    record {
      state = subst (λ o. IsIg (record s { queries = queries; outgoing = o })) (same_early s.round s.ranks c.self.inside.own.items _ (ig_replies_from s.ranks s.sums 0 queries) (omega (arith, c.if-self-eq1.true)))
          (record {
            own_rank = v.own_rank;
            wide = v.wide;
            named = v.named;
            words = v.words;
            places = v.places;
            senders = length-map c.note_each.new.queries.items (λ l. l.items) ∙ c.note_each.ensures.senders;
            asked = c.note_each.ensures.asked;
            fit = v.fit;
          });
      count = λ e. absurd (omega (arith, e, c.if-self-eq1.true));
    }

pub returns-then-self-eq0-clause-absorbed : goal.returns-then-self-eq0-clause-absorbed
returns-then-self-eq0-clause-absorbed g c =
    let s = ig_state c.self.inside in
    let seat : Seat = record { rank = s.rank; ranks = s.ranks; cols = s.cols } in
    let came = g.I.Arrivals.items c.args.came in
    let is : c.rise_each.new.sums ≡ all_risen seat s.sums came = c.rise_each.ensures ∙ ap (λ l. all_risen seat l came) c.deref_mut.ensures.value in
    let len = ap length is ∙ all_risen_len seat s.sums came ∙ sym (ap length c.deref_mut.ensures.value) ∙ c.deref_mut.ensures.len in
    let new : (with_items c.self.inside.sums c.rise_each.new.sums).items ≡ all_risen seat s.sums came = with_items_is c.self.inside.sums c.rise_each.new.sums len ∙ is in
    let sums = (with_items c.self.inside.sums c.rise_each.new.sums).items in
    ap (λ o. record s { sums = sums; outgoing = o }) (same_early s.round s.ranks c.self.inside.own.items (ig_replies_from s.ranks sums 0 s.queries) _ (omega (arith, c.if-self-eq0.true)))
    ∙ ap (λ (l : List ℕ). record s { sums = l }) new
    ∙ sym (values_taken s seat came c.self.invariant.state c.if-self-eq0.true (record { own = refl; all = refl; wide = refl }))
    ∙ ap (λ t. all_taken_in ig_rules t came) c.self.view_is

pub returns-then-self-eq1-clause-absorbed : goal.returns-then-self-eq1-clause-absorbed
returns-then-self-eq1-clause-absorbed g c =
    let s = ig_state c.self.inside in
    let seat : Seat = record { rank = s.rank; ranks = s.ranks; cols = s.cols } in
    let came = g.I.Arrivals.items c.args.came in
    let queries = map (λ l. l.items) c.note_each.new.queries.items in
    then c.note_each.result _ _
    (λ is. ap (λ o. record s { queries = queries; outgoing = o }) (same_early s.round s.ranks c.self.inside.own.items (ig_replies_from s.ranks s.sums 0 queries) _ (omega (arith, c.if-self-eq1.true)))
    ∙ ap (λ (l : List (List Item)). record s { queries = l }) is
    ∙ sym (queries_taken s seat came c.self.invariant.state c.if-self-eq1.true (record { own = refl; all = refl; wide = refl }))
    ∙ ap (λ t. all_taken_in ig_rules t came) c.self.view_is)
    c.note_each.ensures.ok

pub returns-clause-absorbed : goal.returns-clause-absorbed
returns-clause-absorbed g c =
    let s = ig_state c.self.inside in
    let came = g.I.Arrivals.items c.args.came in
    let is : c.raise_each.new.answers ≡ all_answered s.ranks s.answers came = c.raise_each.ensures ∙ ap (λ l. all_answered s.ranks l came) c.deref_mut-2.ensures.value in
    let len = ap length is ∙ all_answered_len s.ranks s.answers came ∙ sym (ap length c.deref_mut-2.ensures.value) ∙ c.deref_mut-2.ensures.len in
    let new : (with_items c.self.inside.answers c.raise_each.new.answers).items ≡ all_answered s.ranks s.answers came = with_items_is c.self.inside.answers c.raise_each.new.answers len ∙ is in
    let late : 1 < s.round = omega (arith, c.if-self-eq0.false, c.if-self-eq1.false) in
    ap (λ (l : List ℕ). record s { answers = l }) new
    ∙ sym (replies_taken s s.ranks came c.self.invariant.state late refl)
    ∙ ap (λ t. all_taken_in ig_rules t came) c.self.view_is
