use Rattle.std.proofs.Common.{◌≡◌, ℕ, length, slice_get, Some, subst, sym, ap, arith, ◌∙◌}
use Rattle.bale_items.specs.declared.item.Entry.{Entry}
use Rattle.bale_items.specs.declared.item.Item.{Item}
use Rattle.route_tensor.specs.Neighbour.{neighbour}
use Rattle.route_tensor.specs.Routes.{Site}
use Rattle.route_tensor.specs.Tag.{sender_of}
use Rattle.hop_core.specs.State.{State, in_at, pulls}
use Rattle.convey.specs.Conveyors.{GivesNext}
use Rattle.rank_node.specs.Batches.{from_link, unread_items_on, TakesEach}
use Rattle.rank_node.proofs.Chains.{mapped_at}
use Rattle.rank_node.proofs.OneHop.{of_neighbour}
use Rattle.rank_node.proofs.taking.take_unread.Goals as goal

pub returns-then-this-eq1-clause-takes : goal.returns-then-this-eq1-clause-takes
returns-then-this-eq1-clause-takes g c =
    let st : State = c.args.conveyor.now in
    let site : Site = record { dims = st.dims; rank = st.rank } in
    let one : length st.dims ≡ 1 = omega (arith, c.routes-routes.ensures.hops, c.if-this-eq1.true) in
    let sender : c.neighbour-sender.result.rank ≡ neighbour st.dims st.rank c.args.number =
    ap (λ n. n.rank) c.neighbour-sender.ensures.value ∙ ap (λ (s : Site). neighbour s.dims s.rank c.args.number) c.routes-routes.ensures.value in
    subst (λ es. TakesEach g.Q.Program.rules c.args.voting c.args.prog.now.value c.take_each.new.prog.value es c.args.taken.sum c.take_each.result.sum c.args.taken.spoiled c.take_each.result.spoiled)
    (of_neighbour site c.args.number c.neighbour-sender.result.rank c.batch-entries.result.now one sender ∙ ap (from_link site c.args.number) c.batch-entries.ensures.value) c.take_each.ensures

pub returns-else-this-eq1-clause-takes : goal.returns-else-this-eq1-clause-takes
returns-else-this-eq1-clause-takes g c =
    let st : State = c.args.conveyor.now in
    let site : Site = record { dims = st.dims; rank = st.rank } in
    let same : from_link c.routes-routes.result.now c.args.number c.batch-entries.result.now ≡ unread_items_on st c.args.number =
    ap (λ (s : Site). from_link s c.args.number c.batch-entries.result.now) c.routes-routes.ensures.value ∙ ap (from_link site c.args.number) c.batch-entries.ensures.value in
    subst (λ es. TakesEach g.Q.Program.rules c.args.voting c.args.prog.now.value c.take_each-else-this-eq1.new.prog.value es c.args.taken.sum c.take_each-else-this-eq1.result.sum c.args.taken.spoiled c.take_each-else-this-eq1.result.spoiled)
    same c.take_each-else-this-eq1.ensures

pub returns-then-this-eq1-clause-gives : goal.returns-then-this-eq1-clause-gives
returns-then-this-eq1-clause-gives g c = λ i e is.
    let st : State = c.args.conveyor.now in
    mapped_at (λ (y : Entry). (sender_of st.dims y.tag (length st.dims) (neighbour st.dims st.rank c.args.number), y.item)) (λ (p : ℕ × Item). GivesNext (pulls i st) p.0 p.1)
    (in_at st c.args.number).parcel.untaken i e
    (λ y at. c.batch-entries.ensures.gives i y (subst (λ xs. slice_get xs i ≡ Some y) (sym c.batch-entries.ensures.value) at)) is

pub returns-else-this-eq1-clause-gives : goal.returns-else-this-eq1-clause-gives
returns-else-this-eq1-clause-gives g c = λ i e is.
    let st : State = c.args.conveyor.now in
    mapped_at (λ (y : Entry). (sender_of st.dims y.tag (length st.dims) (neighbour st.dims st.rank c.args.number), y.item)) (λ (p : ℕ × Item). GivesNext (pulls i st) p.0 p.1)
    (in_at st c.args.number).parcel.untaken i e
    (λ y at. c.batch-entries.ensures.gives i y (subst (λ xs. slice_get xs i ≡ Some y) (sym c.batch-entries.ensures.value) at)) is
