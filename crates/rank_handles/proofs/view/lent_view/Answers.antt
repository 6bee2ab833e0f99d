use Rattle.std.proofs.Common.{◌≡◌, ℕ, List, length, take, get_or, slice_get, Some, arith, refl, sym, ap, ◌∙◌, subst}
use Rattle.std.proofs.lemmas.Bool.{eqb-true}
use Rattle.std.proofs.lemmas.Option.{slice_get-get_or}
use Rattle.bale_items.specs.declared.item.Entry.{Entry}
use Rattle.route_tensor.specs.Neighbour.{neighbour}
use Rattle.route_tensor.specs.Tag.{sender_of}
use Rattle.hop_core.specs.State.{State, lowest_unread, in_at, pulls}
use Rattle.convey.specs.Conveyors.{GivesNext}
use Rattle.rank_handles.specs.Views.{leading, lent, lender}
use Rattle.rank_handles.proofs.Senders.{near_sender}
use Rattle.rank_handles.proofs.Views.{no_entry, lender_is, lent_is, lent_unread}
use Rattle.rank_handles.proofs.view.lent_view.Goals as goal

pub of_sender-count-requires : goal.of_sender-count-requires
of_sender-count-requires g c =
    let st : State = c.args.conveyor.now in let i : ℕ = c.in-Some.number in
    let near : c.neighbour-near.result.rank ≡ neighbour st.dims st.rank i = ap (λ t. t.rank) c.neighbour-near.ensures.value ∙ ap (λ r. neighbour r.dims r.rank i) c.routes.ensures.value in (
      omega arith,
      (
        c.routes.ensures.hops,
        (
          c.batch-entries.ensures.within,
          (
            c.batch-entries.ensures.last,
            (
              c.batch-entries.ensures.fair,
              (near, λ one. c.sender_in-from.ensures ∙ (near_sender st.dims (get_or c.batch-entries.result.now 0 no_entry).tag (length st.dims) (neighbour st.dims st.rank i) one ∙ sym near)),
            ),
          ),
        ),
      ),
    )

pub returns-clause-from : goal.returns-clause-from
returns-clause-from g c =
    let st : State = c.args.conveyor.now in let i : ℕ = c.in-Some.number in let es : List Entry = c.batch-entries.result.now in let e : Entry = get_or es 0 no_entry in
    let low : lowest_unread st ≡ Some i = sym c.next_unread.ensures ∙ c.in-Some.is in
    let head : slice_get (in_at st i).parcel.untaken 0 ≡ Some e = ap (λ (l : List Entry). slice_get l 0) (sym c.batch-entries.ensures.value) ∙ slice_get-get_or es 0 no_entry c.batch-entries.ensures.some in
    ap Some c.sender_in-from.ensures ∙ sym (lender_is st i e low head)

pub returns-clause-entries : goal.returns-clause-entries
returns-clause-entries g c =
    let st : State = c.args.conveyor.now in let i : ℕ = c.in-Some.number in let es : List Entry = c.batch-entries.result.now in let e : Entry = get_or es 0 no_entry in let from : ℕ = c.sender_in-from.result in
    let near : c.neighbour-near.result.rank ≡ neighbour st.dims st.rank i = ap (λ t. t.rank) c.neighbour-near.ensures.value ∙ ap (λ r. neighbour r.dims r.rank i) c.routes.ensures.value in
    let low : lowest_unread st ≡ Some i = sym c.next_unread.ensures ∙ c.in-Some.is in
    let head : slice_get (in_at st i).parcel.untaken 0 ≡ Some e = ap (λ (l : List Entry). slice_get l 0) (sym c.batch-entries.ensures.value) ∙ slice_get-get_or es 0 no_entry c.batch-entries.ensures.some in
    let sent : lender st ≡ Some from = lender_is st i e low head ∙ ap Some (sym c.sender_in-from.ensures) in
    c.of_sender-count.ensures.value ∙ (ap (λ (a : ℕ). leading st.dims a from es) near ∙ (ap (λ (l : List Entry). leading st.dims (neighbour st.dims st.rank i) from l) c.batch-entries.ensures.value ∙ sym (lent_is st i from low sent)))

pub returns-clause-gives : goal.returns-clause-gives
returns-clause-gives g c = λ k x at.
    let st : State = c.args.conveyor.now in let i : ℕ = c.in-Some.number in let es : List Entry = c.batch-entries.result.now in let from : ℕ = c.sender_in-from.result in
    let near : c.neighbour-near.result.rank ≡ neighbour st.dims st.rank i = ap (λ t. t.rank) c.neighbour-near.ensures.value ∙ ap (λ r. neighbour r.dims r.rank i) c.routes.ensures.value in
    let here = lent_unread st.dims c.neighbour-near.result.rank from es k x (ap (λ (l : List Entry). slice_get l k) (sym c.of_sender-count.ensures.value) ∙ at) in
    let sent : sender_of st.dims x.tag (length st.dims) (neighbour st.dims st.rank i) ≡ from = ap (λ (a : ℕ). sender_of st.dims x.tag (length st.dims) a) (sym near) ∙ eqb-true (sender_of st.dims x.tag (length st.dims) c.neighbour-near.result.rank) from here.1 in
    subst (λ (s : ℕ). GivesNext (pulls k st) s x.item) sent (c.batch-entries.ensures.gives k x here.0)
