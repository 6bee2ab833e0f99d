-- A rank whose links out are all closed has nothing to post.
use Rattle.std.proofs.Common.{◌≡◌, ℕ, ◌<◌, Bool, true, false, not, if◌then◌else◌, sum, slice_index_or, refl, sym, ap, subst, ◌∙◌, arith}
use Rattle.std.proofs.lemmas.Bool.{false≢true}
use Rattle.std.proofs.lemmas.List.{get_or_default}
use Rattle.std.proofs.lemmas.List.Sums.{AllPass-from_list_all, list_all-from_AllPass}
use Rattle.route_tensor.specs.Link.{links}
use Rattle.route_tensor.specs.Neighbour.{hop_to, neighbour, link_to, out_index}
use Rattle.route_tensor.proofs.Links.{link_below}
use Rattle.route_tensor.proofs.Neighbours.{to_neighbour}
use Rattle.hop_core.specs.declared.phase.Phase.{Phase}
use Rattle.hop_core.specs.declared.phase.Phase.TheVariants.{Working, Endgame, Cleanup, Complete}
use Rattle.hop_core.specs.Link.{Out, no_out}
use Rattle.hop_core.specs.State.{State, all_closed, all_read, phase_of}
use Rattle.hop_core.specs.Standing.{IsState}
use Rattle.convey.specs.Buffers.{out_of}
use Rattle.convey.specs.Due.{IsDue}
use Rattle.convey.proofs.States.{out_number}
use Rattle.convey.proofs.Posts.{due_open}
use Rattle.convey.proofs.Completes.{link_of_number}

-- each own link
pub closed_of : (st : State) (l : ℕ) → IsState st → all_closed st.outs ≡ true → l < links st.dims → (out_of st l).closed ≡ true
closed_of st l s all h =
    let n = out_number st.dims l s.grid h in
    AllPass-from_list_all (λ (o : Out). o.closed) st.outs all (out_index st.dims l) no_out (omega (arith, n.within, s.all_outs))

-- they stay closed where no link opens
pub all_closed_by : (old new : State) → IsState old → IsState new → new.dims ≡ old.dims → ((l : ℕ) → (out_of new l).closed ≡ (out_of old l).closed) → all_closed old.outs ≡ true → all_closed new.outs ≡ true
all_closed_by old new s t e same all =
    list_all-from_AllPass (λ (o : Out). o.closed) new.outs (λ i d h.
    let below : i < sum new.dims = omega (arith, t.all_outs, h) in
    let f = to_neighbour new.dims new.rank i t.grid t.rank below in
    let l : ℕ = link_to new.dims new.rank i in
    let low : l < links new.dims = link_below new.dims (hop_to new.dims i) new.rank (neighbour new.dims new.rank i) t.grid f in
    ap (λ o. o.closed) (get_or_default new.outs i d no_out h) ∙ (sym (link_of_number new i t below) ∙ (same l ∙ closed_of old l s all (subst (λ ds. l < links ds) e low))))

-- and none is due
pub sent_not_due : (old new : State) (l : ℕ) → IsState old → IsState new → new.dims ≡ old.dims → ((m : ℕ) → (out_of new m).closed ≡ (out_of old m).closed) → all_closed old.outs ≡ true → l < links new.dims → IsDue new l → ⊥
sent_not_due old new l s t e same all h d = false≢true (sym (due_open new l t h d) ∙ (same l ∙ closed_of old l s all (subst (λ ds. l < links ds) e h)))

apart_phases : Cleanup ≡ Complete → ⊥
apart_phases h = cc

-- noting done, collecting and relaying open no link
pub same_closed : (st0 st1 st2 st3 : State) (done : Bool) → st1 ≡ record st0 { done = done; pulled = st1.pulled } → st2.outs ≡ st1.outs → st2.dims ≡ st0.dims
    → ((l : ℕ) → (out_of st3 l).closed ≡ (out_of st2 l).closed) → (l : ℕ) → (out_of st3 l).closed ≡ (out_of st0 l).closed
same_closed st0 st1 st2 st3 done says outs d closes l =
    let same : st2.dims ≡ st1.dims = d ∙ sym (ap (λ u. u.dims) says) in
    closes l ∙ (ap (λ o. o.closed) (λ i. slice_index_or (outs i) (out_index (same i) l) no_out) ∙ ap (λ u. (out_of u l).closed) says)

-- the phase Cleanup tells it
pub cleanup_incomplete : (p : Phase) → p ≡ Cleanup → p ≡ Complete → ⊥
cleanup_incomplete p a b = apart_phases (sym a ∙ b)

cleanup_bits : (done closed read : Bool) → (if not done then Working else if not closed then Endgame else if not read then Cleanup else Complete) ≡ Cleanup → closed ≡ true
cleanup_bits true true read h = refl
cleanup_bits true false read h = cc
cleanup_bits false true read h = refl
cleanup_bits false false read h = cc

pub cleanup_sent : (st : State) → phase_of st ≡ Cleanup → all_closed st.outs ≡ true
unfolding phase_of
cleanup_sent st h = cleanup_bits st.done (all_closed st.outs) (all_read st) h
