-- What pulls leave of a conveyor.
use Rattle.std.proofs.Common.{◌≡◌, ◌≢◌, ℕ, zero, suc, ◌+◌, ◌<◌, ◌≤◌, List, [], ◌∷◌, length, Option, Some, None, refl, sym, ap, subst, ◌∙◌, arith, get_or, set, drop, add-one}
use Rattle.bale_items.specs.declared.item.Item.{Item}
use Rattle.route_tensor.specs.Neighbour.{in_index}
use Rattle.hop_core.specs.declared.phase.Phase.TheVariants.{Dormant}
use Rattle.hop_core.specs.Link.{In, no_in, with_first_taken}
use Rattle.hop_core.specs.Relay.{waiting}
use Rattle.hop_core.specs.State.{State, in_at, lowest_unread, pulled_from, pulls}
use Rattle.convey.specs.Conveyors.{GivesNext}
use Rattle.rank_node.proofs.Absorbed.{fewer_from}
use Rattle.rank_node.specs.Pulls.{InboxesShrink}

pub pulled_same : (st : State) (o : Option ℕ) → pulled_from st o ≡ record st { ins = (pulled_from st o).ins; pulled = (pulled_from st o).pulled }
pulled_same st None = refl
pulled_same st (Some i) = refl

-- a pull leaves no inbox with more
fewer_set : (ins : List In) (i j : ℕ) (y : In) → length y.parcel.untaken ≤ length (get_or ins i no_in).parcel.untaken → length (get_or (set ins i y) j no_in).parcel.untaken ≤ length (get_or ins j no_in).parcel.untaken
fewer_set [] i j y less = omega arith
fewer_set (x ∷ xs) zero zero y less = less
fewer_set (x ∷ xs) zero (suc j) y less = omega arith
fewer_set (x ∷ xs) (suc i) zero y less = omega arith
fewer_set (x ∷ xs) (suc i) (suc j) y less = fewer_set xs i j y less

drop_less : {X : Type 0} (xs : List X) → length (drop 1 xs) ≤ length xs
drop_less [] = omega arith
drop_less (x ∷ xs) = omega arith

pub fewer_pulled : (st : State) (o : Option ℕ) → InboxesShrink st (pulled_from st o)
fewer_pulled st None l = omega arith
fewer_pulled st (Some i) l = fewer_set st.ins i (in_index st.dims l) (record (in_at st i) { parcel = with_first_taken (in_at st i).parcel }) (drop_less (in_at st i).parcel.untaken)

pub fewer_next : (st : State) (n from : ℕ) (x : Item) (most : ℕ) → n + waiting (pulls n st).ins ≤ most → GivesNext (pulls n st) from x → n + 1 + waiting (pulls (n + 1) st).ins ≤ most
fewer_next st n from x most is next =
    let less : waiting (pulls (suc n) st).ins < waiting (pulls n st).ins = fewer_from (pulls n st) (lowest_unread (pulls n st)) (from, x) next.value in
    subst (λ m. n + 1 + waiting (pulls m st).ins ≤ most) (sym (add-one n)) (omega (arith, less, is))

-- so many pulls, one by one
pub record PullsSome (n : ℕ) (st c : State) : Type 0 where
  pub is : c ≡ pulls n st
  pub begun : c.phase ≢ Dormant

pub pull_next : (n : ℕ) (st c c' : State) → PullsSome n st c → c' ≡ pulled_from c (lowest_unread c) → PullsSome (n + 1) st c'
pull_next n st c c' p is =
    record {
      is = is ∙ (ap (λ (t : State). pulled_from t (lowest_unread t)) p.is ∙ ap (λ m. pulls m st) (sym (add-one n)));
      begun = λ e. p.begun (sym (ap (λ (t : State). t.phase) (is ∙ pulled_same c (lowest_unread c))) ∙ e);
    }
