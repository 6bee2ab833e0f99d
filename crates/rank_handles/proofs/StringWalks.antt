-- Steps of a rank, one after the other, and what is kept of an elastic rank over them.
use Rattle.std.proofs.Common.{◌≡◌, ◌+◌, List, [], ◌∷◌, ◌++◌, refl, sym, ap, ◌∙◌, subst}
use Rattle.bale_items.specs.declared.item.Item.{Item}
use Rattle.route_tensor.specs.Grid.{ranks}
use Rattle.port_bank.specs.Machine.{Part, Step, after}
use Rattle.hop_core.specs.declared.phase.Phase.{Phase}
use Rattle.elastic.specs.code.Begun.{begun_items}
use Rattle.rank_handles.specs.Seated.{Seated, Moved, part}
use Rattle.rank_handles.specs.Many.{MayAll, after_all}
use Rattle.rank_handles.specs.StringCalls.{Walked}
use Rattle.rank_handles.specs.ElasticKept.{IsAhead, KeepsBegun, IsUndone}
use Rattle.rank_handles.proofs.StringLists.{ahead_all}

after_both : (xs ys : List Step) (p : Part) → after_all (xs ++ ys) p ≡ after_all ys (after_all xs p)
unfolding after_all
after_both [] ys p = refl
after_both (x ∷ xs) ys p = after_both xs ys (after x p)

may_both : (xs ys : List Step) (p : Part) → MayAll xs p → MayAll ys (after_all xs p) → MayAll (xs ++ ys) p
unfolding after_all MayAll
may_both [] ys p a b = b
may_both (x ∷ xs) ys p a b = (a.0, may_both xs ys (after x p) a.1 b)

pub walked_none : (a : Seated) → Walked a a
unfolding after_all MayAll
walked_none a = record { steps = []; may = tt; is = refl; bank = refl; shape = refl; rank = refl; dims = refl }

pub walked_one : (s : Step) (phase : Phase) (a b : Seated) → Moved s phase a b → Walked a b
unfolding after_all MayAll Moved
walked_one s phase a b m = record { steps = s ∷ []; may = (m.step_of.may, tt); is = m.step_of.is; bank = m.bank; shape = m.shape; rank = m.rank; dims = m.dims }

pub walked_both : (a b c : Seated) → Walked a b → Walked b c → Walked a c
walked_both a b c x y = record {
  steps = x.steps ++ y.steps;
  may = may_both x.steps y.steps (part a) x.may (subst (MayAll y.steps) x.is y.may);
  is = y.is ∙ ap (after_all y.steps) x.is ∙ sym (after_both x.steps y.steps (part a));
  bank = y.bank ∙ x.bank;
  shape = y.shape ∙ x.shape;
  rank = y.rank ∙ x.rank;
  dims = y.dims ∙ x.dims;
}

pub ahead_walked : (a b : Seated) → Walked a b → IsAhead (part a) → IsAhead (part b)
ahead_walked a b w ahead = subst IsAhead (sym w.is) (ahead_all w.steps (part a) ahead)

-- what a step is
pub step_is : (s : Step) (phase : Phase) (a b : Seated) → Moved s phase a b → part b ≡ after s (part a)
unfolding Moved
step_is s phase a b m = m.step_of.is

pub phase_after : (s : Step) (phase : Phase) (a b : Seated) → Moved s phase a b → b.state.phase ≡ phase
unfolding Moved
phase_after s phase a b m = m.phase_is

-- what stays kept where a call leaves it as it was
pub read_same : (a b : Seated) (begun : List (List Item)) → b.state.dims ≡ a.state.dims → (part b).epoch ≡ (part a).epoch → (part b).pulled ≡ (part a).pulled → KeepsBegun a begun → KeepsBegun b begun
read_same a b begun dims epoch pulled read = record {
  senders = read.senders ∙ ap ranks (sym dims);
  begun_is = λ r. read.begun_is r ∙ (λ i. begun_items [] (sym pulled i (sym epoch i) r));
}

pub undone_same : (a b : Seated) → b.state.phase ≡ a.state.phase → b.state.done ≡ a.state.done → IsUndone a → IsUndone b
undone_same a b phase done undone = record {
  dormant = λ e. done ∙ undone.dormant (sym phase ∙ e);
  working = λ e. done ∙ undone.working (sym phase ∙ e);
}
