-- Either of two lawful programs is lawful, and runs each as it is.
use Rattle.std.proofs.Common.{ℕ, Bool, true, false, ◌<◌, ◌^◌, ◌≡◌, ◌≢◌, ◌==◌, List, [], ◌∷◌, refl, ap, ◌∙◌}
use Rattle.std.proofs.Common.{if◌then◌else◌}
use Rattle.std.specs.List.{All}
use Rattle.either.specs.declared.Either.{Either}
use Rattle.either.specs.declared.Either.TheVariants.{Left, Right}
use Rattle.either.specs.Either.{either}
use Rattle.bale_items.specs.declared.Item.{Item}
use Rattle.round_program.specs.Rules.{Rules}
use Rattle.round_program.specs.Laws.{Laws, Fits, IsItem, SameRound, NextRound}
use Rattle.round_program.specs.Injections.{Injects}
use Rattle.round_program.specs.Eithers.{either_rules}

emits : {S T : Type 0} (A : Rules S) (B : Rules T) → Laws A → Laws B → (s : Either S T) → (either_rules A B).valid s
    → All (λ e. (either_rules A B).may_be_sent ((either_rules A B).shape s) ((either_rules A B).ranks s)
    ((either_rules A B).round s) e.0 ((either_rules A B).rank s) e.1 ≡ true) ((either_rules A B).emissions s)
emits A B la lb (Left s) v = la.emits s v
emits A B la lb (Right s) v = lb.emits s v

commutes : {S T : Type 0} (A : Rules S) (B : Rules T) → Laws A → Laws B → (s : Either S T) (f g : ℕ) (x y : Item)
    → (either_rules A B).valid s → f ≢ g
    → Fits (either_rules A B) s f x → Fits (either_rules A B) s g y
    → (either_rules A B).absorbed ((either_rules A B).absorbed s f x) g y
    ≡ (either_rules A B).absorbed ((either_rules A B).absorbed s g y) f x
commutes A B la lb (Left s) f g x y v d e h = ap Left (la.commutes s f g x y v d e h)
commutes A B la lb (Right s) f g x y v d e h = ap Right (lb.commutes s f g x y v d e h)

keeps : {S T : Type 0} (A : Rules S) (B : Rules T) → Laws A → Laws B → (s : Either S T) (f : ℕ) (x : Item)
    → (either_rules A B).valid s
    → Fits (either_rules A B) s f x → SameRound (either_rules A B) s ((either_rules A B).absorbed s f x)
keeps A B la lb (Left s) f x v h =
    let k : SameRound A s (A.absorbed s f x) = la.keeps s f x v h in
    record {
      valid = k.valid;
      rank = k.rank;
      ranks = k.ranks;
      round = k.round;
      shape = ap (λ l. 0 ∷ l) k.shape;
      most = k.most;
      emissions = k.emissions;
    }
keeps A B la lb (Right s) f x v h =
    let k : SameRound B s (B.absorbed s f x) = lb.keeps s f x v h in
    record {
      valid = k.valid;
      rank = k.rank;
      ranks = k.ranks;
      round = k.round;
      shape = ap (λ l. 1 ∷ l) k.shape;
      most = k.most;
      emissions = k.emissions;
    }

vote_below : {S T : Type 0} (A : Rules S) (B : Rules T) → Laws A → Laws B → (s : Either S T)
    → (either_rules A B).valid s → (either_rules A B).vote s < 2 ^ 32
vote_below A B la lb (Left s) v = la.vote_below s v
vote_below A B la lb (Right s) v = lb.vote_below s v

next : {S T : Type 0} (A : Rules S) (B : Rules T) → Laws A → Laws B → (s : Either S T) (votes : ℕ)
    → (either_rules A B).valid s → votes < 2 ^ 64
    → NextRound (either_rules A B) s ((either_rules A B).ended s votes)
next A B la lb (Left s) votes v l =
    let k : NextRound A s (A.ended s votes) = la.next s votes v l in
    record {
      valid = k.valid;
      rank = k.rank;
      ranks = k.ranks;
      round = k.round;
      shape = ap (λ l. 0 ∷ l) k.shape;
      most = k.most;
    }
next A B la lb (Right s) votes v l =
    let k : NextRound B s (B.ended s votes) = lb.next s votes v l in
    record {
      valid = k.valid;
      rank = k.rank;
      ranks = k.ranks;
      round = k.round;
      shape = ap (λ l. 1 ∷ l) k.shape;
      most = k.most;
    }

on_side : {S T : Type 0} (A : Rules S) (B : Rules T) → Laws A → Laws B
    → (left : Bool) (shape : List ℕ) (ranks round to from : ℕ) (x : Item)
    → (if left then A.may_be_sent shape ranks round to from x else B.may_be_sent shape ranks round to from x) ≡ true
    → (to < ranks) × (from < ranks) × IsItem x
on_side A B la lb true shape ranks round to from x h = la.within shape ranks round to from x h
on_side A B la lb false shape ranks round to from x h = lb.within shape ranks round to from x h

within : {S T : Type 0} (A : Rules S) (B : Rules T) → Laws A → Laws B
    → (shape : List ℕ) (ranks round to from : ℕ) (x : Item)
    → (either_rules A B).may_be_sent shape ranks round to from x ≡ true → (to < ranks) × (from < ranks) × IsItem x
within A B la lb [] ranks round to from x h = absurd (cc)
within A B la lb (side ∷ shape) ranks round to from x h = on_side A B la lb (side == 0) shape ranks round to from x h

most_below : {S T : Type 0} (A : Rules S) (B : Rules T) → Laws A → Laws B → (s : Either S T)
    → (either_rules A B).valid s → (either_rules A B).most s < 2 ^ 62
most_below A B la lb (Left s) v = la.most_below s v
most_below A B la lb (Right s) v = lb.most_below s v

pub either_laws : {S T : Type 0} (A : Rules S) (B : Rules T) → Laws A → Laws B → Laws (either_rules A B)
either_laws A B la lb =
    record {
      emits = emits A B la lb;
      commutes = commutes A B la lb;
      keeps = keeps A B la lb;
      vote_below = vote_below A B la lb;
      next = next A B la lb;
      within = within A B la lb;
      most_below = most_below A B la lb;
    }

-- The left program is a case of either: 0 comes before its shape.
pub left_is_case : {S T : Type 0} (A : Rules S) (B : Rules T) → Injects A (either_rules A B) Left (λ l. 0 ∷ l)
left_is_case A B =
    record {
      once = λ s t e. ap (either (λ x. x) (λ _. s)) e;
      valid = λ s v. v;
      rank = λ s. refl;
      ranks = λ s. refl;
      round = λ s. refl;
      shape = λ s. refl;
      most = λ s. refl;
      emissions = λ s. refl;
      vote = λ s. refl;
      goes_on = λ shape round votes. refl;
      absorbed = λ s from x. refl;
      ended = λ s votes. refl;
    }

-- The right program is a case of either: 1 comes before its shape.
pub right_is_case : {S T : Type 0} (A : Rules S) (B : Rules T) → Injects B (either_rules A B) Right (λ l. 1 ∷ l)
right_is_case A B =
    record {
      once = λ s t e. ap (either (λ _. s) (λ x. x)) e;
      valid = λ s v. v;
      rank = λ s. refl;
      ranks = λ s. refl;
      round = λ s. refl;
      shape = λ s. refl;
      most = λ s. refl;
      emissions = λ s. refl;
      vote = λ s. refl;
      goes_on = λ shape round votes. refl;
      absorbed = λ s from x. refl;
      ended = λ s votes. refl;
    }

-- A case of a case is a case.
pub case_of_case : {S T U : Type 0} {A : Rules S} {B : Rules T} {C : Rules U} {i : S → T} {w : List ℕ → List ℕ}
    {j : T → U} {v : List ℕ → List ℕ}
    → Injects A B i w → Injects B C j v → Injects A C (λ s. j (i s)) (λ l. v (w l))
case_of_case {A = A} {i = i} {w = w} {j = j} {v = v} p q =
    record {
      once = λ s t e. p.once s t (q.once (i s) (i t) e);
      valid = λ s h. q.valid (i s) (p.valid s h);
      rank = λ s. q.rank (i s) ∙ p.rank s;
      ranks = λ s. q.ranks (i s) ∙ p.ranks s;
      round = λ s. q.round (i s) ∙ p.round s;
      shape = λ s. q.shape (i s) ∙ ap v (p.shape s);
      most = λ s. q.most (i s) ∙ p.most s;
      emissions = λ s. q.emissions (i s) ∙ p.emissions s;
      vote = λ s. q.vote (i s) ∙ p.vote s;
      goes_on = λ shape round votes. q.goes_on (w shape) round votes ∙ p.goes_on shape round votes;
      absorbed = λ s from x. q.absorbed (i s) from x ∙ ap j (p.absorbed s from x);
      ended = λ s votes. q.ended (i s) votes ∙ ap j (p.ended s votes);
    }
