-- Items that came together are taken in one after the other.
use Rattle.std.proofs.Common.{◌≡◌, ℕ, suc, ◌+◌, ◌-◌, ◌^◌, ◌<◌, min, Bool, true, false, cond, List, [], ◌∷◌, length, map, slice_get, Option, Some, None, refl, sym, subst, ◌∙◌, arith}
use Rattle.std.proofs.lemmas.Bool.{true≢false}
use Rattle.std.proofs.lemmas.Option.{slice_get-map, same_Some}
use Rattle.std.specs.Option.{option_map}
use Rattle.bale_items.specs.declared.item.Item.{Item}
use Rattle.round_program.specs.Rules.{Rules}
use Rattle.round_program.specs.Laws.{Laws, SameRound, fits}
use Rattle.round_program.specs.Batches.{taken_in, all_taken_in}
use Rattle.rank_node.specs.Batches.{sum_after, TakesEach}

-- what a node makes of one item that it pulled
pub record TakesOne {S : Type 0} (R : Rules S) (voting : Bool) (prog prog' : S) (from : ℕ) (x : Item) (sum sum' : ℕ) (spoiled spoiled' : Bool) : Type 0 where
  pub emissions : R.emissions prog' ≡ R.emissions prog
  pub summed : sum' ≡ cond voting (min (sum + x.a) (2 ^ 64 - 1)) sum
  pub unspoiled : spoiled' ≡ false → spoiled ≡ false
  pub votes : voting ≡ true → (spoiled' ≡ spoiled) × (prog' ≡ prog)
  pub absorbed : voting ≡ false → spoiled' ≡ false → prog' ≡ cond (fits R prog from x) (R.absorbed prog from x) prog

-- each of some items taken in, from one state to the next
abbrev pub Chain : {S : Type 0} → Rules S → Bool → S → S → List (ℕ × Item) → ℕ → ℕ → Bool → Bool → Type 0
Chain R voting prog prog' [] sum sum' spoiled spoiled' = (prog' ≡ prog) × (sum' ≡ sum) × (spoiled' ≡ spoiled)
Chain {S} R voting prog prog' (e ∷ es) sum sum' spoiled spoiled' =
    (mid : S) × (sum1 : ℕ) × (now : Bool) × TakesOne R voting prog mid e.0 e.1 sum sum1 spoiled now × Chain R voting mid prog' es sum1 sum' now spoiled'

votes_chain : {S : Type 0} (R : Rules S) (prog : S) (es : List (ℕ × Item)) (sum : ℕ) (spoiled : Bool) → Chain R true prog prog es sum (sum_after sum es) spoiled spoiled
votes_chain R prog [] sum spoiled = (refl, refl, refl)
votes_chain R prog (e ∷ es) sum spoiled = (
  prog,
  min (sum + e.1.a) (2 ^ 64 - 1),
  spoiled,
  record { emissions = refl; summed = refl; unspoiled = λ q. q; votes = λ q. (refl, refl); absorbed = λ q. absurd (true≢false q) },
  votes_chain R prog es (min (sum + e.1.a) (2 ^ 64 - 1)) spoiled,
)

-- once memory was wanting nothing changes
spoiled_chain : {S : Type 0} (R : Rules S) (prog : S) (es : List (ℕ × Item)) (sum : ℕ) → Chain R false prog prog es sum sum true true
spoiled_chain R prog [] sum = (refl, refl, refl)
spoiled_chain R prog (e ∷ es) sum =
    (prog, sum, true, record { emissions = refl; summed = refl; unspoiled = λ q. q; votes = λ q. (refl, refl); absorbed = λ q r. absurd (true≢false r) }, spoiled_chain R prog es sum)

-- what one item leaves of a lawful state
one_lawful : {S : Type 0} (R : Rules S) → Laws R → (prog : S) (from : ℕ) (x : Item) (b : Bool) → R.valid prog → fits R prog from x ≡ b
    → R.valid (cond b (R.absorbed prog from x) prog) × (R.emissions (cond b (R.absorbed prog from x) prog) ≡ R.emissions prog)
one_lawful R laws prog from x true valid is = let k : SameRound R prog (R.absorbed prog from x) = laws.keeps prog from x valid is in (k.valid, k.emissions)
one_lawful R laws prog from x false valid is = (valid, refl)

work_chain : {S : Type 0} (R : Rules S) → Laws R → (prog : S) (es : List (ℕ × Item)) (sum : ℕ) → R.valid prog → Chain R false prog (all_taken_in R prog es) es sum sum false false
work_chain R laws prog [] sum valid = (refl, refl, refl)
work_chain R laws prog (e ∷ es) sum valid =
    let one = one_lawful R laws prog e.0 e.1 (fits R prog e.0 e.1) valid refl in (
      taken_in R prog e.0 e.1,
      sum,
      false,
      record { emissions = one.1; summed = refl; unspoiled = λ q. q; votes = λ q. (refl, absurd (true≢false (sym q))); absorbed = λ q r. refl },
      work_chain R laws (taken_in R prog e.0 e.1) es sum one.0,
    )

-- a batch that isn't empty is a chain
pub each_chain : {S : Type 0} (R : Rules S) → Laws R → (voting : Bool) (prog prog' : S) (es : List (ℕ × Item)) (sum sum' : ℕ) (spoiled spoiled' : Bool) → 0 < length es
    → TakesEach R voting prog prog' es sum sum' spoiled spoiled' → Chain R voting prog prog' es sum sum' spoiled spoiled'
each_chain R laws true prog prog' es sum sum' spoiled spoiled' some t =
    let same = t.votes refl in
    subst (λ s. Chain R true prog s es sum sum' spoiled spoiled') (sym same.1)
    (subst (λ n. Chain R true prog prog es sum n spoiled spoiled') (sym t.summed_up)
    (subst (λ b. Chain R true prog prog es sum (sum_after sum es) spoiled b) (sym same.0) (votes_chain R prog es sum spoiled)))
each_chain R laws false prog prog' [] sum sum' spoiled spoiled' some t = absurd (omega (arith, some))
each_chain R laws false prog prog' (e ∷ es) sum sum' spoiled true some t = (
  prog',
  sum,
  true,
  record { emissions = t.emissions; summed = refl; unspoiled = λ q. absurd (true≢false q); votes = λ q. absurd (true≢false (sym q)); absorbed = λ q r. absurd (true≢false r) },
  subst (λ n. Chain R false prog' prog' es sum n true true) (sym t.summed_up) (spoiled_chain R prog' es sum),
)
each_chain R laws false prog prog' (e ∷ es) sum sum' spoiled false some t =
    subst (λ b. Chain R false prog prog' (e ∷ es) sum sum' b false) (sym (t.unspoiled refl))
    (subst (λ s. Chain R false prog s (e ∷ es) sum sum' false false) (sym (t.absorbed refl refl))
    (subst (λ n. Chain R false prog (all_taken_in R prog (e ∷ es)) (e ∷ es) sum n false false) (sym t.summed_up) (work_chain R laws prog (e ∷ es) sum t.valid)))

-- what a mapped list has at a place
pub mapped_at : {X Y : Type 0} (f : X → Y) (P : Y → Type 0) (xs : List X) (i : ℕ) (y : Y) → ((x : X) → slice_get xs i ≡ Some x → P (f x)) → slice_get (map f xs) i ≡ Some y → P y
mapped_at {X} f P xs i y each is = at (slice_get xs i) refl (sym (slice_get-map f xs i) ∙ is) where
  at : (o : Option X) → slice_get xs i ≡ o → option_map f o ≡ Some y → P y
  at None here e = absurd (cc)
  at (Some x) here e = subst P (same_Some (f x) y e) (each x here)

-- how many were taken, and one more
pub none_more : (n : ℕ) → n + 0 ≡ n
none_more n = omega arith

pub from_none : (n : ℕ) → n ≡ 0 + n
from_none n = omega arith

pub one_more : (n i : ℕ) → n + suc i ≡ n + 1 + i
one_more n i = omega arith

pub all_more : {X : Type 0} (n : ℕ) (x : X) (xs : List X) → n + 1 + length xs ≡ n + length (x ∷ xs)
all_more n x xs = omega arith
