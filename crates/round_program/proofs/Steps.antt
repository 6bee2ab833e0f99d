-- What a rank knows of itself, kept step by step: as its lists grow, as it is done in an epoch, and
-- as it goes on from one.
use Rattle.std.proofs.Common.{ℕ, suc, ◌+◌, ◌-◌, ◌*◌, ◌^◌, ◌<◌, ◌≤◌, ◌≡◌, ◌≢◌, min, true, [], ◌∷◌, sum_by, arith, sym, ap, ◌∙◌, subst, inl, inr}
use Rattle.std.proofs.lemmas.Bool.{cases_eq}
use Rattle.list_laws.proofs.Sums.{total_same}
use Rattle.round_program.specs.Rules.{Rules}
use Rattle.round_program.specs.Canonical.{emissions_to}
use Rattle.round_program.specs.Orders.{fitting, after_pulls}
use Rattle.round_program.specs.Epochs.{PairLists, vote_item, heard, after_work, Voted, told, spoiled, Own}
use Rattle.round_program.proofs.Orders.{upto_ext}

-- lists that are as they were in the epochs in which the rank was done, and in those that it has
-- completed
pub record SameBefore (completed done : ℕ) (l k : PairLists) : Type 0 where
  pub pushed : (e d : ℕ) → e < done → k.pushed e d ≡ l.pushed e d
  pub pulled : (e f : ℕ) → e < completed → k.pulled e f ≡ l.pulled e f

pub heard_same : (p completed done : ℕ) (l k : PairLists) (m : ℕ) → SameBefore completed done l k → 2 * m + 2 ≤ completed → heard p k m ≡ heard p l m
heard_same p completed done l k m same c =
    ap (λ n. min n (2 ^ 64 - 1)) (total_same p (λ f. sum_by (λ x. x.a) (k.pulled (2 * m + 1) f)) (λ f. sum_by (λ x. x.a) (l.pulled (2 * m + 1) f)) (λ f b. ap (sum_by (λ x. x.a)) (same.pulled (2 * m + 1) f (omega arith))))

pub worked_same : {S : Type 0} (R : Rules S) (p completed done : ℕ) (h g : ℕ → S) (l k : PairLists) (m : ℕ) → SameBefore completed done l k → 2 * m < completed → g m ≡ h m → after_work R p g k m ≡ after_work R p h l m
worked_same R p completed done h g l k m same c e =
    ap (λ s. after_pulls R s (k.pulled (2 * m)) p) e ∙ upto_ext R (h m) (λ f. fitting R (h m) f (k.pulled (2 * m) f)) (λ f. fitting R (h m) f (l.pulled (2 * m) f)) p (λ f b. ap (fitting R (h m) f) (same.pulled (2 * m) f c))

voted_same : {S : Type 0} (R : Rules S) (p completed done : ℕ) (h g : ℕ → S) (l k : PairLists) (m : ℕ) → SameBefore completed done l k → 2 * m + 1 < done → done ≤ completed + 1 → g m ≡ h m → Voted R p h l m → Voted R p g k m
voted_same R p completed done h g l k m same c near e (told es vs) =
    told (λ d b. same.pushed (2 * m) d (omega arith) ∙ (es d b ∙ ap (λ s. emissions_to R s d) (sym e)))
    (λ d b. same.pushed (2 * m + 1) d c ∙ (vs d b ∙ ap (λ s. vote_item (R.vote s) ∷ []) (sym (worked_same R p completed done h g l k m same (omega arith) e))))
voted_same R p completed done h g l k m same c near e (spoiled vs) = spoiled (λ d b. same.pushed (2 * m + 1) d c ∙ vs d b)

-- later lists and a longer history tell the same
pub own_same : {S : Type 0} (R : Rules S) (p completed done : ℕ) (h g : ℕ → S) (l k : PairLists) → SameBefore completed done l k → ((m : ℕ) → 2 * m ≤ completed → g m ≡ h m) → Own R p completed done h l → Own R p completed done g k
own_same R p completed done h g l k same hist own =
    let near : done ≤ completed + 1 = own.done_high in
    record {
      done_low = own.done_low;
      done_high = own.done_high;
      voted = λ m c. voted_same R p completed done h g l k m same c near (hist m (omega arith)) (own.voted m c);
      unspoiled = λ m c e. own.unspoiled m c (sym (heard_same p completed done l k m same c) ∙ e);
      next =
          λ m c.
          hist (suc m) (omega arith)
          ∙ (own.next m c
          ∙ (ap (λ s. R.ended s (heard p l m)) (sym (worked_same R p completed done h g l k m same (omega arith) (hist m (omega arith))))
          ∙ ap (R.ended (after_work R p g k m)) (sym (heard_same p completed done l k m same c))));
      goes = λ m c. ap (λ s. R.goes_on (R.shape s) m (heard p k m)) (hist m (omega arith)) ∙ (ap (R.goes_on (R.shape (h m)) m) (heard_same p completed done l k m same (omega arith)) ∙ own.goes m c);
    }

-- before the first round
pub own_start : {S : Type 0} (R : Rules S) (p : ℕ) (h : ℕ → S) (l : PairLists) → Own R p 0 0 h l
own_start R p h l =
    record {
      done_low = omega arith;
      done_high = omega arith;
      voted = λ m c. absurd (omega arith);
      unspoiled = λ m c e. absurd (omega arith);
      next = λ m c. absurd (omega arith);
      goes = λ m c. absurd (omega arith);
    }

-- the rank is done with the work of round m, which it began because the program goes on
pub own_work_done : {S : Type 0} (R : Rules S) (p m : ℕ) (h : ℕ → S) (l : PairLists) → ((k : ℕ) → k + 1 ≡ m → R.goes_on (R.shape (h k)) k (heard p l k) ≡ true) → Own R p (2 * m) (2 * m) h l → Own R p (2 * m) (2 * m + 1) h l
own_work_done R p m h l goes own =
    record {
      done_low = omega arith;
      done_high = omega arith;
      voted = λ k c. own.voted k (omega arith);
      unspoiled = own.unspoiled;
      next = own.next;
      goes = λ k c. elim (cases_eq (k + 1) m) [ inl e ↦ goes k e | inr n ↦ own.goes k (omega arith) ];
    }

-- the work of round m is completed
pub own_work_over : {S : Type 0} (R : Rules S) (p m : ℕ) (h : ℕ → S) (l : PairLists) → Own R p (2 * m) (2 * m + 1) h l → Own R p (2 * m + 1) (2 * m + 1) h l
own_work_over R p m h l own =
    record {
      done_low = omega arith;
      done_high = omega arith;
      voted = own.voted;
      unspoiled = λ k c. own.unspoiled k (omega arith);
      next = λ k c. own.next k (omega arith);
      goes = own.goes;
    }

-- the rank is done with the votes of round m
pub own_vote_done : {S : Type 0} (R : Rules S) (p m : ℕ) (h : ℕ → S) (l : PairLists) → Voted R p h l m → Own R p (2 * m + 1) (2 * m + 1) h l → Own R p (2 * m + 1) (2 * m + 2) h l
own_vote_done R p m h l vote own =
    record {
      done_low = omega arith;
      done_high = omega arith;
      voted = λ k c. elim (cases_eq k m) [ inl e ↦ subst (Voted R p h l) (sym e) vote | inr n ↦ own.voted k (omega arith) ];
      unspoiled = own.unspoiled;
      next = own.next;
      goes = λ k c. own.goes k (omega arith);
    }

-- round m is completed
pub own_round_over : {S : Type 0} (R : Rules S) (p m : ℕ) (h : ℕ → S) (l : PairLists) → heard p l m ≢ 2 ^ 64 - 1 → h (suc m) ≡ R.ended (after_work R p h l m) (heard p l m) → Own R p (2 * m + 1) (2 * m + 2) h l → Own R p (2 * m + 2) (2 * m + 2) h l
own_round_over R p m h l clean next own =
    record {
      done_low = omega arith;
      done_high = omega arith;
      voted = own.voted;
      unspoiled = λ k c. elim (cases_eq k m) [ inl e ↦ subst (λ j. heard p l j ≢ 2 ^ 64 - 1) (sym e) clean | inr n ↦ own.unspoiled k (omega arith) ];
      next = λ k c. elim (cases_eq k m) [ inl e ↦ subst (λ j. h (suc j) ≡ R.ended (after_work R p h l j) (heard p l j)) (sym e) next | inr n ↦ own.next k (omega arith) ];
      goes = own.goes;
    }
