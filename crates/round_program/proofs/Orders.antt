-- Every order of absorbs gives the canonical fold.
use Rattle.std.proofs.Common.{ℕ, zero, suc, ◌<◌, ◌≡◌, ◌≢◌, true, cond, List, [], ◌∷◌, ◌++◌, Some, length, slice_get, All, arith, inl, inr, refl, sym, ap, ◌∙◌, subst}
use Rattle.std.proofs.lemmas.Bool.{cases_eq, cases_lt, cases_Bool}
use Rattle.std.proofs.lemmas.List.{append_assoc, append-nil}
use Rattle.std.proofs.lemmas.List.Elements.{All-nil, All-push, filter-append, filter_passes}
use Rattle.std.proofs.lemmas.List.Sums.{fold_push}
use Rattle.bale_items.specs.declared.Item.{Item}
use Rattle.std.proofs.lemmas.Option.{slice_get_past}
use Rattle.list_laws.proofs.Lists.{all_head, all_tail, get_map, find}
use Rattle.round_program.specs.Rules.{Rules}
use Rattle.round_program.specs.Laws.{Laws, SameRound, fits, Fits}
use Rattle.round_program.specs.Canonical.{items_of, absorb_all, absorb_upto, emissions_to, emitted_of, emitted_by, InRound, Member}
use Rattle.round_program.proofs.Items.{picked, from_picked, items_push, items_here, items_other}
use Rattle.round_program.specs.Orders.{absorb_each, fitting, after_pulls, OneMorePull, EveryOrder, EveryOrderIsCanonical}

-- a state of the same round, and one of the same round as that
pub same_here : {S : Type 0} (R : Rules S) (s : S) → R.valid s → SameRound R s s
same_here R s v = record { valid = v; rank = refl; ranks = refl; round = refl; shape = refl; most = refl; emissions = refl }

pub same_twice : {S : Type 0} (R : Rules S) (s t u : S) → SameRound R s t → SameRound R t u → SameRound R s u
same_twice R s t u a b =
    record {
      valid = b.valid;
      rank = b.rank ∙ a.rank;
      ranks = b.ranks ∙ a.ranks;
      round = b.round ∙ a.round;
      shape = b.shape ∙ a.shape;
      most = b.most ∙ a.most;
      emissions = b.emissions ∙ a.emissions;
    }

-- fits of every item is the same in all states of a round
pub fits_same : {S : Type 0} (R : Rules S) (s t : S) (f : ℕ) (x : Item) → SameRound R s t → fits R t f x ≡ fits R s f x
fits_same R s t f x h =
    ap (λ a. R.may_be_sent a (R.ranks t) (R.round t) (R.rank t) f x) h.shape
    ∙ (ap (λ a. R.may_be_sent (R.shape s) a (R.round t) (R.rank t) f x) h.ranks
    ∙ (ap (λ a. R.may_be_sent (R.shape s) (R.ranks s) a (R.rank t) f x) h.round
    ∙ ap (λ a. R.may_be_sent (R.shape s) (R.ranks s) (R.round s) a f x) h.rank))

pub fits_later : {S : Type 0} (R : Rules S) (s t : S) (f : ℕ) (x : Item) → SameRound R s t → Fits R s f x → Fits R t f x
fits_later R s t f x h e = fits_same R s t f x h ∙ e

pub all_fit_later : {S : Type 0} (R : Rules S) (s t : S) (f : ℕ) (xs : List Item) → SameRound R s t → All (Fits R s f) xs → All (Fits R t f) xs
all_fit_later R s t f xs h a k d l = fits_later R s t f _ h (a k d l)

-- absorbs leave the round as it is
pub absorb_same : {S : Type 0} (R : Rules S) → Laws R → (s t : S) (f : ℕ) (x : Item) → SameRound R s t → Fits R s f x → SameRound R s (R.absorbed t f x)
absorb_same R laws s t f x h e = same_twice R s t (R.absorbed t f x) h (laws.keeps t f x h.valid (fits_later R s t f x h e))

pub all_same : {S : Type 0} (R : Rules S) → Laws R → (s t : S) (f : ℕ) (xs : List Item) → SameRound R s t → All (Fits R s f) xs → SameRound R s (absorb_all R t f xs)
all_same R laws s t f [] h a = h
all_same R laws s t f (x ∷ xs) h a = all_same R laws s (R.absorbed t f x) f xs (absorb_same R laws s t f x h (all_head (Fits R s f) x xs a)) (all_tail (Fits R s f) x xs a)

pub upto_same : {S : Type 0} (R : Rules S) → Laws R → (s : S) (lists : ℕ → List Item) (n : ℕ) → R.valid s → ((g : ℕ) → g < n → All (Fits R s g) (lists g)) → SameRound R s (absorb_upto R s lists n)
upto_same R laws s lists zero v a = same_here R s v
upto_same R laws s lists (suc n) v a = all_same R laws s (absorb_upto R s lists n) n (lists n) (upto_same R laws s lists n v (λ g l. a g (omega arith))) (a n (omega arith))

-- the fold looks at the lists of the senders below n alone
pub upto_ext : {S : Type 0} (R : Rules S) (s : S) (xs ys : ℕ → List Item) (n : ℕ) → ((g : ℕ) → g < n → xs g ≡ ys g) → absorb_upto R s xs n ≡ absorb_upto R s ys n
upto_ext R s xs ys zero h = refl
upto_ext R s xs ys (suc n) h =
    ap (λ t. absorb_all R t n (xs n)) (upto_ext R s xs ys n (λ g l. h g (omega arith))) ∙ ap (λ items. absorb_all R (absorb_upto R s ys n) n items) (h n (omega arith))

pub upto_none : {S : Type 0} (R : Rules S) (s : S) (n : ℕ) → absorb_upto R s (λ _. []) n ≡ s
upto_none R s zero = refl
upto_none R s (suc n) = upto_none R s n

-- one absorb goes past those of another sender
pub past_all : {S : Type 0} (R : Rules S) → Laws R → (s t : S) (f g : ℕ) (x : Item) (ys : List Item) → SameRound R s t → f ≢ g → Fits R s f x → All (Fits R s g) ys → absorb_all R (R.absorbed t f x) g ys ≡ R.absorbed (absorb_all R t g ys) f x
past_all R laws s t f g x [] h d e a = refl
past_all R laws s t f g x (y ∷ ys) h d e a =
    let fy : Fits R s g y = all_head (Fits R s g) y ys a in
    let swap : R.absorbed (R.absorbed t f x) g y ≡ R.absorbed (R.absorbed t g y) f x = laws.commutes t f g x y h.valid d (fits_later R s t f x h e) (fits_later R s t g y h fy) in
    ap (λ u. absorb_all R u g ys) swap ∙ past_all R laws s (R.absorbed t g y) f g x ys (absorb_same R laws s t g y h fy) d e (all_tail (Fits R s g) y ys a)

-- an item at the end of its sender's list
pub absorb_step : {S : Type 0} (R : Rules S) → Laws R → (s : S) (n f : ℕ) (x : Item) (old new : ℕ → List Item) → R.valid s → ((g : ℕ) → g < n → All (Fits R s g) (old g)) → Fits R s f x → f < n → new f ≡ old f ++ x ∷ [] → ((g : ℕ) → g ≢ f → new g ≡ old g) → absorb_upto R s new n ≡ R.absorbed (absorb_upto R s old n) f x
absorb_step R laws s zero f x old new v a e l here other = absurd (omega arith)
absorb_step {S} R laws s (suc n) f x old new v a e l here other =
    let before : (g : ℕ) → g < n → All (Fits R s g) (old g) = λ g b. a g (omega arith) in
    elim (cases_eq f n) [
      | inl same ↦
          let below : absorb_upto R s new n ≡ absorb_upto R s old n = upto_ext R s new old n (λ g b. other g (omega arith)) in
          let list : new n ≡ old n ++ x ∷ [] = subst (λ k. new k ≡ old k ++ x ∷ []) same here in
          ap (λ t. absorb_all R t n (new n)) below ∙ (ap (λ xs. absorb_all R (absorb_upto R s old n) n xs) list ∙ (fold_push (λ t y. R.absorbed t n y) (absorb_upto R s old n) (old n) x ∙ ap (λ k. R.absorbed (absorb_upto R s old (suc n)) k x) (sym same)))
      | inr apart ↦
          let step : absorb_upto R s new n ≡ R.absorbed (absorb_upto R s old n) f x = absorb_step R laws s n f x old new v before e (omega arith) here other in
          let list : new n ≡ old n = other n (λ q. apart (sym q)) in
          ap (λ t. absorb_all R t n (new n)) step ∙ (ap (λ xs. absorb_all R (R.absorbed (absorb_upto R s old n) f x) n xs) list ∙ past_all R laws s (absorb_upto R s old n) f n x (old n) (upto_same R laws s old n v before) apart e (a n (omega arith)))
    ]

-- the items of a list that fit do fit
pub fitting_fits : {S : Type 0} (R : Rules S) (s : S) (f : ℕ) (xs : List Item) → All (Fits R s f) (fitting R s f xs)
fitting_fits R s f xs = filter_passes (fits R s f) xs

-- where all fit, all are kept
pub fitting_all : {S : Type 0} (R : Rules S) (s : S) (f : ℕ) (xs : List Item) → All (Fits R s f) xs → fitting R s f xs ≡ xs
fitting_all R s f [] a = refl
fitting_all R s f (x ∷ xs) a =
    ap (λ b. cond b (x ∷ fitting R s f xs) (fitting R s f xs)) (all_head (Fits R s f) x xs a) ∙ ap (λ ys. x ∷ ys) (fitting_all R s f xs (all_tail (Fits R s f) x xs a))

fitting_push : {S : Type 0} (R : Rules S) (s : S) (f : ℕ) (xs : List Item) (x : Item) → fitting R s f (xs ++ x ∷ []) ≡ fitting R s f xs ++ cond (fits R s f x) (x ∷ []) []
fitting_push R s f xs x = filter-append (fits R s f) xs (x ∷ [])

-- a state after pulls is one of the same round
pub pulls_same : {S : Type 0} (R : Rules S) → Laws R → (s : S) (pulled : ℕ → List Item) (p : ℕ) → R.valid s → SameRound R s (after_pulls R s pulled p)
pulls_same R laws s pulled p v = upto_same R laws s (λ g. fitting R s g (pulled g)) p v (λ g l. fitting_fits R s g (pulled g))

kept : {S : Type 0} (R : Rules S) (s : S) (f : ℕ) (old new : ℕ → List Item) → fitting R s f (new f) ≡ fitting R s f (old f) → ((g : ℕ) → g ≢ f → fitting R s g (new g) ≡ fitting R s g (old g)) → (p g : ℕ) → g < p → fitting R s g (new g) ≡ fitting R s g (old g)
kept R s f old new here other p g l =
    elim (cases_eq g f) [ inl same ↦ subst (λ k. fitting R s k (new k) ≡ fitting R s k (old k)) (sym same) here | inr apart ↦ other g apart ]

pub one_more_pull : {S : Type 0} (R : Rules S) → Laws R → OneMorePull R
one_more_pull R laws s p f x old new v l here other =
    let grown : fitting R s f (new f) ≡ fitting R s f (old f) ++ cond (fits R s f x) (x ∷ []) [] = ap (fitting R s f) here ∙ fitting_push R s f (old f) x in
    let same : (g : ℕ) → g ≢ f → fitting R s g (new g) ≡ fitting R s g (old g) = λ g d. ap (fitting R s g) (other g d) in
    elim (cases_Bool (fits R s f x)) [
      | inl yes' ↦
          absorb_step R laws s p f x (λ g. fitting R s g (old g)) (λ g. fitting R s g (new g)) v (λ g b. fitting_fits R s g (old g)) yes' l (grown ∙ ap (λ b. fitting R s f (old f) ++ cond b (x ∷ []) []) yes') same
          ∙ ap (λ b. cond b (R.absorbed (after_pulls R s old p) f x) (after_pulls R s old p)) (sym yes')
      | inr no' ↦
          upto_ext R s (λ g. fitting R s g (new g)) (λ g. fitting R s g (old g)) p (kept R s f old new (grown ∙ (ap (λ b. fitting R s f (old f) ++ cond b (x ∷ []) []) no' ∙ append-nil (fitting R s f (old f)))) same p)
          ∙ ap (λ b. cond b (R.absorbed (after_pulls R s old p) f x) (after_pulls R s old p)) (sym no')
    ]

-- items absorbed as they came, after those that came before
every_from : {S : Type 0} (R : Rules S) → Laws R → (s : S) (p : ℕ) (before came : List (ℕ × Item)) → R.valid s → All (λ e. (e.0 < p) × Fits R s e.0 e.1) before → All (λ e. (e.0 < p) × Fits R s e.0 e.1) came → absorb_each R (absorb_upto R s (λ f. items_of f before) p) came ≡ absorb_upto R s (λ f. items_of f (before ++ came)) p
every_from R laws s p before [] v a b = ap (λ es. absorb_upto R s (λ f. items_of f es) p) (sym (append-nil before))
every_from R laws s p before (e ∷ es) v a b =
    let fact : (e.0 < p) × Fits R s e.0 e.1 = all_head (λ e. (e.0 < p) × Fits R s e.0 e.1) e es b in
    let step : absorb_upto R s (λ f. items_of f (before ++ e ∷ [])) p ≡ R.absorbed (absorb_upto R s (λ f. items_of f before) p) e.0 e.1 =
    absorb_step R laws s p e.0 e.1 (λ f. items_of f before) (λ f. items_of f (before ++ e ∷ [])) v
    (λ g l. picked (λ e. (e.0 < p) × Fits R s e.0 e.1) (Fits R s g) g before (λ x w same. subst (λ k. Fits R s k x.1) same w.1) a) fact.1 fact.0
    (items_push e.0 before (e ∷ []) ∙ ap (λ xs. items_of e.0 before ++ xs) (items_here e []))
    (λ g d. items_push g before (e ∷ []) ∙ (ap (λ xs. items_of g before ++ xs) (items_other g e [] (λ q. d (sym q))) ∙ append-nil (items_of g before))) in
    ap (λ t. absorb_each R t es) (sym step)
    ∙ (every_from R laws s p (before ++ e ∷ []) es v (All-push (λ e. (e.0 < p) × Fits R s e.0 e.1) before e a fact) (all_tail (λ e. (e.0 < p) × Fits R s e.0 e.1) e es b)
    ∙ ap (λ xs. absorb_upto R s (λ f. items_of f xs) p) (append_assoc before (e ∷ []) es))

pub every_order : {S : Type 0} (R : Rules S) → Laws R → EveryOrder R
every_order R laws s p came v a = ap (λ t. absorb_each R t came) (sym (upto_none R s p)) ∙ every_from R laws s p [] came v (All-nil (λ e. (e.0 < p) × Fits R s e.0 e.1)) a

-- what a rank of a round emits fits the rank that it goes to
pub emitted_fits : {S : Type 0} (R : Rules S) → Laws R → (p n : ℕ) (shape : List ℕ) (most r f : ℕ) (s t : S) → Member R p n shape most r s → Member R p n shape most f t → All (Fits R s f) (emissions_to R t r)
emitted_fits R laws p n shape most r f s t a b =
    picked (λ e. R.may_be_sent (R.shape t) (R.ranks t) (R.round t) e.0 (R.rank t) e.1 ≡ true) (Fits R s f) r (R.emissions t)
    (λ e w same.
    let here : R.may_be_sent (R.shape s) (R.ranks s) (R.round s) (R.rank s) f e.1 ≡ R.may_be_sent (R.shape t) (R.ranks t) (R.round t) e.0 (R.rank t) e.1 =
    ap (λ x. R.may_be_sent x (R.ranks s) (R.round s) (R.rank s) f e.1) (a.same_shape ∙ sym b.same_shape)
    ∙ (ap (λ x. R.may_be_sent (R.shape t) x (R.round s) (R.rank s) f e.1) (a.all_ranks ∙ sym b.all_ranks)
    ∙ (ap (λ x. R.may_be_sent (R.shape t) (R.ranks t) x (R.rank s) f e.1) (a.same_round ∙ sym b.same_round)
    ∙ (ap (λ x. R.may_be_sent (R.shape t) (R.ranks t) (R.round t) x f e.1) (a.own_rank ∙ sym same)
    ∙ ap (λ x. R.may_be_sent (R.shape t) (R.ranks t) (R.round t) e.0 x e.1) (sym b.own_rank)))) in
    here ∙ w)
    (laws.emits t b.valid)

pub emitted_by_fits : {S : Type 0} (R : Rules S) → Laws R → (p n : ℕ) (shape : List ℕ) (most : ℕ) (ss : List S) (r f : ℕ) (s : S) → InRound R p n shape most ss → slice_get ss r ≡ Some s → All (λ x. (f < p) × Fits R s f x) (emitted_by R ss r f)
emitted_by_fits R laws p n shape most ss r f s all e =
    elim (cases_lt f (length ss)) [
      | inl l ↦
          let t : (t : _) × (slice_get ss f ≡ Some t) = find ss f l in
          let fit : All (Fits R s f) (emissions_to R t.0 r) = emitted_fits R laws p n shape most r f s t.0 (all.each r s e) (all.each f t.0 t.1) in
          let low : f < p = subst (λ k. f < k) all.size l in
          subst (λ o. All (λ x. (f < p) × Fits R s f x) (emitted_of R o r)) (sym t.1) (λ k d b. (low, fit k d b))
      | inr m ↦ subst (λ o. All (λ x. (f < p) × Fits R s f x) (emitted_of R o r)) (sym (slice_get_past ss f m)) (All-nil (λ x. (f < p) × Fits R s f x))
    ]

pub canonical_order : {S : Type 0} (R : Rules S) → Laws R → EveryOrderIsCanonical R
canonical_order R laws p n shape most ss r s came all e h =
    let fit : All (λ w. (w.0 < p) × Fits R s w.0 w.1) came = from_picked (λ f x. (f < p) × Fits R s f x) came (λ f. subst (All (λ x. (f < p) × Fits R s f x)) (sym (h f)) (emitted_by_fits R laws p n shape most ss r f s all e)) in
    let here : Member R p n shape most r s = all.each r s e in
    let fold' : absorb_upto R s (emitted_by R ss (R.rank s)) (length ss) ≡ absorb_each R s came =
    ap (λ k. absorb_upto R s (emitted_by R ss k) (length ss)) here.own_rank
    ∙ (ap (absorb_upto R s (emitted_by R ss r)) all.size
    ∙ (upto_ext R s (emitted_by R ss r) (λ f. items_of f came) p (λ g b. sym (h g)) ∙ sym (every_order R laws s p came here.valid fit))) in
    get_map (λ t. absorb_upto R t (emitted_by R ss (R.rank t)) (length ss)) ss r s e ∙ ap Some fold'
