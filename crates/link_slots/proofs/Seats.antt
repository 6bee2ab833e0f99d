-- A rank's lists pass from view to view: pick, split and join keep the rule.
use Rattle.std.proofs.Common.{◌≡◌, ◌≢◌, ℕ, zero, suc, ◌*◌, ◌<◌, ◌⊎◌, Bool, cond, eqb, List, [], ◌∷◌, ◌++◌, map, length, get_or, set, sym, refl, ap, ◌∙◌, subst, inl, inr, ⊎_elim, arith, Option, Some, None, eq-eqb, ne_eqb, get_or-set_same, get_or-set_other}
use Rattle.std.proofs.lemmas.List.{length-map}
use mathlib.Core.Logic.{dite}
use native.Mathlib.Decide.{ℕ_discrete}
use Rattle.std.proofs.lemmas.List.{set-get_or}
use mathlib.Core.Option.{some, some-injective}
use lib.ListN.{get_elem?}
use Rattle.atomic_table.specs.Table.{State, keeps, Allows, Splits, Joins}
use Rattle.atomic_table.proofs.Lists.{at_set, set_here, set_else, at_longer, at_last}
use Rattle.link_slots.specs.Logs.{Lists}
use Rattle.link_slots.specs.View.{View, own_logs, Speaks, IsAlone, without_pick, pick_alone, gathered, spent, emptied, speaking_for}
use Rattle.link_slots.specs.Wiring.{Wiring}
use Rattle.link_slots.specs.Bank.{Lawful}
use Rattle.link_slots.proofs.Lookups.{snoc_case, at_inside}
use Rattle.link_slots.proofs.OneRank.{put, put_here, put_else}

none_there : {A : Type 0} (l : List (Option A)) (r : ℕ) (y : A) → get_or (map (λ (_ : Option A). None) l) r None ≡ Some y → ⊥
none_there [] r y e = cc
none_there (x ∷ xs) zero y e = cc
none_there (x ∷ xs) (suc r) y e = none_there xs r y e

module _ {A : Type 0} where
  -- after a write at k, what stands at r
  pub written : (l : List (Option A)) (k r : ℕ) (a : Option A) (y : A) → get_or (set l k a) r None ≡ Some y → ((r ≡ k) × (a ≡ Some y)) ⊎ ((r ≢ k) × (get_or l r None ≡ Some y))
  written [] k r a y e = absurd (empty_none r y e)
    where
      empty_none : {A : Type 0} (r : ℕ) (y : A) → get_or [] r None ≡ Some y → ⊥
      empty_none r y e = cc
  written (x ∷ xs) zero zero a y e = inl (refl, e)
  written (x ∷ xs) zero (suc r) a y e = inr ((λ h. omega arith), e)
  written (x ∷ xs) (suc k) zero a y e = inr ((λ h. omega arith), e)
  written (x ∷ xs) (suc k) (suc r) a y e = ⊎_elim (λ t. inl (ap suc t.0, t.1)) (λ t. inr ((λ h. t.0 (omega arith)), t.1)) (written xs k r a y e)

listed : {A : Type 0} (l : List (Option A)) (r : ℕ) (x : A) → get_or l r None ≡ Some x → r < length l
listed [] r x e = cc
listed (y ∷ ys) zero x e = omega arith
listed (y ∷ ys) (suc r) x e = let h = listed ys r x e in omega arith

no_some : {A : Type 0} (y : A) → None ≡ Some y → ⊥
no_some y e = cc

module _ {D T : Type 0} (Blank : T → Type 0) (Good : ℕ → List T → T → Type 0) (Law : ℕ → (ℕ → List T) → (ℕ → List T) → Type 0) (shape : D) (w : Wiring) where
  abbrev Rule : State T (View D T) → Type 0
  Rule = Lawful Blank Good Law shape w

  -- the rule speaks of the views by one clause alone
  reseated : (s : State T (View D T)) (ok : Rule s) (owner : ℕ → ℕ) (views : List (View D T))
      → ((j : ℕ) (v : View D T) → get_elem? views j ≡ some v → (r : ℕ) (x : Lists T) → get_or v.lists r None ≡ Some x → (owner r ≡ j) × (x ≡ ok.logs r) × (v.shape ≡ shape))
      → ((r : ℕ) → r < w.ranks → (v : View D T) × (get_elem? views (owner r) ≡ some v) × (get_or v.lists r None ≡ Some (ok.logs r)))
      → Rule (record { words = s.words; homes = s.homes; views = views })
  reseated s ok owner views seats owns = record {
    logs = ok.logs;
    owner = owner;
    wide = ok.wide;
    deep = ok.deep;
    each_link = ok.each_link;
    each_bell = ok.each_bell;
    no_other_bits = ok.no_other_bits;
    each_rank = ok.each_rank;
    each_seat = seats;
    owned = owns;
  }

  -- a rank's lists stay in the seat that has them, where that seat's view keeps them
  still_owned : (s : State T (View D T)) (ok : Rule s) (id : ℕ) (v u : View D T) → get_elem? s.views id ≡ some v → (r : ℕ) → r < w.ranks → (ok.owner r ≡ id → get_or u.lists r None ≡ get_or v.lists r None)
      → (z : View D T) × (get_elem? (set s.views id u) (ok.owner r) ≡ some z) × (get_or z.lists r None ≡ Some (ok.logs r))
  still_owned s ok id v u at r h same =
      let old = ok.owned r h in dite (ℕ_discrete (ok.owner r) id)
      (λ mine. let is : old.0 ≡ v = some-injective old.0 v (sym old.1 ∙ ap (get_elem? s.views) mine ∙ at) in
      (u, ap (get_elem? (set s.views id u)) mine ∙ set_here s.views id u (at_inside s.views id v at), same mine ∙ ap (λ (z : View D T). get_or z.lists r None) (sym is) ∙ old.2))
      (λ apart. (old.0, set_else s.views id (ok.owner r) u apart ∙ old.1, old.2))

  -- a load by whose word the seat's next rank is picked
  pub pick : (id k q : ℕ) (v : View D T) (c : List (ℕ × T))
      → Allows Rule (w.slots * w.links) id (v, c) k (λ n. n) (λ n m'. m' ≡ (speaking_for v q, c))
  pick id k q v c s ok deep at fits = (
    speaking_for v q,
    keeps,
    tt,
    subst (λ (z : List ℕ). Rule (record { words = z; homes = s.homes; views = set s.views id (speaking_for v q) })) (sym (set-get_or s.words k 0))
        (reseated s ok ok.owner (set s.views id (speaking_for v q)) (λ j u there r x e. ⊎_elim
        (λ t. let old = ok.each_seat id v at r x (ap (λ (z : View D T). get_or z.lists r None) t.1 ∙ e) in (old.0 ∙ sym t.0, old.1, ap (λ (z : View D T). z.shape) (sym t.1) ∙ old.2))
        (λ t. ok.each_seat j u t.1 r x e) (at_set s.views id j (speaking_for v q) u there)) (λ r h. still_owned s ok id v (speaking_for v q) at r h (λ _. refl))),
    refl,
  )

  pub split : (id : ℕ) (v : View D T) → Speaks v → Splits Rule id v (without_pick v) (pick_alone v)
  split id v speaks s ok at =
      let known = ok.each_seat id v at v.pick (own_logs v) speaks in
      let new : ℕ = length (set s.views id (without_pick v)) in
      let owner : ℕ → ℕ = put ok.owner v.pick new in
      reseated s ok owner (set s.views id (without_pick v) ++ pick_alone v ∷ []) (λ j u there r x e. ⊎_elim
      (λ old_seat. ⊎_elim
      (λ t. let e' : get_or (set v.lists v.pick None) r None ≡ Some x = ap (λ (z : View D T). get_or z.lists r None) t.1 ∙ e in
      ⊎_elim (λ q. absurd (no_some x q.1))
      (λ q. let old = ok.each_seat id v at r x q.1 in (put_else ok.owner v.pick new r q.0 ∙ old.0 ∙ sym t.0, old.1, ap (λ (z : View D T). z.shape) (sym t.1) ∙ old.2))
      (written v.lists v.pick r None x e'))
      (λ t. let old = ok.each_seat j u t.1 r x e in
      let other : r ≢ v.pick = λ same. t.0 (sym old.0 ∙ ap ok.owner same ∙ known.0) in
      (put_else ok.owner v.pick new r other ∙ old.0, old.1, old.2))
      (at_set s.views id j (without_pick v) u old_seat))
      (λ t. let e' : get_or (set (map (λ _. None) v.lists) v.pick (get_or v.lists v.pick None)) r None ≡ Some x = ap (λ (z : View D T). get_or z.lists r None) t.1 ∙ e in
      ⊎_elim (λ q. let old = ok.each_seat id v at v.pick x q.1 in
      (ap owner q.0 ∙ put_here ok.owner v.pick new ∙ sym t.0, old.1 ∙ ap ok.logs (sym q.0), ap (λ (z : View D T). z.shape) (sym t.1) ∙ old.2))
      (λ q. absurd (none_there v.lists r x q.1))
      (written (map (λ _. None) v.lists) v.pick r (get_or v.lists v.pick None) x e'))
      (snoc_case (set s.views id (without_pick v)) (pick_alone v) u j there))
      (λ r h. dite (ℕ_discrete r v.pick)
      (λ e. (
        pick_alone v,
        ap (get_elem? (set s.views id (without_pick v) ++ pick_alone v ∷ [])) (ap owner e ∙ put_here ok.owner v.pick new) ∙ at_last (set s.views id (without_pick v)) (pick_alone v) new refl,
        ap (λ (z : ℕ). get_or (pick_alone v).lists z None) e
            ∙ get_or-set_same (map (λ _. None) v.lists) v.pick (get_or v.lists v.pick None) None (subst (λ (z : ℕ). v.pick < z) (sym (length-map v.lists (λ _. None))) (listed v.lists v.pick (own_logs v) speaks))
            ∙ speaks ∙ ap Some (known.1 ∙ ap ok.logs (sym e)),
      ))
      (λ ne. let old = still_owned s ok id v (without_pick v) at r h (λ _. get_or-set_other v.lists v.pick r None None ne) in (
        old.0,
        ap (get_elem? (set s.views id (without_pick v) ++ pick_alone v ∷ [])) (put_else ok.owner v.pick new r ne) ∙ at_longer (set s.views id (without_pick v)) (pick_alone v ∷ []) (ok.owner r) old.0 old.1,
        old.2,
      )))

  moved_here : (owner : ℕ → ℕ) (id new r : ℕ) → owner r ≡ id → cond (eqb (owner r) id) new (owner r) ≡ new
  moved_here owner id new r e = ap (λ (b : Bool). cond b new (owner r)) (eq-eqb (owner r) id e)

  moved_else : (owner : ℕ → ℕ) (id new r : ℕ) → owner r ≢ id → cond (eqb (owner r) id) new (owner r) ≡ owner r
  moved_else owner id new r e = ap (λ (b : Bool). cond b new (owner r)) (ne_eqb (owner r) id e)

  -- the whole view goes to a new seat, which holds no slot
  pub leave : (id : ℕ) (v : View D T) → Splits Rule id v (emptied v) v
  leave id v s ok at =
      let new : ℕ = length (set s.views id (emptied v)) in
      let owner : ℕ → ℕ = λ r. cond (eqb (ok.owner r) id) new (ok.owner r) in
      reseated s ok owner (set s.views id (emptied v) ++ v ∷ []) (λ j u there r x e. ⊎_elim
      (λ old_seat. ⊎_elim
      (λ t. absurd (no_some x (ap (λ (z : View D T). get_or z.lists r None) t.1 ∙ e)))
      (λ t. let old = ok.each_seat j u t.1 r x e in (moved_else ok.owner id new r (λ h. t.0 (sym old.0 ∙ h)) ∙ old.0, old.1, old.2))
      (at_set s.views id j (emptied v) u old_seat))
      (λ t. let old = ok.each_seat id v at r x (ap (λ (z : View D T). get_or z.lists r None) t.1 ∙ e) in
      (moved_here ok.owner id new r old.0 ∙ sym t.0, old.1, ap (λ (z : View D T). z.shape) (sym t.1) ∙ old.2))
      (snoc_case (set s.views id (emptied v)) v u j there))
      (λ r h. let old = ok.owned r h in dite (ℕ_discrete (ok.owner r) id)
      (λ mine. let is : old.0 ≡ v = some-injective old.0 v (sym old.1 ∙ ap (get_elem? s.views) mine ∙ at) in (
        v,
        ap (get_elem? (set s.views id (emptied v) ++ v ∷ [])) (moved_here ok.owner id new r mine) ∙ at_last (set s.views id (emptied v)) v new refl,
        ap (λ (z : View D T). get_or z.lists r None) (sym is) ∙ old.2,
      ))
      (λ apart. (
        old.0,
        ap (get_elem? (set s.views id (emptied v) ++ v ∷ [])) (moved_else ok.owner id new r apart)
            ∙ at_longer (set s.views id (emptied v)) (v ∷ []) (ok.owner r) old.0 (set_else s.views id (ok.owner r) (emptied v) apart ∙ old.1),
        old.2,
      )))

  pub join : (no_shape : D) (id other : ℕ) (v u : View D T) → Speaks u → IsAlone u → u.pick < length v.lists → Joins Rule id v other u (gathered v u) (spent no_shape)
  join no_shape id other v u speaks alone long s ok at ne at_other =
      let there : get_elem? s.views other ≡ some u = ⊎_elim (λ t. absurd (ne t.0)) (λ t. t.1) (at_set s.views id other (gathered v u) u at_other) in
      let known = ok.each_seat other u there u.pick (own_logs u) speaks in
      let owner : ℕ → ℕ = put ok.owner u.pick id in
      reseated s ok owner (set (set s.views id (gathered v u)) other (spent no_shape)) (λ j z found r x e. ⊎_elim
      (λ t. absurd (no_some x (ap (λ (y : View D T). get_or y.lists r None) t.1 ∙ e)))
      (λ t. ⊎_elim
      (λ q. let e' : get_or (set v.lists u.pick (get_or u.lists u.pick None)) r None ≡ Some x = ap (λ (y : View D T). get_or y.lists r None) q.1 ∙ e in
      ⊎_elim (λ p. let old = ok.each_seat other u there u.pick x p.1 in
      (ap owner p.0 ∙ put_here ok.owner u.pick id ∙ sym q.0, old.1 ∙ ap ok.logs (sym p.0), ap (λ (y : View D T). y.shape) (sym q.1) ∙ old.2))
      (λ p. let old = ok.each_seat id v at r x p.1 in (put_else ok.owner u.pick id r p.0 ∙ old.0 ∙ sym q.0, old.1, ap (λ (y : View D T). y.shape) (sym q.1) ∙ known.2))
      (written v.lists u.pick r (get_or u.lists u.pick None) x e'))
      (λ q. let old = ok.each_seat j z q.1 r x e in
      let apart : r ≢ u.pick = λ same. t.0 (sym old.0 ∙ ap ok.owner same ∙ known.0) in
      (put_else ok.owner u.pick id r apart ∙ old.0, old.1, old.2))
      (at_set s.views id j (gathered v u) z t.1))
      (at_set (set s.views id (gathered v u)) other j (spent no_shape) z found))
      (λ r h. dite (ℕ_discrete r u.pick)
      (λ e. (
        gathered v u,
        ap (get_elem? (set (set s.views id (gathered v u)) other (spent no_shape))) (ap owner e ∙ put_here ok.owner u.pick id) ∙ set_else (set s.views id (gathered v u)) other id (spent no_shape) (λ q. ne (sym q))
            ∙ set_here s.views id (gathered v u) (at_inside s.views id v at),
        ap (λ (z : ℕ). get_or (set v.lists u.pick (get_or u.lists u.pick None)) z None) e ∙ get_or-set_same v.lists u.pick (get_or u.lists u.pick None) None long ∙ speaks ∙ ap Some (known.1 ∙ ap ok.logs (sym e)),
      ))
      (λ n.
      let old = ok.owned r h in
      let kept = still_owned s ok id v (gathered v u) at r h (λ _. get_or-set_other v.lists u.pick r (get_or u.lists u.pick None) None n) in
      let apart : ok.owner r ≢ other = λ q. no_some (ok.logs r) (sym (alone r n) ∙ ap (λ (z : View D T). get_or z.lists r None) (some-injective u old.0 (sym there ∙ ap (get_elem? s.views) (sym q) ∙ old.1)) ∙ old.2) in (
        kept.0,
        ap (get_elem? (set (set s.views id (gathered v u)) other (spent no_shape))) (put_else ok.owner u.pick id r n) ∙ set_else (set s.views id (gathered v u)) other (ok.owner r) (spent no_shape) apart ∙ kept.1,
        kept.2,
      )))
