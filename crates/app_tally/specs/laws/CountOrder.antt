-- Lines are counted in any order.
use Rattle.std.proofs.Common.{ℕ, ◌+◌, ◌≡◌, ◌⊎◌, Bool, true, false, List, [], ◌∷◌, inl, inr, refl, sym, ap, ◌∙◌}
use Rattle.std.proofs.Common.{Ordering, Less, Equal, Greater}
use Rattle.std.specs.Cmp.{IsTotalOrder}
use Rattle.std.specs.FinMap.{slice_cmp-IsAntisymmetric, nat_cmp-IsAntisymmetric}
use Rattle.std.specs.Ordering.{ordering_reverse}
use Rattle.std.proofs.lemmas.Cmp.{nat_list_cmp_total, tied_itself}
use Rattle.app_tally.specs.Counts.{by_bytes, Entry, counted_by, with_line}

-- ---- The order

pub order : IsTotalOrder by_bytes
order = nat_list_cmp_total

pub one_line : (l m : List ℕ) → by_bytes l m ≡ Equal → l ≡ m
one_line l m e = slice_cmp-IsAntisymmetric nat_cmp-IsAntisymmetric l m e

pub itself : (l : List ℕ) → by_bytes l l ≡ Equal
itself l = tied_itself order l

pub order_turned : (l m : List ℕ) (o : Ordering) → by_bytes l m ≡ o → by_bytes m l ≡ ordering_reverse o
order_turned l m o e = order.antisymm m l ∙ ap ordering_reverse e

pub which : (o : Ordering) → (o ≡ Less) ⊎ ((o ≡ Equal) ⊎ (o ≡ Greater))
which Less = inl refl
which Equal = inr (inl refl)
which Greater = inr (inr refl)

pub no_tie : (b : Bool) → b ≡ false → b ≡ true → ⊥
no_tie true e f = absurd (cc)
no_tie false e f = absurd (cc)

-- ---- One more line, by how it compares with the first

pub at_less : (l : List ℕ) (e : Entry) (es : List Entry) → by_bytes l e.0 ≡ Less → with_line l (e ∷ es) ≡ (l, 1) ∷ e ∷ es
at_less l e es h = ap (λ o. counted_by o l e es (with_line l es)) h

pub at_equal : (l : List ℕ) (e : Entry) (es : List Entry) → by_bytes l e.0 ≡ Equal
    → with_line l (e ∷ es) ≡ (e.0, e.1 + 1) ∷ es
at_equal l e es h = ap (λ o. counted_by o l e es (with_line l es)) h

pub at_greater : (l : List ℕ) (e : Entry) (es : List Entry) → by_bytes l e.0 ≡ Greater
    → with_line l (e ∷ es) ≡ e ∷ with_line l es
at_greater l e es h = ap (λ o. counted_by o l e es (with_line l es)) h

-- two lines, the first of which is the lesser
less_comm : (l m : List ℕ) (e : Entry) (es : List Entry) → by_bytes l m ≡ Less
    → with_line l (with_line m es) ≡ with_line m (with_line l es)
    → with_line l (with_line m (e ∷ es)) ≡ with_line m (with_line l (e ∷ es))
less_comm l m e es lm rest =
    let ml : by_bytes m l ≡ Greater = order_turned l m Less lm in
    elim (which (by_bytes m e.0)) [
      | inl b ↦
          let a : by_bytes l e.0 ≡ Less = order.trans l m e.0 lm b in
          ap (with_line l) (at_less m e es b) ∙ at_less l (m, 1) (e ∷ es) lm
          ∙ sym (ap (with_line m) (at_less l e es a) ∙ at_greater m (l, 1) (e ∷ es) ml ∙ ap (λ w. (l, 1) ∷ w)
          (at_less m e es b))
      | inr (inl b) ↦
          let a : by_bytes l e.0 ≡ Less = ap (by_bytes l) (sym (one_line m e.0 b)) ∙ lm in
          ap (with_line l) (at_equal m e es b) ∙ at_less l (e.0, e.1 + 1) es a
          ∙ sym (ap (with_line m) (at_less l e es a) ∙ at_greater m (l, 1) (e ∷ es) ml ∙ ap (λ w. (l, 1) ∷ w)
          (at_equal m e es b))
      | inr (inr b) ↦
          elim (which (by_bytes l e.0)) [
            | inl a ↦
                ap (with_line l) (at_greater m e es b) ∙ at_less l e (with_line m es) a
                ∙ sym (ap (with_line m) (at_less l e es a) ∙ at_greater m (l, 1) (e ∷ es) ml ∙ ap (λ w. (l, 1) ∷ w)
                (at_greater m e es b))
            | inr (inl a) ↦
                ap (with_line l) (at_greater m e es b) ∙ at_equal l e (with_line m es) a
                ∙ sym (ap (with_line m) (at_equal l e es a) ∙ at_greater m (e.0, e.1 + 1) es b)
            | inr (inr a) ↦
                ap (with_line l) (at_greater m e es b) ∙ at_greater l e (with_line m es) a ∙ ap (λ w. e ∷ w) rest
                ∙ sym (ap (with_line m) (at_greater l e es a) ∙ at_greater m e (with_line l es) b)
          ]
    ]

-- lines are counted in any order
pub counted_comm : (l m : List ℕ) (es : List Entry) → with_line l (with_line m es) ≡ with_line m (with_line l es)
counted_comm l m [] =
    elim (which (by_bytes l m)) [
      | inl e ↦ at_less l (m, 1) [] e ∙ sym (at_greater m (l, 1) [] (order_turned l m Less e))
      | inr (inl e) ↦ ap (λ w. with_line w (with_line m [])) (one_line l m e) ∙ ap (λ w. with_line m (with_line w []))
          (sym (one_line l m e))
      | inr (inr e) ↦ at_greater l (m, 1) [] e ∙ sym (at_less m (l, 1) [] (order_turned l m Greater e))
    ]
counted_comm l m (e ∷ es) =
    elim (which (by_bytes l m)) [
      | inl lm ↦ less_comm l m e es lm (counted_comm l m es)
      | inr (inl lm) ↦ ap (λ w. with_line w (with_line m (e ∷ es))) (one_line l m lm) ∙ ap
          (λ w. with_line m (with_line w (e ∷ es))) (sym (one_line l m lm))
      | inr (inr lm) ↦ sym (less_comm m l e es (order_turned l m Greater lm) (counted_comm m l es))
    ]
