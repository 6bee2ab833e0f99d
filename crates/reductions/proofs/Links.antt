-- Links between cells: at the end none could lower a cell.
use Rattle.std.proofs.Common.{ℕ, zero, suc, ◌<◌, ◌≤◌, ◌≡◌, ◌⊎◌, not, true, false, List, Some, length, get_or, slice_get, All, arith, inl, inr, refl, sym, ap, ◌∙◌, subst}
use Rattle.std.proofs.lemmas.Bool.{cases_Bool, cases_eq, ne_eqb, true≢false}
use Rattle.bale_items.specs.declared.Item.{Item}
use Rattle.round_program.specs.Rules.{Rules}
use Rattle.round_program.specs.Canonical.{emitted_by, states_at, votes_at}
use Rattle.reductions.specs.declared.reduced.Reduction.TheVariants.{Least}
use Rattle.reductions.specs.Reductions.{ReducedState, has_changed, vote_of}
use Rattle.reductions.proofs.CellRounds.{HasCells, GoTo, cell, before_upto, least_fell, least_heard}
use Rattle.reductions.proofs.CellRuns.{calm_at, quiet}
use Rattle.reductions.proofs.Rounds.{full, was, upto_keep}

-- A link leads from a cell to a cell, and offers the latter a number that is made of the former's.
pub record Offers (L : Type 0) : Type 0 where
  pub from : L → ℕ
  pub to : L → ℕ
  pub along : L → ℕ → ℕ

module _ {S L : Type 0} (R : Rules S) (key value : Item → ℕ) (cells : S → ReducedState) (links : S → List L) (o : Offers L) where
  abbrev pub offer : S → L → ℕ
  offer s l = o.along l (cell (cells s) (o.from l))

  -- What the link offers is sent in this round: a number that is at most each of those sent for its
  -- end is at most the offer.
  abbrev pub Sends : S → L → Type 0
  Sends s l = (c : ℕ) → All (λ e. key e.1 ≡ o.to l → c ≤ value e.1) (R.emissions s) → c ≤ offer s l

  -- The cell of the link's end is at most the offer.
  abbrev pub Settled : (ℕ → ℕ) → List S → S → L → Type 0
  Settled owner ss s l = (t : S) → slice_get ss (owner (o.to l)) ≡ Some t → cell (cells t) (o.to l) ≤ offer s l

  -- A program that sends what a link offers once the cell of its beginning fell.
  pub record HasLinks : Type 0 where
    pub absorbs : (s : S) (from : ℕ) (x : Item) → links (R.absorbed s from x) ≡ links s
    pub ends : (s : S) (votes : ℕ) → links (R.ended s votes) ≡ links s
    pub again : (s : S) (votes : ℕ) → All (λ l. has_changed (cells s) (o.from l) ≡ true → Sends (R.ended s votes) l) (links s)

module _ {S L : Type 0} {R : Rules S} {key value : Item → ℕ} {cells : S → ReducedState} {links : S → List L} {o : Offers L} (has : HasCells R Least key value cells) (linked : HasLinks R key value cells links o)
    (votes : (s : S) → R.vote s ≡ vote_of (cells s)) (starts : List S) (calm : (r : ℕ) (s : S) → slice_get starts r ≡ Some s → (cells s).before ≡ (cells s).cells)
    (owner : ℕ → ℕ) (goes : (n v : ℕ) → GoTo has (states_at R starts n) v (owner v))
    (own : (n r : ℕ) (s : S) → slice_get (states_at R starts n) r ≡ Some s → R.rank s ≡ r)
    (inside : (n r : ℕ) (s : S) → slice_get (states_at R starts n) r ≡ Some s → All (λ l. (t : S) → slice_get (states_at R starts n) (owner (o.to l)) ≡ Some t → o.to l < length (cells t).cells) (links s))
    (first : (r : ℕ) (s : S) → slice_get starts r ≡ Some s → All (λ l. Sends R key value cells links o s l ⊎ Settled R key value cells links o owner starts s l) (links s)) where
  abbrev now : ℕ → List S
  now n = states_at R starts n

  -- as a round begins, what a link offers is sent, or it is settled
  abbrev Open : ℕ → S → L → Type 0
  Open n s l = Sends R key value cells links o s l ⊎ Settled R key value cells links o owner (now n) s l

  stay : (ss : List S) (s : S) → links (full R ss s) ≡ links s
  stay ss s = upto_keep R (λ t. links t ≡ links s) (λ x. Unit {0}) (λ t f x l q. linked.absorbs t f x ∙ l) s (emitted_by R ss (R.rank s)) (length ss) refl (λ f k d l. tt)

  -- where the cell of its beginning didn't fall, a link is settled after the round
  unfallen : (n r : ℕ) (s : S) → slice_get (now n) r ≡ Some s → All (Open n s) (links s)
      → All (λ l. cell (cells (full R (now n) s)) (o.from l) ≡ cell (cells s) (o.from l) → (t : S) → slice_get (now n) (owner (o.to l)) ≡ Some t
      → cell (cells (full R (now n) t)) (o.to l) ≤ o.along l (cell (cells (full R (now n) s)) (o.from l))) (links s)
  unfallen n r s here open' k d low same t there =
      let l : L = get_or (links s) k d in
      let offered : offer R key value cells links o s l ≡ o.along l (cell (cells (full R (now n) s)) (o.from l)) = ap (o.along l) (sym same) in
      subst (λ c. cell (cells (full R (now n) t)) (o.to l) ≤ c) offered (elim (open' k d low) [
        | inl sends ↦
            sends (cell (cells (full R (now n) t)) (o.to l))
            (least_heard has (now n) t (o.to l) (inside n r s here k d low t there) (subst (GoTo has (now n) (o.to l)) (sym (own n (owner (o.to l)) t there)) (goes n (o.to l))) r s here)
        | inr settled ↦
            let a : cell (cells t) (o.to l) ≤ offer R key value cells links o s l = settled t there in
            let b : cell (cells (full R (now n) t)) (o.to l) ≤ cell (cells t) (o.to l) = least_fell has (now n) t (o.to l) in
            omega (arith, a, b)
      ])

  -- and so it is as the next round begins
  settled_next : (n r : ℕ) (s : S) → slice_get (now n) r ≡ Some s → All (Open n s) (links s)
      → All (λ l. cell (cells (full R (now n) s)) (o.from l) ≡ cell (cells s) (o.from l) → Settled R key value cells links o owner (now (suc n)) (R.ended (full R (now n) s) (votes_at R starts n)) l) (links s)
  settled_next n r s here open' k d low same t there =
      let l : L = get_or (links s) k d in
      let u = was R (now n) (owner (o.to l)) t there in
      let w : S = full R (now n) s in
      let mine : cell (cells (R.ended w (votes_at R starts n))) (o.from l) ≡ cell (cells w) (o.from l) = ap (λ c. cell c (o.from l)) (has.begins w (votes_at R starts n)) in
      let theirs : cell (cells t) (o.to l) ≡ cell (cells (full R (now n) u.0)) (o.to l) =
      ap (λ z. cell (cells z) (o.to l)) (sym u.2) ∙ ap (λ c. cell c (o.to l)) (has.begins (full R (now n) u.0) (votes_at R starts n)) in
      subst (λ c. cell (cells t) (o.to l) ≤ o.along l c) (sym mine) (subst (λ c. c ≤ o.along l (cell (cells w) (o.from l))) (sym theirs) (unfallen n r s here open' k d low same u.0 u.1))

  unchanged : (c : ReducedState) (v : ℕ) → has_changed c v ≡ false → get_or c.cells v 0 ≡ get_or c.before v 0
  unchanged c v h = elim (cases_eq (get_or c.cells v 0) (get_or c.before v 0)) [
    | inl same ↦ same
    | inr other ↦ absurd (true≢false (sym (ap not (ne_eqb (get_or c.cells v 0) (get_or c.before v 0) other)) ∙ h))
  ]

  open_at : (n r : ℕ) (s : S) → slice_get (now n) r ≡ Some s → All (Open n s) (links s)
  open_at zero r s here = first r s here
  open_at (suc n) r t here =
      let u = was R (now n) r t here in
      let w : S = full R (now n) u.0 in
      let e : S = R.ended w (votes_at R starts n) in
      let before : (cells w).before ≡ (cells u.0).cells = before_upto has u.0 (emitted_by R (now n) (R.rank u.0)) (length (now n)) ∙ calm_at has votes starts calm n r u.0 u.1 in
      let same : links w ≡ links u.0 = stay (now n) u.0 in
      let one : All (Open (suc n) e) (links w) = λ k d low.
      let l : L = get_or (links w) k d in
      elim (cases_Bool (has_changed (cells w) (o.from l))) [
        | inl fell ↦ inl (linked.again w (votes_at R starts n) k d low fell)
        | inr kept ↦ inr ((subst (All (λ l. cell (cells w) (o.from l) ≡ cell (cells u.0) (o.from l) → Settled R key value cells links o owner (now (suc n)) e l)) (sym same)
            (settled_next n r u.0 u.1 (open_at n r u.0 u.1))) k d low (unchanged (cells w) (o.from l) kept ∙ ap (λ cs. get_or cs (o.from l) 0) before))
      ] in
      subst (λ z. All (Open (suc n) z) (links z)) u.2 (subst (All (Open (suc n) e)) (sym (linked.ends w (votes_at R starts n))) one)

  -- After a round without votes all links are settled.
  pub all_settled : (n : ℕ) → votes_at R starts n ≡ 0 → (r : ℕ) (s : S) → slice_get (now (suc n)) r ≡ Some s → All (Settled R key value cells links o owner (now (suc n)) s) (links s)
  all_settled n none r t here =
      let u = was R (now n) r t here in
      let w : S = full R (now n) u.0 in
      let e : S = R.ended w (votes_at R starts n) in
      let all : All (Settled R key value cells links o owner (now (suc n)) e) (links u.0) = λ k d low.
      settled_next n r u.0 u.1 (open_at n r u.0 u.1) k d low (ap (λ cs. get_or cs (o.from (get_or (links u.0) k d)) 0) (quiet has votes starts calm n none r u.0 u.1)) in
      subst (λ z. All (Settled R key value cells links o owner (now (suc n)) z) (links z)) u.2
      (subst (All (Settled R key value cells links o owner (now (suc n)) e)) (sym (linked.ends w (votes_at R starts n) ∙ stay (now n) u.0)) all)
