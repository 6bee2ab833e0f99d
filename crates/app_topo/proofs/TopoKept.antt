-- What a rank of topo sends, from the pairs that it keeps for that.
use Rattle.std.proofs.Common.{ℕ, zero, suc, ◌+◌, ◌-◌, ◌*◌, ◌/◌, ◌%◌, ◌^◌, ◌<◌, ◌≡◌, ◌≢◌, ◌==◌, min, cond, List, [], ◌∷◌, ◌++◌, Some, map, length, get_or, slice_get, take, arith, refl, sym, ap, ◌∙◌}
use Rattle.std.specs.Prelude.{nat_lt}
use Rattle.std.specs.List.{filter, flat_map}
use Rattle.std.proofs.lemmas.Bool.{eq-eqb, ne_eqb, lt-ltb}
use Rattle.std.proofs.lemmas.List.{map-append, take_more}
use Rattle.std.proofs.lemmas.Option.{get_or_from_slice_get}
use Rattle.bale_items.specs.declared.Item.{Item}
use Rattle.bale_items.specs.declared.triple.Triple.{Triple}
use Rattle.list_laws.proofs.Lists.{within}
use Rattle.sparse_rows.specs.Owners.{Numbered}
use Rattle.app_topo.specs.declared.placed.Placed.{Placed}
use Rattle.app_topo.specs.Topos.{claims_of, falls_of, to_fall, own_rows, sent_after, placed_in}
use Rattle.app_topo.specs.TopoRuns.{first_sent}
use Rattle.app_topo.specs.code.TopoSent.{for_both, to_other, topo_sent}

-- ---- Round 0: two items for each entry

pub both_len : (ranks : ℕ) (kept : List Triple) → length (flat_map (for_both ranks) kept) ≡ 2 * length kept
both_len ranks [] = refl
both_len ranks (t ∷ ts) = (let rest : length (flat_map (for_both ranks) ts) ≡ 2 * length ts = both_len ranks ts in omega arith)

pub both_even : (ranks k i : ℕ) (kept : List Triple) (d : Triple) → k < length kept → i ≡ 2 * k
    → slice_get (flat_map (for_both ranks) kept) i ≡ Some ((get_or kept k d).i % ranks, record { a = (get_or kept k d).i; b = (get_or kept k d).j; c = 0 })
both_even ranks k i [] d l e = absurd (omega arith)
both_even ranks zero zero (t ∷ ts) d l e = refl
both_even ranks zero (suc i) (t ∷ ts) d l e = absurd (omega arith)
both_even ranks (suc k) zero (t ∷ ts) d l e = absurd (omega arith)
both_even ranks (suc k) (suc zero) (t ∷ ts) d l e = absurd (omega arith)
both_even ranks (suc k) (suc (suc i)) (t ∷ ts) d l e = both_even ranks k i ts d (omega arith) (omega arith)

pub both_odd : (ranks k i : ℕ) (kept : List Triple) (d : Triple) → k < length kept → i ≡ 2 * k + 1
    → slice_get (flat_map (for_both ranks) kept) i ≡ Some ((get_or kept k d).j % ranks, record { a = (get_or kept k d).j; b = (get_or kept k d).i; c = 1 })
both_odd ranks k i [] d l e = absurd (omega arith)
both_odd ranks zero zero (t ∷ ts) d l e = absurd (omega arith)
both_odd ranks zero (suc zero) (t ∷ ts) d l e = refl
both_odd ranks zero (suc (suc i)) (t ∷ ts) d l e = absurd (omega arith)
both_odd ranks (suc k) zero (t ∷ ts) d l e = absurd (omega arith)
both_odd ranks (suc k) (suc zero) (t ∷ ts) d l e = absurd (omega arith)
both_odd ranks (suc k) (suc (suc i)) (t ∷ ts) d l e = both_odd ranks k i ts d (omega arith) (omega arith)

-- a rank's entries are what it first sends
pub both_first : (ranks : ℕ) (part : List Numbered) → flat_map (for_both ranks) (map (λ (e : Numbered). e.1) part) ≡ flat_map (first_sent ranks) part
both_first ranks [] = refl
both_first ranks (e ∷ es) = ap (λ w. first_sent ranks e ++ w) (both_first ranks es)

-- one entry more
pub entry_more : (x : ℕ) (part : List Numbered) (e : Numbered) (old new : List Triple) → old ≡ map (λ (e : Numbered). e.1) (take x part) → slice_get part x ≡ Some e
    → new ≡ old ++ e.1 ∷ [] → new ≡ map (λ (e : Numbered). e.1) (take (x + 1) part)
entry_more x part e old new so_far here one =
    let longer : take (x + 1) part ≡ take x part ++ e ∷ [] = take_more part x e (within part x e here) ∙ ap (λ u. take x part ++ u ∷ []) (get_or_from_slice_get part x e e here) in
    one ∙ ap (λ w. w ++ e.1 ∷ []) so_far ∙ sym (map-append (λ (e : Numbered). e.1) (take x part) (e ∷ [])) ∙ ap (map (λ (e : Numbered). e.1)) (sym longer)

-- ---- What is kept, as what is sent

pub sent_first : (round ranks : ℕ) (kept : List Triple) → round ≡ 0 → topo_sent round ranks kept ≡ flat_map (for_both ranks) kept
sent_first round ranks kept z = ap (λ b. cond b (flat_map (for_both ranks) kept) (map (to_other ranks (3 - round % 2)) kept)) (eq-eqb round 0 z)

pub sent_later : (round ranks : ℕ) (kept : List Triple) → round ≢ 0 → topo_sent round ranks kept ≡ map (to_other ranks (3 - round % 2)) kept
sent_later round ranks kept n = ap (λ b. cond b (flat_map (for_both ranks) kept) (map (to_other ranks (3 - round % 2)) kept)) (ne_eqb round 0 n)

pub sent_claims : (round ranks : ℕ) (kept : List Triple) → round % 2 ≡ 1 → topo_sent round ranks kept ≡ map (to_other ranks 2) kept
sent_claims round ranks kept o = sent_later round ranks kept (λ z. absurd (omega arith)) ∙ ap (λ k. map (to_other ranks (3 - k)) kept) o

pub sent_falls : (round ranks : ℕ) (kept : List Triple) → round ≢ 0 → round % 2 ≡ 0 → topo_sent round ranks kept ≡ map (to_other ranks 3) kept
sent_falls round ranks kept n e = sent_later round ranks kept n ∙ ap (λ k. map (to_other ranks (3 - k)) kept) e

pub count_first : (round ranks n : ℕ) (kept : List Triple) → round ≡ 0 → n ≡ length kept → 2 * n ≡ length (topo_sent round ranks kept)
count_first round ranks n kept z e = ap (λ m. 2 * m) e ∙ sym (both_len ranks kept) ∙ ap length (sym (sent_first round ranks kept z))

-- ---- What is kept after a round, as what is sent next

falls_map : (ranks : ℕ) (columns came : List Triple) → map (to_other ranks 3) (flat_map (λ c. filter (λ u. u.i == c.i) columns) came) ≡ falls_of ranks columns came
falls_map ranks columns [] = refl
falls_map ranks columns (c ∷ cs) =
    map-append (to_other ranks 3) (filter (λ u. u.i == c.i) columns) (flat_map (λ c. filter (λ u. u.i == c.i) columns) cs)
    ∙ ap (λ w. map (to_fall ranks) (filter (λ u. u.i == c.i) columns) ++ w) (falls_map ranks columns cs)

odd_is : {X : Type 0} (round : ℕ) (a b c : X) → round % 2 ≡ 1 → cond (round == 0) a (cond (round % 2 == 1) b c) ≡ b
odd_is round a b c o = ap (λ t. cond t a (cond (round % 2 == 1) b c)) (ne_eqb round 0 (λ z. absurd (omega arith))) ∙ ap (λ t. cond t b c) (eq-eqb (round % 2) 1 o)

pub next_falls : (round rank ranks size : ℕ) (numbers sums : List ℕ) (columns came kept : List Triple) → round % 2 ≡ 1 → round < 2 ^ 64 - 1 → kept ≡ flat_map (λ c. filter (λ u. u.i == c.i) columns) came
    → topo_sent (min (round + 1) (2 ^ 64 - 1)) ranks kept ≡ sent_after round rank ranks size numbers sums columns came
next_falls round rank ranks size numbers sums columns came kept o low h =
    sent_falls (min (round + 1) (2 ^ 64 - 1)) ranks kept (omega arith) (omega arith) ∙ ap (map (to_other ranks 3)) h ∙ falls_map ranks columns came
    ∙ sym (ap (λ b. cond b (falls_of ranks columns came) []) (lt-ltb round (2 ^ 64 - 1) low))
    ∙ sym (odd_is round (claims_of ranks size numbers sums (own_rows ranks rank size)) (cond (nat_lt round (2 ^ 64 - 1)) (falls_of ranks columns came) []) (claims_of ranks size numbers sums (map (λ u. u.i) came)) o)

-- of what is kept after a round
pub sent_then : (round next ranks : ℕ) (kept old : List Triple) (sent : List (ℕ × Item)) → next ≡ round → kept ≡ old → topo_sent round ranks old ≡ sent → topo_sent next ranks kept ≡ sent
sent_then round next ranks kept old sent r k is = ap (topo_sent next ranks) k ∙ ap (λ n. topo_sent n ranks old) r ∙ is

-- the rows that claim, as they are kept and as they are sent
pub placed_is : (round ranks : ℕ) (kept : List Triple) → round % 2 ≡ 1 → map (placed_in round) (topo_sent round ranks kept) ≡ map (λ u. record { level = (round - 1) / 2; row = u.i; column = u.j }) kept
placed_is round ranks kept o = ap (map (placed_in round)) (sent_claims round ranks kept o) ∙ each kept
  where
    each : (kept : List Triple) → map (placed_in round) (map (to_other ranks 2) kept) ≡ map (λ u. record { level = (round - 1) / 2; row = u.i; column = u.j }) kept
    each [] = refl
    each (u ∷ us) = ap (λ (w : List Placed). record { level = (round - 1) / 2; row = u.i; column = u.j } ∷ w) (each us)
