-- What the tests of the drive begin with.
use Rattle.std.proofs.Common.{◌≡◌, ℕ, ◌+◌, ◌*◌, ◌-◌, ◌^◌, ◌<◌, ◌==◌, Bool, true, false, cond, List, [], ◌∷◌, ◌++◌, length, length-append, map, slice_get, Some, All, refl, sym, ap, subst, ◌∙◌, arith, inl, inr}
use Rattle.std.proofs.lemmas.Bool.{cases_lt}
use Rattle.list_laws.proofs.Lists.{within, get_once, get_last, get_before, all_from_gets}
use Rattle.std.proofs.lemmas.List.{length-map}
use Rattle.std.proofs.lemmas.List.Sums.{sum_by_push}
use Rattle.route_tensor.specs.Grid.{ranks}
use Rattle.round_program.specs.Canonical.{Member, InRound, HasRounds, EndsWithin, items_at}
use Rattle.round_examples.specs.Counts.{CountState, count_rules, to_owner}
use Rattle.rank_node.specs.declared.via.Via.{Via}
use Rattle.rank_node.specs.declared.via.Via.TheVariants.{Convey, Exstack}
use Rattle.rank_node.specs.Movers.{manner_of}
use Rattle.rank_node.specs.Movers.Manner.{ByConveyor, ByExstack}
use Rattle.rank_group.specs.Ranks.{IsOrder}
use Rattle.rank_group.specs.Transcript.{turns_of, turns_within}

abbrev pub turned_at : Bool → ℕ → ℕ → ℕ
turned_at reversed n k = cond reversed (n - 1 - k) k

-- an order, as far as it is built
pub record Ordered (reversed : Bool) (n i : ℕ) (order : List ℕ) : Type 0 where
  pub size : length order ≡ i
  pub at : (k : ℕ) → k < i → slice_get order k ≡ Some (turned_at reversed n k)

pub ordered_none : (reversed : Bool) (n : ℕ) → Ordered reversed n 0 []
ordered_none reversed n = record { size = refl; at = λ k low. absurd (omega (arith, low)) }

pub ordered_more : (reversed : Bool) (n i r : ℕ) (order order' : List ℕ) → Ordered reversed n i order → r ≡ turned_at reversed n i → order' ≡ order ++ r ∷ [] → Ordered reversed n (i + 1) order'
ordered_more reversed n i r order order' v here more =
    record {
      size = omega (arith, ap length more, length-append order (r ∷ []), v.size);
      at = λ k low. elim (cases_lt k i) [
        | inl before ↦ ap (λ o. slice_get o k) more ∙ (get_before order (r ∷ []) k (omega (arith, before, v.size)) ∙ v.at k before)
        | inr past ↦
            let same : k ≡ length order = omega (arith, low, past, v.size) in
            ap (λ o. slice_get o k) more ∙ (ap (slice_get (order ++ r ∷ [])) same ∙ (get_last order r ∙ ap Some (here ∙ ap (turned_at reversed n) (sym v.size ∙ sym same))))
      ];
    }

turned_low : (reversed : Bool) (n k : ℕ) → k < n → turned_at reversed n k < n
turned_low true n k low = omega (arith, low)
turned_low false n k low = low

turned_back : (reversed : Bool) (n k : ℕ) → k < n → turned_at reversed n (turned_at reversed n k) ≡ k
turned_back true n k low = omega (arith, low)
turned_back false n k low = refl

pub ordered_all : (reversed : Bool) (n i : ℕ) (order : List ℕ) → Ordered reversed n i order → i ≡ n → IsOrder n order
ordered_all reversed n i order v end =
    record {
      size = v.size ∙ end;
      below = all_from_gets (λ r. r < n) order (λ k x at.
          let low : k < n = omega (arith, within order k x at, v.size, end) in
          subst (λ y. y < n) (get_once order k (turned_at reversed n k) x (v.at k (omega (arith, low, end))) at) (turned_low reversed n k low));
      each = λ r low.
          let t = turned_low reversed n r low in
          (turned_at reversed n r, v.at (turned_at reversed n r) (omega (arith, t, end)) ∙ ap Some (turned_back reversed n r low));
    }

-- counting programs, as far as they are made
pub record Counted (p k i : ℕ) (progs : List CountState) : Type 0 where
  pub size : length progs ≡ i
  pub each : (r : ℕ) (s : CountState) → slice_get progs r ≡ Some s → Member count_rules p 0 (k ∷ []) 1 r s

pub counted_none : (p k : ℕ) → Counted p k 0 []
counted_none p k = record { size = refl; each = λ r s at. absurd (omega (arith, within [] r s at)) }

pub counted_more : (p k i : ℕ) (progs progs' : List CountState) (names counts : List ℕ) (s : CountState) → k < 2 ^ 32 → Counted p k i progs → i < p → All (λ j. j < k) names → length counts ≡ k
    → s ≡ record { rank = i; ranks = p; round = 0; names = names; counts = counts } → progs' ≡ progs ++ s ∷ [] → Counted p k (i + 1) progs'
counted_more p k i progs progs' names counts s small v low below size is more =
    let made : CountState = record { rank = i; ranks = p; round = 0; names = names; counts = counts } in
    let member : Member count_rules p 0 (k ∷ []) 1 i made = record {
      valid = record { own = low; columns = omega (arith, size, small); named = subst (λ n. All (λ j. j < n) names) (sym size) below };
      own_rank = refl;
      all_ranks = refl;
      same_round = refl;
      same_shape = ap (λ n. n ∷ []) size;
      same_most = refl;
    } in
    record {
      size = omega (arith, ap length more, length-append progs (s ∷ []), v.size);
      each = λ r x at. elim (cases_lt r i) [
        | inl before ↦ v.each r x (sym (get_before progs (s ∷ []) r (omega (arith, before, v.size))) ∙ (ap (λ o. slice_get o r) (sym more) ∙ at))
        | inr past ↦
            let here : r ≡ length progs = omega (arith, past, within progs' r x at, ap length more, length-append progs (s ∷ []), v.size) in
            let same : s ≡ x = get_once (progs ++ s ∷ []) (length progs) s x (get_last progs s) (ap (λ o. slice_get o (length progs)) (sym more) ∙ subst (λ j. slice_get progs' j ≡ Some x) here at) in
            subst (λ j. Member count_rules p 0 (k ∷ []) 1 j x) (sym (here ∙ v.size)) (subst (λ y. Member count_rules p 0 (k ∷ []) 1 i y) (sym is ∙ same) member)
      ];
    }

pub counted_all : (p k i : ℕ) (progs : List CountState) → Counted p k i progs → i ≡ p → InRound count_rules p 0 (k ∷ []) 1 progs
counted_all p k i progs v end = record { size = v.size ∙ end; each = v.each }

-- they count in one round
pub has_one_round : (progs : List CountState) → HasRounds count_rules progs 1
has_one_round progs = record { some = omega arith; goes = λ m low. absurd (omega (arith, low)); stops = refl }

pub one_round : (progs : List CountState) → EndsWithin count_rules progs 1
one_round progs = record { rounds = 1; has_rounds = has_one_round progs; at_most = omega arith }

-- one more program of four items
pub items_more : (i : ℕ) (progs progs' : List CountState) (s : CountState) → progs' ≡ progs ++ s ∷ [] → s.round ≡ 0 → length s.names ≡ 4 → items_at count_rules progs 0 ≡ 4 * i → items_at count_rules progs' 0 ≡ 4 * (i + 1)
items_more i progs progs' s more first four before =
    let sent : length (count_rules.emissions s) ≡ 4 = ap (λ (b : Bool). length (cond b (map (to_owner s.ranks) s.names) [])) (ap (λ k. k == 0) first) ∙ (length-map s.names (to_owner s.ranks) ∙ four) in
    ap (λ p. items_at count_rules p 0) more ∙ (sum_by_push (λ t. length (count_rules.emissions t)) progs s ∙ omega (arith, before, sent))

-- one rank with four items takes 26 turns at most over conveyors, and 36 over exstacks
pub few_by_conveyor : (via : Via) (steady : Bool) (dims : List ℕ) (progs : List CountState) → via ≡ Convey → dims ≡ 1 ∷ [] → items_at count_rules progs 0 ≡ 4 → turns_within count_rules (manner_of via steady) dims progs 1 ≡ 26
unfolding ranks
few_by_conveyor via steady dims progs by one four =
    let work : turns_of (ByConveyor steady) (1 ∷ []) (items_at count_rules progs 0) ≡ 19 = ap (turns_of (ByConveyor steady) (1 ∷ [])) four in
    let votes : turns_of (ByConveyor steady) (1 ∷ []) (ranks (1 ∷ []) * ranks (1 ∷ [])) ≡ 7 = refl in
    ap (λ v. turns_within count_rules (manner_of v steady) dims progs 1) by ∙ (ap (λ d. turns_within count_rules (ByConveyor steady) d progs 1) one ∙ omega (arith, work, votes))

pub few_by_exstack : (via : Via) (steady : Bool) (dims : List ℕ) (progs : List CountState) → via ≡ Exstack → dims ≡ 1 ∷ [] → items_at count_rules progs 0 ≡ 4 → turns_within count_rules (manner_of via steady) dims progs 1 ≡ 36
unfolding ranks
few_by_exstack via steady dims progs by one four =
    let work : turns_of ByExstack (1 ∷ []) (items_at count_rules progs 0) ≡ 24 = ap (turns_of ByExstack (1 ∷ [])) four in
    let votes : turns_of ByExstack (1 ∷ []) (ranks (1 ∷ []) * ranks (1 ∷ [])) ≡ 12 = refl in
    ap (λ v. turns_within count_rules (manner_of v steady) dims progs 1) by ∙ (ap (λ d. turns_within count_rules ByExstack d progs 1) one ∙ omega (arith, work, votes))

pub one_rank : (dims : List ℕ) → dims ≡ 1 ∷ [] → ranks dims ≡ 1
unfolding ranks
one_rank dims one = ap ranks one
