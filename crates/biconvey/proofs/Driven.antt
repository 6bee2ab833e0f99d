-- All sweeps of an exchange.
use Rattle.std.proofs.Common.{◌≡◌, ℕ, zero, suc, ◌+◌, ◌-◌, ◌*◌, ◌<◌, ◌≤◌, ◌&&◌, Bool, true, false, cond, List, [], ◌∷◌, length, Some, slice_get, refl, sym, ap, ◌∙◌, arith, inl, inr}
use Rattle.std.specs.List.{list_all}
use Rattle.std.proofs.lemmas.Bool.{cases_lt, and_parts}
use Rattle.std.proofs.Math.Nat.{mul-le-mul_left}
use Rattle.list_laws.proofs.Lists.{within, get_once}
use Rattle.route_tensor.specs.Grid.{ranks}
use Rattle.route_tensor.specs.Link.{links}
use Rattle.port_bank.specs.Plain.{Bank}
use Rattle.hop_core.specs.declared.phase.Phase.TheVariants.{Complete}
use Rattle.convey.specs.Buffers.{is_complete}
use Rattle.convey.specs.Law.{ClosesLaw}
use Rattle.convey.specs.Rest.{RestLaw}
use Rattle.round_program.specs.Talks.{Talk, TalkLaws}
use Rattle.rank_group.specs.Ranks.{IsOrder}
use Rattle.query_node.specs.States.{BiState, Sides}
use Rattle.query_node.specs.Ranks.{AllComplete}
use Rattle.biconvey.specs.RanksOverBanks.{AreBanks, is_over, IsBlockedBiRank, BiRanksOnBanks, all_moves, AfterSomeBiTurns, queries_in, bi_turns_of, sides_of}
use Rattle.biconvey.proofs.Counting.{size, nth, at, counted, all_few, turns_low}
use Rattle.biconvey.proofs.Ending.{all_complete}
use Rattle.query_node.proofs.Turned.{is_complete_from}

-- all are over where each is
all_from : {S : Type 0} (ns : List (BiState S)) → ((r : ℕ) (n : BiState S) → slice_get ns r ≡ Some n → is_over n ≡ true) → list_all is_over ns ≡ true
all_from [] each = refl
all_from (n ∷ ns) each = ap (λ b. b && list_all is_over ns) (each 0 n refl) ∙ all_from ns (λ r m at. each (suc r) m at)

pub each_over : {S : Type 0} (ns : List (BiState S)) → list_all is_over ns ≡ true → (r : ℕ) (n : BiState S) → slice_get ns r ≡ Some n → is_over n ≡ true
each_over [] e r x at = absurd (omega (arith, within [] r x at))
each_over (y ∷ ys) e zero x at = ap is_over (sym (get_once (y ∷ ys) 0 y x refl at)) ∙ (and_parts (is_over y) (list_all is_over ys) e).0
each_over (y ∷ ys) e (suc r) x at = each_over ys (and_parts (is_over y) (list_all is_over ys) e).1 r x at

pub over_phases : {S : Type 0} (n : BiState S) → is_over n ≡ true → (n.queries.phase ≡ Complete) × (n.replies.phase ≡ Complete)
over_phases n e = let p = and_parts (is_complete n.queries.phase) (is_complete n.replies.phase) e in (is_complete_from n.queries.phase p.0, is_complete_from n.replies.phase p.1)

abbrev pub one_if : Bool → ℕ
one_if b = cond b 1 0

-- what moved, and one more where both ways of all ranks are complete
abbrev pub progress : {S : Type 0} → List ℕ → List (BiState S) → Sides → ℕ
progress dims ns s = all_moves dims ns s + one_if (list_all is_over ns)

one_or : (b : Bool) → one_if b ≤ 1
one_or true = omega arith
one_or false = omega arith

-- at most so many sweeps
abbrev pub sweeps_of : List ℕ → ℕ → ℕ
sweeps_of dims queries = 6 * (length dims * queries) + links dims * 4 + 1

module _ {S : Type 0} (T : Talk S) (laws : TalkLaws T) (law : ClosesLaw) (dims : List ℕ) (cap slots : ℕ) (steady : Bool) (starts : ℕ → S) where
  pub low : (ns0 ns : List (BiState S)) (s0 s : Sides) → BiRanksOnBanks T dims cap slots steady starts ns0 s0 → BiRanksOnBanks T dims cap slots steady starts ns s → progress dims ns s ≤ sweeps_of dims (queries_in T ns0)
  low ns0 ns s0 s w0 w =
      let a = all_few T laws law dims cap slots steady starts ns s w in
      let b = counted T laws law dims cap slots steady starts ns0 s0 w0 in
      let c = ap (λ k. 6 * (length dims * k)) b in
      let d = one_or (list_all is_over ns) in
      omega (arith, a, c, d)

  module _ (rest : RestLaw) (order : List ℕ) (is : IsOrder (ranks dims) order) (ns ns' : List (BiState S)) (s s' : Sides) (on : list_all is_over ns ≡ false) (v : AfterSomeBiTurns T dims cap slots steady starts order (length order) ns s ns' s') where
    -- a sweep moves something, or ends both ways
    pub more : progress dims ns s + 1 ≤ progress dims ns' s'
    more =
        let none : one_if (list_all is_over ns) ≡ 0 = ap one_if on in
        let g = v.grown in
        elim (cases_lt (all_moves dims ns s) (all_moves dims ns' s')) [
          | inl moved ↦ omega (arith, moved, none)
          | inr still ↦
              let light : all_moves dims ns' s' ≤ all_moves dims ns s = omega (arith, still) in
              let one : one_if (list_all is_over ns') ≡ 1 = ap one_if (all_from ns' (ended light)) in
              omega (arith, none, one, g)
        ] where
          rested : all_moves dims ns' s' ≤ all_moves dims ns s → (r : ℕ) → r < ranks dims → IsBlockedBiRank T dims slots r (nth T laws law dims cap slots steady starts ns' s' v.on_bank r) s'
          rested light r b =
              let place = is.each r b in
              v.rests light place.0 r (within order place.0 r place.1) place.1 (nth T laws law dims cap slots steady starts ns' s' v.on_bank r) (at T laws law dims cap slots steady starts ns' s' v.on_bank r b)

          over : all_moves dims ns' s' ≤ all_moves dims ns s → AllComplete dims (nth T laws law dims cap slots steady starts ns' s' v.on_bank)
          over light =
              all_complete T rest dims cap slots v.on_bank.some (nth T laws law dims cap slots steady starts ns' s' v.on_bank) s' v.on_bank.queries.lawful.grid v.on_bank.queries.lawful.links_keep v.on_bank.replies.lawful.links_keep
              (λ r b. (v.on_bank.each r (nth T laws law dims cap slots steady starts ns' s' v.on_bank r) (at T laws law dims cap slots steady starts ns' s' v.on_bank r b)).same_dims)
              (λ r b. (v.on_bank.each r (nth T laws law dims cap slots steady starts ns' s' v.on_bank r) (at T laws law dims cap slots steady starts ns' s' v.on_bank r b)).same_rank) (rested light)

          ended : all_moves dims ns' s' ≤ all_moves dims ns s → (r : ℕ) (n : BiState S) → slice_get ns' r ≡ Some n → is_over n ≡ true
          ended light r n from =
              let b : r < ranks dims = let l = size T laws law dims cap slots steady starts ns' s' v.on_bank in omega (arith, within ns' r n from, l) in
              let e : nth T laws law dims cap slots steady starts ns' s' v.on_bank r ≡ n = get_once ns' r (nth T laws law dims cap slots steady starts ns' s' v.on_bank r) n (at T laws law dims cap slots steady starts ns' s' v.on_bank r b) from in
              let o = over light in
              ap is_over (sym e) ∙ (ap (λ p. is_complete p && is_complete (nth T laws law dims cap slots steady starts ns' s' v.on_bank r).replies.phase) (o.queries r b) ∙ ap is_complete (o.replies r b))

-- the loop over all sweeps
pub record Reached {S : Type 0} (T : Talk S) (dims : List ℕ) (cap slots : ℕ) (steady : Bool) (starts : ℕ → S) (steps0 : ℕ) (ns : List (BiState S)) (s : Sides) (steps : ℕ) : Type 0 where
  pub on_bank : BiRanksOnBanks T dims cap slots steady starts ns s
  pub count : steps ≤ steps0 + ranks dims * progress dims ns s

pub record Driving {S : Type 0} (T : Talk S) (cap : ℕ) (dims : List ℕ) (slots : ℕ) (ns0 : List (BiState S)) (s0 : Sides) (steps0 : ℕ) (ns : List (BiState S)) (q r : Bank) (steps : ℕ) : Type 0 where
  pub banks : AreBanks cap dims slots q r
  pub reached : (steady : Bool) (starts : ℕ → S) → BiRanksOnBanks T dims cap slots steady starts ns0 s0 → Reached T dims cap slots steady starts steps0 ns (sides_of q r) steps

-- how many sweeps are left
abbrev pub left : {S : Type 0} → Talk S → List ℕ → List (BiState S) → List (BiState S) → Bank → Bank → ℕ
left T dims ns0 ns q r = sweeps_of dims (queries_in T ns0) - progress dims ns (sides_of q r)

module _ {S : Type 0} (T : Talk S) (laws : TalkLaws T) (law : ClosesLaw) (rest : RestLaw) (cap : ℕ) (dims : List ℕ) (slots : ℕ) (ns0 : List (BiState S)) (s0 : Sides) (steps0 : ℕ) (ns : List (BiState S)) (q r : Bank) (steps : ℕ)
    (v : Driving T cap dims slots ns0 s0 steps0 ns q r steps) where
  -- so the turns are bounded
  pub steps_low : (steady : Bool) (starts : ℕ → S) → BiRanksOnBanks T dims cap slots steady starts ns0 s0 → steps ≤ steps0 + bi_turns_of dims (queries_in T ns0)
  steps_low steady starts w0 =
      let x = v.reached steady starts w0 in
      let a = mul-le-mul_left (ranks dims) (low T laws law dims cap slots steady starts ns0 ns s0 (sides_of q r) w0 x.on_bank) in
      let b = turns_low (ranks dims) (length dims) (links dims) (queries_in T ns0) in
      omega (arith, x.count, a, b)

  module _ (order : List ℕ) (is : IsOrder (ranks dims) order) (on : list_all is_over ns ≡ false) (steps' : ℕ) (turned : steps' ≤ steps + length order) where
    -- also where a sweep is broken off
    pub steps_lower : (steady : Bool) (starts : ℕ → S) → BiRanksOnBanks T dims cap slots steady starts ns0 s0 → steps' ≤ steps0 + bi_turns_of dims (queries_in T ns0)
    steps_lower steady starts w0 =
        let x = v.reached steady starts w0 in
        let few = all_few T laws law dims cap slots steady starts ns (sides_of q r) x.on_bank in
        let b = counted T laws law dims cap slots steady starts ns0 s0 w0 in
        let none : one_if (list_all is_over ns) ≡ 0 = ap one_if on in
        let c = ap (λ k. 6 * (length dims * k)) b in
        let fit : progress dims ns (sides_of q r) + 1 ≤ sweeps_of dims (queries_in T ns0) = omega (arith, few, c, none) in
        let a = mul-le-mul_left (ranks dims) fit in
        let d = turns_low (ranks dims) (length dims) (links dims) (queries_in T ns0) in
        let e = is.size in
        omega (arith, x.count, turned, a, d, e)

    module _ (ns' : List (BiState S)) (q' r' : Bank) (banks : AreBanks cap dims slots q' r')
        (swept : (steady : Bool) (starts : ℕ → S) → BiRanksOnBanks T dims cap slots steady starts ns (sides_of q r) → AfterSomeBiTurns T dims cap slots steady starts order (length order) ns (sides_of q r) ns' (sides_of q' r')) where
      pub driving_more : Driving T cap dims slots ns0 s0 steps0 ns' q' r' steps'
      driving_more = record {
        banks = banks;
        reached = λ steady starts w0.
            let x = v.reached steady starts w0 in
            let y = swept steady starts x.on_bank in
            let m = mul-le-mul_left (ranks dims) (more T laws law dims cap slots steady starts rest order is ns ns' (sides_of q r) (sides_of q' r') on y) in
            let e = is.size in
            record { on_bank = y.on_bank; count = omega (arith, x.count, turned, m, e) };
      }

      pub fewer_left : (steady : Bool) (starts : ℕ → S) → BiRanksOnBanks T dims cap slots steady starts ns0 s0 → left T dims ns0 ns' q' r' < left T dims ns0 ns q r
      fewer_left steady starts w0 =
          let x = v.reached steady starts w0 in
          let y = swept steady starts x.on_bank in
          let m = more T laws law dims cap slots steady starts rest order is ns ns' (sides_of q r) (sides_of q' r') on y in
          let l = low T laws law dims cap slots steady starts ns0 ns' s0 (sides_of q' r') w0 y.on_bank in
          omega (arith, m, l)

pub driving_none : {S : Type 0} (T : Talk S) (cap : ℕ) (dims : List ℕ) (slots : ℕ) (ns0 : List (BiState S)) (steps0 : ℕ) (q r : Bank) → AreBanks cap dims slots q r → Driving T cap dims slots ns0 (sides_of q r) steps0 ns0 q r steps0
driving_none T cap dims slots ns0 steps0 q r b = record { banks = b; reached = λ steady starts w. record { on_bank = w; count = omega arith } }
