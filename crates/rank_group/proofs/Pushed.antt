-- How many items are pushed in each epoch of a run.
use Rattle.std.proofs.Common.{◌≡◌, ℕ, zero, suc, ◌+◌, ◌*◌, ◌<◌, ◌≤◌, Bool, cond, List, [], ◌∷◌, ◌++◌, length, length-append, take, drop, Option, Some, None, refl, sym, ap, subst, ◌∙◌, arith, inl, inr}
use Rattle.std.proofs.lemmas.Bool.{cases_lt, cases_order, lt-ltb}
use Rattle.bale_items.specs.declared.item.Item.{Item}
use Rattle.route_tensor.specs.Grid.{ranks, IsGrid}
use Rattle.port_bank.specs.Logs.{Logs, starting_at, ending_at}
use Rattle.port_bank.specs.Flow.{hop_link, flow}
use Rattle.port_bank.specs.Machine.{Part}
use Rattle.port_bank.proofs.Fronts.{begins_shorter}
use Rattle.hop_core.specs.State.{State}
use Rattle.convey.specs.Buffers.{buffers_of}
use Rattle.convey.specs.Parts.{part_of, pushed_to}
use Rattle.convey.proofs.OneRank.{starting-own, first_link}
use Rattle.round_program.specs.Rules.{Rules}
use Rattle.round_program.specs.Canonical.{items_of, emissions_to, items_at}
use Rattle.round_program.proofs.Items.{items_push}
use Rattle.rank_node.specs.declared.sends.Sends.{Sends}
use Rattle.rank_node.specs.declared.sends.Sends.TheVariants.{Emissions, Nothing, Votes}
use Rattle.rank_node.specs.Sending.{votes_to}
use Rattle.rank_node.specs.Runs.{HasTaken}
use Rattle.rank_node.proofs.Ballots.{votes_each}
use Rattle.rank_node.specs.Movers.{MoverState, mover_dims, mover_rank, manner_in, part_in}
use Rattle.rank_node.specs.Movers.MoverState.{Conveying, Stacking}
use Rattle.rank_node.specs.Movers.Manner.{ByConveyor}
use Rattle.rank_group.proofs.Counted.{flow_alike}

-- of the first so many items no more go to a rank
taken_few : (d n : ℕ) (es : List (ℕ × Item)) → length (items_of d (take n es)) ≤ length (items_of d es)
taken_few d n es =
    let e : items_of d es ≡ items_of d (take n es) ++ items_of d (drop n es) = ap (items_of d) (sym (take_drop n es)) ∙ items_push d (take n es) (drop n es) in
    omega (arith, ap length e, length-append (items_of d (take n es)) (items_of d (drop n es))) where
      take_drop : {X : Type 0} (n : ℕ) (xs : List X) → take n xs ++ drop n xs ≡ xs
      take_drop zero xs = refl
      take_drop (suc n) [] = refl
      take_drop (suc n) (x ∷ xs) = ap (λ ys. x ∷ ys) (take_drop n xs)

-- in an epoch of work a rank pushes at most what its program emits
pub work_few : {S : Type 0} (R : Rules S) (p rank : ℕ) (h : ℕ → S) (round : ℕ) (sends : Sends) (next : ℕ) (prog : S) (sum : ℕ) (spoiled : Bool) (part : Part) → HasTaken R p rank h round sends next prog sum spoiled part
    → (m d : ℕ) → d < p → 2 * m ≤ part.epoch → length (part.pushed (2 * m) d) ≤ length (items_of d (R.emissions (h m)))
work_few R p rank h round sends next prog sum spoiled part is m d to low =
    elim (cases_lt (2 * m) part.epoch) [
      | inl before ↦ begins_shorter (part.pushed (2 * m) d) (emissions_to R (h m) d) (is.passed.emitted_front m d to before)
      | inr here ↦
          let e : part.epoch ≡ 2 * m = omega (arith, here, low) in
          subst (λ k. length (part.pushed k d) ≤ length (items_of d (R.emissions (h m)))) e (now sends e is)
    ] where
      now : (s : Sends) → part.epoch ≡ 2 * m → HasTaken R p rank h round s next prog sum spoiled part → length (part.pushed part.epoch d) ≤ length (items_of d (R.emissions (h m)))
      now Emissions e t =
          let r : round ≡ m = omega (arith, e, t.passed.epoch) in
          let a : part.pushed part.epoch d ≡ items_of d (take next (R.emissions prog)) = t.within.pushed d to in
          let b : R.emissions prog ≡ R.emissions (h m) = t.within.emissions refl ∙ ap (λ k. R.emissions (h k)) r in
          omega (arith, ap length a, taken_few d next (R.emissions prog), ap (λ es. length (items_of d es)) b)
      now Nothing e t =
          let a : part.pushed part.epoch d ≡ items_of d (take next []) = t.within.pushed d to in
          omega (arith, ap length a, taken_few d next [])
      now (Votes v q) e t = absurd (omega (arith, e, t.passed.epoch))

-- and in one of votes at most one
pub votes_few : {S : Type 0} (R : Rules S) (p rank : ℕ) (h : ℕ → S) (round : ℕ) (sends : Sends) (next : ℕ) (prog : S) (sum : ℕ) (spoiled : Bool) (part : Part) → HasTaken R p rank h round sends next prog sum spoiled part
    → (m d : ℕ) → d < p → length (part.pushed (2 * m + 1) d) ≤ 1
votes_few R p rank h round sends next prog sum spoiled part is m d to =
    elim (cases_order (2 * m + 1) part.epoch) [
      | inl here ↦ subst (λ k. length (part.pushed k d) ≤ 1) (sym here) (now sends here is)
      | inr (inl before) ↦ is.passed.one_vote m d to before
      | inr (inr past) ↦ let e = (is.passed.ahead (2 * m + 1) d past).0 in omega (arith, ap length e)
    ] where
      now : (s : Sends) → 2 * m + 1 ≡ part.epoch → HasTaken R p rank h round s next prog sum spoiled part → length (part.pushed part.epoch d) ≤ 1
      now Emissions e t = absurd (omega (arith, e, t.passed.epoch))
      now Nothing e t = absurd (omega (arith, e, t.passed.epoch))
      now (Votes v q) e t =
          let a : part.pushed part.epoch d ≡ items_of d (take next (votes_to q v)) = t.within.pushed d to in
          let b = votes_each q v d (subst (λ k. d < k) (sym (t.within.vote v q refl).0) to) in
          omega (arith, ap length a, taken_few d next (votes_to q v), ap length b)

-- what is sent of a pair on hop 1 is at most what its sender pushed
pub flow_pushed : (dims : List ℕ) (c : State) (sent got : Logs) (s d e : ℕ) → IsGrid dims → c.dims ≡ dims → c.rank ≡ s → s < ranks dims → d < ranks dims
    → length (flow dims sent s d 1 e) ≤ length ((part_of (buffers_of c) (starting_at dims s sent) (ending_at dims s got)).pushed e d)
flow_pushed dims c sent got s d e g ds rs from to =
    let b = buffers_of c in
    let own : starting_at dims s sent (hop_link dims s d 1) ≡ sent (hop_link dims s d 1) = starting-own dims s sent (hop_link dims s d 1) (first_link dims s d g from to).sender in
    let low : d < ranks c.dims = subst (λ ns. d < ranks ns) (sym ds) to in
    let is : (part_of b (starting_at dims s sent) (ending_at dims s got)).pushed e d ≡ pushed_to b (starting_at dims s sent) e d =
    ap (λ t. cond t (pushed_to b (starting_at dims s sent) e d) []) (lt-ltb d (ranks c.dims) low) in
    let same : flow c.dims (starting_at dims s sent) c.rank d 1 e ≡ flow dims sent s d 1 e =
    ap (λ ns. flow ns (starting_at dims s sent) c.rank d 1 e) ds ∙ (ap (λ r. flow dims (starting_at dims s sent) r d 1 e) rs ∙ flow_alike dims (starting_at dims s sent) sent s d 1 e own) in
    let long : length (flow c.dims (starting_at dims s sent) c.rank d 1 e) ≤ length (pushed_to b (starting_at dims s sent) e d) = more (flow c.dims (starting_at dims s sent) c.rank d 1 e) _ in
    omega (arith, ap length is, ap length same, long) where
      more : {X : Type 0} (xs ys : List X) → length xs ≤ length (xs ++ ys)
      more xs ys = omega (arith, length-append xs ys)

-- the same of a mover
pub mover_pushed : (dims : List ℕ) (m : MoverState) (steady : Bool) (sent got : Logs) (s d e : ℕ) → IsGrid dims → manner_in m ≡ ByConveyor steady → mover_dims m ≡ dims → mover_rank m ≡ s → s < ranks dims → d < ranks dims
    → length (flow dims sent s d 1 e) ≤ length ((part_in m (starting_at dims s sent) (ending_at dims s got)).pushed e d)
mover_pushed dims (Stacking cap x) steady sent got s d e g k ds rs from to = absurd (cc)
mover_pushed dims (Conveying c) steady sent got s d e g k ds rs from to = flow_pushed dims c sent got s d e g ds rs from to

-- how many items the rounds before number n send, with their votes
abbrev pub items_before : {S : Type 0} → Rules S → ℕ → List S → ℕ → ℕ
items_before R p starts zero = 0
items_before R p starts (suc n) = items_before R p starts n + (items_at R starts n + p * p)

abbrev pub count_in : {S : Type 0} → Rules S → Option S → ℕ
count_in R None = 0
count_in R (Some s) = length (R.emissions s)
