-- Links at their two ends, and why ranks that have finished as many rounds don't keep each other.
use Rattle.std.proofs.Common.{◌≡◌, ◌⊎◌, ℕ, zero, suc, ◌+◌, ◌<◌, ◌≤◌, ◌||◌, Bool, true, false, cond, List, [], ◌∷◌, ◌++◌, length, refl, ap, subst, ◌∙◌, arith, inl, inr}
use Rattle.std.proofs.lemmas.Bool.{cases_Bool, false≢true, eq-eqb}
use Rattle.std.proofs.lemmas.List.{length-append}
use Rattle.item_buffer.specs.Contents.{Shipped}
use Rattle.list_laws.specs.Lists.{IsPrefix}
use Rattle.route_tensor.specs.Ends.{sender_at, reader_at}
use Rattle.port_bank.specs.Logs.{Logs, lasts, segment, starting_at, ending_at, lasts_in}
use Rattle.port_bank.proofs.Segments.{lasts-append, lasts_first, lasts_begins}
use Rattle.exstack.specs.declared.stage.Stage.{Stage}
use Rattle.exstack.specs.declared.stage.Stage.TheVariants.{Start, Proceeding, Filling, Exchanging, Full, AllDone}
use Rattle.exstack.specs.Links.{no_stack_out, no_stack_in}
use Rattle.exstack.specs.State.{Stack, stack_out_at, stack_in_at, number, stack_link_to, stack_link_from, is_proceeding, is_exchanging}
use Rattle.exstack.specs.Agreement.{LinkAgrees, rounds_in}
use Rattle.exstack.specs.Standing.{IsStackOut, IsStackIn}
use Rattle.exstack.specs.Lockstep.{finished_in, HasFinishedRounds, IsPosted, HasPostedRounds, InStep}
use Rattle.exstack.proofs.OneHop.{number_within, number_sender, number_reader}

-- a log in which an epoch is open, with more of it behind
open_rest : (rest : List Shipped) → lasts rest ≡ 0 → length (segment 0 rest) ≡ length rest
open_rest [] none = refl
open_rest (p ∷ ps) none = elim (cases_Bool p.last) [
  | inl t ↦ absurd (omega (arith, none, lasts_first p ps true t))
  | inr f ↦ ap (λ b. length (p ∷ cond b [] (segment 0 ps))) f ∙ ap suc (open_rest ps (omega (arith, none, lasts_first p ps false f)))
]

pub more_open : (log rest : List Shipped) (e : ℕ) → lasts log ≡ e → lasts rest ≡ 0 → length (segment e (log ++ rest)) ≡ length (segment e log) + length rest
more_open [] rest zero is none = omega (arith, open_rest rest none)
more_open [] rest (suc e) is none = absurd (omega (arith, is))
more_open (p ∷ ps) rest zero is none = elim (cases_Bool p.last) [
  | inl t ↦ absurd (omega (arith, is, lasts_first p ps true t))
  | inr f ↦
      let a = ap (λ b. length (p ∷ cond b [] (segment 0 (ps ++ rest)))) f in
      let b = ap (λ b. length (p ∷ cond b [] (segment 0 ps))) f in
      let rec = more_open ps rest 0 (omega (arith, is, lasts_first p ps false f)) none in
      omega (arith, a, b, rec)
]
more_open (p ∷ ps) rest (suc e) is none = elim (cases_Bool p.last) [
  | inl t ↦
      let a = ap (λ b. length (cond b (segment e (ps ++ rest)) (segment (suc e) (ps ++ rest)))) t in
      let b = ap (λ b. length (cond b (segment e ps) (segment (suc e) ps))) t in
      let rec = more_open ps rest e (omega (arith, is, lasts_first p ps true t)) none in
      omega (arith, a, b, rec)
  | inr f ↦
      let a = ap (λ b. length (cond b (segment e (ps ++ rest)) (segment (suc e) (ps ++ rest)))) f in
      let b = ap (λ b. length (cond b (segment e ps) (segment (suc e) ps))) f in
      let rec = more_open ps rest (suc e) (omega (arith, is, lasts_first p ps false f)) none in
      omega (arith, a, b, rec)
]

-- two logs of a link in one open epoch differ by as much as their segments
apart_by : (got sent : List Shipped) (e : ℕ) → IsPrefix got sent → lasts got ≡ e → lasts sent ≡ e → length (segment e sent) + length got ≡ length (segment e got) + length sent
apart_by got sent e b lg ls =
    let none : lasts b.rest ≡ 0 = omega (arith, lg, ls, ap lasts b.is, lasts-append got b.rest) in
    let seg = ap (λ xs. length (segment e xs)) b.is ∙ more_open got b.rest e lg none in
    let all = ap length b.is ∙ length-append got b.rest in
    omega (arith, seg, all)

-- how many rounds are begun, by those that are finished
pub begun_more : (n : ℕ) (s : Stage) → (is_proceeding s || is_exchanging s) ≡ true → rounds_in n s ≡ finished_in n s + 1
begun_more n Start h = absurd (false≢true h)
begun_more n Proceeding h = omega arith
begun_more n Filling h = absurd (false≢true h)
begun_more n Exchanging h = omega arith
begun_more n Full h = absurd (false≢true h)
begun_more n AllDone h = absurd (false≢true h)

pub finished_low : (n : ℕ) (s : Stage) → finished_in n s ≤ rounds_in n s
finished_low n Start = omega arith
finished_low n Proceeding = omega arith
finished_low n Filling = omega arith
finished_low n Exchanging = omega arith
finished_low n Full = omega arith
finished_low n AllDone = omega arith

-- of a link that isn't through with its epoch
open_count : (e rounds : ℕ) (through due : Bool) (log : List Shipped) → LinkAgrees e rounds through due log → through ≡ false → (lasts log ≡ e) × (length (segment e log) + cond due 1 0 ≡ rounds)
open_count e rounds through due log a o = (a.ended ∙ ap (lasts_in e) o, a.each_round o)

through_count : (e rounds : ℕ) (through due : Bool) (log : List Shipped) → LinkAgrees e rounds through due log → (e ≤ lasts log) × (through ≡ true → lasts log ≡ e + 1)
through_count e rounds through due log a = (by through a.ended, λ t. a.ended ∙ ap (lasts_in e) t) where
  by : (b : Bool) → lasts log ≡ lasts_in e b → e ≤ lasts log
  by true is = omega (arith, is)
  by false is = omega (arith, is)

starting-own : (dims : List ℕ) (r : ℕ) (logs : Logs) (l : ℕ) → sender_at dims l ≡ r → starting_at dims r logs l ≡ logs l
starting-own dims r logs l e = ap (λ c. cond c (logs l) []) (eq-eqb (sender_at dims l) r e)

ending-own : (dims : List ℕ) (r : ℕ) (logs : Logs) (l : ℕ) → reader_at dims l ≡ r → ending_at dims r logs l ≡ logs l
ending-own dims r logs l e = ap (λ c. cond c (logs l) []) (eq-eqb (reader_at dims l) r e)

-- a link's own logs at its two ends
module _ (ranks cap slots : ℕ) (n : ℕ → ℕ) (all : ℕ → Stack) (sent got : Logs) (t : InStep ranks cap slots n all sent got) (a b : ℕ) (la : a < ranks) (lb : b < ranks) where
  abbrev l : ℕ
  l = number ranks a b

  pub begins : IsPrefix (got l) (sent l)
  begins = (t.links_keep l (number_within ranks a b la lb t.few)).begins

  pub to_is : stack_link_to (all a) b ≡ l
  to_is = ap (λ p. number p (all a).rank b) (t.same_ranks a la) ∙ ap (λ r. number ranks r b) (t.same_rank a la)

  pub from_is : stack_link_from (all b) a ≡ l
  from_is = ap (λ p. number p a (all b).rank) (t.same_ranks b lb) ∙ ap (λ r. number ranks a r) (t.same_rank b lb)

  pub sent_own : starting_at (ranks ∷ []) a sent l ≡ sent l
  sent_own = starting-own (ranks ∷ []) a sent l (number_sender ranks a b la lb t.few)

  pub got_own : ending_at (ranks ∷ []) b got l ≡ got l
  got_own = ending-own (ranks ∷ []) b got l (number_reader ranks a b la lb t.few)

  -- at the sender
  pub out_end : LinkAgrees (all a).epoch (rounds_in (n a) (all a).stage) (stack_out_at (all a) b).closed (stack_out_at (all a) b).due (sent l)
  out_end =
      subst (LinkAgrees (all a).epoch (rounds_in (n a) (all a).stage) (stack_out_at (all a) b).closed (stack_out_at (all a) b).due) (ap (starting_at (ranks ∷ []) a sent) to_is ∙ sent_own)
      ((t.agree a la).outs b (omega (arith, lb, t.same_ranks a la)))

  pub out_is : IsStackOut cap (all a).stage (all a).done (stack_out_at (all a) b)
  out_is = let s = t.standing a la in s.each_out b no_stack_out (omega (arith, lb, s.all_outs, t.same_ranks a la))

  -- at the reader
  pub in_end : LinkAgrees (all b).epoch (rounds_in (n b) (all b).stage) (stack_in_at (all b) a).ended (stack_in_at (all b) a).due (got l)
  in_end =
      subst (LinkAgrees (all b).epoch (rounds_in (n b) (all b).stage) (stack_in_at (all b) a).ended (stack_in_at (all b) a).due) (ap (ending_at (ranks ∷ []) b got) from_is ∙ got_own)
      ((t.agree b lb).ins a (omega (arith, la, t.same_ranks b lb)))

  pub in_is : IsStackIn (all b).stage (stack_in_at (all b) a)
  in_is = let s = t.standing b lb in s.each_in a no_stack_in (omega (arith, la, s.all_ins, t.same_ranks b lb))

  out_keeps : (stack_out_at (all a) b).due ≡ true → ((stack_out_at (all a) b).closed ≡ false) × ((is_proceeding (all a).stage || is_exchanging (all a).stage) ≡ true)
  out_keeps due = (out_is.due_open due, out_is.due_round due)

  in_keeps : (stack_in_at (all b) a).due ≡ true → ((stack_in_at (all b) a).ended ≡ false) × ((is_proceeding (all b).stage || is_exchanging (all b).stage) ≡ true)
  in_keeps due = (in_is.due_open due, in_is.due_round due)

  -- there is room where the reader has finished as much
  pub room : HasFinishedRounds (all a).epoch (finished_in (n a) (all a).stage) (n b) (all b) → (stack_out_at (all a) b).due ≡ true → length (got l) ≡ length (sent l)
  room past due =
      let k = out_keeps due in
      let out = open_count _ _ _ _ (sent l) out_end k.0 in
      let m : rounds_in (n a) (all a).stage ≡ finished_in (n a) (all a).stage + 1 = begun_more (n a) (all a).stage k.1 in
      let seg : length (segment (all a).epoch (sent l)) ≡ finished_in (n a) (all a).stage = omega (arith, out.1, m, ap {B = ℕ} (λ d. cond d 1 0) due) in
      let fewer = lasts_begins (got l) (sent l) begins in
      let reads = through_count _ _ _ _ (got l) in_end in
      elim past [
        | inl later ↦ absurd (omega (arith, later, reads.0, fewer, out.0))
        | inr same ↦ elim (cases_Bool (stack_in_at (all b) a).ended) [
          | inl ended ↦ absurd (omega (arith, reads.1 ended, same.0, fewer, out.0))
          | inr open' ↦
              let in' = open_count _ _ _ _ (got l) in_end open' in
              let got_lasts : lasts (got l) ≡ (all a).epoch = in'.0 ∙ same.0 in
              let count : length (segment (all a).epoch (got l)) + cond (stack_in_at (all b) a).due 1 0 ≡ rounds_in (n b) (all b).stage = subst (λ e. length (segment e (got l)) + cond (stack_in_at (all b) a).due 1 0 ≡ rounds_in (n b) (all b).stage) same.0 in'.1 in
              let enough : finished_in (n a) (all a).stage ≤ length (segment (all a).epoch (got l)) = far (stack_in_at (all b) a).due refl count same.1 in
              let d = apart_by (got l) (sent l) (all a).epoch begins got_lasts out.0 in
              let short = ap length begins.is ∙ length-append (got l) begins.rest in
              omega (arith, d, seg, enough, short)
        ]
      ] where
        far : (d : Bool) → (stack_in_at (all b) a).due ≡ d → length (segment (all a).epoch (got l)) + cond d 1 0 ≡ rounds_in (n b) (all b).stage → finished_in (n a) (all a).stage ≤ finished_in (n b) (all b).stage
            → finished_in (n a) (all a).stage ≤ length (segment (all a).epoch (got l))
        far true is count low =
            let k = in_keeps is in
            omega (arith, count, low, begun_more (n b) (all b).stage k.1)
        far false is count low = omega (arith, count, low, finished_low (n b) (all b).stage)

  -- and something to collect where the sender has posted
  pub arrival : HasPostedRounds (all b).epoch (finished_in (n b) (all b).stage) (n a) (all a) → (stack_in_at (all b) a).due ≡ true → length (got l) < length (sent l)
  arrival posted due =
      let k = in_keeps due in
      let in' = open_count _ _ _ _ (got l) in_end k.0 in
      let m : rounds_in (n b) (all b).stage ≡ finished_in (n b) (all b).stage + 1 = begun_more (n b) (all b).stage k.1 in
      let seg : length (segment (all b).epoch (got l)) ≡ finished_in (n b) (all b).stage = omega (arith, in'.1, m, ap {B = ℕ} (λ d. cond d 1 0) due) in
      let sends = through_count _ _ _ _ (sent l) out_end in
      elim posted [
        | inl later ↦ longer (omega (arith, later, sends.0, in'.0))
        | inr same ↦ elim (cases_Bool (stack_out_at (all a) b).closed) [
          | inl closed ↦ longer (omega (arith, sends.1 closed, same.0, in'.0))
          | inr open' ↦
              let out = open_count _ _ _ _ (sent l) out_end open' in
              let sent_lasts : lasts (sent l) ≡ (all b).epoch = out.0 ∙ same.0 in
              let count : length (segment (all b).epoch (sent l)) + cond (stack_out_at (all a) b).due 1 0 ≡ rounds_in (n a) (all a).stage = subst (λ e. length (segment e (sent l)) + cond (stack_out_at (all a) b).due 1 0 ≡ rounds_in (n a) (all a).stage) same.0 out.1 in
              let more : finished_in (n b) (all b).stage < length (segment (all b).epoch (sent l)) = ahead count same.1 in
              let d = apart_by (got l) (sent l) (all b).epoch begins in'.0 sent_lasts in
              omega (arith, d, seg, more)
        ]
      ] where
        longer : lasts (got l) < lasts (sent l) → length (got l) < length (sent l)
        longer less =
            let more = ap lasts begins.is ∙ lasts-append (got l) begins.rest in
            let long = ap length begins.is ∙ length-append (got l) begins.rest in
            some begins.rest (omega (arith, less, more)) long where
              some : (rest : List Shipped) → 0 < lasts rest → length (sent l) ≡ length (got l) + length rest → length (got l) < length (sent l)
              some [] h e = absurd (omega (arith, h))
              some (x ∷ xs) h e = omega (arith, e)

        ahead : length (segment (all b).epoch (sent l)) + cond (stack_out_at (all a) b).due 1 0 ≡ rounds_in (n a) (all a).stage → (finished_in (n b) (all b).stage < finished_in (n a) (all a).stage) ⊎ IsPosted (finished_in (n b) (all b).stage) (n a) (all a)
            → finished_in (n b) (all b).stage < length (segment (all b).epoch (sent l))
        ahead count (inl far) = by (stack_out_at (all a) b).due refl count where
          by : (d : Bool) → (stack_out_at (all a) b).due ≡ d → length (segment (all b).epoch (sent l)) + cond d 1 0 ≡ rounds_in (n a) (all a).stage → finished_in (n b) (all b).stage < length (segment (all b).epoch (sent l))
          by true is c = let k = out_keeps is in omega (arith, c, far, begun_more (n a) (all a).stage k.1)
          by false is c = omega (arith, c, far, finished_low (n a) (all a).stage)
        ahead count (inr p) =
            let none = p.none_due b (omega (arith, lb, t.same_ranks a la)) in
            omega (arith, count, ap {B = ℕ} (λ d. cond d 1 0) none, begun_more (n a) (all a).stage p.begun, p.round)
