-- The cycles of an exstack keep pace with what its rank has to send.
use Rattle.std.proofs.Common.{◌≡◌, ◌⊎◌, ℕ, suc, ◌+◌, ◌*◌, ◌<◌, ◌≤◌, ◌||◌, ◌&&◌, ◌==◌, Bool, true, false, cond, List, [], ◌∷◌, length, None, map, refl, sym, ap, subst, ◌∙◌, arith, inl, inr, get_or}
use Rattle.std.specs.List.{list_all}
use Rattle.std.proofs.lemmas.Bool.{cases_Bool, cases_lt, true≢false, false≢true}
use Rattle.std.proofs.lemmas.List.{length-map, append-nil}
use Rattle.list_laws.specs.Lists.{IsPrefix}
use Rattle.list_laws.proofs.Lists.{find}
use Rattle.port_bank.specs.Logs.{Logs, lasts, segment, lasts_in}
use Rattle.exstack.specs.declared.stage.Stage.{Stage}
use Rattle.exstack.specs.declared.stage.Stage.TheVariants.{Start, Proceeding, Filling, Exchanging, Full, AllDone}
use Rattle.exstack.specs.Links.{StackOut, StackIn, no_stack_out, no_stack_in, gone, begun_out, begun_in}
use Rattle.exstack.specs.State.{Stack, stack_out_at, stack_in_at, number, stack_link_to, stack_link_from, may_proceed, is_proceeding, is_exchanging, in_proceed, in_exchange, all_ended}
use Rattle.exstack.specs.Steps.{MadeRound, was_moved}
use Rattle.exstack.specs.Cycles.{proceed_parcel}
use Rattle.exstack.specs.Agreement.{LinkAgrees, AgreesIn, rounds_in, cycle_after}
use Rattle.exstack.specs.Standing.{IsStack, may_wait}
use Rattle.exstack.proofs.Beginning.{begun_outs}
use Rattle.round_program.specs.Rules.{Rules}
use Rattle.rank_node.specs.Sending.{to_send}
use Rattle.rank_node.specs.Runs.{Running}
use Rattle.rank_node.specs.Cycles.{exchanges_in, cycles_gone_on, WentOn, MarksLast, InCycle, InExchange}
use Rattle.exstack.specs.State.{has_proceeded, has_exchanged}
use Rattle.rank_node.specs.Movers.MoverState.{Stacking}
use Rattle.rank_node.specs.Pulls.{PopsItems}
use Rattle.rank_node.specs.Nodes.{IsNode}
use Rattle.rank_node.proofs.Ballots.{same_sends}
use Rattle.rank_node.proofs.Polled.{done_keeps, left_over}
use Rattle.rank_node.proofs.Marks.{open_going, parcel_stays, marks_posted}

-- the same rank's links are meant
pub marks_like : (quota : ℕ → ℕ) (x y : Stack) (sent : Logs) → y.ranks ≡ x.ranks → y.rank ≡ x.rank → MarksLast quota x sent → MarksLast quota y sent
marks_like quota x y sent ranks rank was = λ e b m p low at going.
    let l : stack_link_to y b ≡ stack_link_to x b = ap (λ n. number n y.rank b) ranks ∙ ap (λ r. number x.ranks r b) rank in
    was e b m p (omega (arith, low, ranks)) (sym (ap (λ j. proceed_parcel e m (sent j)) l) ∙ at) going

went_like : (e m : ℕ) (x y : Stack) (got got' : Logs) → y.ranks ≡ x.ranks → y.rank ≡ x.rank → ((l : ℕ) → IsPrefix (got l) (got' l)) → WentOn e m x got → WentOn e m y got'
went_like e m x y got got' ranks rank grows w =
    let l : stack_link_from y w.sender ≡ stack_link_from x w.sender = ap (λ n. number n w.sender y.rank) ranks ∙ ap (λ r. number x.ranks w.sender r) rank in
    record {
      sender = w.sender;
      low = omega (arith, w.low, ranks);
      parcel = w.parcel;
      came = ap (λ j. proceed_parcel e m (got' j)) l ∙ parcel_stays e m (got (stack_link_from x w.sender)) (got' (stack_link_from x w.sender)) w.parcel (grows (stack_link_from x w.sender)) w.came;
      going = w.going;
    }

-- the marks after a round
marks_made : (quota : ℕ → ℕ) (n : ℕ) (mid x' : Stack) (last exchange : Bool) (sent sent' got got' : Logs) → MadeRound last exchange mid x' sent sent' got got' → AgreesIn n x' sent' got'
    → x'.ranks ≡ mid.ranks → x'.rank ≡ mid.rank → x'.epoch ≡ mid.epoch
    → (last ≡ false → (m : ℕ) → 2 * m + 1 ≡ rounds_in n x'.stage → m < quota x'.epoch) → MarksLast quota mid sent → MarksLast quota x' sent'
marks_made quota n mid x' last exchange sent sent' got got' made agrees ranks rank epoch in_time was = λ e b m p low at going.
    let l : stack_link_to x' b ≡ stack_link_to mid b = ap (λ k. number k x'.rank b) ranks ∙ ap (λ r. number mid.ranks r b) rank in
    let low' : b < mid.ranks = omega (arith, low, ranks) in
    let o = stack_out_at mid b in
    let o' = stack_out_at x' b in
    let a : LinkAgrees mid.epoch (rounds_in n x'.stage) o'.closed o'.due (sent' (stack_link_to mid b)) =
    subst (λ d. LinkAgrees d (rounds_in n x'.stage) o'.closed o'.due (sent' (stack_link_to mid b))) epoch
    (subst (λ j. LinkAgrees x'.epoch (rounds_in n x'.stage) o'.closed o'.due (sent' j)) l (agrees.outs b low)) in
    marks_posted quota mid.epoch (rounds_in n x'.stage) last o o' (sent (stack_link_to mid b)) (sent' (stack_link_to mid b)) (made.posted b low') a
    (λ f k c. subst (λ d. k < quota d) epoch (in_time f k c)) (λ d k q old g. was d b k q low' old g) e m p (sym (ap (λ j. proceed_parcel e m (sent' j)) l) ∙ at) going

-- where not every link in has ended
record Open (ins : List StackIn) : Type 0 where
  pub sender : ℕ
  pub low : sender < length ins
  pub going : (get_or ins sender no_stack_in).ended ≡ false

one_open : (ins : List StackIn) → list_all (λ (i : StackIn). i.ended) ins ≡ false → Open ins
one_open [] h = absurd (true≢false h)
one_open (i ∷ is) h =
    elim (cases_Bool i.ended) [
      | inl t ↦
          let r = one_open is (sym (ap (λ b. b && list_all (λ (k : StackIn). k.ended) is) t) ∙ h) in record { sender = suc r.sender; low = omega (arith, r.low); going = r.going }
      | inr f ↦ record { sender = 0; low = omega arith; going = f }
    ]

filling_apart : (s : Stage) → s ≡ Filling → (is_proceeding s || is_exchanging s) ≡ true → ⊥
filling_apart s e h = absurd (cc)

-- the exchange went on in a cycle for a proceed parcel that came in it
goes_on : (cap n : ℕ) (x : Stack) (sent got : Logs) → IsStack cap x → AgreesIn n x sent got → x.stage ≡ Filling → all_ended x ≡ false → WentOn x.epoch n x got
goes_on cap n x sent got s a stage ended =
    let o = one_open x.ins ended in
    let low : o.sender < x.ranks = omega (arith, o.low, s.all_ins) in
    let i = stack_in_at x o.sender in
    let log = got (stack_link_from x o.sender) in
    let agrees = a.ins o.sender low in
    let due : i.due ≡ false = elim (cases_Bool i.due) [ inl d ↦ absurd (filling_apart x.stage stage ((s.each_in o.sender no_stack_in o.low).due_round d)) | inr d ↦ d ] in
    let open' : lasts log ≡ x.epoch = agrees.ended ∙ ap (lasts_in x.epoch) o.going in
    let rounds : rounds_in n x.stage ≡ 2 * n + 1 = ap (rounds_in n) stage in
    let count : length (segment x.epoch log) + cond i.due 1 0 ≡ rounds_in n x.stage = agrees.each_round o.going in
    let f = find (segment x.epoch log) (2 * n) (omega (arith, count, rounds, ap {B = ℕ} (λ d. cond d 1 0) due)) in
    record { sender = o.sender; low = low; parcel = f.0; came = f.1; going = open_going x.epoch log (2 * n) f.0 (sym open') f.1 }

-- counts by the stage
proceed_counts : (n : ℕ) (s : Stage) → may_proceed s ≡ true → (exchanges_in n s ≡ cycle_after n s) × (cycles_gone_on n s ≡ cycle_after n s)
proceed_counts n Start m = (refl, refl)
proceed_counts n Proceeding m = (refl, refl)
proceed_counts n Filling m = absurd (false≢true m)
proceed_counts n Exchanging m = absurd (false≢true m)
proceed_counts n Full m = (refl, refl)
proceed_counts n AllDone m = absurd (false≢true m)

proceeded_counts : (n : ℕ) (s : Stage) → has_proceeded s ≡ true → (exchanges_in n s ≡ n) × (rounds_in n s ≡ 2 * n + 1) × ((m : ℕ) → m < cycles_gone_on n s → (m < n) ⊎ ((m ≡ n) × (s ≡ Filling)))
proceeded_counts n Start h = absurd (false≢true h)
proceeded_counts n Proceeding h = (refl, refl, λ m low. inl low)
proceeded_counts n Filling h = (refl, refl, λ m low. elim (cases_lt m n) [ inl less ↦ inl less | inr more ↦ inr (omega (arith, low, more), refl) ])
proceeded_counts n Exchanging h = absurd (false≢true h)
proceeded_counts n Full h = absurd (false≢true h)
proceeded_counts n AllDone h = (refl, refl, λ m low. inl low)

exchanged_counts : (n : ℕ) (s : Stage) → has_exchanged s ≡ true → (exchanges_in n s ≡ n + 1) × (rounds_in n s ≡ 2 * n + 2) × (cycles_gone_on n s ≡ n + 1) × (s ≡ Filling → ⊥)
exchanged_counts n Start h = absurd (false≢true h)
exchanged_counts n Proceeding h = absurd (false≢true h)
exchanged_counts n Filling h = absurd (false≢true h)
exchanged_counts n Exchanging h = (refl, refl, refl, λ e. absurd (cc))
exchanged_counts n Full h = (refl, refl, refl, λ e. absurd (cc))
exchanged_counts n AllDone h = absurd (false≢true h)

proceed_waits : (s : Stage) (due : Bool) → may_proceed s ≡ true → may_wait s due ≡ false
proceed_waits Start due m = refl
proceed_waits Proceeding due m = refl
proceed_waits Filling due m = absurd (false≢true m)
proceed_waits Exchanging due m = absurd (false≢true m)
proceed_waits Full due m = refl
proceed_waits AllDone due m = absurd (false≢true m)

-- what the beginning of a round leaves as it was
record Stays (mid x : Stack) : Type 0 where
  pub ranks : mid.ranks ≡ x.ranks
  pub rank : mid.rank ≡ x.rank
  pub epoch : mid.epoch ≡ x.epoch
  pub waiting : (b : ℕ) → b < length x.outs → (stack_out_at mid b).waiting ≡ (stack_out_at x b).waiting

begun_waits : (outs : List StackOut) (b : ℕ) → b < length outs → (get_or (map begun_out outs) b no_stack_out).waiting ≡ (get_or outs b no_stack_out).waiting
begun_waits outs b low = ap (λ (o : StackOut). o.waiting) (begun_outs outs b no_stack_out (omega (arith, low, length-map outs begun_out)))

proceed_begins : (done : Bool) (x : Stack) → Stays (in_proceed done x) x
proceed_begins done x = by (is_proceeding x.stage) where
  by : (b : Bool) → Stays (cond b (record x { popped = None }) (record x { stage = Proceeding; done = done; outs = map begun_out x.outs; ins = map begun_in x.ins; popped = None })) x
  by true = record { ranks = refl; rank = refl; epoch = refl; waiting = λ b low. refl }
  by false = record { ranks = refl; rank = refl; epoch = refl; waiting = λ b low. begun_waits x.outs b low }

exchange_begins : (x : Stack) → Stays (in_exchange x) x
exchange_begins x = by (is_exchanging x.stage) where
  by : (b : Bool) → Stays (cond b (record x { popped = None }) (record x { stage = Exchanging; outs = map begun_out x.outs; ins = map begun_in x.ins; popped = None })) x
  by true = record { ranks = refl; rank = refl; epoch = refl; waiting = λ b low. refl }
  by false = record { ranks = refl; rank = refl; epoch = refl; waiting = λ b low. begun_waits x.outs b low }

-- what a rank's proceed poll leaves of its exstack x; x1 is the exstack as the poll begins
pub record Proceeds {S : Type 0} (R : Rules S) (cap : ℕ) (run run' : Running S) (x x1 x2 : Stack) (done : Bool) (sent got sent' got' : Logs) : Type 0 where
  pub standing : IsStack cap x
  pub standing' : IsStack cap x2
  pub may : may_proceed x.stage ≡ true
  pub popped : x1 ≡ record x { ins = x1.ins; popped = x1.popped }
  pub same : x2 ≡ record x1 { stage = x2.stage; done = done; outs = x2.outs; ins = x2.ins; popped = None }
  pub made : MadeRound done false (in_proceed done x1) x2 sent sent' got got'
  pub agrees : (n : ℕ) → AgreesIn n x sent got → AgreesIn (cycle_after n x.stage) x2 sent' got'
  pub next : run'.next ≡ run.next
  pub items : to_send R run'.prog run'.sends ≡ to_send R run.prog run.sends
  pub done_stays : x.done ≡ true → done ≡ true
  pub left : done ≡ false → run'.next < length (to_send R run'.prog run'.sends)
  pub proceeded : has_proceeded x2.stage ≡ true
  pub ended : x2.stage ≡ Filling → all_ended x2 ≡ false

module _ {S : Type 0} (R : Rules S) (cap : ℕ) (run run' : Running S) (x x1 x2 : Stack) (done : Bool) (sent got sent' got' : Logs) (p : Proceeds R cap run run' x x1 x2 done sent got sent' got')
    (quota : ℕ → ℕ) (n : ℕ) (i : InCycle R quota n run x sent got) where
  mid : Stack
  mid = in_proceed done x1

  begins : Stays (in_proceed done x1) x1
  begins = proceed_begins done x1

  outs : x1.outs ≡ x.outs
  outs = ap (λ (t : Stack). t.outs) p.popped

  ranks : x2.ranks ≡ x.ranks
  ranks = ap (λ (t : Stack). t.ranks) p.same ∙ ap (λ (t : Stack). t.ranks) p.popped

  rank : x2.rank ≡ x.rank
  rank = ap (λ (t : Stack). t.rank) p.same ∙ ap (λ (t : Stack). t.rank) p.popped

  epoch : x2.epoch ≡ x.epoch
  epoch = ap (λ (t : Stack). t.epoch) p.same ∙ ap (λ (t : Stack). t.epoch) p.popped

  m' : ℕ
  m' = cycle_after n x.stage

  agrees : AgreesIn (cycle_after n x.stage) x2 sent' got'
  agrees = p.agrees n i.agrees

  -- a rank that isn't done has pushed as many items as there were cycles
  begun : done ≡ false → cycle_after n x.stage ≤ run'.next
  begun d =
      let was : x.done ≡ false = elim (cases_Bool x.done) [ inl t ↦ absurd (true≢false (sym (p.done_stays t) ∙ d)) | inr f ↦ f ] in
      omega (arith, i.paced was, (proceed_counts n x.stage p.may).0, p.next)

  few : length (to_send R run'.prog run'.sends) ≤ quota x2.epoch
  few = omega (arith, i.few, ap length p.items, ap quota epoch)

  done_is : x2.done ≡ false → done ≡ false
  done_is f = sym (ap (λ (t : Stack). t.done) p.same) ∙ f

  -- no entry waits
  emptied : (b : ℕ) → b < x2.ranks → (stack_out_at x2 b).waiting ≡ []
  emptied b low =
      let low0 : b < x.ranks = omega (arith, low, ranks) in
      let low1 : b < x1.ranks = omega (arith, low0, ap (λ (t : Stack). t.ranks) p.popped) in
      let o = stack_out_at (in_proceed done x1) b in
      let o' = stack_out_at x2 b in
      let none : (stack_out_at x b).waiting ≡ [] = (p.standing.each_out b no_stack_out (omega (arith, low0, p.standing.all_outs))).sent_on (proceed_waits x.stage (stack_out_at x b).due p.may) in
      let old : o.waiting ≡ [] = begins.waiting b (omega (arith, low0, p.standing.all_outs, ap length outs)) ∙ (ap (λ os. (get_or os b no_stack_out).waiting) outs ∙ none) in
      let link : o' ≡ cond (was_moved o.due o'.due) (gone done) o = (p.made.posted b (omega (arith, low1, begins.ranks))).link in
      ap (λ (k : StackOut). k.waiting) link ∙ either (was_moved o.due o'.due) (gone done) o refl old where
        either : (b : Bool) (y z : StackOut) → y.waiting ≡ [] → z.waiting ≡ [] → (cond b y z).waiting ≡ []
        either true y z e f = e
        either false y z e f = f

  went_on : (m : ℕ) → m < cycles_gone_on (cycle_after n x.stage) x2.stage → WentOn x2.epoch m x2 got'
  went_on m low =
      elim ((proceeded_counts (cycle_after n x.stage) x2.stage p.proceeded).2 m low) [
        | inl less ↦
            let old = i.went_on m (omega (arith, less, (proceed_counts n x.stage p.may).1)) in
            subst (λ e. WentOn e m x2 got') (sym epoch) (went_like x.epoch m x x2 got got' ranks rank p.made.got_grows old)
        | inr now ↦ subst (λ k. WentOn x2.epoch k x2 got') (sym now.0) (goes_on cap (cycle_after n x.stage) x2 sent' got' p.standing' agrees now.1 (p.ended now.1))
      ]

  marks : MarksLast quota x2 sent'
  marks =
      let r1 = ap (λ (t : Stack). t.ranks) p.same ∙ sym begins.ranks in
      let r2 = ap (λ (t : Stack). t.rank) p.same ∙ sym begins.rank in
      let r3 = ap (λ (t : Stack). t.epoch) p.same ∙ sym begins.epoch in
      marks_made quota (cycle_after n x.stage) (in_proceed done x1) x2 done false sent sent' got got' p.made agrees r1 r2 r3
      (λ d m c. omega (arith, c, (proceeded_counts (cycle_after n x.stage) x2.stage p.proceeded).1, begun d, p.left d, few))
      (marks_like quota x (in_proceed done x1) sent (begins.ranks ∙ ap (λ (t : Stack). t.ranks) p.popped) (begins.rank ∙ ap (λ (t : Stack). t.rank) p.popped) i.marks)

  pub proceeds_keep : InCycle R quota (cycle_after n x.stage) run' x2 sent' got'
  proceeds_keep =
      record {
        agrees = agrees;
        few = few;
        paced = λ f. omega (arith, begun (done_is f), (proceeded_counts (cycle_after n x.stage) x2.stage p.proceeded).0);
        left = λ s f. p.left (done_is f);
        emptied = λ s b low. emptied b low;
        went_on = went_on;
        marks = marks;
      }

-- what a rank's exchange poll leaves of its exstack
pub record Exchanges (x x2 : Stack) (sent got sent' got' : Logs) : Type 0 where
  pub same : x2 ≡ record x { stage = x2.stage; outs = x2.outs; ins = x2.ins; popped = None }
  pub made : MadeRound false true (in_exchange x) x2 sent sent' got got'
  pub agrees : (n : ℕ) → AgreesIn n x sent got → AgreesIn n x2 sent' got'
  pub exchanged : has_exchanged x2.stage ≡ true

pub exchanges_keep : {S : Type 0} (R : Rules S) (run : Running S) (x x2 : Stack) (sent got sent' got' : Logs) → Exchanges x x2 sent got sent' got'
    → (quota : ℕ → ℕ) (n : ℕ) → InExchange R quota n run x sent got → InCycle R quota n run x2 sent' got'
exchanges_keep R run x x2 sent got sent' got' p quota n i =
    let counts = exchanged_counts n x2.stage p.exchanged in
    let begins = exchange_begins x in
    let ranks : x2.ranks ≡ x.ranks = ap (λ (t : Stack). t.ranks) p.same in
    let rank : x2.rank ≡ x.rank = ap (λ (t : Stack). t.rank) p.same in
    let epoch : x2.epoch ≡ x.epoch = ap (λ (t : Stack). t.epoch) p.same in
    record {
      agrees = p.agrees n i.agrees;
      few = omega (arith, i.few, ap quota epoch);
      paced = λ f. omega (arith, i.paced (sym (ap (λ (t : Stack). t.done) p.same) ∙ f), counts.0);
      left = λ s f. absurd (counts.3 s);
      emptied = λ s b low. absurd (counts.3 s);
      went_on = λ m low. subst (λ e. WentOn e m x2 got') (sym epoch) (went_like x.epoch m x x2 got got' ranks rank p.made.got_grows (i.went_on m (omega (arith, low, counts.2))));
      marks = marks_made quota n (in_exchange x) x2 false true sent sent' got got' p.made (p.agrees n i.agrees) (ranks ∙ sym begins.ranks) (rank ∙ sym begins.rank) (epoch ∙ sym begins.epoch)
          (λ f m c. absurd (omega (arith, c, counts.1))) (marks_like quota x (in_exchange x) sent begins.ranks begins.rank i.marks);
    }

-- a round that goes on
pub still_exchanging : {S : Type 0} (R : Rules S) (run : Running S) (x : Stack) (sent got : Logs) (quota : ℕ → ℕ) (n : ℕ) → x.stage ≡ Exchanging → InCycle R quota n run x sent got → InExchange R quota n run x sent got
still_exchanging R run x sent got quota n s i =
    let e : exchanges_in n x.stage ≡ n + 1 = ap (exchanges_in n) s in
    let g : cycles_gone_on n x.stage ≡ n + 1 = ap (cycles_gone_on n) s in
    record { agrees = i.agrees; few = i.few; paced = λ f. omega (arith, i.paced f, e); went_on = λ m low. i.went_on m (omega (arith, low, g)); marks = i.marks }

-- buffers that are filled
pub filled_keep : {S : Type 0} (R : Rules S) (run : Running S) (x x' : Stack) (next : ℕ) (sent got : Logs) (quota : ℕ → ℕ) (n : ℕ) → x.stage ≡ Filling → x' ≡ record x { outs = x'.outs; popped = x'.popped }
    → AgreesIn n x' sent got → (x.done ≡ false → run.next < next) → InCycle R quota n run x sent got → InExchange R quota n (record run { next = next }) x' sent got
filled_keep R run x x' next sent got quota n s same agrees pushed i =
    let ranks : x'.ranks ≡ x.ranks = ap (λ (t : Stack). t.ranks) same in
    let rank : x'.rank ≡ x.rank = ap (λ (t : Stack). t.rank) same in
    let epoch : x'.epoch ≡ x.epoch = ap (λ (t : Stack). t.epoch) same in
    let g : cycles_gone_on n x.stage ≡ n + 1 = ap (cycles_gone_on n) s in
    let e : exchanges_in n x.stage ≡ n = ap (exchanges_in n) s in
    record {
      agrees = agrees;
      few = omega (arith, i.few, ap quota epoch);
      paced = λ f. let was : x.done ≡ false = sym (ap (λ (t : Stack). t.done) same) ∙ f in omega (arith, i.paced was, e, pushed was);
      went_on = λ m low. subst (λ d. WentOn d m x' got) (sym epoch) (went_like x.epoch m x x' got got ranks rank (λ l. record { rest = []; is = sym (append-nil (got l)) }) (i.went_on m (omega (arith, low, g))));
      marks = marks_like quota x x' sent ranks rank i.marks;
    }

-- a proceed poll after pops, which says that the rank is done where all is pushed
module _ {S : Type 0} (R : Rules S) (h : ℕ → S) (run : Running S) (cap : ℕ) (x x1 x2 : Stack) (prog : S) (sum : ℕ) (spoiled voting done : Bool) (sent got sent' got' : Logs)
    (pops : PopsItems R voting x x1 run.prog prog run.sum sum run.spoiled spoiled) (all : done ≡ (run.next == length (to_send R prog run.sends))) (is : IsNode R h (record { run = run; mover = Stacking cap x }) sent got) where
  pub proceeds_of : IsStack cap x2 → may_proceed x.stage ≡ true → x2 ≡ record x1 { stage = x2.stage; done = done; outs = x2.outs; ins = x2.ins; popped = None }
      → MadeRound done false (in_proceed done x1) x2 sent sent' got got' → ((n : ℕ) → AgreesIn n x1 sent got → AgreesIn (cycle_after n x1.stage) x2 sent' got')
      → has_proceeded x2.stage ≡ true → (x2.stage ≡ Filling → all_ended x2 ≡ false)
      → Proceeds R cap run (record { prog = prog; round = run.round; sends = run.sends; next = run.next; sum = sum; spoiled = spoiled }) x x1 x2 done sent got sent' got'
  proceeds_of standing' may same made agrees proceeded ended =
      let items : to_send R prog run.sends ≡ to_send R run.prog run.sends = same_sends R prog run.prog run.sends pops.emissions in
      record {
        standing = is.moving.stack;
        standing' = standing';
        may = may;
        popped = pops.same;
        same = same;
        made = made;
        agrees = λ n a. subst (λ s. AgreesIn (cycle_after n s) x2 sent' got') (ap (λ (t : Stack). t.stage) pops.same) (agrees n (pops.kept n sent got a));
        next = refl;
        items = items;
        done_stays = λ d. done_keeps R h run cap x x1 prog sum spoiled voting done sent got pops all is (ap (λ (t : Stack). t.done) pops.same ∙ d);
        left = λ f. left_over run.next (length (to_send R prog run.sends)) done all (omega (arith, is.within.next_low, ap length items)) f;
        proceeded = proceeded;
        ended = ended;
      }
