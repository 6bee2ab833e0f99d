-- The ranks of a drive on threads, once their seats are gathered and the bank is closed.
use Rattle.std.proofs.Common.{◌≡◌, ℕ, ◌+◌, ◌*◌, ◌<◌, ◌||◌, Bool, cond, true, false, List, length, map, get_or, slice_get, Option, Some, None, IsSome, All, refl, sym, ap, subst, ◌∙◌, arith}
use Rattle.std.proofs.lemmas.Bool.{true≢false}
use Rattle.std.proofs.lemmas.List.{length-map}
use Rattle.list_laws.specs.Lists.{EachAt}
use Rattle.list_laws.proofs.Lists.{find, within, get_once, get_map, got_map, all_get, all_from_gets, each_get, each_from_gets}
use Rattle.route_tensor.specs.Grid.{ranks}
use Rattle.route_tensor.proofs.Coordinates.{ranks_some}
use Rattle.port_bank.specs.Logs.{Logs, starting_at, ending_at}
use Rattle.port_bank.specs.Round.{Round, IsRound, logs_of}
use Rattle.link_slots.specs.ClosedBank.{slot_round, AllThere}
use Rattle.link_slots.specs.Gathering.{Gathering}
use Rattle.link_slots.specs.SeatView.{BankIdentity, SeatView, posted_on, collected_from}
use Rattle.round_program.specs.Rules.{Rules}
use Rattle.round_program.specs.Laws.{Laws}
use Rattle.round_program.specs.Canonical.{InRound, HasRounds}
use Rattle.rank_node.specs.Movers.{Manner, epoch_in}
use Rattle.rank_group.specs.Closes.{ClosesLaws}
use Rattle.rank_group.specs.Ranks.{RankState, IsRank, HasRank, AllRanks}
use Rattle.rank_group.specs.Drives.{progs_of, AreFresh}
use Rattle.rank_crews.specs.Runs.{AllRan}
use Rattle.rank_group.proofs.Worlds.{over_at_last}
use Rattle.rank_group.specs.Seats.{SeatedState, bank_of, IsRankAtSeat, TookTurns, IsSeated, AreSeated}

some_is : {X : Type 0} {o : Option X} {x : X} → o ≡ Some x → IsSome o
some_is e = subst IsSome (sym e) refl

none_some : {X : Type 0} {x : X} → None ≡ Some x → ⊥
none_some e = absurd (cc)

-- of two that are not both false the first is true, where the other isn't
first_true : (a b : Bool) → (a || b) ≡ true → b ≡ false → a ≡ true
first_true true b e n = refl
first_true false b e n = absurd (true≢false (sym e ∙ n))

module _ {S : Type 0} (R : Rules S) (cap : ℕ) (b : BankIdentity) (manner : Manner) (starts : List S) (shape : List ℕ) (most : ℕ) (start : InRound R (ranks b.shape.dims) 0 shape most starts)
    (fs : List (RankState S)) (fresh : AreFresh R b.shape.dims cap manner starts fs) (xs ys : List (SeatedState S)) (firsts : map (λ x. x.rank) xs ≡ fs) (seated : AreSeated R cap manner b xs) (notified : ℕ → ℕ → Bool) (ran : AllRan (λ x y. TookTurns R cap notified x y) xs ys) where
  abbrev dims : List ℕ
  dims = b.shape.dims

  as_many : length ys ≡ ranks dims
  as_many = ran.all ∙ (sym (length-map xs (λ (x : SeatedState S). x.rank)) ∙ (ap length firsts ∙ (sym (length-map fs (λ (n : RankState S). n.node.run.prog)) ∙ (ap length fresh.programs ∙ start.size))))

  -- a rank, and how its run went
  record Came (r : ℕ) (y : SeatedState S) : Type 0 where
    x : SeatedState S
    at : slice_get xs r ≡ Some x
    h : ℕ → S
    begins : h 0 ≡ x.rank.node.run.prog
    way : IsRankAtSeat R cap manner h y
    bank : bank_of y ≡ b
    number : y.seat.rank ≡ r
    heard : (m : ℕ) → m < y.turns → notified r m ≡ true

  came : (r : ℕ) (y : SeatedState S) → slice_get ys r ≡ Some y → Came r y
  came r y at =
      let x : (x : SeatedState S) × (slice_get xs r ≡ Some x) = find xs r (let a = ran.all in omega (arith, within ys r y at, a)) in
      let s : IsSeated R cap manner b r x.0 = seated r x.0 x.1 in
      let t : TookTurns R cap notified x.0 y = ran.each r x.0 y x.1 at in
      let k = t.kept manner (λ m. x.0.rank.node.run.prog) s.way in
      record {
        x = x.0;
        at = x.1;
        h = k.0;
        begins = k.1;
        way = k.2;
        bank = t.bank ∙ s.bank;
        number = t.number ∙ s.number;
        heard = λ m low. subst (λ k. notified k m ≡ true) s.number (t.heard m (let z = s.none in omega (arith, z)) low);
      }

  -- where each sat
  pub sat_at : All (λ y. bank_of y ≡ b) ys
  sat_at = all_from_gets (λ (y : SeatedState S). bank_of y ≡ b) ys (λ r y at. (came r y at).bank)

  pub numbered_at : EachAt (λ r y. y.seat.rank ≡ r) ys
  numbered_at = each_from_gets (λ r (y : SeatedState S). y.seat.rank ≡ r) ys (λ r y at. (came r y at).number)

  -- the lists of each were gathered
  pub all_there : (g : Gathering) → EachAt (λ r y. get_or g.lists r None ≡ Some y.seat.lists) ys → AllThere b.shape g.lists
  all_there g there r low =
      let y : (y : SeatedState S) × (slice_get ys r ≡ Some y) = find ys r (omega (arith, low, as_many)) in
      some_is (each_get (λ k (z : SeatedState S). get_or g.lists k None ≡ Some z.seat.lists) ys r y.0 there y.1)

  module _ (over : All (λ y. (y.rank.over || y.lost) ≡ true) ys) (kept : All (λ y. y.lost ≡ false) ys) (g : Gathering) (there : EachAt (λ r y. get_or g.lists r None ≡ Some y.seat.lists) ys)
      (in_order : IsRound (slot_round b.shape cap g.lists))
      (sent : (s : SeatView) → get_or g.lists s.rank None ≡ Some s.lists → starting_at dims s.rank (logs_of (slot_round b.shape cap g.lists).sent) ≡ posted_on s)
      (got : (s : SeatView) → get_or g.lists s.rank None ≡ Some s.lists → ending_at dims s.rank (logs_of (slot_round b.shape cap g.lists).got) ≡ collected_from s) where
    abbrev round : Round
    round = slot_round b.shape cap g.lists

    abbrev rs : List (RankState S)
    rs = map (λ y. y.rank) ys

    -- one program, for numbers past the last rank
    any : (s : S) × (slice_get starts 0 ≡ Some s)
    any = find starts 0 (let positive = ranks_some dims in_order.grid.positive in omega (arith, start.size, positive))

    pick : (r : ℕ) (o : Option (SeatedState S)) → slice_get ys r ≡ o → ℕ → S
    pick r None e = λ m. any.0
    pick r (Some y) e = (came r y e).h

    pub history : ℕ → ℕ → S
    history r = pick r (slice_get ys r) refl

    history_by : (r : ℕ) (P : (ℕ → S) → Type 0) → r < ranks dims → ((y : SeatedState S) (e : slice_get ys r ≡ Some y) → P (came r y e).h) → P (history r)
    unfolding pick history
    history_by r P low f = by (slice_get ys r) refl where
      by : (o : Option (SeatedState S)) (e : slice_get ys r ≡ o) → P (pick r o e)
      by None e = let y : (y : SeatedState S) × (slice_get ys r ≡ Some y) = find ys r (omega (arith, low, as_many)) in absurd (none_some (sym e ∙ y.1))
      by (Some y) e = f y e

    has_rank : (r : ℕ) (y : SeatedState S) (e : slice_get ys r ≡ Some y) → HasRank R dims cap manner r (came r y e).h y.rank (logs_of round.sent) (logs_of round.got)
    has_rank r y e =
        let c : Came r y = came r y e in
        let h : ℕ → S = c.h in
        let w : IsRank R y.seat.shape.dims cap manner y.seat.rank h y.rank (posted_on y.seat) (collected_from y.seat) = c.way.runs (all_get (λ (z : SeatedState S). z.lost ≡ false) ys r y kept e) in
        let ed : y.seat.shape.dims ≡ dims = ap (λ (a : BankIdentity). a.shape.dims) c.bank in
        let here : get_or g.lists y.seat.rank None ≡ Some y.seat.lists = subst (λ k. get_or g.lists k None ≡ Some y.seat.lists) (sym c.number) (each_get (λ k (z : SeatedState S). get_or g.lists k None ≡ Some z.seat.lists) ys r y there e) in
        subst (λ k. HasRank R dims cap manner k h y.rank (logs_of round.sent) (logs_of round.got)) c.number
        (subst (λ (a : Logs). IsRank R dims cap manner y.seat.rank h y.rank a (ending_at dims y.seat.rank (logs_of round.got))) (sym (sent y.seat here))
        (subst (λ (a : Logs). IsRank R dims cap manner y.seat.rank h y.rank (posted_on y.seat) a) (sym (got y.seat here))
        (subst (λ ds. IsRank R ds cap manner y.seat.rank h y.rank (posted_on y.seat) (collected_from y.seat)) ed w)))

    -- they are the ranks of a run over the closed round's logs
    pub all_ranked : AllRanks R dims cap b.shape.slots manner starts history rs (logs_of round.sent) (logs_of round.got)
    all_ranked =
        record {
          grid = in_order.grid;
          links_keep = in_order.each_link;
          all = length-map ys (λ (y : SeatedState S). y.rank) ∙ as_many;
          each = λ r n at.
              let y = got_map (λ (z : SeatedState S). z.rank) ys r n at in
              history_by r (λ h. HasRank R dims cap manner r h n (logs_of round.sent) (logs_of round.got)) (let a = as_many in omega (arith, within ys r y.0 y.1, a))
              (λ z e.
              let same : z ≡ y.0 = get_once ys r z y.0 e y.1 in
              subst (λ m. HasRank R dims cap manner r (came r z e).h m (logs_of round.sent) (logs_of round.got)) (ap (λ (k : SeatedState S). k.rank) same ∙ y.2) (has_rank r z e));
          begins = λ r s at.
              history_by r (λ h. h 0 ≡ s) (omega (arith, within starts r s at, start.size))
              (λ y e.
              let c : Came r y = came r y e in
              let prog : slice_get starts r ≡ Some c.x.rank.node.run.prog =
              ap (λ ps. slice_get ps r) (sym fresh.programs) ∙ (ap (λ ns. slice_get (progs_of ns) r) (sym firsts) ∙ get_map (λ (n : RankState S). n.node.run.prog) (map (λ x. x.rank) xs) r c.x.rank (get_map (λ (x : SeatedState S). x.rank) xs r c.x c.at)) in
              c.begins ∙ get_once starts r c.x.rank.node.run.prog s prog at);
        }

    pub all_over : (r : ℕ) (n : RankState S) → slice_get rs r ≡ Some n → n.over ≡ true
    all_over r n at =
        let y = got_map (λ (z : SeatedState S). z.rank) ys r n at in
        let o = all_get (λ (z : SeatedState S). (z.rank.over || z.lost) ≡ true) ys r y.0 over y.1 in
        let k = all_get (λ (z : SeatedState S). z.lost ≡ false) ys r y.0 kept y.1 in
        sym (ap (λ (m : RankState S). m.over) y.2) ∙ first_true y.0.rank.over y.0.lost o k

    -- the gate was notified of as many turns of each as the run has epochs
    pub all_told : Laws R → ClosesLaws → (n : ℕ) → HasRounds R starts n → (r m : ℕ) → r < ranks dims → m < 2 * n → notified r m ≡ true
    all_told laws law n rounds r m low below =
        let y : (y : SeatedState S) × (slice_get ys r ≡ Some y) = find ys r (omega (arith, low, as_many)) in
        let at : slice_get rs r ≡ Some y.0.rank = get_map (λ (z : SeatedState S). z.rank) ys r y.0 y.1 in
        let c : Came r y.0 = came r y.0 y.1 in
        let on : y.0.rank.over ≡ true = all_over r y.0.rank at in
        let last = (over_at_last R laws law dims cap b.shape.slots manner starts history rs (logs_of round.sent) (logs_of round.got) all_ranked shape most n start rounds r y.0.rank at on).0 in
        let few = c.way.few (all_get (λ (z : SeatedState S). z.lost ≡ false) ys r y.0 kept y.1) in
        let done = ap (λ a. cond a (epoch_in y.0.rank.node.mover + 1) (epoch_in y.0.rank.node.mover)) on in
        c.heard m (omega (arith, below, last, few, done))
