-- The ranks of a drive get their seats, and leave them.
use Rattle.std.proofs.Common.{◌≡◌, ◌≢◌, ℕ, ◌+◌, ◌<◌, ◌≤◌, true, false, List, [], ◌∷◌, ◌++◌, length, length-append, map, get_or, slice_get, slice_set, Some, None, All, cond, refl, sym, ap, subst, ◌∙◌, arith, inl, inr}
use Rattle.std.proofs.lemmas.Bool.{cases_lt}
use Rattle.std.proofs.lemmas.List.{length-map, map-append, get_or-set_other}
use Rattle.std.proofs.lemmas.List.Elements.{All-push}
use Rattle.item_buffer.specs.Contents.{Contents}
use Rattle.list_laws.specs.Lists.{EachAt}
use Rattle.list_laws.proofs.Lists.{within, get_once, get_last, get_before, all_get, each_get, each_push}
use Rattle.route_tensor.specs.Grid.{ranks}
use Rattle.route_tensor.specs.Link.{links}
use Rattle.port_bank.specs.Logs.{Logs}
use Rattle.link_slots.specs.Gathering.{Gathering}
use Rattle.link_slots.specs.SeatView.{BankIdentity, SeatView, posted_on, collected_from}
use Rattle.link_slots.specs.Shape.{shipped_all}
use Rattle.link_slots.specs.View.{no_logs}
use Rattle.link_slots.proofs.Opening.{no_sent, no_got}
use Rattle.round_program.specs.Rules.{Rules}
use Rattle.rank_group.specs.Ranks.{RankState, IsRank}
use Rattle.rank_node.specs.Movers.{Manner, epoch_in}
use Rattle.rank_group.proofs.Movers.{shape_none}
use Rattle.rank_group.specs.Drives.{IsFreshRank, AreFresh}
use Rattle.rank_group.specs.Seats.{SeatedState, IsSeated, bank_of}
use Rattle.rank_crews.proofs.Joining.{one_less, next_is}

-- some ranks have their seats
pub record Seating {S : Type 0} (R : Rules S) (cap : ℕ) (b : BankIdentity) (gather : Gathering) (number : ℕ) (all taken rest : List (RankState S)) (xs : List (SeatedState S)) : Type 0 where
  pub left : taken ++ rest ≡ all
  pub bank : (gather.id ≡ b.id) × (gather.shape ≡ b.shape)
  pub count : number ≡ length taken
  pub none : (r : ℕ) → length taken ≤ r → r < ranks b.shape.dims → get_or gather.given r true ≡ false
  pub ranks_are : map (λ x. x.rank) xs ≡ taken
  pub each : (manner : Manner) (starts : List S) → AreFresh R b.shape.dims cap manner starts all → (r : ℕ) (x : SeatedState S) → slice_get xs r ≡ Some x → IsSeated R cap manner b r x

module _ {S : Type 0} (R : Rules S) (cap : ℕ) (b : BankIdentity) (gather : Gathering) (number : ℕ) (all taken rest now : List (RankState S)) (xs : List (SeatedState S)) (s : Seating R cap b gather number all taken now xs) where
  -- there is room for one more
  pub seat_left : (rank : RankState S) → now ≡ rank ∷ rest → (room : ℕ) → length all ≤ room → length xs < room
  seat_left rank is room below = omega (arith, below, ap length s.left, ap length is, length-append taken now, length-map xs (λ (y : SeatedState S). y.rank), ap length s.ranks_are)

  -- one more gets its seat
  module _ (gather' : Gathering) (rank : RankState S) (seat : SeatView) (is : now ≡ rank ∷ rest) (lists : _) (gave : gather' ≡ record gather { lists = lists; given = slice_set gather.given number true })
      (noted ended : List ℕ) (seat_is : seat ≡ record { id = b.id; shape = b.shape; rank = number; lists = no_logs (links b.shape.dims); noted = noted; ended = ended }) where
    abbrev x : SeatedState S
    x = record { rank = rank; seat = seat; turns = 0; lost = false }

    none_sent : ◌≡◌ {A = Logs} (posted_on seat) (λ l. [])
    none_sent = ap posted_on seat_is ∙ ap shipped_all (no_sent Contents (links b.shape.dims))

    none_got : ◌≡◌ {A = Logs} (collected_from seat) (λ l. [])
    none_got = ap collected_from seat_is ∙ ap shipped_all (no_got Contents (links b.shape.dims))

    size : length xs ≡ length taken
    size = sym (length-map xs (λ (y : SeatedState S). y.rank)) ∙ ap length s.ranks_are

    pub seated : (manner : Manner) (starts : List S) → AreFresh R b.shape.dims cap manner starts all → IsSeated R cap manner b (length taken) x
    seated manner starts fresh =
        let f : IsFreshRank R b.shape.dims cap manner (length taken) rank = fresh.each (length taken) rank (next_is taken rest all now rank s.left is) in
        let h : ℕ → S = λ m. rank.node.run.prog in
        let own : IsRank R b.shape.dims cap manner (length taken) h rank (λ l. []) (λ l. []) = record {
          same_dims = f.new.mover.same_dims;
          same_rank = f.new.mover.same_rank ∙ f.own_rank;
          same_manner = f.new.mover.same_manner;
          same_cap = f.new.same_cap;
          runs = λ on. f.new.node;
          stopped = λ over. absurd (cc);
          shape = λ l below own. shape_none manner cap;
        } in
        record {
          bank = ap (λ (m : SeatView). record { id = m.id; shape = m.shape }) seat_is;
          number = ap (λ (m : SeatView). m.rank) seat_is ∙ s.count;
          none = refl;
          way = record {
            runs = λ kept. subst (λ ds. IsRank R ds cap manner seat.rank h rank (posted_on seat) (collected_from seat)) (sym (ap (λ (m : SeatView). m.shape.dims) seat_is))
                (subst (λ k. IsRank R b.shape.dims cap manner k h rank (posted_on seat) (collected_from seat)) (sym (ap (λ (m : SeatView). m.rank) seat_is ∙ s.count))
                (subst (λ (a : Logs). IsRank R b.shape.dims cap manner (length taken) h rank a (collected_from seat)) (sym none_sent)
                (subst (λ (a : Logs). IsRank R b.shape.dims cap manner (length taken) h rank (λ l. []) a) (sym none_got) own)));
            few = λ kept. let e = f.new.mover.first in let on = ap (λ b. cond b (epoch_in rank.node.mover + 1) (epoch_in rank.node.mover)) f.on in omega (arith, e, on);
          };
        }

    pub seating_more : (xs' : List (SeatedState S)) → xs' ≡ xs ++ record { rank = rank; seat = seat; turns = 0; lost = false } ∷ [] → Seating R cap b gather' (number + 1) all (taken ++ rank ∷ []) rest xs'
    seating_more xs' more =
        record {
          left = one_less taken rest all now rank s.left is;
          bank = (ap (λ (g : Gathering). g.id) gave ∙ s.bank.0, ap (λ (g : Gathering). g.shape) gave ∙ s.bank.1);
          count = omega (arith, s.count, length-append taken (rank ∷ []));
          none = λ r past low.
              let late : length taken + 1 ≤ r = omega (arith, past, length-append taken (rank ∷ [])) in
              ap (λ (g : Gathering). get_or g.given r true) gave ∙ (get_or-set_other gather.given number r true true (λ e. omega (arith, e, s.count, late)) ∙ s.none r (omega (arith, late)) low);
          ranks_are = ap (map (λ (y : SeatedState S). y.rank)) more ∙ (map-append (λ (y : SeatedState S). y.rank) xs (x ∷ []) ∙ ap (λ ys. ys ++ rank ∷ []) s.ranks_are);
          each = λ manner starts fresh r y at. elim (cases_lt r (length xs)) [
            | inl low ↦ s.each manner starts fresh r y (sym (get_before xs (x ∷ []) r low) ∙ (ap (λ zs. slice_get zs r) (sym more) ∙ at))
            | inr past ↦
                let here : slice_get (xs ++ x ∷ []) r ≡ Some y = ap (λ zs. slice_get zs r) (sym more) ∙ at in
                let e : r ≡ length xs = omega (arith, past, within (xs ++ x ∷ []) r y here, length-append xs (x ∷ [])) in
                let same : x ≡ y = get_once (xs ++ x ∷ []) (length xs) x y (get_last xs x) (subst (λ k. slice_get (xs ++ x ∷ []) k ≡ Some y) e here) in
                subst (λ z. IsSeated R cap manner b r z) same (subst (λ k. IsSeated R cap manner b k x) (sym (e ∙ size)) (seated manner starts fresh))
          ];
        }

-- some ranks have left their seats
pub record Leaving {S : Type 0} (b : BankIdentity) (gather : Gathering) (all taken rest : List (SeatedState S)) (rs : List (RankState S)) : Type 0 where
  pub left : taken ++ rest ≡ all
  pub bank : (gather.id ≡ b.id) × (gather.shape ≡ b.shape)
  pub ranks_are : rs ≡ map (λ y. y.rank) taken
  pub kept : All (λ y. y.lost ≡ false) taken
  pub there : EachAt (λ r y. get_or gather.lists r None ≡ Some y.seat.lists) taken

module _ {S : Type 0} (b : BankIdentity) (gather : Gathering) (all taken rest now : List (SeatedState S)) (rs : List (RankState S)) (s : Leaving b gather all taken now rs) (y : SeatedState S) (is : now ≡ y ∷ rest) where
  -- there is room for one more
  pub leave_left : (room : ℕ) → length all ≤ room → length rs < room
  leave_left room below = omega (arith, below, ap length s.left, ap length is, length-append taken now, length-map taken (λ (x : SeatedState S). x.rank), ap length s.ranks_are)

  -- the next sits at its place
  pub next_number : EachAt (λ r (x : SeatedState S). x.seat.rank ≡ r) all → y.seat.rank ≡ length taken
  next_number number = each_get (λ r (x : SeatedState S). x.seat.rank ≡ r) all (length taken) y number (next_is taken rest all now y s.left is)

  -- and it is of this bank
  pub next_bank : All (λ (x : SeatedState S). bank_of x ≡ b) all → bank_of y ≡ b
  next_bank same = all_get (λ (x : SeatedState S). bank_of x ≡ b) all (length taken) y same (next_is taken rest all now y s.left is)

  pub leaving_more : (gather' : Gathering) (rs' : List (RankState S)) → y.seat.rank ≡ length taken → y.lost ≡ false → (gather'.id ≡ gather.id) × (gather'.shape ≡ gather.shape)
      → get_or gather'.lists y.seat.rank None ≡ Some y.seat.lists → ((r : ℕ) → r ≢ y.seat.rank → get_or gather'.lists r None ≡ get_or gather.lists r None) → rs' ≡ rs ++ y.rank ∷ []
      → Leaving b gather' all (taken ++ y ∷ []) rest rs'
  leaving_more gather' rs' number lost same there others more =
      record {
        left = one_less taken rest all now y s.left is;
        bank = (same.0 ∙ s.bank.0, same.1 ∙ s.bank.1);
        ranks_are = more ∙ (ap (λ ns. ns ++ y.rank ∷ []) s.ranks_are ∙ sym (map-append (λ (x : SeatedState S). x.rank) taken (y ∷ [])));
        kept = All-push (λ (x : SeatedState S). x.lost ≡ false) taken y s.kept lost;
        there = each_push (λ r (x : SeatedState S). get_or gather'.lists r None ≡ Some x.seat.lists) taken y
            (λ r d low. others r (λ e. omega (arith, e, number, low)) ∙ s.there r d low)
            (subst (λ k. get_or gather'.lists k None ≡ Some y.seat.lists) number there);
      }
