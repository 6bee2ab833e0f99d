-- The ranks of an exchange get their seats at two slot banks, and leave them.
use Rattle.std.proofs.Common.{◌≡◌, ◌≢◌, ℕ, ◌+◌, ◌<◌, ◌≤◌, Bool, true, false, List, [], ◌∷◌, ◌++◌, length, length-append, map, get_or, slice_get, slice_set, Some, None, All, ◌&&◌, true≢false, refl, sym, ap, subst, ◌∙◌, arith, inl, inr}
use Rattle.std.proofs.lemmas.Bool.{cases_lt}
use Rattle.std.proofs.lemmas.List.{length-map, map-append, get_or-set_other}
use Rattle.item_buffer.specs.Contents.{Contents}
use Rattle.list_laws.specs.Lists.{EachAt}
use Rattle.list_laws.proofs.Lists.{within, get_once, get_last, get_before, all_get, each_get, each_push}
use Rattle.route_tensor.specs.Grid.{ranks}
use Rattle.route_tensor.specs.Link.{links}
use Rattle.port_bank.specs.Logs.{Logs}
use Rattle.port_bank.specs.Shapes.{IsConveyorShape}
use Rattle.link_slots.specs.Gathering.{Gathering}
use Rattle.link_slots.specs.SeatView.{BankIdentity, SeatView, posted_on, collected_from}
use Rattle.link_slots.specs.Shape.{shipped_all}
use Rattle.link_slots.specs.View.{no_logs}
use Rattle.link_slots.proofs.Opening.{no_sent, no_got}
use Rattle.rank_crews.proofs.Joining.{one_less, next_is}
use Rattle.round_program.specs.Talks.{Talk}
use Rattle.convey.specs.Buffers.{is_complete}
use Rattle.query_node.specs.States.{BiState, IsBiNode}
use Rattle.biconvey.specs.Drives.{IsFreshBiRank, AreFreshBiRanks}
use Rattle.biconvey.specs.Seats.{BiSeatedState, bank_at, IsSeatedBiRank, AreSeatedBiRanks}

-- the first so many seats of a bank are given out
pub record IsGiven (b : BankIdentity) (gather : Gathering) (n : ℕ) : Type 0 where
  pub bank : (gather.id ≡ b.id) × (gather.shape ≡ b.shape)
  pub none : (r : ℕ) → n ≤ r → r < ranks b.shape.dims → get_or gather.given r true ≡ false

one_given : (b : BankIdentity) (gather gather' : Gathering) (n m : ℕ) (lists : _) → IsGiven b gather n → n ≡ m → gather' ≡ record gather { lists = lists; given = slice_set gather.given m true } → IsGiven b gather' (n + 1)
one_given b gather gather' n m lists is same gave =
    record {
      bank = (ap (λ (g : Gathering). g.id) gave ∙ is.bank.0, ap (λ (g : Gathering). g.shape) gave ∙ is.bank.1);
      none = λ r past low. ap (λ (g : Gathering). get_or g.given r true) gave ∙ (get_or-set_other gather.given m r true true (λ e. omega (arith, e, same, past)) ∙ is.none r (omega (arith, past)) low);
    }

-- a seat as it is given out
record IsNewSeat (b : BankIdentity) (n : ℕ) (seat : SeatView) : Type 0 where
  bank : bank_at seat ≡ b
  number : seat.rank ≡ n
  sent : ◌≡◌ {A = Logs} (posted_on seat) (λ l. [])
  got : ◌≡◌ {A = Logs} (collected_from seat) (λ l. [])

new_seat : (b : BankIdentity) (n : ℕ) (seat : SeatView) (noted ended : List ℕ) → seat ≡ record { id = b.id; shape = b.shape; rank = n; lists = no_logs (links b.shape.dims); noted = noted; ended = ended } → IsNewSeat b n seat
new_seat b n seat noted ended is =
    record {
      bank = ap bank_at is;
      number = ap (λ (m : SeatView). m.rank) is;
      sent = ap posted_on is ∙ ap shipped_all (no_sent Contents (links b.shape.dims));
      got = ap collected_from is ∙ ap shipped_all (no_got Contents (links b.shape.dims));
    }

no_parcels : (steady : Bool) (cap : ℕ) (a : Logs) → ◌≡◌ {A = Logs} a (λ l. []) → (l : ℕ) → IsConveyorShape steady cap (a l)
no_parcels steady cap a none l = subst (IsConveyorShape steady cap) (sym (ap (λ (b : Logs). b l) none)) (λ i d below. absurd (omega (arith, below)))

-- some ranks have their seats
pub record Seating {S : Type 0} (T : Talk S) (cap : ℕ) (b p : BankIdentity) (gq gp : Gathering) (number : ℕ) (all taken rest : List (BiState S)) (xs : List (BiSeatedState S)) : Type 0 where
  pub left : taken ++ rest ≡ all
  pub queries : IsGiven b gq (length taken)
  pub replies : IsGiven p gp (length taken)
  pub count : number ≡ length taken
  pub nodes_are : map (λ x. x.node) xs ≡ taken
  pub each : (steady : Bool) (askers : List S) → AreFreshBiRanks T b.shape.dims steady askers all → AreSeatedBiRanks T cap steady b p xs

module _ {S : Type 0} (T : Talk S) (cap : ℕ) (b p : BankIdentity) (same : p.shape ≡ b.shape) (gq gp : Gathering) (number : ℕ) (all taken rest now : List (BiState S)) (xs : List (BiSeatedState S)) (s : Seating T cap b p gq gp number all taken now xs) where
  -- one more gets its seats
  -- there is room for one more
  pub seat_left : (node : BiState S) → now ≡ node ∷ rest → (room : ℕ) → length all ≤ room → length xs < room
  seat_left node is room below = omega (arith, below, ap length s.left, ap length is, length-append taken now, length-map xs (λ (y : BiSeatedState S). y.node), ap length s.nodes_are)

  module _ (gq' gp' : Gathering) (node : BiState S) (sq sp : SeatView) (is : now ≡ node ∷ rest)
      (lists_q lists_p : _) (gave_q : gq' ≡ record gq { lists = lists_q; given = slice_set gq.given number true }) (gave_p : gp' ≡ record gp { lists = lists_p; given = slice_set gp.given number true })
      (noted_q ended_q noted_p ended_p : List ℕ)
      (is_q : sq ≡ record { id = b.id; shape = b.shape; rank = number; lists = no_logs (links b.shape.dims); noted = noted_q; ended = ended_q })
      (is_p : sp ≡ record { id = p.id; shape = p.shape; rank = number; lists = no_logs (links p.shape.dims); noted = noted_p; ended = ended_p }) where
    abbrev x : BiSeatedState S
    x = record { node = node; queries = sq; replies = sp; turns = 0 }

    new_q : IsNewSeat b number sq
    new_q = new_seat b number sq noted_q ended_q is_q

    new_p : IsNewSeat p number sp
    new_p = new_seat p number sp noted_p ended_p is_p

    size : length xs ≡ length taken
    size = sym (length-map xs (λ (y : BiSeatedState S). y.node)) ∙ ap length s.nodes_are

    pub seated : (steady : Bool) (askers : List S) → AreFreshBiRanks T b.shape.dims steady askers all → IsSeatedBiRank T cap steady b p (length taken) x
    seated steady askers fresh =
        let f : IsFreshBiRank T b.shape.dims steady (length taken) node = fresh.each (length taken) node (next_is taken rest all now node s.left is) in
        let dims_q : sq.shape.dims ≡ b.shape.dims = ap (λ (a : BankIdentity). a.shape.dims) new_q.bank in
        let dims_p : sp.shape.dims ≡ b.shape.dims = ap (λ (a : BankIdentity). a.shape.dims) new_p.bank ∙ ap (λ h. h.dims) same in
        let rank_q : sq.rank ≡ length taken = new_q.number ∙ s.count in
        let rank_p : sp.rank ≡ length taken = new_p.number ∙ s.count in
        record {
          queries_bank = new_q.bank;
          replies_bank = new_p.bank;
          numbers = (rank_q, rank_p);
          none = refl;
          way = record {
            queries = record { same_dims = f.new.queries.same_dims ∙ sym dims_q; same_rank = f.new.queries.same_rank ∙ (f.own_rank ∙ sym rank_q) };
            replies = record { same_dims = f.new.replies.same_dims ∙ sym dims_p; same_rank = f.new.replies.same_rank ∙ (f.own_rank ∙ sym rank_p) };
            same_steady = (f.new.queries.same_steady, f.new.replies.same_steady);
            node =
                subst (λ (a : Logs). IsBiNode T node.asker node a (collected_from sq) (posted_on sp) (collected_from sp)) (sym new_q.sent)
                (subst (λ (a : Logs). IsBiNode T node.asker node (λ l. []) a (posted_on sp) (collected_from sp)) (sym new_q.got)
                (subst (λ (a : Logs). IsBiNode T node.asker node (λ l. []) (λ l. []) a (collected_from sp)) (sym new_p.sent)
                (subst (λ (a : Logs). IsBiNode T node.asker node (λ l. []) (λ l. []) (λ l. []) a) (sym new_p.got) f.new.node)));
            queries_shape = no_parcels steady cap (posted_on sq) new_q.sent;
            replies_shape = no_parcels steady cap (posted_on sp) new_p.sent;
            some = λ over. absurd (true≢false (sym over ∙ ap (λ k. is_complete k && is_complete node.replies.phase) f.new.queries.working));
          };
        }

    pub seating_more : (xs' : List (BiSeatedState S)) → xs' ≡ xs ++ record { node = node; queries = sq; replies = sp; turns = 0 } ∷ [] → Seating T cap b p gq' gp' (number + 1) all (taken ++ node ∷ []) rest xs'
    seating_more xs' more =
        let longer : length (taken ++ node ∷ []) ≡ length taken + 1 = length-append taken (node ∷ []) in
        record {
          left = one_less taken rest all now node s.left is;
          queries = subst (IsGiven b gq') (sym longer) (one_given b gq gq' (length taken) number lists_q s.queries (sym s.count) gave_q);
          replies = subst (IsGiven p gp') (sym longer) (one_given p gp gp' (length taken) number lists_p s.replies (sym s.count) gave_p);
          count = omega (arith, s.count, longer);
          nodes_are = ap (map (λ (y : BiSeatedState S). y.node)) more ∙ (map-append (λ (y : BiSeatedState S). y.node) xs (x ∷ []) ∙ ap (λ ys. ys ++ node ∷ []) s.nodes_are);
          each = λ steady askers fresh r y at. elim (cases_lt r (length xs)) [
            | inl low ↦ s.each steady askers fresh r y (sym (get_before xs (x ∷ []) r low) ∙ (ap (λ zs. slice_get zs r) (sym more) ∙ at))
            | inr past ↦
                let here : slice_get (xs ++ x ∷ []) r ≡ Some y = ap (λ zs. slice_get zs r) (sym more) ∙ at in
                let e : r ≡ length xs = omega (arith, past, within (xs ++ x ∷ []) r y here, length-append xs (x ∷ [])) in
                let same_x : x ≡ y = get_once (xs ++ x ∷ []) (length xs) x y (get_last xs x) (subst (λ k. slice_get (xs ++ x ∷ []) k ≡ Some y) e here) in
                subst (λ z. IsSeatedBiRank T cap steady b p r z) same_x (subst (λ k. IsSeatedBiRank T cap steady b p k x) (sym (e ∙ size)) (seated steady askers fresh))
          ];
        }

-- of some ranks a bank has the lists
pub record AreThere {S : Type 0} (b : BankIdentity) (gather : Gathering) (seat : BiSeatedState S → SeatView) (taken : List (BiSeatedState S)) : Type 0 where
  pub bank : (gather.id ≡ b.id) × (gather.shape ≡ b.shape)
  pub there : EachAt (λ r y. get_or gather.lists r None ≡ Some (seat y).lists) taken

one_there : {S : Type 0} (b : BankIdentity) (gather gather' : Gathering) (seat : BiSeatedState S → SeatView) (taken : List (BiSeatedState S)) (y : BiSeatedState S) → AreThere b gather seat taken → (seat y).rank ≡ length taken
    → (gather'.id ≡ gather.id) × (gather'.shape ≡ gather.shape) → get_or gather'.lists (seat y).rank None ≡ Some (seat y).lists → ((r : ℕ) → r ≢ (seat y).rank → get_or gather'.lists r None ≡ get_or gather.lists r None)
    → AreThere b gather' seat (taken ++ y ∷ [])
one_there {S} b gather gather' seat taken y is number same there others =
    record {
      bank = (same.0 ∙ is.bank.0, same.1 ∙ is.bank.1);
      there = each_push (λ r (x : BiSeatedState S). get_or gather'.lists r None ≡ Some (seat x).lists) taken y
          (λ r d low. others r (λ e. omega (arith, e, number, low)) ∙ is.there r d low)
          (subst (λ k. get_or gather'.lists k None ≡ Some (seat y).lists) number there);
    }

-- some ranks have left their seats
pub record Leaving {S : Type 0} (b p : BankIdentity) (gq gp : Gathering) (all taken rest : List (BiSeatedState S)) (ns : List (BiState S)) : Type 0 where
  pub left : taken ++ rest ≡ all
  pub queries : AreThere b gq (λ y. y.queries) taken
  pub replies : AreThere p gp (λ y. y.replies) taken
  pub nodes_are : ns ≡ map (λ y. y.node) taken

module _ {S : Type 0} (b p : BankIdentity) (gq gp : Gathering) (all taken rest now : List (BiSeatedState S)) (ns : List (BiState S)) (s : Leaving b p gq gp all taken now ns) (y : BiSeatedState S) (is : now ≡ y ∷ rest) where
  -- there is room for one more
  pub leave_left : (room : ℕ) → length all ≤ room → length ns < room
  leave_left room below = omega (arith, below, ap length s.left, ap length is, length-append taken now, length-map taken (λ (x : BiSeatedState S). x.node), ap length s.nodes_are)

  -- the next sits at its place
  pub next_numbers : EachAt (λ r (x : BiSeatedState S). (x.queries.rank ≡ r) × (x.replies.rank ≡ r)) all → (y.queries.rank ≡ length taken) × (y.replies.rank ≡ length taken)
  next_numbers numbers = each_get (λ r (x : BiSeatedState S). (x.queries.rank ≡ r) × (x.replies.rank ≡ r)) all (length taken) y numbers (next_is taken rest all now y s.left is)

  -- and it is of these banks
  pub next_banks : All (λ (x : BiSeatedState S). (bank_at x.queries ≡ b) × (bank_at x.replies ≡ p)) all → (bank_at y.queries ≡ b) × (bank_at y.replies ≡ p)
  next_banks same = all_get (λ (x : BiSeatedState S). (bank_at x.queries ≡ b) × (bank_at x.replies ≡ p)) all (length taken) y same (next_is taken rest all now y s.left is)

  pub leaving_more : (gq' gp' : Gathering) (ns' : List (BiState S)) → (y.queries.rank ≡ length taken) × (y.replies.rank ≡ length taken)
      → (gq'.id ≡ gq.id) × (gq'.shape ≡ gq.shape) → get_or gq'.lists y.queries.rank None ≡ Some y.queries.lists → ((r : ℕ) → r ≢ y.queries.rank → get_or gq'.lists r None ≡ get_or gq.lists r None)
      → (gp'.id ≡ gp.id) × (gp'.shape ≡ gp.shape) → get_or gp'.lists y.replies.rank None ≡ Some y.replies.lists → ((r : ℕ) → r ≢ y.replies.rank → get_or gp'.lists r None ≡ get_or gp.lists r None)
      → ns' ≡ ns ++ y.node ∷ [] → Leaving b p gq' gp' all (taken ++ y ∷ []) rest ns'
  leaving_more gq' gp' ns' number same_q there_q others_q same_p there_p others_p more =
      record {
        left = one_less taken rest all now y s.left is;
        queries = one_there b gq gq' (λ z. z.queries) taken y s.queries number.0 same_q there_q others_q;
        replies = one_there p gp gp' (λ z. z.replies) taken y s.replies number.1 same_p there_p others_p;
        nodes_are = more ∙ (ap (λ xs. xs ++ y.node ∷ []) s.nodes_are ∙ sym (map-append (λ (x : BiSeatedState S). x.node) taken (y ∷ [])));
      }
