-- One more rank is turned in a sweep.
use Rattle.std.proofs.Common.{◌≡◌, ◌≢◌, ℕ, ◌+◌, ◌<◌, ◌≤◌, Bool, List, length, map, Some, slice_get, get_or, sym, ap, subst, ◌∙◌, arith, inl, inr}
use Rattle.std.specs.Option.{option_map}
use Rattle.std.proofs.lemmas.Bool.{cases_eq}
use Rattle.std.proofs.lemmas.List.{length-map}
use Rattle.std.proofs.lemmas.Option.{slice_get-map, get_or_from_slice_get}
use Rattle.list_laws.proofs.Lists.{find, get_once, get_map}
use Rattle.route_tensor.specs.Grid.{ranks}
use Rattle.port_bank.specs.Logs.{starting_at, ending_at}
use Rattle.port_bank.specs.Plain.{Bank, sent_of, got_of}
use Rattle.port_bank.proofs.Owners.{sent_elsewhere, got_elsewhere}
use Rattle.hop_core.specs.State.{State}
use Rattle.round_program.specs.Talks.{Talk}
use Rattle.query_node.specs.States.{BiState, Sides, IsBiNode}
use Rattle.query_node.specs.Still.{IsStuckBoth}
use Rattle.query_node.specs.Ranks.{HasBiRank, sides_at}
use Rattle.biconvey.specs.ConveyorsOverBank.{bi_inbox, bi_moves}
use Rattle.biconvey.specs.RanksOverBanks.{AreBanks, AfterBiRank, PostedWithin, IsBlockedBiRank, BiRanksOnBanks, all_moves, AfterSomeBiTurns, sides_of, known_at}
use Rattle.rank_group.specs.BankLogs.{AreBankLogs}
use Rattle.rank_group.proofs.Growing.{Grows, lawful, posted_once, moves_on, sent_same, got_same}
use Rattle.biconvey.proofs.Moving.{grows, inbox_kept, way_on}

pub queries_lawful : (cap : ℕ) (dims : List ℕ) (slots : ℕ) (q r : Bank) → AreBanks cap dims slots q r → AreBankLogs dims cap slots (sent_of q) (got_of q)
queries_lawful cap dims slots q r b = lawful cap q dims slots b.queries b.queries_dims b.queries_slots

pub replies_lawful : (cap : ℕ) (dims : List ℕ) (slots : ℕ) (q r : Bank) → AreBanks cap dims slots q r → AreBankLogs dims cap slots (sent_of r) (got_of r)
replies_lawful cap dims slots q r b = lawful cap r dims slots b.replies b.replies_dims b.replies_slots

-- a rank whose own lists are as they were
other_rank : {S : Type 0} (T : Talk S) (dims : List ℕ) (r : ℕ) (start : S) (n : BiState S) (s s' : Sides) → starting_at dims r s'.asking ≡ starting_at dims r s.asking → ending_at dims r s'.asked ≡ ending_at dims r s.asked
    → starting_at dims r s'.replying ≡ starting_at dims r s.replying → ending_at dims r s'.replied ≡ ending_at dims r s.replied → HasBiRank T dims r start n s → HasBiRank T dims r start n s'
other_rank T dims r start n s s' a b c d h = record {
  same_dims = h.same_dims;
  same_rank = h.same_rank;
  node =
      subst (λ f. IsBiNode T start n f (ending_at dims r s'.asked) (starting_at dims r s'.replying) (ending_at dims r s'.replied)) (sym a)
      (subst (λ f. IsBiNode T start n (starting_at dims r s.asking) f (starting_at dims r s'.replying) (ending_at dims r s'.replied)) (sym b)
      (subst (λ f. IsBiNode T start n (starting_at dims r s.asking) (ending_at dims r s.asked) f (ending_at dims r s'.replied)) (sym c)
      (subst (λ f. IsBiNode T start n (starting_at dims r s.asking) (ending_at dims r s.asked) (starting_at dims r s.replying) f) (sym d) h.node)));
}

module _ {S : Type 0} (T : Talk S) (dims : List ℕ) (cap slots : ℕ) (steady : Bool) (starts : ℕ → S) (r : ℕ) (n n' : BiState S) (ns ns' : List (BiState S)) (s s' : Sides)
    (w : BiRanksOnBanks T dims cap slots steady starts ns s) (at : slice_get ns r ≡ Some n) (at' : slice_get ns' r ≡ Some n') (others : (k : ℕ) → k ≢ r → slice_get ns' k ≡ slice_get ns k) (long : length ns' ≡ length ns)
    (t : AfterBiRank T dims cap slots r n n' s s') (lq : AreBankLogs dims cap slots s'.asking s'.asked) (lr : AreBankLogs dims cap slots s'.replying s'.replied) where
  others_in : (f : BiState S → State) (k : ℕ) → k ≢ r → slice_get (map f ns') k ≡ slice_get (map f ns) k
  others_in f k apart = slice_get-map f ns' k ∙ (ap (option_map f) (others k apart) ∙ sym (slice_get-map f ns k))

  long_in : (f : BiState S → State) → length (map f ns') ≡ length (map f ns)
  long_in f = length-map ns' f ∙ (long ∙ sym (length-map ns f))

  abbrev asks : BiState S → State
  asks x = x.queries

  abbrev answers : BiState S → State
  answers x = x.replies

  grows_q : Grows dims r s.asking s.asked s'.asking s'.asked (bi_inbox dims (map asks ns)) (bi_inbox dims (map asks ns'))
  grows_q = grows dims cap slots steady r n.queries n'.queries (map asks ns) (map asks ns') s.asking s.asked s'.asking s'.asked w.queries (get_map asks ns r n at) (get_map asks ns' r n' at') (others_in asks) (long_in asks) t.queries lq

  grows_r : Grows dims r s.replying s.replied s'.replying s'.replied (bi_inbox dims (map answers ns)) (bi_inbox dims (map answers ns'))
  grows_r = grows dims cap slots steady r n.replies n'.replies (map answers ns) (map answers ns') s.replying s.replied s'.replying s'.replied w.replies (get_map answers ns r n at) (get_map answers ns' r n' at') (others_in answers) (long_in answers) t.replies lr

  more_q : bi_moves dims (map asks ns) s.asking s.asked ≤ bi_moves dims (map asks ns') s'.asking s'.asked
  more_q = moves_on dims r s.asking s.asked s'.asking s'.asked (bi_inbox dims (map asks ns)) (bi_inbox dims (map asks ns')) grows_q

  more_r : bi_moves dims (map answers ns) s.replying s.replied ≤ bi_moves dims (map answers ns') s'.replying s'.replied
  more_r = moves_on dims r s.replying s.replied s'.replying s'.replied (bi_inbox dims (map answers ns)) (bi_inbox dims (map answers ns')) grows_r

  pub all_on : all_moves dims ns s ≤ all_moves dims ns' s'
  all_on = let a = more_q in let b = more_r in omega (arith, a, b)

  light_q : all_moves dims ns' s' ≤ all_moves dims ns s → bi_moves dims (map asks ns') s'.asking s'.asked ≤ bi_moves dims (map asks ns) s.asking s.asked
  light_q light = let a = more_q in let b = more_r in omega (arith, a, b, light)

  light_r : all_moves dims ns' s' ≤ all_moves dims ns s → bi_moves dims (map answers ns') s'.replying s'.replied ≤ bi_moves dims (map answers ns) s.replying s.replied
  light_r light = let a = more_q in let b = more_r in omega (arith, a, b, light)

  -- where nothing moved the lists are as before
  pub same_sides : all_moves dims ns' s' ≤ all_moves dims ns s → s' ≡ s
  same_sides light =
      let a = sent_same dims r s.asking s.asked s'.asking s'.asked (bi_inbox dims (map asks ns)) (bi_inbox dims (map asks ns')) grows_q (light_q light) in
      let b = got_same dims r s.asking s.asked s'.asking s'.asked (bi_inbox dims (map asks ns)) (bi_inbox dims (map asks ns')) grows_q (light_q light) in
      let c = sent_same dims r s.replying s.replied s'.replying s'.replied (bi_inbox dims (map answers ns)) (bi_inbox dims (map answers ns')) grows_r (light_r light) in
      let d = got_same dims r s.replying s.replied s'.replying s'.replied (bi_inbox dims (map answers ns)) (bi_inbox dims (map answers ns')) grows_r (light_r light) in
      λ i. record { asking = a i; asked = b i; replying = c i; replied = d i }

  -- all ranks after the turn
  pub on_bank_after : BiRanksOnBanks T dims cap slots steady starts ns' s'
  on_bank_after = record {
    queries = way_on dims cap slots steady r n.queries n'.queries (map asks ns) (map asks ns') s.asking s.asked s'.asking s'.asked w.queries (get_map asks ns r n at) (get_map asks ns' r n' at') (others_in asks) (long_in asks) t.queries lq;
    replies = way_on dims cap slots steady r n.replies n'.replies (map answers ns) (map answers ns') s.replying s.replied s'.replying s'.replied w.replies (get_map answers ns r n at) (get_map answers ns' r n' at') (others_in answers) (long_in answers) t.replies lr;
    some = w.some;
    some_cap = w.some_cap;
    each = λ k x now. elim (cases_eq k r) [
      | inl here ↦
          let e : n' ≡ x = get_once ns' r n' x at' (subst (λ q. slice_get ns' q ≡ Some x) here now) in
          subst (λ q. HasBiRank T dims q (starts q) x s') (sym here) (subst (λ y. HasBiRank T dims r (starts r) y s') e (t.kept (starts r) (w.each r n at)))
      | inr apart ↦
          other_rank T dims k (starts k) x s s' (sent_elsewhere dims r k s.asking s'.asking apart t.queries.own.sent_elsewhere) (got_elsewhere dims r k s.asked s'.asked apart t.queries.own.got_elsewhere)
          (sent_elsewhere dims r k s.replying s'.replying apart t.replies.own.sent_elsewhere) (got_elsewhere dims r k s.replied s'.replied apart t.replies.own.got_elsewhere) (w.each k x (sym (others k apart) ∙ now))
    ];
  }

  -- the rank that was turned, where nothing moved
  pub rests_here : all_moves dims ns' s' ≤ all_moves dims ns s → IsBlockedBiRank T dims slots r n' s'
  rests_here light =
      let same = same_sides light in
      let h = w.each r n at in record {
        before = n;
        start = starts r;
        has = subst (HasBiRank T dims r (starts r) n) (sym same) h;
        kept_queries = inbox_kept dims cap slots steady r n.queries n'.queries (map asks ns) (map asks ns') s.asking s.asked s'.asking s'.asked w.queries (get_map asks ns r n at) (get_map asks ns' r n' at') (others_in asks) (long_in asks) t.queries lq (light_q light);
        kept_replies = inbox_kept dims cap slots steady r n.replies n'.replies (map answers ns) (map answers ns') s.replying s.replied s'.replying s'.replied w.replies (get_map answers ns r n at) (get_map answers ns' r n' at') (others_in answers) (long_in answers) t.replies lr (light_r light);
        stuck = subst (λ (x : Sides). IsStuckBoth n n' (sides_at dims r x) (sides_at dims r s') (known_at dims slots r s')) (sym same) (t.stuck (starts r) h same);
      }

  -- the ranks that rested go on resting
  pub rests_on : all_moves dims ns' s' ≤ all_moves dims ns s → (k : ℕ) (x : BiState S) → IsBlockedBiRank T dims slots k x s → IsBlockedBiRank T dims slots k x s'
  rests_on light k x rest = subst (IsBlockedBiRank T dims slots k x) (sym (same_sides light)) rest

pub swept_none : {S : Type 0} (T : Talk S) (dims : List ℕ) (cap slots : ℕ) (steady : Bool) (starts : ℕ → S) (order : List ℕ) (ns : List (BiState S)) (s : Sides) → BiRanksOnBanks T dims cap slots steady starts ns s → AfterSomeBiTurns T dims cap slots steady starts order 0 ns s ns s
swept_none T dims cap slots steady starts order ns s w = record { on_bank = w; grown = omega arith; rests = λ light j r low at. absurd (omega (arith, low)) }

pub swept_more : {S : Type 0} (T : Talk S) (dims : List ℕ) (cap slots : ℕ) (steady : Bool) (starts : ℕ → S) (order : List ℕ) (i r : ℕ) (ns0 ns ns' : List (BiState S)) (s0 s s' : Sides)
    → slice_get order i ≡ Some r → r < ranks dims → length ns' ≡ length ns → ((k : ℕ) → k ≢ r → slice_get ns' k ≡ slice_get ns k) → AreBankLogs dims cap slots s'.asking s'.asked → AreBankLogs dims cap slots s'.replying s'.replied
    → ((n n' : BiState S) → slice_get ns r ≡ Some n → slice_get ns' r ≡ Some n' → AfterBiRank T dims cap slots r n n' s s')
    → AfterSomeBiTurns T dims cap slots steady starts order i ns0 s0 ns s → AfterSomeBiTurns T dims cap slots steady starts order (i + 1) ns0 s0 ns' s'
swept_more {S} T dims cap slots steady starts order i r ns0 ns ns' s0 s s' here low long others lq lr turned v =
    let w = v.on_bank in
    let all : length ns ≡ ranks dims = sym (length-map ns (λ (n : BiState S). n.queries)) ∙ w.queries.all in
    let n : (n : BiState S) × (slice_get ns r ≡ Some n) = find ns r (omega (arith, low, all)) in
    let n' : (n' : BiState S) × (slice_get ns' r ≡ Some n') = find ns' r (omega (arith, low, all, long)) in
    let t : AfterBiRank T dims cap slots r n.0 n'.0 s s' = turned n.0 n'.0 n.1 n'.1 in
    let more = all_on T dims cap slots steady starts r n.0 n'.0 ns ns' s s' w n.1 n'.1 others long t lq lr in
    record {
      on_bank = on_bank_after T dims cap slots steady starts r n.0 n'.0 ns ns' s s' w n.1 n'.1 others long t lq lr;
      grown = omega (arith, v.grown, more);
      rests = λ light j k below at x now.
          let level : all_moves dims ns' s' ≤ all_moves dims ns s = omega (arith, light, v.grown) in
          let level0 : all_moves dims ns s ≤ all_moves dims ns0 s0 = omega (arith, light, more) in
          elim (cases_eq k r) [
            | inl same ↦
                let e : n'.0 ≡ x = get_once ns' r n'.0 x n'.1 (subst (λ q. slice_get ns' q ≡ Some x) same now) in
                subst (λ q. IsBlockedBiRank T dims slots q x s') (sym same) (subst (λ y. IsBlockedBiRank T dims slots r y s') e (rests_here T dims cap slots steady starts r n.0 n'.0 ns ns' s s' w n.1 n'.1 others long t lq lr level))
            | inr apart ↦
                let before : j < i = omega (arith, below, not_last j apart at) in
                rests_on T dims cap slots steady starts r n.0 n'.0 ns ns' s s' w n.1 n'.1 others long t lq lr level k x (v.rests level0 j k before at x (sym (others k apart) ∙ now))
          ];
    } where
      not_last : (j : ℕ) {k : ℕ} → k ≢ r → slice_get order j ≡ Some k → j ≢ i
      not_last j {k} apart at e = apart (get_once order i k r (subst (λ q. slice_get order q ≡ Some k) e at) here)

-- a sweep's loop
pub record Sweeping {S : Type 0} (T : Talk S) (cap : ℕ) (dims : List ℕ) (slots : ℕ) (order : List ℕ) (ns0 : List (BiState S)) (s0 : Sides) (steps0 i : ℕ) (ns : List (BiState S)) (q r : Bank) (steps : ℕ) : Type 0 where
  pub banks : AreBanks cap dims slots q r
  pub most_steps : steps ≤ steps0 + i
  pub fewest_steps : steps0 + i ≤ steps
  pub posted : PostedWithin dims s0 steps0 (sides_of q r) steps
  pub swept : (steady : Bool) (starts : ℕ → S) → BiRanksOnBanks T dims cap slots steady starts ns0 s0 → AfterSomeBiTurns T dims cap slots steady starts order i ns0 s0 ns (sides_of q r)

pub sweeping_more : {S : Type 0} (T : Talk S) (cap : ℕ) (dims : List ℕ) (slots : ℕ) (order : List ℕ) (ns0 : List (BiState S)) (s0 : Sides) (steps0 i k : ℕ) (ns ns' : List (BiState S)) (q r q' r' : Bank) (steps steps' : ℕ)
    → Sweeping T cap dims slots order ns0 s0 steps0 i ns q r steps → length ns ≡ ranks dims → slice_get order i ≡ Some k → k < ranks dims → AreBanks cap dims slots q' r' → steps' ≡ steps + 1 → length ns' ≡ length ns → ((j : ℕ) → j ≢ k → slice_get ns' j ≡ slice_get ns j)
    → ((n n' : BiState S) → slice_get ns k ≡ Some n → slice_get ns' k ≡ Some n' → AfterBiRank T dims cap slots k n n' (sides_of q r) (sides_of q' r'))
    → Sweeping T cap dims slots order ns0 s0 steps0 (i + 1) ns' q' r' steps'
sweeping_more {S} T cap dims slots order ns0 s0 steps0 i k ns ns' q r q' r' steps steps' v all here low banks count long others turned =
    let n : (n : BiState S) × (slice_get ns k ≡ Some n) = find ns k (omega (arith, low, all)) in
    let n' : (n' : BiState S) × (slice_get ns' k ≡ Some n') = find ns' k (omega (arith, low, all, long)) in
    let t : AfterBiRank T dims cap slots k n.0 n'.0 (sides_of q r) (sides_of q' r') = turned n.0 n'.0 n.1 n'.1 in
    record {
      banks = banks;
      most_steps = omega (arith, count, v.most_steps);
      fewest_steps = omega (arith, count, v.fewest_steps);
      posted = λ l below.
          let so = v.posted l below in
          let asked = posted_once dims k (sent_of q) (got_of q) (sent_of q') (got_of q') t.queries.own l below in
          let replied = posted_once dims k (sent_of r) (got_of r) (sent_of r') (got_of r') t.replies.own l below in
          (omega (arith, count, so.0, asked), omega (arith, count, so.1, replied));
      swept = λ steady starts w.
          swept_more T dims cap slots steady starts order i k ns0 ns ns' s0 (sides_of q r) (sides_of q' r') here low long others
          (queries_lawful cap dims slots q' r' banks) (replies_lawful cap dims slots q' r' banks) turned (v.swept steady starts w);
    }

-- what a turn tells of banks of the grid and slots with which a sweep began
pub same_turn : {S : Type 0} (T : Talk S) (cap : ℕ) (dims dims' : List ℕ) (slots slots' k : ℕ) (n n' : BiState S) (s s' : Sides) → dims' ≡ dims → slots' ≡ slots → AfterBiRank T dims' cap slots' k n n' s s' → AfterBiRank T dims cap slots k n n' s s'
same_turn T cap dims dims' slots slots' k n n' s s' ed es t = subst (λ d. AfterBiRank T d cap slots k n n' s s') ed (subst (λ m. AfterBiRank T dims' cap m k n n' s s') es t)

pub same_banks : (cap : ℕ) (dims dims' : List ℕ) (slots slots' : ℕ) (q r : Bank) → dims' ≡ dims → slots' ≡ slots → AreBanks cap dims' slots' q r → AreBanks cap dims slots q r
same_banks cap dims dims' slots slots' q r ed es b = subst (λ d. AreBanks cap d slots q r) ed (subst (λ m. AreBanks cap dims' m q r) es b)

pub same_on_bank : {S : Type 0} (T : Talk S) (cap : ℕ) (dims dims' : List ℕ) (slots slots' : ℕ) (steady : Bool) (starts : ℕ → S) (ns : List (BiState S)) (s : Sides) → dims' ≡ dims → slots' ≡ slots → BiRanksOnBanks T dims' cap slots' steady starts ns s → BiRanksOnBanks T dims cap slots steady starts ns s
same_on_bank T cap dims dims' slots slots' steady starts ns s ed es w = subst (λ d. BiRanksOnBanks T d cap slots steady starts ns s) ed (subst (λ m. BiRanksOnBanks T dims' cap m steady starts ns s) es w)

pub order_at : (order : List ℕ) (i : ℕ) → i < length order → slice_get order i ≡ Some (get_or order i 0)
order_at order i low = let f : (x : ℕ) × (slice_get order i ≡ Some x) = find order i low in f.1 ∙ ap Some (sym (get_or_from_slice_get order i f.0 0 f.1))
