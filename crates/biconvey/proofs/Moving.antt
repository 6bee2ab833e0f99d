-- One more rank is turned: what moved of one way.
use Rattle.std.proofs.Common.{◌≡◌, ◌≢◌, ℕ, ◌<◌, ◌≤◌, ◌==◌, Bool, cond, List, [], length, Some, slice_get, sym, ap, subst, ◌∙◌, arith, inl, inr}
use Rattle.std.proofs.lemmas.Bool.{cases_eq, ne_eqb}
use Rattle.list_laws.proofs.Lists.{get_once}
use Rattle.route_tensor.specs.Link.{links}
use Rattle.route_tensor.specs.Ends.{sender_at, reader_at}
use Rattle.port_bank.specs.Logs.{Logs, starting_at}
use Rattle.port_bank.specs.Shapes.{IsConveyorShape}
use Rattle.hop_core.specs.State.{State}
use Rattle.convey.specs.Buffers.{in_of}
use Rattle.convey.proofs.OneRank.{starting-own}
use Rattle.rank_group.specs.BankLogs.{AreBankLogs}
use Rattle.rank_group.proofs.Growing.{Grows, inbox_same, inboxes_on}
use Rattle.biconvey.specs.ConveyorsOverBank.{conveyor_in, bi_inbox, bi_moves, AreConveyorsOver, AfterBiAdvance}

module _ (dims : List ℕ) (cap slots : ℕ) (steady : Bool) (r : ℕ) (c c' : State) (cs cs' : List State) (sent got sent' got' : Logs)
    (w : AreConveyorsOver dims cap slots steady cs sent got) (at : slice_get cs r ≡ Some c) (at' : slice_get cs' r ≡ Some c') (others : (k : ℕ) → k ≢ r → slice_get cs' k ≡ slice_get cs k) (size : length cs' ≡ length cs)
    (t : AfterBiAdvance dims cap r c c' sent got sent' got') (law : AreBankLogs dims cap slots sent' got') where
  was_at : (l : ℕ) → reader_at dims l ≡ r → bi_inbox dims cs l ≡ length (in_of c l).parcel.untaken
  was_at l here = ap (λ k. length (in_of (conveyor_in (slice_get cs k)) l).parcel.untaken) here ∙ ap (λ o. length (in_of (conveyor_in o) l).parcel.untaken) at

  now_at : (l : ℕ) → reader_at dims l ≡ r → bi_inbox dims cs' l ≡ length (in_of c' l).parcel.untaken
  now_at l here = ap (λ k. length (in_of (conveyor_in (slice_get cs' k)) l).parcel.untaken) here ∙ ap (λ o. length (in_of (conveyor_in o) l).parcel.untaken) at'

  pub grows : Grows dims r sent got sent' got' (bi_inbox dims cs) (bi_inbox dims cs')
  grows = record {
    own = t.own;
    apart = λ l apart. ap (λ o. length (in_of (conveyor_in o) l).parcel.untaken) (others (reader_at dims l) apart);
    lies = λ l more below here own. omega (arith, was_at l here, now_at l here, t.lies l more below here own);
    inboxes = w.inboxes;
    past = λ l past. ((law.none_past l past).0 ∙ sym (w.lawful.none_past l past).0, (law.none_past l past).1 ∙ sym (w.lawful.none_past l past).1);
  }

  pub inbox_kept : bi_moves dims cs' sent' got' ≤ bi_moves dims cs sent got → (l : ℕ) → l < links dims → reader_at dims l ≡ r → length (in_of c l).parcel.untaken ≤ length (in_of c' l).parcel.untaken
  inbox_kept light l below to = omega (arith, was_at l to, now_at l to, inbox_same dims r sent got sent' got' (bi_inbox dims cs) (bi_inbox dims cs') grows light l below)

  -- the way after the turn
  pub way_on : AreConveyorsOver dims cap slots steady cs' sent' got'
  way_on = record {
    lawful = law;
    all = size ∙ w.all;
    steadies = λ k x now. elim (cases_eq k r) [
      | inl here ↦ sym (ap (λ (y : State). y.steady) (get_once cs' r c' x at' (subst (λ q. slice_get cs' q ≡ Some x) here now))) ∙ (t.steady ∙ w.steadies r c at)
      | inr apart ↦ w.steadies k x (sym (others k apart) ∙ now)
    ];
    shape = λ l. elim (cases_eq (sender_at dims l) r) [
      | inl here ↦
          let s : c.steady ≡ steady = w.steadies r c at in
          subst (IsConveyorShape steady cap) (starting-own dims r sent' l here)
          (subst (λ b. IsConveyorShape b cap (starting_at dims r sent' l)) s (t.shape l (subst (λ b. IsConveyorShape b cap (starting_at dims r sent l)) (sym s) (subst (IsConveyorShape steady cap) (sym (starting-own dims r sent l here)) (w.shape l)))))
      | inr apart ↦
          let e : cond (sender_at dims l == r) [] (sent' l) ≡ cond (sender_at dims l == r) [] (sent l) = ap (λ (f : Logs). f l) t.own.sent_elsewhere in
          let same : sent' l ≡ sent l = sym (ap (λ b. cond b [] (sent' l)) (ne_eqb (sender_at dims l) r apart)) ∙ (e ∙ ap (λ b. cond b [] (sent l)) (ne_eqb (sender_at dims l) r apart)) in
          subst (IsConveyorShape steady cap) (sym same) (w.shape l)
    ];
    inboxes = inboxes_on dims r sent got sent' got' (bi_inbox dims cs) (bi_inbox dims cs') grows;
  }
