-- What a rank knows of the epochs that are over stays, as its lists grow in the current one.
use Rattle.std.proofs.Common.{◌≡◌, ◌≢◌, ℕ, ◌+◌, ◌*◌, ◌<◌, ◌≤◌, Bool, true, false, List, length, refl, sym, ap, subst, ◌∙◌, arith}
use Rattle.bale_items.specs.declared.item.Item.{Item}
use Rattle.port_bank.specs.Flow.{IsPrefix}
use Rattle.port_bank.specs.Machine.{Part}
use Rattle.round_program.specs.Rules.{Rules}
use Rattle.round_program.specs.Canonical.{emissions_to}
use Rattle.round_program.specs.Epochs.{Own}
use Rattle.round_program.proofs.Steps.{SameBefore, own_same, heard_same}
use Rattle.rank_node.specs.Sending.{epoch_of}
use Rattle.rank_node.specs.Runs.{part_lists, round_after, from_round, HasPassed}

-- a part whose lists of other epochs are as they were
pub record SameElsewhere (part part' : Part) : Type 0 where
  pub epoch : part'.epoch ≡ part.epoch
  pub pushed : (e d : ℕ) → e ≢ part.epoch → part'.pushed e d ≡ part.pushed e d
  pub pulled : (e d : ℕ) → e ≢ part.epoch → part'.pulled e d ≡ part.pulled e d

pub before_same : (part part' : Part) → SameElsewhere part part' → SameBefore part.epoch part.epoch (part_lists part) (part_lists part')
before_same part part' same =
    record { pushed = λ e d b. same.pushed e d (λ q. omega arith); pulled = λ e d b. same.pulled e d (λ q. omega arith) }

pub passed_same : {S : Type 0} (R : Rules S) (p rank : ℕ) (h : ℕ → S) (round : ℕ) (voting : Bool) (part part' : Part) → SameElsewhere part part' → HasPassed R p rank h round voting part → HasPassed R p rank h round voting part'
passed_same R p rank h round voting part part' same is =
    let before : SameBefore part.epoch part.epoch (part_lists part) (part_lists part') = before_same part part' same in
    let e' : part'.epoch ≡ part.epoch = same.epoch in
    let here : part.epoch ≡ epoch_of round voting = is.epoch in
    record {
      epoch = e' ∙ here;
      valid = is.valid;
      own_rank = is.own_rank;
      all_ranks = is.all_ranks;
      own_round = is.own_round;
      few = is.few;
      own = subst (λ e. Own (from_round (R.round (h 0)) R) p e e h (part_lists part')) (sym e') (own_same (from_round (R.round (h 0)) R) p part.epoch part.epoch h h (part_lists part) (part_lists part') before (λ m b. refl) is.own);
      goes = λ m next. ap (R.goes_on (R.shape (h m)) (round_after (R.round (h 0)) m)) (heard_same p part.epoch part.epoch (part_lists part) (part_lists part') m before (low round voting part.epoch m here next)) ∙ is.goes m next;
      emitted_front = λ m d b c. subst (λ xs. IsPrefix xs (emissions_to R (h m) d)) (sym (same.pushed (2 * m) d (λ q. omega arith))) (is.emitted_front m d b (subst (λ e. 2 * m < e) e' c));
      one_vote = λ m d b c. subst (λ (xs : List Item). length xs ≤ 1) (sym (same.pushed (2 * m + 1) d (λ q. omega arith))) (is.one_vote m d b (subst (λ e. 2 * m + 1 < e) e' c));
      ahead =
          λ e d b.
          let c : part.epoch < e = subst (λ k. k < e) e' b in
          (same.pushed e d (λ q. omega arith) ∙ (is.ahead e d c).0, same.pulled e d (λ q. omega arith) ∙ (is.ahead e d c).1);
    } where
      low : (round : ℕ) (voting : Bool) (e m : ℕ) → e ≡ epoch_of round voting → m + 1 ≡ round → 2 * m + 2 ≤ e
      low round true e m is next = omega arith
      low round false e m is next = omega arith
