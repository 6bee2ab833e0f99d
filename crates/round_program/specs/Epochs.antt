-- The theorem over all rounds: from what each rank knows of itself to the canonical run.
use Rattle.std.specs.Prelude.{ℕ, suc, ◌+◌, ◌-◌, ◌*◌, ◌^◌, ◌<◌, ◌≤◌, ◌≡◌, ◌≢◌, min, true, false, List, [], ◌∷◌, Some}
use Rattle.std.specs.Prelude.{slice_get}
use Rattle.std.specs.List.{sum_by}
use Rattle.bale_items.specs.declared.Item.{Item}
use Rattle.list_laws.specs.Sums.{total}
use Rattle.round_program.specs.Rules.{Rules}
use Rattle.round_program.specs.Canonical.{emissions_to, absorbed_round, states_at, votes_at, HasRounds, InRound}
use Rattle.round_program.specs.Orders.{after_pulls}

-- One rank's own lists, for each epoch and each other rank. Epoch 2m is the work of round m, and
-- epoch 2m + 1 its votes.
pub record PairLists : Type 0 where
  -- pushed e d: what this rank pushed toward d in epoch e
  pub pushed : ℕ → ℕ → List Item
  -- pulled e f: what this rank pulled from f in epoch e
  pub pulled : ℕ → ℕ → List Item

-- A vote in transit: the item (vote,0,0).
abbrev pub vote_item : ℕ → Item
vote_item v = record { a = v; b = 0; c = 0 }

-- The sum of the votes that a rank pulled in round m. It saturates at 2^64 - 1.
-- Votes 0, 2 and 1 are heard as 3; with a spoiled vote among them it is 2^64 - 1.
abbrev pub heard : ℕ → PairLists → ℕ → ℕ
heard p l m = min (total p (λ f. sum_by (λ x. x.a) (l.pulled (2 * m + 1) f))) (2 ^ 64 - 1)

-- The state of a rank after the work of round m, if h m is its state as the round began.
abbrev pub after_work : {S : Type 0} → Rules S → ℕ → (ℕ → S) → PairLists → ℕ → S
after_work R p h l m = after_pulls R (h m) (l.pulled (2 * m)) p

-- What a rank that was done with the votes of round m has done in that round: it told its emissions
-- and its vote, or it was spoiled, having found no memory at the round's beginning or at an absorb,
-- and voted 2^64 - 1.
pub data Voted {S : Type 0} (R : Rules S) (p : ℕ) (h : ℕ → S) (l : PairLists) (m : ℕ) : Type 0 where
  told : ((d : ℕ) → d < p → l.pushed (2 * m) d ≡ emissions_to R (h m) d)
      → ((d : ℕ) → d < p → l.pushed (2 * m + 1) d ≡ vote_item (R.vote (after_work R p h l m)) ∷ []) → Voted R p h l m
  spoiled : ((d : ℕ) → d < p → l.pushed (2 * m + 1) d ≡ vote_item (2 ^ 64 - 1) ∷ []) → Voted R p h l m

-- What one rank knows of itself. It has completed the epochs below `completed` and was done in
-- those below `done`. An epoch of votes is completed if its sum ended the round, and not if
-- the sum told that memory ran out.
-- h m is the rank's state as round m began, or the state that it would have had with memory.
pub record Own {S : Type 0} (R : Rules S) (p completed done : ℕ) (h : ℕ → S) (l : PairLists) : Type 0 where
  pub done_low : completed ≤ done
  pub done_high : done ≤ completed + 1
  pub voted : (m : ℕ) → 2 * m + 1 < done → Voted R p h l m
  -- no round is completed on a spoiled vote
  pub unspoiled : (m : ℕ) → 2 * m + 2 ≤ completed → heard p l m ≢ 2 ^ 64 - 1
  -- a completed round ends with the votes that were heard
  pub next : (m : ℕ) → 2 * m + 2 ≤ completed → h (suc m) ≡ R.ended (after_work R p h l m) (heard p l m)
  -- a rank begins another round only if the program goes on
  pub goes : (m : ℕ) → 2 * m + 2 < done → R.goes_on (R.shape (h m)) m (heard p l m) ≡ true

-- What all ranks together know of an epoch that one of them has completed: all were done in it, and
-- what was pulled is what was pushed.
pub record Closes (p : ℕ) (completed done : ℕ → ℕ) (ls : ℕ → PairLists) : Type 0 where
  pub all_done : (r f : ℕ) → r < p → f < p → completed r ≤ done f
  pub whole : (r f e : ℕ) → r < p → f < p → e < completed r → (ls r).pulled e f ≡ (ls f).pushed e r

-- The ranks are within the canonical run, each in the round in which it is.
pub record IsCanonical {S : Type 0} (R : Rules S) (p : ℕ) (starts : List S) (completed : ℕ → ℕ) (h : ℕ → ℕ → S)
    (ls : ℕ → PairLists) : Type 0 where
  -- each state as a round begins is the canonical one
  pub states : (r m : ℕ) → r < p → 2 * m ≤ completed r → slice_get (states_at R starts m) r ≡ Some (h r m)
  -- in a round that some rank r has completed, each rank f pushed its emissions, worked to the
  -- canonical state and pushed its vote
  pub pushed : (r f d m : ℕ) → r < p → f < p → d < p → 2 * m + 2 ≤ completed r
      → (ls f).pushed (2 * m) d ≡ emissions_to R (h f m) d
  pub absorbed : (r f m : ℕ) → r < p → f < p → 2 * m + 2 ≤ completed r
      → slice_get (absorbed_round R (states_at R starts m)) f ≡ Some (after_work R p (h f) (ls f) m)
  pub votes : (r f d m : ℕ) → r < p → f < p → d < p → 2 * m + 2 ≤ completed r
      → (ls f).pushed (2 * m + 1) d ≡ vote_item (R.vote (after_work R p (h f) (ls f) m)) ∷ []
  -- and heard the canonical sum
  pub sums : (r m : ℕ) → r < p → 2 * m + 2 ≤ completed r → heard p (ls r) m ≡ votes_at R starts m
  -- no rank goes past the last round
  pub bounded : (n r : ℕ) → HasRounds R starts n → r < p → completed r ≤ 2 * n
  -- and a rank that stops has completed it
  pub stopped : (n r m : ℕ) → HasRounds R starts n → r < p → 2 * m + 2 ≤ completed r
      → R.goes_on (R.shape (h r m)) m (heard p (ls r) m) ≡ false → m + 1 ≡ n

-- At every moment, with the ranks in different rounds, each rank's states are those of the
-- canonical run.
abbrev pub EveryRunIsCanonical : {S : Type 0} → Rules S → Type 0
EveryRunIsCanonical {S} R =
    (p : ℕ) (shape : List ℕ) (most : ℕ) (starts : List S) (completed done : ℕ → ℕ) (h : ℕ → ℕ → S) (ls : ℕ → PairLists)
    → InRound R p 0 shape most starts → ((r : ℕ) (s : S) → slice_get starts r ≡ Some s → h r 0 ≡ s)
    → ((r : ℕ) → r < p → Own R p (completed r) (done r) (h r) (ls r)) → Closes p completed done ls
    → IsCanonical R p starts completed h ls
