-- The canonical run: what the programs of all ranks compute together, with no word on how items
-- travel.
use Rattle.std.specs.Prelude.{ℕ, zero, suc, ◌+◌, ◌-◌, ◌^◌, ◌<◌, ◌≤◌, ◌≡◌, ◌==◌, min, true, false, List, [], ◌∷◌, Option}
use Rattle.std.specs.Prelude.{None, Some, map, length, slice_get}
use Rattle.std.specs.List.{filter, fold, sum_by}
use Rattle.bale_items.specs.declared.Item.{Item}
use Rattle.round_program.specs.Rules.{Rules}

-- Of pairs of a rank and an item, the items of one rank, in order.
-- Of the pairs (1,x), (0,y), (1,z) those of rank 1 are x, z.
abbrev pub items_of : ℕ → List (ℕ × Item) → List Item
items_of r pairs = map (λ e. e.1) (filter (λ e. e.0 == r) pairs)

-- The items that a program sends to rank d in its round, in order.
-- If it emits x to 1, y to 0 and z to 1, it sends x, z to rank 1.
abbrev pub emissions_to : {S : Type 0} → Rules S → S → ℕ → List Item
emissions_to R s d = items_of d (R.emissions s)

-- What a program sends to rank d, if there is a program.
abbrev pub emitted_of : {S : Type 0} → Rules S → Option S → ℕ → List Item
emitted_of R None d = []
emitted_of R (Some s) d = emissions_to R s d

-- What the rank numbered f of a list of programs sends to rank d; nothing if there is no rank f.
abbrev pub emitted_by : {S : Type 0} → Rules S → List S → ℕ → ℕ → List Item
emitted_by R ss d f = emitted_of R (slice_get ss f) d

-- A state after items of one sender were absorbed in order.
-- absorb_all R s 3 (x, y) is R.absorbed (R.absorbed s 3 x) 3 y.
abbrev pub absorb_all : {S : Type 0} → Rules S → S → ℕ → List Item → S
absorb_all R s from items = fold (λ t x. R.absorbed t from x) s items

-- A state after a list of items of each of the senders 0, 1, .., n - 1 was absorbed, sender by
-- sender.
-- absorb_upto R s lists 2 is s after the items lists 0 of rank 0 and then lists 1 of rank 1.
abbrev pub absorb_upto : {S : Type 0} → Rules S → S → (ℕ → List Item) → ℕ → S
absorb_upto R s lists zero = s
absorb_upto R s lists (suc n) = absorb_all R (absorb_upto R s lists n) n (lists n)

-- The programs after the absorbs of a round: each has absorbed what ranks 0, 1, .. send it, in this
-- order.
abbrev pub absorbed_round : {S : Type 0} → Rules S → List S → List S
absorbed_round R ss = map (λ s. absorb_upto R s (emitted_by R ss (R.rank s)) (length ss)) ss

-- The sum of the programs' votes. It saturates at 2^64 - 1.
-- Programs that vote 0, 2 and 1 have the sum 3.
abbrev pub vote_sum : {S : Type 0} → Rules S → List S → ℕ
vote_sum R ss = min (sum_by R.vote ss) (2 ^ 64 - 1)

-- The programs after every one of them has ended the round with the sum of their votes.
abbrev pub end_all : {S : Type 0} → Rules S → List S → List S
end_all R ss = map (λ s. R.ended s (vote_sum R ss)) ss

-- The programs after a whole round: absorbs, then votes, then every rank ends the round with their
-- sum.
abbrev pub after_whole_round : {S : Type 0} → Rules S → List S → List S
after_whole_round R ss = end_all R (absorbed_round R ss)

-- The programs at the beginning of round n of the canonical run.
abbrev pub states_at : {S : Type 0} → Rules S → List S → ℕ → List S
states_at R starts zero = starts
states_at R starts (suc n) = after_whole_round R (states_at R starts n)

-- The sum of the votes of round n of the canonical run.
abbrev pub votes_at : {S : Type 0} → Rules S → List S → ℕ → ℕ
votes_at R starts n = vote_sum R (absorbed_round R (states_at R starts n))

-- The number of items that all ranks together send in round n of the canonical run.
abbrev pub items_at : {S : Type 0} → Rules S → List S → ℕ → ℕ
items_at R starts n = sum_by (λ s. length (R.emissions s)) (states_at R starts n)

-- The shape of a run, which all its ranks share: that of its first program.
abbrev pub shape_of : {S : Type 0} → Rules S → List S → List ℕ
shape_of R [] = []
shape_of R (s ∷ ss) = R.shape s

-- The canonical run has n rounds: it goes on after each round but the last, whose number is n - 1.
-- A run of histo has 1 round, a run of ig 3.
pub record HasRounds {S : Type 0} (R : Rules S) (starts : List S) (n : ℕ) : Type 0 where
  pub some : 0 < n
  pub goes : (m : ℕ) → m + 1 < n → R.goes_on (shape_of R starts) m (votes_at R starts m) ≡ true
  pub stops : R.goes_on (shape_of R starts) (n - 1) (votes_at R starts (n - 1)) ≡ false

-- The canonical run ends, after at most so many rounds. A run of ig ends within 3.
pub record EndsWithin {S : Type 0} (R : Rules S) (starts : List S) (most : ℕ) : Type 0 where
  pub rounds : ℕ
  pub has_rounds : HasRounds R starts rounds
  pub at_most : rounds ≤ most

-- Programs in the states in which the canonical run leaves them: those after its last round.
pub record HaveEnded {S : Type 0} (R : Rules S) (starts ends : List S) : Type 0 where
  pub rounds : ℕ
  pub has_rounds : HasRounds R starts rounds
  pub states : ends ≡ states_at R starts rounds

-- A program of rank r in round n of a run of p ranks, with the shape and the bound that all ranks
-- of the run share.
pub record Member {S : Type 0} (R : Rules S) (p n : ℕ) (shape : List ℕ) (most r : ℕ) (s : S) : Type 0 where
  pub valid : R.valid s
  pub own_rank : R.rank s ≡ r
  pub all_ranks : R.ranks s ≡ p
  pub same_round : R.round s ≡ n
  pub same_shape : R.shape s ≡ shape
  pub same_most : R.most s ≡ most

-- The programs of p ranks that are in round n of one run: the program at place r has rank r.
pub record InRound {S : Type 0} (R : Rules S) (p n : ℕ) (shape : List ℕ) (most : ℕ) (ss : List S) : Type 0 where
  pub size : length ss ≡ p
  pub each : (r : ℕ) (s : S) → slice_get ss r ≡ Some s → Member R p n shape most r s
