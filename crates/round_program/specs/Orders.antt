-- The interleaving theorem: in which order a rank absorbs the items of different senders doesn't
-- matter.
use Rattle.std.specs.Prelude.{ℕ, ◌<◌, ◌≡◌, ◌≢◌, List, [], ◌∷◌, ◌++◌, Some, slice_get, if◌then◌else◌}
use Rattle.std.specs.List.{All, filter, fold}
use Rattle.bale_items.specs.declared.Item.{Item}
use Rattle.round_program.specs.Rules.{Rules}
use Rattle.round_program.specs.Laws.{fits, Fits}
use Rattle.round_program.specs.Canonical.{items_of, absorb_upto, absorbed_round, emitted_by, InRound}

-- A state after items were absorbed in the order in which they came, each with its sender.
abbrev pub absorb_each : {S : Type 0} → Rules S → S → List (ℕ × Item) → S
absorb_each R s came = fold (λ t e. R.absorbed t e.0 e.1) s came

-- Of a list of items from one sender, those that the program may be sent. A rank drops the others.
abbrev pub fitting : {S : Type 0} → Rules S → S → ℕ → List Item → List Item
fitting R s f items = filter (fits R s f) items

-- The state of a rank that was s as the round began and has pulled a list of items from each of p
-- ranks:
-- what fits is absorbed, sender by sender.
abbrev pub after_pulls : {S : Type 0} → Rules S → S → (ℕ → List Item) → ℕ → S
after_pulls R s pulled p = absorb_upto R s (λ f. fitting R s f (pulled f)) p

-- One more item was pulled, from whichever sender: if it fits, one more absorb gives the state,
-- else nothing changes.
abbrev pub OneMorePull : {S : Type 0} → Rules S → Type 0
OneMorePull {S} R =
    (s : S) (p f : ℕ) (x : Item) (old new : ℕ → List Item) → R.valid s → f < p
    → new f ≡ old f ++ x ∷ [] → ((g : ℕ) → g ≢ f → new g ≡ old g)
    → after_pulls R s new p ≡ (if fits R s f x then R.absorbed (after_pulls R s old p) f x else after_pulls R s old p)

-- Items that fit, of senders below p, absorbed as they came, give the state of absorbing them
-- sender by sender.
abbrev pub EveryOrder : {S : Type 0} → Rules S → Type 0
EveryOrder {S} R =
    (s : S) (p : ℕ) (came : List (ℕ × Item)) → R.valid s → All (λ e. (e.0 < p) × Fits R s e.0 e.1) came
    → absorb_each R s came ≡ absorb_upto R s (λ f. items_of f came) p

-- Whatever the order in which a rank absorbed the items of the senders: if from each rank they are
-- its emissions to this rank, in order, then the state is the canonical one.
abbrev pub EveryOrderIsCanonical : {S : Type 0} → Rules S → Type 0
EveryOrderIsCanonical {S} R =
    (p n : ℕ) (shape : List ℕ) (most : ℕ) (ss : List S) (r : ℕ) (s : S) (came : List (ℕ × Item))
    → InRound R p n shape most ss → slice_get ss r ≡ Some s → ((f : ℕ) → items_of f came ≡ emitted_by R ss r f)
    → slice_get (absorbed_round R ss) r ≡ Some (absorb_each R s came)
