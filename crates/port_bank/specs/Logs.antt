-- Link logs: all parcels that were ever posted on a link, or all that its reader collected, in
-- order.
use Rattle.std.specs.Prelude.{◌≡◌, ℕ, zero, suc, ◌+◌, ◌==◌, Bool, true, List, [], ◌∷◌, ◌++◌, length, take}
use Rattle.std.specs.Prelude.{if◌then◌else◌}
use Rattle.std.specs.List.{filter}
use Rattle.list_laws.specs.Lists.{EachAt}
use Rattle.item_buffer.specs.Contents.{Shipped}
use Rattle.route_tensor.specs.Ends.{sender_at, reader_at}

-- A log for each link, by the link's number.
abbrev pub Logs : Type 0
Logs = ℕ → List Shipped

-- How many parcels of a log are marked last: so many epochs the link has ended.
-- After parcels of which the second and the third are marked last it is 2.
abbrev pub lasts : List Shipped → ℕ
lasts log = length (filter (λ p. p.last) log)

-- A log ends with a parcel marked last.
pub record EndsLast (log : List Shipped) : Type 0 where
  pub front : List Shipped
  pub final : Shipped
  pub is : log ≡ front ++ final ∷ []
  pub last : final.last ≡ true

-- How many parcels of a link are marked last, in an epoch: one more if the link has ended it.
abbrev pub lasts_in : ℕ → Bool → ℕ
lasts_in epoch through = if through then epoch + 1 else epoch

-- Segment e of a log: the parcels after the e-th parcel marked last, up to and including the next
-- one marked last, or up to the log's end. It is closed if e < lasts log.
-- With the marks no, yes, yes, no segment 0 is the first two parcels, segment 1 the third and
-- segment 2 the fourth.
abbrev pub segment : ℕ → List Shipped → List Shipped
segment e [] = []
segment zero (p ∷ ps) = p ∷ (if p.last then [] else segment zero ps)
segment (suc e) (p ∷ ps) = if p.last then segment e ps else segment (suc e) ps

-- The epoch of every parcel is the number of parcels marked last before it.
-- With the marks no, yes, no the epochs are 0, 0, 1.
abbrev pub IsDated : List Shipped → Type 0
IsDated log = EachAt (λ i p. p.epoch ≡ lasts (take i log)) log

-- The logs with one more parcel on link l.
abbrev pub with_parcel : Logs → ℕ → Shipped → Logs
with_parcel logs l p = λ m. if m == l then logs m ++ p ∷ [] else logs m

-- Of all logs, those of the links that start at rank r, or that end there; the others are empty.
abbrev pub starting_at : List ℕ → ℕ → Logs → Logs
starting_at dims r logs = λ l. if sender_at dims l == r then logs l else []

abbrev pub ending_at : List ℕ → ℕ → Logs → Logs
ending_at dims r logs = λ l. if reader_at dims l == r then logs l else []

-- Of all logs, those of the links that start elsewhere, or that end elsewhere.
abbrev pub starting_elsewhere : List ℕ → ℕ → Logs → Logs
starting_elsewhere dims r logs = λ l. if sender_at dims l == r then [] else logs l

abbrev pub ending_elsewhere : List ℕ → ℕ → Logs → Logs
ending_elsewhere dims r logs = λ l. if reader_at dims l == r then [] else logs l
