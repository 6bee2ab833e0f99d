-- What a rank knows of its links. The lists of a rank go by the number of the link; the places of
-- links that are not its own are unused.
use Rattle.std.specs.Prelude.{ℕ, suc, ◌+◌, ◌∷◌, ◌++◌, Bool, false, List, [], take, length, slice_index_or, slice_set}

-- The sender's side of a link: the parcels that it posted, in order; the numbers below which it may
-- post; how many parcels had been posted when it last rang; how often it looked for room; and how
-- often its reader had heard the doorbell when it last rang.
-- Example: with 2 slots, after two posts and a third that found no room, `sent` has two parcels,
-- and `room` is 2.
pub record OutLog (T : Type 0) : Type 0 where
  pub sent : List T
  pub room : ℕ
  pub offered : ℕ
  pub looks : ℕ
  pub rung_at : ℕ

-- The reader's side of a link: the parcels that it saw posted, in order, and how many of them it
-- has taken; whether the link is marked as rung; how often the reader heard the link's doorbell,
-- how often it then found the link's bit, and how often it looked in; and how often the sender had
-- looked for room when the latest parcel was released.
pub record InLog (T : Type 0) : Type 0 where
  pub seen : List T
  pub taken : ℕ
  pub marked : Bool
  pub hears : ℕ
  pub heard : ℕ
  pub look_ins : ℕ
  pub released_at : ℕ

module _ {T : Type 0} where
  -- All that the reader collected, in order: the first of those that it saw.
  abbrev pub got : InLog T → List T
  got i = take i.taken i.seen

  -- How often the reader listened for the link: the hears of its doorbell and the looks into the
  -- link.
  abbrev pub listens : InLog T → ℕ
  listens i = i.hears + i.look_ins

module _ {T : Type 0} where
  -- One parcel more is posted; all that are posted are offered, if the reader had heard the
  -- doorbell so often; one parcel more is taken, if the sender had looked for room so often.
  abbrev pub sent_more : OutLog T → T → OutLog T
  sent_more o p = record o { sent = o.sent ++ p ∷ [] }

  abbrev pub all_offered : OutLog T → ℕ → OutLog T
  all_offered o hears = record o { offered = length o.sent; rung_at = hears }

  abbrev pub taken_more : InLog T → ℕ → InLog T
  taken_more i looks = record i { taken = suc i.taken; released_at = looks }

  -- A look for room found every slot taken: the sender may post no more, and nothing else is
  -- changed.
  abbrev pub found_full : OutLog T → OutLog T
  found_full o = record o { room = length o.sent; looks = suc o.looks }

pub record Lists (T : Type 0) : Type 0 where
  pub outs : List (OutLog T)
  pub ins : List (InLog T)

module _ {T : Type 0} where
  abbrev pub no_out : OutLog T
  no_out = record { sent = []; room = 0; offered = 0; looks = 0; rung_at = 0 }

  abbrev pub no_in : InLog T
  no_in =
      record { seen = []; taken = 0; marked = false; hears = 0; heard = 0; look_ins = 0; released_at = 0 }

  abbrev pub out_of : Lists T → ℕ → OutLog T
  out_of x l = slice_index_or x.outs l no_out

  abbrev pub in_of : Lists T → ℕ → InLog T
  in_of x l = slice_index_or x.ins l no_in

  abbrev pub with_out : Lists T → ℕ → OutLog T → Lists T
  with_out x l o = record { outs = slice_set x.outs l o; ins = x.ins }

  abbrev pub with_in : Lists T → ℕ → InLog T → Lists T
  with_in x l i = record { outs = x.outs; ins = slice_set x.ins l i }

  -- what the rank posted on each link, and what it collected of each
  abbrev pub sent_of : Lists T → ℕ → List T
  sent_of x l = (out_of x l).sent

  abbrev pub got_of : Lists T → ℕ → List T
  got_of x l = got (in_of x l)
