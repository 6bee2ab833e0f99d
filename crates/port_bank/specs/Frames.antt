-- What a call leaves of a port, by what it had before and has after.
use Rattle.std.specs.Prelude.{◌≡◌, ◌≢◌, ℕ}
use Rattle.port_bank.specs.Port.{PortView, is_crowded, is_idle}

-- What no call on a port changes: its rank, its grid, its number of slots, and what belongs to
-- others.
pub record SamePort (old new : PortView) : Type 0 where
  pub rank : new.rank ≡ old.rank
  pub dims : new.dims ≡ old.dims
  pub slots : new.slots ≡ old.slots
  pub others : new.others ≡ old.others

-- What a collect leaves of the links out: what was posted there, and how often the port looked.
pub record SameOuts (old new : PortView) : Type 0 where
  pub sent : new.sent ≡ old.sent
  pub looks_out : new.looks_out ≡ old.looks_out

-- What a post leaves of the links in: what was collected there, and how often the port looked and
-- listened.
pub record SameIns (old new : PortView) : Type 0 where
  pub got : new.got ≡ old.got
  pub looks_in : new.looks_in ≡ old.looks_in
  pub listens : new.listens ≡ old.listens
  pub noted : new.noted ≡ old.noted

-- What a post on link l leaves of the other links out, and a collect there of the other links in.
pub record OutsElsewhere (l : ℕ) (old new : PortView) : Type 0 where
  pub sent : (m : ℕ) → m ≢ l → new.sent m ≡ old.sent m
  pub looks_out : (m : ℕ) → m ≢ l → new.looks_out m ≡ old.looks_out m
  pub crowded : (m : ℕ) → m ≢ l → is_crowded new m ≡ is_crowded old m

pub record InsElsewhere (l : ℕ) (old new : PortView) : Type 0 where
  pub got : (m : ℕ) → m ≢ l → new.got m ≡ old.got m
  pub noted : (m : ℕ) → m ≢ l → new.noted m ≡ old.noted m
  pub idle : (m : ℕ) → m ≢ l → is_idle new m ≡ is_idle old m
