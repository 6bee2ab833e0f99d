-- Places as numbers, and what a set of them says of a list of entries.
use Rattle.std.specs.Prelude.{◌≡◌, ℕ, ◌+◌, ◌*◌, ◌==◌, ◌++◌, Bool, true, List, nat_lt}
use Rattle.std.specs.List.{list_all, list_any}
use Rattle.std.specs.Ordering.{nat_cmp}
use Rattle.std.specs.BTreeSet.{BTreeSet, contains}
use Rattle.bale_items.specs.declared.triple.Triple.{Triple}

-- A place as one number, if columns are below 65,536.
abbrev pub key_of : ℕ → ℕ → ℕ
key_of i j = i * 65_536 + j

abbrev pub has_key : ℕ → List Triple → Bool
has_key q entries = list_any (λ t. key_of t.i t.j == q) entries

abbrev pub narrow : List Triple → Bool
narrow entries = list_all (λ t. nat_lt t.j 65_536) entries

-- The set holds the places of the entries and no other.
abbrev pub Tracks : BTreeSet ℕ → List Triple → Type 0
Tracks seen entries = (q : ℕ) → contains nat_cmp seen q ≡ has_key q entries

-- Entries are added, and their places to the set.
pub record AddsTo (more old new : List Triple) (seen seen' : BTreeSet ℕ) : Type 0 where
  pub entries : new ≡ old ++ more
  pub tracks : Tracks seen old → Tracks seen' new
  pub narrow : narrow old ≡ true → narrow new ≡ true
