-- Strings of bytes over an exchange of items: what contracts see of an elastic rank.
use Rattle.std.specs.Prelude.{ℕ, ◌==◌, ◌&&◌, if◌then◌else◌, List, [], ◌∷◌, ◌++◌, Option}
use Rattle.bale_items.specs.declared.item.Item.{Item}
use Rattle.port_bank.specs.Machine.{Part, ItemLists}
use Rattle.round_program.specs.Canonical.{items_of}
use Rattle.elastic.specs.Spelling.{letters_of}
use Rattle.rank_handles.specs.Seated.{Seated, part}

-- A list of strings for each epoch and rank.
abbrev pub StringLists : Type 0
StringLists = ℕ → ℕ → List (List ℕ)

-- The strings that lists of items spell: the whole ones, in order.
abbrev pub strings_of : ItemLists → StringLists
strings_of lists = λ e r. letters_of (lists e r)

-- The lists with one more string at an epoch and a rank.
abbrev pub with_string : StringLists → ℕ → ℕ → List ℕ → StringLists
with_string lists e r s = λ f q. if (f == e) && (q == r) then lists f q ++ s ∷ [] else lists f q

-- A rank that sends and receives strings. pending: the items of the latest string that are still to
-- be pushed, each with the rank that it goes to. string: the string that the latest pull gave, if
-- it gave one.
pub record ElasticState : Type 0 where
  pub rank : Seated
  pub pending : List (ℕ × Item)
  pub string : Option (List ℕ)

-- What a rank pushed toward each rank in each epoch, followed in its present one by what is pending
-- toward it.
-- If x was pushed toward rank 3, and y and z are pending toward it, it is [x, y, z].
abbrev pub pushed_with : Part → List (ℕ × Item) → ItemLists
pushed_with p pending = λ e r. p.pushed e r ++ (if e == p.epoch then items_of r pending else [])

-- The strings pushed toward each rank, and those pulled of each, in each epoch.
abbrev pub strings_toward : ElasticState → StringLists
strings_toward s = strings_of (pushed_with (part s.rank) s.pending)

abbrev pub strings_from : ElasticState → StringLists
strings_from s = strings_of (part s.rank).pulled
