-- What a rank of ig sends in its round, read from the entries and the replies that it keeps.
use Rattle.std.specs.Prelude.{ℕ, ◌%◌, ◌==◌, nat_lt, List, [], map, if◌then◌else◌}
use Rattle.bale_items.specs.declared.Item.{Item}
use Rattle.bale_items.specs.Bits.{twos_complement}
use Rattle.sparse_rows.specs.Owners.{Numbered}
use Rattle.app_histo_ig.specs.declared.ig_sent.Own.{Own}
use Rattle.app_histo_ig.specs.Igs.{to_ask}

-- an entry as its rank keeps it
abbrev pub own_entry : Numbered → Own
own_entry e = record { number = e.0; column = e.1.j; value = twos_complement e.1.v }

-- its number and its column
abbrev pub number_and_column : Own → ℕ × ℕ
number_and_column o = (o.number, o.column)

-- round 0, or the round of sums alone: its value, in transit to its column's owner
abbrev pub to_add : ℕ → Own → ℕ × Item
to_add ranks o = (o.column % ranks, record { a = o.column; b = o.value; c = 0 })

-- round 0: values, and round 1: queries
abbrev pub sent_of_own : ℕ → ℕ → List Own → List (ℕ × Item)
sent_of_own round ranks own =
    if round == 0 then map (to_add ranks) own else map (to_ask ranks) (map number_and_column own)

-- and in round 2 the replies
abbrev pub ig_items_sent : ℕ → ℕ → List Own → List (ℕ × Item) → List (ℕ × Item)
ig_items_sent round ranks own replies =
    if nat_lt round 2 then sent_of_own round ranks own else if round == 2 then replies else []

-- where ranks ask and answer at once: the question for its column, to the column's owner
abbrev pub question_of : ℕ → Own → ℕ × ℕ
question_of ranks o = (o.column % ranks, o.column)
