-- What a batch of items, each with its sender, makes of the lists of a rank.
use Rattle.std.specs.Prelude.{ℕ, [], ◌∷◌, ◌&&◌, nat_lt, List, if◌then◌else◌}
use Rattle.std.specs.List.{fold}
use Rattle.bale_items.specs.declared.Item.{Item}
use Rattle.round_program.specs.Laws.{is_item}
use Rattle.app_histo_ig.specs.declared.seat.Seat.{Seat}
use Rattle.app_histo_ig.specs.Owners.{with_sum_risen}
use Rattle.app_histo_ig.specs.Histos.{may_count}
use Rattle.app_histo_ig.specs.Igs.{noted_query, answered_entry}

-- The numbers of own columns after values came for them; what is for another rank's column is
-- dropped.
-- all_risen of rank 1 of 2: of (0,(7,1,0)), (0,(4,9,0)) the first alone, 1 more at place 3
abbrev pub own_risen : Seat → List ℕ → ℕ → Item → List ℕ
own_risen seat numbers from x =
    if may_count (seat.cols ∷ []) seat.ranks 0 seat.rank from x then with_sum_risen seat.ranks numbers x else numbers

abbrev pub all_risen : Seat → List ℕ → List (ℕ × Item) → List ℕ
all_risen seat numbers came = fold (λ l e. own_risen seat l e.0 e.1) numbers came

-- The queries of a rank, by sender, after more came for its columns.
abbrev pub own_noted : Seat → List (List Item) → ℕ → Item → List (List Item)
own_noted seat queries from x =
    if may_count (seat.cols ∷ []) seat.ranks 0 seat.rank from x then noted_query queries from x else queries

abbrev pub all_noted : Seat → List (List Item) → List (ℕ × Item) → List (List Item)
all_noted seat queries came = fold (λ l e. own_noted seat l e.0 e.1) queries came

-- The answers of a rank after replies of ranks came.
abbrev pub own_answered : ℕ → List ℕ → ℕ → Item → List ℕ
own_answered ranks answers from x = if nat_lt from ranks && is_item x then answered_entry ranks answers x else answers

abbrev pub all_answered : ℕ → List ℕ → List (ℕ × Item) → List ℕ
all_answered ranks answers came = fold (λ l e. own_answered ranks l e.0 e.1) answers came
