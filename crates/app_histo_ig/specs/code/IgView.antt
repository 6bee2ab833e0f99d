-- The state of a rank of ig, read from the fields.
use Rattle.std.specs.Prelude.{◌≡◌, ℕ, List, map, length}
use Rattle.bale_items.specs.declared.Item.{Item}
use Rattle.app_histo_ig.specs.declared.ig.Ig.TheInside.{Inside}
use Rattle.app_histo_ig.specs.Igs.{IgState, IsIg, ig_replies_from}
use Rattle.app_histo_ig.specs.code.IgSent.{number_and_column, ig_items_sent}

-- the replies to all queries that came
abbrev pub all_replies : Inside → List (ℕ × Item)
all_replies s = ig_replies_from s.ranks s.sums.items 0 (map (λ l. l.items) s.queries.items)

abbrev pub ig_state : Inside → IgState
ig_state s =
    record {
      rank = s.rank;
      ranks = s.ranks;
      round = s.round;
      cols = s.cols;
      own = map number_and_column s.own.items;
      sums = s.sums.items;
      queries = map (λ l. l.items) s.queries.items;
      outgoing = ig_items_sent s.round s.ranks s.own.items (all_replies s);
      answers = s.answers.items;
    }

-- in round 2 it is known how many replies are sent
pub record IsIgInside (s : Inside) : Type 0 where
  pub state : IsIg (ig_state s)
  pub count : s.round ≡ 2 → s.asked ≡ length (all_replies s)
