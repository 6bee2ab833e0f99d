-- The propagation of labels, as a program in rounds.
use Rattle.std.specs.Prelude.{ℕ, ◌+◌, ◌-◌, ◌*◌, ◌%◌, ◌^◌, ◌<◌, ◌≤◌, ◌≡◌, ◌==◌, ◌&&◌, not, nat_lt, min, Bool, false}
use Rattle.std.specs.Prelude.{List, [], ◌∷◌, map, length, slice_index_or}
use Rattle.std.specs.List.{All, filter}
use Rattle.bale_items.specs.declared.Item.{Item}
use Rattle.round_program.specs.Rules.{Rules}
use Rattle.round_program.specs.Laws.{is_item}
use Rattle.reductions.specs.declared.reduced.Reduction.TheVariants.{Least}
use Rattle.reductions.specs.Reductions.{ReducedState, at_round_begin, after_item, has_changed, vote_of}
use Rattle.components.specs.declared.labels.Link.{Link}

-- one rank's part
pub record LabelState : Type 0 where
  pub rank : ℕ
  pub ranks : ℕ
  pub round : ℕ
  -- the links from own vertices
  pub links : List Link
  -- those along which a label is sent in this round
  pub active : List Link
  -- the labels, by vertex
  pub labels : ReducedState

-- a link between vertices below n
pub record IsVertexLink (n : ℕ) (l : Link) : Type 0 where
  pub from : l.from < n
  pub to : l.to < n

-- links and labels are of vertices below the number of labels
pub record IsLabels (s : LabelState) : Type 0 where
  pub own : s.rank < s.ranks
  pub few : s.ranks ≤ 64
  pub vertices : length s.labels.cells ≤ 16_384
  pub same : length s.labels.before ≡ length s.labels.cells
  pub low : All (λ l. l < length s.labels.cells) s.labels.cells
  pub low_before : All (λ l. l < length s.labels.cells) s.labels.before
  pub linked : All (IsVertexLink (length s.labels.cells)) s.links
  pub sent : All (IsVertexLink (length s.labels.cells)) s.active

-- the label of a link's beginning, for its end, in transit to the end's owner
abbrev pub label_item : List ℕ → Link → Item
label_item before l = record { a = l.to; b = slice_index_or before l.from 0; c = 0 }

abbrev pub to_label_owner : ℕ → List ℕ → Link → ℕ × Item
to_label_owner ranks before l = (l.to % ranks, label_item before l)

-- an owner may be sent labels for its vertices
abbrev pub is_label : List ℕ → ℕ → ℕ → ℕ → ℕ → Item → Bool
is_label (n ∷ []) ranks round to from x =
    nat_lt from ranks && nat_lt to ranks && nat_lt x.a n && nat_lt x.b n && x.a % ranks == to && is_item x
is_label shape ranks round to from x = false

-- A bound on the rounds: in each but the last some label falls, and 64 ranks have 16,384 labels
-- below 16,384 at most.
abbrev pub most_label_rounds : ℕ
most_label_rounds = 64 * 16_384 * 16_384 + 1

abbrev pub label_rules : Rules LabelState
label_rules =
    record {
      valid = IsLabels;
      rank = λ s. s.rank;
      ranks = λ s. s.ranks;
      round = λ s. s.round;
      shape = λ s. length s.labels.cells ∷ [];
      most = λ s. most_label_rounds;
      emissions = λ s. map (to_label_owner s.ranks s.labels.before) s.active;
      may_be_sent = is_label;
      absorbed = λ s from x. record s { labels = after_item Least s.labels x.a x.b };
      vote = λ s. vote_of s.labels;
      goes_on = λ shape round votes. not (votes == 0);
      ended = λ s votes. record s {
        round = min (s.round + 1) (2 ^ 64 - 1);
        active = filter (λ l. has_changed s.labels l.from) s.links;
        labels = at_round_begin s.labels.cells;
      };
    }
