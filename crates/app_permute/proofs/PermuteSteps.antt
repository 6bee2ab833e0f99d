-- What a step of the code leaves, where a rank is one of permute.
use Rattle.std.proofs.Common.{ℕ, ◌+◌, ◌-◌, ◌/◌, ◌^◌, ◌<◌, ◌≤◌, ◌≡◌, ◌==◌, min, Bool, true, false, cond, List, [], map, length, arith, inl, inr, sym, ap, ◌∙◌, subst, lit<}
use Rattle.std.specs.Prelude.{nat_lt}
use Rattle.std.specs.List.{All}
use Rattle.std.proofs.lemmas.Bool.{cases_lt, eq-eqb, ne_eqb, lt-ltb, le-ltb}
use Rattle.std.proofs.lemmas.List.Elements.{All-nil}
use Rattle.bale_items.specs.declared.Item.{Item}
use Rattle.bale_items.specs.declared.triple.Triple.{Triple}
use Rattle.mtx_text.specs.Cells.{with_value_raised}
use Rattle.round_program.specs.Laws.{Fits}
use Rattle.app_permute.specs.Permutes.{PermuteState, IsPermuting, IsKeptCell, permute_rules, kept_as, to_column, to_row, permute_next_outgoing}
use Rattle.app_permute.specs.laws.PermuteLaws.{permute_laws, next_ordered}
use Rattle.app_permute.specs.code.Sent.{permute_sent, with_new_row, with_new_column}
use Rattle.app_permute.proofs.Sent.{sent_after}

-- a cell was raised or found no memory
pub raise_valid : (s : PermuteState) (b : Bool) (from : ℕ) (x : Item) (cells : List Triple) → IsPermuting s → Fits permute_rules s from x → cells ≡ cond b (with_value_raised (kept_as s.round x) s.cells) s.cells → IsPermuting (record s { cells = cells })
raise_valid s true from x cells v e h = subst (λ c. IsPermuting (record s { cells = c })) (sym h) (permute_laws.keeps s from x v e).valid
raise_valid s false from x cells v e h = subst (λ c. IsPermuting (record s { cells = c })) (sym h) v

-- the cells of an early round were taken out
taken_kept : (b : Bool) (P : Triple → Type 0) (cells : List Triple) → All P cells → All P (cond b [] cells)
taken_kept true P cells h = All-nil P
taken_kept false P cells h = h

pub taken_valid : (s : PermuteState) (cells : List Triple) → IsPermuting s → cells ≡ cond (nat_lt s.round 2) [] s.cells → IsPermuting (record s { cells = cells })
taken_valid s cells v h =
    subst (λ c. IsPermuting (record s { cells = c })) (sym h)
    (record {
      own = v.own;
      tall = v.tall;
      wide = v.wide;
      row_numbers = v.row_numbers;
      col_numbers = v.col_numbers;
      kept = taken_kept (nat_lt s.round 2) (IsKeptCell (cond (s.round == 1) s.cols s.rows) (cond (s.round == 1) s.rows s.cols) s.ranks s.rank) s.cells v.kept;
      ordered = next_ordered (nat_lt s.round 2) s.cells v.ordered;
      fit = v.fit;
    })

-- the numbers of what came stand at their places
pub rows_placed : (s : PermuteState) (came : List Triple) → IsPermuting s → came ≡ cond (nat_lt s.round 2) s.cells [] → s.round ≡ 0 → All (λ t. t.i / s.ranks < length s.new_rows) came
rows_placed s came v h z =
    let here : came ≡ s.cells = h ∙ ap (λ b. cond b s.cells []) (lt-ltb s.round 2 (omega arith)) in
    let kept : All (IsKeptCell s.rows s.cols s.ranks s.rank) s.cells =
    subst (λ b. All (IsKeptCell (cond b s.cols s.rows) (cond b s.rows s.cols) s.ranks s.rank) s.cells) (ne_eqb s.round 1 (λ e. absurd (omega arith))) v.kept in
    subst (All (λ t. t.i / s.ranks < length s.new_rows)) (sym here) (λ k d l. v.row_numbers.placed _ (kept k d l).row (kept k d l).own)

pub cols_placed : (s : PermuteState) (came : List Triple) → IsPermuting s → came ≡ cond (nat_lt s.round 2) s.cells [] → s.round ≡ 1 → All (λ t. t.i / s.ranks < length s.new_cols) came
cols_placed s came v h z =
    let here : came ≡ s.cells = h ∙ ap (λ b. cond b s.cells []) (lt-ltb s.round 2 (omega arith)) in
    let kept : All (IsKeptCell s.cols s.rows s.ranks s.rank) s.cells =
    subst (λ b. All (IsKeptCell (cond b s.cols s.rows) (cond b s.rows s.cols) s.ranks s.rank) s.cells) (eq-eqb s.round 1 z) v.kept in
    subst (All (λ t. t.i / s.ranks < length s.new_cols)) (sym here) (λ k d l. v.col_numbers.placed _ (kept k d l).row (kept k d l).own)

-- what is sent next, from what came
sent_next : (s : PermuteState) (came : List Triple) → came ≡ cond (nat_lt s.round 2) s.cells []
    → cond (s.round == 0) (map (to_column s.ranks s.new_rows) came) (cond (s.round == 1) (map (to_row s.ranks s.new_cols) came) []) ≡ permute_next_outgoing s
sent_next s came h =
    elim (cases_lt s.round 2) [
      | inl low ↦
          let here : came ≡ s.cells = h ∙ ap (λ b. cond b s.cells []) (lt-ltb s.round 2 low) in
          ap (λ c. cond (s.round == 0) (map (to_column s.ranks s.new_rows) c) (cond (s.round == 1) (map (to_row s.ranks s.new_cols) c) [])) here
      | inr high ↦
          let one : (s.round == 0) ≡ false = ne_eqb s.round 0 (λ e. absurd (omega arith)) in
          let two : (s.round == 1) ≡ false = ne_eqb s.round 1 (λ e. absurd (omega arith)) in
          let none : (rows cols : List (ℕ × Item)) → cond (s.round == 0) rows (cond (s.round == 1) cols []) ≡ [] = λ rows cols. ap (λ b. cond b rows (cond (s.round == 1) cols [])) one ∙ ap (λ b. cond b cols []) two in
          none _ _ ∙ sym (none _ _)
    ]

-- what is sent after a round, from the fields that it is read from
sent_is : (s : PermuteState) (round : ℕ) (kept came : List Triple) (rows cols : List ℕ) → round ≡ min (s.round + 1) (2 ^ 64 - 1) → came ≡ cond (nat_lt s.round 2) s.cells [] → rows ≡ s.new_rows → cols ≡ s.new_cols
    → kept ≡ cond (s.round == 0) (map (with_new_row s.ranks rows) came) (cond (s.round == 1) (map (with_new_column s.ranks cols) came) came)
    → permute_sent round s.ranks kept ≡ permute_next_outgoing s
sent_is s round kept came rows cols r c a b o =
    let none : 2 ≤ s.round → came ≡ [] = λ high. c ∙ ap (λ t. cond t s.cells []) (le-ltb s.round 2 high) in
    sent_after s.round round s.ranks rows cols came kept r none o
    ∙ ap (λ w. cond (s.round == 0) (map (to_column s.ranks w) came) (cond (s.round == 1) (map (to_row s.ranks cols) came) [])) a
    ∙ ap (λ w. cond (s.round == 0) (map (to_column s.ranks s.new_rows) came) (cond (s.round == 1) (map (to_row s.ranks w) came) [])) b
    ∙ sent_next s came c

-- the state after a round, from the fields that change
pub ended_is : (s : PermuteState) (votes round : ℕ) (kept cells came : List Triple) (rows cols : List ℕ) → round ≡ min (s.round + 1) (2 ^ 64 - 1)
    → came ≡ cond (nat_lt s.round 2) s.cells [] → cells ≡ cond (nat_lt s.round 2) [] s.cells → rows ≡ s.new_rows → cols ≡ s.new_cols
    → kept ≡ cond (s.round == 0) (map (with_new_row s.ranks rows) came) (cond (s.round == 1) (map (with_new_column s.ranks cols) came) came)
    → record s { round = round; outgoing = permute_sent round s.ranks kept; cells = cells } ≡ permute_rules.ended s votes
ended_is s votes round kept cells came rows cols r c k a b o =
    ap (λ w. record s { round = w; outgoing = permute_sent round s.ranks kept; cells = cells }) r
    ∙ ap (λ w. record s { round = min (s.round + 1) (2 ^ 64 - 1); outgoing = w; cells = cells }) (sent_is s round kept came rows cols r c a b o)
    ∙ ap (λ w. record s { round = min (s.round + 1) (2 ^ 64 - 1); outgoing = permute_next_outgoing s; cells = w }) k

pub ended_valid : (s : PermuteState) (round : ℕ) (kept cells came : List Triple) (rows cols : List ℕ) → IsPermuting s → round ≡ min (s.round + 1) (2 ^ 64 - 1)
    → came ≡ cond (nat_lt s.round 2) s.cells [] → cells ≡ cond (nat_lt s.round 2) [] s.cells → rows ≡ s.new_rows → cols ≡ s.new_cols
    → kept ≡ cond (s.round == 0) (map (with_new_row s.ranks rows) came) (cond (s.round == 1) (map (with_new_column s.ranks cols) came) came)
    → IsPermuting (record s { round = round; outgoing = permute_sent round s.ranks kept; cells = cells })
ended_valid s round kept cells came rows cols v r c k a b o =
    subst IsPermuting (sym (ended_is s 0 round kept cells came rows cols r c k a b o)) (permute_laws.next s 0 v (lit< tt)).valid
