-- What a rank sends at its start, and in a round of permute from the cells that came in the one
-- before.
use Rattle.std.proofs.Common.{◌≡◌, ℕ, zero, suc, ◌+◌, ◌-◌, ◌^◌, ◌≤◌, ◌==◌, min, List, [], ◌∷◌, map, cond, refl, sym, ap, ◌∙◌, arith}
use Rattle.std.proofs.lemmas.Bool.{ne_eqb}
use Rattle.bale_items.specs.declared.triple.Triple.{Triple}
use Rattle.sparse_rows.specs.Owners.{Numbered, row_owner, column_owner}
use Rattle.app_permute.specs.Carried.{cell_item}
use Rattle.app_permute.specs.Reorderings.{over_diagonal}
use Rattle.app_permute.specs.Permutes.{to_column, to_row}
use Rattle.app_permute.specs.code.Sent.{permute_sent, with_new_row, with_new_column}

pub entries_sent : (ranks : ℕ) (es : List Numbered) → permute_sent 0 ranks (map (λ e. e.1) es) ≡ map (λ e. (row_owner ranks e, cell_item e.1)) es
entries_sent ranks [] = refl
entries_sent ranks (e ∷ es) = ap (λ l. (row_owner ranks e, cell_item e.1) ∷ l) (entries_sent ranks es)

pub turned_sent : (ranks : ℕ) (es : List Numbered) → permute_sent 0 ranks (map (λ e. over_diagonal e.1) es) ≡ map (λ e. (column_owner ranks e, cell_item (over_diagonal e.1))) es
turned_sent ranks [] = refl
turned_sent ranks (e ∷ es) = ap (λ l. (column_owner ranks e, cell_item (over_diagonal e.1)) ∷ l) (turned_sent ranks es)

columns_sent : (ranks : ℕ) (news : List ℕ) (ts : List Triple) → permute_sent 1 ranks (map (with_new_row ranks news) ts) ≡ map (to_column ranks news) ts
columns_sent ranks news [] = refl
columns_sent ranks news (t ∷ ts) = ap (λ l. to_column ranks news t ∷ l) (columns_sent ranks news ts)

rows_sent : (ranks : ℕ) (news : List ℕ) (ts : List Triple) → permute_sent 2 ranks (map (with_new_column ranks news) ts) ≡ map (to_row ranks news) ts
rows_sent ranks news [] = refl
rows_sent ranks news (t ∷ ts) = ap (λ l. to_row ranks news t ∷ l) (rows_sent ranks news ts)

-- past the first two rounds, by their tests
past_two : {X : Type 0} (round : ℕ) (x y z : X) → 2 ≤ round → cond (round == 0) x (cond (round == 1) y z) ≡ z
past_two round x y z high = ap (λ b. cond b x (cond (round == 1) y z)) (ne_eqb round 0 (λ e. absurd (omega (arith, e, high)))) ∙ ap (λ b. cond b y z) (ne_eqb round 1 (λ e. absurd (omega (arith, e, high))))

-- after a round, cells that have their new numbers are sent as the definition of the next round
-- wants it
pub sent_after : (round next ranks : ℕ) (rows cols : List ℕ) (came kept : List Triple) → next ≡ min (round + 1) (2 ^ 64 - 1) → (2 ≤ round → came ≡ [])
    → kept ≡ cond (round == 0) (map (with_new_row ranks rows) came) (cond (round == 1) (map (with_new_column ranks cols) came) came)
    → permute_sent next ranks kept ≡ cond (round == 0) (map (to_column ranks rows) came) (cond (round == 1) (map (to_row ranks cols) came) [])
sent_after zero next ranks rows cols came kept e none k = ap (λ n. permute_sent n ranks kept) e ∙ (ap (permute_sent 1 ranks) k ∙ columns_sent ranks rows came)
sent_after (suc zero) next ranks rows cols came kept e none k = ap (λ n. permute_sent n ranks kept) e ∙ (ap (permute_sent 2 ranks) k ∙ rows_sent ranks cols came)
sent_after (suc (suc n)) next ranks rows cols came kept e none k =
    let high : 2 ≤ suc (suc n) = omega arith in
    ap (permute_sent next ranks) (k ∙ (past_two (suc (suc n)) _ _ _ high ∙ none high)) ∙ sym (past_two (suc (suc n)) _ _ _ high)
