-- Entries dealt out in turn: entry number turn * n + rank is a rank's one of that turn.
use Rattle.std.proofs.Common.{◌≡◌, ℕ, ◌+◌, ◌*◌, ◌<◌, ◌≤◌, ◌/◌, ◌%◌, List, [], length, get_or, ap, sym, subst, ◌∙◌, arith}
use Rattle.std.proofs.lemmas.Nat.{div-mul-add, mod-mul-add, mul-le}
use Rattle.bale_items.specs.declared.triple.Triple.{Triple}
use Rattle.app_histo_ig.specs.ColumnAnswers.{HaveSums, word_for}

pub turn_is : (n turn rank : ℕ) → rank < n → (turn * n + rank) / n ≡ turn
turn_is n turn rank low = div-mul-add turn n rank low

pub rank_is : (n turn rank : ℕ) → rank < n → (turn * n + rank) % n ≡ rank
rank_is n turn rank low = mod-mul-add turn n rank low

-- no turn comes after its entry
pub turn_low : (n turn rank e : ℕ) → rank < n → turn * n + rank ≡ e → turn ≤ e
turn_low n turn rank e low is =
    let wide : turn * 1 ≤ turn * n = mul-le turn 1 turn n (omega arith) (omega (arith, low)) in
    omega (arith, wide, is)

-- the place of an entry's word
pub word_there : (entries : List Triple) (words : List (List ℕ)) (n turn rank : ℕ) → HaveSums entries words → length words ≡ n → rank < n → turn * n + rank < length entries
    → turn < length (get_or words rank [])
word_there entries words n turn rank sums size low within =
    let here = sums.place (turn * n + rank) within in
    let there = subst (λ k. (turn * n + rank) / k < length (get_or words ((turn * n + rank) % k) [])) size here in
    let row = subst (λ r. (turn * n + rank) / n < length (get_or words r [])) (rank_is n turn rank low) there in
    subst (λ t. t < length (get_or words rank [])) (turn_is n turn rank low) row

-- the word
pub word_is : (words : List (List ℕ)) (n turn rank : ℕ) → length words ≡ n → rank < n → get_or (get_or words rank []) turn 0 ≡ word_for words (turn * n + rank)
word_is words n turn rank size low =
    ap (λ t. get_or (get_or words rank []) t 0) (sym (turn_is n turn rank low))
    ∙ ap (λ r. get_or (get_or words r []) ((turn * n + rank) / n) 0) (sym (rank_is n turn rank low))
    ∙ ap (λ k. get_or (get_or words ((turn * n + rank) % k) []) ((turn * n + rank) / k) 0) (sym size)
