-- Numbers that rise at their places.
use Rattle.std.proofs.Common.{ℕ, ◌+◌, ◌/◌, ◌%◌, ◌^◌, ◌≡◌, List, length, arith}
use Rattle.bale_items.specs.declared.Item.{Item}
use Rattle.list_laws.proofs.Lists.{changed_comm, changed_len}
use Rattle.app_histo_ig.specs.Owners.{with_sum_risen}

-- two rises commute, wherever they are
pub risen_comm : (ranks : ℕ) (numbers : List ℕ) (x y : Item)
    → with_sum_risen ranks (with_sum_risen ranks numbers x) y ≡ with_sum_risen ranks (with_sum_risen ranks numbers y) x
risen_comm ranks numbers x y =
    changed_comm numbers (x.a / ranks) (y.a / ranks) 0 (λ v. (v + x.b) % 2 ^ 64) (λ v. (v + y.b) % 2 ^ 64)
    (λ e v. omega arith)

pub risen_len : (ranks : ℕ) (numbers : List ℕ) (x : Item) → length (with_sum_risen ranks numbers x) ≡ length numbers
risen_len ranks numbers x = changed_len numbers (x.a / ranks) 0 (λ v. (v + x.b) % 2 ^ 64)
