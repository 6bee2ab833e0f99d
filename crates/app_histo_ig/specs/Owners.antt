-- Numbers that owners keep of their columns.
use Rattle.std.specs.Prelude.{ℕ, ◌+◌, ◌%◌, ◌/◌, ◌^◌, List}
use Rattle.bale_items.specs.declared.Item.{Item}
use Rattle.list_laws.specs.Lists.{changed_at}

-- The number of column a rises by b, modulo 2^64, in the list of its owner.
-- risen 2 numbers (7,1,0): 1 more at place 3
abbrev pub with_sum_risen : ℕ → List ℕ → Item → List ℕ
with_sum_risen ranks numbers x = changed_at numbers (x.a / ranks) 0 (λ v. (v + x.b) % 2 ^ 64)
