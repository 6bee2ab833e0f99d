-- Cells are reduced in either order with the same outcome.
use Rattle.std.proofs.Common.{ℕ, ◌^◌, ◌<◌, ◌≡◌, min, Bool, true, false, cond, length, All, arith, ap, lit<}
use Rattle.list_laws.proofs.Lists.{changed_comm, changed_len, changed_all}
use Rattle.reductions.specs.declared.reduced.Reduction.{Reduction}
use Rattle.reductions.specs.declared.reduced.Reduction.TheVariants.{Least, Greatest, Sum}
use Rattle.reductions.specs.Reductions.{ReducedState, combination, after_item, vote_of}

combined_comm : (how : Reduction) (c x y : ℕ) → combination how (combination how c x) y ≡ combination how (combination how c y) x
combined_comm Least c x y = omega arith
combined_comm Greatest c x y = omega arith
combined_comm Sum c x y = omega arith

-- what comes for any two keys
pub reduced_comm : (how : Reduction) (s : ReducedState) (k x l y : ℕ) → after_item how (after_item how s k x) l y ≡ after_item how (after_item how s l y) k x
reduced_comm how s k x l y =
    ap (λ cs. record { before = s.before; cells = cs }) (changed_comm s.cells k l 0 (λ c. combination how c x) (λ c. combination how c y) (λ e c. combined_comm how c x y))

-- the number of cells stays
pub reduced_len : (how : Reduction) (s : ReducedState) (k x : ℕ) → length (after_item how s k x).cells ≡ length s.cells
reduced_len how s k x = changed_len s.cells k 0 (λ c. combination how c x)

-- cells stay below a bound
pub least_below : (s : ReducedState) (k x bound : ℕ) → All (λ c. c < bound) s.cells → All (λ c. c < bound) (after_item Least s k x).cells
least_below s k x bound low = changed_all (λ c. c < bound) s.cells k 0 (λ c. min c x) (λ c h. omega arith) low

pub vote_low : (s : ReducedState) → vote_of s < 2 ^ 32
vote_low s = low _
  where
    low : (b : Bool) → cond b 0 1 < 2 ^ 32
    low true = lit< tt
    low false = lit< tt
