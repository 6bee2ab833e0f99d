-- Permutations of the numbers below n, as lists.
pub use Rattle.mtx_text.specs.Permutations.{Permutes}
