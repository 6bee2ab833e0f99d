-- When a worker may stop.
use Rattle.std.specs.Prelude.{◌≡◌, ℕ, Bool, true, List, Option, IfSome, IfNone}
use Rattle.std.specs.List.{list_all}
use Rattle.std.specs.declared.sync.OnceToken.{OnceToken}

-- The run of each of its ranks is over, or it holds a token of the fallback, which exists only once
-- the fallback was called.
pub record MayStop {S T : Type 0} (over : S → Bool) (fallback : ℕ) (ranks : List S) (called : Option (OnceToken T)) : Type 0 where
  pub all_over : IfNone called (list_all over ranks ≡ true)
  pub fell_back : IfSome called (λ t. t.of ≡ fallback)
