-- A step that gave a value had one before it.
use Rattle.std.proofs.Common.{◌≡◌, ℕ, refl}
use Rattle.std.specs.Prelude.{Option, Some, None, Result, Ok, Err, ok_or}
use Rattle.mtx_text.specs.declared.refusal.Reason.{Reason}
use Rattle.mtx_text.specs.Grammar.{◌>>=◌, in_line}

pub record Ran {A B E : Type 0} (r : Result A E) (next : A → Result B E) (y : B) : Type 0 where
  pub x : A
  pub first : r ≡ Ok x
  pub then_ : next x ≡ Ok y

pub ran : {A B E : Type 0} (r : Result A E) (next : A → Result B E) (y : B) → (r >>= next) ≡ Ok y → Ran r next y
ran (Ok a) next y h = record { x = a; first = refl; then_ = h }
ran (Err e) next y h = cc

pub in_line-ok : {A : Type 0} (n : ℕ) (r : Result A Reason) (x : A) → in_line n r ≡ Ok x → r ≡ Ok x
in_line-ok n (Ok a) x h = cc
in_line-ok n (Err e) x h = cc

pub ok_or-some : {A E : Type 0} (o : Option A) (e : E) (x : A) → ok_or o e ≡ Ok x → o ≡ Some x
ok_or-some None e x h = cc
ok_or-some (Some a) e x h = cc
