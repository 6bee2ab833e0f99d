-- Facts on the answer Ok.
use Rattle.std.proofs.Common.{◌≡◌, Result, Ok, Err, OnOk, IfOk, refl, subst}

-- two facts are one
pub on_ok_all : {T E : Type 0} (P Q : Type 0) (r : Result T E) → OnOk r P → OnOk r Q → OnOk r (P × Q)
on_ok_all P Q (Ok x) p q = (p, q)
on_ok_all P Q (Err e) p q = tt

-- a fact that follows
pub on_ok_map : {T E : Type 0} {P Q : Type 0} (r : Result T E) → (P → Q) → OnOk r P → OnOk r Q
on_ok_map (Ok x) f p = f p
on_ok_map (Err e) f p = tt

-- a fact that follows from two
pub on_ok_both : {T E : Type 0} {P Q R : Type 0} (r : Result T E) → (P → Q → R) → OnOk r P → OnOk r Q → OnOk r R
on_ok_both (Ok x) f p q = f p q
on_ok_both (Err e) f p q = tt

-- the fact, where the answer is Ok
pub on_ok_is : {T E : Type 0} (P : Type 0) (r : Result T E) (x : T) → r ≡ Ok x → OnOk r P → P
on_ok_is P r x e p = subst (λ a. OnOk a P) e p

pub if_ok_is : {T E : Type 0} (P : T → Type 0) (r : Result T E) (x : T) → r ≡ Ok x → IfOk r P → P x
if_ok_is P r x e p = subst (λ a. IfOk a P) e p

-- a fact that is known only where the answer is Ok
pub on_ok_from : {T E : Type 0} {P : Type 0} (r : Result T E) → ((x : T) → r ≡ Ok x → P) → OnOk r P
on_ok_from (Ok x) f = f x refl
on_ok_from (Err e) f = tt

pub if_ok_from : {T E : Type 0} (P : T → Type 0) (r : Result T E) → ((x : T) → r ≡ Ok x → P x) → IfOk r P
if_ok_from P (Ok x) f = f x refl
if_ok_from P (Err e) f = tt
