-- The text of numbers of four and five digits.
use Rattle.std.proofs.Common.{◌≡◌, ℕ, ◌+◌, ◌/◌, ◌%◌, ◌<◌, ◌≤◌, ◌∷◌, ◌++◌, refl, arith, ap, ap₂, ◌∙◌}
use Rattle.std.specs.Fmt.{decimal}
use Rattle.std.proofs.lemmas.Fmt.{decimal_digit}
use Rattle.itoa.proofs.Decimal.{decimal_two, decimal_pair, decimal_four, pair}
use Rattle.bale_types.specs.Digits.{four}

-- two digits and two
pub two_and_two : (n : ℕ) → pair (n / 100) ++ pair (n % 100) ≡ four n
two_and_two n =
    let a : n / 100 / 10 ≡ n / 1000 = omega arith in
    let b : n % 100 / 10 ≡ n / 10 % 10 = omega arith in
    let c : n % 100 % 10 ≡ n % 10 = omega arith in
    rw (a, b, c) refl

pub of_four : (n : ℕ) → 1000 ≤ n → n < 10000 → decimal n ≡ four n
of_four n many few =
    decimal_pair n (omega (arith, many)) (omega (arith, few))
    ∙ ap (λ ds. ds ++ pair (n % 100)) (decimal_two (n / 100) (omega (arith, many)) (omega (arith, few)))
    ∙ two_and_two n

pub of_five : (n : ℕ) → 10000 ≤ n → n < 100000 → decimal n ≡ (48 + n / 10000) ∷ four (n % 10000)
of_five n many few =
    decimal_four n many (omega (arith, few))
    ∙ ap₂ (λ top ds. top ++ ds) (decimal_digit (n / 10000) (omega (arith, few))) (two_and_two (n % 10000))
