-- The number that the first bytes of a line are.
use Rattle.std.specs.Prelude.{ℕ, zero, suc, ◌+◌, ◌*◌, ◌^◌, List, [], ◌∷◌}

-- The first k bytes of a list as one number, the first byte highest, with 0 for each byte that
-- there isn't.
-- front_number 2 (7, 8, 9) = 7 * 256 + 8, front_number 2 (7) = 7 * 256
abbrev pub front_number : ℕ → List ℕ → ℕ
front_number zero bytes = 0
front_number (suc k) [] = 0
front_number (suc k) (b ∷ bs) = b * 256 ^ k + front_number k bs
