-- The line that stands for an answer under --gen.
use Rattle.std.specs.Prelude.{ℕ, ◌==◌, List, [], ◌∷◌, ◌++◌, length, codes, decimal, if◌then◌else◌}
use Rattle.std.specs.List.{sum_by}

-- How many bytes end a line.
abbrev pub ends_line : ℕ → ℕ
ends_line b = if b == 10 then 1 else 0

-- The numbers of LF bytes and of bytes, and the sum of the bytes.
-- "1 1/2 2/", with / for LF, gives "lines 2 bytes 8 sum 282/".
unfoldable pub summary_of : List ℕ → List ℕ
summary_of bytes =
    codes "lines " ++ decimal (sum_by ends_line bytes)
    ++ (codes " bytes " ++ decimal (length bytes)
    ++ (codes " sum " ++ decimal (sum_by (λ b. b) bytes) ++ 10 ∷ []))
