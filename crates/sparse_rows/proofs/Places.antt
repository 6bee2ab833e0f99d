-- The places at which a rank keeps what it owns.
use Rattle.std.proofs.Common.{ℕ, ◌+◌, ◌*◌, ◌/◌, ◌%◌, ◌<◌, ◌≡◌, arith, sym, ap, ◌∙◌}
use Rattle.std.proofs.Math.Nat.{mod-lt}
use Rattle.std.proofs.lemmas.Nat.{div-add-mod', div_below}
use Rattle.sparse_rows.specs.Owners.{places_for}

-- a column has a place
pub place_below : (ranks cols j : ℕ) → 0 < ranks → j < cols → j / ranks < places_for ranks cols
place_below ranks cols j some low =
    let whole : cols / ranks * ranks + cols % ranks ≡ cols = div-add-mod' cols ranks in
    let part : cols % ranks < ranks = mod-lt cols some in
    let up : (cols / ranks + 1) * ranks ≡ cols / ranks * ranks + ranks = grind arith in
    div_below j ranks (places_for ranks cols) some (omega arith)

-- and of a rank's own columns each has a place of its own
pub place_own : (ranks j k : ℕ) → j % ranks ≡ k % ranks → j / ranks ≡ k / ranks → j ≡ k
place_own ranks j k same place =
    sym (div-add-mod' j ranks) ∙ ap (λ q. q * ranks + j % ranks) place ∙ ap (λ r. k / ranks * ranks + r) same ∙ div-add-mod' k ranks
