-- Cells come out of their items as they were.
use Rattle.std.proofs.Common.{◌<◌, ◌≤◌, ◌≡◌, ◌^◌, arith, refl, ℤ, pos, negsuc}
use Rattle.std.specs.Prelude.{nat_abs}
use Rattle.std.proofs.lemmas.Bool.Decides.{nat_tests}
use Rattle.bale_items.specs.declared.triple.Triple.{Triple}
use Rattle.bale_items.specs.Bits.{twos_complement, from_twos_complement}
use Rattle.mtx_text.proofs.Raised.{same_triple}
use Rattle.app_permute.specs.Carried.{cell_item, item_cell}

pub word_back : (z : ℤ) → nat_abs z < 2 ^ 63 → from_twos_complement (twos_complement z) ≡ z
word_back (pos n) h = grind (arith, nat_tests)
word_back (negsuc n) h = grind (arith, nat_tests)

pub word_of : (v : ℤ) → nat_abs v ≤ 1_000_000_000_000 → twos_complement v < 2 ^ 64
word_of (pos n) h = omega arith
word_of (negsuc n) h = omega arith

pub cell_back : (t : Triple) → nat_abs t.v ≤ 1_000_000_000_000 → item_cell (cell_item t) ≡ t
cell_back t h = same_triple (item_cell (cell_item t)) t refl refl (word_back t.v (omega arith))
