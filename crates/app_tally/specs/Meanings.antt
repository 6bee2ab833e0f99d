-- What tally's answer means.
use Rattle.std.specs.Prelude.{◌≡◌, ℕ, List, Contains}
use Rattle.std.specs.declared.cmp.Ordering.TheVariants.{Equal}
use Rattle.app_tally.specs.Counts.{by_bytes, times, Entry, tally_text, IsTally}

-- The bytes are a line for each entry, with a number and a line: the lines rise, each has the
-- number of times that it is among those read (`IsTally`), and each line that was read has its
-- entry. Lines tie in this order if and only if they are equal.
-- of "b", "a", "b": "1 a/2 b/", with / for LF
pub record TallyMeans (lines : List (List ℕ)) (bytes : List ℕ) : Type 0 where
  pub entries : List Entry
  pub text : bytes ≡ tally_text entries
  pub tally : IsTally lines entries
  pub printed : (l : List ℕ) → Contains lines l → Contains entries (l, times l lines)
  pub tied : (l k : List ℕ) → by_bytes l k ≡ Equal → l ≡ k
  pub ties : (l : List ℕ) → by_bytes l l ≡ Equal
