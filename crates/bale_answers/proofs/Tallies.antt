-- The tally of lines, entry by entry.
use Rattle.std.proofs.Common.{ℕ, List, is_eq, refl, ap}
use Rattle.app_tally.specs.Counts.{by_bytes, tally_of, tally_text, IsTally}
use Rattle.app_tally.specs.laws.CountOrder.{itself, one_line}
use Rattle.app_tally.proofs.Tallied.{tally_is}
use Rattle.app_topo.proofs.Counting.{counted}
use Rattle.app_tally.specs.Meanings.{TallyMeans}

pub tally_means : (lines : List (List ℕ)) → TallyMeans lines (tally_text (tally_of lines))
tally_means lines =
    let tally : IsTally lines (tally_of lines) = tally_is lines in
    record {
      entries = tally_of lines;
      text = refl;
      tally = tally;
      printed = λ l there. tally.all l (counted (λ k. is_eq (by_bytes l k)) lines l there (ap is_eq (itself l)));
      tied = one_line;
      ties = itself;
    }
