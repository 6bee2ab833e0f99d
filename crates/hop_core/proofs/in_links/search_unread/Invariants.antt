use Rattle.std.proofs.Common.{ℕ, ◌≡◌, ◌<◌, ◌≤◌, true, get_or}
use Rattle.hop_core.specs.Link.{is_empty, no_in}
use Rattle.hop_core.proofs.in_links.search_unread.Given as goal

abbrev pub invariant-loop-at : goal.invariant-loop-at
invariant-loop-at g l = (i : ℕ) → l.from ≤ i → i < l.at → is_empty (get_or l.links i no_in).parcel ≡ true
