-- The round of tally.
use Rattle.std.specs.Prelude.{ℕ, ◌%◌, List, map}
use Rattle.std.specs.List.{sum, flat_map}
use Rattle.bale_items.specs.declared.Item.{Item}
use Rattle.round_program.specs.Canonical.{HasRounds}
use Rattle.elastic.specs.Spelling.{spelling}
use Rattle.elastic.specs.Mails.{mail_rules}
use Rattle.app_tally.specs.Tallies.{tally_rules}
use Rattle.app_tally.specs.TallyRuns.{own_lines, tally_starts}
use Rattle.sparse_rows.specs.Emits.{Emit}

-- Each own line as one letter, to the rank that is the sum of its bytes modulo the ranks.
-- for each own line in order: to (sum of its bytes) mod ranks, the items that spell it
-- of "b", "a" on 2 ranks: rank 0 emits (1,98,0) to rank 0, rank 1 emits (1,97,0) to rank 1
abbrev pub letters : ℕ → List (List ℕ) → ℕ → List (ℕ × Item)
letters ranks lines r = flat_map (λ l. map (λ x. (sum l % ranks, x)) (spelling l)) (own_lines ranks r lines)

-- tally has one round, and in it the letters are emitted.
pub record HasTallyRounds (ranks : ℕ) (lines : List (List ℕ)) : Type 0 where
  pub rounds : HasRounds (mail_rules tally_rules) (tally_starts ranks lines) 1
  pub letters_sent : Emit (mail_rules tally_rules) (tally_starts ranks lines) 0 ranks (letters ranks lines)

abbrev pub TallyRounds : Type 0
TallyRounds = (ranks : ℕ) (lines : List (List ℕ)) → HasTallyRounds ranks lines
