-- The runs of tally: how its programs begin, and what it is to have ended.
use Rattle.std.specs.Prelude.{ℕ, ◌%◌, ◌≤◌, List, [], map}
use Rattle.std.specs.List.{All, range_with_len, enumerate_from}
use Rattle.round_program.specs.Canonical.{HaveEnded}
use Rattle.sparse_rows.specs.Deals.{dealt}
use Rattle.elastic.specs.Spelling.{IsLetter}
use Rattle.elastic.specs.Mails.{MailState, mailing, mail_rules}
use Rattle.app_tally.specs.Tallies.{TallyState, tally_rules}

-- The lines of a rank: line number e, from 0, belongs to rank e mod ranks.
-- Of "b", "a", "b", "", "a b" on 2 ranks, rank 1 has "a" and "".
abbrev pub own_lines : ℕ → ℕ → List (List ℕ) → List (List ℕ)
own_lines ranks rank lines = map (λ e. e.1) (dealt (λ (e : ℕ × List ℕ). e.0 % ranks) rank (enumerate_from 0 lines))

-- A rank as tally begins.
abbrev pub tally_begins : ℕ → List (List ℕ) → ℕ → TallyState
tally_begins ranks lines rank =
    record { rank = rank; ranks = ranks; round = 0; own = own_lines ranks rank lines; came = [] }

-- All ranks as tally begins, each in its mailer.
abbrev pub tally_starts : ℕ → List (List ℕ) → List (MailState TallyState)
tally_starts ranks lines = map (λ r. mailing tally_rules (tally_begins ranks lines r)) (range_with_len 0 ranks)

-- Mailers that have run tally on lines to its end.
pub record TallyEnded (lines : List (List ℕ)) (programs : List (MailState TallyState)) : Type 0 where
  pub ranks : ℕ
  pub some : 1 ≤ ranks
  pub letters : All IsLetter lines
  pub ended : HaveEnded (mail_rules tally_rules) (tally_starts ranks lines) programs
