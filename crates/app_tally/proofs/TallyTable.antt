-- The round of tally.
use Rattle.std.proofs.Common.{map, arith, refl, lit<}
use Rattle.std.proofs.lemmas.List.Folds.{flat_map-map}
use Rattle.elastic.specs.Spelling.{spelling}
use Rattle.elastic.specs.Mails.{mailing, mail_rules}
use Rattle.sparse_rows.proofs.Emitted.{emit_made}
use Rattle.app_tally.specs.Tallies.{tally_rules, counter_of}
use Rattle.app_tally.specs.TallyRuns.{own_lines, tally_begins, tally_starts}
use Rattle.app_tally.specs.TallyTable.{TallyRounds, letters}

pub tally : TallyRounds
tally ranks lines =
    record {
      rounds = record { some = lit< tt; goes = λ n l. absurd (omega arith); stops = refl };
      letters_sent = emit_made (mail_rules tally_rules) (tally_starts ranks lines) 0 ranks (λ r. mailing tally_rules (tally_begins ranks lines r)) (letters ranks lines) refl
          (λ r low. flat_map-map (λ e. map (λ x. (e.0, x)) (spelling e.1)) (λ l. (counter_of ranks l, l)) (own_lines ranks r lines));
    }
