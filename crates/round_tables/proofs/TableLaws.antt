-- Each application goes by its table.
use Rattle.std.proofs.Common.{refl}
use Rattle.elastic.specs.Mails.{mail_rules, mailing}
use Rattle.app_histo_ig.specs.Histos.{histo_rules}
use Rattle.app_histo_ig.specs.HistoRuns.{histo_begins}
use Rattle.app_histo_ig.specs.HistoTable.{ones}
use Rattle.app_histo_ig.specs.Igs.{ig_rules}
use Rattle.app_histo_ig.specs.IgRuns.{ig_begins}
use Rattle.app_histo_ig.specs.IgTable.{values, queries, replies}
use Rattle.app_histo_ig.specs.Sums.{sums_rules}
use Rattle.app_histo_ig.specs.SumsRuns.{sums_begins}
use Rattle.app_histo_ig.proofs.HistoTable.{histo}
use Rattle.app_histo_ig.proofs.IgTable.{ig, ig_sums}
use Rattle.app_permute.specs.Permutes.{permute_rules}
use Rattle.app_permute.specs.PermuteRuns.{permute_begins}
use Rattle.app_permute.specs.PermuteTable.{permute_to_rows, to_columns, to_new_rows}
use Rattle.app_permute.specs.Transposes.{transpose_rules}
use Rattle.app_permute.specs.TransposeRuns.{transpose_begins}
use Rattle.app_permute.specs.TransposeTable.{turned_entries}
use Rattle.app_permute.proofs.PermuteTable.{permute}
use Rattle.app_permute.proofs.TransposeTable.{transpose}
use Rattle.app_tally.specs.Tallies.{tally_rules}
use Rattle.app_tally.specs.TallyRuns.{tally_begins}
use Rattle.app_tally.specs.TallyTable.{letters}
use Rattle.app_tally.proofs.TallyTable.{tally}
use Rattle.round_tables.specs.Laws.{TableLaws}
use Rattle.round_tables.proofs.Tables.{follows_one, follows_three}
use Rattle.round_tables.proofs.TopoVotes.{topo_table}
use Rattle.round_tables.proofs.Sssp.{sssp_table}
use Rattle.round_tables.proofs.Delta.{delta_table}

pub table_laws : TableLaws
table_laws =
    record {
      histo = λ ranks m. follows_one histo_rules ranks (histo_begins ranks m) (ones ranks m) (λ s. refl) (histo ranks m).rounds (histo ranks m).ones_sent;
      ig = λ ranks m some is.
          let t = ig ranks m some is in
          follows_three ig_rules ranks (ig_begins ranks m) (values ranks m) (queries ranks m) (replies ranks m) (λ s. refl) t.rounds t.values_sent t.queries_sent t.replies_sent;
      sums = λ ranks m. follows_one sums_rules ranks (sums_begins ranks m) (values ranks m) (λ s. refl) (ig_sums ranks m).rounds (ig_sums ranks m).values_sent;
      permute = λ ranks m p q some is hp hq.
          let t = permute ranks m p q some is hp hq in
          follows_three permute_rules ranks (permute_begins ranks m p q) (permute_to_rows ranks m) (to_columns ranks m p) (to_new_rows ranks m p q) (λ s. refl) t.rounds t.rows_sent t.columns_sent t.new_rows_sent;
      transpose = λ ranks m. follows_one transpose_rules ranks (transpose_begins ranks m) (turned_entries ranks m) (λ s. refl) (transpose ranks m).rounds (transpose ranks m).entries_sent;
      topo = λ ranks m some square is. topo_table ranks m some square is;
      sssp = λ ranks m source some g source_in. sssp_table ranks m source some g source_in;
      delta = λ ranks m source width some few positive narrow g source_in. delta_table ranks m source width some few positive narrow g source_in;
      tally = λ ranks lines. follows_one (mail_rules tally_rules) ranks (λ r. mailing tally_rules (tally_begins ranks lines r)) (letters ranks lines) (λ s. refl) (tally ranks lines).rounds (tally ranks lines).letters_sent;
    }
