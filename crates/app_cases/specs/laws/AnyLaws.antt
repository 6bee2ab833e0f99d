-- Any of the applications is lawful, since each of them is.
use Rattle.round_program.specs.Laws.{Laws}
use Rattle.round_program.specs.EitherLaws.{either_laws}
use Rattle.app_histo_ig.specs.Histos.{histo_rules}
use Rattle.app_histo_ig.specs.Igs.{ig_rules}
use Rattle.app_histo_ig.specs.Sums.{sums_rules}
use Rattle.app_histo_ig.specs.laws.HistoLaws.{histo_laws}
use Rattle.app_histo_ig.specs.laws.IgLaws.{ig_laws}
use Rattle.app_histo_ig.specs.laws.SumsLaws.{sums_laws}
use Rattle.app_permute.specs.Permutes.{permute_rules}
use Rattle.app_permute.specs.Transposes.{transpose_rules}
use Rattle.app_permute.specs.laws.PermuteLaws.{permute_laws}
use Rattle.app_permute.specs.laws.TransposeLaws.{transpose_laws}
use Rattle.app_topo.specs.Topos.{topo_rules}
use Rattle.app_topo.specs.laws.TopoLaws.{topo_laws}
use Rattle.app_sssp.specs.Sssps.{sssp_rules}
use Rattle.app_sssp.specs.laws.SsspLaws.{sssp_laws}
use Rattle.delta_step.specs.Deltas.{delta_rules}
use Rattle.delta_step.specs.laws.DeltaLaws.{delta_laws}
use Rattle.elastic.specs.Mails.{mail_rules}
use Rattle.elastic.specs.laws.MailLaws.{mail_laws}
use Rattle.app_tally.specs.Tallies.{tally_rules}
use Rattle.app_tally.specs.laws.TallyLaws.{tally_laws}
use Rattle.app_cases.specs.Any.{gather_rules, column_rules, move_rules, walk_rules, order_rules, last_rules}
use Rattle.app_cases.specs.Any.{other_rules, any_rules}

gather_laws : Laws gather_rules
gather_laws = either_laws ig_rules sums_rules ig_laws sums_laws

column_laws : Laws column_rules
column_laws = either_laws histo_rules gather_rules histo_laws gather_laws

move_laws : Laws move_rules
move_laws = either_laws permute_rules transpose_rules permute_laws transpose_laws

walk_laws : Laws walk_rules
walk_laws = either_laws sssp_rules delta_rules sssp_laws delta_laws

order_laws : Laws order_rules
order_laws = either_laws topo_rules (mail_rules tally_rules) topo_laws (mail_laws tally_rules tally_laws)

last_laws : Laws last_rules
last_laws = either_laws order_rules walk_rules order_laws walk_laws

other_laws : Laws other_rules
other_laws = either_laws move_rules last_rules move_laws last_laws

pub any_laws : Laws any_rules
any_laws = either_laws column_rules other_rules column_laws other_laws
