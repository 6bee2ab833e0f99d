use Rattle.std.proofs.Common.{◌<◌, ◌^◌, arith, sym, subst}
use Rattle.round_program.specs.Laws.{Fits}
use Rattle.app_histo_ig.specs.Histos.{histo_rules}
use Rattle.app_histo_ig.specs.laws.HistoLaws.{count_small}
use Rattle.app_histo_ig.specs.code.HistoView.{histo_state}
use Rattle.app_histo_ig.proofs.histo.HistoProgram.absorb.Goals as goal

pub overflow_cast-place : goal.overflow_cast-place
overflow_cast-place c =
    let low : c.args.item.a < 2 ^ 32 =
    count_small (histo_state c.self.inside) c.args.from c.args.item c.self.invariant (subst (λ s. Fits histo_rules s c.args.from c.args.item) (sym c.self.view_is) c.requires) in
    omega arith
