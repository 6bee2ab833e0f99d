use Rattle.std.proofs.Common.{Some, slice_get, map, sym, ap, ◌∙◌}
use Rattle.list_laws.proofs.Lists.{get_map}
use Rattle.app_tally.specs.Tallies.{tally_rules, counter_of}
use Rattle.app_tally.proofs.TallyRounds.{counters_back}
use Rattle.app_tally.proofs.tally.TallyLetterProgram.to.Goals as goal

pub returns : goal.returns
returns c =
    ap (λ s. slice_get (map (λ e. e.0) (tally_rules.letters s)) c.args.i) (sym c.self.view_is)
    ∙ ap (λ ls. slice_get ls c.args.i) (counters_back c.self.inside.ranks c.self.inside.own)
    ∙ get_map (counter_of c.self.inside.ranks) c.self.inside.own c.args.i c.at.result.now c.at.ensures ∙ ap Some (sym c.counter_of.ensures)
