use Rattle.std.proofs.Common.{map, length, ap, refl, ◌∙◌, arith}
use Rattle.app_histo_ig.specs.Igs.{ig_rules, ig_replies_from}
use Rattle.app_histo_ig.specs.code.IgView.{ig_state}
use Rattle.app_histo_ig.proofs.IgSteps.{ended_from, ended_is}
use Rattle.app_histo_ig.proofs.ig.IgProgram.end_round.Goals as goal

pub invariant_of-self : goal.invariant_of-self
invariant_of-self c =
    record {
      state = ended_from (ig_state c.self.inside) _ c.self.inside.own.items c.self.invariant.state c.saturating_add-self-inside.ensures refl;
      count = λ e.
          c.in_ok-self-inside.ensures (omega (arith, e, c.saturating_add-self-inside.ensures)) c.self.inside.ranks c.self.inside.sums.items
          ∙ ap (λ qs. length (ig_replies_from c.self.inside.ranks c.self.inside.sums.items 0 (map (λ l. l.items) qs))) c.deref.ensures.value;
    }

pub returns-clause-ended : goal.returns-clause-ended
returns-clause-ended c =
    ended_is (ig_state c.self.inside) c.args.votes _ c.self.inside.own.items c.saturating_add-self-inside.ensures refl
    ∙ ap (λ t. ig_rules.ended t c.args.votes) c.self.view_is
