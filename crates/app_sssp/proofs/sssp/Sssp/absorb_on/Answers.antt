use Rattle.std.proofs.Common.{◌≡◌, sym, subst, refl, ◌∙◌}
use Rattle.round_program.specs.Laws.{Fits}
use Rattle.app_sssp.specs.Sssps.{sssp_rules}
use Rattle.app_sssp.specs.code.SsspView.{sssp_state}
use Rattle.app_sssp.proofs.Steps.{came_valid}
use Rattle.app_sssp.proofs.sssp.Sssp.absorb_on.Goals as goal

pub invariant_of-self-then-seat-eq0 : goal.invariant_of-self-then-seat-eq0
invariant_of-self-then-seat-eq0 c =
    came_valid (sssp_state c.self.inside) c.args.from c.args.item _ _ c.self.invariant (subst (λ s. Fits sssp_rules s c.args.from c.args.item) (sym c.self.view_is) c.requires.fits) (subst (λ s. s.round ≡ 0) (sym c.self.view_is) (sym c.requires.seat.round ∙ c.if-seat-eq0.true)) refl refl c.in_ok-raise.ensures.ok
