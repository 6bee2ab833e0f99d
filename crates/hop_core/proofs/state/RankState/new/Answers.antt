use Rattle.std.proofs.Common.{sym, ap, refl, ◌≡◌, ◌∙◌, length}
use Rattle.route_tensor.specs.Routes.{Site}
use Rattle.route_tensor.specs.Link.{links_before}
use Rattle.hop_core.proofs.Epochs.{new_kept}
use Rattle.hop_core.proofs.state.RankState.new.Goals as goal

pub invariant_of-result : goal.invariant_of-result
invariant_of-result g c =
    let d : c.in_ok-routes.routes.dims ≡ c.args.grid.now = ap (λ (s : Site). s.dims) c.in_ok-routes.ensures in
    let h : length c.in_ok-routes.routes.dims ≡ g.row.HOPS = ap length d ∙ c.requires.hops in
    let n = c.neighbours-neighbours.ensures in (
      h,
      rw (c.in_ok-links_out.ensures, c.in_ok-links_in.ensures, n.value)
          (new_kept _ _ _ _ _ _ n.grid n.rank c.requires.cap refl (c.first_of-from.ensures.value ∙ ap (links_before c.in_ok-routes.routes.dims) (sym h)) c.first_of-from.ensures.within),
    )
