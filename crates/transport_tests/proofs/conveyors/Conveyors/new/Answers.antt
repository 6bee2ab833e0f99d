use Rattle.std.proofs.Common.{◌≡◌, ◌∙◌, get_or, length, sym, ap, subst, arith}
use Rattle.list_laws.specs.Lists.{EachAt}
use Rattle.list_laws.proofs.Lists.{each_push}
use Rattle.route_tensor.specs.Grid.{ranks}
use Rattle.convey.specs.Conveyors.{IsUnusedConveyor}
use Rattle.convey.proofs.Together.{one_more, together_first, together_start}
use Rattle.transport_tests.proofs.conveyors.Conveyors.new.Goals as goal

pub loop-rank-preserved : goal.loop-rank-preserved
loop-rank-preserved g c =
    let before = c.loop-rank.sides.items in
    let one = c.in_ok-new.field-0 in
    record {
      all = one_more before _ one _ c.in_ok-push.ensures.items c.loop-rank.invariant.all;
      each = subst (EachAt (λ r s. IsUnusedConveyor c.args.grid.now r s.conveyor)) (sym c.in_ok-push.ensures.items) (each_push (λ r s. IsUnusedConveyor c.args.grid.now r s.conveyor) before one c.loop-rank.invariant.each (record {
        same_dims = c.in_ok-new.ensures.starts.same_dims;
        same_rank = c.in_ok-new.ensures.starts.same_rank ∙ sym c.loop-rank.invariant.all;
        agrees = c.in_ok-new.ensures.starts.agrees;
        sound = c.in_ok-new.ensures.starts.sound;
      }));
    }

pub invariant_of-result : goal.invariant_of-result
invariant_of-result g c =
    let same : c.in_ok-bank.bank.dims ≡ c.args.grid.now = ap (λ b. b.dims) c.in_ok-bank.ensures.made in
    let all : length c.loop-rank.sides.items ≡ ranks c.args.grid.now = omega (arith, c.loop-rank.invariant.all, c.loop-rank-test.false, c.ranks-rank-end.ensures.value) in (
      all ∙ ap ranks (sym same),
      λ d. together_start c.args.grid.now g.row.CAP c.args.slots c.in_ok-bank.bank _ c.in_ok-bank.ensures.made
          (together_first c.args.grid.now g.row.CAP c.args.slots (λ r. (get_or c.loop-rank.sides.items r d).conveyor) c.ranks-rank-end.ensures.grid
          (λ r h. c.loop-rank.invariant.each r d (omega (arith, h, all)))),
    )
