use Rattle.std.proofs.Common.{◌≡◌, [], ◌∷◌, get_or, length, sym, ap, subst, ◌∙◌, arith}
use Rattle.list_laws.specs.Lists.{EachAt}
use Rattle.list_laws.proofs.Lists.{each_push}
use Rattle.route_tensor.specs.Grid.{ranks}
use Rattle.exstack.proofs.OneHop.{dims_one}
use Rattle.transport_tests.specs.Exstacks.{StackStartsOut}
use Rattle.transport_tests.proofs.OverPlain.{one_more, together_first, together_start}
use Rattle.transport_tests.proofs.exstacks.Exstacks.new.Goals as goal

pub loop-rank-preserved : goal.loop-rank-preserved
loop-rank-preserved g c =
    let before = c.loop-rank.sides.items in
    let one = c.in_ok-new.field-0 in
    record {
      all = one_more before _ one _ c.in_ok-push.ensures.items c.loop-rank.invariant.all;
      each = subst (EachAt (λ r s. StackStartsOut g.row.CAP c.args.grid.now r s.stack)) (sym c.in_ok-push.ensures.items) (each_push (λ r s. StackStartsOut g.row.CAP c.args.grid.now r s.stack) before one c.loop-rank.invariant.each (record {
        same_ranks = c.in_ok-new.ensures.starts.same_ranks;
        same_rank = c.in_ok-new.ensures.starts.same_rank ∙ sym c.loop-rank.invariant.all;
        agrees = c.in_ok-new.ensures.starts.agrees;
        standing = c.in_ok-new.ensures.starts.standing;
      }));
    }

pub invariant_of-result : goal.invariant_of-result
invariant_of-result g c =
    let same : c.in_ok-bank.bank.dims ≡ c.args.grid.now = ap (λ b. b.dims) c.in_ok-bank.ensures.made in
    let all : length c.loop-rank.sides.items ≡ ranks c.args.grid.now = omega (arith, c.loop-rank.invariant.all, c.loop-rank-test.false, c.ranks-rank-end.ensures.value) in (
      same ∙ (sym (dims_one c.args.grid.now c.requires.one_hop) ∙ ap (λ n. n ∷ []) (sym all)),
      λ d. together_start c.args.grid.now g.row.CAP c.args.slots (length c.loop-rank.sides.items) c.in_ok-bank.bank _ c.in_ok-bank.ensures.made all
          (together_first c.args.grid.now g.row.CAP c.args.slots (λ r. (get_or c.loop-rank.sides.items r d).stack) c.ranks-rank-end.ensures.grid c.requires.one_hop
          (λ r h. c.loop-rank.invariant.each r d (omega (arith, h, all)))),
    )
