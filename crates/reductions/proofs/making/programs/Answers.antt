use Rattle.std.proofs.Common.{◌≡◌, IfOk, map, arith, subst, ap, ◌∙◌}
use Rattle.std.specs.List.{range_with_len}
use Rattle.sparse_rows.proofs.Starts.{made_more}
use Rattle.reductions.proofs.making.programs.Goals as goal

pub loop-rank-preserved : goal.loop-rank-preserved
loop-rank-preserved g c f made =
    made_more f c.loop-rank.rank c.loop-rank.progs c.add.new.self c.in_ok-make.field-0 (c.loop-rank.invariant f made)
    (subst (λ q. IfOk q (λ s. s ≡ f c.loop-rank.rank)) c.in_ok-make.was (made c.loop-rank.rank c.make.result c.loop-rank-test.true c.make.ensures))
    c.in_ok-add.ensures.added

pub returns : goal.returns
returns g c f made =
    c.loop-rank.invariant f made ∙ ap (λ n. map f (range_with_len 0 n)) (let e : c.loop-rank.rank ≡ c.args.ranks = omega (arith, c.loop-rank-test.false, c.loop-rank.auto.rank-end) in e)
