use Rattle.std.proofs.Common.{◌<◌, arith, sym, ◌∙◌, subst}
use Rattle.std.proofs.lemmas.List.{take_all}
use Rattle.app_permute.specs.PermuteRuns.{own_numbers}
use Rattle.app_permute.proofs.PermuteNumbers.{own_count, own_more}
use Rattle.app_permute.proofs.permute_lists.own_numbers.Goals as goal

pub loop-k-preserved : goal.loop-k-preserved
loop-k-preserved c =
    own_more c.args.ranks c.args.rank c.loop-k.k c.args.numbers.now c.loop-k.own.items c.push.new.self.items c.requires
    (subst (λ n. c.loop-k.k < n) (c.how_many-count.ensures ∙ sym (own_count c.args.ranks c.args.rank c.args.numbers.now c.requires)) c.loop-k-test.true)
    c.loop-k.invariant c.in_ok-push.ensures.items

pub returns : goal.returns
returns c =
    c.loop-k.invariant
    ∙ take_all c.loop-k.k (own_numbers c.args.ranks c.args.rank c.args.numbers.now)
    (omega (arith, c.how_many-count.ensures, own_count c.args.ranks c.args.rank c.args.numbers.now c.requires))
