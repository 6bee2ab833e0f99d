use Rattle.std.proofs.Common.{false, sym, subst}
use Rattle.rank_node.specs.declared.sends.Sends.TheVariants.{Emissions}
use Rattle.rank_node.specs.Movers.{manner_of, mover_state, IsNew}
use Rattle.rank_node.specs.Nodes.{IsNewNode}
use Rattle.rank_node.proofs.Fresh.{fresh_node}
use Rattle.rank_node.proofs.Onward.{seen_cap}
use Rattle.rank_node.proofs.node.Node.new.Goals as goal

pub returns : goal.returns
returns g c =
    let R = g.Q.Program.rules in
    let manner = manner_of c.args.via c.args.steady in
    let mover = mover_state c.in_ok-mover.mover in
    subst (λ q. IsNewNode R g.row.CAP c.args.grid.now manner c.args.prog (record { run = record { prog = q; round = 0; sends = Emissions; next = 0; sum = 0; spoiled = false }; mover = mover })) (sym c.in_ok-prog.ensures.ok)
    (fresh_node R g.row.CAP c.args.prog c.args.grid.now manner mover (subst (λ r. IsNew c.args.grid.now r manner mover) c.rank-rank.ensures.value c.in_ok-mover.ensures) (seen_cap c.in_ok-mover.mover) c.rank-rank.ensures.valid c.requires.all_ranks)
