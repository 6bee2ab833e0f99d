use Rattle.std.proofs.Common.{ℕ, ◌<◌, All, refl, sym, subst}
use Rattle.route_tensor.specs.Grid.{ranks}
use Rattle.query_node.specs.Lines.{HasLines}
use Rattle.query_node.specs.States.{IsFirst, IsNewBiNode}
use Rattle.query_node.proofs.Offering.{queries_below}
use Rattle.query_node.proofs.Fresh.{fresh_node}
use Rattle.query_node.proofs.bi_node.BiNode.new.Goals as goal

pub all_lines-requires : goal.all_lines-requires
all_lines-requires g c =
    let T = g.A.Asker.talk in
    record {
      receivers =
          subst (λ p. All (λ (q : ℕ × ℕ). q.0 < p) (T.queries c.in_ok-asker.asker.value)) (sym c.ranks.ensures.value)
          (subst (λ s. All (λ (q : ℕ × ℕ). q.0 < ranks c.args.grid.now) (T.queries s)) (sym c.in_ok-asker.ensures.ok)
          (queries_below T g.met.A.Asker.laws c.args.asker (ranks c.args.grid.now) c.rank-rank.ensures.valid c.requires.all_ranks));
    }

pub returns : goal.returns
returns g c =
    let T = g.A.Asker.talk in
    let dims = c.args.grid.now in
    let lines = c.in_ok-lines.lines.items in
    let q = c.in_ok-queries.queries in
    let r = c.in_ok-replies.replies in
    let has = subst (λ s. HasLines (ranks dims) (T.queries s) lines) c.in_ok-asker.ensures.ok (subst (λ p. HasLines p (T.queries c.in_ok-asker.asker.value) lines) c.ranks.ensures.value c.in_ok-lines.ensures) in
    let first : IsFirst dims (T.rank c.args.asker) c.args.steady q = subst (λ k. IsFirst dims k c.args.steady q) c.rank-rank.ensures.value c.in_ok-queries.ensures in
    let first' : IsFirst dims (T.rank c.args.asker) c.args.steady r = subst (λ k. IsFirst dims k c.args.steady r) c.rank-rank.ensures.value c.in_ok-replies.ensures in
    subst (λ s. IsNewBiNode T dims c.args.steady c.args.asker (record { asker = s; next = 0; lines = lines; queries = q; replies = r })) (sym c.in_ok-asker.ensures.ok)
    (record { node = fresh_node T c.args.asker dims (T.rank c.args.asker) c.args.steady lines q r c.rank-rank.ensures.valid refl c.requires.all_ranks has first first'; asker = refl; queries = first; replies = first' })
