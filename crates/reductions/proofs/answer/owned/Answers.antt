use Rattle.std.proofs.Common.{◌≡◌, ◌+◌, [], ◌∷◌, ◌++◌, arith, sym, ap, ◌∙◌}
use Rattle.std.proofs.lemmas.List.FromFn.{map-range_with_len_more}
use Rattle.reductions.specs.Answers.{cell_of, owned_values}
use Rattle.reductions.proofs.answer.owned.Goals as goal

pub loop-key-preserved : goal.loop-key-preserved
loop-key-preserved g c =
    let cells = g.Q.HasCells.cells_of in
    c.in_ok-push.ensures.items ∙ ap (λ xs. xs ++ c.cell_of.result ∷ []) c.loop-key.invariant
    ∙ ap (λ x. owned_values cells c.args.progs.now c.loop-key.key ++ x ∷ []) c.cell_of.ensures
    ∙ sym (map-range_with_len_more (cell_of cells c.args.progs.now) 0 c.loop-key.key c.loop-key.key (omega arith))

pub returns : goal.returns
returns g c =
    c.loop-key.invariant ∙ ap (owned_values g.Q.HasCells.cells_of c.args.progs.now)
    (let e : c.loop-key.key ≡ c.args.count = omega (arith, c.loop-key-test.false, c.loop-key.auto.key-end) in e)
