use Rattle.std.proofs.Common.{◌≡◌, ◌<◌, ◌/◌, ◌%◌, Some, None, slice_get, length, get_or, sym, ap, ◌∙◌, subst}
use Rattle.std.proofs.Math.Nat.{mod-lt}
use Rattle.std.specs.Option.{option_copied}
use Rattle.app_topo.proofs.TopoEnding.{rank_found, some_ranks, column_count, column_place}
use Rattle.app_topo.proofs.topo_answer.claims_at.Goals as goal

pub nonzero_rem-j : goal.nonzero_rem-j
nonzero_rem-j c = subst (λ n. 0 < n) (sym c.len-ranks.ensures) (some_ranks c.args.m.now c.args.p.now c.requires.ended)

pub unreachable-requires : goal.unreachable-requires
unreachable-requires c =
    rank_found c.args.m.now c.args.p.now c.requires.ended (c.args.j % length c.args.p.now) (mod-lt c.args.j (some_ranks c.args.m.now c.args.p.now c.requires.ended))
    (subst (λ n. slice_get c.args.p.now (c.args.j % n) ≡ None) c.len-ranks.ensures (sym c.get.ensures ∙ ap option_copied c.in_default.is))

pub bounds-counts-j : goal.bounds-counts-j
bounds-counts-j c =
    subst (λ n. c.args.j / n < length c.counts.result.now) (sym c.len-ranks.ensures)
    (subst (λ ns. c.args.j / length c.args.p.now < length ns) (sym c.counts.ensures)
    (column_place c.args.m.now c.args.p.now c.requires.ended c.args.j c.in-Some.owner.now c.requires.column
    (subst (λ n. slice_get c.args.p.now (c.args.j % n) ≡ Some c.in-Some.owner.now) c.len-ranks.ensures (sym c.get.ensures ∙ ap option_copied c.in-Some.is))))

pub returns : goal.returns
returns c =
    ap (λ n. get_or c.counts.result.now (c.args.j / n) 0) c.len-ranks.ensures
    ∙ ap (λ ns. get_or ns (c.args.j / length c.args.p.now) 0) c.counts.ensures
    ∙ column_count c.args.m.now c.args.p.now c.requires.ended c.args.j c.in-Some.owner.now c.requires.column
    (subst (λ n. slice_get c.args.p.now (c.args.j % n) ≡ Some c.in-Some.owner.now) c.len-ranks.ensures (sym c.get.ensures ∙ ap option_copied c.in-Some.is))
