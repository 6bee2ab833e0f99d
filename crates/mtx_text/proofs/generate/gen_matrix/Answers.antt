use Rattle.std.proofs.Common.{arith, sym, subst}
use Rattle.std.specs.List.{AllPairs}
use Rattle.mtx_text.proofs.BandPlaces.{places_apart, Apart}
use Rattle.mtx_text.proofs.OfCells.{lawful_apart}
use Rattle.mtx_text.proofs.generate.gen_matrix.Goals as goal

pub of_parts-requires : goal.of_parts-requires
of_parts-requires c =
    let es = c.in_ok-entries.entries.items in
    lawful_apart c.args.n c.args.n _ es c.requires.hidden.tall c.requires.hidden.tall (omega (arith, c.in_ok-entries.ensures.few, c.requires.hidden.few)) c.in_ok-entries.ensures.inside
    (subst (AllPairs Apart) (sym c.in_ok-entries.ensures.are)
    (places_apart c.args.n c.args.m c.in_ok-rows.rows.items c.in_ok-cols.cols.items _ c.in_ok-rows.ensures.permutes c.in_ok-cols.ensures.permutes))
