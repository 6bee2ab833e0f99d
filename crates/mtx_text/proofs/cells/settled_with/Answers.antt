use Rattle.std.proofs.Common.{[], ◌∷◌, arith, sym, ◌∙◌}
use Rattle.std.proofs.lemmas.List.{length_push}
use Rattle.mtx_text.proofs.Gathered.{settled_stays, settled_more}
use Rattle.mtx_text.proofs.cells.settled_with.Goals as goal

pub returns-then-is_before : goal.returns-then-is_before
returns-then-is_before c =
    let ts = c.args.triples.now in
    record {
      within = omega (arith, length_push ts.items c.args.t, c.requires.within, ts.ok.0, c.len.ensures);
      ordered = settled_more ts.items c.args.t c.index.result.now c.args.settled (omega (arith, ts.ok.0, c.len.ensures, c.requires.within)) (omega arith) c.index.ensures
          (sym c.is_before.ensures ∙ c.if-is_before.true) c.requires.ordered;
    }

pub returns-then-settled-len : goal.returns-then-settled-len
returns-then-settled-len c = record {
  within = omega (arith, length_push c.args.triples.now.items c.args.t, c.requires.within);
  ordered = settled_stays c.args.triples.now.items (c.args.t ∷ []) c.args.settled c.requires.within c.requires.ordered;
}

pub returns : goal.returns
returns c = record {
  within = omega (arith, length_push c.args.triples.now.items c.args.t, c.requires.within);
  ordered = settled_stays c.args.triples.now.items (c.args.t ∷ []) c.args.settled c.requires.within c.requires.ordered;
}
