use Rattle.std.proofs.Common.{length, refl, Result, Ok, Err, OnErr}
use Rattle.std.proofs.lemmas.Option.{slice_get_read}
use Rattle.list_laws.proofs.Lists.{map_unchanged}
use Rattle.list_laws.proofs.Results.{on_ok_map}
use Rattle.elastic.proofs.Steps.{seen_after}
use Rattle.elastic.proofs.reading.take_from.Goals as goal

pub returns-clause-begun : goal.returns-clause-begun
returns-clause-begun c =
    let items = c.args.begun.now.items in
    on_ok_map c.take_in.result
    (λ e. seen_after (λ l. l.items) items c.args.from c.index_mut.result.now c.take_in.new.begun c.args.item
    (slice_get_read items (length items) c.args.from c.index_mut.result.now refl c.requires c.index_mut.ensures.value) e)
    c.take_in.ensures.begun

on_err_map : {T E : Type 0} {P Q : Type 0} (r : Result T E) → (P → Q) → OnErr r P → OnErr r Q
on_err_map (Ok x) f p = tt
on_err_map (Err e) f p = f p

pub returns-clause-unchanged : goal.returns-clause-unchanged
returns-clause-unchanged c =
    let items = c.args.begun.now.items in
    on_err_map c.take_in.result
    (λ e. map_unchanged (λ l. l.items) items c.args.from c.index_mut.result.now c.take_in.new.begun
    (slice_get_read items (length items) c.args.from c.index_mut.result.now refl c.requires c.index_mut.ensures.value) e)
    c.take_in.ensures.unchanged
