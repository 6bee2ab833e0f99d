use Rattle.std.proofs.Common.{length, refl, subst, sym, cond, ◌≡◌, map, slice_set}
use Rattle.std.proofs.lemmas.Option.{slice_get_read}
use Rattle.app_histo_ig.specs.Igs.{noted_query}
use Rattle.app_histo_ig.proofs.IgSteps.{note_is}
use Rattle.app_histo_ig.proofs.ig_lists.note.Goals as goal

pub returns : goal.returns
returns c =
    let items = c.args.queries.now.items in
    subst (λ b. map (λ l. l.items) (slice_set items c.args.from c.push.new.self) ≡ cond b (noted_query (map (λ l. l.items) items) c.args.from c.args.item) (map (λ l. l.items) items))
    (sym c.map_err.ensures.variant)
    (note_is (λ l. l.items) items c.args.from c.index_mut.result.now c.push.new.self c.args.item _
    (slice_get_read items (length items) c.args.from c.index_mut.result.now refl c.requires c.index_mut.ensures.value)
    c.push.ensures.items)
