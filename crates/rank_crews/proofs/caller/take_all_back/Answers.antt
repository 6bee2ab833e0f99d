use Rattle.std.proofs.Common.{◌<◌, length, refl, ap, ◌∙◌, arith}
use Rattle.std.proofs.lemmas.List.{length-map}
use Rattle.std.proofs.lemmas.Option.{slice_get_read}
use Rattle.list_laws.proofs.Lists.{map_unchanged}
use Rattle.rank_crews.specs.Children.{first_of}
use Rattle.rank_crews.proofs.caller.take_all_back.Goals as goal

pub loop-i-preserved : goal.loop-i-preserved
loop-i-preserved g c =
    let cs = c.loop-i.children.items in
    let was = c.args.children.now.items in
    let same = c.loop-i.invariant in
    let size = ap length same in
    let below = c.loop-i-test.true in
    let low : c.loop-i.i < length cs = omega (arith, below, c.len-i-end.ensures, size, length-map cs first_of, length-map was first_of) in
    let at = slice_get_read cs (length cs) c.loop-i.i c.index_mut.result.now refl low c.index_mut.ensures.value in
    map_unchanged first_of cs c.loop-i.i c.index_mut.result.now c.take_back.new.child at c.take_back.ensures.same ∙ same
