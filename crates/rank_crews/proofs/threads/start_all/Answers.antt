use Rattle.std.proofs.Common.{◌≡◌, ◌++◌, length, map, reverse, slice_get, Some, sym, subst, arith}
use Rattle.rank_crews.specs.Children.{first_of, is_there}
use Rattle.rank_crews.proofs.Joining.{placed_one, started_more}
use Rattle.rank_crews.proofs.threads.start_all.Goals as goal

pub loop-ranks-preserved : goal.loop-ranks-preserved
loop-ranks-preserved g c =
    let cs = c.loop-ranks.children.items in
    let all = c.args.all.items in
    let v = c.loop-ranks.invariant in
    let rest = c.pop.new.self.items in
    let ranks = c.in-Some.ranks in
    let child = c.place.result in
    let same = placed_one first_of cs all c.loop-ranks.all.items rest child ranks v.same c.in-Some.ensures.items c.place.ensures.first in
    let size = same.1 in
    record {
      same = subst (λ xs. map first_of xs ++ reverse rest ≡ reverse all) (sym c.push_reserved.ensures.items) same.0;
      room = omega (arith, v.room, c.push_reserved.ensures.capacity);
      started = λ k d at there. started_more is_there (length all) c.args.threads.number cs child v.started
          (λ is. let low = c.place.ensures.limit is in omega (arith, low, size, c.len-worker.ensures)) k d
          (subst (λ xs. slice_get xs k ≡ Some d) c.push_reserved.ensures.items at) there;
    }
