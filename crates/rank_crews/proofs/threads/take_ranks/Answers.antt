use Rattle.std.proofs.Common.{◌≡◌, true, [], ◌∷◌, ◌++◌, sym, subst, arith}
use Rattle.std.specs.List.{All, list_all}
use Rattle.std.proofs.lemmas.List.Elements.{All-push}
use Rattle.rank_crews.specs.Runs.{AllRan}
use Rattle.rank_crews.specs.Children.{first_of, HasEnded}
use Rattle.rank_crews.proofs.Joining.{one_more, ran_more, all_but_last}
use Rattle.rank_crews.proofs.threads.take_ranks.Goals as goal

pub loop-child-preserved : goal.loop-child-preserved
loop-child-preserved g c =
    let ran = AllRan (g.A.Seated.ran g.J.GateLog.notified) in
    let v = c.loop-child.invariant in
    let child = c.in-Some.child in
    let back = v.back ++ first_of child ∷ [] in
    let is = subst (λ k. ran (first_of k) c.into_ranks.result) (sym c.in-Here.is) c.into_ranks.ensures.ran in
    let parts = all_but_last (HasEnded g.A.Seated.over) c.loop-child.children.items c.pop.new.self.items child c.in-Some.ensures.items v.ended in
    let over = subst (λ xs. list_all g.A.Seated.over xs ≡ true) (sym c.into_ranks.ensures.same) (subst (HasEnded g.A.Seated.over) c.in-Here.is parts.1) in
    record {
      back = back;
      left = one_more ran first_of v.back c.loop-child.back.items c.args.children.items c.loop-child.children.items c.pop.new.self.items child v.left c.in-Some.ensures.items v.ran;
      ran = subst (λ ys. AllRan ran back ys) (sym c.push_reserved.ensures.items) (ran_more ran v.back c.loop-child.back.items (first_of child) c.into_ranks.result v.ran is);
      over = subst (λ z. All (λ xs. list_all g.A.Seated.over xs ≡ true) z) (sym c.push_reserved.ensures.items) (All-push (λ xs. list_all g.A.Seated.over xs ≡ true) c.loop-child.back.items c.into_ranks.result v.over over);
      ended = parts.0;
      room = omega (arith, v.room, c.push_reserved.ensures.capacity);
    }
