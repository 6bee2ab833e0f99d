use Rattle.std.proofs.Common.{ℕ, List, map, sym, subst}
use Rattle.bale_items.specs.declared.item.Item.{Item}
use Rattle.rank_handles.specs.ElasticKept.{IsElastic}
use Rattle.rank_handles.proofs.StringStarts.{elastic_new}
use Rattle.rank_handles.proofs.elastic_rank.ElasticRank.new.Goals as goal

pub invariant_of-result : goal.invariant_of-result
invariant_of-result c =
    let begun : List (List Item) = map (λ l. l.items) c.args.begun.items in
    subst (λ (xs : List (ℕ × Item)). IsElastic c.args.rank xs begun) (sym c.new.ensures.items)
    (elastic_new c.args.rank begun c.requires.undone c.requires.fresh c.requires.begun)
