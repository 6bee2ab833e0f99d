use Rattle.std.proofs.Common.{ℕ, [], Some, replicate, sym, ap, ◌∙◌, subst}
use Rattle.rank_handles.specs.declared.part.Part.{Part}
use Rattle.rank_handles.specs.Strings.{ElasticState}
use Rattle.rank_handles.specs.Handles.{group_in, HasNewElastic}
use Rattle.rank_handles.proofs.StringStarts.{new_fresh, new_undone, new_ranks, new_elastic}
use Rattle.rank_handles.proofs.making.make_elastic.Goals as goal

pub new-requires-in-Ok-new_rank-clause-undone : goal.new-requires-in-Ok-new_rank-clause-undone
new-requires-in-Ok-new_rank-clause-undone c = new_undone c.in-Group.group c.args.rank c.in-Ok-new_rank.made c.in-Ok-new_rank.ensures.made

pub new-requires-in-Ok-new_rank-clause-fresh : goal.new-requires-in-Ok-new_rank-clause-fresh
new-requires-in-Ok-new_rank-clause-fresh c = new_fresh c.in-Group.group c.args.rank c.in-Ok-new_rank.made c.in-Ok-new_rank.ensures.made

pub new-requires-in-Ok-new_rank-clause-begun : goal.new-requires-in-Ok-new_rank-clause-begun
new-requires-in-Ok-new_rank-clause-begun c =
    c.in-Ok-none_begun.ensures
    ∙ ap (λ (n : ℕ). replicate n []) (c.ranks.ensures ∙ sym (new_ranks c.in-Group.group c.args.rank c.in-Ok-new_rank.made c.in-Ok-new_rank.ensures.made))

pub returns-in-Ok-new_rank-clause-made : goal.returns-in-Ok-new_rank-clause-made
unfolding HasNewElastic
returns-in-Ok-new_rank-clause-made c =
    let group = c.in-Group.group in let made : ElasticState = c.new-in-Ok-new_rank.result in
    subst (λ (p : Part). HasNewElastic (group_in (Some p)) c.args.rank (Some made)) (sym c.in-Group.is)
    (subst (λ (e : ElasticState). HasNewElastic (Some group) c.args.rank (Some e)) (sym c.new-in-Ok-new_rank.ensures) (new_elastic group c.args.rank c.in-Ok-new_rank.made c.in-Ok-new_rank.ensures.made))
