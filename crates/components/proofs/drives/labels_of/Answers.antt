use Rattle.std.proofs.Common.{◌≡◌, ◌≤◌, sym, subst, All, length, ap, ◌∙◌}
use Rattle.list_laws.proofs.Results.{if_ok_is, if_ok_from}
use Rattle.reductions.specs.Answers.{owned_values}
use Rattle.components.specs.Connected.{AreComponents}
use Rattle.components.proofs.Runs.{ended}
use Rattle.components.proofs.drives.labels_of.Goals as goal

pub owned-requires-clause-some : goal.owned-requires-clause-some
owned-requires-clause-some c =
    (ended c.args.m.now c.args.ranks c.requires.ranks.some c.requires.ranks.few c.known.ensures c.requires.square c.args.progs.now c.requires.ended).there

pub owned-requires-clause-keys : goal.owned-requires-clause-keys
owned-requires-clause-keys c =
    subst (λ n. All (λ s. n ≤ length s.labels.cells) c.args.progs.now) (sym c.rows.ensures)
    (ended c.args.m.now c.args.ranks c.requires.ranks.some c.requires.ranks.few c.known.ensures c.requires.square c.args.progs.now c.requires.ended).keys

pub returns : goal.returns
returns c =
    let answer = (ended c.args.m.now c.args.ranks c.requires.ranks.some c.requires.ranks.few c.known.ensures c.requires.square c.args.progs.now c.requires.ended).answer in
    if_ok_from (λ v. AreComponents c.args.m.now v.items) c.owned.result
    (λ v e. subst (AreComponents c.args.m.now)
    (sym (if_ok_is (λ w. w.items ≡ owned_values (λ s. s.labels) c.args.progs.now c.rows.result) c.owned.result v e c.owned.ensures
    ∙ ap (owned_values (λ s. s.labels) c.args.progs.now) c.rows.ensures)) answer)
