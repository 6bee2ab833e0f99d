use Rattle.std.proofs.Common.{◌≡◌, ◌≤◌, ◌∙◌, ap, sym, subst, All, length}
use Rattle.list_laws.proofs.Results.{if_ok_is, if_ok_from}
use Rattle.reductions.specs.Answers.{owned_values}
use Rattle.skeleton.specs.Found.{IsFound}
use Rattle.skeleton.proofs.Starts.{all_there}
use Rattle.skeleton.proofs.drives.found.Goals as goal

pub owned-requires-clause-some : goal.owned-requires-clause-some
owned-requires-clause-some c = (all_there c.args.ranks c.args.m.now c.requires.ranks.some c.requires.ranks.few c.known.ensures c.args.progs.now c.requires.ended).0

pub owned-requires-clause-keys : goal.owned-requires-clause-keys
owned-requires-clause-keys c =
    subst (λ n. All (λ s. n ≤ length s.cells.cells) c.args.progs.now) (sym c.cols.ensures)
    (all_there c.args.ranks c.args.m.now c.requires.ranks.some c.requires.ranks.few c.known.ensures c.args.progs.now c.requires.ended).1

pub returns : goal.returns
returns c =
    if_ok_from (λ v. IsFound c.args.ranks c.args.m.now v.items) c.owned.result
    (λ v e. record {
      ends = c.args.progs.now;
      ended = c.requires.ended;
      each = if_ok_is (λ w. w.items ≡ owned_values (λ s. s.cells) c.args.progs.now c.cols.result) c.owned.result v e c.owned.ensures
          ∙ ap (owned_values (λ s. s.cells) c.args.progs.now) c.cols.ensures;
    })
