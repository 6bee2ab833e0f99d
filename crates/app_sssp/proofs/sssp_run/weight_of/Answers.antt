use Rattle.std.proofs.Common.{◌∙◌, ◌<◌, ◌≡◌, ◌/◌, ◌%◌, Some, None, slice_get, length, get_or, ap, sym, subst}
use Rattle.std.proofs.Math.Nat.{mod-lt}
use Rattle.std.specs.Option.{option_copied}
use Rattle.least_walks.specs.Walks.{IsLeast}
use Rattle.least_walks.specs.Vertices.{unreached_vertex}
use Rattle.app_sssp.proofs.Owners.{programs_len, rank_found, place_in, owns}
use Rattle.app_sssp.proofs.sssp_run.weight_of.Goals as goal

pub nonzero_rem-v : goal.nonzero_rem-v
nonzero_rem-v c = subst (λ n. 0 < n) (sym (c.len-ranks.ensures ∙ programs_len c.requires.0 c.requires.1 c.args.p.now c.requires.2)) c.requires.2.some

pub unreachable-requires : goal.unreachable-requires
unreachable-requires c =
    let h = c.requires.2 in
    let all : c.len-ranks.result ≡ h.ranks = c.len-ranks.ensures ∙ programs_len c.requires.0 c.requires.1 c.args.p.now h in
    rank_found c.requires.0 c.requires.1 c.args.p.now h (c.args.v % h.ranks) (mod-lt c.args.v h.some)
    (subst (λ n. slice_get c.args.p.now (c.args.v % n) ≡ None) all (sym c.get.ensures ∙ ap option_copied c.in_default.is))

pub weight-requires : goal.weight-requires
weight-requires c =
    let h = c.requires.2 in
    let all : c.len-ranks.result ≡ h.ranks = c.len-ranks.ensures ∙ programs_len c.requires.0 c.requires.1 c.args.p.now h in
    subst (λ n. c.args.v / n < length c.vertices.result.now) (sym all)
    (subst (λ vs. c.args.v / h.ranks < length vs) (sym c.vertices.ensures)
    (place_in c.requires.0 c.requires.1 c.args.p.now h c.args.v c.in-Some.owner.now c.requires.3
    (subst (λ n. slice_get c.args.p.now (c.args.v % n) ≡ Some c.in-Some.owner.now) all (sym c.get.ensures ∙ ap option_copied c.in-Some.is))))

pub returns : goal.returns
returns c = λ m source h.
    let all : c.len-ranks.result ≡ h.ranks = c.len-ranks.ensures ∙ programs_len m source c.args.p.now h in
    let at : slice_get c.args.p.now (c.args.v % h.ranks) ≡ Some c.in-Some.owner.now =
    subst (λ n. slice_get c.args.p.now (c.args.v % n) ≡ Some c.in-Some.owner.now) all (sym c.get.ensures ∙ ap option_copied c.in-Some.is) in
    subst (IsLeast m.entries source c.args.v)
    (sym (c.weight.ensures
    ∙ ap (λ n. (get_or c.vertices.result.now (c.args.v / n) unreached_vertex).weight) all
    ∙ ap (λ vs. (get_or vs (c.args.v / h.ranks) unreached_vertex).weight) c.vertices.ensures))
    (owns m source c.args.p.now h c.args.v c.in-Some.owner.now at).least
