use Rattle.std.proofs.Common.{◌∙◌, ◌<◌, ◌≡◌, ◌/◌, ◌%◌, Some, None, slice_get, length, get_or, ap, sym, subst}
use Rattle.std.proofs.Math.Nat.{mod-lt}
use Rattle.std.specs.Option.{option_copied}
use Rattle.app_histo_ig.proofs.HistoOwners.{rank_found, rank_cols, programs_len, owner_counted}
use Rattle.app_histo_ig.proofs.histo_run.count_of.Goals as goal

pub nonzero_rem-j : goal.nonzero_rem-j
nonzero_rem-j c = subst (λ n. 0 < n) (sym (c.len-ranks.ensures ∙ programs_len c.requires.0 c.args.p.now c.requires.1)) c.requires.1.some

pub unreachable-requires : goal.unreachable-requires
unreachable-requires c =
    let all : c.len-ranks.result ≡ c.requires.1.ranks = c.len-ranks.ensures ∙ programs_len c.requires.0 c.args.p.now c.requires.1 in
    rank_found c.requires.0 c.args.p.now c.requires.1 (c.args.j % c.requires.1.ranks) (mod-lt c.args.j c.requires.1.some)
    (subst (λ n. slice_get c.args.p.now (c.args.j % n) ≡ None) all (sym c.get.ensures ∙ ap option_copied c.in_default.is))

pub bounds-counts-j : goal.bounds-counts-j
bounds-counts-j c =
    let all : c.len-ranks.result ≡ c.requires.1.ranks = c.len-ranks.ensures ∙ programs_len c.requires.0 c.args.p.now c.requires.1 in
    let is = owner_counted c.requires.0 c.args.p.now c.requires.1 c.args.j c.in-Some.owner.now c.requires.2
    (subst (λ n. slice_get c.args.p.now (c.args.j % n) ≡ Some c.in-Some.owner.now) all (sym c.get.ensures ∙ ap option_copied c.in-Some.is)) in
    subst (λ n. c.args.j / n < length c.counts.result.now) (sym all)
    (subst (λ n. c.args.j / c.requires.1.ranks < n) (sym (ap length c.counts.ensures ∙ is.size)) is.place)

pub returns : goal.returns
returns c = λ m h.
    let all : c.len-ranks.result ≡ h.ranks = c.len-ranks.ensures ∙ programs_len m c.args.p.now h in
    let at : slice_get c.args.p.now (c.args.j % c.len-ranks.result) ≡ Some c.in-Some.owner.now = sym c.get.ensures ∙ ap option_copied c.in-Some.is in
    let mine : slice_get c.args.p.now (c.args.j % h.ranks) ≡ Some c.in-Some.owner.now = subst (λ n. slice_get c.args.p.now (c.args.j % n) ≡ Some c.in-Some.owner.now) all at in
    let other : c.len-ranks.result ≡ c.requires.1.ranks = c.len-ranks.ensures ∙ programs_len c.requires.0 c.args.p.now c.requires.1 in
    let cols : c.requires.0.cols ≡ m.cols =
    sym (rank_cols c.requires.0 c.args.p.now c.requires.1 (c.args.j % c.requires.1.ranks) c.in-Some.owner.now (mod-lt c.args.j c.requires.1.some)
    (subst (λ n. slice_get c.args.p.now (c.args.j % n) ≡ Some c.in-Some.owner.now) other at))
    ∙ rank_cols m c.args.p.now h (c.args.j % h.ranks) c.in-Some.owner.now (mod-lt c.args.j h.some) mine in
    let is = owner_counted m c.args.p.now h c.args.j c.in-Some.owner.now (subst (λ n. c.args.j < n) cols c.requires.2) mine in
    ap (λ n. get_or c.counts.result.now (c.args.j / n) 0) all ∙ ap (λ ns. get_or ns (c.args.j / h.ranks) 0) c.counts.ensures ∙ is.count
