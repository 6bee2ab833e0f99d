use Rattle.std.proofs.Common.{◌≡◌, ◌<◌, length, arith, refl}
use Rattle.list_laws.proofs.Lists.{within}
use Rattle.list_laws.proofs.Results.{on_ok_map, on_ok_both}
use Rattle.app_tally.proofs.Multisets.{raised_tally, raised_multiset, pushed_tally, pushed_multiset, kept_multiset, either_way, either_both}
use Rattle.app_tally.proofs.multiset.count_line.Goals as goal

pub one_more-requires : goal.one_more-requires
one_more-requires c =
    let low : c.in-Some.i < length c.args.lines.now = within c.args.lines.now c.in-Some.i c.args.line.now c.in-Some.ensures in
    let same : length c.args.times.now.items ≡ length c.args.lines.now = c.requires.multiset.same in
    omega arith

pub returns-in-Some-clause-multiset : goal.returns-in-Some-clause-multiset
returns-in-Some-clause-multiset c =
    either_way c.one_more.result c.one_more.ensures.raised c.one_more.ensures.refused
    (raised_multiset c.args.lines.now c.args.times.now.items _ c.in-Some.i c.requires.multiset)
    (λ e. kept_multiset c.args.lines.now _ c.args.times.now.items _ c.requires.multiset refl e)

pub returns-in-Some-clause-counted : goal.returns-in-Some-clause-counted
returns-in-Some-clause-counted c =
    on_ok_map c.one_more.result (raised_tally c.args.lines.now c.args.times.now.items _ c.in-Some.i c.args.line.now c.requires.multiset c.in-Some.ensures) c.one_more.ensures.raised

pub returns-then-skips-clause-multiset : goal.returns-then-skips-clause-multiset
returns-then-skips-clause-multiset c =
    either_both c.append_line.result c.append_line.ensures.line c.append_line.ensures.number c.append_line.ensures.same_lines c.append_line.ensures.same_numbers
    (pushed_multiset c.args.lines.now _ c.args.times.now.items _ c.args.line.now c.requires.multiset)
    (kept_multiset c.args.lines.now _ c.args.times.now.items _ c.requires.multiset)

pub returns-then-skips-clause-counted : goal.returns-then-skips-clause-counted
returns-then-skips-clause-counted c =
    on_ok_both c.append_line.result (pushed_tally c.args.lines.now _ c.args.times.now.items _ c.args.line.now c.requires.multiset) c.append_line.ensures.line c.append_line.ensures.number

pub returns-clause-multiset : goal.returns-clause-multiset
returns-clause-multiset c =
    either_both c.append_line-2.result c.append_line-2.ensures.line c.append_line-2.ensures.number c.append_line-2.ensures.same_lines c.append_line-2.ensures.same_numbers
    (pushed_multiset c.args.lines.now _ c.args.times.now.items _ c.args.line.now c.requires.multiset)
    (kept_multiset c.args.lines.now _ c.args.times.now.items _ c.requires.multiset)

pub returns-clause-counted : goal.returns-clause-counted
returns-clause-counted c =
    on_ok_both c.append_line-2.result (pushed_tally c.args.lines.now _ c.args.times.now.items _ c.args.line.now c.requires.multiset) c.append_line-2.ensures.line c.append_line-2.ensures.number
