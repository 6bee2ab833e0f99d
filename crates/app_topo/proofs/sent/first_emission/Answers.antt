use Rattle.std.proofs.Common.{◌≡◌, ◌*◌, ◌/◌, ◌%◌, length, arith, sym, ap, ◌∙◌}
use Rattle.std.specs.Prelude.{Some}
use Rattle.std.specs.List.{flat_map}
use Rattle.bale_items.specs.declared.triple.Triple.{Triple}
use Rattle.bale_items.specs.declared.Item.{Item}
use Rattle.app_topo.specs.code.TopoSent.{for_both}
use Rattle.app_topo.proofs.TopoKept.{both_even, both_odd, both_len}
use Rattle.app_topo.proofs.sent.first_emission.Goals as goal

pub entry_at-entry-requires : goal.entry_at-entry-requires
entry_at-entry-requires c =
    let both : length (flat_map (for_both c.args.ranks) c.args.entries.now) ≡ 2 * length c.args.entries.now = both_len c.args.ranks c.args.entries.now in
    omega (arith, c.requires.within)

pub returns-then-i-eq0 : goal.returns-then-i-eq0
returns-then-i-eq0 c =
    let both : length (flat_map (for_both c.args.ranks) c.args.entries.now) ≡ 2 * length c.args.entries.now = both_len c.args.ranks c.args.entries.now in
    let item : Triple → Item = λ t. record { a = t.i; b = t.j; c = 0 } in
    both_even c.args.ranks (c.args.i / 2) c.args.i c.args.entries.now c.entry_at-entry.result (omega (arith, c.requires.within)) (omega (arith, c.if-i-eq0.true))
    ∙ ap (λ (t : Triple). Some (t.i % c.args.ranks, item t)) (sym c.entry_at-entry.ensures) ∙ ap Some (sym c.sent_to.ensures)

pub returns : goal.returns
returns c =
    let both : length (flat_map (for_both c.args.ranks) c.args.entries.now) ≡ 2 * length c.args.entries.now = both_len c.args.ranks c.args.entries.now in
    let item : Triple → Item = λ t. record { a = t.j; b = t.i; c = 1 } in
    both_odd c.args.ranks (c.args.i / 2) c.args.i c.args.entries.now c.entry_at-entry.result (omega (arith, c.requires.within)) (omega (arith, c.if-i-eq0.false))
    ∙ ap (λ (t : Triple). Some (t.j % c.args.ranks, item t)) (sym c.entry_at-entry.ensures) ∙ ap Some (sym c.sent_to-2.ensures)
