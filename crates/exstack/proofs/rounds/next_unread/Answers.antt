use Rattle.std.proofs.Common.{◌≡◌, ◌<◌, true, length, get_or, ap, sym, ◌∙◌, arith}
use Rattle.std.proofs.lemmas.List.{get_or_default}
use Rattle.exstack.specs.Links.{StackIn, no_stack_in, has_unread}
use Rattle.exstack.proofs.Places.{place_is}
use Rattle.exstack.proofs.rounds.next_unread.Goals as goal

pub returns-then-has_unread : goal.returns-then-has_unread
returns-then-has_unread g c =
    let w : c.args.from < length c.args.ins.now = omega arith in
    let x : StackIn = c.index-ins-from.result in
    let here : has_unread (get_or c.args.ins.now c.args.from no_stack_in) ≡ true =
    ap has_unread (get_or_default c.args.ins.now c.args.from no_stack_in x w ∙ sym c.index-ins-from.is) ∙ (sym c.has_unread.ensures ∙ c.if-has_unread.true) in
    place_is has_unread c.args.ins.now c.args.from no_stack_in w c.requires.below.none here
