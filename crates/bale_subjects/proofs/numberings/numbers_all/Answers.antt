use Rattle.std.proofs.Common.{◌≡◌, true, nat_lt, rules, sym, ap, ◌∙◌}
use Rattle.std.specs.List.{list_all}
use Rattle.bale_subjects.specs.Numberings.{from_zero, has_each, numbers_all}
use Rattle.bale_subjects.proofs.Renumbering.{all_some}
use Rattle.bale_subjects.proofs.numberings.numbers_all.Goals as goal

pub returns-in_ok-whole-in-Some : goal.returns-in_ok-whole-in-Some
returns-in_ok-whole-in-Some c =
    let above : list_all (λ x. nat_lt 0 x) c.in-Some.numbers ≡ true = search rules in
    let whole : c.in_ok-whole-in-Some.whole ≡ has_each c.args.n (from_zero c.in-Some.numbers) = search rules in
    whole ∙ (all_some c.args.n c.in-Some.numbers above ∙ ap (numbers_all c.args.n) (sym c.in-Some.is))
