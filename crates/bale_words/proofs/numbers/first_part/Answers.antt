use Rattle.std.proofs.Common.{◌==◌, take, subst, arith, ◌≡◌, false}
use Rattle.std.specs.List.{list_any}
use Rattle.std.proofs.lemmas.Bool.{eq-eqb}
use Rattle.std.proofs.lemmas.List.{take_all}
use Rattle.bale_words.proofs.Parts.{split_first, split_whole}
use Rattle.bale_words.proofs.numbers.first_part.Goals as goal

pub returns-then-text-i-clause-parts : goal.returns-then-text-i-clause-parts
returns-then-text-i-clause-parts c = split_first (λ b. b == c.args.separator) c.args.text.now c.loop-i.i _ c.loop-i.invariant c.loop-i-test.true (eq-eqb _ _ c.if-text-i.true)

pub returns-clause-parts : goal.returns-clause-parts
returns-clause-parts c =
    let all : take c.loop-i.i c.args.text.now ≡ c.args.text.now = take_all c.loop-i.i c.args.text.now (omega (arith, c.loop-i-test.false)) in
    split_whole (λ b. b == c.args.separator) c.args.text.now (subst (λ xs. list_any (λ b. b == c.args.separator) xs ≡ false) all c.loop-i.invariant)
