use Rattle.std.proofs.Common.{◌≡◌, ◌+◌, ◌-◌, ◌≤◌, ◌∙◌, take, drop, ap, sym, subst, length, arith, rules, ℕ}
use lib.Seq.{paste}
use Rattle.std.proofs.lemmas.Grind.{common_steps}
use Rattle.std.proofs.lemmas.List.Edits.{take-paste}
use Rattle.bale_types.specs.Stream.{taken_with}
use Rattle.bale_types.proofs.Moves.{rest_waits}
use Rattle.bale_types.proofs.out.hand_some.Goals as goal

pub returns-clause-ok : goal.returns-clause-ok
returns-clause-ok g c =
    let taken = g.K.Sink.taken in
    let buffer = c.args.buffer.now in
    let count = c.in_ok-count.count in
    let left = c.args.len - count in
    let long : length buffer ≡ 16384 = search rules in
    let bound : count ≤ c.args.len = grind (arith, common_steps) in
    let small : c.args.len ≤ 16384 = search rules in
    let rest : left ≤ length (drop count buffer) = grind (arith, common_steps) in
    let all : count + left ≡ c.args.len = omega arith in
    let none : left ≡ 0 + left = omega arith in
    let front : take left (paste buffer 0 (drop count buffer) left) ≡ take left (drop count buffer) =
    ap (λ (k : ℕ). take k (paste buffer 0 (drop count buffer) left)) none ∙ take-paste buffer 0 (drop count buffer) left (omega arith) (omega arith) in
    let shifted : take left c.copy_within.new.self ≡ take left (drop count buffer) = ap (take left) c.copy_within.ensures.after ∙ front in
    let written : taken c.write.new.self ≡ taken_with (taken c.args.sink.now) (take count (take (count + left) buffer)) =
    subst (λ (k : ℕ). taken c.write.new.self ≡ taken_with (taken c.args.sink.now) (take count (take k buffer))) (sym all) c.in_ok-count.ensures.bytes in
    ap (taken_with (taken c.write.new.self)) {y = take left (drop count buffer)} shifted
    ∙ rest_waits (taken c.write.new.self) (taken c.args.sink.now) buffer count left written
    ∙ ap (λ (k : ℕ). taken_with (taken c.args.sink.now) (take k buffer)) all
