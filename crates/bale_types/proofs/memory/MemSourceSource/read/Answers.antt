use Rattle.std.proofs.Common.{◌≡◌, ◌∙◌, arith, rules, ap, sym, drop, take, length, Some}
use Rattle.std.proofs.lemmas.Grind.{common_steps}
use Rattle.bale_types.specs.Memory.{Feed}
use Rattle.bale_types.proofs.Moves.{come_then_left}
use Rattle.bale_types.proofs.memory.MemSourceSource.read.Goals as goal

pub returns-clause-bytes : goal.returns-clause-bytes
returns-clause-bytes c =
    let n = c.min-count.result in
    let same : c.copy_from_slice.new.self ≡ take n (drop c.self.inside.at c.self.inside.text.items) = grind (arith, common_steps) in
    let size : length c.copy_from_slice.new.self ≡ n = search rules in
    let here = ap (λ (s : Feed). s.left) c.self.view_is in
    ap Some (sym here ∙ sym (come_then_left c.self.inside.text.items c.copy_from_slice.new.self (drop n c.args.buf.now) c.self.inside.at n same size))
