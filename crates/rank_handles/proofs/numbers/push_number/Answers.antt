use Rattle.std.proofs.Common.{ℕ, ℤ, ◌≤◌, length, to_z, of_z, w64, ◌∙◌, subst}
use Rattle.std.proofs.lemmas.Int.{to_z-of_z}
use Rattle.rank_handles.specs.Many.{push_many_answer, PushesMany}
use Rattle.rank_handles.proofs.Told.{count_told, answer_told}
use Rattle.rank_handles.proofs.numbers.push_number.Goals as goal

pub returns-clause-answer : goal.returns-clause-answer
returns-clause-answer c =
    let told : ℤ = to_z w64 (of_z w64 c.many_code.result) in let is = to_z-of_z w64 c.many_code.result (record { sfits = c.many_code.type_inv }) ∙ c.many_code.ensures in
    answer_told c.push_many-pushed.result (push_many_answer c.args.rank.now c.args.to.now) told is c.push_many-pushed.ensures.answer c.push_many-pushed.ensures.told

pub returns-clause-few : goal.returns-clause-few
returns-clause-few c =
    let told : ℤ = to_z w64 (of_z w64 c.many_code.result) in let is = to_z-of_z w64 c.many_code.result (record { sfits = c.many_code.type_inv }) ∙ c.many_code.ensures in
    subst (λ (n : ℕ). n ≤ length c.args.items.now)
    (count_told c.push_many-pushed.result (push_many_answer c.args.rank.now c.args.to.now) told is c.push_many-pushed.ensures.answer c.push_many-pushed.ensures.told)
    c.push_many-pushed.ensures.few

pub returns-clause-pushes : goal.returns-clause-pushes
returns-clause-pushes c =
    let told : ℤ = to_z w64 (of_z w64 c.many_code.result) in let is = to_z-of_z w64 c.many_code.result (record { sfits = c.many_code.type_inv }) ∙ c.many_code.ensures in
    subst (λ (n : ℕ). PushesMany c.args.items.now c.args.to.now n c.args.rank.now c.push_many-pushed.new.self)
    (count_told c.push_many-pushed.result (push_many_answer c.args.rank.now c.args.to.now) told is c.push_many-pushed.ensures.answer c.push_many-pushed.ensures.told)
    c.push_many-pushed.ensures.pushes
