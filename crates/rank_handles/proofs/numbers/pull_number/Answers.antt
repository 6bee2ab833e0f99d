use Rattle.std.proofs.Common.{ℕ, ℤ, ◌≡◌, ◌≤◌, drop, length, to_z, of_z, w64, ◌∙◌, subst}
use Rattle.std.proofs.lemmas.Int.{to_z-of_z}
use Rattle.rank_handles.specs.Many.{pull_many_answer, PullsMany}
use Rattle.rank_handles.proofs.Told.{count_told, answer_told}
use Rattle.rank_handles.proofs.numbers.pull_number.Goals as goal

pub returns-clause-answer : goal.returns-clause-answer
returns-clause-answer c =
    let told : ℤ = to_z w64 (of_z w64 c.many_code.result) in let is = to_z-of_z w64 c.many_code.result (record { sfits = c.many_code.type_inv }) ∙ c.many_code.ensures in
    answer_told c.pull_many-pulled.result (pull_many_answer c.args.rank.now) told is c.pull_many-pulled.ensures.answer c.pull_many-pulled.ensures.told

pub returns-clause-few : goal.returns-clause-few
returns-clause-few c =
    let told : ℤ = to_z w64 (of_z w64 c.many_code.result) in let is = to_z-of_z w64 c.many_code.result (record { sfits = c.many_code.type_inv }) ∙ c.many_code.ensures in
    subst (λ (n : ℕ). n ≤ length c.args.items.now)
    (count_told c.pull_many-pulled.result (pull_many_answer c.args.rank.now) told is c.pull_many-pulled.ensures.answer c.pull_many-pulled.ensures.told) c.pull_many-pulled.ensures.few

pub returns-clause-other_items : goal.returns-clause-other_items
returns-clause-other_items c =
    let told : ℤ = to_z w64 (of_z w64 c.many_code.result) in let is = to_z-of_z w64 c.many_code.result (record { sfits = c.many_code.type_inv }) ∙ c.many_code.ensures in
    subst (λ (n : ℕ). drop n c.pull_many-pulled.new.items ≡ drop n c.args.items.now)
    (count_told c.pull_many-pulled.result (pull_many_answer c.args.rank.now) told is c.pull_many-pulled.ensures.answer c.pull_many-pulled.ensures.told) c.pull_many-pulled.ensures.other_items

pub returns-clause-other_from : goal.returns-clause-other_from
returns-clause-other_from c =
    let told : ℤ = to_z w64 (of_z w64 c.many_code.result) in let is = to_z-of_z w64 c.many_code.result (record { sfits = c.many_code.type_inv }) ∙ c.many_code.ensures in
    subst (λ (n : ℕ). drop n c.pull_many-pulled.new.from ≡ drop n c.args.from.now)
    (count_told c.pull_many-pulled.result (pull_many_answer c.args.rank.now) told is c.pull_many-pulled.ensures.answer c.pull_many-pulled.ensures.told) c.pull_many-pulled.ensures.other_from

pub returns-clause-pulls : goal.returns-clause-pulls
returns-clause-pulls c =
    let told : ℤ = to_z w64 (of_z w64 c.many_code.result) in let is = to_z-of_z w64 c.many_code.result (record { sfits = c.many_code.type_inv }) ∙ c.many_code.ensures in
    subst (λ (n : ℕ). PullsMany (length c.args.items.now) c.pull_many-pulled.new.items c.pull_many-pulled.new.from n c.args.rank.now c.pull_many-pulled.new.self)
    (count_told c.pull_many-pulled.result (pull_many_answer c.args.rank.now) told is c.pull_many-pulled.ensures.answer c.pull_many-pulled.ensures.told) c.pull_many-pulled.ensures.pulls
