use Rattle.std.proofs.Common.{◌≡◌, ◌≤◌, ◌++◌, ℕ, length, take, drop, arith, sym, subst, to_z, of_z, w64}
use Rattle.std.proofs.lemmas.Int.{to_z-of_z}
use Rattle.std.proofs.lemmas.List.{length-take}
use Rattle.rank_handles.specs.Many.{count_in}
use Rattle.rank_handles.proofs.Runs.{past_slice}
use Rattle.bale_c.proofs.many_calls.bale_pull_many.Goals as goal

pub returns-clause-other_items : goal.returns-clause-other_items
returns-clause-other_items c =
    let k : ℕ = c.min-most.result in let xs = c.args.items.now in let ys = c.pull_number.new.items in let n : ℕ = count_in c.pull_number.result in
    let told : to_z w64 (of_z w64 c.pull_number.result) ≡ c.pull_number.result = to_z-of_z w64 c.pull_number.result (record { sfits = c.pull_number.type_inv }) in
    subst (λ z. drop (count_in z) (ys ++ drop k xs) ≡ drop (count_in z) xs) (sym told)
    (past_slice n k xs ys (omega (arith, c.pull_number.ensures.few, c.pull_number.auto.items)) c.pull_number.ensures.few c.pull_number.ensures.other_items)

pub returns-clause-other_from : goal.returns-clause-other_from
returns-clause-other_from c =
    let k : ℕ = c.min-most.result in let xs = c.args.from.now in let ys = c.pull_number.new.from in let n : ℕ = count_in c.pull_number.result in
    let told : to_z w64 (of_z w64 c.pull_number.result) ≡ c.pull_number.result = to_z-of_z w64 c.pull_number.result (record { sfits = c.pull_number.type_inv }) in
    let few : n ≤ length (take k xs) = omega (arith, c.pull_number.ensures.few, c.min-most.ensures, length-take k c.args.items.now, length-take k xs) in
    subst (λ z. drop (count_in z) (ys ++ drop k xs) ≡ drop (count_in z) xs) (sym told)
    (past_slice n k xs ys (omega (arith, few, c.pull_number.auto.from)) few c.pull_number.ensures.other_from)
