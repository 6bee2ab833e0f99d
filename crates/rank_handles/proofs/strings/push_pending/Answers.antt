use Rattle.std.proofs.Common.{◌≡◌, ◌+◌, ◌<◌, ◌≤◌, ℕ, ◌∷◌, List, length, drop, get_or, arith, refl, sym, ap, ◌∙◌}
use Rattle.std.proofs.lemmas.List.{drop_more, nil_from_length, length-drop}
use Rattle.bale_items.specs.declared.item.Item.{Item}
use Rattle.rank_handles.specs.Seated.{Seated}
use Rattle.rank_handles.specs.Answers.{push_answer}
use Rattle.rank_handles.specs.declared.answer.Answer.TheVariants.{Good}
use Rattle.rank_handles.proofs.StringPushes.{pending_none, pending_more, pending_stuck, pending_all}
use Rattle.rank_handles.proofs.strings.push_pending.Goals as goal

pub loop-pushed-init : goal.loop-pushed-init
loop-pushed-init c = (pending_none (drop c.args.start c.args.spelled.now) c.args.rank.now, λ h. (refl, refl))

pub loop-pushed-preserved : goal.loop-pushed-preserved
loop-pushed-preserved c =
    let xs : List (ℕ × Item) = c.args.spelled.now in let n : ℕ = c.loop-pushed.pushed in let low : n < length xs = c.loop-pushed-test.true in
    let e : ℕ × Item = get_or xs n (0, record { a = 0; b = 0; c = 0 }) in
    let is : drop n xs ≡ (e.0, e.1) ∷ drop (n + 1) xs = drop_more xs n (0, record { a = 0; b = 0; c = 0 }) low in
    let b : Seated = c.loop-pushed.rank in
    let good : push_answer b e.0 ≡ Good = sym c.push.ensures.answer ∙ c.in-Good.is in (
      pending_more (drop c.args.start xs) (drop n xs) (drop (n + 1) xs) e.0 e.1 c.args.rank.now b c.push.new.self c.loop-pushed.invariant.0 is good c.push.ensures.pushes,
      λ h. let s : n ≡ c.args.start = (c.loop-pushed.invariant.1 h).0 in absurd (omega (arith, h, s, low)),
    )

pub returns-in_default : goal.returns-in_default
returns-in_default c =
    let xs : List (ℕ × Item) = c.args.spelled.now in let n : ℕ = c.loop-pushed.pushed in let low : n < length xs = c.loop-pushed-test.true in
    let e : ℕ × Item = get_or xs n (0, record { a = 0; b = 0; c = 0 }) in
    let is : drop n xs ≡ (e.0, e.1) ∷ drop (n + 1) xs = drop_more xs n (0, record { a = 0; b = 0; c = 0 }) low in
    let b : Seated = c.loop-pushed.rank in
    pending_stuck (drop c.args.start xs) (drop n xs) (drop (n + 1) xs) e.0 e.1 c.args.rank.now b c.push.new.self c.loop-pushed.invariant.0 is (λ q. c.in_default.not-Good (c.push.ensures.answer ∙ q)) c.push.ensures.pushes
    (λ none.
    let len : length xs ≤ c.args.start = omega (arith, ap length none, length-drop c.args.start xs) in
    let s : n ≡ c.args.start = (c.loop-pushed.invariant.1 len).0 in absurd (omega (arith, len, s, low)))

pub returns : goal.returns
returns c =
    let xs : List (ℕ × Item) = c.args.spelled.now in let n : ℕ = c.loop-pushed.pushed in let high : length xs ≤ n = c.loop-pushed-test.false in
    pending_all (drop c.args.start xs) (drop n xs) c.args.rank.now c.loop-pushed.rank c.loop-pushed.invariant.0
    (nil_from_length (drop n xs) (omega (arith, high, length-drop n xs)))
    (λ none. let len : length xs ≤ c.args.start = omega (arith, ap length none, length-drop c.args.start xs) in (c.loop-pushed.invariant.1 len).1)
