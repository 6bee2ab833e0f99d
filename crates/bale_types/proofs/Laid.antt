-- A line laid over a buffer, of which more is copied than it has.
use Rattle.std.proofs.Common.{◌≡◌, ℕ, ◌+◌, ◌≤◌, List, ◌++◌, length, take, ap, sym, ◌∙◌, arith, length-append, length-take-le, take-add, take-take, take_at, drop_at}
use Rattle.std.proofs.lemmas.Slice.{take-put_mid}
use borrow.Rule.Slice.PartMut.{put_mid}

-- the first n of a front and more are the front, and what is left of n of the more
front_and : (at n : ℕ) (front more : List ℕ) → length front ≡ at → take (at + n) (front ++ more) ≡ front ++ take n more
front_and at n front more size =
    take-add at n (front ++ more) ∙ (λ k. take_at front more at size k ++ take n (drop_at front more at size k))

-- k bytes were copied to an index, of which the first n count
pub laid : (at k room n : ℕ) (buffer copied whole : List ℕ) → at + k ≤ length buffer → copied ≡ take k whole → k ≤ length whole → n ≤ k
    → take (at + n) (put_mid at room buffer copied) ≡ take at buffer ++ take n whole
laid at k room n buffer copied whole fits same long few =
    let size : length copied ≡ k = ap length same ∙ length-take-le k whole long in
    let all : take (at + k) (put_mid at room buffer copied) ≡ take at buffer ++ copied =
    take-put_mid at room buffer copied (at + k) (omega (arith, size)) (omega (arith, fits)) in
    sym (take-take (at + n) (at + k) (put_mid at room buffer copied) (omega (arith, few)))
    ∙ ap (take (at + n)) all
    ∙ front_and at n (take at buffer) copied (length-take-le at buffer (omega (arith, fits)))
    ∙ ap (λ xs. take at buffer ++ take n xs) same
    ∙ ap (λ xs. take at buffer ++ xs) (take-take n k whole few)

-- where what was laid ends
pub laid_to : (end at : ℕ) (new old text : List ℕ) → take end new ≡ take at old ++ text → end ≤ length new → at ≤ length old → end ≡ at + length text
laid_to end at new old text whole within before =
    sym (length-take-le end new within) ∙ ap length whole ∙ length-append (take at old) text ∙ ap (λ k. k + length text) (length-take-le at old before)
