-- Logs that end with a parcel marked last, and what follows the marks.
use Rattle.std.proofs.Common.{◌≡◌, ℕ, zero, suc, ◌+◌, ◌<◌, ◌≤◌, Bool, true, false, cond, List, [], ◌∷◌, ◌++◌, length, refl, sym, ap, ◌∙◌, arith, length-append, inl, inr}
use Rattle.std.proofs.lemmas.Bool.{cases_Bool}
use Rattle.std.proofs.lemmas.List.{append-nil}
use Rattle.item_buffer.specs.Contents.{Shipped}
use Rattle.list_laws.specs.Lists.{IsPrefix}
use Rattle.port_bank.specs.Logs.{lasts, segment, EndsLast, lasts_in}
use Rattle.port_bank.proofs.Posts.{segment_then}
use Rattle.port_bank.proofs.Segments.{lasts-append, lasts_first}

-- past the epoch that a log is in, its segments are empty
pub segment_past : (log : List Shipped) (n : ℕ) → lasts log < n → segment n log ≡ []
segment_past [] zero h = refl
segment_past [] (suc n) h = refl
segment_past (q ∷ log) zero h = absurd (omega (arith, h))
segment_past (q ∷ log) (suc n) h = elim (cases_Bool q.last) [
  | inl t ↦ ap (λ c. cond c (segment n log) (segment (suc n) log)) t ∙ segment_past log n (omega (arith, h, lasts_first q log true t))
  | inr f ↦ ap (λ c. cond c (segment n log) (segment (suc n) log)) f ∙ segment_past log (suc n) (omega (arith, h, lasts_first q log false f))
]

-- and so is that which comes next, just after a parcel marked last
pub none_after : (e : ℕ) (log : List Shipped) → EndsLast log → lasts log ≤ e → segment e log ≡ []
none_after e log ends low =
    let n : lasts log ≡ lasts ends.front + 1 = omega (arith, ap lasts ends.is, lasts-append ends.front (ends.final ∷ []), lasts_first ends.final [] true ends.last) in
    ap (segment e) ends.is ∙ (segment_then e ends.front ends.final (λ same. omega (arith, same, n, low)) ∙ segment_past ends.front e (omega (arith, n, low)))

-- after the parcel marked last nothing comes without a mark
tail_of : List Shipped → List Shipped
tail_of [] = []
tail_of (x ∷ xs) = xs

unmarked_none : (got rest front : List Shipped) (final : Shipped) → got ++ rest ≡ front ++ final ∷ [] → final.last ≡ true → lasts rest ≡ 0 → length rest ≡ 0
unfolding tail_of
unmarked_none [] rest front final e last none = absurd (omega (arith, ap lasts e, lasts-append front (final ∷ []), lasts_first final [] true last, none))
unmarked_none (g ∷ gs) rest [] final e last none = omega (arith, ap length e, length-append gs rest)
unmarked_none (g ∷ gs) rest (f ∷ fs) final e last none = unmarked_none gs rest fs final (ap tail_of e) last none

-- a prefix of a log that ends with a last parcel, with as many marks, is all of it
pub all_got : (got sent : List Shipped) → IsPrefix got sent → EndsLast sent → lasts got ≡ lasts sent → got ≡ sent
all_got got sent b t e =
    let none : lasts b.rest ≡ 0 = omega (arith, ap lasts b.is, lasts-append got b.rest, e) in
    by b.rest b.is (unmarked_none got b.rest t.front t.final (sym b.is ∙ t.is) t.last none) where
      by : (rest : List Shipped) → sent ≡ got ++ rest → length rest ≡ 0 → got ≡ sent
      by [] i h = sym (i ∙ append-nil got)
      by (x ∷ xs) i h = absurd (omega (arith, h))

-- what an epoch's marks say
pub mark_of : (e : ℕ) (c : Bool) → e < lasts_in e c → c ≡ true
mark_of e true h = refl
mark_of e false h = absurd (omega (arith, h))

pub at_least : (n : ℕ) (c : Bool) → n ≤ lasts_in n c
at_least n true = omega arith
at_least n false = omega arith

pub at_most : (e : ℕ) (c : Bool) → lasts_in e c ≤ e + 1
at_most e true = omega arith
at_most e false = omega arith
