-- The law of one link is kept by a post for which there is room, and by the collect of the next
-- parcel.
use Rattle.std.proofs.Common.{◌≡◌, ℕ, ◌+◌, ◌<◌, ◌≤◌, List, [], ◌∷◌, ◌++◌, length, take, get_or, Some, sym, ap, subst, ◌∙◌, inl, inr, arith, length-append}
use Rattle.std.specs.Prelude.{slice_get}
use Rattle.std.specs.List.{All}
use Rattle.std.proofs.Math.Seq.{take-append_seam, get_or-append_seam}
use Rattle.std.proofs.lemmas.Bool.{cases_lt}
use Rattle.std.proofs.lemmas.List.{take-append-le, get_or_append_left}
use Rattle.std.proofs.lemmas.List.Elements.{All-append, All-nil, All-cons}
use Rattle.std.proofs.lemmas.Option.{same_Some, slice_get_within, get_or_from_slice_get}
use Rattle.item_buffer.specs.Contents.{Shipped}
use Rattle.port_bank.specs.Logs.{lasts, IsDated}
use Rattle.list_laws.specs.Lists.{IsPrefix}
use Rattle.port_bank.specs.Link.{LinkLaw}
use Rattle.port_bank.proofs.Fronts.{begins_nil, begins_more, begins_trans}

pub link_unused : (cap slots : ℕ) → LinkLaw cap slots [] []
link_unused cap slots = record {
  begins = begins_nil [];
  bound = omega arith;
  dated = λ i d h. absurd (omega arith);
  fits = All-nil (λ p. length p.entries ≤ cap);
}

dated_more : (log : List Shipped) (p : Shipped) → IsDated log → p.epoch ≡ lasts log → IsDated (log ++ p ∷ [])
dated_more log p dated now i d h = elim (cases_lt i (length log)) [
  | inl l ↦
      ap (λ q. q.epoch) (get_or_append_left log (p ∷ []) d i l)
      ∙ (dated i d l ∙ ap lasts (sym (take-append-le i log (p ∷ []) (omega arith))))
  | inr l ↦
      let e : i ≡ length log = omega (arith, h, length-append log (p ∷ [])) in
      subst (λ n. (get_or (log ++ p ∷ []) n d).epoch ≡ lasts (take n (log ++ p ∷ []))) (sym e)
      (ap (λ q. q.epoch) (get_or-append_seam log p [] d) ∙ (now ∙ ap lasts (sym (take-append_seam log (p ∷ [])))))
]

pub link_posted : (cap slots : ℕ) (sent got : List Shipped) (p : Shipped) → length p.entries ≤ cap → p.epoch ≡ lasts sent → length sent < length got + slots
    → LinkLaw cap slots sent got → LinkLaw cap slots (sent ++ p ∷ []) got
link_posted cap slots sent got p fits now room law = record {
  begins = begins_trans _ _ _ law.begins (begins_more sent (p ∷ []));
  bound = omega (arith, room, length-append sent (p ∷ []));
  dated = dated_more sent p law.dated now;
  fits = All-append (λ q. length q.entries ≤ cap) sent (p ∷ []) law.fits (All-cons (λ q. length q.entries ≤ cap) p [] fits (All-nil (λ q. length q.entries ≤ cap)));
}

next_of : (got rest : List Shipped) (p : Shipped) → slice_get (got ++ rest) (length got) ≡ Some p → IsPrefix (got ++ p ∷ []) (got ++ rest)
next_of [] [] p h = cc
next_of [] (q ∷ rest) p h = record { rest = rest; is = ap (λ x. x ∷ rest) (same_Some q p h) }
next_of (q ∷ got) rest p h = let b = next_of got rest p h in record { rest = b.rest; is = ap (λ xs. q ∷ xs) b.is }

pub begins_next : (sent got : List Shipped) (p : Shipped) → IsPrefix got sent → slice_get sent (length got) ≡ Some p → IsPrefix (got ++ p ∷ []) sent
begins_next sent got p b h = subst (IsPrefix (got ++ p ∷ [])) (sym b.is) (next_of got b.rest p (subst (λ xs. slice_get xs (length got) ≡ Some p) b.is h))

pub link_collected : (cap slots : ℕ) (sent got : List Shipped) (p : Shipped) → slice_get sent (length got) ≡ Some p → LinkLaw cap slots sent got → LinkLaw cap slots sent (got ++ p ∷ [])
link_collected cap slots sent got p next law = record {
  begins = begins_next sent got p law.begins next;
  bound = omega (arith, law.bound, length-append got (p ∷ []));
  dated = law.dated;
  fits = law.fits;
}

-- the next parcel has the epoch that its reader is in, and fits
pub next_dated : (cap slots : ℕ) (sent got : List Shipped) (p : Shipped) → slice_get sent (length got) ≡ Some p → LinkLaw cap slots sent got → p.epoch ≡ lasts got
next_dated cap slots sent got p next law =
    let within : length got < length sent = slice_get_within sent (length got) p next in
    let is : get_or sent (length got) p ≡ p = get_or_from_slice_get sent (length got) p p next in
    let front : take (length got) sent ≡ got = ap (take (length got)) law.begins.is ∙ take-append_seam got law.begins.rest in
    ap (λ q. q.epoch) (sym is) ∙ (law.dated (length got) p within ∙ ap lasts front)

pub next_has : (P : Shipped → Type 0) (sent : List Shipped) (n : ℕ) (p : Shipped) → All P sent → slice_get sent n ≡ Some p → P p
next_has P sent n p all next = subst P (get_or_from_slice_get sent n p p next) (all n p (slice_get_within sent n p next))
