-- What is on its way on the links of a bank, after a turn on one of them.
use Rattle.std.proofs.Common.{◌≡◌, ℕ, zero, suc, ◌<◌, List, [], ◌++◌, replicate, length, get_or, slice_set, get_or-set_same, get_or-set_other, length-set, refl, sym, ap, subst, ◌∙◌, inl, inr, arith}
use Rattle.std.proofs.lemmas.Bool.{cases_eq}
use Rattle.std.proofs.lemmas.List.{get_or_default, length-replicate}
use Rattle.item_buffer.specs.Contents.{Shipped}
use Rattle.port_bank.specs.Plain.{Channel, unused_channel, HaveRings}

-- of one link
pub ring_of : (channels : List Channel) (rings : List (List Shipped)) (l : ℕ) (c : Channel) (r : List Shipped) → HaveRings channels rings → l < length channels
    → c ≡ get_or channels l c → r ≡ get_or rings l r → c.sent ≡ c.got ++ r
ring_of channels rings l c r is within read here =
    let channel : get_or channels l unused_channel ≡ c = get_or_default channels l unused_channel c within ∙ sym read in
    let ring : get_or rings l [] ≡ r = get_or_default rings l [] r (omega (arith, within, is.number)) ∙ sym here in
    subst (λ (x : Channel). x.sent ≡ x.got ++ r) channel (subst (λ x. (get_or channels l unused_channel).sent ≡ (get_or channels l unused_channel).got ++ x) ring (is.each l within))

-- one link with its ring is changed
pub rings_set : (channels : List Channel) (rings : List (List Shipped)) (l : ℕ) (c : Channel) (r : List Shipped) → HaveRings channels rings → l < length channels → c.sent ≡ c.got ++ r
    → HaveRings (slice_set channels l c) (slice_set rings l r)
rings_set channels rings l c r is within new = record {
  number = length-set rings l r ∙ (is.number ∙ sym (length-set channels l c));
  each = λ m h. elim (cases_eq m l) [
    | inl e ↦
        let channel : get_or (slice_set channels l c) m unused_channel ≡ c = ap (λ k. get_or (slice_set channels l c) k unused_channel) e ∙ get_or-set_same channels l c unused_channel within in
        let ring : get_or (slice_set rings l r) m [] ≡ r = ap (λ k. get_or (slice_set rings l r) k []) e ∙ get_or-set_same rings l r [] (omega (arith, within, is.number)) in
        ap (λ (x : Channel). x.sent) channel ∙ (new ∙ sym (ap (λ (x : Channel). x.got ++ get_or (slice_set rings l r) m []) channel ∙ ap (λ x. c.got ++ x) ring))
    | inr ne ↦
        let channel : get_or (slice_set channels l c) m unused_channel ≡ get_or channels m unused_channel = get_or-set_other channels l m c unused_channel ne in
        let ring : get_or (slice_set rings l r) m [] ≡ get_or rings m [] = get_or-set_other rings l m r [] ne in
        ap (λ (x : Channel). x.sent) channel
        ∙ (is.each m (omega (arith, h, length-set channels l c)) ∙ sym (ap (λ (x : Channel). x.got ++ get_or (slice_set rings l r) m []) channel ∙ ap (λ x. (get_or channels m unused_channel).got ++ x) ring))
  ];
}

-- on links on which nothing was done nothing is on its way
nothing_there : (n l : ℕ) → (get_or (replicate n unused_channel) l unused_channel).sent ≡ (get_or (replicate n unused_channel) l unused_channel).got ++ get_or (replicate n []) l []
nothing_there zero l = refl
nothing_there (suc n) zero = refl
nothing_there (suc n) (suc l) = nothing_there n l

pub rings_empty : (n : ℕ) → HaveRings (replicate n unused_channel) (replicate n [])
rings_empty n = record { number = length-replicate n [] ∙ sym (length-replicate n unused_channel); each = λ l h. nothing_there n l }
