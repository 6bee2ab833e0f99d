-- Parcels of one entry, posted on first hops and collected.
use Rattle.std.proofs.Common.{◌≡◌, ◌≢◌, ℕ, zero, suc, ◌+◌, ◌-◌, ◌<◌, ◌==◌, Bool, true, false, cond, List, [], ◌∷◌, ◌++◌, length, refl, sym, ap, subst, ◌∙◌, arith}
use Rattle.std.specs.List.{All}
use Rattle.std.proofs.lemmas.List.Elements.{All-get_or, All-nil, All-cons}
use Rattle.bale_items.specs.declared.item.Tag.{Tag}
use Rattle.bale_items.specs.declared.item.Entry.{Entry}
use Rattle.item_buffer.specs.Contents.{Contents, Shipped, as_shipped, blank}
use Rattle.route_tensor.specs.Grid.{dim, IsGrid}
use Rattle.route_tensor.specs.Tag.{digit, IsFair}
use Rattle.route_tensor.specs.Ends.{hop_at}
use Rattle.port_bank.specs.Logs.{Logs, lasts, with_parcel}
use Rattle.port_bank.specs.Relay.{HasFairTags, RelayLaw}
use Rattle.port_bank.proofs.Segments.{lasts-append, lasts_first}
use Rattle.port_bank.proofs.Closing.{law_nothing}
use Rattle.port_bank.proofs.Posts.{may_post_first, law_posted}

abbrev pub no_digits : Tag
no_digits = record { d1 = 0; d2 = 0; d3 = 0 }

no_digit : (i : ℕ) → digit no_digits i ≡ 0
unfolding digit
no_digit zero = refl
no_digit (suc zero) = refl
no_digit (suc (suc zero)) = refl
no_digit (suc (suc (suc zero))) = refl
no_digit (suc (suc (suc (suc i)))) = refl

pub no_digits_fair : (dims : List ℕ) (h : ℕ) → IsGrid dims → IsFair dims h no_digits
no_digits_fair dims h g = record {
  below = λ i first last.
      let some : 0 < dim dims i = All-get_or (λ n. 0 < n) dims (i - 1) 0 (omega arith) g.positive in
      omega (arith, some, no_digit i);
  here = no_digit h;
  past = λ i last. no_digit i;
}

-- an empty parcel of the first epoch after a push of an entry whose tag has no digits
pub filled : (old new : Contents) (e : Entry) (b : Bool) → old ≡ blank 0 → (b ≡ true → new ≡ record old { untaken = old.untaken ++ e ∷ [] }) → (b ≡ false → length old.untaken ≡ 1)
    → new ≡ record (blank 0) { untaken = e ∷ [] }
filled old new e true is pushed full = pushed refl ∙ ap (λ (c : Contents). record { untaken = c.untaken ++ e ∷ []; last = c.last; epoch = c.epoch; back = c.back; taken = c.taken }) is
filled old new e false is pushed full =
    let h : length old.untaken ≡ 1 = full refl in
    let z : length old.untaken ≡ 0 = ap (λ (c : Contents). length c.untaken) is in
    absurd (omega arith)

-- the law after a post of that parcel on the first hop
pub first_posted : (dims : List ℕ) (r : ℕ) (sent got : Logs) (l : ℕ) (p : Contents) (e : Entry) → IsGrid dims → hop_at dims l ≡ 1 → p ≡ record (blank 0) { untaken = e ∷ [] } → e.tag ≡ no_digits
    → RelayLaw dims r sent got → RelayLaw dims r (with_parcel sent l (as_shipped p)) got
first_posted dims r sent got l p e g first is tag law =
    let P : Entry → Type 0 = λ x. IsFair dims 1 x.tag in
    let fair : HasFairTags dims 1 (as_shipped p) = subst (All P) (sym (ap (λ (c : Contents). c.untaken) is)) (All-cons P e [] (subst (IsFair dims 1) (sym tag) (no_digits_fair dims 1 g)) (All-nil P)) in
    law_posted dims r sent got l (as_shipped p) g law (may_post_first dims r sent got l (as_shipped p) g first fair)

-- no epoch has ended after a parcel that isn't the last of its epoch
pub none_ended : (logs logs' : Logs) (l : ℕ) (p : Shipped) → logs' ≡ with_parcel logs l p → p.last ≡ false → ((m : ℕ) → lasts (logs m) ≡ 0) → (m : ℕ) → lasts (logs' m) ≡ 0
none_ended logs logs' l p more open' none m =
    let here : lasts (logs m ++ p ∷ []) ≡ 0 = lasts-append (logs m) (p ∷ []) ∙ (ap (λ n. lasts (logs m) + n) (lasts_first p [] false open') ∙ omega (arith, none m)) in
    ap (λ (f : Logs). lasts (f m)) more
    ∙ elim (m == l) as (λ b. lasts (cond b (logs m ++ p ∷ []) (logs m)) ≡ 0) [ true ↦ here | false ↦ none m ]

pub still_none : (logs logs' : Logs) → logs' ≡ logs → ((m : ℕ) → lasts (logs m) ≡ 0) → (m : ℕ) → lasts (logs' m) ≡ 0
still_none logs logs' same none m = ap (λ (f : Logs). lasts (f m)) same ∙ none m

-- what holds of a port on which nothing was done
pub begins : (dims : List ℕ) (r : ℕ) (sent got : Logs) → sent ≡ (λ l. []) → got ≡ (λ l. [])
    → RelayLaw dims r sent got × ((l : ℕ) → lasts (sent l) ≡ 0) × ((l : ℕ) → lasts (got l) ≡ 0)
begins dims r sent got s g = (
  subst (λ (f : Logs). RelayLaw dims r f got) (sym s) (law_nothing dims r got),
  λ l. ap (λ (f : Logs). lasts (f l)) s,
  λ l. ap (λ (f : Logs). lasts (f l)) g,
)
