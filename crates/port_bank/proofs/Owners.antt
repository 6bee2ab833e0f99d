-- All logs are those of a rank's own links and those elsewhere.
use Rattle.std.proofs.Common.{◌≡◌, ◌≢◌, ℕ, ◌==◌, Bool, true, false, cond, List, [], ◌∷◌, ◌++◌, sym, ap, ◌∙◌, inl, inr, eq-eqb, ne_eqb}
use Rattle.std.proofs.lemmas.Bool.{cases_eq}
use Rattle.item_buffer.specs.Contents.{Shipped}
use Rattle.route_tensor.specs.Ends.{sender_at, reader_at}
use Rattle.port_bank.specs.Logs.{Logs, with_parcel, starting_at, ending_at, starting_elsewhere, ending_elsewhere}
use Rattle.port_bank.proofs.Kept.{added-other}

-- a rank's own logs are among all
pub starting_own : (dims : List ℕ) (r : ℕ) (logs : Logs) (l : ℕ) → sender_at dims l ≡ r → starting_at dims r logs l ≡ logs l
starting_own dims r logs l from = ap (λ b. cond b (logs l) []) (eq-eqb (sender_at dims l) r from)

pub ending_own : (dims : List ℕ) (r : ℕ) (logs : Logs) (l : ℕ) → reader_at dims l ≡ r → ending_at dims r logs l ≡ logs l
ending_own dims r logs l to = ap (λ b. cond b (logs l) []) (eq-eqb (reader_at dims l) r to)

-- a rank's own logs are among those that another rank's calls leave
own_elsewhere : (own : ℕ → ℕ) (r q : ℕ) (logs : Logs) → q ≢ r → (l : ℕ) → cond (own l == q) (logs l) [] ≡ cond (own l == q) (cond (own l == r) [] (logs l)) []
own_elsewhere own r q logs ne l = elim (cases_eq (own l) q) [
  | inl e ↦ ap (λ b. cond (own l == q) (cond b [] (logs l)) []) (sym (ne_eqb (own l) r (λ f. ne (sym e ∙ f))))
  | inr apart' ↦ ap (λ b. cond b (logs l) []) (ne_eqb (own l) q apart') ∙ ap (λ b. cond b (cond (own l == r) [] (logs l)) []) (sym (ne_eqb (own l) q apart'))
]

pub sent_elsewhere : (dims : List ℕ) (r q : ℕ) (old new : Logs) → q ≢ r → starting_elsewhere dims r new ≡ starting_elsewhere dims r old → starting_at dims q new ≡ starting_at dims q old
sent_elsewhere dims r q old new ne same =
    let f : starting_at dims q new ≡ starting_at dims q (starting_elsewhere dims r new) = λ i l. own_elsewhere (sender_at dims) r q new ne l i in
    let g : starting_at dims q old ≡ starting_at dims q (starting_elsewhere dims r old) = λ i l. own_elsewhere (sender_at dims) r q old ne l i in
    f ∙ (ap (starting_at dims q) same ∙ sym g)

pub got_elsewhere : (dims : List ℕ) (r q : ℕ) (old new : Logs) → q ≢ r → ending_elsewhere dims r new ≡ ending_elsewhere dims r old → ending_at dims q new ≡ ending_at dims q old
got_elsewhere dims r q old new ne same =
    let f : ending_at dims q new ≡ ending_at dims q (ending_elsewhere dims r new) = λ i l. own_elsewhere (reader_at dims) r q new ne l i in
    let g : ending_at dims q old ≡ ending_at dims q (ending_elsewhere dims r old) = λ i l. own_elsewhere (reader_at dims) r q old ne l i in
    f ∙ (ap (ending_at dims q) same ∙ sym g)

-- all logs are a rank's own and those elsewhere
both : (b : Bool) (x y : List Shipped) → cond b x [] ≡ cond b y [] → cond b [] x ≡ cond b [] y → x ≡ y
both true x y here there = here
both false x y here there = there

pub sent_rejoined : (dims : List ℕ) (r : ℕ) (old new : Logs) → starting_at dims r new ≡ starting_at dims r old → starting_elsewhere dims r new ≡ starting_elsewhere dims r old → new ≡ old
sent_rejoined dims r old new here there = λ i l. both (sender_at dims l == r) (new l) (old l) (ap (λ f. f l) here) (ap (λ f. f l) there) i

pub got_rejoined : (dims : List ℕ) (r : ℕ) (old new : Logs) → ending_at dims r new ≡ ending_at dims r old → ending_elsewhere dims r new ≡ ending_elsewhere dims r old → new ≡ old
got_rejoined dims r old new here there = λ i l. both (reader_at dims l == r) (new l) (old l) (ap (λ f. f l) here) (ap (λ f. f l) there) i

-- so with one parcel more on its own link
own_added : (own : ℕ → ℕ) (r : ℕ) (logs : Logs) (l : ℕ) (p : Shipped) → own l ≡ r → (m : ℕ) → with_parcel (λ n. cond (own n == r) (logs n) []) l p m ≡ cond (own m == r) (with_parcel logs l p m) []
own_added own r logs l p here m = elim (cases_eq m l) [
  | inl e ↦
      let is : (own m == r) ≡ true = eq-eqb (own m) r (ap own e ∙ here) in
      ap (λ b. cond (m == l) (cond b (logs m) [] ++ p ∷ []) (cond b (logs m) [])) is ∙ sym (ap (λ b. cond b (with_parcel logs l p m) []) is)
  | inr other ↦
      added-other (λ n. cond (own n == r) (logs n) []) l m p other ∙ sym (ap (λ (log : List Shipped). cond (own m == r) log []) (added-other logs l m p other))
]

elsewhere_added : (own : ℕ → ℕ) (r : ℕ) (logs : Logs) (l : ℕ) (p : Shipped) → own l ≡ r → (m : ℕ) → cond (own m == r) [] (logs m) ≡ cond (own m == r) [] (with_parcel logs l p m)
elsewhere_added own r logs l p here m = elim (cases_eq m l) [
  | inl e ↦
      let is : (own m == r) ≡ true = eq-eqb (own m) r (ap own e ∙ here) in
      ap (λ b. cond b [] (logs m)) is ∙ sym (ap (λ b. cond b [] (with_parcel logs l p m)) is)
  | inr other ↦ ap (λ (log : List Shipped). cond (own m == r) [] log) (sym (added-other logs l m p other))
]

pub sent_more_rejoined : (dims : List ℕ) (r : ℕ) (old new : Logs) (l : ℕ) (p : Shipped) → sender_at dims l ≡ r → starting_at dims r new ≡ with_parcel (starting_at dims r old) l p
    → starting_elsewhere dims r new ≡ starting_elsewhere dims r old → new ≡ with_parcel old l p
sent_more_rejoined dims r old new l p from here there =
    sent_rejoined dims r (with_parcel old l p) new (here ∙ (λ i m. own_added (sender_at dims) r old l p from m i)) (there ∙ (λ i m. elsewhere_added (sender_at dims) r old l p from m i))

pub got_more_rejoined : (dims : List ℕ) (r : ℕ) (old new : Logs) (l : ℕ) (p : Shipped) → reader_at dims l ≡ r → ending_at dims r new ≡ with_parcel (ending_at dims r old) l p
    → ending_elsewhere dims r new ≡ ending_elsewhere dims r old → new ≡ with_parcel old l p
got_more_rejoined dims r old new l p to here there =
    got_rejoined dims r (with_parcel old l p) new (here ∙ (λ i m. own_added (reader_at dims) r old l p to m i)) (there ∙ (λ i m. elsewhere_added (reader_at dims) r old l p to m i))
