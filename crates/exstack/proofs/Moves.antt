-- What a round does on each link, as a sweep over the links.
use Rattle.std.proofs.Common.{subst, inl, inr, ◌≡◌, ◌≢◌, ℕ, ◌<◌, Bool, true, false, cond, List, [], ◌∷◌, ◌++◌, length, refl, sym, ap, ◌∙◌, arith}
use Rattle.std.proofs.lemmas.List.{length-append, append-nil}
use Rattle.std.proofs.lemmas.Nat.{same_from_place}
use Rattle.list_laws.specs.Lists.{IsPrefix, changed}
use Rattle.exstack.specs.Links.{StackOut, StackIn, parcel_of, gone, came}
use Rattle.item_buffer.specs.Contents.{Contents, Shipped}
use Rattle.port_bank.specs.Port.{PortView, is_crowded, is_idle}
use Rattle.port_bank.specs.Logs.{Logs, with_parcel}
use Rattle.port_bank.specs.Frames.{OutsElsewhere, InsElsewhere}
use Rattle.port_bank.specs.PortCalls.{Collects}
use Rattle.port_bank.specs.declared.port.Collected.{Collected as Answer}
use Rattle.port_bank.specs.declared.port.Collected.TheVariants.{Got, Nothing}
use Rattle.port_bank.proofs.Kept.{added_grows, added-here}
use Rattle.port_bank.proofs.Fronts.{begins_refl}
use Rattle.port_bank.proofs.Channels.{changed-other}
use Rattle.std.proofs.lemmas.Bool.{cases_eq}
use Rattle.exstack.specs.State.{number}
use Rattle.exstack.specs.Steps.{latest, was_moved, WasPostedInRound, WasCollected, AskedWithoutSuccess, LeftByStackCollects}

-- what a port shows of a link out: its log, how often the port looked for room, and whether it is
-- crowded; and of a link in: its log, what was noted of it, and whether it is idle
pub record Sight : Type 0 where
  pub log : List Shipped
  pub count : ℕ
  pub stuck : Bool

abbrev pub sight : Logs → (ℕ → ℕ) → (ℕ → Bool) → ℕ → Sight
sight logs counts stuck l = record { log = logs l; count = counts l; stuck = stuck l }

abbrev pub out_sight : PortView → ℕ → Sight
out_sight p = sight p.sent p.looks_out (is_crowded p)

abbrev pub in_sight : PortView → ℕ → Sight
in_sight p = sight p.got p.noted (is_idle p)

-- elsewhere it shows the same
pub out_seen : (l : ℕ) (old new : PortView) → OutsElsewhere l old new → (m : ℕ) → m ≢ l → out_sight new m ≡ out_sight old m
out_seen l old new e m ne = λ i. record { log = e.sent m ne i; count = e.looks_out m ne i; stuck = e.crowded m ne i }

pub in_seen : (l : ℕ) (old new : PortView) → InsElsewhere l old new → (m : ℕ) → m ≢ l → in_sight new m ≡ in_sight old m
in_seen l old new e m ne = λ i. record { log = e.got m ne i; count = e.noted m ne i; stuck = e.idle m ne i }

-- a collect only adds to the logs, and frees no link out on which nothing was got
more_got : (a : Answer) (old new : Logs) (l : ℕ) (p : Shipped) → (a ≡ Got → new ≡ with_parcel old l p) → (a ≡ Nothing → new ≡ old) → (m : ℕ) → IsPrefix (old m) (new m)
more_got Got old new l p more same m = subst (λ (f : Logs). IsPrefix (old m) (f m)) (sym (more refl)) (added_grows old l p m)
more_got Nothing old new l p more same m = subst (λ (f : Logs). IsPrefix (old m) (f m)) (sym (same refl)) (begins_refl (old m))

as_crowded : (a : Answer) (old new : Logs) (b b' : ℕ → Bool) (l : ℕ) (p : Shipped) → (a ≡ Got → new ≡ with_parcel old l p) → (a ≡ Nothing → b' ≡ b) → b' ≡ changed b l (b' l)
    → (m : ℕ) → new m ≡ old m → b' m ≡ b m
as_crowded Got old new b b' l p more same here m is = elim (cases_eq m l) [
  | inl e ↦
      let grew : new l ≡ old l ++ p ∷ [] = ap (λ (f : Logs). f l) (more refl) ∙ added-here old l p in
      let still : new l ≡ old l = subst (λ (k : ℕ). new k ≡ old k) e is in
      absurd (omega (arith, ap length grew, ap length still, length-append (old l) (p ∷ [])))
  | inr ne ↦ ap (λ f. f m) here ∙ changed-other b l m (b' l) ne
]
as_crowded Nothing old new b b' l p more same here m is = ap (λ f. f m) (same refl)

pub collects_leave : {cap : ℕ} {old new : PortView} {l : ℕ} {p p' : Contents} {a : Answer} → Collects cap old l p a new p' → LeftByStackCollects old new
collects_leave {cap} {old} {new} {l} {p} {p'} {a} e =
    record {
      grows = more_got a old.got new.got l _ e.got e.not_got;
      crowded = as_crowded a old.got new.got (is_crowded old) (is_crowded new) l _ e.got e.still_crowded e.crowded_here;
      same_outs = e.same_outs;
      same_port = e.same_port;
    }

-- the steps of a sweep over links out, and over links in
abbrev pub Posted : Bool → ℕ → StackOut → StackOut → Sight → Sight → Type 0
Posted last epoch o o' s s' = WasPostedInRound last epoch o o' s.log s'.log

abbrev pub Served : StackOut → StackOut → Sight → Sight → Type 0
Served o o' s s' = o'.due ≡ true → AskedWithoutSuccess s.count s'.count s'.stuck

abbrev pub Collected : Bool → StackIn → StackIn → Sight → Sight → Type 0
Collected exchange i i' s s' = WasCollected exchange i i' s.log s'.log

abbrev pub Asked : StackIn → StackIn → Sight → Sight → Type 0
Asked i i' s s' = i'.due ≡ true → AskedWithoutSuccess s.count s'.count s'.stuck

-- the number of the link into r from a
abbrev pub in_number : ℕ → ℕ → ℕ → ℕ
in_number n r a = number n a r

-- where nothing was done
unmoved : (b : Bool) → was_moved b b ≡ false
unmoved true = refl
unmoved false = refl

pub none_posted : (last : Bool) (epoch : ℕ) (o : StackOut) (s : Sight) → Posted last epoch o o s s
none_posted last epoch o s =
    let e : was_moved o.due o.due ≡ false = unmoved o.due in
    record { link = sym (ap (λ b. cond b (gone last) o) e); sent = sym (ap (λ b. cond b (s.log ++ parcel_of last epoch o ∷ []) s.log) e) }

pub none_collected : (exchange : Bool) (i : StackIn) (s : Sight) → Collected exchange i i s s
none_collected exchange i s =
    let e : was_moved i.due i.due ≡ false = unmoved i.due in
    record { link = sym (ap (λ b. cond b (came exchange (latest s.log)) i) e); got = sym (ap (λ b. cond b (s.log ++ latest s.log ∷ []) s.log) e) }

-- different links
pub out_apart : (n r i k : ℕ) → k ≢ i → number n r k ≢ number n r i
out_apart n r i k ne e = ne (omega arith)

pub in_apart : (n r i k : ℕ) → r < n → k ≢ i → number n k r ≢ number n i r
in_apart n r i k w ne e = ne (same_from_place k r i r n w w e).0

-- a log between two equal ones is the same
pub begins_between : {T : Type 0} (a b c : List T) → IsPrefix a b → IsPrefix b c → c ≡ a → b ≡ a
begins_between a b c p q e = nothing_more a p.rest (omega (arith, ap length p.is, ap length q.is, ap length e, length-append a p.rest, length-append b q.rest)) p.is
  where
    nothing_more : {T : Type 0} (a more : List T) {b : List T} → length more ≡ 0 → b ≡ a ++ more → b ≡ a
    nothing_more a [] z is = is ∙ append-nil a
    nothing_more a (x ∷ xs) z is = absurd (omega arith)
