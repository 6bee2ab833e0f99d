-- A plain bank keeps the laws of all its links and ranks.
use Rattle.std.proofs.Common.{◌≡◌, ℕ, ◌+◌, ◌<◌, ◌≤◌, List, [], ◌∷◌, ◌++◌, length, refl, sym, ap, subst, ◌∙◌, inl, inr, arith, length-set}
use Rattle.std.specs.Prelude.{slice_get, Some}
use Rattle.std.proofs.lemmas.Bool.{cases_eq}
use Rattle.item_buffer.specs.Contents.{Shipped}
use Rattle.route_tensor.specs.Grid.{IsGrid}
use Rattle.route_tensor.specs.Link.{links}
use Rattle.route_tensor.specs.Ends.{sender_at}
use Rattle.port_bank.specs.Logs.{Logs, lasts, with_parcel}
use Rattle.port_bank.specs.Link.{LinkLaw}
use Rattle.port_bank.specs.Relay.{RelayLaw}
use Rattle.port_bank.specs.Plain.{Bank, Channel, channel_after_post, channel_after_collect, channel_at, with_channel, sent_of, got_of, IsBank}
use Rattle.port_bank.proofs.Kept.{added_grows, added-here, added-other, law_got_more, law_sent_elsewhere}
use Rattle.port_bank.proofs.Links.{link_posted, link_collected}
use Rattle.port_bank.proofs.Channels.{channel-here, channel-other, read_same}

-- one link's log grows by a parcel
added_at : (b : Bank) (l : ℕ) (c : Channel) (p : Shipped) → l < length b.channels → c.sent ≡ sent_of b l ++ p ∷ [] → (m : ℕ) → sent_of (with_channel b l c) m ≡ with_parcel (sent_of b) l p m
added_at b l c p within is m = elim (cases_eq m l) [
  | inl e ↦ subst (λ n. sent_of (with_channel b l c) n ≡ with_parcel (sent_of b) l p n) (sym e) (ap (λ x. x.sent) (channel-here b l c within) ∙ (is ∙ sym (added-here (sent_of b) l p)))
  | inr ne ↦ ap (λ x. x.sent) (channel-other b l c within m ne) ∙ sym (added-other (sent_of b) l m p ne)
]

got_at : (b : Bank) (l : ℕ) (c : Channel) (p : Shipped) → l < length b.channels → c.got ≡ got_of b l ++ p ∷ [] → (m : ℕ) → got_of (with_channel b l c) m ≡ with_parcel (got_of b) l p m
got_at b l c p within is m = elim (cases_eq m l) [
  | inl e ↦ subst (λ n. got_of (with_channel b l c) n ≡ with_parcel (got_of b) l p n) (sym e) (ap (λ x. x.got) (channel-here b l c within) ∙ (is ∙ sym (added-here (got_of b) l p)))
  | inr ne ↦ ap (λ x. x.got) (channel-other b l c within m ne) ∙ sym (added-other (got_of b) l m p ne)
]

pub sent_added : (b : Bank) (l : ℕ) (c : Channel) (p : Shipped) → l < length b.channels → c.sent ≡ sent_of b l ++ p ∷ [] → sent_of (with_channel b l c) ≡ with_parcel (sent_of b) l p
sent_added b l c p within is = λ i m. added_at b l c p within is m i

pub got_added : (b : Bank) (l : ℕ) (c : Channel) (p : Shipped) → l < length b.channels → c.got ≡ got_of b l ++ p ∷ [] → got_of (with_channel b l c) ≡ with_parcel (got_of b) l p
got_added b l c p within is = λ i m. got_at b l c p within is m i

pub sent_alike : (b : Bank) (l : ℕ) (c : Channel) → l < length b.channels → c.sent ≡ sent_of b l → sent_of (with_channel b l c) ≡ sent_of b
sent_alike b l c within is = read_same b l c within (λ m x. x.sent) is

pub got_alike : (b : Bank) (l : ℕ) (c : Channel) → l < length b.channels → c.got ≡ got_of b l → got_of (with_channel b l c) ≡ got_of b
got_alike b l c within is = read_same b l c within (λ m x. x.got) is

-- a look changes no log
pub bank_looked : (cap : ℕ) (b : Bank) (l : ℕ) (c : Channel) → l < links b.dims → c.sent ≡ sent_of b l → c.got ≡ got_of b l → IsBank cap b → IsBank cap (with_channel b l c)
bank_looked cap b l c within s g is =
    let in' : l < length b.channels = omega (arith, within, is.number) in
    let sent = sym (sent_alike b l c in' s) in
    let got = sym (got_alike b l c in' g) in
    record {
      is_cap = is.is_cap;
      grid = is.grid;
      counts = is.counts;
      number = length-set b.channels l c ∙ is.number;
      each_link = λ m h. subst (λ f. LinkLaw cap b.slots (f m) (got_of (with_channel b l c) m)) sent (subst (λ f. LinkLaw cap b.slots (sent_of b m) (f m)) got (is.each_link m h));
      each_rank = λ r h. subst (λ f. RelayLaw b.dims r f (got_of (with_channel b l c))) sent (subst (λ f. RelayLaw b.dims r (sent_of b) f) got (is.each_rank r h));
    }

link_added : (cap slots : ℕ) (sent got : Logs) (l m : ℕ) (p : Shipped) → LinkLaw cap slots (sent l ++ p ∷ []) (got l) → LinkLaw cap slots (sent m) (got m) → LinkLaw cap slots (with_parcel sent l p m) (got m)
link_added cap slots sent got l m p here there = elim (cases_eq m l) [
  | inl e ↦ subst (λ n. LinkLaw cap slots (with_parcel sent l p n) (got n)) (sym e) (subst (λ log. LinkLaw cap slots log (got l)) (sym (added-here sent l p)) here)
  | inr ne ↦ subst (λ log. LinkLaw cap slots log (got m)) (sym (added-other sent l m p ne)) there
]

link_taken : (cap slots : ℕ) (sent got : Logs) (l m : ℕ) (p : Shipped) → LinkLaw cap slots (sent l) (got l ++ p ∷ []) → LinkLaw cap slots (sent m) (got m) → LinkLaw cap slots (sent m) (with_parcel got l p m)
link_taken cap slots sent got l m p here there = elim (cases_eq m l) [
  | inl e ↦ subst (λ n. LinkLaw cap slots (sent n) (with_parcel got l p n)) (sym e) (subst (λ log. LinkLaw cap slots (sent l) log) (sym (added-here got l p)) here)
  | inr ne ↦ subst (λ log. LinkLaw cap slots (sent m) log) (sym (added-other got l m p ne)) there
]

law_sent : (dims : List ℕ) (r : ℕ) (sent got : Logs) (l : ℕ) (p : Shipped) → IsGrid dims → RelayLaw dims (sender_at dims l) (with_parcel sent l p) got → RelayLaw dims r sent got → RelayLaw dims r (with_parcel sent l p) got
law_sent dims r sent got l p g here there = elim (cases_eq (sender_at dims l) r) [
  | inl e ↦ subst (λ n. RelayLaw dims n (with_parcel sent l p) got) e here
  | inr ne ↦ law_sent_elsewhere dims r sent got l p g ne there
]

-- a parcel is posted by a rank that keeps the relay law
pub bank_posted : (cap : ℕ) (b : Bank) (l : ℕ) (p : Shipped) → l < links b.dims → length p.entries ≤ cap → p.epoch ≡ lasts (sent_of b l) → length (sent_of b l) < length (got_of b l) + b.slots
    → RelayLaw b.dims (sender_at b.dims l) (with_parcel (sent_of b) l p) (got_of b) → IsBank cap b → IsBank cap (with_channel b l (channel_after_post (channel_at b l) p))
bank_posted cap b l p within fits now room law is =
    let in' : l < length b.channels = omega (arith, within, is.number) in
    let c : Channel = channel_after_post (channel_at b l) p in
    let sent = sym (sent_added b l c p in' refl) in
    let got = sym (got_alike b l c in' refl) in
    let link = link_posted cap b.slots (sent_of b l) (got_of b l) p fits now room (is.each_link l within) in
    record {
      is_cap = is.is_cap;
      grid = is.grid;
      counts = is.counts;
      number = length-set b.channels l c ∙ is.number;
      each_link = λ m h. subst (λ f. LinkLaw cap b.slots (f m) (got_of (with_channel b l c) m)) sent
          (subst (λ f. LinkLaw cap b.slots (with_parcel (sent_of b) l p m) (f m)) got (link_added cap b.slots (sent_of b) (got_of b) l m p link (is.each_link m h)));
      each_rank = λ r h. subst (λ f. RelayLaw b.dims r f (got_of (with_channel b l c))) sent
          (subst (λ f. RelayLaw b.dims r (with_parcel (sent_of b) l p) f) got (law_sent b.dims r (sent_of b) (got_of b) l p is.grid law (is.each_rank r h)));
    }

-- the next parcel is collected
pub bank_collected : (cap : ℕ) (b : Bank) (l : ℕ) (p : Shipped) → l < links b.dims → slice_get (sent_of b l) (length (got_of b l)) ≡ Some p → IsBank cap b → IsBank cap (with_channel b l (channel_after_collect (channel_at b l) p))
bank_collected cap b l p within next is =
    let in' : l < length b.channels = omega (arith, within, is.number) in
    let c : Channel = channel_after_collect (channel_at b l) p in
    let sent = sym (sent_alike b l c in' refl) in
    let got = sym (got_added b l c p in' refl) in
    let link = link_collected cap b.slots (sent_of b l) (got_of b l) p next (is.each_link l within) in
    record {
      is_cap = is.is_cap;
      grid = is.grid;
      counts = is.counts;
      number = length-set b.channels l c ∙ is.number;
      each_link = λ m h. subst (λ f. LinkLaw cap b.slots (f m) (got_of (with_channel b l c) m)) sent
          (subst (λ f. LinkLaw cap b.slots (sent_of b m) (f m)) got (link_taken cap b.slots (sent_of b) (got_of b) l m p link (is.each_link m h)));
      each_rank = λ r h. subst (λ f. RelayLaw b.dims r f (got_of (with_channel b l c))) sent
          (subst (λ f. RelayLaw b.dims r (sent_of b) f) got (law_got_more b.dims r (sent_of b) (got_of b) (with_parcel (got_of b) l p) is.grid (added_grows (got_of b) l p) (is.each_rank r h)));
    }
