-- What a post or a collect on one link leaves of the bank around it.
use Rattle.std.proofs.Common.{◌≡◌, ℕ, ◌+◌, ◌<◌, ◌≤◌, length, get_or, Result, Ok, Err, Some, refl, sym, ap, subst, ◌∙◌, arith}
use Rattle.std.specs.Prelude.{slice_get}
use Rattle.std.proofs.lemmas.List.{get_or_default}
use Rattle.bale_items.specs.declared.fault.NoMemory.{NoMemory}
use Rattle.item_buffer.specs.Contents.{Contents, as_shipped}
use Rattle.route_tensor.specs.Grid.{ranks}
use Rattle.route_tensor.specs.Link.{links}
use Rattle.route_tensor.specs.Ends.{sender_at, hop_at}
use Rattle.port_bank.specs.Logs.{lasts, with_parcel}
use Rattle.port_bank.specs.Relay.{RelayLaw, HasFairTags}
use Rattle.port_bank.specs.declared.port.Posted.{Posted}
use Rattle.port_bank.specs.declared.port.Posted.TheVariants.{Sent, NoRoom}
use Rattle.port_bank.specs.declared.port.Collected.{Collected}
use Rattle.port_bank.specs.declared.port.Collected.TheVariants.{Got, Nothing}
use Rattle.port_bank.specs.code.PlainLink.{PostedOn, CollectedOn, IsNextOn}
use Rattle.port_bank.specs.Plain.{Bank, Channel, unused_channel, channel_after_post, channel_after_refusal, channel_after_look, channel_after_collect, channel_at, with_channel, sent_of, got_of, IsBank}
use Rattle.std.proofs.lemmas.Option.{slice_get_within}
use Rattle.port_bank.proofs.Routes.{numbered}
use Rattle.port_bank.proofs.Links.{next_dated, next_has}
use Rattle.port_bank.proofs.Banks.{bank_posted, bank_looked, bank_collected}

-- the channel that was read
pub channel_read : (most : ℕ) (b : Bank) (l : ℕ) (old : Channel) → IsBank most b → l < links b.dims → old ≡ get_or b.channels l old → channel_at b l ≡ old
channel_read most b l old is within read = get_or_default b.channels l unused_channel old (omega (arith, within, is.number)) ∙ sym read

pub kept_by_post : (most : ℕ) (b : Bank) (l : ℕ) (old new : Channel) (r : Result Posted NoMemory) (p : Contents) → IsBank most b → l < links b.dims → channel_at b l ≡ old
    → length p.untaken ≤ most → p.epoch ≡ lasts (sent_of b l) → RelayLaw b.dims (sender_at b.dims l) (with_parcel (sent_of b) l (as_shipped p)) (got_of b)
    → PostedOn b.slots old new (as_shipped p) r → IsBank most (with_channel b l new)
kept_by_post most b l old new (Ok Sent) p is within here fits now law on =
    let e : channel_after_post (channel_at b l) (as_shipped p) ≡ new = ap (λ c. channel_after_post c (as_shipped p)) here ∙ sym (on.sent refl) in
    let room : length (sent_of b l) < length (got_of b l) + b.slots = subst (λ c. length c.sent < length c.got + b.slots) (sym here) (on.room refl) in
    subst (λ c. IsBank most (with_channel b l c)) e (bank_posted most b l (as_shipped p) within fits now room law is)
kept_by_post most b l old new (Ok NoRoom) p is within here fits now law on =
    let e : channel_after_refusal (channel_at b l) ≡ new = ap channel_after_refusal here ∙ sym (on.no_room refl) in
    subst (λ c. IsBank most (with_channel b l c)) e (bank_looked most b l (channel_after_refusal (channel_at b l)) within refl refl is)
kept_by_post most b l old new (Err m) p is within here fits now law on =
    let e : channel_at b l ≡ new = here ∙ sym (on.no_memory refl) in
    subst (λ c. IsBank most (with_channel b l c)) e (bank_looked most b l (channel_at b l) within refl refl is)

pub kept_by_collect : (most : ℕ) (b : Bank) (l : ℕ) (old new : Channel) (r : Collected) (p : Contents) → IsBank most b → l < links b.dims → channel_at b l ≡ old
    → CollectedOn old new (as_shipped p) r → IsBank most (with_channel b l new)
kept_by_collect most b l old new Got p is within here on =
    let e : channel_after_collect (channel_at b l) (as_shipped p) ≡ new = ap (λ c. channel_after_collect c (as_shipped p)) here ∙ sym (on.got refl) in
    let next : slice_get (sent_of b l) (length (got_of b l)) ≡ Some (as_shipped p) = subst (λ c. slice_get c.sent (length c.got) ≡ Some (as_shipped p)) (sym here) (on.next refl) in
    subst (λ c. IsBank most (with_channel b l c)) e (bank_collected most b l (as_shipped p) within next is)
kept_by_collect most b l old new Nothing p is within here on =
    let e : channel_after_look (channel_at b l) ≡ new = ap channel_after_look here ∙ sym (on.nothing refl) in
    subst (λ c. IsBank most (with_channel b l c)) e (bank_looked most b l (channel_after_look (channel_at b l)) within refl refl is)

pub next_parcel : (most : ℕ) (b : Bank) (l : ℕ) (old : Channel) (p : Contents) → IsBank most b → l < links b.dims → channel_at b l ≡ old
    → slice_get old.sent (length old.got) ≡ Some (as_shipped p) → IsNextOn most b l p
next_parcel most b l old p is within here next =
    let law = is.each_link l within in
    let from : sender_at b.dims l < ranks b.dims = (numbered b.dims l is.grid within).is_link.sender in
    let at : slice_get (sent_of b l) (length (got_of b l)) ≡ Some (as_shipped p) = subst (λ c. slice_get c.sent (length c.got) ≡ Some (as_shipped p)) (sym here) next in
    record {
      epoch = next_dated most b.slots (sent_of b l) (got_of b l) (as_shipped p) at law;
      fits = next_has (λ q. length q.entries ≤ most) (sent_of b l) (length (got_of b l)) (as_shipped p) law.fits at;
      fair = next_has (HasFairTags b.dims (hop_at b.dims l)) (sent_of b l) (length (got_of b l)) (as_shipped p) ((is.each_rank (sender_at b.dims l) from).fair l within refl) at;
      some = slice_get_within (sent_of b l) (length (got_of b l)) (as_shipped p) at;
    }
