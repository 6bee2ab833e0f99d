-- What stays over one call, and over several.
use Rattle.std.proofs.Common.{◌≡◌, ◌≢◌, ℕ, Result, Ok, Err, refl, ap, ◌∙◌}
use Rattle.bale_items.specs.declared.fault.NoMemory.{NoMemory}
use Rattle.item_buffer.specs.Contents.{Contents, Shipped}
use Rattle.port_bank.specs.declared.port.Posted.{Posted}
use Rattle.port_bank.specs.declared.port.Posted.TheVariants.{Sent, NoRoom}
use Rattle.port_bank.specs.declared.port.Collected.{Collected}
use Rattle.port_bank.specs.declared.port.Collected.TheVariants.{Got, Nothing}
use Rattle.port_bank.specs.Logs.{Logs, with_parcel}
use Rattle.port_bank.specs.Port.{PortView, is_crowded, is_idle}
use Rattle.port_bank.specs.PortCalls.{Posts, Collects}
use Rattle.port_bank.specs.Frames.{SamePort, SameOuts, SameIns, OutsElsewhere, InsElsewhere}
use Rattle.port_bank.proofs.Channels.{changed-other}
use Rattle.port_bank.proofs.Kept.{added-other}

pub port_at_first : {v : PortView} → SamePort v v
port_at_first = record { rank = refl; dims = refl; slots = refl; others = refl }

pub port_then : {old mid new : PortView} → SamePort old mid → SamePort mid new → SamePort old new
port_then a b = record { rank = b.rank ∙ a.rank; dims = b.dims ∙ a.dims; slots = b.slots ∙ a.slots; others = b.others ∙ a.others }

pub outs_at_first : {v : PortView} → SameOuts v v
outs_at_first = record { sent = refl; looks_out = refl }

pub outs_then : {old mid new : PortView} → SameOuts old mid → SameOuts mid new → SameOuts old new
outs_then a b = record { sent = b.sent ∙ a.sent; looks_out = b.looks_out ∙ a.looks_out }

pub ins_at_first : {v : PortView} → SameIns v v
ins_at_first = record { got = refl; looks_in = refl; listens = refl; noted = refl }

pub ins_then : {old mid new : PortView} → SameIns old mid → SameIns mid new → SameIns old new
ins_then a b = record {
  got = b.got ∙ a.got;
  looks_in = b.looks_in ∙ a.looks_in;
  listens = b.listens ∙ a.listens;
  noted = b.noted ∙ a.noted;
}

-- a post changes nothing of the other links out, and a collect nothing of the other links in
sent_elsewhere : (a : Result Posted NoMemory) (old new : Logs) (l : ℕ) (p : Shipped) → (a ≡ Ok Sent → new ≡ with_parcel old l p) → (a ≢ Ok Sent → new ≡ old) → (m : ℕ) → m ≢ l → new m ≡ old m
sent_elsewhere (Ok Sent) old new l p more same m ne = ap (λ (f : Logs). f m) (more refl) ∙ added-other old l m p ne
sent_elsewhere (Ok NoRoom) old new l p more same m ne = ap (λ (f : Logs). f m) (same (λ is. cc))
sent_elsewhere (Err x) old new l p more same m ne = ap (λ (f : Logs). f m) (same (λ is. cc))

got_elsewhere : (a : Collected) (old new : Logs) (l : ℕ) (p : Shipped) → (a ≡ Got → new ≡ with_parcel old l p) → (a ≡ Nothing → new ≡ old) → (m : ℕ) → m ≢ l → new m ≡ old m
got_elsewhere Got old new l p more same m ne = ap (λ (f : Logs). f m) (more refl) ∙ added-other old l m p ne
got_elsewhere Nothing old new l p more same m ne = ap (λ (f : Logs). f m) (same refl)

pub outs_elsewhere : {old new : PortView} {l : ℕ} {p p' : Contents} {a : Result Posted NoMemory} → Posts old l p a new p' → OutsElsewhere l old new
outs_elsewhere {old} {new} {l} {p} {p'} {a} e =
    record {
      sent = sent_elsewhere a old.sent new.sent l _ e.sent e.not_sent;
      looks_out = λ m ne. ap (λ f. f m) e.looks_here ∙ changed-other old.looks_out l m (new.looks_out l) ne;
      crowded = λ m ne. ap (λ f. f m) e.crowded_here ∙ changed-other (is_crowded old) l m (is_crowded new l) ne;
    }

pub ins_elsewhere : {cap : ℕ} {old new : PortView} {l : ℕ} {p p' : Contents} {a : Collected} → Collects cap old l p a new p' → InsElsewhere l old new
ins_elsewhere {cap} {old} {new} {l} {p} {p'} {a} e =
    record {
      got = got_elsewhere a old.got new.got l _ e.got e.not_got;
      noted = λ m ne. ap (λ f. f m) e.noted ∙ changed-other old.noted l m (new.listens l) ne;
      idle = λ m ne. ap (λ f. f m) e.idle_here ∙ changed-other (is_idle old) l m (is_idle new l) ne;
    }
