-- A post keeps the relay law: what waits on a link out is the next of what came, and where the
-- parcel is marked last it is all that came.
use Rattle.std.proofs.Common.{◌≡◌, ℕ, zero, suc, ◌+◌, ◌<◌, ◌⊎◌, Bool, true, false, cond, [], ◌∷◌, ◌++◌, refl, sym, ap, subst, ◌∙◌, arith, inl, inr}
use Rattle.std.specs.List.{All}
use Rattle.std.proofs.lemmas.Bool.{cases_eq, cases_lt}
use Rattle.std.proofs.lemmas.List.{append-nil, append_assoc}
use Rattle.std.proofs.lemmas.List.Elements.{All-append}
use Rattle.item_buffer.specs.Contents.{Shipped}
use Rattle.route_tensor.specs.Grid.{IsGrid}
use Rattle.route_tensor.specs.Tag.{IsFair}
use Rattle.route_tensor.specs.Link.{links}
use Rattle.route_tensor.specs.Ends.{hop_at, sender_at, reader_at}
use Rattle.port_bank.specs.Logs.{Logs, lasts, with_parcel, lasts_in}
use Rattle.port_bank.specs.Flow.{hop_link, flow}
use Rattle.route_tensor.specs.Pair.{belongs, PassesThrough}
use Rattle.list_laws.specs.Lists.{IsPrefix}
use Rattle.port_bank.specs.Relay.{HasFairTags, RelayLaw}
use Rattle.port_bank.proofs.Segments.{lasts-append}
use Rattle.port_bank.proofs.Kept.{added-here, added-other, between}
use Rattle.convey.specs.Buffers.{Buffers}
use Rattle.convey.specs.Agreement.{items_among, Agrees}
use Rattle.convey.specs.Arrived.{HasArrived}
use Rattle.convey.proofs.Flows.{lasts_one, flow_here, flow_elsewhere, flow_at_other_epoch}

pub all_one : {X : Type 0} (P : X → Type 0) (x : X) → P x → All P (x ∷ [])
all_one P x h zero d l = h
all_one P x h (suc k) d l = absurd (omega arith)

-- counting marks
pub lasts_added : (logs : Logs) (l : ℕ) (p : Shipped) (b : Bool) → p.last ≡ b → lasts (with_parcel logs l p l) ≡ lasts (logs l) + cond b 1 0
lasts_added logs l p b e = ap lasts (added-here logs l p) ∙ (lasts-append (logs l) (p ∷ []) ∙ ap (λ n. lasts (logs l) + n) (lasts_one p b e))

pub open_lasts : (epoch n : ℕ) (closed : Bool) → closed ≡ false → n ≡ lasts_in epoch closed → n ≡ epoch
open_lasts epoch n closed e h = h ∙ ap (lasts_in epoch) e

module _ (b : Buffers) (sent got : Logs) (l : ℕ) (p : Shipped) (g : IsGrid b.dims) (agrees : Agrees b sent got)
    (below : l < links b.dims) (own : sender_at b.dims l ≡ b.rank) (still_open : b.closed l ≡ false) (entries : p.entries ≡ b.waiting l)
    (last : p.last ≡ true → HasArrived b l) where
  pub dated : lasts (sent l) ≡ b.epoch
  dated = open_lasts b.epoch (lasts (sent l)) (b.closed l) still_open ((agrees.outs l below own).lasts)

  fair_parcel : HasFairTags b.dims (hop_at b.dims l) p
  fair_parcel = subst (All (λ e. IsFair b.dims (hop_at b.dims l) e.tag)) (sym entries) ((agrees.outs l below own).fair)

  fair_all : (m : ℕ) → m < links b.dims → sender_at b.dims m ≡ b.rank → All (HasFairTags b.dims (hop_at b.dims m)) (with_parcel sent l p m)
  fair_all m h from =
      elim (cases_eq m l) [
        | inl same ↦
            subst (λ k. All (HasFairTags b.dims (hop_at b.dims k)) (with_parcel sent l p k)) (sym same)
            (subst (All (HasFairTags b.dims (hop_at b.dims l))) (sym (added-here sent l p))
            (All-append (HasFairTags b.dims (hop_at b.dims l)) (sent l) (p ∷ []) (agrees.law.fair l below own) (all_one (HasFairTags b.dims (hop_at b.dims l)) p fair_parcel)))
        | inr other ↦ subst (All (HasFairTags b.dims (hop_at b.dims m))) (sym (added-other sent l m p other)) (agrees.law.fair m h from)
      ]

  -- the pair's flow on the link, with what waits there
  pub with_waiting : (s d h : ℕ) → hop_link b.dims s d (h + 1) ≡ l
      → flow b.dims (with_parcel sent l p) s d (h + 1) b.epoch ≡ flow b.dims sent s d (h + 1) b.epoch ++ items_among (belongs b.dims s d (h + 1)) (b.waiting (hop_link b.dims s d (h + 1)))
  with_waiting s d h same =
      let keep = belongs b.dims s d (h + 1) in
      subst (λ e. flow b.dims (with_parcel sent l p) s d (h + 1) e ≡ flow b.dims sent s d (h + 1) e ++ items_among keep p.entries) dated (flow_here b.dims sent l p s d (h + 1) same)
      ∙ (ap (λ u. flow b.dims sent s d (h + 1) b.epoch ++ items_among keep u) entries
      ∙ ap (λ m. flow b.dims sent s d (h + 1) b.epoch ++ items_among keep (b.waiting m)) (sym same))

  -- all that came of the pair in this epoch
  pub came : (s d h : ℕ) → PassesThrough b.dims b.rank s d h → hop_link b.dims s d (h + 1) ≡ l
      → flow b.dims got s d h b.epoch ≡ flow b.dims (with_parcel sent l p) s d (h + 1) b.epoch ++ items_among (belongs b.dims s d h) (b.unread (hop_link b.dims s d h))
  came s d h pair same =
      agrees.pairs s d h pair
      ∙ (sym (append_assoc (flow b.dims sent s d (h + 1) b.epoch) (items_among (belongs b.dims s d (h + 1)) (b.waiting (hop_link b.dims s d (h + 1)))) (items_among (belongs b.dims s d h) (b.unread (hop_link b.dims s d h))))
      ∙ ap (λ u. u ++ items_among (belongs b.dims s d h) (b.unread (hop_link b.dims s d h))) (sym (with_waiting s d h same)))

  begins_all : (s d h e : ℕ) → PassesThrough b.dims b.rank s d h → IsPrefix (flow b.dims (with_parcel sent l p) s d (h + 1) e) (flow b.dims got s d h e)
  begins_all s d h e pair =
      elim (cases_eq e b.epoch) [
        | inl now ↦ elim (cases_eq (hop_link b.dims s d (h + 1)) l) [
          | inl same ↦ subst (λ n. IsPrefix (flow b.dims (with_parcel sent l p) s d (h + 1) n) (flow b.dims got s d h n)) (sym now)
              (record { rest = items_among (belongs b.dims s d h) (b.unread (hop_link b.dims s d h)); is = came s d h pair same })
          | inr other ↦ subst (λ u. IsPrefix u (flow b.dims got s d h e)) (sym (flow_elsewhere b.dims sent l p s d (h + 1) e other)) (agrees.law.begins s d h e pair)
        ]
        | inr past ↦ subst (λ u. IsPrefix u (flow b.dims got s d h e)) (sym (flow_at_other_epoch b.dims sent l p s d (h + 1) e (λ k. past (k ∙ dated)))) (agrees.law.begins s d h e pair)
      ]

  -- an epoch that the link has ended with the parcel: it had ended it before, or the parcel ends it
  ends_it : (e : ℕ) (c : Bool) → p.last ≡ c → e < lasts (with_parcel sent l p l) → (e < lasts (sent l)) ⊎ ((e ≡ b.epoch) × (p.last ≡ true))
  ends_it e true mark h =
      let n = lasts_added sent l p true mark in
      elim (cases_lt e (lasts (sent l))) [ inl less ↦ inl less | inr more ↦ inr (omega (arith, n, dated), mark) ]
  ends_it e false mark h = inl (let n = lasts_added sent l p false mark in omega arith)

  closed_all : (m n e : ℕ) → m < links b.dims → n < links b.dims → sender_at b.dims m ≡ b.rank → reader_at b.dims n ≡ b.rank → hop_at b.dims m ≡ hop_at b.dims n + 1
      → e < lasts (with_parcel sent l p m) → e < lasts (got n)
  closed_all m n e x y from to next h =
      elim (cases_eq m l) [
        | inl same ↦ elim (ends_it e p.last refl (subst (λ k. e < lasts (with_parcel sent l p k)) same h)) [
          | inl before ↦ agrees.law.closed l n e below y own to (subst (λ k. hop_at b.dims k ≡ hop_at b.dims n + 1) same next) before
          | inr now ↦
              let a = (last now.1).ended n y to (subst (λ k. hop_at b.dims k ≡ hop_at b.dims n + 1) same next) in
              let c : lasts (got n) ≡ b.epoch + 1 = (agrees.ins n y to).lasts ∙ ap (lasts_in b.epoch) a in
              let q : e ≡ b.epoch = now.0 in
              omega arith
        ]
        | inr other ↦ agrees.law.closed m n e x y from to next (subst (λ log. e < lasts log) (added-other sent l m p other) h)
      ]

  whole_all : (s d h e : ℕ) → PassesThrough b.dims b.rank s d h → e < lasts (with_parcel sent l p (hop_link b.dims s d (h + 1)))
      → flow b.dims (with_parcel sent l p) s d (h + 1) e ≡ flow b.dims got s d h e
  whole_all s d h e pair k =
      elim (cases_eq (hop_link b.dims s d (h + 1)) l) [
        | inl same ↦ elim (ends_it e p.last refl (subst (λ m. e < lasts (with_parcel sent l p m)) same k)) [
          | inl before ↦
              flow_at_other_epoch b.dims sent l p s d (h + 1) e (λ q. omega arith)
              ∙ agrees.law.whole s d h e pair (subst (λ m. e < lasts (sent m)) (sym same) before)
          | inr now ↦
              let w = between b.dims b.rank s d h g pair in
              let none : b.unread (hop_link b.dims s d h) ≡ [] = (last now.1).passed_on (hop_link b.dims s d h) w.comes w.to (subst (λ m. hop_at b.dims m ≡ hop_at b.dims (hop_link b.dims s d h) + 1) same w.next) in
              subst (λ n. flow b.dims (with_parcel sent l p) s d (h + 1) n ≡ flow b.dims got s d h n) (sym now.0)
              (sym (came s d h pair same
              ∙ (ap (λ u. flow b.dims (with_parcel sent l p) s d (h + 1) b.epoch ++ items_among (belongs b.dims s d h) u) none
              ∙ append-nil (flow b.dims (with_parcel sent l p) s d (h + 1) b.epoch))))
        ]
        | inr other ↦
            flow_elsewhere b.dims sent l p s d (h + 1) e other
            ∙ agrees.law.whole s d h e pair (subst (λ log. e < lasts log) (added-other sent l (hop_link b.dims s d (h + 1)) p other) k)
      ]

  pub post_law : RelayLaw b.dims b.rank (with_parcel sent l p) got
  post_law = record { fair = fair_all; begins = begins_all; closed = closed_all; whole = whole_all }
