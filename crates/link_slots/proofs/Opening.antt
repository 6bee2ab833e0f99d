-- A bank at the start is lawful.
use Rattle.std.proofs.Common.{◌≡◌, ℕ, zero, suc, ◌+◌, ◌*◌, ◌^◌, ◌<◌, List, [], ◌∷◌, map, take, length, replicate, get_or, sym, refl, ap, ◌∙◌, subst, inl, inr, arith, Some, None}
use Rattle.std.proofs.lemmas.Nat.{pow_pos}
use mathlib.Core.Option as maybe
use mathlib.Core.Option.{some, some-injective, some-ne-none}
use lib.ListN.{get_elem?, length-map, length-replicate}
use Rattle.atomic_table.specs.Table.{opening}
use Rattle.atomic_table.proofs.Lists.{at_map}
use Rattle.link_slots.specs.Logs.{OutLog, InLog, Lists, no_out, no_in, sent_of, got_of}
use Rattle.link_slots.specs.View.{View, no_logs, first_view}
use Rattle.link_slots.specs.Wiring.{Wiring, IsWired, slot_of, posted_word, released_word}
use Rattle.link_slots.specs.Link.{LinkOk, BellOk}
use Rattle.link_slots.specs.Bank.{Lawful}
use Rattle.link_slots.proofs.Lookups.{at_there}
use Rattle.link_slots.proofs.Ring.{slot_inside}

module _ {A : Type 0} where
  -- a list of one value, read with that value where it ends
  pub all_one : (n i : ℕ) (a : A) → get_or (replicate n a) i a ≡ a
  all_one zero i a = refl
  all_one (suc n) zero a = refl
  all_one (suc n) (suc i) a = all_one n i a

  pub same_some : (n i : ℕ) (a b : A) → get_or (replicate n (Some a)) i None ≡ Some b → b ≡ a
  same_some zero i a b e = cc
  same_some (suc n) zero a b e = cc
  same_some (suc n) (suc i) a b e = same_some n i a b e

  pub some_there : (n i : ℕ) (a : A) → i < n → get_or (replicate n (Some a)) i None ≡ Some a
  some_there zero i a h = absurd (omega arith)
  some_there (suc n) zero a h = refl
  some_there (suc n) (suc i) a h = some_there n i a (omega arith)

module _ (T : Type 0) where
  pub no_sent : (links : ℕ) → sent_of {T = T} (no_logs links) ≡ (λ (l : ℕ). [])
  no_sent links = λ k l. ap (λ (o : OutLog T). o.sent) (all_one links l no_out) k

  pub no_got : (links : ℕ) → got_of {T = T} (no_logs links) ≡ (λ (l : ℕ). [])
  no_got links = λ k l. (ap (λ (i : InLog T). take i.taken i.seen) (all_one links l no_in)) k

none_first : {T : Type 0} (n : ℕ) (p : T) → get_elem? [] n ≡ some p → ⊥
none_first n p e = some-ne-none p (sym e)

module _ {D T : Type 0} (Blank : T → Type 0) (Good : ℕ → List T → T → Type 0) (Law : ℕ → (ℕ → List T) → (ℕ → List T) → Type 0) (shape : D) (w : Wiring) (wired : IsWired w) where
  pub opens : (words : List ℕ) (slots : List T) → words ≡ replicate (16 * (2 * w.links + w.bells)) 0 → length slots ≡ w.slots * w.links → ((k : ℕ) (b : T) → get_elem? slots k ≡ some b → Blank b)
      → ((r : ℕ) → Law r (λ _. []) (λ _. [])) → Lawful Blank Good Law shape w (opening words slots (first_view shape w.ranks w.links))
  opens words slots zeros deep blank law =
      let N : ℕ = 16 * (2 * w.links + w.bells) in
      let zero_at : (k : ℕ) → get_or words k 0 ≡ 0 = λ k. ap (λ (z : List ℕ). get_or z k 0) zeros ∙ all_one N k 0 in
      let homes : List (maybe.Option T) = map some slots in record {
        logs = λ _. no_logs w.links;
        owner = λ _. 0;
        wide = ap length zeros ∙ length-replicate N 0;
        deep = length-map slots some ∙ deep;
        each_link = λ l h. subst (λ (z : OutLog T × InLog T). LinkOk Blank Good w l z.0 z.1 words homes) (λ k. (sym (all_one w.links l no_out) k, sym (all_one w.links l no_in) k)) (record {
          posted = zero_at (posted_word l);
          released = zero_at (released_word l);
          taken_seen = omega arith;
          seen_sent = omega arith;
          sent_room = omega arith;
          room_slots = omega arith;
          seen_is = refl;
          seen_away = λ n a b. absurd (omega arith);
          full = λ n p a e. absurd (none_first n p e);
          room_away = λ n a b. absurd (omega arith);
          empty = λ n a b. let at = at_there slots (slot_of w l n) (let q = slot_inside w wired.some_slots l n h in omega arith) in (at.0, blank (slot_of w l n) at.0 at.1, at_map some slots (slot_of w l n) at.0 at.1);
          good = λ n p e. absurd (none_first n p e);
        });
        each_bell = λ l h. subst (λ (z : OutLog T × InLog T). BellOk w l z.0 z.1 words) (λ k. (sym (all_one w.links l no_out) k, sym (all_one w.links l no_in) k)) (record {
          offered_sent = omega arith;
          told = inr (inr (omega arith));
          looked = omega arith;
          rung = omega arith;
          answered = inl refl;
          released = omega arith;
          found = inl refl;
        });
        no_other_bits = λ b h. subst (λ (z : ℕ). z < 2 ^ w.width b) (sym (zero_at (16 * (2 * w.links + b)))) (pow_pos (w.width b));
        each_rank = λ r. (length-replicate w.links no_out, length-replicate w.links no_in, subst (λ (z : (ℕ → List T) × (ℕ → List T)). Law r z.0 z.1) (λ k. (sym (no_sent T w.links) k, sym (no_got T w.links) k)) (law r));
        each_seat = λ j v at r x e. first_seat w.ranks j v at r x e;
        owned = λ r h. (first_view shape w.ranks w.links, refl, some_there w.ranks r (no_logs w.links) h);
      }
    where
      first_seat : (ranks j : ℕ) (v : View D T) → get_elem? (first_view shape ranks w.links ∷ []) j ≡ some v → (r : ℕ) (x : Lists T) → get_or v.lists r None ≡ Some x → (0 ≡ j) × (x ≡ no_logs w.links) × (v.shape ≡ shape)
      first_seat ranks zero v at r x e = let same : first_view shape ranks w.links ≡ v = some-injective (first_view shape ranks w.links) v at in
          (refl, same_some ranks r (no_logs w.links) x (ap (λ (z : View D T). get_or z.lists r None) same ∙ e), ap (λ (z : View D T). z.shape) (sym same))
      first_seat ranks (suc j) v at r x e = absurd (some-ne-none v (sym at))
