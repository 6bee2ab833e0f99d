-- What a seat counts stays right under each step.
use Rattle.std.proofs.Common.{◌≡◌, ℕ, suc, ◌+◌, ◌-◌, ◌^◌, ◌%◌, ◌<◌, ◌≤◌, ◌⊎◌, [], ◌∷◌, ◌++◌, length, sym, ap, ◌∙◌, subst, inr, arith, length-append}
use Rattle.link_slots.specs.Logs.{OutLog, InLog}
use Rattle.link_slots.specs.StepEffects.{beyond}
use Rattle.list_laws.specs.Counts.{saturated_count}
use Rattle.link_slots.specs.Counts.{IsOutEnd, IsInEnd}

module _ {T : Type 0} (slots : ℕ) where
  -- after a look for room
  pub end_looked : (o o' : OutLog T) (sent spare n spare' : ℕ) → IsOutEnd slots o sent spare → beyond (length o.sent) n ≤ slots → beyond (length o.sent) n ≤ length o.sent
      → o'.sent ≡ o.sent → o'.room ≡ length o.sent + (slots - beyond (length o.sent) n) → spare' ≡ slots - (sent + (2 ^ 64 - n)) % 2 ^ 64 → IsOutEnd slots o' sent spare'
  end_looked o o' sent spare n spare' is few low same room spare_is =
      let b : ℕ = beyond (length o.sent) n in
      let e : (sent + (2 ^ 64 - n)) % 2 ^ 64 ≡ b = ap (λ (z : ℕ). (z + (2 ^ 64 - n)) % 2 ^ 64) is.sent_is in
      let l : length o'.sent ≡ length o.sent = ap length same in record {
        sent_is = is.sent_is ∙ ap (λ (z : ℕ). z % 2 ^ 64) (sym l);
        spare_is = omega arith;
        few = omega arith;
        looked = inr (omega arith);
      }

  -- after a post
  pub end_posted : (o o' : OutLog T) (p : T) (sent spare sent' : ℕ) → IsOutEnd slots o sent (suc spare) → o'.sent ≡ o.sent ++ p ∷ [] → o'.room ≡ o.room
      → sent' ≡ (sent + 1) % 2 ^ 64 → IsOutEnd slots o' sent' spare
  end_posted o o' p sent spare sent' is more room sent_is =
      let l : length o'.sent ≡ length o.sent + 1 = ap length more ∙ length-append o.sent (p ∷ []) in record {
        sent_is = (let e = is.sent_is in omega arith);
        spare_is = (let e = is.spare_is in omega arith);
        few = (let e = is.few in omega arith);
        looked = subst (λ (z : ℕ). (z ≡ 0) ⊎ (slots ≤ z)) (sym room) is.looked;
      }

  -- where nothing was taken or seen, and the reader listened no less
  pub end_kept : (i i' : InLog T) (taken waiting noted : ℕ) → IsInEnd slots i taken waiting noted → i'.seen ≡ i.seen → i'.taken ≡ i.taken → i.hears ≤ i'.hears → IsInEnd slots i' taken waiting noted
  end_kept i i' taken waiting noted is seen took more = record {
    taken_is = is.taken_is ∙ ap (λ (z : ℕ). z % 2 ^ 64) (sym took);
    waiting_is = (let e = is.waiting_is in let l = ap length seen in omega arith);
    few = is.few;
    noted_before = (let e = is.noted_before in omega arith);
  }

  -- after a look in
  pub end_looked_in : (i i' : InLog T) (taken noted n : ℕ) (waiting' : ℕ) → IsInEnd slots i taken 0 noted → i'.taken ≡ i.taken → i'.hears ≡ i.hears
      → beyond n (length i.seen % 2 ^ 64) ≤ slots → length i'.seen ≡ length i.seen + beyond n (length i.seen % 2 ^ 64) → n < 2 ^ 64
      → waiting' ≡ (n + (2 ^ 64 - taken)) % 2 ^ 64 → IsInEnd slots i' taken waiting' noted
  end_looked_in i i' taken noted n waiting' is took heard few more small waiting_is =
      let known : length i.seen ≡ i.taken = (let e = is.waiting_is in omega arith) in
      let t : taken ≡ length i.seen % 2 ^ 64 = is.taken_is ∙ ap (λ (z : ℕ). z % 2 ^ 64) (sym known) in
      let b : ℕ = beyond n (length i.seen % 2 ^ 64) in
      let w : waiting' ≡ b = waiting_is ∙ ap (λ (z : ℕ). (n + (2 ^ 64 - z)) % 2 ^ 64) t ∙ ap (λ (z : ℕ). (z + (2 ^ 64 - length i.seen % 2 ^ 64)) % 2 ^ 64) (let q : n ≡ n % 2 ^ 64 = omega arith in q) in record {
        taken_is = is.taken_is ∙ ap (λ (z : ℕ). z % 2 ^ 64) (sym took);
        waiting_is = omega arith;
        few = omega arith;
        noted_before = (let e = is.noted_before in omega arith);
      }

  -- after a parcel was taken
  pub end_taken : (i i' : InLog T) (taken waiting noted taken' noted' : ℕ) → IsInEnd slots i taken (suc waiting) noted → i'.seen ≡ i.seen → i'.taken ≡ suc i.taken
      → taken' ≡ (taken + 1) % 2 ^ 64 → noted' ≡ saturated_count i'.hears → IsInEnd slots i' taken' waiting noted'
  end_taken i i' taken waiting noted taken' noted' is seen took taken_is noted_is = record {
    taken_is = (let e = is.taken_is in omega arith);
    waiting_is = (let e = is.waiting_is in let l = ap length seen in omega arith);
    few = (let e = is.few in omega arith);
    noted_before = omega arith;
  }
