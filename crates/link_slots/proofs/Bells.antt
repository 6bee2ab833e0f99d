-- A link's part of a doorbell under each step.
use Rattle.std.proofs.Common.{◌≡◌, ℕ, zero, suc, ◌+◌, ◌*◌, ◌^◌, ◌<◌, ◌≤◌, Bool, true, false, List, length, get_or, refl, sym, ap, ◌∙◌, inl, inr, ⊎_elim, arith}
use Rattle.std.proofs.lemmas.Nat.Bits.{and_pow, bit_at_or, bit_at-pow_same, bit_at-lt}
use Rattle.std.specs.Int.{bit_at}
use Rattle.std.specs.Int.Bits.{bit_or, bit_and, or_add_and}
use Rattle.link_slots.specs.Logs.{OutLog, InLog}
use Rattle.link_slots.specs.Wiring.{Wiring, bell_word}
use Rattle.link_slots.specs.Link.{BellOk, bit_of}
use Rattle.link_slots.specs.StepEffects.{heard_by, marked_by}

-- a bit that is set stays set when others are set too, and the bits that are set are set
pub bit_stays : (n v c : ℕ) → bit_at n c ≡ 1 → bit_at (bit_or n v) c ≡ 1
bit_stays n v c e = let p = bit_at_or n v c in let q = bit_at-lt v c in omega arith

pub bit_comes : (n c : ℕ) → bit_at (bit_or n (2 ^ c)) c ≡ 1
bit_comes n c = let p = bit_at_or n (2 ^ c) c in let q = bit_at-pow_same c in let r = bit_at-lt n c in omega arith

-- to set a bit that is set changes nothing
pub bit_again : (n c : ℕ) → bit_at n c ≡ 1 → bit_or n (2 ^ c) ≡ n
bit_again n c e = let p = or_add_and n (2 ^ c) in let q : bit_and n (2 ^ c) ≡ 1 * 2 ^ c = and_pow n c ∙ ap (λ (z : ℕ). z * 2 ^ c) e in omega arith

marked_case : (b : ℕ) (m : Bool) → b ≡ 1 → marked_by b m ≡ true
marked_case zero m e = absurd (omega arith)
marked_case (suc b) m e = refl

marked_stays : (b : ℕ) (m : Bool) → m ≡ true → marked_by b m ≡ true
marked_stays zero m e = e
marked_stays (suc b) m e = refl

module _ {T : Type 0} (w : Wiring) where
  pub bell_kept : (l : ℕ) (o o' : OutLog T) (i i' : InLog T) (ws ws' : List ℕ)
      → o'.offered ≡ o.offered → o'.rung_at ≡ o.rung_at → o'.looks ≡ o.looks → o'.room ≡ o.room → length o.sent ≤ length o'.sent → i'.marked ≡ i.marked → i'.hears ≡ i.hears → i'.heard ≡ i.heard → i'.look_ins ≡ i.look_ins → i'.taken ≡ i.taken → i'.released_at ≡ i.released_at → length i.seen ≤ length i'.seen
      → (bit_at (get_or ws (bell_word w l) 0) (w.bit l) ≡ 1 → bit_at (get_or ws' (bell_word w l) 0) (w.bit l) ≡ 1)
      → BellOk w l o i ws → BellOk w l o' i' ws'
  bell_kept l o o' i i' ws ws' offered rung looks room sent marked hears heard look_ins taken released seen bits ok = record {
    offered_sent = let h = ok.offered_sent in omega arith;
    told = ⊎_elim (λ t. inl (bits t)) (λ u. inr (⊎_elim (λ t. inl (marked ∙ t)) (λ t. inr (omega arith)) u)) ok.told;
    looked = let h = ok.looked in let e : bit_of i'.marked ≡ bit_of i.marked = ap bit_of marked in omega arith;
    rung = let h = ok.rung in omega arith;
    answered = ⊎_elim (λ t. inl (rung ∙ t ∙ sym hears)) (λ u. inr (⊎_elim (λ t. inl (marked ∙ t)) (λ t. inr (omega arith)) u)) ok.answered;
    released = let h = ok.released in omega arith;
    found = ⊎_elim (λ t. inl (released ∙ t ∙ sym looks)) (λ t. inr (omega arith)) ok.found;
  }

  -- a look for room finds all that was released
  pub bell_roomed : (l : ℕ) (o o' : OutLog T) (i : InLog T) (ws : List ℕ) → o'.offered ≡ o.offered → o'.rung_at ≡ o.rung_at → length o.sent ≤ length o'.sent → o.looks ≤ o'.looks → i.taken + w.slots ≤ o'.room
      → BellOk w l o i ws → BellOk w l o' i ws
  bell_roomed l o o' i ws offered rung sent looks room ok = record {
    offered_sent = let h = ok.offered_sent in omega arith;
    told = ⊎_elim (λ t. inl t) (λ u. inr (⊎_elim (λ t. inl t) (λ t. inr (omega arith)) u)) ok.told;
    looked = ok.looked;
    rung = let h = ok.rung in omega arith;
    answered = ⊎_elim (λ t. inl (rung ∙ t)) (λ u. inr (⊎_elim (λ t. inl t) (λ t. inr (omega arith)) u)) ok.answered;
    released = let h = ok.released in omega arith;
    found = inr room;
  }

  -- a release comes after all looks so far
  pub bell_released : (l : ℕ) (o : OutLog T) (i i' : InLog T) (ws ws' : List ℕ) → i'.seen ≡ i.seen → i'.marked ≡ i.marked → i'.hears ≡ i.hears → i'.heard ≡ i.heard → i'.look_ins ≡ i.look_ins → i'.released_at ≡ o.looks
      → (bit_at (get_or ws (bell_word w l) 0) (w.bit l) ≡ 1 → bit_at (get_or ws' (bell_word w l) 0) (w.bit l) ≡ 1)
      → BellOk w l o i ws → BellOk w l o i' ws'
  bell_released l o i i' ws ws' seen marked hears heard look_ins released bits ok = let many : length i'.seen ≡ length i.seen = ap length seen in record {
    offered_sent = ok.offered_sent;
    told = ⊎_elim (λ t. inl (bits t)) (λ u. inr (⊎_elim (λ t. inl (marked ∙ t)) (λ t. inr (omega arith)) u)) ok.told;
    looked = let h = ok.looked in let e : bit_of i'.marked ≡ bit_of i.marked = ap bit_of marked in omega arith;
    rung = let h = ok.rung in omega arith;
    answered = ⊎_elim (λ t. inl (t ∙ sym hears)) (λ u. inr (⊎_elim (λ t. inl (marked ∙ t)) (λ t. inr (omega arith)) u)) ok.answered;
    released = omega arith;
    found = inl released;
  }

  -- a look in answers the mark
  pub bell_looked : (l : ℕ) (o : OutLog T) (i i' : InLog T) (ws : List ℕ) → i.marked ≡ true → i'.marked ≡ false → i'.hears ≡ i.hears → i'.heard ≡ i.heard → i'.look_ins ≡ suc i.look_ins → i'.taken ≡ i.taken → i'.released_at ≡ i.released_at → length o.sent ≤ length i'.seen
      → BellOk w l o i ws → BellOk w l o i' ws
  bell_looked l o i i' ws was marked hears heard look_ins taken released seen ok = record {
    offered_sent = ok.offered_sent;
    told = inr (inr (let h = ok.offered_sent in omega arith));
    looked = let h = ok.looked in let e : bit_of i'.marked ≡ 0 = ap bit_of marked in let f : bit_of i.marked ≡ 1 = ap bit_of was in omega arith;
    rung = let h = ok.rung in omega arith;
    answered = inr (inr (let h = ok.offered_sent in omega arith));
    released = let h = ok.released in omega arith;
    found = ⊎_elim (λ t. inl (released ∙ t)) (λ t. inr (omega arith)) ok.found;
  }

  -- a ring sets the bit and offers all
  pub bell_rung : (l : ℕ) (o o' : OutLog T) (i : InLog T) (ws ws' : List ℕ) → o'.offered ≡ length o.sent → length o'.sent ≡ length o.sent → o'.rung_at ≡ i.hears → o'.looks ≡ o.looks → o'.room ≡ o.room → bit_at (get_or ws' (bell_word w l) 0) (w.bit l) ≡ 1
      → BellOk w l o i ws → BellOk w l o' i ws'
  bell_rung l o o' i ws ws' offered sent rung looks room bits ok = record {
    offered_sent = omega arith;
    told = inl bits;
    looked = ok.looked;
    rung = omega arith;
    answered = inl rung;
    released = let h = ok.released in omega arith;
    found = ⊎_elim (λ t. inl (t ∙ sym looks)) (λ t. inr (omega arith)) ok.found;
  }

  heard_case : (b : ℕ) (i : InLog T) → b < 2 → i.look_ins + bit_of i.marked ≤ i.heard → (heard_by b i).look_ins + bit_of (heard_by b i).marked ≤ (heard_by b i).heard
  heard_case zero i h ok = omega arith
  heard_case (suc b) i h ok = omega arith

  -- a hear marks where the bit was set
  pub bell_heard : (l : ℕ) (o : OutLog T) (i : InLog T) (ws ws' : List ℕ) → BellOk w l o i ws → BellOk w l o (heard_by (bit_at (get_or ws (bell_word w l) 0) (w.bit l)) i) ws'
  bell_heard l o i ws ws' ok = let b : ℕ = bit_at (get_or ws (bell_word w l) 0) (w.bit l) in record {
    offered_sent = ok.offered_sent;
    told = inr (⊎_elim (λ t. inl (marked_case b i.marked t)) (λ u. ⊎_elim (λ t. inl (marked_stays b i.marked t)) (λ t. inr t) u) ok.told);
    looked = heard_case b i (bit_at-lt (get_or ws (bell_word w l) 0) (w.bit l)) ok.looked;
    rung = let h = ok.rung in omega arith;
    answered = inr (⊎_elim (λ t. inl (marked_case b i.marked t)) (λ u. ⊎_elim (λ t. inl (marked_stays b i.marked t)) (λ t. inr t) u) ok.told);
    released = ok.released;
    found = ok.found;
  }

-- A collect that answers Nothing leaves its link unmarked, with all that was seen taken. So where
-- the link's bit isn't set either, as right after a hear of its doorbell, each parcel offered so
-- far is taken: none is left that was offered before the port listened.
pub none_left : {T : Type 0} (w : Wiring) (l : ℕ) (o : OutLog T) (i : InLog T) (words : List ℕ) → BellOk w l o i words → bit_at (get_or words (bell_word w l) 0) (w.bit l) ≡ 0 → i.marked ≡ false → length i.seen ≡ i.taken → o.offered ≤ i.taken
none_left w l o i words ok unset unmarked all =
    ⊎_elim (λ set. absurd (omega arith)) (⊎_elim (λ marked. absurd (let no : true ≡ false = sym marked ∙ unmarked in cc)) (λ seen. omega arith)) ok.told

-- and so where the doorbell was heard since the sender last rang
pub none_unheard : {T : Type 0} (w : Wiring) (l : ℕ) (o : OutLog T) (i : InLog T) (words : List ℕ) → BellOk w l o i words → o.rung_at < i.hears → i.marked ≡ false → length i.seen ≡ i.taken → o.offered ≤ i.taken
none_unheard w l o i words ok heard unmarked all =
    ⊎_elim (λ same. absurd (omega arith)) (⊎_elim (λ marked. absurd (let no : true ≡ false = sym marked ∙ unmarked in cc)) (λ seen. omega arith)) ok.answered
