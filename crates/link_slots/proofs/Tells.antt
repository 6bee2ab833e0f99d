-- What the bank's table allows a rank's seat, as its plays are told.
use Rattle.std.proofs.Common.{◌≡◌, ◌≢◌, ℕ, ◌+◌, ◌*◌, ◌^◌, ◌%◌, ◌<◌, Bool, true, false, eqb, List, [], ◌∷◌, ◌++◌, length, get_or, set, sym, refl, ap, ◌∙◌, subst, arith, eqb-true, eq-eqb}
use Rattle.std.proofs.lemmas.List.{set-get_or}
use Rattle.std.proofs.lemmas.Nat.Bits.{bit_at-pow_same, bit_at-pow_other}
use Rattle.std.specs.Int.{bit_at}
use Rattle.std.specs.Int.Bits.{bit_or, bit_and}
use mathlib.Core.Option.{some, none}
use lib.ListN.{get_elem?}
use mathlib.Core.Logic.{dite}
use native.Mathlib.Decide.{ℕ_discrete}
use Rattle.atomic_table.specs.Table.{State, Me, Act, keeps, carried_after, Valid, step, stepped, Allows}
use Rattle.atomic_table.proofs.Lists.{set_again}
use Rattle.item_buffer.specs.Contents.{Contents}
use Rattle.route_tensor.specs.Grid.{ranks}
use Rattle.route_tensor.specs.Link.{links}
use Rattle.route_tensor.specs.Ends.{sender_at, reader_at}
use Rattle.link_slots.specs.Logs.{out_of, in_of, with_out, sent_of, got_of}
use Rattle.link_slots.specs.View.{own_logs}
use Rattle.link_slots.specs.Wiring.{Wiring, slot_of, posted_word, released_word, bell_word}
use Rattle.link_slots.specs.StepEffects.{LookedFirst}
use Rattle.link_slots.specs.Shape.{Shape, IsShape, wiring, IsBlank, MayFollow, KeepsLaw}
use Rattle.link_slots.specs.WordSteps.{TableView, IsLawful, HoldsSeat, room_found, posted, looked_in, released, spare_brought, parcel_brought, rung, heard, room_told, post_told, look_told, release_told, spare_told, parcel_told, ring_look_told, ring_told, hear_told}
use Rattle.link_slots.proofs.Moves as moves
use Rattle.link_slots.proofs.Listening as listening
use Rattle.link_slots.proofs.Bells.{bit_again}
use Rattle.link_slots.proofs.Wires.{wired, one_sender}
use Rattle.link_slots.proofs.HeldSeats.{law_taken}
use Rattle.link_slots.proofs.Hearing.{bit_unset, bit_set}

tells : {S V : Type 0} (holds : State S V → Type 0) (slots id i : ℕ) (me : Me S V) (f : ℕ → ℕ) (P Q : ℕ → Me S V → Type 0) → ((n : ℕ) (m' : Me S V) → P n m' → Q n m') → Allows holds slots id me i f P → Allows holds slots id me i f Q
tells holds slots id i me f P Q k allows s ok deep at fits = let t = allows s ok deep at fits in (t.0, t.1, t.2, t.3, k _ _ t.4)

module _ {S V : Type 0} (holds : State S V → Type 0) (slots id i : ℕ) (me : Me S V) where
  looked : (f : ℕ → ℕ) (P : Me S V → Type 0) (s : State S V) → holds s → get_elem? s.views id ≡ some me.0 → (is_same : Bool) → (is_same ≡ true → f (get_or s.words i 0) ≡ get_or s.words i 0)
      → ((w : V) × (a : Act S) × Valid s.homes me.1 a × holds (stepped s i (f (get_or s.words i 0)) id me.1 w a) × P (w, carried_after me.1 a))
      → (w : V) × (a : Act S) × Valid s.homes me.1 a × holds (stepped s i (get_or s.words i 0) id me.1 w a) × LookedFirst is_same P me (w, carried_after me.1 a)
  looked f P s ok at true same t = (t.0, t.1, t.2, subst (λ (z : ℕ). holds (stepped s i z id me.1 t.0 t.1)) (same refl) t.3, t.4)
  looked f P s ok at false same t =
      (me.0, keeps, tt, subst (λ (z : List ℕ × List V). holds (record { words = z.0; homes = s.homes; views = z.1 })) (λ k. (sym (set-get_or s.words i 0) k, sym (set_again s.views id me.0 at) k)) ok, refl)

  -- A load may be the step where that would leave the number as it is, and where it wouldn't the
  -- load changes nothing.
  looks_first : (f : ℕ → ℕ) (P : ℕ → Me S V → Type 0) (is_same : ℕ → Bool) → ((n : ℕ) → is_same n ≡ true → f n ≡ n)
      → Allows holds slots id me i f P → Allows holds slots id me i (λ n. n) (λ n m'. LookedFirst (is_same n) (P n) me m')
  looks_first f P is_same same allows s ok deep at fits = let n : ℕ = get_or s.words i 0 in looked f (P n) s ok at (is_same n) (same n) (allows s ok deep at fits)

same_power : (a b : ℕ) → 2 ^ a ≡ 2 ^ b → a ≡ b
same_power a b e = dite (ℕ_discrete a b) (λ s. s) (λ ne. absurd (let p = bit_at-pow_same a in let q = bit_at-pow_other b a ne in let r : bit_at (2 ^ a) a ≡ bit_at (2 ^ b) a = ap (λ (z : ℕ). bit_at z a) e in omega arith))

module _ (cap : ℕ) (shape : Shape) (is : IsShape shape) (count : ℕ) (as_many : count ≡ shape.slots * links shape.dims) (id l : ℕ) where
  abbrev M : Type 0
  M = Me Contents TableView

  abbrev Law : ℕ → (ℕ → List Contents) → (ℕ → List Contents) → Type 0
  Law = KeepsLaw shape.dims

  abbrev Good : ℕ → List Contents → Contents → Type 0
  Good = MayFollow shape.dims cap

  may : (m : M) (i : ℕ) (f : ℕ → ℕ) (P Q : ℕ → M → Type 0) → ((n : ℕ) (m' : M) → P n m' → Q n m') → Allows (IsLawful cap shape) (shape.slots * links shape.dims) id m i f P → Allows (IsLawful cap shape) count id m i f Q
  may m i f P Q k a = subst (λ (z : ℕ). Allows (IsLawful cap shape) z id m i f Q) (sym as_many) (tells (IsLawful cap shape) (shape.slots * links shape.dims) id i m f P Q k a)

  of_both : (m : M) (F : Shape → ℕ → Type 0) (q : ℕ) → HoldsSeat shape m → l ≡ q → F shape l → F m.0.shape q
  of_both m F q manned e f = subst (λ (z : Shape × ℕ). F z.0 z.1) (λ k. (sym manned.of k, e k)) f

  pub room : (m : M) → HoldsSeat shape m → l < links shape.dims → sender_at shape.dims l ≡ m.0.pick
      → Allows (IsLawful cap shape) count id m (released_word l) (λ n. n) (room_told cap (step count (released_word l) 0 0 none) m)
  room m manned inside mine = may m (released_word l) (λ n. n) (room_found cap shape l m) (room_told cap (step count (released_word l) 0 0 none) m)
      (λ n m' p q e. of_both m (λ s k. room_found cap s k m n m') q manned (omega arith) p)
      (moves.look_room IsBlank Good Law shape (wiring shape) (wired shape is) id l m.0 m.1 manned.speaks inside mine manned.holds)

  pub look : (m : M) → HoldsSeat shape m → l < links shape.dims → reader_at shape.dims l ≡ m.0.pick → (in_of (own_logs m.0) l).marked ≡ true
      → Allows (IsLawful cap shape) count id m (posted_word l) (λ n. n) (look_told cap (step count (posted_word l) 0 0 none) m)
  look m manned inside mine marked = may m (posted_word l) (λ n. n) (looked_in cap shape l m) (look_told cap (step count (posted_word l) 0 0 none) m)
      (λ n m' p q e. of_both m (λ s k. looked_in cap s k m n m') q manned (omega arith) p)
      (moves.look_in IsBlank Good Law shape (wiring shape) (wired shape is) id l m.0 m.1 manned.speaks inside mine marked manned.holds)

  pub bring_spare : (m : M) → HoldsSeat shape m → l < links shape.dims → sender_at shape.dims l ≡ m.0.pick → length (out_of (own_logs m.0) l).sent < (out_of (own_logs m.0) l).room
      → Allows (IsLawful cap shape) count id m (posted_word l) (λ n. n) (spare_told cap (step count (posted_word l) 0 0 none) m)
  bring_spare m manned inside mine some_left = may m (posted_word l) (λ n. n) (λ n. spare_brought cap shape l m) (spare_told cap (step count (posted_word l) 0 0 none) m)
      (λ n m' p q e. of_both m (λ s k. spare_brought cap s k m m') q manned (omega arith) p)
      (moves.bring_spare IsBlank Good Law shape (wiring shape) (wired shape is) id l (posted_word l) m.0 m.1 manned.speaks inside mine some_left manned.holds)

  pub bring_parcel : (m : M) → HoldsSeat shape m → l < links shape.dims → reader_at shape.dims l ≡ m.0.pick → (in_of (own_logs m.0) l).taken < length (in_of (own_logs m.0) l).seen
      → Allows (IsLawful cap shape) count id m (released_word l) (λ n. n) (parcel_told cap (step count (released_word l) 0 0 none) m)
  bring_parcel m manned inside mine some_left = may m (released_word l) (λ n. n) (λ n. parcel_brought cap shape l m) (parcel_told cap (step count (released_word l) 0 0 none) m)
      (λ n m' p q e. of_both m (λ s k. parcel_brought cap s k m m') q manned (omega arith) p)
      (moves.bring_parcel IsBlank Good Law shape (wiring shape) (wired shape is) id l (released_word l) m.0 m.1 manned.speaks inside mine some_left manned.holds)

  -- here a filled parcel lies in the slot in front, in place of the empty one b
  pub post : (v : TableView) (c : List (ℕ × Contents)) (b p : Contents) → HoldsSeat shape (v, (slot_of (wiring shape) l (length (out_of (own_logs v) l).sent), b) ∷ c) → l < links shape.dims → sender_at shape.dims l ≡ v.pick
      → length (out_of (own_logs v) l).sent < (out_of (own_logs v) l).room → MayFollow shape.dims cap l (out_of (own_logs v) l).sent p
      → (Law v.pick (sent_of (own_logs v)) (got_of (own_logs v)) → Law v.pick (sent_of (with_out (own_logs v) l (let o = out_of (own_logs v) l in record { sent = o.sent ++ p ∷ []; room = o.room; offered = o.offered; looks = o.looks; rung_at = o.rung_at }))) (got_of (own_logs v)))
      → let m : M = (v, (slot_of (wiring shape) l (length (out_of (own_logs v) l).sent), p) ∷ c) in Allows (IsLawful cap shape) count id m (posted_word l) (λ n. (n + 1) % 2 ^ 64) (post_told cap (step count (posted_word l) 1 0 none) m)
  post v c b p manned inside mine some_left good law =
      let m : M = (v, (slot_of (wiring shape) l (length (out_of (own_logs v) l).sent), p) ∷ c) in
      may m (posted_word l) (λ n. (n + 1) % 2 ^ 64) (λ n. posted cap shape l m) (post_told cap (step count (posted_word l) 1 0 none) m)
      (λ n m' t q e. subst (λ (z : Shape × ℕ). posted cap z.0 z.1 m m') (λ k. (sym manned.of k, (let same : l ≡ q = omega arith in same) k)) t)
      (moves.post IsBlank Good Law shape (wiring shape) (wired shape is) id l v c b p manned.speaks inside mine some_left good law manned.holds)

  -- here an empty parcel lies in the slot in front, in place of the one p that was there
  pub release : (v : TableView) (c : List (ℕ × Contents)) (b p : Contents) → HoldsSeat shape (v, (slot_of (wiring shape) l (in_of (own_logs v) l).taken, p) ∷ c) → l < links shape.dims → reader_at shape.dims l ≡ v.pick
      → (in_of (own_logs v) l).taken < length (in_of (own_logs v) l).seen → IsBlank b
      → let m : M = (v, (slot_of (wiring shape) l (in_of (own_logs v) l).taken, b) ∷ c) in Allows (IsLawful cap shape) count id m (released_word l) (λ n. (n + 1) % 2 ^ 64) (release_told cap (step count (released_word l) 1 0 none) m)
  release v c b p manned inside mine some_left blank =
      let m : M = (v, (slot_of (wiring shape) l (in_of (own_logs v) l).taken, b) ∷ c) in
      may m (released_word l) (λ n. (n + 1) % 2 ^ 64) (λ n. released cap shape l m) (release_told cap (step count (released_word l) 1 0 none) m)
      (λ n m' t q e. subst (λ (z : Shape × ℕ). released cap z.0 z.1 m m') (λ k. (sym manned.of k, (let same : l ≡ q = omega arith in same) k)) t)
      (moves.release IsBlank Good Law shape (wiring shape) (wired shape is) id l v c b p manned.speaks inside mine some_left blank (λ looks long. law_taken shape.dims v.pick l (own_logs v) looks is.grid long some_left) manned.holds)

  pub look_before_ring : (m : M) (word : ℕ) → word ≡ bell_word (wiring shape) l → HoldsSeat shape m → l < links shape.dims → sender_at shape.dims l ≡ m.0.pick
      → Allows (IsLawful cap shape) count id m word (λ n. n) (ring_look_told cap (step count word 0 0 none) m)
  look_before_ring m word at manned inside mine =
      let w : Wiring = wiring shape in
      subst (λ (z : ℕ). Allows (IsLawful cap shape) count id m z (λ n. n) (ring_look_told cap (step count z 0 0 none) m)) (sym at)
      (may m (bell_word w l) (λ n. n) (λ n m'. LookedFirst (eqb (bit_at n (w.bit l)) 1) (rung cap shape l m) m m') (ring_look_told cap (step count (bell_word w l) 0 0 none) m)
      (λ n m' t q. subst (λ (z : Shape). q < (wiring z).links → (wiring z).from q ≡ m.0.pick → bell_word w l ≡ bell_word (wiring z) q → LookedFirst (eqb (bit_at n ((wiring z).bit q)) 1) (rung cap z q m) m m') (sym manned.of)
      (λ in' from e. let same : l ≡ q = one_sender shape is l q inside in' (omega arith) (mine ∙ sym from) in subst (λ (z : ℕ). LookedFirst (eqb (bit_at n (w.bit z)) 1) (rung cap shape z m) m m') same t))
      (looks_first (IsLawful cap shape) (shape.slots * links shape.dims) id (bell_word w l) m (λ n. bit_or n (2 ^ w.bit l)) (λ n. rung cap shape l m) (λ n. eqb (bit_at n (w.bit l)) 1) (λ n e. bit_again n (w.bit l) (eqb-true _ _ e))
      (listening.ring IsBlank Good Law shape w (wired shape is) id l m.0 m.1 manned.speaks inside mine manned.holds)))

  pub ring : (m : M) (word mask : ℕ) → word ≡ bell_word (wiring shape) l → mask ≡ 2 ^ (wiring shape).bit l → HoldsSeat shape m → l < links shape.dims → sender_at shape.dims l ≡ m.0.pick
      → Allows (IsLawful cap shape) count id m word (λ n. bit_or n mask) (ring_told cap (step count word mask 0 none) m)
  ring m word mask at bit manned inside mine =
      let w : Wiring = wiring shape in
      subst (λ (z : ℕ × ℕ). Allows (IsLawful cap shape) count id m z.0 (λ n. bit_or n z.1) (ring_told cap (step count z.0 z.1 0 none) m)) (λ k. (sym at k, sym bit k))
      (may m (bell_word w l) (λ n. bit_or n (2 ^ w.bit l)) (λ n. rung cap shape l m) (ring_told cap (step count (bell_word w l) (2 ^ w.bit l) 0 none) m)
      (λ n m' t q. subst (λ (z : Shape). q < (wiring z).links → bell_word w l ≡ bell_word (wiring z) q → 2 ^ w.bit l ≡ 2 ^ (wiring z).bit q → rung cap z q m m') (sym manned.of)
      (λ in' e f. let same : l ≡ q = (wired shape is).one_bit l q inside in' (omega arith) (same_power (w.bit l) (w.bit q) f) in subst (λ (z : ℕ). rung cap shape z m m') same t))
      (listening.ring IsBlank Good Law shape w (wired shape is) id l m.0 m.1 manned.speaks inside mine manned.holds))

  pub hear : (m : M) (word b : ℕ) → word ≡ 16 * (2 * (wiring shape).links + b) → (wiring shape).bell l ≡ b → HoldsSeat shape m → l < links shape.dims → reader_at shape.dims l ≡ m.0.pick
      → Allows (IsLawful cap shape) count id m word (λ _. 0) (hear_told cap (step count word 0 0 none) m)
  hear m word b at rings manned inside mine =
      let w : Wiring = wiring shape in
      subst (λ (z : ℕ). Allows (IsLawful cap shape) count id m z (λ _. 0) (hear_told cap (step count z 0 0 none) m)) (sym at)
      (may m (16 * (2 * w.links + b)) (λ _. 0) (heard cap shape b m) (hear_told cap (step count (16 * (2 * w.links + b)) 0 0 none) m)
      (λ n m' t q. subst (λ (z : Shape). 16 * (2 * w.links + b) ≡ 16 * (2 * (wiring z).links + q) → heard cap z q m n m') (sym manned.of)
      (λ e. let same : b ≡ q = omega arith in subst (λ (z : ℕ). heard cap shape z m n m') same t))
      (listening.hear IsBlank Good Law shape w (wired shape is) id l b m.0 m.1 manned.speaks inside mine rings manned.holds))

-- the doorbell of a link is one of the bank's
pub rings : (shape : Shape) → IsShape shape → (l : ℕ) → l < links shape.dims → (wiring shape).bell l < ranks shape.dims * length shape.dims
rings shape is l inside = (wired shape is).rung l inside

-- what a ring at the link's bit tells of it
pub rung_is : (cap : ℕ) (shape : Shape) (l : ℕ) (m : Me Contents TableView) (word mask count n : ℕ) (m' : Me Contents TableView) → HoldsSeat shape m → l < links shape.dims → word ≡ bell_word (wiring shape) l → mask ≡ 2 ^ (wiring shape).bit l
    → ring_told cap (step count word mask 0 none) m n m' → rung cap shape l m m'
rung_is cap shape l m word mask count n m' manned inside at bit told =
    subst (λ (z : Shape). l < links z.dims → word ≡ bell_word (wiring z) l → mask ≡ 2 ^ (wiring z).bit l → rung cap z l m m') manned.of (told l) inside at bit

-- the same with a look before it, as code reads the word: where the look finds the bit set, it is
-- the ring
module _ (cap : ℕ) (shape : Shape) (l : ℕ) (m : Me Contents TableView) (word mask count n : ℕ) (m' : Me Contents TableView) (manned : HoldsSeat shape m) (inside : l < links shape.dims) (mine : sender_at shape.dims l ≡ m.0.pick)
    (at : word ≡ bell_word (wiring shape) l) (bit : mask ≡ 2 ^ (wiring shape).bit l) (told : ring_look_told cap (step count word 0 0 none) m n m') where
  look_is : LookedFirst (eqb (bit_at n ((wiring shape).bit l)) 1) (rung cap shape l m) m m'
  look_is = subst (λ (z : Shape). l < links z.dims → sender_at z.dims l ≡ m.0.pick → word ≡ bell_word (wiring z) l → LookedFirst (eqb (bit_at n ((wiring z).bit l)) 1) (rung cap z l m) m m') manned.of (told l) inside mine at

  pub rung_by_look : bit_and n mask ≢ 0 → rung cap shape l m m'
  rung_by_look set = subst (λ (z : Bool). LookedFirst z (rung cap shape l m) m m') (eq-eqb _ 1 (bit_set n ((wiring shape).bit l) mask bit set)) look_is

  pub not_yet_rung : bit_and n mask ≡ 0 → m' ≡ m
  not_yet_rung unset = subst (λ (z : Bool). LookedFirst z (rung cap shape l m) m m') (ap (λ (z : ℕ). eqb z 1) (bit_unset n ((wiring shape).bit l) mask bit unset)) look_is

  pub rung_after_look : bit_and n mask ≡ 0 → (k : ℕ) (m'' : Me Contents TableView) → ring_told cap (step count word mask 0 none) m' k m'' → rung cap shape l m m''
  rung_after_look unset k m'' = subst (λ (z : Me Contents TableView). ring_told cap (step count word mask 0 none) z k m'' → rung cap shape l m m'') (sym (not_yet_rung unset)) (rung_is cap shape l m word mask count k m'' manned inside at bit)

-- what a hear of the doorbell b tells, as code reads the word
pub heard_is : (cap : ℕ) (shape : Shape) (b : ℕ) (m : Me Contents TableView) (word count n : ℕ) (m' : Me Contents TableView) → HoldsSeat shape m → word ≡ 16 * (2 * (wiring shape).links + b)
    → hear_told cap (step count word 0 0 none) m n m' → heard cap shape b m n m'
heard_is cap shape b m word count n m' manned at told =
    subst (λ (z : Shape). word ≡ 16 * (2 * (wiring z).links + b) → heard cap z b m n m') manned.of (told b) at
