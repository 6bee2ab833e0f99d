-- A lawful bank, when it is closed, keeps the laws of a round.
use Rattle.std.proofs.Common.{◌≡◌, ℕ, zero, suc, ◌-◌, ◌^◌, min, ◌<◌, ◌≤◌, true, false, Bool, cond, eqb, eq-eqb, ne_eqb, Option, Some, None, IsSome, List, [], ◌∷◌, ◌++◌, map, length, get_or, take, drop, sym, refl, ap, ◌∙◌, subst, arith, append_assoc, length-append}
use Rattle.std.proofs.lemmas.List.{length-map, take-append-drop, length-take-le}
use Rattle.std.proofs.Math.Seq.{get_or-append_seam}
use lib.ListN.{get_or-append, get_elem?}
use mathlib.Core.Option.{some}
use mathlib.Core.Logic.{dite}
use native.Mathlib.Decide.{ℕ_discrete, dec_le}
use Rattle.atomic_table.specs.Table.{State}
use Rattle.atomic_table.proofs.Lists.{at_map}
use Rattle.item_buffer.specs.Contents.{Contents, Shipped, as_shipped}
use Rattle.route_tensor.specs.Grid.{ranks}
use Rattle.route_tensor.specs.Link.{links}
use Rattle.route_tensor.specs.Ends.{sender_at, reader_at}
use Rattle.port_bank.specs.Logs.{lasts, starting_at, ending_at}
use Rattle.port_bank.specs.Link.{LinkLaw}
use Rattle.port_bank.specs.Relay.{RelayLaw}
use Rattle.port_bank.specs.Round.{Round, logs_of, IsRound, ended_by_all}
use Rattle.port_bank.proofs.Fronts.{begins_map}
use Rattle.port_bank.proofs.Kept.{law_own}
use Rattle.port_bank.proofs.Closing.{close_law, ended_more}
use Rattle.list_laws.specs.Counts.{saturated_count}
use Rattle.link_slots.specs.Logs.{OutLog, InLog, Lists, no_out, no_in, out_of, in_of, sent_of, got_of, got}
use Rattle.link_slots.specs.Link.{LinkOk}
use Rattle.link_slots.specs.Shape.{Shape, IsShape, wiring, IsBlank, MayFollow, shipped_all}
use Rattle.link_slots.specs.WordSteps.{TableView, IsLawful}
use Rattle.link_slots.specs.ClosedBank.{each_below, logs_at, round_left, slot_round, AllThere}
use Rattle.link_slots.specs.OwnLinks.{IsOwn}
use Rattle.link_slots.specs.View.{logs_or}
use Rattle.link_slots.proofs.Lookups.{at_there, read}
use Rattle.link_slots.proofs.Wires.{ends_join}

module _ {A : Type 0} (f : ℕ → A) where
  pub length-each_below : (n : ℕ) → length (each_below f n) ≡ n
  length-each_below zero = refl
  length-each_below (suc n) = length-append (each_below f n) (f n ∷ []) ∙ (let e = length-each_below n in omega arith)

  pub at_each_below : (n i : ℕ) (d : A) → i < n → get_or (each_below f n) i d ≡ f i
  at_each_below zero i d h = absurd (omega arith)
  at_each_below (suc n) i d h = dite (ℕ_discrete i n)
      (λ e. ap (λ (z : ℕ). get_or (each_below f n ++ f n ∷ []) z d) (e ∙ sym (length-each_below n)) ∙ get_or-append_seam (each_below f n) (f n) [] d ∙ ap f (sym e))
      (λ ne. get_or-append (each_below f n) (f n ∷ []) d i (let e = length-each_below n in omega arith) ∙ at_each_below n i d (omega arith))

past_end : {A : Type 0} (l : List A) (i : ℕ) (d : A) → length l ≤ i → get_or l i d ≡ d
past_end [] i d h = refl
past_end (x ∷ xs) zero d h = absurd (omega arith)
past_end (x ∷ xs) (suc i) d h = past_end xs i d (omega arith)

take-map : (n : ℕ) (l : List Contents) → take n (map as_shipped l) ≡ map as_shipped (take n l)
take-map zero [] = refl
take-map zero (x ∷ xs) = refl
take-map (suc n) [] = refl
take-map (suc n) (x ∷ xs) = λ k. as_shipped x ∷ take-map n xs k

shipped_at : (l : List Contents) (i : ℕ) (d : Shipped) (p : Contents) → get_elem? l i ≡ some p → get_or (map as_shipped l) i d ≡ as_shipped p
shipped_at l i d p e = read (map as_shipped l) i (as_shipped p) d (at_map as_shipped l i p e)

-- the law of one link, from what its sender and its reader know
link_law : (cap : ℕ) (shape : Shape) (l : ℕ) (o : OutLog Contents) (i : InLog Contents) (ws : List ℕ) (hs : List _) → LinkOk IsBlank (MayFollow shape.dims cap) (wiring shape) l o i ws hs
    → LinkLaw cap shape.slots (map as_shipped o.sent) (map as_shipped (got i))
link_law cap shape l o i ws hs ok =
    let whole : o.sent ≡ got i ++ (drop i.taken i.seen ++ drop (length i.seen) o.sent) =
    sym (take-append-drop (length i.seen) o.sent) ∙ ap (λ (z : List Contents). z ++ drop (length i.seen) o.sent) (sym ok.seen_is ∙ sym (take-append-drop i.taken i.seen)) ∙ append_assoc (take i.taken i.seen) (drop i.taken i.seen) (drop (length i.seen) o.sent) in
    let fine : (k : ℕ) (d : Shipped) → k < length (map as_shipped o.sent) → (p : Contents) × (get_or (map as_shipped o.sent) k d ≡ as_shipped p) × MayFollow shape.dims cap l (take k o.sent) p =
    λ k d h. let at = at_there o.sent k (let n = length-map o.sent as_shipped in omega arith) in (at.0, shipped_at o.sent k d at.0 at.1, ok.good k at.0 at.1) in record {
      begins = begins_map as_shipped (got i) o.sent (record { rest = drop i.taken i.seen ++ drop (length i.seen) o.sent; is = whole });
      bound = (let a = length-map o.sent as_shipped in let b = length-map (got i) as_shipped in let t = length-take-le i.taken i.seen ok.taken_seen in let s = ok.sent_room in let r = ok.room_slots in omega arith);
      dated = λ k d h. let f = fine k d h in ap (λ (z : Shipped). z.epoch) f.1 ∙ f.2.dated ∙ ap lasts (sym (take-map k o.sent));
      fits = λ k d h. let f = fine k d h in subst (λ (z : Shipped). length z.entries ≤ cap) (sym f.1) f.2.fits;
    }

pub live : (cap : ℕ) (shape : Shape) (s : State Contents TableView) → IsShape shape → (ok : IsLawful cap shape s) → IsRound (round_left shape cap ok.logs)
live cap shape s is ok =
    let dims : List ℕ = shape.dims in let n : ℕ = links dims in let round : Round = round_left shape cap ok.logs in
    let from : (l : ℕ) → l < n → sender_at dims l < ranks dims = λ l h. (ends_join dims is.grid l h).sender in
    let to : (l : ℕ) → l < n → reader_at dims l < ranks dims = λ l h. (ends_join dims is.grid l h).reader in
    let sent_at : (l : ℕ) → l < n → logs_of round.sent l ≡ map as_shipped (sent_of (ok.logs (sender_at dims l)) l) =
    λ l h. at_each_below (λ k. map as_shipped (sent_of (ok.logs (sender_at dims k)) k)) n l [] h in
    let got_at : (l : ℕ) → l < n → logs_of round.got l ≡ map as_shipped (got_of (ok.logs (reader_at dims l)) l) =
    λ l h. at_each_below (λ k. map as_shipped (got_of (ok.logs (reader_at dims k)) k)) n l [] h in
    let law : (l : ℕ) → l < n → LinkLaw cap shape.slots (logs_of round.sent l) (logs_of round.got l) =
    λ l h. subst (λ (z : List Shipped × List Shipped). LinkLaw cap shape.slots z.0 z.1) (λ k. (sym (sent_at l h) k, sym (got_at l h) k))
    (link_law cap shape l (out_of (ok.logs (sender_at dims l)) l) (in_of (ok.logs (reader_at dims l)) l) s.words s.homes (ok.each_link l h)) in
    let sent_own : (r l : ℕ) → sender_at dims l ≡ r → map as_shipped (sent_of (ok.logs r) l) ≡ logs_of round.sent l =
    λ r l e. dite (dec_le (suc l) n)
    (λ h. ap (λ (z : ℕ). map as_shipped (sent_of (ok.logs z) l)) (sym e) ∙ sym (sent_at l h))
    (λ h. ap (λ (z : OutLog Contents). map as_shipped z.sent) (past_end (ok.logs r).outs l no_out (let q = (ok.each_rank r).0 in omega arith)) ∙ sym (past_end round.sent l [] (let q = length-each_below (λ k. map as_shipped (sent_of (ok.logs (sender_at dims k)) k)) n in omega arith))) in
    let got_own : (r l : ℕ) → reader_at dims l ≡ r → map as_shipped (got_of (ok.logs r) l) ≡ logs_of round.got l =
    λ r l e. dite (dec_le (suc l) n)
    (λ h. ap (λ (z : ℕ). map as_shipped (got_of (ok.logs z) l)) (sym e) ∙ sym (got_at l h))
    (λ h. ap (λ (z : InLog Contents). map as_shipped (got z)) (past_end (ok.logs r).ins l no_in (let q = (ok.each_rank r).1 in omega arith)) ∙ sym (past_end round.got l [] (let q = length-each_below (λ k. map as_shipped (got_of (ok.logs (reader_at dims k)) k)) n in omega arith))) in
    let many : length round.got ≡ n = length-each_below (λ k. map as_shipped (got_of (ok.logs (reader_at dims k)) k)) n in
    let kept : (r : ℕ) → r < ranks dims → RelayLaw dims r (logs_of round.sent) (logs_of round.got) =
    λ r h. law_own dims r (shipped_all (sent_of (ok.logs r))) (logs_of round.sent) (shipped_all (got_of (ok.logs r))) (logs_of round.got) is.grid (sent_own r) (got_own r) (ok.each_rank r).2 in
    record {
      grid = is.grid;
      counts = is.counts;
      all_sent = length-each_below (λ k. map as_shipped (sent_of (ok.logs (sender_at dims k)) k)) n;
      all_got = many;
      each_link = law;
      fair = λ l h. (kept (sender_at dims l) (from l h)).fair l h refl;
      in_order = close_law round (record {
        grid = is.grid;
        fronts = λ l h. (law l h).begins;
        relays = kept;
      }) many;
    }

same_below : {A : Type 0} (f g : ℕ → A) (n : ℕ) → ((i : ℕ) → i < n → f i ≡ g i) → each_below f n ≡ each_below g n
same_below f g zero same = refl
same_below f g (suc n) same = λ k. same_below f g n (λ i h. same i (omega arith)) k ++ same n (omega arith) k ∷ []

pub is_there : (o : Option (Lists Contents)) → IsSome o → o ≡ Some (logs_or o)
is_there None h = absurd (let e : false ≡ true = h in cc)
is_there (Some x) h = refl

pub settled : (cap : ℕ) (shape : Shape) (s : State Contents TableView) (id : ℕ) (v : TableView) → IsShape shape → IsLawful cap shape s → get_elem? s.views id ≡ some v → AllThere shape v.lists → IsRound (slot_round shape cap v.lists)
settled cap shape s id v is ok at all =
    let dims : List ℕ = shape.dims in
    let known : (r : ℕ) → r < ranks dims → ok.logs r ≡ logs_at v.lists r = λ r h. sym (ok.each_seat id v at r (logs_at v.lists r) (is_there (get_or v.lists r None) (all r h))).1 in
    let sent = same_below (λ l. map as_shipped (sent_of (ok.logs (sender_at dims l)) l)) (λ l. map as_shipped (sent_of (logs_at v.lists (sender_at dims l)) l)) (links dims)
    (λ l h. ap (λ (z : Lists Contents). map as_shipped (sent_of z l)) (known (sender_at dims l) (ends_join dims is.grid l h).sender)) in
    let got = same_below (λ l. map as_shipped (got_of (ok.logs (reader_at dims l)) l)) (λ l. map as_shipped (got_of (logs_at v.lists (reader_at dims l)) l)) (links dims)
    (λ l h. ap (λ (z : Lists Contents). map as_shipped (got_of z l)) (known (reader_at dims l) (ends_join dims is.grid l h).reader)) in
    subst IsRound (λ k. record { dims = dims; cap = cap; slots = shape.slots; by_slots = true; sent = sent k; got = got k }) (live cap shape s is ok)

-- of each gathered rank the round's logs are those of its lists
module _ (shape : Shape) (cap : ℕ) (lists : List (Option (Lists Contents))) (r : ℕ) (x : Lists Contents) (at : get_or lists r None ≡ Some x) (own : IsOwn shape.dims r x) where
  is_x : logs_at lists r ≡ x
  is_x = ap logs_or at

  pub sent_there : starting_at shape.dims r (logs_of (slot_round shape cap lists).sent) ≡ shipped_all (sent_of x)
  sent_there = λ k l. each l k
    where
      all : ℕ → List Shipped
      all l = map as_shipped (sent_of (logs_at lists (sender_at shape.dims l)) l)

      each : (l : ℕ) → cond (eqb (sender_at shape.dims l) r) (logs_of (slot_round shape cap lists).sent l) [] ≡ map as_shipped (sent_of x l)
      each l = dite (ℕ_discrete (sender_at shape.dims l) r)
          (λ mine. ap (λ (b : Bool). cond b (logs_of (slot_round shape cap lists).sent l) []) (eq-eqb (sender_at shape.dims l) r mine)
          ∙ dite (dec_le (suc l) (links shape.dims))
          (λ h. at_each_below all (links shape.dims) l [] h ∙ ap (λ (q : ℕ). map as_shipped (sent_of (logs_at lists q) l)) mine ∙ ap (λ (z : Lists Contents). map as_shipped (sent_of z l)) is_x)
          (λ h. past_end (each_below all (links shape.dims)) l [] (let q = length-each_below all (links shape.dims) in omega arith) ∙ ap (λ (z : OutLog Contents). map as_shipped z.sent) (sym (past_end x.outs l no_out (let q = own.outs in omega arith)))))
          (λ ne. ap (λ (b : Bool). cond b (logs_of (slot_round shape cap lists).sent l) []) (ne_eqb (sender_at shape.dims l) r ne) ∙ ap (map as_shipped) (sym (own.sent l ne)))

  pub got_there : ending_at shape.dims r (logs_of (slot_round shape cap lists).got) ≡ shipped_all (got_of x)
  got_there = λ k l. each l k
    where
      all : ℕ → List Shipped
      all l = map as_shipped (got_of (logs_at lists (reader_at shape.dims l)) l)

      each : (l : ℕ) → cond (eqb (reader_at shape.dims l) r) (logs_of (slot_round shape cap lists).got l) [] ≡ map as_shipped (got_of x l)
      each l = dite (ℕ_discrete (reader_at shape.dims l) r)
          (λ mine. ap (λ (b : Bool). cond b (logs_of (slot_round shape cap lists).got l) []) (eq-eqb (reader_at shape.dims l) r mine)
          ∙ dite (dec_le (suc l) (links shape.dims))
          (λ h. at_each_below all (links shape.dims) l [] h ∙ ap (λ (q : ℕ). map as_shipped (got_of (logs_at lists q) l)) mine ∙ ap (λ (z : Lists Contents). map as_shipped (got_of z l)) is_x)
          (λ h. past_end (each_below all (links shape.dims)) l [] (let q = length-each_below all (links shape.dims) in omega arith) ∙ ap (λ (z : InLog Contents). map as_shipped (got z)) (sym (past_end x.ins l no_in (let q = own.ins in omega arith)))))
          (λ ne. ap (λ (b : Bool). cond b (logs_of (slot_round shape cap lists).got l) []) (ne_eqb (reader_at shape.dims l) r ne) ∙ ap (map as_shipped) (sym (own.got l ne)))

-- the least of the ended epochs, with one link more
pub least_next : (f : ℕ → List Shipped) (n least e : ℕ) → (n ≡ 0 → least ≡ 2 ^ 64 - 1) → (0 < n → least ≡ saturated_count (ended_by_all (each_below f n))) → e ≡ saturated_count (lasts (f n)) → min least e ≡ saturated_count (ended_by_all (each_below f (suc n)))
least_next f zero least e start more is = let a = start refl in omega arith
least_next f (suc n) least e start more is =
    let a = more (omega arith) in
    let m = ended_more (each_below f (suc n)) (f (suc n)) (let q = length-each_below f (suc n) in omega arith) in omega arith
