-- What a port's calls change, over the seats before and after.
use Rattle.std.proofs.Common.{◌≡◌, ◌≢◌, ℕ, ◌+◌, ◌-◌, ◌<◌, ◌≤◌, eqb, eq-eqb, Bool, true, false, arith, List, [], ◌∷◌, ◌++◌, map, length, get_or, drop, sym, refl, ap, ◌∙◌, subst, inl, inr, length-append, Result, Ok, ◌⊎◌}
use Rattle.std.proofs.lemmas.List.{length-map, map-append, take-append-drop}
use Rattle.std.proofs.lemmas.Bool.{cases_lt, cases_eq}
use mathlib.Core.Logic.{dite}
use native.Mathlib.Decide.{ℕ_discrete}
use Rattle.item_buffer.specs.Contents.{Contents, as_shipped, Shipped, blank}
use Rattle.port_bank.specs.Logs.{Logs as Posts, with_parcel}
use Rattle.port_bank.specs.Flow.{IsPrefix}
use Rattle.port_bank.specs.Port.{changed, is_crowded, is_idle}
use Rattle.port_bank.specs.PortCalls as Calls
use Rattle.port_bank.specs.Calls.{Call}
use Rattle.port_bank.specs.Calls.Call.{Post, Collect}
use Rattle.port_bank.specs.declared.port.Posted.{Posted}
use Rattle.port_bank.specs.declared.port.Posted.TheVariants.{Sent, NoRoom}
use Rattle.bale_items.specs.declared.fault.NoMemory.{NoMemory}
use Rattle.bale_items.specs.declared.item.Entry.{Entry}
use Rattle.std.specs.List.{All}
use Rattle.route_tensor.specs.Tag.{IsFair}
use Rattle.route_tensor.specs.Ends.{hop_at}
use Rattle.link_slots.specs.Shape.{Shape, shipped_all}
use Rattle.link_slots.specs.Counts.{HasPosted}
use Rattle.link_slots.specs.PortCalls.{SeatCollects, DidCollect}
use Rattle.port_bank.specs.declared.port.Collected.{Collected}
use Rattle.port_bank.specs.declared.port.Collected.TheVariants.{Got, Nothing}
use Rattle.port_bank.proofs.Channels.{changed-here, changed-other}
use Rattle.port_bank.proofs.Kept.{added-other}
use Rattle.port_bank.proofs.Fronts.{begins_map, begins_trans}
use Rattle.link_slots.specs.Logs.{OutLog, InLog, out_of, in_of, got, with_out, sent_of, no_out}
use Rattle.link_slots.specs.SeatView.{SeatView, posted_on, collected_from, freed_on, known_on, listens_on, noted_at, table_name, port_view}
use Rattle.atomic_table.specs.Seated.{TableId}
use Rattle.link_slots.proofs.Moves.{out_there}
use Rattle.link_slots.proofs.Seating.{added_is}

-- a fact of each link that changes at one alone
one_changed : {A : Type 0} (f g : ℕ → A) (l : ℕ) → ((m : ℕ) → m ≢ l → g m ≡ f m) → g ≡ changed f l (g l)
one_changed f g l same = λ k m. at m k
  where
    at : (m : ℕ) → g m ≡ changed f l (g l) m
    at m = dite (ℕ_discrete m l) (λ e. subst (λ (z : ℕ). g z ≡ changed f l (g l) z) (sym e) (sym (changed-here f l (g l)))) (λ ne. same m ne ∙ sym (changed-other f l m (g l) ne))

-- where it is got, and where nothing is
pub got_else : (a : Collected) (f f' : Posts) (l : ℕ) (p : Shipped) → (a ≡ Got → f' ≡ with_parcel f l p) → (a ≡ Nothing → f' ≡ f) → (m : ℕ) → m ≢ l → f' m ≡ f m
got_else Got f f' l p more same m ne = ap (λ (z : Posts). z m) (more refl) ∙ added-other f l m p ne
got_else Nothing f f' l p more same m ne = ap (λ (z : Posts). z m) (same refl)

module _ (s s' : SeatView) (l : ℕ) (here : s' ≡ record s { lists = with_out s.lists l (out_of s'.lists l) }) where
  elsewhere : (m : ℕ) → m ≢ l → out_of s'.lists m ≡ out_of s.lists m
  elsewhere m ne = ap (λ (z : SeatView). out_of z.lists m) here ∙ out_there s.lists l (out_of s'.lists l) m ne

  pub crowded_changed : ◌≡◌ {A = ℕ → Bool} (λ m. eqb (length (posted_on s' m)) (freed_on s' m + s'.shape.slots)) (changed (λ m. eqb (length (posted_on s m)) (freed_on s m + s.shape.slots)) l (eqb (length (posted_on s' l)) (freed_on s' l + s'.shape.slots)))
  crowded_changed = one_changed (λ m. eqb (length (posted_on s m)) (freed_on s m + s.shape.slots)) (λ m. eqb (length (posted_on s' m)) (freed_on s' m + s'.shape.slots)) l
      (λ m ne k. let o = elsewhere m ne k in let n = (here k).shape.slots in eqb (length (map as_shipped o.sent)) ((o.room - n) + n))

  pub sent_here : (p : Contents) → l < length s.lists.outs → (out_of s'.lists l).sent ≡ (out_of s.lists l).sent ++ p ∷ [] → posted_on s' ≡ with_parcel (posted_on s) l (as_shipped p)
  sent_here p h e = added_is (posted_on s) l (as_shipped p) (posted_on s') (ap (map as_shipped) e ∙ map-append as_shipped (out_of s.lists l).sent (p ∷ [])) (λ m ne. ap (λ (o : OutLog Contents). map as_shipped o.sent) (elsewhere m ne))

-- banks of one name are one bank
pub one_bank : (a b : TableId) → table_name a ≡ table_name b → a ≡ b
one_bank a b e =
    let at : (i : ℕ) → get_or (table_name a) i 0 ≡ get_or (table_name b) i 0 = λ i. ap (λ (z : List ℕ). get_or z i 0) e in
    λ k. record { words = at 0 k; slots = at 1 k; views_name = at 2 k; atom = at 3 k; block = at 4 k; offset = at 5 k; slot_names = ap (λ (z : List ℕ). drop 6 z) e k }

-- what was collected is a prefix of what was posted, where what was seen is
pub got_begins : (s : SeatView) (l : ℕ) → IsPrefix (in_of s.lists l).seen (out_of s.lists l).sent → IsPrefix (collected_from s l) (posted_on s l)
got_begins s l own =
    let i : InLog Contents = in_of s.lists l in
    let o : OutLog Contents = out_of s.lists l in
    begins_map as_shipped (got i) o.sent (begins_trans (got i) i.seen o.sent (record { rest = drop i.taken i.seen; is = sym (take-append-drop i.taken i.seen) }) own)

-- a link whose parcels posted are all that its room allows has no slot free
pub none_free : (s : SeatView) (l : ℕ) → length (out_of s.lists l).sent ≤ (out_of s.lists l).room → (length (out_of s.lists l).sent < (out_of s.lists l).room → ⊥) → s.shape.slots ≤ length (out_of s.lists l).sent
    → eqb (length (posted_on s l)) (freed_on s l + s.shape.slots) ≡ true
none_free s l within held many =
    let o : OutLog Contents = out_of s.lists l in
    let size = length-map o.sent as_shipped in
    elim (cases_lt (length o.sent) o.room) [
      | inl less ↦ absurd (held less)
      | inr not ↦ eq-eqb (length (posted_on s l)) (freed_on s l + s.shape.slots) (omega (arith, size, within, many, not))
    ]

-- a reader that has not collected all that it knows of has collected fewer
pub more_known : (s : SeatView) (l : ℕ) → eqb (length (collected_from s l)) (known_on s l) ≡ false → length (collected_from s l) < known_on s l
more_known s l some =
    let i : InLog Contents = in_of s.lists l in
    let size : length (collected_from s l) ≡ length (got i) = length-map (got i) as_shipped in
    let parts : length (got i) + length (drop i.taken i.seen) ≡ length i.seen = sym (length-append (got i) (drop i.taken i.seen)) ∙ ap length (take-append-drop i.taken i.seen) in
    elim (cases_eq (length (collected_from s l)) (known_on s l)) [
      | inl all ↦ (let is = eq-eqb (length (collected_from s l)) (known_on s l) all in absurd cc)
      | inr not ↦ omega (arith, size, parts, not)
    ]

-- what a seat's post is to its port
posts_none : (r : Posted) → (◌≡◌ {A = Result Posted NoMemory} (Ok r) (Ok Sent) → ⊥) → r ≡ NoRoom
posts_none Sent not = absurd (not refl)
posts_none NoRoom not = refl

module _ (s s' : SeatView) (l : ℕ) (p p' : Contents) (r : Posted) (cs cs' : List Call) (here : s' ≡ record s { lists = with_out s.lists l (out_of s'.lists l) })
    (h : HasPosted s.shape.slots (out_of s.lists l) (out_of s'.lists l) p r) where
  shape_same : s'.shape ≡ s.shape
  shape_same = ap (λ (z : SeatView). z.shape) here

  looks_rise : (m : ℕ) → (out_of s.lists m).looks ≤ (out_of s'.lists m).looks
  looks_rise m = dite (ℕ_discrete m l) (λ e. subst (λ (z : ℕ). (out_of s.lists z).looks ≤ (out_of s'.lists z).looks) (sym e) h.looks)
      (λ ne. let same = ap (λ (o : OutLog Contents). o.looks) (elsewhere s s' l here m ne) in omega arith)

  none_sent : r ≡ NoRoom → posted_on s' ≡ posted_on s
  none_sent none = λ k m. at m k
    where
      at : (m : ℕ) → posted_on s' m ≡ posted_on s m
      at m = dite (ℕ_discrete m l) (λ e. subst (λ (z : ℕ). posted_on s' z ≡ posted_on s z) (sym e) (ap (map as_shipped) (h.not_sent none)))
          (λ ne. ap (λ (o : OutLog Contents). map as_shipped o.sent) (elsewhere s s' l here m ne))

  room_left : r ≡ Sent → ((out_of s'.lists l).room ≡ 0) ⊎ (s.shape.slots ≤ (out_of s'.lists l).room) → length (posted_on s l) < freed_on s' l + s.shape.slots
  room_left is room =
      let size = length-map (out_of s.lists l).sent as_shipped in
      let slots = ap (λ (z : Shape). z.slots) shape_same in
      let more = h.room is in
      elim room [ inl none ↦ omega (arith, size, slots, more, none) | inr some ↦ omega (arith, size, slots, more, some) ]

  no_room_left : r ≡ NoRoom → length (posted_on s l) ≡ freed_on s' l + s.shape.slots
  no_room_left is =
      let size = length-map (out_of s.lists l).sent as_shipped in
      let slots = ap (λ (z : Shape). z.slots) shape_same in
      omega (arith, size, slots, h.full is, h.all_room is)

  is_full : r ≡ NoRoom → is_crowded (port_view s' cs') l ≡ true
  is_full is =
      let same = ap (λ (f : Posts). length (f l)) (none_sent is) in
      let slots = ap (λ (z : Shape). z.slots) shape_same in
      eq-eqb (length (posted_on s' l)) (freed_on s' l + s'.shape.slots) (omega (arith, same, slots, no_room_left is))

  not_full : length (out_of s.lists l).sent ≤ (out_of s.lists l).room → is_crowded (port_view s cs) l ≡ false → r ≡ NoRoom → ⊥
  not_full within free is =
      let held : (length (out_of s.lists l).sent < (out_of s.lists l).room → ⊥) = λ less. let sent = (h.at_hand less).0 in cc in
      let full = none_free s l within held (omega (arith, h.full is, h.all_room is)) in cc

  idle_same : is_idle (port_view s' cs') ≡ is_idle (port_view s cs)
  idle_same = ap (λ (z : SeatView). is_idle (port_view z cs)) here

  pub port_posts : l < length s.lists.outs → (r ≡ Sent → p' ≡ blank p.epoch) → ((out_of s'.lists l).room ≡ 0) ⊎ (s.shape.slots ≤ (out_of s'.lists l).room)
      → length (out_of s.lists l).sent ≤ (out_of s.lists l).room → (r ≡ NoRoom → p' ≡ p) → cs' ≡ cs ++ Post l ∷ []
      → Calls.Posts (port_view s cs) l p (Ok r) (port_view s' cs') p'
  port_posts long emptied room within kept calls =
      record {
        sent = λ is. let sent : r ≡ Sent = cc in sent_here s s' l here p long (h.sent sent);
        emptied = λ is. let sent : r ≡ Sent = cc in emptied sent;
        room = λ is. let sent : r ≡ Sent = cc in room_left sent room;
        looked = λ is. let none : r ≡ NoRoom = cc in inl (omega (arith, h.looked none));
        no_room = λ is. let none : r ≡ NoRoom = cc in no_room_left none;
        crowded = λ is. let none : r ≡ NoRoom = cc in is_full none;
        at_hand = λ free is. let none : r ≡ NoRoom = cc in not_full within free none;
        not_sent = λ not. none_sent (posts_none r not);
        still_idle = λ not. idle_same;
        kept = λ not. kept (posts_none r not);
        crowded_here = crowded_changed s s' l here;
        idle_here = one_changed (is_idle (port_view s cs)) (is_idle (port_view s' cs')) l (λ m ne. ap (λ (f : ℕ → Bool). f m) idle_same);
        calls = λ is. calls;
        looks_out = looks_rise;
        looks_here = one_changed (λ m. (out_of s.lists m).looks) (λ m. (out_of s'.lists m).looks) l (λ m ne. ap (λ (o : OutLog Contents). o.looks) (elsewhere s s' l here m ne));
        same_ins = record { got = ap collected_from here; looks_in = ap listens_on here; listens = ap listens_on here; noted = ap noted_at here };
        same_port = record {
          rank = ap (λ (z : SeatView). z.rank) here;
          dims = ap (λ (z : SeatView). z.shape.dims) here;
          slots = ap (λ (z : SeatView). z.shape.slots) here;
          others = ap (λ (z : SeatView). (port_view z cs).others) here;
        };
      }

-- and what its collect is
module _ (cap : ℕ) (s s' : SeatView) (l : ℕ) (p p' : Contents) (r : Collected) (cs cs' : List Call) (c : SeatCollects cap s s' l p r p') (d : DidCollect s s' l r) where
  got_same : (m : ℕ) → m ≢ l → collected_from s' m ≡ collected_from s m
  got_same = got_else r (collected_from s) (collected_from s') l (as_shipped p') c.got c.not_got

  outs_same : posted_on s' ≡ posted_on s
  outs_same = ap (λ (os : List (OutLog Contents)). shipped_all (sent_of (record { outs = os; ins = [] }))) d.outs

  pub port_collects : cs' ≡ cs ++ Collect l ∷ [] → Calls.Collects cap (port_view s cs) l p r (port_view s' cs') p'
  port_collects calls =
      record {
        got = c.got;
        arrived = λ is. (c.arrived is).fresh;
        epoch = λ is. (c.arrived is).dated;
        fits = λ is. (c.arrived is).fits;
        fair = λ is. subst (λ (es : List Entry). All (λ e. IsFair s.shape.dims (hop_at s.shape.dims l) e.tag) es) (sym (ap (λ (z : Contents). z.untaken) (c.arrived is).fresh)) (c.arrived is).fair;
        known = c.known;
        own = λ is from. got_begins s' l (c.own is from);
        heard = c.heard;
        none_known = c.none_known;
        idle = λ is. eq-eqb (length (collected_from s' l)) (known_on s' l) (ap (λ (f : Posts). length (f l)) (c.not_got is) ∙ c.none_known is);
        not_got = c.not_got;
        still_crowded = λ is. crowded_same;
        kept = c.kept;
        at_hand = λ some. d.at_hand (more_known s l some);
        calls = calls;
        noted = c.noted;
        listens = c.listens;
        looks_in = c.listens;
        crowded_here = one_changed (is_crowded (port_view s cs)) (is_crowded (port_view s' cs')) l (λ m ne. ap (λ (f : ℕ → Bool). f m) crowded_same);
        idle_here = one_changed (is_idle (port_view s cs)) (is_idle (port_view s' cs')) l (λ m ne k. eqb (length (got_same m ne k)) (c.known_elsewhere m ne k));
        same_outs = record { sent = outs_same; looks_out = λ k m. (get_or (d.outs k) m no_out).looks };
        same_port = record {
          rank = ap (λ (z : SeatView). z.rank) d.here;
          dims = ap (λ (z : SeatView). z.shape.dims) d.here;
          slots = ap (λ (z : SeatView). z.shape.slots) d.here;
          others = ap (λ (z : SeatView). (port_view z cs).others) d.here;
        };
      }
    where
      crowded_same : is_crowded (port_view s' cs') ≡ is_crowded (port_view s cs)
      crowded_same = λ k m. eqb (length (outs_same k m)) ((get_or (d.outs k) m no_out).room - (ap (λ (z : SeatView). z.shape.slots) d.here k) + ap (λ (z : SeatView). z.shape.slots) d.here k)
