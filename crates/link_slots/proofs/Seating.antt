-- A rank's seat keeps its counts under a post and a collect.
use Rattle.std.proofs.Common.{◌≡◌, ◌≢◌, ℕ, suc, ◌+◌, ◌<◌, ◌≤◌, Bool, true, false, cond, List, [], ◌∷◌, ◌++◌, map, length, get_or, take, drop, set, sym, refl, ap, ◌∙◌, subst, arith, Option, None, Some, length-set, length-append, get_or-set_same, get_or-set_other, eq-eqb, ne_eqb}
use Rattle.std.specs.List.{All}
use Rattle.std.proofs.lemmas.List.{map-append, take-append-drop, take-append-le}
use mathlib.Core.Option.{some}
use lib.ListN.{get_elem?}
use Rattle.port_bank.specs.declared.port.Collected.{Collected}
use Rattle.port_bank.specs.declared.port.Collected.TheVariants.{Got, Nothing}
use Rattle.port_bank.proofs.Segments.{lasts-append}
use Rattle.port_bank.proofs.Channels.{changed-here, changed-other}
use Rattle.port_bank.specs.Port.{changed}
use Rattle.list_laws.proofs.Lists.{map_set}
use Rattle.std.proofs.lemmas.List.{length-map, length-take-le}
use Rattle.link_slots.proofs.Lookups.{take_next}
use Rattle.link_slots.proofs.Counting.{end_kept}
use Rattle.std.proofs.lemmas.List.Elements.{All-get_or}
use Rattle.std.proofs.Math.Seq.{get_or-append_seam}
use mathlib.Core.Logic.{dite}
use native.Mathlib.Decide.{ℕ_discrete}
use Rattle.atomic_table.specs.Table.{Me}
use Rattle.item_buffer.specs.Contents.{Contents, as_shipped, Shipped}
use Rattle.route_tensor.specs.Link.{links}
use Rattle.route_tensor.specs.Ends.{hop_at, sender_at, reader_at}
use Rattle.port_bank.specs.Logs.{Logs as Posts, lasts, with_parcel}
use Rattle.port_bank.specs.Relay.{RelayLaw, HasFairTags}
use Rattle.link_slots.specs.declared.seat.ends.OutEnd.{OutEnd}
use Rattle.link_slots.specs.declared.seat.ends.InEnd.{InEnd}
use Rattle.link_slots.specs.declared.seat.ear.Ear.{Ear}
use Rattle.link_slots.specs.Logs.{OutLog, InLog, Lists, out_of, in_of, with_out, sent_of, got_of, got, sent_more, no_out, listens}
use Rattle.link_slots.specs.View.{own_logs, with_logs}
use Rattle.link_slots.specs.Shape.{Shape, MayFollow, KeepsLaw, shipped_all}
use Rattle.link_slots.specs.WordSteps.{TableView, HoldsSeat}
use Rattle.list_laws.specs.Counts.{saturated_count}
use Rattle.link_slots.specs.Counts.{IsOutEnd, IsInEnd, IsHeard, AreGood, KeepsOtherLinks, ended_after, noted_by}
use Rattle.link_slots.specs.Seat.{IsSeat}
use Rattle.link_slots.proofs.Moves.{own_with, out_here, out_there}
use Rattle.link_slots.proofs.Hearing.{good_same, heard_same}

-- a function with one value more at one place, read there and elsewhere
module _ (f : Posts) (l : ℕ) (p : Shipped) where
  added_here : with_parcel f l p l ≡ f l ++ p ∷ []
  added_here = ap (λ (b : Bool). cond b (f l ++ p ∷ []) (f l)) (eq-eqb l l refl)

  added_else : (m : ℕ) → m ≢ l → with_parcel f l p m ≡ f m
  added_else m n = ap (λ (b : Bool). cond b (f m ++ p ∷ []) (f m)) (ne_eqb m l n)

  -- a function is that one where it is so at each place
  pub added_is : (g : Posts) → g l ≡ f l ++ p ∷ [] → ((m : ℕ) → m ≢ l → g m ≡ f m) → g ≡ with_parcel f l p
  added_is g here else' = λ k m. at m k
    where
      at : (m : ℕ) → g m ≡ with_parcel f l p m
      at m = dite (ℕ_discrete m l) (λ e. subst (λ (z : ℕ). g z ≡ with_parcel f l p z) (sym e) (here ∙ sym added_here)) (λ ne. else' m ne ∙ sym (added_else m ne))

-- what a post adds to the rank's logs
pub posts_added : (x : Lists Contents) (l : ℕ) (p : Contents) → l < length x.outs → shipped_all (sent_of (with_out x l (sent_more (out_of x l) p))) ≡ with_parcel (shipped_all (sent_of x)) l (as_shipped p)
posts_added x l p h = added_is (shipped_all (sent_of x)) l (as_shipped p) (shipped_all (sent_of (with_out x l (sent_more (out_of x l) p))))
    (ap (λ (o : OutLog Contents). map as_shipped o.sent) (out_here x l (sent_more (out_of x l) p) h) ∙ map-append as_shipped (out_of x l).sent (p ∷ []))
    (λ m ne. ap (λ (o : OutLog Contents). map as_shipped o.sent) (out_there x l (sent_more (out_of x l) p) m ne))

pub law_for : (dims : List ℕ) (r l : ℕ) (x : Lists Contents) (p : Contents) → l < length x.outs → RelayLaw dims r (with_parcel (shipped_all (sent_of x)) l (as_shipped p)) (shipped_all (got_of x))
    → KeepsLaw dims r (sent_of (with_out x l (sent_more (out_of x l) p))) (got_of x)
law_for dims r l x p h law = subst (λ (z : Posts). RelayLaw dims r z (shipped_all (got_of x))) (sym (posts_added x l p h)) law

-- a fresh parcel for which the law holds may follow
pub may_follow : (dims : List ℕ) (cap r l : ℕ) (x : Lists Contents) (p : Contents) → l < links dims → sender_at dims l ≡ r → p.taken ≡ 0 → (p.taken ≡ 0 → p.back ≡ None) → length p.untaken + p.taken ≤ cap → p.epoch ≡ lasts (map as_shipped (sent_of x l))
    → RelayLaw dims r (with_parcel (shipped_all (sent_of x)) l (as_shipped p)) (shipped_all (got_of x)) → MayFollow dims cap l (out_of x l).sent p
may_follow dims cap r l x p inside mine fresh back within epoch law = record {
  fresh = ap (λ (z : Option _ × ℕ). record { untaken = p.untaken; last = p.last; epoch = p.epoch; back = z.0; taken = z.1 }) (λ k. (back fresh k, fresh k));
  fits = omega arith;
  fair = let all : All (HasFairTags dims (hop_at dims l)) (map as_shipped (sent_of x l) ++ as_shipped p ∷ []) = subst (All (HasFairTags dims (hop_at dims l))) (added_here (shipped_all (sent_of x)) l (as_shipped p)) (law.fair l inside mine) in
      subst (HasFairTags dims (hop_at dims l)) (get_or-append_seam (map as_shipped (sent_of x l)) (as_shipped p) [] (as_shipped p))
      (All-get_or (HasFairTags dims (hop_at dims l)) (map as_shipped (sent_of x l) ++ as_shipped p ∷ []) (length (map as_shipped (sent_of x l))) (as_shipped p) (let n = length-append (map as_shipped (sent_of x l)) (as_shipped p ∷ []) in omega arith) all);
  dated = epoch;
}

module _ (cap : ℕ) (shape : Shape) (m m' : Me Contents TableView) (rank l : ℕ) (outs : List OutEnd) (ins : List InEnd) (ears : List Ear) (ended : List ℕ) (is : IsSeat cap shape m rank outs ins ears ended) (manned : HoldsSeat shape m') (inside : l < links shape.dims) where
  pub seat_posted : (e : OutEnd) → m'.0 ≡ with_logs m.0 (with_out (own_logs m.0) l (out_of (own_logs m'.0) l)) → sender_at shape.dims l ≡ rank → IsOutEnd shape.slots (out_of (own_logs m'.0) l) e.sent e.spare
      → IsSeat cap m'.0.shape m' rank (set outs l e) ins ears ended
  seat_posted e here mine counts =
      let o : OutLog Contents = out_of (own_logs m'.0) l in
      let own : own_logs m'.0 ≡ with_out (own_logs m.0) l o = ap own_logs here ∙ own_with m.0 (with_out (own_logs m.0) l o) is.manned.speaks in
      let ins_same : (k : ℕ) → in_of (own_logs m'.0) k ≡ in_of (own_logs m.0) k = λ k. ap (λ (z : Lists Contents). in_of z k) own in
      let outs_else : (k : ℕ) → k ≢ l → out_of (own_logs m'.0) k ≡ out_of (own_logs m.0) k = λ k ne. ap (λ (z : Lists Contents). out_of z k) own ∙ out_there (own_logs m.0) l o k ne in
      subst (λ (z : Shape). IsSeat cap z m' rank (set outs l e) ins ears ended) (sym manned.of) (record {
        shaped = is.shaped;
        manned = manned;
        alone = λ r ne. let other : r ≢ m.0.pick = λ e. ne (e ∙ sym (ap (λ (v : TableView). v.pick) here)) in
            ap (λ (z : TableView). get_or z.lists r None) here ∙ get_or-set_other m.0.lists m.0.pick r (Some (with_out (own_logs m.0) l o)) None other ∙ is.alone r other;
        own = record {
          outs = ap (λ (z : Lists Contents). length z.outs) own ∙ length-set (own_logs m.0).outs l o ∙ is.lists_out;
          ins = ap (λ (z : Lists Contents). length z.ins) own ∙ is.lists_in;
          sent = λ k ne. ap (λ (z : OutLog Contents). z.sent) (outs_else k (λ e. ne (ap (sender_at shape.dims) e ∙ mine))) ∙ is.own.sent k ne;
          got = λ k ne. ap (λ (z : InLog Contents). got z) (ins_same k) ∙ is.own.got k ne;
        };
        rank_is = ap (λ (v : TableView). v.pick) here ∙ is.rank_is;
        rank_small = is.rank_small;
        outs_many = length-set outs l e ∙ is.outs_many;
        ins_many = is.ins_many;
        ears_many = is.ears_many;
        ended_many = is.ended_many;
        lists_out = ap (λ (z : Lists Contents). length z.outs) own ∙ length-set (own_logs m.0).outs l o ∙ is.lists_out;
        lists_in = ap (λ (z : Lists Contents). length z.ins) own ∙ is.lists_in;
        each_out = λ k d a b. dite (ℕ_discrete k l)
            (λ s. subst (λ (z : ℕ × OutEnd). IsOutEnd shape.slots (out_of (own_logs m'.0) z.0) z.1.sent z.1.spare) (λ j. (sym s j, sym (ap (λ (z : ℕ). get_or (set outs l e) z d) s ∙ get_or-set_same outs l e d (let n = is.outs_many in omega arith)) j)) counts)
            (λ ne. subst (λ (z : OutLog Contents × OutEnd). IsOutEnd shape.slots z.0 z.1.sent z.1.spare) (λ j. (sym (outs_else k ne) j, sym (get_or-set_other outs l k e d ne) j)) (is.each_out k d a b));
        each_in = λ k d a b. subst (λ (z : InLog Contents). let w = get_or ins k d in IsInEnd shape.slots z w.taken w.waiting w.noted) (sym (ins_same k)) (is.each_in k d a b);
        each_ear = λ h d a. let w = get_or ears h d in heard_same shape rank (h + 1) (own_logs m.0) (own_logs m'.0) w.marks w.hears (λ k. ap (λ (i : InLog Contents). i.marked) (ins_same k)) (λ k. ap (λ (i : InLog Contents). i.hears) (ins_same k)) (is.each_ear h d a);
        each_good = λ k a b. good_same cap shape k (in_of (own_logs m.0) k) (in_of (own_logs m'.0) k) (ap (λ (i : InLog Contents). i.seen) (ins_same k)) (is.each_good k a b);
        each_ended = λ k d a b. is.each_ended k d a b ∙ ap (λ (i : InLog Contents). saturated_count (lasts (map as_shipped (got i)))) (sym (ins_same k));
      })

  pub seat_collected : (e : InEnd) (ear : Ear) (hop now : ℕ) → m'.0 ≡ with_logs m.0 (own_logs m'.0) → KeepsOtherLinks shape m.0.pick l (own_logs m.0) (own_logs m'.0) → reader_at shape.dims l ≡ rank
      → IsInEnd shape.slots (in_of (own_logs m'.0) l) e.taken e.waiting e.noted → IsHeard shape m.0.pick (hop_at shape.dims l) (own_logs m'.0) ear.marks ear.hears → hop_at shape.dims l ≡ hop + 1
      → AreGood cap shape l (in_of (own_logs m'.0) l) → now ≡ saturated_count (lasts (map as_shipped (got_of (own_logs m'.0) l)))
      → IsSeat cap m'.0.shape m' rank outs (set ins l e) (set ears hop ear) (set ended l now)
  seat_collected e ear hop now here others mine counts hears hop_is good ended_is =
      let y : Lists Contents = own_logs m.0 in let y' : Lists Contents = own_logs m'.0 in
      let outs_same : (k : ℕ) → out_of y' k ≡ out_of y k = λ k. ap (λ (z : List (OutLog Contents)). get_or z k no_out) others.outs in
      subst (λ (z : Shape). IsSeat cap z m' rank outs (set ins l e) (set ears hop ear) (set ended l now)) (sym manned.of) (record {
        shaped = is.shaped;
        manned = manned;
        alone = λ r ne. let other : r ≢ m.0.pick = λ e. ne (e ∙ sym (ap (λ (v : TableView). v.pick) here)) in
            ap (λ (z : TableView). get_or z.lists r None) here ∙ get_or-set_other m.0.lists m.0.pick r (Some y') None other ∙ is.alone r other;
        own = record {
          outs = ap length others.outs ∙ is.lists_out;
          ins = others.long ∙ is.lists_in;
          sent = λ k ne. ap (λ (z : OutLog Contents). z.sent) (outs_same k) ∙ is.own.sent k ne;
          got = λ k ne. let other : k ≢ l = λ e. ne (ap (reader_at shape.dims) e ∙ mine) in (λ j. take (others.taken k other j) (others.seen k other j)) ∙ is.own.got k ne;
        };
        rank_is = ap (λ (v : TableView). v.pick) here ∙ is.rank_is;
        rank_small = is.rank_small;
        outs_many = is.outs_many;
        ins_many = length-set ins l e ∙ is.ins_many;
        ears_many = length-set ears hop ear ∙ is.ears_many;
        ended_many = length-set ended l now ∙ is.ended_many;
        lists_out = ap length others.outs ∙ is.lists_out;
        lists_in = others.long ∙ is.lists_in;
        each_out = λ k d a b. subst (λ (z : OutLog Contents). let w = get_or outs k d in IsOutEnd shape.slots z w.sent w.spare) (sym (outs_same k)) (is.each_out k d a b);
        each_in = λ k d a b. dite (ℕ_discrete k l)
            (λ s. subst (λ (z : ℕ × InEnd). IsInEnd shape.slots (in_of y' z.0) z.1.taken z.1.waiting z.1.noted) (λ j. (sym s j, sym (ap (λ (z : ℕ). get_or (set ins l e) z d) s ∙ get_or-set_same ins l e d (let n = is.ins_many in omega arith)) j)) counts)
            (λ ne. subst (λ (z : InEnd). IsInEnd shape.slots (in_of y' k) z.taken z.waiting z.noted) (sym (get_or-set_other ins l k e d ne))
            (let w = get_or ins k d in end_kept shape.slots (in_of y k) (in_of y' k) w.taken w.waiting w.noted (is.each_in k d a b) (others.seen k ne) (others.taken k ne) (others.hears k ne)));
        each_ear = λ h d a. dite (ℕ_discrete h hop)
            (λ s. subst (λ (z : ℕ × Ear). IsHeard shape rank z.0 y' z.1.marks z.1.hears) (λ j. ((hop_is ∙ (let q : hop + 1 ≡ h + 1 = omega arith in q)) j, sym (ap (λ (z : ℕ). get_or (set ears hop ear) z d) s ∙ get_or-set_same ears hop ear d (let n = is.ears_many in omega arith)) j))
            (subst (λ (z : ℕ). IsHeard shape z (hop_at shape.dims l) y' ear.marks ear.hears) is.rank_is hears))
            (λ ne. subst (λ (z : Ear). IsHeard shape rank (h + 1) y' z.marks z.hears) (sym (get_or-set_other ears hop h ear d ne))
            (let w = get_or ears h d in let was = is.each_ear h d a in
            let same : (k : ℕ) → k < links shape.dims → reader_at shape.dims k ≡ rank → hop_at shape.dims k ≡ h + 1 → in_of y' k ≡ in_of y k =
            λ k i r t. others.other_hops k i (r ∙ sym is.rank_is) (λ q. ne (omega arith)) in
            record {
              marked = λ k i r t. ap (λ (z : InLog Contents). z.marked) (same k i r t) ∙ was.marked k i r t;
              heard = λ k i r t. was.heard k i r t ∙ ap (λ (z : InLog Contents). saturated_count z.hears) (sym (same k i r t));
            }));
        each_good = λ k a b. dite (ℕ_discrete k l) (λ s. subst (λ (z : ℕ). AreGood cap shape z (in_of y' z)) (sym s) good) (λ ne. good_same cap shape k (in_of y k) (in_of y' k) (others.seen k ne) (is.each_good k a b));
        each_ended = λ k d a b. dite (ℕ_discrete k l)
            (λ s. subst (λ (z : ℕ). get_or (set ended l now) z d ≡ saturated_count (lasts (map as_shipped (got_of y' z)))) (sym s) (get_or-set_same ended l now d (let n = is.ended_many in omega arith) ∙ ended_is))
            (λ ne. get_or-set_other ended l k now d ne ∙ is.each_ended k d a b ∙ ap (λ (z : List Contents). saturated_count (lasts (map as_shipped z))) (λ j. take (sym (others.taken k ne) j) (sym (others.seen k ne) j)));
      })

-- a prefix of a list that another one begins
take_front : (n : ℕ) (a b : List Contents) → n ≤ length a → take (length a) b ≡ a → take n b ≡ take n a
take_front n a b h e = ap (take n) (sym (take-append-drop (length a) b) ∙ ap (λ (z : List Contents). z ++ drop (length a) b) e) ∙ take-append-le n a (drop (length a) b) h

module _ (shape : Shape) (rank l : ℕ) (x x' : Lists Contents) (others : KeepsOtherLinks shape rank l x x') (below : (in_of x l).taken ≤ length (in_of x l).seen) (front : take (length (in_of x l).seen) (in_of x' l).seen ≡ (in_of x l).seen) where
  pub got_elsewhere : (k : ℕ) → k ≢ l → got_of x' k ≡ got_of x k
  got_elsewhere k ne = λ j. take (others.taken k ne j) (others.seen k ne j)

  pub got_one : (p : Contents) → (in_of x' l).taken ≡ suc (in_of x l).taken → get_elem? (in_of x' l).seen (in_of x l).taken ≡ some p → got_of x' l ≡ got_of x l ++ p ∷ []
  got_one p more at = ap (λ (z : ℕ). take z (in_of x' l).seen) more ∙ take_next (in_of x' l).seen (in_of x l).taken p at ∙ ap (λ (z : List Contents). z ++ p ∷ []) (take_front (in_of x l).taken (in_of x l).seen (in_of x' l).seen below front)

  pub got_none : (in_of x' l).taken ≡ (in_of x l).taken → got_of x' l ≡ got_of x l
  got_none same = ap (λ (z : ℕ). take z (in_of x' l).seen) same ∙ take_front (in_of x l).taken (in_of x l).seen (in_of x' l).seen below front

  pub collects_added : (p : Contents) → (in_of x' l).taken ≡ suc (in_of x l).taken → get_elem? (in_of x' l).seen (in_of x l).taken ≡ some p → shipped_all (got_of x') ≡ with_parcel (shipped_all (got_of x)) l (as_shipped p)
  collects_added p more at = added_is (shipped_all (got_of x)) l (as_shipped p) (shipped_all (got_of x')) (ap (map as_shipped) (got_one p more at) ∙ map-append as_shipped (got_of x l) (p ∷ [])) (λ k ne. ap (map as_shipped) (got_elsewhere k ne))

  pub collects_same : (in_of x' l).taken ≡ (in_of x l).taken → shipped_all (got_of x') ≡ shipped_all (got_of x)
  collects_same same = λ j k. each k j
    where
      each : (k : ℕ) → map as_shipped (got_of x' k) ≡ map as_shipped (got_of x k)
      each k = dite (ℕ_discrete k l) (λ e. subst (λ (z : ℕ). map as_shipped (got_of x' z) ≡ map as_shipped (got_of x z)) (sym e) (ap (map as_shipped) (got_none same))) (λ ne. ap (map as_shipped) (got_elsewhere k ne))

  pub next_good : (cap : ℕ) (p : Contents) → AreGood cap shape l (in_of x' l) → get_elem? (in_of x' l).seen (in_of x l).taken ≡ some p → MayFollow shape.dims cap l (got_of x l) p
  next_good cap p good at = subst (λ (z : List Contents). MayFollow shape.dims cap l z p) (take_front (in_of x l).taken (in_of x l).seen (in_of x' l).seen below front) (good (in_of x l).taken p at)

-- the ended epochs after a collect
lasts_more : (log : List Shipped) (p : Shipped) (b : Bool) → p.last ≡ b → lasts (log ++ p ∷ []) ≡ cond b (lasts log + 1) (lasts log)
lasts_more log p true e = lasts-append log (p ∷ []) ∙ (let q : lasts (p ∷ []) ≡ 1 = ap (λ (b : Bool). length (cond b (p ∷ []) [])) e in omega arith)
lasts_more log p false e = lasts-append log (p ∷ []) ∙ (let q : lasts (p ∷ []) ≡ 0 = ap (λ (b : Bool). length (cond b (p ∷ []) [])) e in omega arith)

pub ended_case : (a : Collected) (g g' : List Contents) (p : Contents) (b : Bool) (n : ℕ) → (a ≡ Got → g' ≡ g ++ p ∷ []) → (a ≡ Nothing → g' ≡ g) → p.last ≡ b → n ≡ saturated_count (lasts (map as_shipped g)) → ended_after a b n ≡ saturated_count (lasts (map as_shipped g'))
ended_case Got g g' p true n more none e is = let h = ap (map as_shipped) (more refl) ∙ map-append as_shipped g (p ∷ []) in let k = lasts_more (map as_shipped g) (as_shipped p) true e in let q : lasts (map as_shipped g') ≡ lasts (map as_shipped g) + 1 = ap lasts h ∙ k in omega arith
ended_case Got g g' p false n more none e is = let h = ap (map as_shipped) (more refl) ∙ map-append as_shipped g (p ∷ []) in let k = lasts_more (map as_shipped g) (as_shipped p) false e in is ∙ ap saturated_count (sym (ap lasts h ∙ k))
ended_case Nothing g g' p b n more none e is = is ∙ ap (λ (z : List Contents). saturated_count (lasts (map as_shipped z))) (sym (none refl))

-- what each collect leaves noted
listened_for : {T : Type 0} → (i : InLog T) → noted_by (saturated_count i.hears) i ≡ saturated_count (listens i)
listened_for i = omega arith

module _ (ins : List InEnd) (l : ℕ) (e : InEnd) (x x' : Lists Contents) where
  abbrev before : ℕ → ℕ
  before k = noted_by (get_or (map (λ (i : InEnd). i.noted) ins) k 0) (in_of x k)

  abbrev after : ℕ → ℕ
  after k = noted_by (get_or (map (λ (i : InEnd). i.noted) (set ins l e)) k 0) (in_of x' k)

  pub noted_changed : l < length ins → ((k : ℕ) → k ≢ l → (in_of x' k).look_ins ≡ (in_of x k).look_ins) → e.noted ≡ saturated_count (in_of x' l).hears
      → ◌≡◌ {A = ℕ → ℕ} after (changed before l (saturated_count (listens (in_of x' l))))
  noted_changed h looked heard = λ j k. at k j
    where
      at : (k : ℕ) → after k ≡ changed before l (saturated_count (listens (in_of x' l))) k
      at k = dite (ℕ_discrete k l)
          (λ s. subst (λ (z : ℕ). after z ≡ changed before l (saturated_count (listens (in_of x' l))) z) (sym s)
          (ap (λ (n : ℕ). noted_by n (in_of x' l)) (ap (λ (z : List ℕ). get_or z l 0) (map_set (λ (i : InEnd). i.noted) ins l e)
          ∙ get_or-set_same (map (λ (i : InEnd). i.noted) ins) l e.noted 0 (let n = length-map ins (λ (i : InEnd). i.noted) in omega arith) ∙ heard)
          ∙ listened_for (in_of x' l) ∙ sym (changed-here before l (saturated_count (listens (in_of x' l))))))
          (λ ne. (λ j. saturated_count ((ap (λ (z : List ℕ). get_or z k 0) (map_set (λ (i : InEnd). i.noted) ins l e) ∙ get_or-set_other (map (λ (i : InEnd). i.noted) ins) l k e.noted 0 ne) j + looked k ne j))
          ∙ sym (changed-other before l k (saturated_count (listens (in_of x' l))) ne))

-- a link of which all known parcels were collected has none at hand
pub none_waiting : (i : InLog Contents) (waiting : ℕ) → length i.seen ≡ i.taken + waiting → length (map as_shipped (got i)) ≡ length i.seen → waiting ≡ 0
none_waiting i waiting is all = let m = length-map (got i) as_shipped in let t = length-take-le i.taken i.seen (omega arith) in omega arith

pub some_waiting : (i : InLog Contents) (waiting : ℕ) → length i.seen ≡ i.taken + waiting → length (map as_shipped (got i)) < length i.seen → waiting ≢ 0
some_waiting i waiting is more none = let m = length-map (got i) as_shipped in let t = length-take-le i.taken i.seen (omega arith) in omega arith
