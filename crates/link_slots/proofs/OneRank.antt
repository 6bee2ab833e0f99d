-- One rank's lists change in the view that has them, and the rule holds of the other ranks and
-- seats as before.
use Rattle.std.proofs.Common.{◌≡◌, ◌≢◌, ℕ, zero, suc, ◌+◌, ◌*◌, ◌^◌, ◌<◌, Bool, cond, eqb, List, [], ◌∷◌, length, get_or, set, sym, refl, ap, ◌∙◌, subst, ⊎_elim, arith, Option, Some, None, length-set, get_or-set_same, get_or-set_other, eq-eqb, ne_eqb}
use mathlib.Core.Logic.{dite}
use mathlib.Core.Option as maybe
use mathlib.Core.Option.{some, some-injective}
use native.Mathlib.Decide.{ℕ_discrete}
use lib.ListN.{get_elem?}
use Rattle.atomic_table.specs.Table.{State}
use Rattle.atomic_table.proofs.Lists.{at_set, set_here, set_else}
use Rattle.link_slots.proofs.Lookups.{at_inside}
use Rattle.link_slots.specs.Logs.{OutLog, InLog, Lists, no_out, no_in, out_of, in_of, with_out, with_in, sent_of, got_of}
use Rattle.link_slots.specs.View.{View, own_logs, with_logs, Speaks}
use Rattle.link_slots.specs.Wiring.{Wiring, IsWired, slot_of, posted_word, released_word, bell_word}
use Rattle.link_slots.specs.Link.{LinkOk, BellOk}
use Rattle.link_slots.specs.Bank.{Lawful}
use Rattle.link_slots.proofs.OneLink.{link_kept}
use Rattle.link_slots.proofs.Bells.{bell_kept}
use Rattle.link_slots.specs.HeldSlots.{Holds}
use Rattle.link_slots.proofs.Carried.{Away}
use Rattle.link_slots.proofs.Holding.{holds_away}
use Rattle.std.specs.Int.{bit_at}

module _ {A : Type 0} where
  -- a function with another value at one place
  abbrev pub put : (ℕ → A) → ℕ → A → ℕ → A
  put f r a q = cond (eqb q r) a (f q)

  pub put_here : (f : ℕ → A) (r : ℕ) (a : A) → put f r a r ≡ a
  put_here f r a = ap (λ (b : Bool). cond b a (f r)) (eq-eqb r r refl)

  pub put_else : (f : ℕ → A) (r : ℕ) (a : A) (q : ℕ) → q ≢ r → put f r a q ≡ f q
  put_else f r a q n = ap (λ (b : Bool). cond b a (f q)) (ne_eqb q r n)

-- what a step at the link l does to the words: the others' counts stay, and so do the bits that are
-- set for them
pub record WordsKept (w : Wiring) (l : ℕ) (ws ws' : List ℕ) : Type 0 where
  pub counts : (k : ℕ) → k < 16 * (2 * w.links) → k ≢ posted_word l → k ≢ released_word l → get_or ws' k 0 ≡ get_or ws k 0
  pub bits : (m : ℕ) → m < w.links → m ≢ l → bit_at (get_or ws (bell_word w m) 0) (w.bit m) ≡ 1 → bit_at (get_or ws' (bell_word w m) 0) (w.bit m) ≡ 1
  pub no_other_bits : (b : ℕ) → b < w.bells → get_or ws' (16 * (2 * w.links + b)) 0 < 2 ^ w.width b

-- a step on a counting word rings nothing
pub bells_kept : (w : Wiring) (l : ℕ) (ws ws' : List ℕ) → ((b : ℕ) → b < w.bells → get_or ws (16 * (2 * w.links + b)) 0 < 2 ^ w.width b) → l < w.links
    → ((k : ℕ) → k ≢ posted_word l → k ≢ released_word l → get_or ws' k 0 ≡ get_or ws k 0) → WordsKept w l ws ws'
bells_kept w l ws ws' bits inside same = record {
  counts = λ k h a b. same k a b;
  bits = λ m h ne t. ap (λ (z : ℕ). bit_at z (w.bit m)) (same (bell_word w m) (λ z. omega arith) (λ z. omega arith)) ∙ t;
  no_other_bits = λ b h. let e = same (16 * (2 * w.links + b)) (λ z. omega arith) (λ z. omega arith) in let old = bits b h in subst (λ (z : ℕ). z < 2 ^ w.width b) (sym e) old;
}

module _ {T : Type 0} (w : Wiring) (logs : ℕ → Lists T) (r : ℕ) where
  -- a change of one link out is no change of any link in, nor of another link out
  pub out_else : (l m q : ℕ) (o : OutLog T) → m ≢ l → out_of (put logs r (with_out (logs r) l o) q) m ≡ out_of (logs q) m
  out_else l m q o n = dite (ℕ_discrete q r)
      (λ e. ap (λ (x : Lists T). out_of x m) (ap (put logs r (with_out (logs r) l o)) e ∙ put_here logs r (with_out (logs r) l o)) ∙ get_or-set_other (logs r).outs l m o no_out n ∙ ap (λ (z : ℕ). out_of (logs z) m) (sym e))
      (λ ne. ap (λ (x : Lists T). out_of x m) (put_else logs r (with_out (logs r) l o) q ne))

  pub in_same : (l m q : ℕ) (o : OutLog T) → in_of (put logs r (with_out (logs r) l o) q) m ≡ in_of (logs q) m
  in_same l m q o = dite (ℕ_discrete q r)
      (λ e. ap (λ (x : Lists T). in_of x m) (ap (put logs r (with_out (logs r) l o)) e ∙ put_here logs r (with_out (logs r) l o)) ∙ ap (λ (z : ℕ). in_of (logs z) m) (sym e))
      (λ ne. ap (λ (x : Lists T). in_of x m) (put_else logs r (with_out (logs r) l o) q ne))

  pub out_here : (l : ℕ) (o : OutLog T) → l < length (logs r).outs → out_of (put logs r (with_out (logs r) l o) r) l ≡ o
  out_here l o h = ap (λ (x : Lists T). out_of x l) (put_here logs r (with_out (logs r) l o)) ∙ get_or-set_same (logs r).outs l o no_out h

  pub in_else : (l m q : ℕ) (i : InLog T) → m ≢ l → in_of (put logs r (with_in (logs r) l i) q) m ≡ in_of (logs q) m
  in_else l m q i n = dite (ℕ_discrete q r)
      (λ e. ap (λ (x : Lists T). in_of x m) (ap (put logs r (with_in (logs r) l i)) e ∙ put_here logs r (with_in (logs r) l i)) ∙ get_or-set_other (logs r).ins l m i no_in n ∙ ap (λ (z : ℕ). in_of (logs z) m) (sym e))
      (λ ne. ap (λ (x : Lists T). in_of x m) (put_else logs r (with_in (logs r) l i) q ne))

  pub out_same : (l m q : ℕ) (i : InLog T) → out_of (put logs r (with_in (logs r) l i) q) m ≡ out_of (logs q) m
  out_same l m q i = dite (ℕ_discrete q r)
      (λ e. ap (λ (x : Lists T). out_of x m) (ap (put logs r (with_in (logs r) l i)) e ∙ put_here logs r (with_in (logs r) l i)) ∙ ap (λ (z : ℕ). out_of (logs z) m) (sym e))
      (λ ne. ap (λ (x : Lists T). out_of x m) (put_else logs r (with_in (logs r) l i) q ne))

  pub in_here : (l : ℕ) (i : InLog T) → l < length (logs r).ins → in_of (put logs r (with_in (logs r) l i) r) l ≡ i
  in_here l i h = ap (λ (x : Lists T). in_of x l) (put_here logs r (with_in (logs r) l i)) ∙ get_or-set_same (logs r).ins l i no_in h

some_same : {A : Type 0} (x y : A) → Some x ≡ Some y → x ≡ y
some_same x y e = cc

module _ {D T : Type 0} (Blank : T → Type 0) (Good : ℕ → List T → T → Type 0) (Law : ℕ → (ℕ → List T) → (ℕ → List T) → Type 0) (shape : D) (w : Wiring) (wired : IsWired w) where
  abbrev pub Rule : State T (View D T) → Type 0
  Rule = Lawful Blank Good Law shape w

  abbrev pub St : Type 0
  St = State T (View D T)

  -- what the rule says of the seat that speaks for a rank
  pub speaker : (s : St) (ok : Rule s) (id : ℕ) (v : View D T) → get_elem? s.views id ≡ some v → Speaks v → (ok.owner v.pick ≡ id) × (own_logs v ≡ ok.logs v.pick) × (v.shape ≡ shape)
  speaker s ok id v at speaks = ok.each_seat id v at v.pick (own_logs v) speaks

  abbrev after : (s : St) → List ℕ → List (maybe.Option T) → ℕ → View D T → St
  after s words homes id v = record { words = words; homes = homes; views = set s.views id v }

  abbrev logs_after : (s : St) → Rule s → View D T → Lists T → ℕ → Lists T
  logs_after s ok v x = put ok.logs v.pick x

  pub rank_step : (s : St) (ok : Rule s) (id : ℕ) (v : View D T) (x : Lists T) (words : List ℕ) (homes : List (maybe.Option T))
      → get_elem? s.views id ≡ some v → Speaks v → length words ≡ length s.words → length homes ≡ length s.homes
      → (length x.outs ≡ w.links) × (length x.ins ≡ w.links) × Law v.pick (sent_of x) (got_of x)
      → ((l : ℕ) → l < w.links → LinkOk Blank Good w l (out_of (put ok.logs v.pick x (w.from l)) l) (in_of (put ok.logs v.pick x (w.to l)) l) words homes)
      → ((l : ℕ) → l < w.links → BellOk w l (out_of (put ok.logs v.pick x (w.from l)) l) (in_of (put ok.logs v.pick x (w.to l)) l) words)
      → ((b : ℕ) → b < w.bells → get_or words (16 * (2 * w.links + b)) 0 < 2 ^ w.width b)
      → Rule (record { words = words; homes = homes; views = set s.views id (with_logs v x) })
  rank_step s ok id v x words homes at speaks as_wide as_deep mine links bells bits =
      let known = speaker s ok id v at speaks in
      let logs' : ℕ → Lists T = put ok.logs v.pick x in
      let long : v.pick < length v.lists = listed v.lists v.pick (own_logs v) speaks in record {
        logs = logs';
        owner = ok.owner;
        wide = as_wide ∙ ok.wide;
        deep = as_deep ∙ ok.deep;
        each_link = links;
        each_bell = bells;
        no_other_bits = bits;
        each_rank = λ r. dite (ℕ_discrete r v.pick)
            (λ e. subst (λ (z : ℕ × Lists T). (length z.1.outs ≡ w.links) × (length z.1.ins ≡ w.links) × Law z.0 (sent_of z.1) (got_of z.1)) (λ k. (sym e k, sym (ap logs' e ∙ put_here ok.logs v.pick x) k)) mine)
            (λ ne. subst (λ (z : Lists T). (length z.outs ≡ w.links) × (length z.ins ≡ w.links) × Law r (sent_of z) (got_of z)) (sym (put_else ok.logs v.pick x r ne)) (ok.each_rank r));
        each_seat = λ j u there. ⊎_elim
            (λ t r y e. dite (ℕ_discrete r v.pick)
            (λ same. let e' : Some x ≡ Some y = sym (get_or-set_same v.lists v.pick (Some x) None long) ∙ ap (get_or_none (set v.lists v.pick (Some x))) (sym same) ∙ ap (λ (z : View D T). get_or z.lists r None) t.1 ∙ e in
            (ap ok.owner same ∙ known.0 ∙ sym t.0, sym (some_same x y e') ∙ sym (ap logs' same ∙ put_here ok.logs v.pick x), ap (λ (z : View D T). z.shape) (sym t.1) ∙ known.2))
            (λ other. let e' : get_or v.lists r None ≡ Some y = sym (get_or-set_other v.lists v.pick r (Some x) None other) ∙ ap (λ (z : View D T). get_or z.lists r None) t.1 ∙ e in
            let old = ok.each_seat id v at r y e' in (old.0 ∙ sym t.0, old.1 ∙ sym (put_else ok.logs v.pick x r other), ap (λ (z : View D T). z.shape) (sym t.1) ∙ old.2)))
            (λ t r y e. let old = ok.each_seat j u t.1 r y e in
            let other : r ≢ v.pick = λ same. t.0 (sym old.0 ∙ ap ok.owner same ∙ known.0) in
            (old.0, old.1 ∙ sym (put_else ok.logs v.pick x r other), old.2))
            (at_set s.views id j (with_logs v x) u there);
        owned = λ r h. let old = ok.owned r h in dite (ℕ_discrete (ok.owner r) id)
            (λ mine. let same : old.0 ≡ v = some-injective old.0 v (sym old.1 ∙ ap (get_elem? s.views) mine ∙ at) in (
              with_logs v x,
              ap (get_elem? (set s.views id (with_logs v x))) mine ∙ set_here s.views id (with_logs v x) (at_inside s.views id v at),
              dite (ℕ_discrete r v.pick)
                  (λ e. ap (get_or_none (set v.lists v.pick (Some x))) e ∙ get_or-set_same v.lists v.pick (Some x) None long ∙ ap Some (sym (ap logs' e ∙ put_here ok.logs v.pick x)))
                  (λ ne. get_or-set_other v.lists v.pick r (Some x) None ne ∙ ap (λ (z : View D T). get_or z.lists r None) (sym same) ∙ old.2 ∙ ap Some (sym (put_else ok.logs v.pick x r ne))),
            ))
            (λ apart. let ne : r ≢ v.pick = λ e. apart (ap ok.owner e ∙ known.0) in
            (old.0, set_else s.views id (ok.owner r) (with_logs v x) apart ∙ old.1, old.2 ∙ ap Some (sym (put_else ok.logs v.pick x r ne))));
      }
    where
      get_or_none : List (Option (Lists T)) → ℕ → Option (Lists T)
      get_or_none l r = get_or l r None

      listed : (l : List (Option (Lists T))) (r : ℕ) (x : Lists T) → get_or l r None ≡ Some x → r < length l
      listed [] r x e = cc
      listed (y ∷ ys) zero x e = omega arith
      listed (y ∷ ys) (suc r) x e = let h = listed ys r x e in omega arith

  -- the same where one link alone changes: of the words the link's two, of the slots the link's own
  link_step : (s : St) (ok : Rule s) (id : ℕ) (v : View D T) (x : Lists T) (l : ℕ) (words : List ℕ) (homes : List (maybe.Option T))
      → get_elem? s.views id ≡ some v → Speaks v → length words ≡ length s.words → length homes ≡ length s.homes
      → (length x.outs ≡ w.links) × (length x.ins ≡ w.links) × Law v.pick (sent_of x) (got_of x)
      → ((m q : ℕ) → m ≢ l → (out_of (put ok.logs v.pick x q) m ≡ out_of (ok.logs q) m) × (in_of (put ok.logs v.pick x q) m ≡ in_of (ok.logs q) m))
      → WordsKept w l s.words words
      → ((m n : ℕ) → m ≢ l → get_elem? homes (slot_of w m n) ≡ get_elem? s.homes (slot_of w m n))
      → (l < w.links → LinkOk Blank Good w l (out_of (put ok.logs v.pick x (w.from l)) l) (in_of (put ok.logs v.pick x (w.to l)) l) words homes)
      → (l < w.links → BellOk w l (out_of (put ok.logs v.pick x (w.from l)) l) (in_of (put ok.logs v.pick x (w.to l)) l) words)
      → l < w.links → Rule (record { words = words; homes = homes; views = set s.views id (with_logs v x) })
  link_step s ok id v x l words homes at speaks as_wide as_deep mine others same_words same_homes link bell inside =
      rank_step s ok id v x words homes at speaks as_wide as_deep mine
      (λ m h. dite (ℕ_discrete m l)
      (λ e. subst (λ (z : ℕ). LinkOk Blank Good w z (out_of (put ok.logs v.pick x (w.from z)) z) (in_of (put ok.logs v.pick x (w.to z)) z) words homes) (sym e) (link inside))
      (λ ne. let o = others m (w.from m) ne in let i = others m (w.to m) ne in
      subst (λ (z : OutLog T × InLog T). LinkOk Blank Good w m z.0 z.1 words homes) (λ k. (sym o.0 k, sym i.1 k))
      (let old = ok.each_link m h in let a = out_of (ok.logs (w.from m)) m in let b = in_of (ok.logs (w.to m)) m in
      link_kept Blank Good w wired m a b s.words words s.homes homes a.offered a.looks a.rung_at b.hears b.heard b.look_ins b.released_at b.marked
      (same_words.counts (posted_word m) (omega arith) (λ z. ne (omega arith)) (λ z. omega arith)) (same_words.counts (released_word m) (omega arith) (λ z. omega arith) (λ z. ne (omega arith))) (λ n. same_homes m n ne) old)))
      (λ m h. dite (ℕ_discrete m l)
      (λ e. subst (λ (z : ℕ). BellOk w z (out_of (put ok.logs v.pick x (w.from z)) z) (in_of (put ok.logs v.pick x (w.to z)) z) words) (sym e) (bell inside))
      (λ ne. let o = others m (w.from m) ne in let i = others m (w.to m) ne in
      subst (λ (z : OutLog T × InLog T). BellOk w m z.0 z.1 words) (λ k. (sym o.0 k, sym i.1 k))
      (let a = out_of (ok.logs (w.from m)) m in let b = in_of (ok.logs (w.to m)) m in
      bell_kept w m a a b b s.words words refl refl refl refl (omega arith) refl refl refl refl refl refl (omega arith)
      (same_words.bits m h ne) (ok.each_bell m h))))
      same_words.no_other_bits

  -- a step of the link's sender
  pub sender_step : (s : St) (ok : Rule s) (id : ℕ) (v : View D T) (l : ℕ) (o : OutLog T) (words : List ℕ) (homes : List (maybe.Option T))
      → get_elem? s.views id ≡ some v → Speaks v → l < w.links → w.from l ≡ v.pick → length words ≡ length s.words → length homes ≡ length s.homes
      → (Law v.pick (sent_of (own_logs v)) (got_of (own_logs v)) → Law v.pick (sent_of (with_out (own_logs v) l o)) (got_of (own_logs v)))
      → WordsKept w l s.words words
      → ((m n : ℕ) → m ≢ l → get_elem? homes (slot_of w m n) ≡ get_elem? s.homes (slot_of w m n))
      → (LinkOk Blank Good w l (out_of (own_logs v) l) (in_of (ok.logs (w.to l)) l) s.words s.homes → LinkOk Blank Good w l o (in_of (ok.logs (w.to l)) l) words homes)
      → (BellOk w l (out_of (own_logs v) l) (in_of (ok.logs (w.to l)) l) s.words → BellOk w l o (in_of (ok.logs (w.to l)) l) words)
      → Rule (record { words = words; homes = homes; views = set s.views id (with_logs v (with_out (own_logs v) l o)) })
  sender_step s ok id v l o words homes at speaks inside mine as_wide as_deep law same_words same_homes link bell =
      let known = speaker s ok id v at speaks in
      let e : own_logs v ≡ ok.logs v.pick = known.1 in
      let r : ℕ = v.pick in
      let lens = ok.each_rank r in
      let I : InLog T = in_of (ok.logs (w.to l)) l in
      let P : Lists T → Type 0 = λ x.
      (Law r (sent_of x) (got_of x) → Law r (sent_of (with_out x l o)) (got_of x))
      → (LinkOk Blank Good w l (out_of x l) I s.words s.homes → LinkOk Blank Good w l o I words homes)
      → (BellOk w l (out_of x l) I s.words → BellOk w l o I words)
      → Rule (record { words = words; homes = homes; views = set s.views id (with_logs v (with_out x l o)) }) in
      subst P (sym e)
      (λ law' link' bell'. link_step s ok id v (with_out (ok.logs r) l o) l words homes at speaks as_wide as_deep
      (length-set (ok.logs r).outs l o ∙ lens.0, lens.1, law' lens.2)
      (λ m q ne. (out_else w ok.logs r l m q o ne, in_same w ok.logs r l m q o)) same_words same_homes
      (λ _. subst (λ (z : OutLog T × InLog T). LinkOk Blank Good w l z.0 z.1 words homes)
      (λ k. (sym (ap (λ (q : ℕ). out_of (put ok.logs r (with_out (ok.logs r) l o) q) l) mine ∙ out_here w ok.logs r l o (subst (λ (z : ℕ). l < z) (sym lens.0) inside)) k, sym (in_same w ok.logs r l l (w.to l) o) k))
      (link' (subst (λ (q : ℕ). LinkOk Blank Good w l (out_of (ok.logs q) l) (in_of (ok.logs (w.to l)) l) s.words s.homes) mine (ok.each_link l inside))))
      (λ _. subst (λ (z : OutLog T × InLog T). BellOk w l z.0 z.1 words)
      (λ k. (sym (ap (λ (q : ℕ). out_of (put ok.logs r (with_out (ok.logs r) l o) q) l) mine ∙ out_here w ok.logs r l o (subst (λ (z : ℕ). l < z) (sym lens.0) inside)) k, sym (in_same w ok.logs r l l (w.to l) o) k))
      (bell' (subst (λ (q : ℕ). BellOk w l (out_of (ok.logs q) l) (in_of (ok.logs (w.to l)) l) s.words) mine (ok.each_bell l inside))))
      inside)
      law link bell

  -- a step of the link's reader
  pub reader_step : (s : St) (ok : Rule s) (id : ℕ) (v : View D T) (l : ℕ) (i : InLog T) (words : List ℕ) (homes : List (maybe.Option T))
      → get_elem? s.views id ≡ some v → Speaks v → l < w.links → w.to l ≡ v.pick → length words ≡ length s.words → length homes ≡ length s.homes
      → (Law v.pick (sent_of (own_logs v)) (got_of (own_logs v)) → Law v.pick (sent_of (own_logs v)) (got_of (with_in (own_logs v) l i)))
      → WordsKept w l s.words words
      → ((m n : ℕ) → m ≢ l → get_elem? homes (slot_of w m n) ≡ get_elem? s.homes (slot_of w m n))
      → (LinkOk Blank Good w l (out_of (ok.logs (w.from l)) l) (in_of (own_logs v) l) s.words s.homes → LinkOk Blank Good w l (out_of (ok.logs (w.from l)) l) i words homes)
      → (BellOk w l (out_of (ok.logs (w.from l)) l) (in_of (own_logs v) l) s.words → BellOk w l (out_of (ok.logs (w.from l)) l) i words)
      → Rule (record { words = words; homes = homes; views = set s.views id (with_logs v (with_in (own_logs v) l i)) })
  reader_step s ok id v l i words homes at speaks inside mine as_wide as_deep law same_words same_homes link bell =
      let known = speaker s ok id v at speaks in
      let e : own_logs v ≡ ok.logs v.pick = known.1 in
      let r : ℕ = v.pick in
      let lens = ok.each_rank r in
      let O : OutLog T = out_of (ok.logs (w.from l)) l in
      let P : Lists T → Type 0 = λ x.
      (Law r (sent_of x) (got_of x) → Law r (sent_of x) (got_of (with_in x l i)))
      → (LinkOk Blank Good w l O (in_of x l) s.words s.homes → LinkOk Blank Good w l O i words homes)
      → (BellOk w l O (in_of x l) s.words → BellOk w l O i words)
      → Rule (record { words = words; homes = homes; views = set s.views id (with_logs v (with_in x l i)) }) in
      subst P (sym e)
      (λ law' link' bell'.
      let link_was : LinkOk Blank Good w l O (in_of (ok.logs r) l) s.words s.homes = subst (λ (q : ℕ). LinkOk Blank Good w l O (in_of (ok.logs q) l) s.words s.homes) mine (ok.each_link l inside) in
      let to_new : (λ (z : OutLog T × InLog T). z) (O, i) ≡ (out_of (put ok.logs r (with_in (ok.logs r) l i) (w.from l)) l, in_of (put ok.logs r (with_in (ok.logs r) l i) (w.to l)) l) =
      (λ k. (sym (out_same w ok.logs r l l (w.from l) i) k, sym (ap (λ (q : ℕ). in_of (put ok.logs r (with_in (ok.logs r) l i) q) l) mine ∙ in_here w ok.logs r l i (subst (λ (z : ℕ). l < z) (sym lens.1) inside)) k)) in
      link_step s ok id v (with_in (ok.logs r) l i) l words homes at speaks as_wide as_deep
      (lens.0, length-set (ok.logs r).ins l i ∙ lens.1, law' lens.2)
      (λ m q ne. (out_same w ok.logs r l m q i, in_else w ok.logs r l m q i ne)) same_words same_homes
      (λ _. subst (λ (z : OutLog T × InLog T). LinkOk Blank Good w l z.0 z.1 words homes) to_new (link' link_was))
      (λ _. subst (λ (z : OutLog T × InLog T). BellOk w l z.0 z.1 words) to_new (bell' (subst (λ (q : ℕ). BellOk w l O (in_of (ok.logs q) l) s.words) mine (ok.each_bell l inside))))
      inside)
      law link bell

  -- the link as its sender's view and its reader's view have it
  pub sender_link : (s : St) (ok : Rule s) (id : ℕ) (v : View D T) (l : ℕ) → get_elem? s.views id ≡ some v → Speaks v → l < w.links → w.from l ≡ v.pick
      → LinkOk Blank Good w l (out_of (own_logs v) l) (in_of (ok.logs (w.to l)) l) s.words s.homes
  sender_link s ok id v l at speaks inside mine = subst (λ (z : Lists T). LinkOk Blank Good w l (out_of z l) (in_of (ok.logs (w.to l)) l) s.words s.homes) (ap ok.logs mine ∙ sym (speaker s ok id v at speaks).1) (ok.each_link l inside)

  pub reader_link : (s : St) (ok : Rule s) (id : ℕ) (v : View D T) (l : ℕ) → get_elem? s.views id ≡ some v → Speaks v → l < w.links → w.to l ≡ v.pick
      → LinkOk Blank Good w l (out_of (ok.logs (w.from l)) l) (in_of (own_logs v) l) s.words s.homes
  reader_link s ok id v l at speaks inside mine = subst (λ (z : Lists T). LinkOk Blank Good w l (out_of (ok.logs (w.from l)) l) (in_of z l) s.words s.homes) (ap ok.logs mine ∙ sym (speaker s ok id v at speaks).1) (ok.each_link l inside)

  pub own_lens : (s : St) (ok : Rule s) (id : ℕ) (v : View D T) → get_elem? s.views id ≡ some v → Speaks v → (length (own_logs v).outs ≡ w.links) × (length (own_logs v).ins ≡ w.links)
  own_lens s ok id v at speaks = let e = (speaker s ok id v at speaks).1 in let lens = ok.each_rank v.pick in
      (ap (λ (z : Lists T). length z.outs) e ∙ lens.0, ap (λ (z : Lists T). length z.ins) e ∙ lens.1)

  -- the slots in the seat's hands are away
  pub own_away : (s : St) (ok : Rule s) (id : ℕ) (v : View D T) (c : List (ℕ × T)) → get_elem? s.views id ≡ some v → Speaks v → Holds Blank w v.pick (own_logs v) c → Away s.homes c
  own_away s ok id v c at speaks h = holds_away Blank Good w v.pick ok.logs s.words s.homes c ok.each_link (subst (λ (z : Lists T). Holds Blank w v.pick z c) (speaker s ok id v at speaks).1 h)
