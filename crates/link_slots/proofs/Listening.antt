-- Ring and hear keep the rule.
use Rattle.std.proofs.Common.{◌≡◌, ◌≢◌, ℕ, zero, suc, ◌+◌, ◌*◌, ◌^◌, ◌<◌, ◌≤◌, ◌⊎◌, Bool, true, false, eqb, if◌then◌else◌, List, [], ◌∷◌, length, get_or, set, sym, refl, ap, ◌∙◌, subst, inl, inr, ⊎_elim, arith, length-set, get_or-set_same, get_or-set_other, eq-eqb, ne_eqb}
use Rattle.std.proofs.lemmas.Nat.{or_lt, pow_pos}
use Rattle.std.proofs.Math.Pow.{pow-lt}
use Rattle.std.specs.Int.{bit_at}
use Rattle.std.specs.Int.Bits.{bit_or}
use mathlib.Core.Logic.{dite}
use native.Mathlib.Decide.{ℕ_discrete}
use Rattle.atomic_table.specs.Table.{State, keeps, Allows}
use Rattle.link_slots.specs.Logs.{OutLog, InLog, Lists, no_in, out_of, in_of, with_out, got, sent_of, got_of, all_offered}
use Rattle.link_slots.specs.View.{View, own_logs, with_logs, Speaks}
use Rattle.link_slots.specs.Wiring.{Wiring, IsWired, posted_word, released_word, bell_word}
use Rattle.link_slots.specs.Link.{LinkOk, BellOk}
use Rattle.link_slots.specs.Bank.{Lawful}
use Rattle.link_slots.specs.HeldSlots.{Holds}
use Rattle.link_slots.specs.StepEffects.{map_from, heard_by, heard_ins, rung, heard}
use Rattle.link_slots.proofs.OneLink.{link_kept}
use Rattle.link_slots.proofs.Bells.{bit_stays, bit_comes, bell_kept, bell_rung, bell_heard}
use Rattle.link_slots.proofs.Holding.{holds_same}
use Rattle.link_slots.proofs.OneRank.{put, put_here, put_else, rank_step, sender_step, own_lens, speaker}
use Rattle.link_slots.proofs.Moves.{own_with, out_here, out_same, sent_kept}

module _ {A : Type 0} where
  pub length-map_from : (f : ℕ → A → A) (n : ℕ) (l : List A) → length (map_from f n l) ≡ length l
  length-map_from f n [] = refl
  length-map_from f n (a ∷ l) = ap suc (length-map_from f (suc n) l)

  pub at_map_from : (f : ℕ → A → A) (n i j : ℕ) (l : List A) (d : A) → j ≡ n + i → i < length l → get_or (map_from f n l) i d ≡ f j (get_or l i d)
  at_map_from f n i j [] d e h = absurd (omega arith)
  at_map_from f n zero j (a ∷ l) d e h = let q : n ≡ j = omega arith in ap (λ (z : ℕ). f z a) q
  at_map_from f n (suc i) j (a ∷ l) d e h = at_map_from f (suc n) i j l d (omega arith) (omega arith)

  -- what no change touches is the same at each place
  pub kept_map_from : {B : Type 0} (g : A → B) (f : ℕ → A → A) (n i : ℕ) (l : List A) (d : A) → ((j : ℕ) (a : A) → g (f j a) ≡ g a) → g (get_or (map_from f n l) i d) ≡ g (get_or l i d)
  kept_map_from g f n i [] d h = refl
  kept_map_from g f n zero (a ∷ l) d h = h n a
  kept_map_from g f n (suc i) (a ∷ l) d h = kept_map_from g f (suc n) i l d h

  -- a count that no change lowers
  pub risen_map_from : (g : A → ℕ) (f : ℕ → A → A) (n i : ℕ) (l : List A) (d : A) → ((j : ℕ) (a : A) → g a ≤ g (f j a)) → g (get_or l i d) ≤ g (get_or (map_from f n l) i d)
  risen_map_from g f n i [] d h = omega arith
  risen_map_from g f n zero (a ∷ l) d h = h n a
  risen_map_from g f n (suc i) (a ∷ l) d h = risen_map_from g f (suc n) i l d h

-- a bit that is set by the ring is set, and no other doorbell changes
rung_word : (ws : List ℕ) (k m v c : ℕ) → k < length ws → bit_at (get_or ws m 0) c ≡ 1 → bit_at (get_or (set ws k (bit_or (get_or ws k 0) v)) m 0) c ≡ 1
rung_word ws k m v c h e = dite (ℕ_discrete m k)
    (λ s. ap (λ (z : ℕ). bit_at (get_or (set ws k (bit_or (get_or ws k 0) v)) z 0) c) s ∙ ap (λ (z : ℕ). bit_at z c) (get_or-set_same ws k (bit_or (get_or ws k 0) v) 0 h) ∙ bit_stays (get_or ws k 0) v c (ap (λ (z : ℕ). bit_at (get_or ws z 0) c) (sym s) ∙ e))
    (λ n. ap (λ (z : ℕ). bit_at z c) (get_or-set_other ws k m (bit_or (get_or ws k 0) v) 0 n) ∙ e)

module _ {T : Type 0} (w : Wiring) (b n : ℕ) where
  pub heard_kept : {A : Type 0} (g : InLog T → A) → ((c : ℕ) (i : InLog T) → g (heard_by c i) ≡ g i) → (ins : List (InLog T)) (m : ℕ) → g (get_or (heard_ins w b n ins) m no_in) ≡ g (get_or ins m no_in)
  heard_kept g h ins m = kept_map_from g (λ l i. if eqb (w.bell l) b then heard_by (bit_at n (w.bit l)) i else i) 0 m ins no_in (λ j i. by_case g h (eqb (w.bell j) b) (bit_at n (w.bit j)) i)
    where
      by_case : {A : Type 0} (g : InLog T → A) → ((c : ℕ) (i : InLog T) → g (heard_by c i) ≡ g i) → (t : Bool) (c : ℕ) (i : InLog T) → g (if t then heard_by c i else i) ≡ g i
      by_case g h true c i = h c i
      by_case g h false c i = refl

  pub heard_risen : (ins : List (InLog T)) (m : ℕ) → (get_or ins m no_in).hears ≤ (get_or (heard_ins w b n ins) m no_in).hears
  heard_risen ins m = risen_map_from (λ (i : InLog T). i.hears) (λ l i. if eqb (w.bell l) b then heard_by (bit_at n (w.bit l)) i else i) 0 m ins no_in (λ j i. by_case (eqb (w.bell j) b) (bit_at n (w.bit j)) i)
    where
      by_case : (t : Bool) (c : ℕ) (i : InLog T) → i.hears ≤ (if t then heard_by c i else i).hears
      by_case true c i = omega arith
      by_case false c i = omega arith

  pub heard_here : (ins : List (InLog T)) (m : ℕ) → m < length ins → w.bell m ≡ b → get_or (heard_ins w b n ins) m no_in ≡ heard_by (bit_at n (w.bit m)) (get_or ins m no_in)
  heard_here ins m h e = at_map_from (λ l i. if eqb (w.bell l) b then heard_by (bit_at n (w.bit l)) i else i) 0 m m ins no_in (omega arith) h
      ∙ ap (λ (t : Bool). if t then heard_by (bit_at n (w.bit m)) (get_or ins m no_in) else get_or ins m no_in) (eq-eqb (w.bell m) b e)

  pub heard_else : (ins : List (InLog T)) (m : ℕ) → m < length ins → w.bell m ≢ b → get_or (heard_ins w b n ins) m no_in ≡ get_or ins m no_in
  heard_else ins m h e = at_map_from (λ l i. if eqb (w.bell l) b then heard_by (bit_at n (w.bit l)) i else i) 0 m m ins no_in (omega arith) h
      ∙ ap (λ (t : Bool). if t then heard_by (bit_at n (w.bit m)) (get_or ins m no_in) else get_or ins m no_in) (ne_eqb (w.bell m) b e)

module _ {D T : Type 0} (Blank : T → Type 0) (Good : ℕ → List T → T → Type 0) (Law : ℕ → (ℕ → List T) → (ℕ → List T) → Type 0) (shape : D) (w : Wiring) (wired : IsWired w) where
  abbrev Rule : State T (View D T) → Type 0
  Rule = Lawful Blank Good Law shape w

  pub ring : (id l : ℕ) (v : View D T) (c : List (ℕ × T)) → Speaks v → l < w.links → w.from l ≡ v.pick → Holds Blank w v.pick (own_logs v) c
      → Allows Rule (w.slots * w.links) id (v, c) (bell_word w l) (λ n. bit_or n (2 ^ w.bit l)) (λ n m'. rung Blank Good w l (v, c) m')
  ring id l v c speaks inside mine held s ok deep at fits =
      let x : Lists T = own_logs v in let o : OutLog T = out_of x l in let i : InLog T = in_of (ok.logs (w.to l)) l in
      let long : l < length x.outs = (let e = (own_lens Blank Good Law shape w wired s ok id v at speaks).0 in omega arith) in
      let k : ℕ = bell_word w l in
      let word : k < length s.words = (let e = ok.wide in let f = wired.rung l inside in omega arith) in
      let words : List ℕ = set s.words k (bit_or (get_or s.words k 0) (2 ^ w.bit l)) in
      let here : get_or words k 0 ≡ bit_or (get_or s.words k 0) (2 ^ w.bit l) = get_or-set_same s.words k _ 0 word in
      let o' : OutLog T = all_offered o i.hears in
      let x' : Lists T = with_out x l o' in
      let fits_in : 2 ^ w.bit l < 2 ^ w.width (w.bell l) = pow-lt (wired.bit_fits l inside) in
      let held' : Holds Blank w v.pick x' c = holds_same Blank w v.pick x x' c
      (out_same x l (λ z. z.sent) o' (λ m. (out_of x m).sent) long refl (λ _ _. refl)) (out_same x l (λ z. z.room) o' (λ m. (out_of x m).room) long refl (λ _ _. refl)) (λ _. refl) (λ _. refl) held in (
        with_logs v x',
        keeps,
        tt,
        sender_step Blank Good Law shape w wired s ok id v l o' words s.homes at speaks inside mine (length-set s.words k _) refl
            (λ law. subst (λ (z : ℕ → List T). Law v.pick z (got_of x)) (sym (sent_kept x l o' long refl)) law)
            (record {
              counts = λ m h a b. get_or-set_other s.words k m _ 0 (λ e. omega arith);
              bits = λ m h ne t. rung_word s.words k (bell_word w m) (2 ^ w.bit l) (w.bit m) word t;
              no_other_bits = λ b h. dite (ℕ_discrete b (w.bell l))
                  (λ e. subst (λ (z : ℕ). get_or words (16 * (2 * w.links + z)) 0 < 2 ^ w.width z) (sym e) (subst (λ (z : ℕ). z < 2 ^ w.width (w.bell l)) (sym here) (or_lt (w.width (w.bell l)) (get_or s.words k 0) (2 ^ w.bit l) (ok.no_other_bits (w.bell l) (wired.rung l inside)) fits_in)))
                  (λ ne. subst (λ (z : ℕ). z < 2 ^ w.width b) (sym (get_or-set_other s.words k (16 * (2 * w.links + b)) _ 0 (λ e. ne (omega arith)))) (ok.no_other_bits b h));
            })
            (λ _ _ _. refl)
            (λ link. link_kept Blank Good w wired l o i s.words words s.homes s.homes (length o.sent) o.looks i.hears i.hears i.heard i.look_ins i.released_at i.marked
            (get_or-set_other s.words k (posted_word l) _ 0 (λ e. omega arith)) (get_or-set_other s.words k (released_word l) _ 0 (λ e. omega arith)) (λ _. refl) link)
            (λ bell. bell_rung w l o o' i s.words words refl refl refl refl refl (ap (λ (z : ℕ). bit_at z (w.bit l)) here ∙ bit_comes (get_or s.words k 0) (w.bit l)) bell),
        (
          let there : out_of (own_logs (with_logs v x')) l ≡ o' = ap (λ (z : Lists T). out_of z l) (own_with v x' speaks) ∙ out_here x l o' long in
              (λ j. (with_logs v (with_out x l (all_offered o ((sym there) j).rung_at)), c)),
          subst (λ (z : Lists T). Holds Blank w v.pick z c) (sym (own_with v x' speaks)) held',
        ),
      )

  -- the doorbell b has the bits of links into the seat's rank, of which l is one
  pub hear : (id l b : ℕ) (v : View D T) (c : List (ℕ × T)) → Speaks v → l < w.links → w.to l ≡ v.pick → w.bell l ≡ b → Holds Blank w v.pick (own_logs v) c
      → Allows Rule (w.slots * w.links) id (v, c) (16 * (2 * w.links + b)) (λ _. 0) (λ n m'. heard Blank Good w b (v, c) n m')
  hear id l b v c speaks inside mine rings held s ok deep at fits =
      let x : Lists T = own_logs v in let r : ℕ = v.pick in
      let known : x ≡ ok.logs r = (speaker Blank Good Law shape w wired s ok id v at speaks).1 in
      let lens = own_lens Blank Good Law shape w wired s ok id v at speaks in
      let k : ℕ = 16 * (2 * w.links + b) in
      let word : k < length s.words = (let e = ok.wide in let f = wired.rung l inside in omega arith) in
      let n : ℕ = get_or s.words k 0 in
      let words : List ℕ = set s.words k 0 in
      let x' : Lists T = record { outs = x.outs; ins = heard_ins w b n x.ins } in
      let outs : (q m : ℕ) → out_of (put ok.logs r x' q) m ≡ out_of (ok.logs q) m = λ q m. dite (ℕ_discrete q r)
      (λ e. ap (λ (z : Lists T). out_of z m) (ap (put ok.logs r x') e ∙ put_here ok.logs r x') ∙ ap (λ (z : Lists T). out_of z m) (known ∙ ap ok.logs (sym e)))
      (λ ne. ap (λ (z : Lists T). out_of z m) (put_else ok.logs r x' q ne)) in
      let ins_other : (q m : ℕ) → q ≢ r → in_of (put ok.logs r x' q) m ≡ in_of (ok.logs q) m = λ q m ne. ap (λ (z : Lists T). in_of z m) (put_else ok.logs r x' q ne) in
      let ins_mine : (q m : ℕ) → q ≡ r → in_of (put ok.logs r x' q) m ≡ get_or (heard_ins w b n x.ins) m no_in = λ q m e. ap (λ (z : Lists T). in_of z m) (ap (put ok.logs r x') e ∙ put_here ok.logs r x') in
      let was : (q m : ℕ) → q ≡ r → get_or x.ins m no_in ≡ in_of (ok.logs q) m = λ q m e. ap (λ (z : Lists T). in_of z m) (known ∙ ap ok.logs (sym e)) in
      let ins : (m : ℕ) → m < w.links → ((w.bell m ≡ b) × (in_of (put ok.logs r x' (w.to m)) m ≡ heard_by (bit_at n (w.bit m)) (in_of (ok.logs (w.to m)) m))) ⊎ ((w.bell m ≢ b) × (in_of (put ok.logs r x' (w.to m)) m ≡ in_of (ok.logs (w.to m)) m)) =
      λ m h. let in_list : m < length x.ins = (let e = lens.1 in omega arith) in dite (ℕ_discrete (w.bell m) b)
      (λ e. let q : w.to m ≡ r = wired.one_reader m l h inside (e ∙ sym rings) ∙ mine in inl (e, ins_mine (w.to m) m q ∙ heard_here w b n x.ins m in_list e ∙ ap (heard_by (bit_at n (w.bit m))) (was (w.to m) m q)))
      (λ ne. inr (ne, dite (ℕ_discrete (w.to m) r) (λ q. ins_mine (w.to m) m q ∙ heard_else w b n x.ins m in_list ne ∙ was (w.to m) m q) (λ q. ins_other (w.to m) m q))) in
      let low : (m : ℕ) → m < 16 * (2 * w.links) → get_or words m 0 ≡ get_or s.words m 0 = λ m h. get_or-set_other s.words k m 0 0 (λ e. omega arith) in
      let got_same : got_of x' ≡ got_of x = λ j m. heard_kept w b n got (λ _ _. refl) x.ins m j in
      let law : Law r (sent_of x') (got_of x') = subst (λ (z : Lists T × (ℕ → List T)). Law r (sent_of z.0) z.1) (λ j. (sym known j, sym (got_same ∙ ap got_of known) j)) (ok.each_rank r).2 in
      let held' : Holds Blank w r x' c = holds_same Blank w r x x' c (λ _. refl) (λ _. refl) (λ m. heard_kept w b n (λ z. z.taken) (λ _ _. refl) x.ins m) (λ m. heard_kept w b n (λ z. z.seen) (λ _ _. refl) x.ins m) held in (
        with_logs v x',
        keeps,
        tt,
        rank_step Blank Good Law shape w wired s ok id v x' words s.homes at speaks (length-set s.words k 0) refl
            (lens.0, length-map_from (λ m i. if eqb (w.bell m) b then heard_by (bit_at n (w.bit m)) i else i) 0 x.ins ∙ lens.1, law)
            (λ m h. let a = out_of (ok.logs (w.from m)) m in let d = in_of (ok.logs (w.to m)) m in
            let p = low (posted_word m) (omega arith) in let q = low (released_word m) (omega arith) in
            ⊎_elim
            (λ t. subst (λ (z : OutLog T × InLog T). LinkOk Blank Good w m z.0 z.1 words s.homes) (λ j. (sym (outs (w.from m) m) j, sym t.1 j))
            (let e = heard_by (bit_at n (w.bit m)) d in link_kept Blank Good w wired m a d s.words words s.homes s.homes a.offered a.looks a.rung_at e.hears e.heard e.look_ins e.released_at e.marked p q (λ _. refl) (ok.each_link m h)))
            (λ t. subst (λ (z : OutLog T × InLog T). LinkOk Blank Good w m z.0 z.1 words s.homes) (λ j. (sym (outs (w.from m) m) j, sym t.1 j))
            (link_kept Blank Good w wired m a d s.words words s.homes s.homes a.offered a.looks a.rung_at d.hears d.heard d.look_ins d.released_at d.marked p q (λ _. refl) (ok.each_link m h)))
            (ins m h))
            (λ m h. let a = out_of (ok.logs (w.from m)) m in let d = in_of (ok.logs (w.to m)) m in
            ⊎_elim
            (λ t. subst (λ (z : OutLog T × InLog T). BellOk w m z.0 z.1 words) (λ j. (sym (outs (w.from m) m) j, (ap (λ (z : ℕ). heard_by (bit_at (get_or s.words (16 * (2 * w.links + z)) 0) (w.bit m)) d) t.0 ∙ sym t.1) j))
            (bell_heard w m a d s.words words (ok.each_bell m h)))
            (λ t. subst (λ (z : OutLog T × InLog T). BellOk w m z.0 z.1 words) (λ j. (sym (outs (w.from m) m) j, sym t.1 j))
            (bell_kept w m a a d d s.words words refl refl refl refl (omega arith) refl refl refl refl refl refl (omega arith)
            (λ e. ap (λ (z : ℕ). bit_at z (w.bit m)) (get_or-set_other s.words k (bell_word w m) 0 0 (λ z. t.0 (omega arith))) ∙ e) (ok.each_bell m h)))
            (ins m h))
            (λ d h. dite (ℕ_discrete d b)
            (λ e. subst (λ (z : ℕ). get_or words (16 * (2 * w.links + z)) 0 < 2 ^ w.width z) (sym e) (subst (λ (z : ℕ). z < 2 ^ w.width b) (sym (get_or-set_same s.words k 0 0 word)) (pow_pos (w.width b))))
            (λ ne. subst (λ (z : ℕ). z < 2 ^ w.width d) (sym (get_or-set_other s.words k (16 * (2 * w.links + d)) 0 0 (λ e. ne (omega arith)))) (ok.no_other_bits d h))),
        (refl, subst (λ (z : Lists T). Holds Blank w r z c) (sym (own_with v x' speaks)) held'),
      )
