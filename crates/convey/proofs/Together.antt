-- The conveyors of all ranks over one bank, for whoever makes calls on them.
use Rattle.std.proofs.Common.{◌≡◌, ◌≢◌, ℕ, ◌+◌, ◌<◌, List, [], ◌∷◌, ◌++◌, length, refl, sym, ap, subst, ◌∙◌}
use Rattle.std.specs.Prelude.{slice_index_or, slice_set}
use Rattle.std.proofs.lemmas.List.{length-append, get_or_default, get_or-set_same, get_or-set_other}
use Rattle.route_tensor.specs.Grid.{ranks, IsGrid}
use Rattle.route_tensor.specs.Link.{links}
use Rattle.port_bank.specs.Logs.{Logs, starting_at, ending_at, starting_elsewhere, ending_elsewhere}
use Rattle.port_bank.specs.Link.{LinkLaw}
use Rattle.port_bank.specs.Port.{Others}
use Rattle.port_bank.specs.Plain.{Bank, IsBank, sent_of, got_of, others_of, empty_bank}
use Rattle.port_bank.proofs.Closing.{empty_links, none_sent, none_got}
use Rattle.hop_core.specs.State.{State}
use Rattle.convey.specs.Buffers.{Buffers, buffers_of}
use Rattle.convey.specs.Conveyors.{AgreesWith, KeepsAgreement, IsUnusedConveyor}
use Rattle.convey.specs.Law.{IsSound, AgreeTogether, StaysTogether}

pub one_more : {X : Type 0} (xs ys : List X) (x : X) (n : ℕ) → ys ≡ xs ++ x ∷ [] → length xs ≡ n → length ys ≡ n + 1
one_more xs ys x n is all = ap length is ∙ (length-append xs (x ∷ []) ∙ ap (λ k. k + 1) all)

pub together_first : (dims : List ℕ) (cap slots : ℕ) (all : ℕ → State) → IsGrid dims → ((r : ℕ) → r < ranks dims → IsUnusedConveyor dims r (all r))
    → AgreeTogether dims cap slots (λ r. buffers_of (all r)) (sent_of (empty_bank dims slots)) (got_of (empty_bank dims slots))
together_first dims cap slots all g each = record {
  grid = g;
  links_keep = λ l h. empty_links cap slots dims l;
  same_dims = λ r h. (each r h).same_dims;
  same_rank = λ r h. (each r h).same_rank;
  sound = λ r h. (each r h).sound;
  agree = λ r h.
      let sent : ◌≡◌ {A = Logs} (starting_at dims r (sent_of (empty_bank dims slots))) (λ l. []) = λ i l. none_sent dims slots r l i in
      let got : ◌≡◌ {A = Logs} (ending_at dims r (got_of (empty_bank dims slots))) (λ l. []) = λ i l. none_got dims slots r l i in
      subst (λ f. AgreesWith (all r) f (ending_at dims r (got_of (empty_bank dims slots)))) (sym sent) (subst (AgreesWith (all r) (λ l. [])) (sym got) (each r h).agrees);
}

-- a call on one of them: its state was st and is st', and the others stay
pub record Changes (r : ℕ) (old new : ℕ → State) (st st' : State) : Type 0 where
  pub was : st ≡ old r
  pub now : new r ≡ st'
  pub others : (q : ℕ) → q ≢ r → new q ≡ old q

pub changes : {X : Type 0} (state : X → State) (xs : List X) (r : ℕ) (x y d : X) → r < length xs → x ≡ slice_index_or xs r x
    → Changes r (λ q. state (slice_index_or xs q d)) (λ q. state (slice_index_or (slice_set xs r y) q d)) (state x) (state y)
changes state xs r x y d h read = record {
  was = ap state (read ∙ get_or_default xs r x d h);
  now = ap state (get_or-set_same xs r y d h);
  others = λ q apart. ap state (get_or-set_other xs r q y d apart);
}

-- one rank makes a call without its port
pub together_local : (dims : List ℕ) (cap slots r : ℕ) (old new : ℕ → State) (st st' : State) (sent got : Logs) → StaysTogether
    → AgreeTogether dims cap slots (λ q. buffers_of (old q)) sent got → r < ranks dims → Changes r old new st st'
    → st'.dims ≡ st.dims → st'.rank ≡ st.rank → KeepsAgreement st st' → IsSound (buffers_of st')
    → AgreeTogether dims cap slots (λ q. buffers_of (new q)) sent got
together_local dims cap slots r old new st st' sent got law t h c same_dims same_rank kept sound =
    law dims cap slots r (λ q. buffers_of (old q)) (λ q. buffers_of (new q)) sent sent got got t (record {
      rank = h;
      others = λ q k apart. ap buffers_of (c.others q apart);
      sent_elsewhere = refl;
      got_elsewhere = refl;
      links_keep = t.links_keep;
      same_dims = ap (λ (x : State). x.dims) c.now ∙ (same_dims ∙ (ap (λ (x : State). x.dims) c.was ∙ t.same_dims r h));
      same_rank = ap (λ (x : State). x.rank) c.now ∙ (same_rank ∙ (ap (λ (x : State). x.rank) c.was ∙ t.same_rank r h));
      sound = subst (λ x. IsSound (buffers_of x)) (sym c.now) sound;
      agrees = subst (λ x. AgreesWith x (starting_at dims r sent) (ending_at dims r got)) (sym c.now)
          (kept (starting_at dims r sent) (ending_at dims r got) (subst (λ x. AgreesWith x (starting_at dims r sent) (ending_at dims r got)) (sym c.was) (t.agree r h)));
    })

-- what an advance wants of its rank's port
pub together_port : (cap r : ℕ) (old : ℕ → State) (st : State) (b p : Bank) (r' : ℕ) → AgreeTogether b.dims cap b.slots (λ q. buffers_of (old q)) (sent_of b) (got_of b) → r < ranks b.dims
    → st ≡ old r → p ≡ b → r' ≡ r → (p.dims ≡ st.dims) × ((r' ≡ st.rank) × AgreesWith st (starting_at p.dims r' (sent_of p)) (ending_at p.dims r' (got_of p)))
together_port cap r old st b p r' t h was same same_rank =
    let P : State → Bank → ℕ → Type 0 = λ x y q. (y.dims ≡ x.dims) × ((q ≡ x.rank) × AgreesWith x (starting_at y.dims q (sent_of y)) (ending_at y.dims q (got_of y))) in
    let base : P (old r) b r = (sym (t.same_dims r h), (sym (t.same_rank r h), t.agree r h)) in
    subst (λ x. P x p r') (sym was) (subst (λ y. P (old r) y r') (sym same) (subst (λ q. P (old r) b q) (sym same_rank) base))

-- what an advance leaves of a rank and its port
pub record Advances (cap r : ℕ) (st st' : State) (p p' : Bank) (q q' : ℕ) : Type 0 where
  pub agrees : AgreesWith st' (starting_at p'.dims q' (sent_of p')) (ending_at p'.dims q' (got_of p'))
  pub sound : IsSound (buffers_of st')
  pub self_dims : st'.dims ≡ st.dims
  pub self_rank : st'.rank ≡ st.rank
  pub port_dims : p'.dims ≡ p.dims
  pub port_rank : q' ≡ q
  pub port_slots : p'.slots ≡ p.slots
  pub rest : others_of q' p' ≡ others_of q p
  pub lawful : IsBank cap p'

moved_on : (dims : List ℕ) (cap slots r : ℕ) (old new : ℕ → State) (st st' : State) (sent sent' got got' : Logs) → StaysTogether
    → AgreeTogether dims cap slots (λ q. buffers_of (old q)) sent got → r < ranks dims → Changes r old new st st'
    → st'.dims ≡ st.dims → st'.rank ≡ st.rank → IsSound (buffers_of st') → AgreesWith st' (starting_at dims r sent') (ending_at dims r got')
    → starting_elsewhere dims r sent' ≡ starting_elsewhere dims r sent → ending_elsewhere dims r got' ≡ ending_elsewhere dims r got
    → ((l : ℕ) → l < links dims → LinkLaw cap slots (sent' l) (got' l)) → AgreeTogether dims cap slots (λ q. buffers_of (new q)) sent' got'
moved_on dims cap slots r old new st st' sent sent' got got' law t h c same_dims same_rank sound agrees apart apart' keep =
    law dims cap slots r (λ q. buffers_of (old q)) (λ q. buffers_of (new q)) sent sent' got got' t (record {
      rank = h;
      others = λ q k far. ap buffers_of (c.others q far);
      sent_elsewhere = apart;
      got_elsewhere = apart';
      links_keep = keep;
      same_dims = ap (λ (x : State). x.dims) c.now ∙ (same_dims ∙ (ap (λ (x : State). x.dims) c.was ∙ t.same_dims r h));
      same_rank = ap (λ (x : State). x.rank) c.now ∙ (same_rank ∙ (ap (λ (x : State). x.rank) c.was ∙ t.same_rank r h));
      sound = subst (λ x. IsSound (buffers_of x)) (sym c.now) sound;
      agrees = subst (λ x. AgreesWith x (starting_at dims r sent') (ending_at dims r got')) (sym c.now) agrees;
    })

-- one rank advances over its port of the bank
pub together_advance : (cap r : ℕ) (old new : ℕ → State) (st st' : State) (b p p' b' : Bank) (q q' : ℕ) → StaysTogether
    → AgreeTogether b.dims cap b.slots (λ x. buffers_of (old x)) (sent_of b) (got_of b) → r < ranks b.dims → Changes r old new st st'
    → p ≡ b → q ≡ r → Advances cap r st st' p p' q q' → b' ≡ p'
    → (b'.dims ≡ b.dims) × AgreeTogether b'.dims cap b'.slots (λ x. buffers_of (new x)) (sent_of b') (got_of b')
together_advance cap r old new st st' b p p' b' q q' law t h c same same_rank a same' =
    let dims : p'.dims ≡ b.dims = a.port_dims ∙ ap (λ (x : Bank). x.dims) same in
    let slots : p'.slots ≡ b.slots = a.port_slots ∙ ap (λ (x : Bank). x.slots) same in
    let rank : q' ≡ r = a.port_rank ∙ same_rank in
    let rest : others_of r p' ≡ others_of r b = ap (λ n. others_of n p') (sym rank) ∙ (a.rest ∙ (ap (λ n. others_of n p) same_rank ∙ ap (others_of r) same)) in
    let agrees : AgreesWith st' (starting_at b.dims r (sent_of p')) (ending_at b.dims r (got_of p')) =
    subst (λ ds. AgreesWith st' (starting_at ds r (sent_of p')) (ending_at ds r (got_of p'))) dims (subst (λ n. AgreesWith st' (starting_at p'.dims n (sent_of p')) (ending_at p'.dims n (got_of p'))) rank a.agrees) in
    let apart : starting_elsewhere b.dims r (sent_of p') ≡ starting_elsewhere b.dims r (sent_of b) = ap (λ ds. starting_elsewhere ds r (sent_of p')) (sym dims) ∙ ap (λ (x : Others). x.sent) rest in
    let apart' : ending_elsewhere b.dims r (got_of p') ≡ ending_elsewhere b.dims r (got_of b) = ap (λ ds. ending_elsewhere ds r (got_of p')) (sym dims) ∙ ap (λ (x : Others). x.got) rest in
    let keep : (l : ℕ) → l < links b.dims → LinkLaw cap b.slots (sent_of p' l) (got_of p' l) =
    subst (λ ds. (l : ℕ) → l < links ds → LinkLaw cap b.slots (sent_of p' l) (got_of p' l)) dims (subst (λ n. (l : ℕ) → l < links p'.dims → LinkLaw cap n (sent_of p' l) (got_of p' l)) slots a.lawful.each_link) in
    let done : AgreeTogether b.dims cap b.slots (λ x. buffers_of (new x)) (sent_of p') (got_of p') =
    moved_on b.dims cap b.slots r old new st st' (sent_of b) (sent_of p') (got_of b) (got_of p') law t h c a.self_dims a.self_rank a.sound agrees apart apart' keep in
    let at : AgreeTogether p'.dims cap p'.slots (λ x. buffers_of (new x)) (sent_of p') (got_of p') =
    subst (λ ds. AgreeTogether ds cap p'.slots (λ x. buffers_of (new x)) (sent_of p') (got_of p')) (sym dims) (subst (λ n. AgreeTogether b.dims cap n (λ x. buffers_of (new x)) (sent_of p') (got_of p')) (sym slots) done) in
    subst (λ (y : Bank). (y.dims ≡ b.dims) × AgreeTogether y.dims cap y.slots (λ x. buffers_of (new x)) (sent_of y) (got_of y)) (sym same') (dims, at)

-- over a bank on which nothing was done
pub together_start : (dims : List ℕ) (cap slots : ℕ) (b : Bank) (all : ℕ → Buffers) → b ≡ empty_bank dims slots
    → AgreeTogether dims cap slots all (sent_of (empty_bank dims slots)) (got_of (empty_bank dims slots)) → AgreeTogether b.dims cap b.slots all (sent_of b) (got_of b)
together_start dims cap slots b all is t = subst (λ (x : Bank). AgreeTogether x.dims cap x.slots all (sent_of x) (got_of x)) (sym is) t
