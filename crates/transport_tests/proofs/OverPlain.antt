-- The exstacks of all ranks over one plain bank, as their ranks make calls.
use Rattle.std.proofs.Common.{◌≡◌, ◌≢◌, ℕ, ◌+◌, ◌<◌, List, [], ◌∷◌, ◌++◌, length, refl, sym, ap, subst, ◌∙◌}
use Rattle.std.specs.Prelude.{slice_index_or, slice_set}
use Rattle.std.proofs.lemmas.List.{length-append, get_or_default, get_or-set_same, get_or-set_other}
use Rattle.route_tensor.specs.Grid.{ranks, IsGrid}
use Rattle.route_tensor.specs.Link.{links}
use Rattle.port_bank.specs.Logs.{Logs, starting_at, ending_at, starting_elsewhere, ending_elsewhere}
use Rattle.port_bank.specs.Link.{LinkLaw}
use Rattle.port_bank.specs.Port.{Others}
use Rattle.port_bank.specs.Plain.{Bank, IsBank, sent_of, got_of, others_of, empty_bank}
use Rattle.port_bank.proofs.Closing.{empty_links, none_sent, none_got}
use Rattle.exstack.specs.State.{Stack, stack_dims}
use Rattle.exstack.specs.Agreement.{AgreesIn, StackAgrees}
use Rattle.exstack.specs.Standing.{IsStack}
use Rattle.exstack.specs.Law.{StacksAgree, StacksStayTogether}
use Rattle.exstack.proofs.OneHop.{dims_one}
use Rattle.transport_tests.specs.Exstacks.{StackStartsOut}

pub one_more : {X : Type 0} (xs ys : List X) (x : X) (n : ℕ) → ys ≡ xs ++ x ∷ [] → length xs ≡ n → length ys ≡ n + 1
one_more xs ys x n is all = ap length is ∙ (length-append xs (x ∷ []) ∙ ap (λ k. k + 1) all)

pub together_first : (dims : List ℕ) (cap slots : ℕ) (all : ℕ → Stack) → IsGrid dims → length dims ≡ 1 → ((r : ℕ) → r < ranks dims → StackStartsOut cap dims r (all r))
    → StacksAgree (ranks dims) cap slots all (sent_of (empty_bank dims slots)) (got_of (empty_bank dims slots))
together_first dims cap slots all g one each = record {
  few = g.small;
  links_keep = λ l h. empty_links cap slots dims l;
  same_ranks = λ r h. (each r h).same_ranks;
  same_rank = λ r h. (each r h).same_rank;
  standing = λ r h. (each r h).standing;
  agree = λ r h.
      let sent : ◌≡◌ {A = Logs} (starting_at dims r (sent_of (empty_bank dims slots))) (λ l. []) = λ i l. none_sent dims slots r l i in
      let got : ◌≡◌ {A = Logs} (ending_at dims r (got_of (empty_bank dims slots))) (λ l. []) = λ i l. none_got dims slots r l i in
      record {
        cycle = 0;
        agrees =
            subst (λ (ds : List ℕ). AgreesIn 0 (all r) (starting_at ds r (sent_of (empty_bank dims slots))) (ending_at ds r (got_of (empty_bank dims slots)))) (sym (dims_one dims one))
            (subst (λ (f : Logs). AgreesIn 0 (all r) f (ending_at dims r (got_of (empty_bank dims slots)))) (sym sent) (subst (λ (f : Logs). AgreesIn 0 (all r) (λ l. []) f) (sym got) (each r h).agrees));
      };
}

-- a call on one of them: its state was st and is st', and the others stay
pub record Changes (r : ℕ) (old new : ℕ → Stack) (st st' : Stack) : Type 0 where
  pub was : st ≡ old r
  pub now : new r ≡ st'
  pub others : (q : ℕ) → q ≢ r → new q ≡ old q

pub changes : {X : Type 0} (state : X → Stack) (xs : List X) (r : ℕ) (x y d : X) → r < length xs → x ≡ slice_index_or xs r x
    → Changes r (λ q. state (slice_index_or xs q d)) (λ q. state (slice_index_or (slice_set xs r y) q d)) (state x) (state y)
changes state xs r x y d h read = record {
  was = ap state (read ∙ get_or_default xs r x d h);
  now = ap state (get_or-set_same xs r y d h);
  others = λ q apart. ap state (get_or-set_other xs r q y d apart);
}

-- one rank makes a call without its port
pub together_local : (n cap slots r : ℕ) (old new : ℕ → Stack) (st st' : Stack) (sent got : Logs) → StacksStayTogether
    → StacksAgree n cap slots old sent got → r < n → Changes r old new st st'
    → st'.ranks ≡ st.ranks → st'.rank ≡ st.rank → ((sent got : Logs) → StackAgrees st sent got → StackAgrees st' sent got) → IsStack cap st'
    → StacksAgree n cap slots new sent got
together_local n cap slots r old new st st' sent got law t h c same_ranks same_rank kept standing =
    law n cap slots r old new sent sent got got t (record {
      rank = h;
      others = λ q k apart. c.others q apart;
      sent_elsewhere = refl;
      got_elsewhere = refl;
      links_keep = t.links_keep;
      same_ranks = ap (λ (x : Stack). x.ranks) c.now ∙ (same_ranks ∙ (ap (λ (x : Stack). x.ranks) c.was ∙ t.same_ranks r h));
      same_rank = ap (λ (x : Stack). x.rank) c.now ∙ (same_rank ∙ (ap (λ (x : Stack). x.rank) c.was ∙ t.same_rank r h));
      standing = subst (IsStack cap) (sym c.now) standing;
      agrees = subst (λ x. StackAgrees x (starting_at (n ∷ []) r sent) (ending_at (n ∷ []) r got)) (sym c.now)
          (kept (starting_at (n ∷ []) r sent) (ending_at (n ∷ []) r got) (subst (λ x. StackAgrees x (starting_at (n ∷ []) r sent) (ending_at (n ∷ []) r got)) (sym c.was) (t.agree r h)));
    })

-- what a poll wants of its rank's port
pub record WantsPort (st : Stack) (p : Bank) (q : ℕ) : Type 0 where
  pub same_dims : p.dims ≡ stack_dims st
  pub same_rank : q ≡ st.rank
  pub agrees : StackAgrees st (starting_at p.dims q (sent_of p)) (ending_at p.dims q (got_of p))

pub together_port : (n cap r : ℕ) (old : ℕ → Stack) (st : Stack) (b p : Bank) (r' : ℕ) → b.dims ≡ n ∷ [] → StacksAgree n cap b.slots old (sent_of b) (got_of b) → r < n
    → st ≡ old r → p ≡ b → r' ≡ r → WantsPort st p r'
together_port n cap r old st b p r' dims t h was same same_rank =
    let base : WantsPort (old r) b r = record {
      same_dims = dims ∙ ap (λ m. m ∷ []) (sym (t.same_ranks r h));
      same_rank = sym (t.same_rank r h);
      agrees = subst (λ (ds : List ℕ). StackAgrees (old r) (starting_at ds r (sent_of b)) (ending_at ds r (got_of b))) (sym dims) (t.agree r h);
    } in
    subst (λ x. WantsPort x p r') (sym was) (subst (λ y. WantsPort (old r) y r') (sym same) (subst (λ q. WantsPort (old r) b q) (sym same_rank) base))

-- what a poll leaves of a rank and its port
pub record Polls (cap : ℕ) (st st' : Stack) (p p' : Bank) (q q' : ℕ) : Type 0 where
  pub agrees : StackAgrees st' (starting_at p'.dims q' (sent_of p')) (ending_at p'.dims q' (got_of p'))
  pub standing : IsStack cap st'
  pub self_ranks : st'.ranks ≡ st.ranks
  pub self_rank : st'.rank ≡ st.rank
  pub port_dims : p'.dims ≡ p.dims
  pub port_rank : q' ≡ q
  pub port_slots : p'.slots ≡ p.slots
  pub rest : others_of q' p' ≡ others_of q p
  pub lawful : IsBank cap p'

-- one rank polls over its port of the bank
pub together_poll : (n cap r : ℕ) (old new : ℕ → Stack) (st st' : Stack) (b p p' b' : Bank) (q q' : ℕ) → StacksStayTogether → b.dims ≡ n ∷ []
    → StacksAgree n cap b.slots old (sent_of b) (got_of b) → r < n → Changes r old new st st'
    → p ≡ b → q ≡ r → Polls cap st st' p p' q q' → b' ≡ p'
    → (b'.dims ≡ b.dims) × StacksAgree n cap b'.slots new (sent_of b') (got_of b')
together_poll n cap r old new st st' b p p' b' q q' law dims t h c same same_rank a same' =
    let same_dims : p'.dims ≡ b.dims = a.port_dims ∙ ap (λ (x : Bank). x.dims) same in
    let one : p'.dims ≡ n ∷ [] = same_dims ∙ dims in
    let slots : p'.slots ≡ b.slots = a.port_slots ∙ ap (λ (x : Bank). x.slots) same in
    let rank : q' ≡ r = a.port_rank ∙ same_rank in
    let rest : others_of r p' ≡ others_of r b = ap (λ m. others_of m p') (sym rank) ∙ (a.rest ∙ (ap (λ m. others_of m p) same_rank ∙ ap (others_of r) same)) in
    let agrees : StackAgrees st' (starting_at (n ∷ []) r (sent_of p')) (ending_at (n ∷ []) r (got_of p')) =
    subst (λ (ds : List ℕ). StackAgrees st' (starting_at ds r (sent_of p')) (ending_at ds r (got_of p'))) one (subst (λ m. StackAgrees st' (starting_at p'.dims m (sent_of p')) (ending_at p'.dims m (got_of p'))) rank a.agrees) in
    let apart : starting_elsewhere (n ∷ []) r (sent_of p') ≡ starting_elsewhere (n ∷ []) r (sent_of b) =
    ap (λ (ds : List ℕ). starting_elsewhere ds r (sent_of p')) (sym one) ∙ (ap (λ (x : Others). x.sent) rest ∙ ap (λ (ds : List ℕ). starting_elsewhere ds r (sent_of b)) dims) in
    let apart' : ending_elsewhere (n ∷ []) r (got_of p') ≡ ending_elsewhere (n ∷ []) r (got_of b) =
    ap (λ (ds : List ℕ). ending_elsewhere ds r (got_of p')) (sym one) ∙ (ap (λ (x : Others). x.got) rest ∙ ap (λ (ds : List ℕ). ending_elsewhere ds r (got_of b)) dims) in
    let keep : (l : ℕ) → l < links (n ∷ []) → LinkLaw cap b.slots (sent_of p' l) (got_of p' l) =
    subst (λ (ds : List ℕ). (l : ℕ) → l < links ds → LinkLaw cap b.slots (sent_of p' l) (got_of p' l)) one (subst (λ m. (l : ℕ) → l < links p'.dims → LinkLaw cap m (sent_of p' l) (got_of p' l)) slots a.lawful.each_link) in
    let done : StacksAgree n cap b.slots new (sent_of p') (got_of p') =
    law n cap b.slots r old new (sent_of b) (sent_of p') (got_of b) (got_of p') t (record {
      rank = h;
      others = λ q k far. c.others q far;
      sent_elsewhere = apart;
      got_elsewhere = apart';
      links_keep = keep;
      same_ranks = ap (λ (x : Stack). x.ranks) c.now ∙ (a.self_ranks ∙ (ap (λ (x : Stack). x.ranks) c.was ∙ t.same_ranks r h));
      same_rank = ap (λ (x : Stack). x.rank) c.now ∙ (a.self_rank ∙ (ap (λ (x : Stack). x.rank) c.was ∙ t.same_rank r h));
      standing = subst (IsStack cap) (sym c.now) a.standing;
      agrees = subst (λ x. StackAgrees x (starting_at (n ∷ []) r (sent_of p')) (ending_at (n ∷ []) r (got_of p'))) (sym c.now) agrees;
    }) in
    subst (λ (y : Bank). (y.dims ≡ b.dims) × StacksAgree n cap y.slots new (sent_of y) (got_of y)) (sym same') (same_dims, subst (λ m. StacksAgree n cap m new (sent_of p') (got_of p')) (sym slots) done)

-- over a bank on which nothing was done
pub together_start : (dims : List ℕ) (cap slots n : ℕ) (b : Bank) (all : ℕ → Stack) → b ≡ empty_bank dims slots → n ≡ ranks dims
    → StacksAgree (ranks dims) cap slots all (sent_of (empty_bank dims slots)) (got_of (empty_bank dims slots)) → StacksAgree n cap b.slots all (sent_of b) (got_of b)
together_start dims cap slots n b all is count t = subst (λ (x : Bank). StacksAgree n cap x.slots all (sent_of x) (got_of x)) (sym is) (subst (λ m. StacksAgree m cap slots all (sent_of (empty_bank dims slots)) (got_of (empty_bank dims slots))) (sym count) t)
