-- The canonical run: it ends, and leaves each vertex the least number of its component.
use Rattle.std.proofs.Common.{ℕ, zero, suc, ◌+◌, ◌-◌, ◌*◌, ◌%◌, ◌^◌, ◌<◌, ◌≤◌, ◌≡◌, ◌==◌, ◌⊎◌, min, true, List, [], ◌∷◌, Some, length, get_or, slice_get, All, arith, inl, inr, refl, sym, ap, ◌∙◌, subst}
use Rattle.std.specs.Prelude.{Contains}
use Rattle.std.specs.List.{range_with_len}
use Rattle.std.proofs.Math.Nat.{mod-lt}
use Rattle.std.proofs.lemmas.Bool.{cases_lt, eq-eqb}
use Rattle.std.proofs.lemmas.List.{get_or_past}
use Rattle.std.proofs.lemmas.List.Elements.{All-contains}
use Rattle.std.proofs.lemmas.List.FromFn.{length-range_with_len, get_or-range_with_len}
use Rattle.list_laws.proofs.Lists.{find, get_once}
use Rattle.mtx_text.specs.Sparse.{Sparse, IsSparse}
use Rattle.round_program.specs.Canonical.{states_at, votes_at, EndsWithin, HaveEnded, InRound}
use Rattle.round_program.proofs.Members.{in_round_at}
use Rattle.reductions.specs.Answers.{owned_values}
use Rattle.reductions.proofs.Answers.{owned_len, each_owned, ends_len, ends_keys}
use Rattle.reductions.proofs.CellRuns.{calm_at, least_ends, total_low}
use Rattle.reductions.proofs.Ends.{last_round}
use Rattle.reductions.proofs.Links.{Sends, Settled, all_settled}
use Rattle.reductions.proofs.Lists.{unfiltered}
use Rattle.reductions.proofs.Starts.{made_from}
use Rattle.components.specs.declared.labels.Link.{Link}
use Rattle.components.specs.Connected.{links_of_entries, IsPath, Connected, IsLeastLabel, AreComponents}
use Rattle.components.specs.LabelRules.{LabelState, label_rules, most_label_rounds}
use Rattle.components.specs.laws.LabelLaws.{label_laws}
use Rattle.components.specs.Starts.{own_links, label_begins, label_starts}
use Rattle.components.proofs.Rounds.{Stage, at, has_labels, label_offers, label_links, begins_sends, own_contained, size, to_owners, next_stage}
use Rattle.components.proofs.Starts.{starts_in_round}

-- ---- As it begins

number_at : (n v : ℕ) → v < n → get_or (range_with_len 0 n) v 0 ≡ v
number_at n v low = get_or-range_with_len 0 n v 0 low ∙ (let e : 0 + v ≡ v = omega arith in e)

number_low : (n v : ℕ) → get_or (range_with_len 0 n) v 0 ≤ v
number_low n v = elim (cases_lt v n) [
  | inl low ↦ (let e : get_or (range_with_len 0 n) v 0 ≡ v = number_at n v low in omega arith)
  | inr past ↦ subst (λ k. k ≤ v) (sym (get_or_past (range_with_len 0 n) v 0 (let len : length (range_with_len 0 n) ≡ n = length-range_with_len 0 n in omega arith))) (omega arith)
]

first_stage : (m : Sparse) (ranks : ℕ) → Stage m ranks (label_starts ranks m)
first_stage m ranks =
    record {
      own = λ r s here. (let made = made_from (label_begins ranks m) ranks r s here in subst (λ w. w.links ≡ own_links ranks r m.entries) made.1 refl);
      sent = λ r s here. (let made = made_from (label_begins ranks m) ranks r s here in subst (λ w. All (Contains (links_of_entries m.entries)) w.active) made.1 (own_contained m.entries ranks r));
      connected = λ r s here.
          let made = made_from (label_begins ranks m) ranks r s here in
          subst (λ w. (v : ℕ) → v < m.rows → Connected m.entries (at w v) v) made.1
          (λ v low. subst (λ n. Connected m.entries n v) (sym (number_at m.rows v low)) ([], refl));
      low = λ r s here. (let made = made_from (label_begins ranks m) ranks r s here in subst (λ w. (v : ℕ) → at w v ≤ v) made.1 (λ v. number_low m.rows v));
    }

-- ---- The rounds

module _ (m : Sparse) (ranks : ℕ) (some : 1 ≤ ranks) (few : ranks ≤ 64) (sparse : IsSparse m) (square : m.cols ≡ m.rows) where
  abbrev now : ℕ → List LabelState
  now n = states_at label_rules (label_starts ranks m) n

  first_calm : (r : ℕ) (s : LabelState) → slice_get (label_starts ranks m) r ≡ Some s → s.labels.before ≡ s.labels.cells
  first_calm r s here = subst (λ w. w.labels.before ≡ w.labels.cells) (made_from (label_begins ranks m) ranks r s here).1 refl

  in_round : (n : ℕ) → InRound label_rules ranks (min n (2 ^ 64 - 1)) (m.rows ∷ []) most_label_rounds (now n)
  in_round n = in_round_at label_rules label_laws ranks (m.rows ∷ []) most_label_rounds (label_starts ranks m) n (starts_in_round ranks m few sparse square)

  calm : (n r : ℕ) (s : LabelState) → slice_get (now n) r ≡ Some s → s.labels.before ≡ s.labels.cells
  calm = calm_at has_labels (λ s. refl) (label_starts ranks m) first_calm

  stage_at : (n : ℕ) → Stage m ranks (now n)
  stage_at zero = first_stage m ranks
  stage_at (suc n) = next_stage (in_round n) (calm n) (stage_at n)

  pub run_ends : EndsWithin label_rules (label_starts ranks m) most_label_rounds
  run_ends =
      let all : InRound label_rules ranks 0 (m.rows ∷ []) most_label_rounds (label_starts ranks m) = starts_in_round ranks m few sparse square in
      let count : length (label_starts ranks m) ≡ ranks = all.size in
      least_ends has_labels (λ s. refl) (label_starts ranks m) first_calm (λ shape round votes. refl) (64 * 16_384 * 16_384)
      (total_low has_labels (λ s. refl) (label_starts ranks m) first_calm 64 16_384 16_384 (omega arith) (λ r s here.
      let v = (all.each r s here).valid in
      let long : length s.labels.cells ≤ 16384 = v.vertices in
      (long, λ k d low. (let a : get_or s.labels.cells k d < length s.labels.cells = v.low k d low in omega arith))))

  -- ---- At the end

  module _ (n : ℕ) (none : votes_at label_rules (label_starts ranks m) n ≡ 0) where
    -- a link's end has no greater label than its beginning
    settled : (r : ℕ) (t : LabelState) → slice_get (now (suc n)) r ≡ Some t → All (λ l. (u : LabelState) → slice_get (now (suc n)) (l.to % ranks) ≡ Some u → at u l.to ≤ at t l.from) t.links
    settled =
        all_settled has_labels label_links (λ s. refl) (label_starts ranks m) first_calm (λ v. v % ranks)
        (λ n v. to_owners (in_round n) (calm n) (stage_at n) v) (λ n r s here. ((in_round n).each r s here).own_rank)
        (λ n r s here k d low t there.
        subst (λ c. (get_or s.links k d).to < c) (size (in_round n) (calm n) (stage_at n) r s here ∙ sym (size (in_round n) (calm n) (stage_at n) ((get_or s.links k d).to % ranks) t there))
        (((in_round n).each r s here).valid.linked k d low).to)
        (λ r s here.
        subst (λ w. All (λ l. Sends label_rules (λ x. x.a) (λ x. x.b) (λ s. s.labels) (λ s. s.links) label_offers w l
        ⊎ Settled label_rules (λ x. x.a) (λ x. x.b) (λ s. s.labels) (λ s. s.links) label_offers (λ v. v % ranks) (label_starts ranks m) w l) w.links) (made_from (label_begins ranks m) ranks r s here).1
        (λ k d low. inl (begins_sends ranks m r k d low)))
        n none

    -- the label of a link's end is not above that of its beginning
    not_above : (l : Link) (s t : LabelState) → Contains (links_of_entries m.entries) l → slice_get (now (suc n)) (l.from % ranks) ≡ Some s → slice_get (now (suc n)) (l.to % ranks) ≡ Some t → at t l.to ≤ at s l.from
    not_above l s t has from to =
        let P : Link → Type 0 = λ k. (u : LabelState) → slice_get (now (suc n)) (k.to % ranks) ≡ Some u → at u k.to ≤ at s k.from in
        let own : All P (own_links ranks (l.from % ranks) m.entries) = subst (All P) ((stage_at (suc n)).own (l.from % ranks) s from) (settled (l.from % ranks) s from) in
        All-contains (λ k. (k.from % ranks == l.from % ranks) ≡ true → P k) (links_of_entries m.entries) l
        (unfiltered P (λ k. k.from % ranks == l.from % ranks) (links_of_entries m.entries) own) has (eq-eqb (l.from % ranks) (l.from % ranks) refl) t to

    owner : (v : ℕ) → (s : LabelState) × (slice_get (now (suc n)) (v % ranks) ≡ Some s)
    owner v = find (now (suc n)) (v % ranks) (subst (λ k. v % ranks < k) (sym (in_round (suc n)).size) (mod-lt v some))

    along : (u v : ℕ) (way : List Link) (s t : LabelState) → IsPath m.entries u v way → slice_get (now (suc n)) (u % ranks) ≡ Some s → slice_get (now (suc n)) (v % ranks) ≡ Some t → at t v ≤ at s u
    along u v [] s t same from to =
        subst (λ w. at t v ≤ at w u) (get_once (now (suc n)) (v % ranks) t s to (subst (λ k. slice_get (now (suc n)) (k % ranks) ≡ Some s) same from)) (subst (λ k. at t v ≤ at t k) (sym same) (omega arith))
    along u v (l ∷ way) s t w from to =
        let mid = owner l.to in
        let a : at mid.0 l.to ≤ at s l.from = not_above l s mid.0 w.0 (subst (λ k. slice_get (now (suc n)) (k % ranks) ≡ Some s) (sym w.1) from) mid.1 in
        let b : at t v ≤ at mid.0 l.to = along l.to v way mid.0 t w.2 mid.1 to in
        let c : at s l.from ≡ at s u = ap (at s) w.1 in
        omega arith

    least_at : (v : ℕ) (t : LabelState) → v < m.rows → slice_get (now (suc n)) (v % ranks) ≡ Some t → IsLeastLabel m.entries v (at t v)
    least_at v t low here =
        record {
          connected = (stage_at (suc n)).connected (v % ranks) t here v low;
          least = λ u c.
              let s = owner u in
              let a : at t v ≤ at s.0 u = along u v c.0 s.0 t c.1 s.1 here in
              let b : at s.0 u ≤ u = (stage_at (suc n)).low (u % ranks) s.0 s.1 u in
              omega arith;
        }

  -- What all ranks have at the end.
  pub record Ended (ends : List LabelState) : Type 0 where
    pub there : 0 < length ends
    pub keys : All (λ s. m.rows ≤ length s.labels.cells) ends
    pub answer : AreComponents m (owned_values (λ s. s.labels) ends m.rows)

  pub ended : (ends : List LabelState) → HaveEnded label_rules (label_starts ranks m) ends → Ended ends
  ended ends h =
      let begin : InRound label_rules ranks 0 (m.rows ∷ []) most_label_rounds (label_starts ranks m) = starts_in_round ranks m few sparse square in
      let many : length ends ≡ ranks = ends_len label_rules label_laws (λ s. s.labels) (λ s. refl) ranks m.rows most_label_rounds (label_starts ranks m) begin ends h in
      let there : 0 < length ends = omega arith in
      let o = last_round label_rules (label_starts ranks m) (λ shape round votes. refl) h.rounds h.has_rounds in
      record {
        there = there;
        keys = ends_keys label_rules label_laws (λ s. s.labels) (λ s. refl) ranks m.rows most_label_rounds (label_starts ranks m) begin ends h;
        answer =
            record {
              each = owned_len (λ s. s.labels) ends m.rows;
              least =
                  each_owned (λ s. s.labels) ends m.rows (IsLeastLabel m.entries) there
                  (λ v s low here. least_at o.last o.no_votes v s low
                  (subst (λ k. slice_get (now k) (v % ranks) ≡ Some s) o.is
                  (subst (λ ss. slice_get ss (v % ranks) ≡ Some s) h.states (subst (λ n. slice_get ends (v % n) ≡ Some s) many here))));
            };
      }
