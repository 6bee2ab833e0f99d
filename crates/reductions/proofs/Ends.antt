-- When a run ends.
use Rattle.std.proofs.Common.{ℕ, zero, suc, ◌+◌, ◌-◌, ◌<◌, ◌≤◌, ◌≡◌, ◌==◌, not, Bool, true, false, List, Some, get_or, slice_get, sum_by, arith, inl, inr, sym, ap, ◌∙◌, subst}
use Rattle.std.proofs.lemmas.Bool.{cases_Bool, cases_eq, eq-eqb, ne_eqb, false≢true}
use Rattle.std.proofs.lemmas.List.Sums.{get_or-le-sum_by}
use Rattle.std.proofs.lemmas.Option.{get_or_from_slice_get}
use Rattle.list_laws.proofs.Lists.{within}
use Rattle.round_program.specs.Rules.{Rules}
use Rattle.round_program.specs.Canonical.{HasRounds, votes_at, vote_sum, shape_of, EndsWithin}

-- ---- The first number that fails a test

pub record First (p : ℕ → Bool) (most : ℕ) : Type 0 where
  pub at : ℕ
  pub fails : p at ≡ false
  pub before : (k : ℕ) → k < at → p k ≡ true
  pub soon : at ≤ most

now : (p : ℕ → Bool) (most : ℕ) → p 0 ≡ false → First p most
now p most fails = record { at = 0; fails = fails; before = λ k l. absurd (omega arith); soon = omega arith }

later : (p : ℕ → Bool) (most : ℕ) → p 0 ≡ true → First (λ n. p (suc n)) most → First p (suc most)
later p most passes next =
    record { at = suc next.at; fails = next.fails; before = before; soon = (let l : next.at ≤ most = next.soon in omega arith) }
  where
    before : (k : ℕ) → k < suc next.at → p k ≡ true
    before zero l = passes
    before (suc k) l = next.before k (omega arith)

-- some number fails it
pub first_failing : (p : ℕ → Bool) (k : ℕ) → p k ≡ false → First p k
first_failing p zero fails = now p 0 fails
first_failing p (suc k) fails = elim (cases_Bool (p 0)) [
  | inl t ↦ later p k t (first_failing (λ n. p (suc n)) k fails)
  | inr f ↦ now p (suc k) f
]

-- a number falls where it passes
pub first_fallen : (p : ℕ → Bool) (measure : ℕ → ℕ) (most : ℕ) → ((n : ℕ) → p n ≡ true → measure (suc n) < measure n) → measure 0 ≤ most → First p most
first_fallen p measure zero falls low = elim (cases_Bool (p 0)) [
  | inl t ↦ absurd (let fall : measure 1 < measure 0 = falls 0 t in omega arith)
  | inr f ↦ now p 0 f
]
first_fallen p measure (suc most) falls low = elim (cases_Bool (p 0)) [
  | inl t ↦
      let fall : measure 1 < measure 0 = falls 0 t in
      later p most t (first_fallen (λ n. p (suc n)) (λ n. measure (suc n)) most (λ n. falls (suc n)) (omega arith))
  | inr f ↦ now p (suc most) f
]

-- ---- The run ends

module _ {S : Type 0} (R : Rules S) (starts : List S) where
  -- whether a round follows round n
  abbrev pub follows : ℕ → Bool
  follows n = R.goes_on (shape_of R starts) n (votes_at R starts n)

  ends_at : (most : ℕ) → First follows most → EndsWithin R starts (most + 1)
  ends_at most last =
      record {
        rounds = last.at + 1;
        has_rounds =
            record {
              some = omega arith;
              goes = λ k l. last.before k (omega arith);
              stops = ap follows (let back : last.at + 1 - 1 ≡ last.at = omega arith in back) ∙ last.fails;
            };
        at_most = (let l : last.at ≤ most = last.soon in omega arith);
      }

  -- where none follows round `last`, there are at most last + 1 rounds
  pub ends_by : (last : ℕ) → follows last ≡ false → EndsWithin R starts (last + 1)
  ends_by last none = ends_at last (first_failing follows last none)

  -- where a number falls with each round that another follows, there is at most one round more than
  -- it counts at first
  pub ends_falling : (measure : ℕ → ℕ) (most : ℕ) → ((n : ℕ) → follows n ≡ true → measure (suc n) < measure n) → measure 0 ≤ most → EndsWithin R starts (most + 1)
  ends_falling measure most falls low = ends_at most (first_fallen follows measure most falls low)

  -- ---- Programs that go on while there are votes

  module _ (goes : (shape : List ℕ) (round votes : ℕ) → R.goes_on shape round votes ≡ not (votes == 0)) where
    -- where a number falls by the votes
    pub ends_by_votes : (measure : ℕ → ℕ) (most : ℕ) → ((n : ℕ) → measure (suc n) + votes_at R starts n ≤ measure n) → measure 0 ≤ most → EndsWithin R starts (most + 1)
    ends_by_votes measure most falls low =
        ends_falling measure most (λ n on. elim (cases_eq (votes_at R starts n) 0) [
          | inl none ↦ absurd (false≢true (sym (goes (shape_of R starts) n (votes_at R starts n) ∙ ap not (eq-eqb (votes_at R starts n) 0 none)) ∙ on))
          | inr some ↦ (let f : measure (suc n) + votes_at R starts n ≤ measure n = falls n in omega (arith, some, f))
        ]) low

    -- the last round has none
    pub record LastRound (rounds : ℕ) : Type 0 where
      pub last : ℕ
      pub is : rounds ≡ suc last
      pub no_votes : votes_at R starts last ≡ 0

    pub last_round : (rounds : ℕ) → HasRounds R starts rounds → LastRound rounds
    last_round rounds h =
        record {
          last = rounds - 1;
          is = (let s : 0 < rounds = h.some in omega arith);
          no_votes = elim (cases_eq (votes_at R starts (rounds - 1)) 0) [
            | inl z ↦ z
            | inr d ↦
                absurd (false≢true (sym (sym (goes (shape_of R starts) (rounds - 1) (votes_at R starts (rounds - 1))) ∙ h.stops)
                ∙ ap not (ne_eqb (votes_at R starts (rounds - 1)) 0 d)))
          ];
        }

-- where there are no votes, no rank votes
pub no_vote : {S : Type 0} (R : Rules S) (ss : List S) (r : ℕ) (s : S) → vote_sum R ss ≡ 0 → slice_get ss r ≡ Some s → R.vote s ≡ 0
no_vote R ss r s none here =
    let one : R.vote (get_or ss r s) ≤ sum_by R.vote ss = get_or-le-sum_by R.vote ss r s (within ss r s here) in
    let mine : R.vote s ≤ sum_by R.vote ss = subst (λ t. R.vote t ≤ sum_by R.vote ss) (get_or_from_slice_get ss r s s here) one in
    omega (arith, none, mine)
