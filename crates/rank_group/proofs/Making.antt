-- The ranks of a drive are made, and taken apart.
use Rattle.std.proofs.Common.{◌≡◌, ℕ, ◌+◌, false, List, [], ◌∷◌, ◌++◌, length, length-append, drop, slice_get, Some, None, refl, sym, ap, subst, ◌∙◌, arith, inl, inr}
use Rattle.std.proofs.lemmas.Bool.{cases_lt}
use Rattle.std.proofs.lemmas.List.{map-append, length-map, append-nil}
use Rattle.list_laws.proofs.Lists.{within, get_once, get_last, get_before}
use Rattle.round_program.specs.Rules.{Rules}
use Rattle.round_program.specs.Canonical.{InRound}
use Rattle.rank_node.specs.Movers.{Manner}
use Rattle.rank_node.specs.Nodes.{NodeState, IsNewNode}
use Rattle.rank_group.specs.Ranks.{RankState}
use Rattle.rank_group.specs.Drives.{progs_of, IsFreshRank, AreFresh}

-- ranks for the programs so far
pub record Making {S : Type 0} (R : Rules S) (dims : List ℕ) (cap : ℕ) (manner : Manner) (starts rest : List S) (rs : List (RankState S)) : Type 0 where
  pub left : starts ≡ progs_of rs ++ rest
  pub each : (r : ℕ) (n : RankState S) → slice_get rs r ≡ Some n → IsFreshRank R dims cap manner r n

pub making_none : {S : Type 0} (R : Rules S) (dims : List ℕ) (cap : ℕ) (manner : Manner) (starts : List S) → Making R dims cap manner starts starts []
making_none R dims cap manner starts = record { left = refl; each = λ r n at. absurd (omega (arith, within [] r n at)) }

pub at_end : {X : Type 0} (xs ys : List X) (q : X) → slice_get (xs ++ q ∷ ys) (length xs) ≡ Some q
at_end [] ys q = refl
at_end (x ∷ xs) ys q = at_end xs ys q

pub shift : {X : Type 0} (xs ys : List X) (q : X) → (xs ++ q ∷ []) ++ ys ≡ xs ++ q ∷ ys
shift [] ys q = refl
shift (x ∷ xs) ys q = ap (λ zs. x ∷ zs) (shift xs ys q)

pub first_of : {X : Type 0} (xs : List X) (q : X) → slice_get xs 0 ≡ Some q → xs ≡ q ∷ drop 1 xs
first_of [] q at = absurd (omega (arith, within [] 0 q at))
first_of (x ∷ xs) q at = ap (λ y. y ∷ xs) (get_once (x ∷ xs) 0 x q refl at)

pub none_of : {X : Type 0} (xs : List X) → slice_get xs 0 ≡ None → xs ≡ []
none_of [] e = refl
none_of (x ∷ xs) e = absurd (cc)

module _ {S : Type 0} (R : Rules S) (dims : List ℕ) (cap : ℕ) (manner : Manner) (starts rest : List S) (rs : List (RankState S)) (f : Making R dims cap manner starts rest rs) where
  -- the next program is that of the next rank
  pub next_prog : (q : S) → slice_get rest 0 ≡ Some q → slice_get starts (length rs) ≡ Some q
  next_prog q at =
      ap (λ xs. slice_get xs (length rs)) (f.left ∙ ap (λ ys. progs_of rs ++ ys) (first_of rest q at))
      ∙ (ap (slice_get (progs_of rs ++ q ∷ drop 1 rest)) (sym (length-map rs (λ (n : RankState S). n.node.run.prog))) ∙ at_end (progs_of rs) (drop 1 rest) q)

  pub making_more : (p : ℕ) (shape : List ℕ) (most : ℕ) (rest' : List S) (rs' : List (RankState S)) (q : S) (n : NodeState S) → InRound R p 0 shape most starts → slice_get rest 0 ≡ Some q → rest' ≡ drop 1 rest
      → rs' ≡ rs ++ record { node = n; over = false } ∷ [] → IsNewNode R cap dims manner q n → Making R dims cap manner starts rest' rs'
  making_more p shape most rest' rs' q n all at gone more new =
      let x : RankState S = record { node = n; over = false } in
      let made : IsFreshRank R dims cap manner (length rs) x = record {
        on = refl;
        own_rank = ap R.rank new.prog ∙ (all.each (length rs) q (next_prog q at)).own_rank;
        new = subst (λ (s : S). IsNewNode R cap dims manner s n) (sym new.prog) new;
      } in
      let size : length (rs ++ x ∷ []) ≡ length rs + 1 = length-append rs (x ∷ []) in
      record {
        left = f.left ∙ (ap (λ ys. progs_of rs ++ ys) (first_of rest q at) ∙ (sym (shift (progs_of rs) (drop 1 rest) q)
            ∙ (ap (λ s. (progs_of rs ++ s ∷ []) ++ drop 1 rest) (sym new.prog) ∙ (ap (λ ps. ps ++ drop 1 rest) (sym (map-append (λ (m : RankState S). m.node.run.prog) rs (x ∷ []))) ∙ (ap (λ ys. progs_of ys ++ drop 1 rest) (sym more) ∙ ap (λ ys. progs_of rs' ++ ys) (sym gone))))));
        each = λ r m now. elim (cases_lt r (length rs)) [
          | inl below ↦ f.each r m (sym (get_before rs (x ∷ []) r below) ∙ (ap (λ ns. slice_get ns r) (sym more) ∙ now))
          | inr past ↦
              let same : r ≡ length rs = omega (arith, past, within rs' r m now, ap length more, size) in
              let is : x ≡ m = get_once (rs ++ x ∷ []) (length rs) x m (get_last rs x) (ap (λ ns. slice_get ns (length rs)) (sym more) ∙ subst (λ i. slice_get rs' i ≡ Some m) same now) in
              subst (λ i. IsFreshRank R dims cap manner i m) (sym same) (subst (λ y. IsFreshRank R dims cap manner (length rs) y) is made)
        ];
      }

  pub making_all : slice_get rest 0 ≡ None → AreFresh R dims cap manner starts rs
  making_all none = record { programs = sym (f.left ∙ (ap (λ ys. progs_of rs ++ ys) (none_of rest none) ∙ append-nil (progs_of rs))); each = f.each }

-- the programs so far, and those of the ranks that are left
pub taken_more : {S : Type 0} (all now rest : List (RankState S)) (progs progs' : List S) (n : RankState S) (q : S) → progs ++ progs_of now ≡ progs_of all → now ≡ n ∷ rest → progs' ≡ progs ++ q ∷ [] → q ≡ n.node.run.prog
    → progs' ++ progs_of rest ≡ progs_of all
taken_more all now rest progs progs' n q left is more same =
    ap (λ ps. ps ++ progs_of rest) more ∙ (shift progs (progs_of rest) q ∙ (ap (λ s. progs ++ s ∷ progs_of rest) same ∙ (ap (λ ns. progs ++ progs_of ns) (sym is) ∙ left)))

pub taken_all : {S : Type 0} (all now : List (RankState S)) (progs : List S) → progs ++ progs_of now ≡ progs_of all → now ≡ [] → progs ≡ progs_of all
taken_all all now progs left none = sym (append-nil progs) ∙ (ap (λ ns. progs ++ progs_of ns) (sym none) ∙ left)
