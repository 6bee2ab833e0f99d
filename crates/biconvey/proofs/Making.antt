-- The ranks of an exchange are made, and taken apart.
use Rattle.std.proofs.Common.{◌≡◌, ℕ, ◌+◌, Bool, List, [], ◌∷◌, ◌++◌, length, length-append, drop, slice_get, Some, None, refl, sym, ap, subst, ◌∙◌, arith, inl, inr}
use Rattle.std.proofs.lemmas.Bool.{cases_lt}
use Rattle.std.proofs.lemmas.List.{map-append, length-map, append-nil}
use Rattle.list_laws.proofs.Lists.{within, get_once, get_last, get_before}
use Rattle.round_program.specs.Talks.{Talk}
use Rattle.rank_group.proofs.Making.{at_end, shift, first_of, none_of}
use Rattle.query_node.specs.States.{BiState, IsNewBiNode}
use Rattle.biconvey.specs.Drives.{AreAskers, IsFreshBiRank, AreFreshBiRanks, askers_of}

-- ranks for the askers so far
pub record Making {S : Type 0} (T : Talk S) (dims : List ℕ) (steady : Bool) (starts rest : List S) (ns : List (BiState S)) : Type 0 where
  pub left : starts ≡ askers_of ns ++ rest
  pub each : (r : ℕ) (n : BiState S) → slice_get ns r ≡ Some n → IsFreshBiRank T dims steady r n

module _ {S : Type 0} (T : Talk S) (dims : List ℕ) (steady : Bool) (starts rest : List S) (ns : List (BiState S)) (f : Making T dims steady starts rest ns) where
  -- the next asker is that of the next rank
  pub next_asker : (q : S) → slice_get rest 0 ≡ Some q → slice_get starts (length ns) ≡ Some q
  next_asker q at =
      ap (λ xs. slice_get xs (length ns)) (f.left ∙ ap (λ ys. askers_of ns ++ ys) (first_of rest q at))
      ∙ (ap (slice_get (askers_of ns ++ q ∷ drop 1 rest)) (sym (length-map ns (λ (n : BiState S). n.asker))) ∙ at_end (askers_of ns) (drop 1 rest) q)

  pub making_more : (p : ℕ) (rest' : List S) (ns' : List (BiState S)) (q : S) (n : BiState S) → AreAskers T p starts → slice_get rest 0 ≡ Some q → rest' ≡ drop 1 rest → ns' ≡ ns ++ n ∷ [] → IsNewBiNode T dims steady q n
      → Making T dims steady starts rest' ns'
  making_more p rest' ns' q n all at gone more new =
      let made : IsFreshBiRank T dims steady (length ns) n = record {
        own_rank = ap T.rank new.asker ∙ (all.each (length ns) q (next_asker q at)).0;
        new = subst (λ (s : S). IsNewBiNode T dims steady s n) (sym new.asker) new;
      } in
      let size : length (ns ++ n ∷ []) ≡ length ns + 1 = length-append ns (n ∷ []) in
      record {
        left = f.left ∙ (ap (λ ys. askers_of ns ++ ys) (first_of rest q at) ∙ (sym (shift (askers_of ns) (drop 1 rest) q)
            ∙ (ap (λ s. (askers_of ns ++ s ∷ []) ++ drop 1 rest) (sym new.asker) ∙ (ap (λ ps. ps ++ drop 1 rest) (sym (map-append (λ (m : BiState S). m.asker) ns (n ∷ []))) ∙ (ap (λ ys. askers_of ys ++ drop 1 rest) (sym more) ∙ ap (λ ys. askers_of ns' ++ ys) (sym gone))))));
        each = λ r m now. elim (cases_lt r (length ns)) [
          | inl below ↦ f.each r m (sym (get_before ns (n ∷ []) r below) ∙ (ap (λ xs. slice_get xs r) (sym more) ∙ now))
          | inr past ↦
              let same : r ≡ length ns = omega (arith, past, within ns' r m now, ap length more, size) in
              let is : n ≡ m = get_once (ns ++ n ∷ []) (length ns) n m (get_last ns n) (ap (λ xs. slice_get xs (length ns)) (sym more) ∙ subst (λ i. slice_get ns' i ≡ Some m) same now) in
              subst (λ i. IsFreshBiRank T dims steady i m) (sym same) (subst (λ y. IsFreshBiRank T dims steady (length ns) y) is made)
        ];
      }

  pub making_all : slice_get rest 0 ≡ None → AreFreshBiRanks T dims steady starts ns
  making_all none = record { same = sym (f.left ∙ (ap (λ ys. askers_of ns ++ ys) (none_of rest none) ∙ append-nil (askers_of ns))); each = f.each }

pub making_none : {S : Type 0} (T : Talk S) (dims : List ℕ) (steady : Bool) (starts : List S) → Making T dims steady starts starts []
making_none T dims steady starts = record { left = refl; each = λ r n at. absurd (omega (arith, within [] r n at)) }

-- the askers so far, and those of the ranks that are left
pub taken_more : {S : Type 0} (all now rest : List (BiState S)) (askers askers' : List S) (n : BiState S) (q : S) → askers ++ askers_of now ≡ askers_of all → now ≡ n ∷ rest → askers' ≡ askers ++ q ∷ [] → q ≡ n.asker
    → askers' ++ askers_of rest ≡ askers_of all
taken_more all now rest askers askers' n q left is more same =
    ap (λ ps. ps ++ askers_of rest) more ∙ (shift askers (askers_of rest) q ∙ (ap (λ s. askers ++ s ∷ askers_of rest) same ∙ (ap (λ ns. askers ++ askers_of ns) (sym is) ∙ left)))

pub taken_all : {S : Type 0} (all now : List (BiState S)) (askers : List S) → askers ++ askers_of now ≡ askers_of all → now ≡ [] → askers ≡ askers_of all
taken_all all now askers left none = sym (append-nil askers) ∙ (ap (λ ns. askers ++ askers_of ns) (sym none) ∙ left)
