-- Laws of turns of a rank with a seat at a slot bank.
use Rattle.std.proofs.Common.{◌≡◌, ℕ, Bool, true, refl, subst, ◌∙◌, arith, inl, inr}
use Rattle.std.proofs.lemmas.Bool.{cases_lt}
use Rattle.round_program.specs.Rules.{Rules}
use Rattle.rank_crews.specs.Runs.{RanLaws}
use Rattle.rank_group.specs.Seats.{SeatedState, TookTurns, MadeNoProgress}
use Rattle.rank_group.specs.laws.NotedLaws.{same_laws}

pub ran_laws : {S : Type 0} (R : Rules S) (cap : ℕ) (notified : ℕ → ℕ → Bool) → RanLaws (λ x y. TookTurns R cap notified x y)
ran_laws R cap notified =
    record {
      none = λ x. record {
        bank = refl;
        number = refl;
        more = omega arith;
        heard = λ n low high. absurd (omega (arith, low, high));
        kept = λ manner h is. (h, refl, is);
      };
      on = λ x y z a b. record {
        bank = b.bank ∙ a.bank;
        number = b.number ∙ a.number;
        more = (let p = a.more in let q = b.more in omega (arith, p, q));
        heard = λ n low high. elim (cases_lt n y.turns) [
          | inl before ↦ a.heard n low before
          | inr after ↦ subst (λ r. notified r n ≡ true) a.number (b.heard n after high)
        ];
        kept = λ manner h is.
            let m = a.kept manner h is in
            let n = b.kept manner m.0 m.2 in
            (n.0, n.1 ∙ m.1, n.2);
      };
    }

pub none_laws : {S : Type 0} → RanLaws (MadeNoProgress {S = S})
none_laws {S} =
    let parcels = same_laws (λ (x : SeatedState S). x.seat) in
    record {
      none = λ x. record { parcels = parcels.none x; pushed = refl; epochs = refl; lost = refl };
      on = λ x y z a b. record {
        parcels = parcels.on x y z a.parcels b.parcels;
        pushed = b.pushed ∙ a.pushed;
        epochs = b.epochs ∙ a.epochs;
        lost = b.lost ∙ a.lost;
      };
    }
