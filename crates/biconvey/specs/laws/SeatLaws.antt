-- Laws of turns of a rank with seats at two slot banks.
use Rattle.std.proofs.Common.{◌≡◌, ℕ, Bool, true, refl, subst, ◌∙◌, arith, inl, inr}
use Rattle.std.proofs.lemmas.Bool.{cases_lt}
use Rattle.rank_crews.specs.Runs.{RanLaws}
use Rattle.round_program.specs.Talks.{Talk}
use Rattle.rank_group.specs.laws.NotedLaws.{same_laws}
use Rattle.biconvey.specs.Seats.{BiSeatedState, TookBiTurns, AskerMadeNoProgress}

pub bi_ran_laws : {S : Type 0} (T : Talk S) (cap : ℕ) (notified : ℕ → ℕ → Bool) → RanLaws (λ x y. TookBiTurns T cap notified x y)
bi_ran_laws T cap notified =
    record {
      none = λ x. record {
        queries = record { bank = refl; number = refl };
        replies = record { bank = refl; number = refl };
        more = omega arith;
        heard = λ n low high. absurd (omega (arith, low, high));
        kept = λ steady start way. way;
      };
      on = λ x y z a b. record {
        queries = record { bank = b.queries.bank ∙ a.queries.bank; number = b.queries.number ∙ a.queries.number };
        replies = record { bank = b.replies.bank ∙ a.replies.bank; number = b.replies.number ∙ a.replies.number };
        more = (let p = a.more in let q = b.more in omega (arith, p, q));
        heard = λ n low high. elim (cases_lt n y.turns) [
          | inl before ↦ a.heard n low before
          | inr after ↦ subst (λ r. notified r n ≡ true) a.queries.number (b.heard n after high)
        ];
        kept = λ steady start way. b.kept steady start (a.kept steady start way);
      };
    }

pub asker_none_laws : {S : Type 0} → RanLaws (AskerMadeNoProgress {S = S})
asker_none_laws {S} =
    let q = same_laws (λ (x : BiSeatedState S). x.queries) in
    let p = same_laws (λ (x : BiSeatedState S). x.replies) in
    record {
      none = λ x. record { queries = q.none x; replies = p.none x; asked = refl; over = refl };
      on = λ x y z a b. record {
        queries = q.on x y z a.queries b.queries;
        replies = p.on x y z a.replies b.replies;
        asked = b.asked ∙ a.asked;
        over = b.over ∙ a.over;
      };
    }
