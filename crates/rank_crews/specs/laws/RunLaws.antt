-- If the relation obeys the laws for single ranks, it does for lists of ranks.
use Rattle.std.proofs.Common.{◌≡◌, slice_get, Some, refl, subst, ◌∙◌, arith}
use Rattle.list_laws.proofs.Lists.{find, within, get_once}
use Rattle.rank_crews.specs.Runs.{RanLaws, AllRan}

pub all_ran_laws : {S : Type 0} (ran : S → S → Type 0) → RanLaws ran → RanLaws (AllRan ran)
all_ran_laws {S} ran laws =
    record {
      none = λ xs. record {
        all = refl;
        each = λ r x y ex ey. subst (λ z. ran x z) (get_once xs r x y ex ey) (laws.none x);
      };
      on = λ xs ys zs a b. record {
        all = b.all ∙ a.all;
        each = λ r x z ex ez.
            let low = within xs r x ex in
            let size = a.all in
            let y : (y : S) × (slice_get ys r ≡ Some y) = find ys r (omega arith) in
            laws.on x y.0 z (a.each r x y.0 ex y.1) (b.each r y.0 z y.1 ez);
      };
    }
