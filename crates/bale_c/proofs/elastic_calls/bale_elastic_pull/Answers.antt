use Rattle.std.proofs.Common.{◌≡◌, Option, None, Err, ℤ, refl, sym, ap, subst, to_z, of_z, w32}
use Rattle.rank_handles.specs.declared.answer.Answer.TheVariants.{Gone}
use Rattle.rank_handles.specs.HandleView.{elastic_of}
use Rattle.rank_handles.specs.Strings.{ElasticState}
use Rattle.rank_handles.specs.StringCalls.{PulledThere}
use Rattle.bale_c.proofs.elastic_calls.bale_elastic_pull.Goals as goal

pub returns-in_default : goal.returns-in_default
returns-in_default c =
    let none : elastic_of c.args.rank.now ≡ None = c.get_mut.ensures.gone c.in_default.is in
    record {
      pulls = record {
        result = Err Gone;
        code_is = ap (λ (z : ℤ). to_z w32 (of_z w32 z)) c.code.ensures;
        from_is = refl;
        pulls = subst (λ (o : Option ElasticState). PulledThere (Err Gone) o o) (sym none) refl;
      };
    }
