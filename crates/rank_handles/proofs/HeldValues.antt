-- The machine value of a handle's pointer. Assumes `Logic`.
use Rattle.std.proofs.Common.{◌≡◌, List, [], ◌∷◌, ◌++◌, refl, subst, Option, Some, None, is_some, true}
use seplogic.Ra.Ura.{Ura}
use mir.Val.{Val, vstruct, vcons, vnil, of_list}
use types.Logic.{Logic}
use types.Kit.{Item, Goal, Seq, Step, step, ‵, ◌$◌, drop, fsplit, fjoin, fpick, fpack, feq_i, feq_l}
use denote.RattleType.{Valss}
use denote.Builtin.{RawPtr}
use denote.RawPtr.{Ptr, ptr_val}
use denote.Steps.{nothing}
use denote.Struct.Struct.{within}
use denote.Struct.Owning.{shape}
use Rattle.rank_handles.specs.declared.part.Part.{Part}
use Rattle.rank_handles.specs.Ownership.{holds}
use Rattle.rank_handles.specs.contracts.held.Held as held

abbrev pub lone_ptr : Ptr → Val
lone_ptr p = vstruct (vcons (ptr_val p) vnil)

pub the_part : (o : Option Part) → is_some o ≡ true → (p : Part) × (o ≡ Some p)
the_part (Some p) e = (p, refl)
the_part None e = absurd cc

module _ {M : Type 1} {𝓤 : Ura M} {𝓛 : Logic 𝓤} {K : Type 0} {Γ : List (Item 𝓤)} {G : Goal 𝓤 𝓛.H} where
  pub held_in : K → (p : Ptr) (x : Option Part) → Step K 𝓛 (‵ (held.the_row.own_val (record { at = p; value = x }) (lone_ptr p ∷ [])) ∷ Γ) G (‵ (holds p x) ∷ Γ) G
  held_in t p x = step (λ s. let v : Val = lone_ptr p in
      nothing t $ feq_i t (List Val) (ptr_val p ∷ []) (ptr_val p ∷ []) refl $ fjoin t $ feq_i t (List Val) (v ∷ []) (v ∷ []) refl $ fjoin t $
      fpack t (Valss (RawPtr ∷ [])) (within (shape held.the_type) (p, tt) (v ∷ [])) (ptr_val p ∷ [], tt) $ fjoin t $ s)

  pub held_out : K → (d : held.the_row.Denot) (vs : List Val) → (vs ≡ lone_ptr d.at ∷ [] → Seq K 𝓛 (‵ (holds d.at d.value) ∷ Γ) G) → Seq K 𝓛 (‵ (held.the_row.own_val d vs) ∷ Γ) G
  held_out t d vs k = fsplit t $ fpick t (λ vss. fsplit t $ feq_l t (λ ev. fsplit t $ feq_l t (λ ep. drop t $
      k (subst (λ (ps : List Val). vs ≡ vstruct (of_list (ps ++ [])) ∷ []) ep ev))))
