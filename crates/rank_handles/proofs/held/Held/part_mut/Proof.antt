-- `part_mut` lends the part, and the handle follows it.
use Rattle.std.proofs.Common.{◌≡◌, ℕ, List, [], ◌∷◌, refl, sym, ap, ◌∙◌, Option, Some, is_some, true}
use seplogic.Ra.Ura.{Ura}
use base.Fraction.{full_share}
use base.Fml.{Fml, GName, ftrue, fsep, flft}
use base.Logic.{ent, sep, never, fst∗}
use mir.Syntax.{named}
use mir.Raw.{raw as bare}
use mir.Val.{Val, vptr}
use types.Logic.{Logic, sem}
use types.Kit.{‵, raw, ◌⊛◌, some, later, at_ret, ◌$◌, ◌∵◌, !, qed, done, move, keep, use1, split, join, fsplit, fsplit3, fjoin, fpack, await, pick, rewrite, suffices, frame, group}
use types.Run.{stop, fld, load, of_opd, addr, first, blocks, exec, returns, enter}
use types.ByLocal.{alloc_all, pass_all, free_all, look_at, get, through, sets, sets_last, env}
use types.Part.{whole, sub, look_in}
use contract.Monad.{fact}
use contract.Running.{tables}
use denote.Exit.{no}
use denote.Follow.{follows, lends_Part}
use denote.Memory.{lone, mem, cell_at, part_at, part_of}
use denote.RattleType.{RattleType}
use denote.RawPtr.{Ptr, block_ptr, null_ptr, in_a_block}
use denote.Ref.{MutBor, MutRef, mut_vals, mut_Tells}
use denote.Signature.{plain, mut_ref_to}
use denote.Steps.{nothing, heard, opens}
use denote.Triple.Walked.{says, Stays, stay_dropped, walk_of, ends_at, Goes-spent_ref}
use Rattle.std_heap.specs.contracts.GlobalAllocator.TheImpl.{ghosts}
use Rattle.std_alloc.specs.Box.Ownership.{box_owns}
use Rattle.std_alloc.proofs.VecSteps.Shapes.{after}
use Rattle.std.proofs.raw_atomic.Walks.{proved}
use Rattle.rank_handles.specs.declared.part.Part.{Part}
use Rattle.rank_handles.specs.contracts.part.Part as part
use Rattle.rank_handles.specs.contracts.held.Held as held
use Rattle.rank_handles.specs.Ownership.{holds, heap}
use Rattle.rank_handles.specs.Lends.{with_part}
use Rattle.rank_handles.proofs.HeldValues.{lone_ptr, held_in, held_out, the_part}
use Rattle.rank_handles.specs.contracts.held.Held.part_mut.{ended, clauses}
use Rattle.rank_handles.specs.contracts.held.Held.part_mut.Key.{name as #self}
use Rattle.rank_handles.proofs.held.Held.part_mut.Statement.{statement}
use Rattle.rank_handles.proofs.held.Held.part_mut.Code as code

abbrev Hd : RattleType
Hd = held.the_row

abbrev R : RattleType
R = part.the_row

abbrev stayed : Stays ended.signature.params ended.kept
stayed = (stay_dropped (mut_ref_to (0 ∷ []) tt (plain (λ _. Hd))) no, tt)

-- all of the handle but its part
abbrev Rest : (b o rb ro : ℕ) → Fml
Rest b o rb ro = fsep (ghosts.dealloc_token heap (bare (lone R.mir)) (block_ptr b o)) (cell_at full_share Hd.mir (lone_ptr (block_ptr b o) ∷ []) rb ro)

module _ {M : Type 1} {𝓤 : Ura M} (𝓛 : Logic 𝓤) (d : Hd.Denot) (b o rb ro : ℕ) (at : d.at ≡ block_ptr b o) where
  back : (w : Part) → ent 𝓤 (sep 𝓤 (sem 𝓛 ((mem R).own_at w b o)) (sem 𝓛 (Rest b o rb ro))) (sem 𝓛 ((mem Hd).own_at (with_part d w) rb ro))
  unfolding part_of
  back w =
      qed 𝓛 (‵ (part_at R full_share w b o) ∷ ‵ (Rest b o rb ro) ∷ []) ∵ move ! (1 ∷ []) $ fsplit ! $ move ! (2 ∷ 0 ∷ []) $ fjoin ! $
      held_in ! (block_ptr b o) (Some w) $ rewrite ! 0 (λ (p : Ptr). ‵ (Hd.own_val (record { at = p; value = Some w }) (lone_ptr (block_ptr b o) ∷ []))) (sym at) refl $ move ! (1 ∷ 0 ∷ []) $ fjoin ! $
      fpack ! (List Val) (λ us. fsep (cell_at full_share Hd.mir us rb ro) (Hd.own_val (with_part d w) us)) (lone_ptr (block_ptr b o) ∷ []) $ done !

pub part_mut_spec : {M : Type 1} → statement M
part_mut_spec 𝓤 𝓛 𝓜 𝓡 wired =
    let H = 𝓛.H in let 𝓣 = tables 𝓤 H 𝓜 𝓡 𝓡.env in let c = clauses 𝓛 𝓜.mem 𝓡.returns in let W = walk_of 𝓛 ended stayed c in let fn = code.function in
    proved 𝓛 ended stayed c 𝓜 𝓡 (Goes-spent_ref 𝓛 1 (0 ∷ []) tt (plain (λ _. Hd)), tt) #self fn (code.unfolded 𝓤 H 𝓜 𝓡 wired)
    (λ κs. (mut_vals, tt)) (λ κs. (mut_Tells (named 0) κs.0 Hd, tt)) (λ κs qs bounds a _ are.
    let κ = κs.0 in let q = qs.0 in let r = a.0 in let rb = r.ref_ptr.0 in let ro = r.ref_ptr.1 in let γ = r.ghost_name in let d = r.now in
    let y : W.Ghost = ((κs, qs, bounds, a, (mut_vals r, tt)), tt) in
    qed 𝓛 (((‵ (flft κ q) ⊛ ‵ ftrue) ⊛ ‵ ((MutRef (named 0) κ Hd).own_val r (mut_vals r)) ⊛ ‵ ftrue) ∷ raw (fact 𝓤 (is_some d.value ≡ true)) ∷ []) ∵
    move ! (1 ∷ []) $ heard ! (is_some d.value ≡ true) (λ live. let there = the_part d.value live in let x = there.0 in
    split ! $ split ! $ move ! (2 ∷ []) $ split ! $ keep ! (0 ∷ 2 ∷ []) $
    enter ! 𝓣.C 𝓣.Λ fn (mut_vals r) (W.post y) $ alloc_all ! (λ l. pass_all ! refl ((tt, tt), tt) $
    fsplit3 ! $ move ! (1 ∷ 2 ∷ 3 ∷ []) $ opens ! tt Hd {h = d} rb ro (λ us.
    move ! (1 ∷ []) $ held_out ! d us (λ ws. rewrite ! 0 (λ (p : Option Part). ‵ (holds d.at p)) there.1 refl $
    in_a_block ! d.at (λ p. box_owns (ghosts.dealloc_token heap) R p x) (fst∗ 𝓤 (never 𝓤) (sem 𝓛 (ghosts.dealloc_token heap (bare (lone R.mir)) null_ptr))) (λ b o at.
    rewrite ! 1 (λ (vs : List Val). ‵ (cell_at full_share Hd.mir vs rb ro)) (ws ∙ ap (λ (p : Ptr). lone_ptr p ∷ []) at) refl $ fsplit ! $
    -- [the part; the right to free it; the cell; the open borrow; obs; auth]
    first ! $ blocks ! $
    sets ! (of_opd ! (load ! (through ! refl (fld ! refl (stop !))) (look_in ! 2 (sub ! 0 refl (whole !))))) refl (tt, tt) $
    sets ! (of_opd ! (get ! refl)) refl (tt, tt) $ sets_last ! (addr ! (through ! refl (stop !))) refl (tt, tt) $
    exec ! 𝓣.C 𝓣.Λ (env fn.locals l) (after 1 fn.body) (at_ret (env fn.locals l) (W.post y)) $
    sets ! (of_opd ! (get ! refl)) refl (tt, tt) $
    move ! (1 ∷ 2 ∷ []) $ fjoin ! $ move ! (2 ∷ 3 ∷ 4 ∷ 1 ∷ 0 ∷ []) $ group ! 5 $
    let lent : GName → MutBor Part = λ γ'. record { ref_ptr = (b, o); ghost_name = γ'; now = x } in
    use1 𝓛 (later (some (λ (γ' : GName). ‵ ((MutRef (named 0) κ R).own_val (lent γ') (vptr b o ∷ [])) ⊛ ‵ (flft κ q) ⊛ ‵ (follows Hd R γ γ' (with_part d)))))
    (lends_Part 𝓛 Hd R (with_part d) (named 0) κ q rb ro b o γ (sem 𝓛 (Rest b o rb ro)) (back 𝓛 d b o rb ro at) (Hd.coded.code d) (Hd.coded.code d) x) $ await ! tt $ pick ! (λ γ'.
    returns ! (look_at ! 0 refl) $ free_all ! refl $ keep ! (0 ∷ []) $ split ! $ move ! (1 ∷ []) $ split ! $
    -- [the token; what follows; the loan]
    move ! (2 ∷ 0 ∷ 1 ∷ []) $
    suffices ! _ (ends_at 𝓛 ended stayed c y (vptr b o) (lent γ') (tt, tt) (tt, tt)) $
    nothing ! $ nothing ! $ fjoin ! $ join ! $ nothing ! $ move ! (2 ∷ 0 ∷ []) $ join ! $ join ! $ frame ! $ says ! (sym there.1) $ done !)))))))
