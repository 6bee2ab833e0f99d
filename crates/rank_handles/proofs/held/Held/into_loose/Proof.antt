-- `into_loose` has the part's memory again.
use Rattle.std.proofs.Common.{◌≡◌, List, [], ◌∷◌, ◌++◌, refl, sym, ap, ◌∙◌, subst, Option, Some, is_some, true}
use mir.Val.{Val, vptr}
use base.Logic.{SProp, ent, emp, id⊢, never, fst∗}
use prog.Wp.{WpFn}
use types.Logic.{sem}
use types.Kit.{‵, raw, ◌⊛◌, ◌$◌, ◌∵◌, !, qed, by, move, keep, split, fsplit, fjoin, suffices, use0, rewrite}
use types.Run.{stop, fld, of_opd, no_more, and_then, returns, enter}
use types.ByLocal.{alloc_all, pass_all, free_all, look_at, get, get_in, sets}
use types.Part.{agg, sub, whole}
use mir.Raw.{raw as bare}
use contract.Monad.{fact, fact_i}
use contract.Running.{tables}
use denote.Exit.{yes}
use denote.Memory.{lone}
use denote.RattleType.{RattleType, owns}
use denote.Signature.{types_at, plain}
use denote.RawPtr.{Ptr, block_ptr, null_ptr, in_a_block}
use denote.Param.{layout}
use denote.Steps.{nothing, heard}
use denote.Triple.Entry.{alive}
use denote.Triple.Walked.{Stays, stay_dropped, walk_of, Goes-dropped}
use Rattle.core.proofs.cell.Inside.{one}
use Rattle.std_heap.specs.contracts.Global as heap
use Rattle.std_heap.proofs.Global.TheLaws as heap_laws
use Rattle.std_heap.specs.contracts.GlobalAllocator.TheImpl.{ghosts}
use Rattle.std_alloc.specs.Box.Ownership.{box_owns}
use Rattle.std.proofs.raw_atomic.Walks.{proved_at, leaves}
use Rattle.rank_handles.specs.declared.part.Part.{Part}
use Rattle.rank_handles.specs.contracts.part.Part as part
use Rattle.rank_handles.specs.contracts.held.Held as held
use Rattle.rank_handles.specs.Ownership.{holds}
use Rattle.rank_handles.proofs.Values.{both, loose_good, loose_in}
use Rattle.rank_handles.proofs.HeldValues.{lone_ptr, held_out, the_part}
use Rattle.rank_handles.specs.contracts.held.Held.into_loose.{ended, clauses}
use Rattle.rank_handles.specs.contracts.held.Held.into_loose.Key.{name as #self}
use Rattle.rank_handles.proofs.held.Held.into_loose.Statement.{statement}
use Rattle.rank_handles.proofs.held.Held.into_loose.Code as code

pub into_loose_spec : {M : Type 1} → statement M
into_loose_spec 𝓤 𝓛 𝓜 𝓡 wired =
    let H = 𝓛.H in let 𝓣 = tables 𝓤 H 𝓜 𝓡 𝓡.env in let c = clauses 𝓛 𝓜.mem 𝓡.returns in let fn = code.function in
    let R : RattleType = part.the_row in let Z : RattleType = heap.the_row in let LZ = heap_laws.the_row_laws in let Hd : RattleType = held.the_row in
    let hs : Stays ended.signature.params ended.kept = (stay_dropped (plain (λ _. Hd)) yes, (stay_dropped (plain (λ _. Z)) yes, tt)) in
    proved_at 𝓛 ended hs c 𝓜 𝓡 (Goes-dropped 𝓛 0 (plain (λ _. Hd)) yes (λ κs x f. refl), (Goes-dropped 𝓛 0 (plain (λ _. Z)) yes (λ κs x f. refl), tt)) #self fn (code.unfolded 𝓤 H 𝓜 𝓡 wired) (λ z are.
    let κs = z.0.0 in let qs = z.0.1 in let d = z.0.3.0 in let a = z.0.3.1.0 in let Post : Val → SProp 𝓤 = (walk_of 𝓛 ended hs c).post z in let Run : List Val → SProp 𝓤 = λ ws. WpFn 𝓤 H 𝓣.C 𝓣.Λ fn ws Post in
    let h = one (layout Z) z.0.4.1.0 ((LZ.lawful 𝓛).typed a z.0.4.1.0 are.1.0) in
    qed 𝓛 ((raw (alive 𝓛 ended.signature κs qs) ⊛ ‵ (owns (types_at ended.signature.params κs) z.0.3 z.0.4)) ∷ raw (fact 𝓤 (is_some d.value ≡ true)) ∷ []) ∵
    move ! (1 ∷ []) $ heard ! (is_some d.value ≡ true) (λ live. let there = the_part d.value live in let x = there.0 in
    split ! $ move ! (1 ∷ []) $ fsplit ! $ move ! (1 ∷ []) $ fsplit ! $ move ! (2 ∷ []) $ held_out ! d z.0.4.0 (λ ws.
    rewrite ! 0 (λ (o : Option Part). ‵ (holds d.at o)) there.1 refl $
    in_a_block ! d.at (λ p. box_owns (ghosts.dealloc_token a) R p x) (fst∗ 𝓤 (never 𝓤) (sem 𝓛 (ghosts.dealloc_token a (bare (lone R.mir)) null_ptr))) (λ b o e.
    rewrite ! 1 (λ (us : List Val). ‵ (Z.own_val a us)) h.1 refl $ loose_in R Z LZ ghosts ! b o h.0 a x $
    use0 𝓛 (raw (fact 𝓤 (Some x ≡ d.value))) (fact_i 𝓤 (Some x ≡ d.value) (emp 𝓤) (sym there.1)) $ nothing ! $ nothing ! $ fjoin ! $ nothing ! $ fjoin ! $
    let v : Val = lone_ptr (block_ptr b o) in let made : Val = both (vptr b o) h.0 in let us : z.0.4.0 ≡ v ∷ [] = ws ∙ ap (λ (p : Ptr). lone_ptr p ∷ []) e in
    suffices ! (Run (v ∷ h.0 ∷ [])) (subst (λ (xs : List Val). ent 𝓤 (Run (v ∷ h.0 ∷ [])) (Run xs)) (sym (λ i. us i ++ (h.1 i ++ []))) (id⊢ 𝓤 (Run (v ∷ h.0 ∷ [])))) $
    enter ! 𝓣.C 𝓣.Λ fn (v ∷ h.0 ∷ []) Post $ alloc_all ! (λ l. pass_all ! refl ((tt, (tt, tt)), (h.2, tt)) $
    sets ! (of_opd ! (get_in ! (fld ! refl (stop !)) (sub ! 0 refl (whole !)))) refl (tt, tt) $ sets ! (of_opd ! (get ! refl)) refl (tt, tt) $
    sets ! (agg ! (and_then ! (get ! refl) (and_then ! (get ! refl) (no_more !)))) refl (loose_good R Z LZ ghosts b o h.0 h.2) $
    returns ! (look_at ! 0 refl) $ free_all ! refl $ keep ! (4 ∷ 0 ∷ 2 ∷ 1 ∷ []) $ by ! (leaves 𝓛 ended hs c z made (record { at = block_ptr b o; alloc = a; value = x }) (tt, (tt, tt)) (tt, (tt, tt))))))))
