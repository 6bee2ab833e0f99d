-- One more query is pushed.
use Rattle.std.proofs.Common.{None, ◌≡◌, ◌≢◌, ℕ, ◌^◌, ◌<◌, ◌≤◌, ◌==◌, ◌&&◌, true, false, cond, List, [], ◌∷◌, ◌++◌, length, slice_get, Some, All, refl, sym, ap, subst, ◌∙◌, arith}
use Rattle.std.proofs.lemmas.Bool.{eq-eqb, ne_eqb}
use Rattle.bale_items.specs.declared.item.Item.{Item}
use Rattle.route_tensor.specs.Grid.{ranks}
use Rattle.port_bank.specs.Machine.{ItemLists, with_item}
use Rattle.hop_core.specs.declared.phase.Phase.TheVariants.{Working}
use Rattle.hop_core.specs.State.{State}
use Rattle.convey.specs.Buffers.{buffers_of}
use Rattle.convey.specs.Conveyors.{open_count_toward}
use Rattle.convey.specs.Parts.{part_of}
use Rattle.list_laws.proofs.Lists.{get_map, all_get, all_from_gets, got_map}
use Rattle.round_program.specs.Talks.{Talk, TalkLaws}
use Rattle.round_program.specs.Replies.{carrying, asks_of}
use Rattle.rank_node.proofs.Offered.{Offers, pushed_none}
use Rattle.query_node.specs.Taking.{PushesQueries}

-- where a list got one more item
pub item_here : (lists : ItemLists) (e f : ℕ) (x : Item) → with_item lists e f x e f ≡ lists e f ++ x ∷ []
item_here lists e f x =
    ap (λ b. cond (b && (f == f)) (lists e f ++ x ∷ []) (lists e f)) (eq-eqb e e refl) ∙ ap (λ b. cond b (lists e f ++ x ∷ []) (lists e f)) (eq-eqb f f refl)

pub item_other : (lists : ItemLists) (e f : ℕ) (x : Item) (g : ℕ) → g ≢ f → with_item lists e f x e g ≡ lists e g
item_other lists e f x g apart =
    ap (λ b. cond (b && (g == f)) (lists e g ++ x ∷ []) (lists e g)) (eq-eqb e e refl) ∙ ap (λ b. cond b (lists e g ++ x ∷ []) (lists e g)) (ne_eqb g f apart)

-- a query as an item, and back
pub asked_at : {S : Type 0} (T : Talk S) (s : S) (i : ℕ) (q : ℕ × ℕ) → slice_get (T.queries s) i ≡ Some q → slice_get (asks_of T s) i ≡ Some (q.0, carrying q.1)
asked_at T s i q is = get_map (λ (q : ℕ × ℕ). (q.0, carrying q.1)) (T.queries s) i q is

-- the ranks that are asked are those of the run
pub asked_below : {S : Type 0} (T : Talk S) → TalkLaws T → (s : S) → T.valid s → All (λ (e : ℕ × Item). e.0 < T.ranks s) (asks_of T s)
asked_below T laws s v =
    all_from_gets (λ (e : ℕ × Item). e.0 < T.ranks s) (asks_of T s)
    (λ i e is.
    let q = got_map (λ (q : ℕ × ℕ). (q.0, carrying q.1)) (T.queries s) i e is in
    let low = (all_get (λ q. (q.0 < T.ranks s) × (q.1 < 2 ^ 64)) (T.queries s) i q.0 (laws.asks s v) q.1).0 in
    subst (λ (x : ℕ × Item). x.0 < T.ranks s) q.2 low)

pub queries_below : {S : Type 0} (T : Talk S) → TalkLaws T → (s : S) (p : ℕ) → T.valid s → T.ranks s ≡ p → All (λ (q : ℕ × ℕ). q.0 < p) (T.queries s)
queries_below T laws s p v all =
    subst (λ n. All (λ (q : ℕ × ℕ). q.0 < n) (T.queries s)) all
    (all_from_gets (λ (q : ℕ × ℕ). q.0 < T.ranks s) (T.queries s) (λ i q at. (all_get (λ q. (q.0 < T.ranks s) × (q.1 < 2 ^ 64)) (T.queries s) i q (laws.asks s v) at).0))

pub offers_start : (es : List (ℕ × Item)) (old : State) (from count : ℕ) → count ≡ length es → from ≤ length es → All (λ (e : ℕ × Item). e.0 < ranks old.dims) es → (old.done ≡ false → old.phase ≡ Working) → (old.done ≡ true → from ≡ length es) → Offers es old old from from count
offers_start es old from count all low receivers working all_pushed =
    record {
      all = all;
      forward = omega arith;
      next_low = low;
      receivers = receivers;
      working = working;
      all_pushed = all_pushed;
      same = refl;
      kept = λ sent got a. a;
      pushed = λ sent got a. pushed_none es (ranks old.dims) from (part_of (buffers_of old) sent got);
    }

-- the end of pushes: all are pushed, or one was refused
pub offers_end : (es : List (ℕ × Item)) (cap : ℕ) (old c : State) (from next count : ℕ) → Offers es old c from next count
    → ((to : ℕ) (x : Item) → slice_get es next ≡ Some (to, x) → (to < ranks c.dims) × (open_count_toward c to ≡ cap)) → PushesQueries es cap from next old c
offers_end es cap old c from next count is refused = record { forward = is.forward; low = is.next_low; same = is.same; kept = is.kept; on = is.pushed; refused = refused }

-- a push that was refused left the open parcel full
pub full_at : (cap : ℕ) (c c' : State) (to : ℕ) → c' ≡ record c { pulled = None } → to < ranks c.dims → open_count_toward c to ≡ cap → (to < ranks c'.dims) × (open_count_toward c' to ≡ cap)
full_at cap c c' to new low full = subst (λ (t : State). (to < ranks t.dims) × (open_count_toward t to ≡ cap)) (sym new) (low, full)
