-- What a turn leaves that moved no parcel.
use Rattle.std.proofs.Common.{◌≡◌, ◌⊎◌, ℕ, ◌+◌, ◌<◌, ◌≤◌, ◌==◌, Bool, true, false, List, ◌++◌, length, slice_get, Option, Some, None, Result, Ok, refl, sym, ap, subst, ◌∙◌, arith, inl, inr}
use Rattle.std.proofs.lemmas.Bool.{eq-eqb, cases_lt}
use Rattle.std.specs.List.{flat_map}
use Rattle.bale_items.specs.declared.item.Item.{Item}
use Rattle.item_buffer.specs.Contents.{Shipped}
use Rattle.list_laws.proofs.Lists.{find}
use Rattle.route_tensor.specs.Grid.{ranks, IsGrid}
use Rattle.route_tensor.specs.Link.{links}
use Rattle.route_tensor.specs.Ends.{sender_at, reader_at}
use Rattle.port_bank.specs.Port.{PortView}
use Rattle.port_bank.specs.Logs.{Logs}
use Rattle.port_bank.specs.Shapes.{IsConveyorShape}
use Rattle.hop_core.specs.declared.phase.Phase.{Phase}
use Rattle.hop_core.specs.declared.phase.Phase.TheVariants.{Dormant, Working, Endgame, Cleanup, Complete}
use Rattle.hop_core.specs.State.{State}
use Rattle.list_laws.specs.Lists.{Ends}
use Rattle.convey.specs.Advance.{StaysAtPort, ListsGrow, WereAsked}
use Rattle.convey.specs.Buffers.{in_of}
use Rattle.convey.specs.Conveyors.{AgreesWith}
use Rattle.convey.specs.Progress.{progress_of}
use Rattle.convey.specs.declared.progress.Progress.TheVariants as progress
use Rattle.rank_node.proofs.Halted.{Advanced, lies_less, crowded_toward, still}
use Rattle.query_node.specs.Taking.{PushesQueries, AnswersQueries, RefusesAnswer, Hears}
use Rattle.round_program.specs.Talks.{Talk}
use Rattle.convey.specs.Buffers.{is_complete}
use Rattle.std.specs.Prelude.{IfSome}
use Rattle.rank_node.specs.Movers.{AllRead}
use Rattle.rank_node.specs.Pulls.{InboxesShrink}
use Rattle.rank_node.specs.Stuck.{HasCrowded}
use Rattle.query_node.specs.States.{BiState, Sides, AdvancesOnce}
use Rattle.query_node.specs.Still.{Known, IsStuckBoth}
use Rattle.query_node.proofs.Turned.{Advances}

-- the phase of an advance that answers Complete
pub complete_from : (p : Phase) → progress_of p ≡ progress.Complete → p ≡ Complete
complete_from Dormant e = absurd (cc)
complete_from Working e = absurd (cc)
complete_from Endgame e = absurd (cc)
complete_from Cleanup e = absurd (cc)
complete_from Complete e = refl

pub complete_is : (p : Phase) → p ≡ Complete → progress_of p ≡ progress.Complete
complete_is p e = ap progress_of e

pub ok_once : {T E : Type 0} {a b : T} → ◌≡◌ {A = Result T E} (Ok a) (Ok b) → a ≡ b
ok_once e = cc

lies_left : (c c1 c2 c3 : State) (got got' : Logs) → c1 ≡ record c { outs = c1.outs; pulled = c1.pulled } → InboxesShrink c2 c3
    → ((l : ℕ) (more : List Shipped) → l < links c1.dims → reader_at c1.dims l ≡ c1.rank → got' l ≡ got l ++ more → Ends ((in_of c1 l).parcel.untaken ++ flat_map (λ p. p.entries) more) (in_of c2 l).parcel.untaken)
    → (l : ℕ) (more : List Shipped) → l < links c.dims → reader_at c.dims l ≡ c.rank → got' l ≡ got l ++ more
    → length (in_of c3 l).parcel.untaken ≤ length (in_of c l).parcel.untaken + length (flat_map (λ (p : Shipped). p.entries) more)
lies_left c c1 c2 c3 got got' same fewer lies l more b e grew =
    let d : c1.dims ≡ c.dims = ap (λ (t : State). t.dims) same in
    let r : c1.rank ≡ c.rank = ap (λ (t : State). t.rank) same in
    let ins : (in_of c1 l).parcel.untaken ≡ (in_of c l).parcel.untaken = ap (λ (t : State). (in_of t l).parcel.untaken) same in
    let rest = lies l more (subst (λ ds. l < links ds) (sym d) b) (subst (λ (ds : List ℕ). reader_at ds l ≡ c1.rank) (sym d) (e ∙ sym r)) grew in
    omega (arith, ap length ins, lies_less (in_of c1 l).parcel.untaken (flat_map (λ (p : Shipped). p.entries) more) (in_of c2 l).parcel.untaken (in_of c3 l).parcel.untaken rest (fewer l))

-- pushes leave a conveyor its own links
once : (ends : List ℕ → ℕ → ℕ) (c c1 : State) (log log' : Logs) → c1 ≡ record c { outs = c1.outs; pulled = c1.pulled }
    → ((l : ℕ) → l < links c1.dims → ends c1.dims l ≡ c1.rank → length (log' l) ≤ length (log l) + 1)
    → (l : ℕ) → l < links c.dims → ends c.dims l ≡ c.rank → length (log' l) ≤ length (log l) + 1
once ends c c1 log log' same one l b e =
    let d : c1.dims ≡ c.dims = ap (λ (t : State). t.dims) same in
    let r : c1.rank ≡ c.rank = ap (λ (t : State). t.rank) same in
    one l (subst (λ ds. l < links ds) (sym d) b) (subst (λ (ds : List ℕ). ends ds l ≡ c1.rank) (sym d) (e ∙ sym r))

-- one way of a turn: pushes, an advance and pulls
pub advances_once : (cap : ℕ) (told : Bool) (c c1 c2 c3 : State) (port port' : PortView) → c1 ≡ record c { outs = c1.outs; pulled = c1.pulled }
    → StaysAtPort told c1 c2 port port' → ListsGrow cap c1 port port' → WereAsked c1 c2 port port' → c3 ≡ record c2 { ins = c3.ins; pulled = c3.pulled } → InboxesShrink c2 c3 → AdvancesOnce cap c c3 port port'
advances_once cap told c c1 c2 c3 port port' same stays grows asked took fewer =
    let steady : c1.steady ≡ c.steady = ap (λ (t : State). t.steady) same in
    record {
      steady = ap (λ (t : State). t.steady) took ∙ (stays.steady ∙ steady);
      same_port = stays.same_port;
      grows = record {
        sent_grows = grows.sent_grows;
        got_grows = grows.got_grows;
        one_sent = once sender_at c c1 port.sent port'.sent same grows.one_sent;
        one_got = once reader_at c c1 port.got port'.got same grows.one_got;
        fills = λ l more grew. subst (λ b. IsConveyorShape b cap more) steady (grows.fills l more grew);
        shape = λ l was. subst (λ b. IsConveyorShape b cap (port'.sent l)) steady (grows.shape l (subst (λ b. IsConveyorShape b cap (port.sent l)) (sym steady) was));
      };
      lie = lies_left c c1 c2 c3 port.got port'.got same fewer asked.lies;
    }

-- done asking, or a push was refused
pub asked_or : (es : List (ℕ × Item)) (next : ℕ) (done : Bool) (P : Type 0) → done ≡ (next == length es) → next ≤ length es → ((to : ℕ) (x : Item) → slice_get es next ≡ Some (to, x) → P) → (done ≡ true) ⊎ P
asked_or es next true P all low refused = inl refl
asked_or es next false P all low refused =
    let left : next < length es = elim (cases_lt next (length es)) [ inl b ↦ b | inr p ↦ absurd (clash (eq-eqb next (length es) (omega (arith, p, low))) (sym all)) ] in
    let x : (x : ℕ × Item) × (slice_get es next ≡ Some x) = find es next left in
    inr (refused x.0.0 x.0.1 x.1) where
      clash : {b : Bool} → b ≡ true → b ≡ false → ⊥
      clash t f = absurd (cc)

-- all read, or an answer was refused
pub read_or : (o : Option ℕ) (A P : Type 0) → (o ≡ None → A) → ((to : ℕ) → o ≡ Some to → P) → A ⊎ P
read_or None A P f g = inl (f refl)
read_or (Some to) A P f g = inr (g to refl)

-- a turn that moved nothing on either way
pub stuck : {S : Type 0} (T : Talk S) (n : BiState S) (es : List (ℕ × Item)) (cap next : ℕ) (done over : Bool) (asker' : S) (lines' : List (List ℕ)) (q1 q2 q3 r1 r2 r3 : State) (refused : Option ℕ) (old new : Sides) (known : Known)
    → PushesQueries es cap n.next next n.queries q1 → done ≡ (next == length es) → AgreesWith q1 old.asking old.asked
    → Advances q1 q2 done old.asking old.asked new.asking new.asked → Advanced q1 q2 cap old.asking new.asking old.asked new.asked known.crowded known.idle
    → AnswersQueries T n.asker q2 q3 n.replies r1 → (refused ≡ None → AllRead q3) → IfSome refused (λ to. RefusesAnswer cap to q3 r1) → AgreesWith r1 old.replying old.replied
    → over ≡ is_complete q3.phase → Advances r1 r2 over old.replying old.replied new.replying new.replied → Advanced r1 r2 cap old.replying new.replying old.replied new.replied known.replies_crowded known.replies_idle
    → Hears T n.asker asker' n.lines lines' r2 r3 → IsGrid q3.dims → q3.rank < ranks q3.dims → IsGrid r3.dims → r3.rank < ranks r3.dims
    → ((l : ℕ) → new.asking l ≡ old.asking l) → ((l : ℕ) → new.asked l ≡ old.asked l) → ((l : ℕ) → new.replying l ≡ old.replying l) → ((l : ℕ) → new.replied l ≡ old.replied l)
    → IsStuckBoth n (record { asker = asker'; next = next; lines = lines'; queries = q3; replies = r3 }) old new known
stuck T n es cap next done over asker' lines' q1 q2 q3 r1 r2 r3 refused old new known push all agrees adv served ans read toward agrees' is_over adv' served' hears grid own grid' own' s1 g1 s2 g2 =
    let dims_q : q3.dims ≡ n.queries.dims = ap (λ (c : State). c.dims) ans.same ∙ (adv.dims ∙ ap (λ (c : State). c.dims) push.same) in
    let rank_q : q3.rank ≡ n.queries.rank = ap (λ (c : State). c.rank) ans.same ∙ (adv.rank ∙ ap (λ (c : State). c.rank) push.same) in
    let dims_r : r3.dims ≡ n.replies.dims = ap (λ (c : State). c.dims) hears.same ∙ (adv'.dims ∙ ap (λ (c : State). c.dims) ans.same_replies) in
    let rank_r : r3.rank ≡ n.replies.rank = ap (λ (c : State). c.rank) hears.same ∙ (adv'.rank ∙ ap (λ (c : State). c.rank) ans.same_replies) in
    let own_q : n.queries.rank < ranks n.queries.dims = subst (λ (ds : List ℕ). n.queries.rank < ranks ds) dims_q (subst (λ r. r < ranks q3.dims) rank_q own) in
    let own_r : n.replies.rank < ranks n.replies.dims = subst (λ (ds : List ℕ). n.replies.rank < ranks ds) dims_r (subst (λ r. r < ranks r3.dims) rank_r own') in
    record {
      queries = still n.queries q1 q2 q3 cap old.asking old.asked new.asking new.asked known.crowded known.idle push.same agrees adv.dims adv.rank adv.agrees served ans.same ans.fewer s1 g1;
      replies = still n.replies r1 r2 r3 cap old.replying old.replied new.replying new.replied known.replies_crowded known.replies_idle ans.same_replies agrees' adv'.dims adv'.rank adv'.agrees served' hears.same hears.fewer s2 g2;
      asked = subst (λ b. (b ≡ true) ⊎ HasCrowded n.queries.dims n.queries.rank known.crowded) (sym (ap (λ (c : State). c.done) ans.same ∙ adv.done_is))
          (asked_or es next done (HasCrowded n.queries.dims n.queries.rank known.crowded) all push.low
          (λ to x left. let full = push.refused to x left in
          crowded_toward n.queries q1 q2 q3 cap old.asking old.asked new.asking new.asked known.crowded known.idle push.same agrees adv.dims adv.rank adv.agrees served ans.same ans.fewer s1 to (subst IsGrid dims_q grid) own_q full.0 full.1));
      answered = read_or refused (AllRead q3) (HasCrowded n.replies.dims n.replies.rank known.replies_crowded) read
          (λ to e. let full = subst (λ o. IfSome o (λ to. RefusesAnswer cap to q3 r1)) e toward in
          crowded_toward n.replies r1 r2 r3 cap old.replying old.replied new.replying new.replied known.replies_crowded known.replies_idle ans.same_replies agrees' adv'.dims adv'.rank adv'.agrees served' hears.same hears.fewer s2 to (subst IsGrid dims_r grid') own_r full.low full.full);
      done = λ e. ap (λ (c : State). c.done) hears.same ∙ (adv'.done_is ∙ (is_over ∙ ap is_complete e));
    }
