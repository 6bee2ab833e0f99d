-- One more reply is pulled and heard.
use Rattle.std.proofs.Common.{◌≡◌, ◌≢◌, ℕ, zero, suc, ◌+◌, ◌^◌, ◌<◌, ◌≤◌, List, [], ◌∷◌, ◌++◌, length, drop, slice_get, Option, Some, None, refl, sym, ap, subst, ◌∙◌, inl, inr, arith, add-one}
use Rattle.std.proofs.lemmas.Bool.{cases_eq}
use Rattle.std.proofs.lemmas.List.{drop-drop, length-append}
use Rattle.std.proofs.lemmas.List.Elements.{All-nil, All-cons, All-append}
use Rattle.bale_items.specs.declared.item.Item.{Item}
use Rattle.route_tensor.specs.Grid.{ranks}
use Rattle.port_bank.specs.Machine.{Part, ItemLists, with_item}
use Rattle.port_bank.specs.Machine.Step.{Idle}
use Rattle.hop_core.specs.Relay.{waiting}
use Rattle.hop_core.specs.State.{State, lowest_unread, pulls}
use Rattle.convey.specs.Buffers.{buffers_of, in_of}
use Rattle.convey.specs.Conveyors.{KeepsAgreement, IsStepOf, GivesNext}
use Rattle.convey.specs.Parts.{part_of}
use Rattle.round_program.specs.Talks.{Talk, TalkLaws, SameTalk}
use Rattle.round_program.specs.Replies.{heard_by, places_to}
use Rattle.query_node.specs.Taking.{HasHeard, Hears, HearsOne}
use Rattle.query_node.proofs.Offering.{item_here, item_other}
use Rattle.query_node.proofs.Orders.{Small, with_reply, hear_at, heard_more, hearing_keeps, place_low}
use Rattle.query_node.proofs.Pulling.{pulled_same, fewer_pulled, fewer_next}

get_drop : (n : ℕ) (xs : List ℕ) → slice_get (drop n xs) 0 ≡ slice_get xs n
get_drop zero [] = refl
get_drop (suc n) [] = refl
get_drop zero (x ∷ xs) = refl
get_drop (suc n) (x ∷ xs) = get_drop n xs

-- the line of a rank gives the number of the query to hear
pub line_gives : {S : Type 0} (T : Talk S) (start asker : S) (p f : ℕ) (lines : List (List ℕ)) (came : ItemLists) (i : Option ℕ) → HasHeard T start p asker lines came → f < p
    → ((xs : List ℕ) → slice_get lines f ≡ Some xs → i ≡ slice_get xs 0) → i ≡ slice_get (places_to f 0 (T.queries start)) (length (came 0 f))
line_gives T start asker p f lines came i is low first = first (drop (length (came 0 f)) (places_to f 0 (T.queries start))) (is.waits f low) ∙ get_drop (length (came 0 f)) (places_to f 0 (T.queries start))

pub line_low : {S : Type 0} (T : Talk S) (start asker : S) (p f : ℕ) (lines : List (List ℕ)) (came : ItemLists) (i : ℕ) → HasHeard T start p asker lines came → f < p
    → ((xs : List ℕ) → slice_get lines f ≡ Some xs → Some i ≡ slice_get xs 0) → i < length (T.queries asker)
line_low T start asker p f lines came i is low first =
    let gives = line_gives T start asker p f lines came (Some i) is low first in
    let b : i < 0 + length (T.queries start) = place_low f 0 (T.queries start) (length (came 0 f)) i (sym gives) in
    omega (arith, b, ap length is.same.queries)

-- one more reply of rank f
pub heard_one : {S : Type 0} (T : Talk S) → TalkLaws T → (start asker asker' : S) (p f : ℕ) (x : Item) (lines lines' : List (List ℕ)) (came : ItemLists) (i : Option ℕ) → HasHeard T start p asker lines came → f < p → x.a < 2 ^ 64
    → ((xs : List ℕ) → slice_get lines f ≡ Some xs → i ≡ slice_get xs 0) → ((xs : List ℕ) → slice_get lines f ≡ Some xs → slice_get lines' f ≡ Some (drop 1 xs)) → ((d : ℕ) → d ≢ f → slice_get lines' d ≡ slice_get lines d)
    → length lines' ≡ length lines → asker' ≡ hear_at T asker i x.a → HasHeard T start p asker' lines' (with_item came 0 f x)
heard_one {S} T laws start asker asker' p f x lines lines' came i is low word first here others all new =
    let gives = line_gives T start asker p f lines came i is low first in
    let more : heard_by T start (with_reply (came 0) f x) ≡ hear_at T (heard_by T start (came 0)) (slice_get (places_to f 0 (T.queries start)) (length (came 0 f))) x.a =
    heard_more T laws start 0 (T.queries start) (came 0) f x is.valid (omega arith) is.small word in
    let state : asker' ≡ heard_by T start (with_reply (came 0) f x) =
    new ∙ (ap (λ o. hear_at T asker o x.a) gives ∙ (ap (λ (t : S). hear_at T t (slice_get (places_to f 0 (T.queries start)) (length (came 0 f))) x.a) is.state ∙ sym more)) in
    let small : (d : ℕ) → Small (with_item came 0 f x 0 d) = λ d. elim (cases_eq d f) [
      | inl same ↦ subst Small (sym (subst (λ k. with_item came 0 f x 0 k ≡ came 0 k ++ x ∷ []) (sym same) (item_here came 0 f x))) (All-append (λ (y : Item). y.a < 2 ^ 64) (came 0 d) (x ∷ []) (is.small d) (All-cons (λ (y : Item). y.a < 2 ^ 64) x [] word (All-nil (λ (y : Item). y.a < 2 ^ 64))))
      | inr apart ↦ subst Small (sym (item_other came 0 f x d apart)) (is.small d)
    ] in
    record {
      valid = is.valid;
      same = subst (SameTalk T start) (sym state) (hearing_keeps T laws start 0 (T.queries start) (with_reply (came 0) f x) is.valid (omega arith) small);
      state = state;
      all = all ∙ is.all;
      waits = λ d b. elim (cases_eq d f) [
        | inl same ↦
            let n = length (came 0 f) in
            let P = places_to f 0 (T.queries start) in
            let count : length (with_item came 0 f x 0 f) ≡ n + 1 = ap length (item_here came 0 f x) ∙ omega (arith, length-append (came 0 f) (x ∷ [])) in
            subst (λ k. slice_get lines' k ≡ Some (drop (length (with_item came 0 f x 0 k)) (places_to k 0 (T.queries start)))) (sym same)
            (here (drop n P) (is.waits f low) ∙ ap Some (drop-drop 1 n P ∙ ap (λ m. drop m P) (sym count)))
        | inr apart ↦ others d apart ∙ (is.waits d b ∙ ap (λ (ys : List Item). Some (drop (length ys) (places_to d 0 (T.queries start)))) (sym (item_other came 0 f x d apart)))
      ];
      small = small;
    }

-- on the conveyor
pub hears_none : {S : Type 0} (T : Talk S) (s : S) (lines : List (List ℕ)) (r : State) → Hears T s s lines lines r r
hears_none T s lines r = record { same = refl; fewer = λ l. omega arith; kept = λ sent got a. a; talk = refl; on = λ start replying replied a is. is }

pub hears_both : {S : Type 0} (T : Talk S) (s t u : S) (ls ms ns : List (List ℕ)) (r r1 r2 : State) → Hears T s t ls ms r r1 → Hears T t u ms ns r1 r2 → Hears T s u ls ns r r2
hears_both T s t u ls ms ns r r1 r2 f g =
    let dims : ranks r1.dims ≡ ranks r.dims = ap (λ (x : State). ranks x.dims) f.same in
    record {
      same = g.same ∙ ap (λ (x : State). record x { ins = r2.ins; pulled = r2.pulled }) f.same;
      fewer = λ l. omega (arith, f.fewer l, g.fewer l);
      kept = λ sent got a. g.kept sent got (f.kept sent got a);
      talk = g.talk ∙ f.talk;
      on = λ start replying replied a is.
          subst (λ p. HasHeard T start p u ns (part_of (buffers_of r2) replying replied).pulled) dims
          (g.on start replying replied (f.kept replying replied a)
          (subst (λ p. HasHeard T start p t ms (part_of (buffers_of r1) replying replied).pulled) (sym dims) (f.on start replying replied a is)));
    }

-- after so many pulls of one inbox as after n, and one more, which is heard
pub hears_next : {S : Type 0} (T : Talk S) (s t u : S) (ls ms ns : List (List ℕ)) (n from from' v : ℕ) (x : Item) (r : State) → r.epoch ≡ 0 → Hears T s t ls ms r (pulls n r) → GivesNext (pulls n r) from x → from' ≡ from
    → x.a ≡ v → HearsOne T from' v t u ms ns → Hears T s u ls ns r (pulls (n + 1) r)
hears_next T s t u ls ms ns n from from' v x r first f next same word one =
    let c : State = pulls n r in
    let c' : State = pulls (suc n) r in
    let e : c.epoch ≡ 0 = ap (λ (y : State). y.epoch) f.same ∙ first in
    let here : Hears T t u ms ns c c' = record {
      same = pulled_same c (lowest_unread c);
      fewer = fewer_pulled c (lowest_unread c);
      kept = next.kept;
      talk = one.talk;
      on = λ start replying replied a is.
          let part : Part = part_of (buffers_of c) replying replied in
          let heard : HasHeard T start (length ms) u ns (with_item part.pulled 0 from x) =
          subst (λ k. HasHeard T start (length ms) u ns (with_item part.pulled 0 k x)) same (one.on start part.pulled x word (subst (λ p. HasHeard T start p t ms part.pulled) (sym is.all) is)) in
          subst (λ (q : Part). HasHeard T start (ranks c.dims) u ns q.pulled) (sym (next.step replying replied a).is)
          (subst (λ k. HasHeard T start (ranks c.dims) u ns (with_item part.pulled k from x)) (sym e) (subst (λ p. HasHeard T start p u ns (with_item part.pulled 0 from x)) is.all heard));
    } in
    subst (λ m. Hears T s u ls ns r (pulls m r)) (sym (add-one n)) (hears_both T s t u ls ms ns r c c' f here)

-- it was looked for unread replies
pub hears_unread : {S : Type 0} (T : Talk S) (s t : S) (ls ms : List (List ℕ)) (r c c' : State) → Hears T s t ls ms r c → c' ≡ record c { pulled = None } → KeepsAgreement c c' → IsStepOf Idle c c' → Hears T s t ls ms r c'
hears_unread T s t ls ms r c c' f new kept step =
    let here : Hears T t t ms ms c c' = record {
      same = subst (λ (y : State). y ≡ record c { ins = y.ins; pulled = y.pulled }) (sym new) refl;
      fewer = λ l. omega (arith, ap (λ (y : State). length (in_of y l).parcel.untaken) new);
      kept = kept;
      talk = refl;
      on = λ start replying replied a is. subst (λ (q : Part). HasHeard T start (ranks c.dims) t ms q.pulled) (sym (step replying replied a).is) is;
    } in
    hears_both T s t t ls ms ms r c c' f here

-- all of one inbox
pub record Taking {S : Type 0} (T : Talk S) (s t : S) (ls ms : List (List ℕ)) (n : ℕ) (r : State) : Type 0 where
  pub hears : Hears T s t ls ms r (pulls n r)
  pub fewer : n + waiting (pulls n r).ins ≤ waiting r.ins

pub taking_next : {S : Type 0} (T : Talk S) (s t u : S) (ls ms ns : List (List ℕ)) (n from from' v : ℕ) (x : Item) (r : State) → r.epoch ≡ 0 → Taking T s t ls ms n r → GivesNext (pulls n r) from x → from' ≡ from
    → x.a ≡ v → HearsOne T from' v t u ms ns → Taking T s u ls ns (n + 1) r
taking_next T s t u ls ms ns n from from' v x r first f next same word one =
    record { hears = hears_next T s t u ls ms ns n from from' v x r first f.hears next same word one; fewer = fewer_next r n from x (waiting r.ins) f.fewer next }
