-- Steps of an advance, one after another.
use Rattle.std.proofs.Common.{◌≡◌, ◌≢◌, ℕ, ◌+◌, ◌<◌, ◌≤◌, Bool, false, List, [], ◌∷◌, ◌++◌, length, sum, inl, inr, refl, sym, ap, subst, ◌∙◌, arith, length-append}
use Rattle.std.proofs.lemmas.Bool.{cases_eq}
use Rattle.std.specs.List.{flat_map}
use Rattle.std.proofs.lemmas.List.{append-nil, append_assoc, append_cancel_left}
use Rattle.std.proofs.lemmas.List.Elements.{All-append}
use Rattle.bale_items.specs.Counters.{RoseOrFull}
use Rattle.bale_items.specs.declared.item.Entry.{Entry}
use Rattle.item_buffer.specs.Contents.{Shipped}
use Rattle.route_tensor.specs.Grid.{ranks, IsGrid}
use Rattle.route_tensor.specs.Link.{links}
use Rattle.route_tensor.specs.Ends.{hop_at, sender_at, reader_at}
use Rattle.route_tensor.specs.Neighbour.{hop_to, neighbour, link_to, link_from, out_index, in_index}
use Rattle.route_tensor.proofs.Links.{link_below}
use Rattle.route_tensor.proofs.Ends.{sender_at-link, reader_at-link}
use Rattle.route_tensor.proofs.Neighbours.{to_neighbour, from_neighbour, out_index-link_to, in_index-link_from, out_stands, in_stands}
use Rattle.port_bank.specs.Port.{PortView, is_idle}
use Rattle.port_bank.specs.Logs.{Logs}
use Rattle.port_bank.proofs.Frames.{port_at_first, port_then, ins_at_first, ins_then, outs_at_first, outs_then}
use Rattle.list_laws.specs.Lists.{IsPrefix}
use Rattle.port_bank.proofs.Fronts.{begins_refl, begins_trans}
use Rattle.port_bank.specs.Shapes.{IsFilled, IsConveyorShape}
use Rattle.hop_core.specs.Link.{is_due, is_wanted}
use Rattle.hop_core.specs.State.{State, at_end}
use Rattle.convey.specs.Buffers.{out_of, in_of}
use Rattle.convey.specs.Due.{IsDue, WantsParcel, WasServed}
use Rattle.convey.specs.AdvanceSteps.{IsReady, GoesOn, LeftByPosts, LeftByCollects, WasAsked, WasPosted}

-- the links of a neighbour
pub from_below : (dims : List ℕ) (r i : ℕ) → IsGrid dims → r < ranks dims → i < sum dims → link_from dims r i < links dims
from_below dims r i g own h = link_below dims (hop_to dims i) (neighbour dims r i) r g (from_neighbour dims r i g own h)

pub from_reader : (dims : List ℕ) (r i : ℕ) → IsGrid dims → r < ranks dims → i < sum dims → reader_at dims (link_from dims r i) ≡ r
from_reader dims r i g own h = reader_at-link dims (hop_to dims i) (neighbour dims r i) r g (from_neighbour dims r i g own h)

pub to_below : (dims : List ℕ) (r i : ℕ) → IsGrid dims → r < ranks dims → i < sum dims → link_to dims r i < links dims
to_below dims r i g own h = link_below dims (hop_to dims i) r (neighbour dims r i) g (to_neighbour dims r i g own h)

pub to_sender : (dims : List ℕ) (r i : ℕ) → IsGrid dims → r < ranks dims → i < sum dims → sender_at dims (link_to dims r i) ≡ r
to_sender dims r i g own h = sender_at-link dims (hop_to dims i) r (neighbour dims r i) g (to_neighbour dims r i g own h)

pub below_sum : (dims ds : List ℕ) (i n : ℕ) → ds ≡ dims → n ≡ sum ds → i < n → i < sum dims
below_sum dims ds i n e count h = subst (λ m. i < m) (count ∙ ap sum e) h

pub link_here : (made : List ℕ → ℕ → ℕ → ℕ) (dims ds : List ℕ) (rank r i link : ℕ) → ds ≡ dims → r ≡ rank → link ≡ made ds r i → link ≡ made dims rank i
link_here made dims ds rank r i link e f h = h ∙ λ j. made (e j) (f j) i

none_left : (xs : List Shipped) → length xs ≡ 0 → xs ≡ []
none_left [] h = refl
none_left (x ∷ xs) h = absurd (omega arith)

pub no_more : (xs more : List Shipped) → xs ≡ xs ++ more → more ≡ []
no_more xs more e = append_cancel_left xs more [] (sym e ∙ sym (append-nil xs))

-- no parcel more is of any shape
pub none_filled : (steady : Bool) (cap : ℕ) (xs more : List Shipped) → xs ≡ xs ++ more → IsConveyorShape steady cap more
none_filled steady cap xs more e = subst (IsConveyorShape steady cap) (sym (no_more xs more e)) (λ i d below. absurd (omega (arith, below)))

pub goes_on_refl : (st : State) (sent got : Logs) → GoesOn st st sent sent got got
goes_on_refl st sent got = record {
  cap = refl;
  steady = refl;
  epoch = refl;
  done = refl;
  phase = refl;
  part = refl;
  sent_grows = λ l. begins_refl (sent l);
  got_grows = λ l. begins_refl (got l);
  fills = λ l more e. none_filled st.steady st.cap (sent l) more e;
}

pub goes_on_trans : (a b c : State) (sent sent' sent'' got got' got'' : Logs)
    → GoesOn a b sent sent' got got' → GoesOn b c sent' sent'' got' got'' → GoesOn a c sent sent'' got got''
goes_on_trans a b c sent sent' sent'' got got' got'' p q = record {
  cap = q.cap ∙ p.cap;
  steady = q.steady ∙ p.steady;
  epoch = q.epoch ∙ p.epoch;
  done = q.done ∙ p.done;
  phase = q.phase ∙ p.phase;
  part = q.part ∙ p.part;
  sent_grows = λ l. begins_trans (sent l) (sent' l) (sent'' l) (p.sent_grows l) (q.sent_grows l);
  got_grows = λ l. begins_trans (got l) (got' l) (got'' l) (p.got_grows l) (q.got_grows l);
  fills = λ l more e.
      let first : List Shipped = (p.sent_grows l).rest in
      let second : List Shipped = (q.sent_grows l).rest in
      let both : more ≡ first ++ second =
      append_cancel_left (sent l) more (first ++ second) (sym e ∙ ((q.sent_grows l).is ∙ (ap (λ u. u ++ second) (p.sent_grows l).is ∙ append_assoc (sent l) first second))) in
      let later = subst (λ n. IsConveyorShape a.steady n second) p.cap (subst (λ t. IsConveyorShape t b.cap second) p.steady (q.fills l second (q.sent_grows l).is)) in
      subst (IsConveyorShape a.steady a.cap) (sym both) (All-append (λ (d : Shipped). d.last ≡ false → IsFilled a.steady a.cap d) first second (p.fills l first (p.sent_grows l).is) later);
}

pub ready_at : (dims ds : List ℕ) (rank r : ℕ) (st : State) (sent got : Logs) → ds ≡ dims → r ≡ rank → IsReady ds r st sent got → IsReady dims rank st sent got
ready_at dims ds rank r st sent got e f k = subst (λ q. IsReady dims q st sent got) f (subst (λ q. IsReady q r st sent got) e k)

pub link_at : (dims ds : List ℕ) (m : ℕ) → ds ≡ dims → m < links dims → m < links ds
link_at dims ds m e h = subst (λ q. m < links q) (sym e) h

pub end_at : (end_of : List ℕ → ℕ → ℕ) (dims ds : List ℕ) (rank r m : ℕ) → ds ≡ dims → r ≡ rank → end_of dims m ≡ rank → end_of ds m ≡ r
end_at end_of dims ds rank r m e f h = ap (λ q. end_of q m) e ∙ (h ∙ sym f)

-- a list that grew and is as it was at first never grew
pub never_grew : (xs ys zs : List Shipped) → IsPrefix xs ys → IsPrefix ys zs → zs ≡ xs → ys ≡ xs
never_grew xs ys zs p q e =
    let n : length p.rest ≡ 0 = omega (arith, ap length p.is, ap length q.is, ap length e, length-append xs p.rest, length-append ys q.rest) in
    p.is ∙ (ap (λ r. xs ++ r) (none_left p.rest n) ∙ append-nil xs)

-- a log has one parcel more at most
pub at_most_one : (entries : List Entry) (log log' : List Shipped) → WasPosted entries log log' → length log' ≤ length log + 1
at_most_one entries log log' p = elim p [
  | inl same ↦ omega (arith, ap length same)
  | inr more ↦ omega (arith, ap length more.is, length-append log (more.parcel ∷ []))
]

-- what stays where nothing was sent
pub stays_more : {X : Type 0} (sent sent' sent'' : Logs) (f f' f'' : ℕ → X) → ((l : ℕ) → IsPrefix (sent l) (sent' l)) → ((l : ℕ) → IsPrefix (sent' l) (sent'' l))
    → ((l : ℕ) → sent' l ≡ sent l → f' l ≡ f l) → ((l : ℕ) → sent'' l ≡ sent' l → f'' l ≡ f' l) → (l : ℕ) → sent'' l ≡ sent l → f'' l ≡ f l
stays_more sent sent' sent'' f f' f'' p q a b l same =
    let before : sent' l ≡ sent l = never_grew (sent l) (sent' l) (sent'' l) (p l) (q l) same in
    b l (same ∙ sym before) ∙ a l before

-- what posts leave, and what collects leave, one after another
pub posts_first : (st : State) (p : PortView) → IsReady p.dims p.rank st p.sent p.got → LeftByPosts st st p p
posts_first st p is = record { ready = is; goes_on = goes_on_refl st p.sent p.got; ins = refl; idle = λ l same. refl; same_ins = ins_at_first; same_port = port_at_first }

pub posts_then : (a b c : State) (p q r : PortView) → LeftByPosts a b p q → LeftByPosts b c q r → LeftByPosts a c p r
posts_then a b c p q r x y = record {
  ready = ready_at p.dims q.dims p.rank q.rank c r.sent r.got x.same_port.dims x.same_port.rank y.ready;
  goes_on = goes_on_trans a b c p.sent q.sent r.sent p.got q.got r.got x.goes_on y.goes_on;
  ins = y.ins ∙ x.ins;
  idle = stays_more p.sent q.sent r.sent (is_idle p) (is_idle q) (is_idle r) x.goes_on.sent_grows y.goes_on.sent_grows x.idle y.idle;
  same_ins = ins_then x.same_ins y.same_ins;
  same_port = port_then x.same_port y.same_port;
}

pub collects_first : (st : State) (p : PortView) → IsReady p.dims p.rank st p.sent p.got → LeftByCollects st st p p
collects_first st p is = record { ready = is; goes_on = goes_on_refl st p.sent p.got; outs = refl; same_outs = outs_at_first; same_port = port_at_first }

pub collects_then : (a b c : State) (p q r : PortView) → LeftByCollects a b p q → LeftByCollects b c q r → LeftByCollects a c p r
collects_then a b c p q r x y = record {
  ready = ready_at p.dims q.dims p.rank q.rank c r.sent r.got x.same_port.dims x.same_port.rank y.ready;
  goes_on = goes_on_trans a b c p.sent q.sent r.sent p.got q.got r.got x.goes_on y.goes_on;
  outs = y.outs ∙ x.outs;
  same_outs = outs_then x.same_outs y.same_outs;
  same_port = port_then x.same_port y.same_port;
}

-- Collecting: the first i links in were asked, and the others are as they were.
pub record NotAsked (b c : State) (l : ℕ) (log log' : List Shipped) (at at' : ℕ) : Type 0 where
  pub inbox : in_of c l ≡ in_of b l
  pub got : log' ≡ log
  pub noted : at' ≡ at

pub record Collecting (dims : List ℕ) (rank i : ℕ) (b c : State) (got got' : Logs) (noted noted' : ℕ → ℕ) (idle' : ℕ → Bool) : Type 0 where
  pub asked : (l : ℕ) → l < links dims → reader_at dims l ≡ rank → in_index dims l < i → WasAsked b l (got l) (got' l) (noted l) (noted' l) (idle' l)
  pub to_ask : (l : ℕ) → l < links dims → reader_at dims l ≡ rank → i ≤ in_index dims l → NotAsked b c l (got l) (got' l) (noted l) (noted' l)
  pub lies : (l : ℕ) (more : List Shipped) → l < links dims → reader_at dims l ≡ rank → got' l ≡ got l ++ more → (in_of c l).parcel.untaken ≡ (in_of b l).parcel.untaken ++ flat_map (λ p. p.entries) more

pub collecting_none : (dims : List ℕ) (rank : ℕ) (b : State) (got : Logs) (noted : ℕ → ℕ) (idle : ℕ → Bool) → Collecting dims rank 0 b b got got noted noted idle
collecting_none dims rank b got noted idle = record {
  asked = λ l h to less. absurd (omega arith);
  to_ask = λ l h to le. record { inbox = refl; got = refl; noted = refl };
  lies = λ l more h to e. sym (ap (λ m. (in_of b l).parcel.untaken ++ flat_map (λ p. p.entries) m) (no_more (got l) more e) ∙ append-nil (in_of b l).parcel.untaken);
}

pub collecting_all : (dims : List ℕ) (rank i : ℕ) (b c : State) (got got' : Logs) (noted noted' : ℕ → ℕ) (idle' : ℕ → Bool) → IsGrid dims → i ≡ sum dims
    → Collecting dims rank i b c got got' noted noted' idle' → (l : ℕ) → l < links dims → reader_at dims l ≡ rank
    → WasAsked b l (got l) (got' l) (noted l) (noted' l) (idle' l)
collecting_all dims rank i b c got got' noted noted' idle' g all k l h to = k.asked l h to (omega (arith, all, (in_stands dims rank l g h to).below))

-- what asking one link leaves of the others
pub record OthersStay (dims : List ℕ) (rank link : ℕ) (b c : State) (got got' : Logs) (noted noted' : ℕ → ℕ) (idle idle' : ℕ → Bool) : Type 0 where
  pub lies : (more : List Shipped) → got' link ≡ got link ++ more → (in_of c link).parcel.untaken ≡ (in_of b link).parcel.untaken ++ flat_map (λ p. p.entries) more
  pub inbox : (m : ℕ) → m < links dims → reader_at dims m ≡ rank → m ≢ link → in_of c m ≡ in_of b m
  pub got_stays : (m : ℕ) → m ≢ link → got' m ≡ got m
  pub noted_stays : (m : ℕ) → m ≢ link → noted' m ≡ noted m
  pub idle_stays : (m : ℕ) → m ≢ link → idle' m ≡ idle m

pub asked_still : (b : State) (l : ℕ) (log log' log'' : List Shipped) (noted noted' noted'' : ℕ) (idle idle' : Bool)
    → log'' ≡ log' → noted'' ≡ noted' → idle' ≡ idle
    → WasAsked b l log log' noted noted' idle → WasAsked b l log log'' noted noted'' idle'
asked_still b l log log' log'' noted noted' noted'' idle idle' same_log same_noted same_idle w = record {
  left = λ no. same_log ∙ w.left no;
  unasked = λ no. same_noted ∙ w.unasked no;
  rose = λ yes same. subst (RoseOrFull noted) (sym same_noted) (w.rose yes (sym same_log ∙ same));
  idle = λ yes same. same_idle ∙ w.idle yes (sym same_log ∙ same);
  once = omega (arith, ap length same_log, w.once);
}

pub wants_same : (b c : State) (l : ℕ) → in_of c l ≡ in_of b l → WantsParcel b l → WantsParcel c l
wants_same b c l same w = ap is_wanted same ∙ w

pub asked_now : (b c : State) (l : ℕ) (log log' log'' : List Shipped) (noted noted' noted'' : ℕ) (idle : Bool)
    → NotAsked b c l log log' noted noted' → WasAsked c l log' log'' noted' noted'' idle → WasAsked b l log log'' noted noted'' idle
asked_now b c l log log' log'' noted noted' noted'' idle n w =
    let up : WantsParcel b l → WantsParcel c l = wants_same b c l n.inbox in
    let down : WantsParcel c l → WantsParcel b l = wants_same c b l (sym n.inbox) in
    record {
      left = λ no. w.left (λ q. no (down q)) ∙ n.got;
      unasked = λ no. w.unasked (λ q. no (down q)) ∙ n.noted;
      rose = λ yes same. subst (λ k. RoseOrFull k noted'') n.noted (w.rose (up yes) (same ∙ sym n.got));
      idle = λ yes same. w.idle (up yes) (same ∙ sym n.got);
      once = omega (arith, ap length n.got, w.once);
    }

module _ (dims : List ℕ) (rank i link : ℕ) (b c d : State) (got got' got'' : Logs) (noted noted' noted'' : ℕ → ℕ) (idle' idle'' : ℕ → Bool)
    (g : IsGrid dims) (own : rank < ranks dims) (below : i < sum dims) (k : Collecting dims rank i b c got got' noted noted' idle')
    (here : link ≡ link_from dims rank i) (w : WasAsked c link (got' link) (got'' link) (noted' link) (noted'' link) (idle'' link))
    (o : OthersStay dims rank link c d got' got'' noted' noted'' idle' idle'') where
  -- links of other numbers are others
  other_in : (l : ℕ) → in_index dims l ≢ i → l ≢ link
  other_in l ne e = ne (ap (in_index dims) (e ∙ here) ∙ in_index-link_from dims rank i g own below)

  same_in : (l : ℕ) → l < links dims → reader_at dims l ≡ rank → in_index dims l ≡ i → link ≡ l
  same_in l h to e = here ∙ ap (link_from dims rank) (sym e) ∙ (in_stands dims rank l g h to).number

  pub collecting_more : Collecting dims rank (i + 1) b d got got'' noted noted'' idle''
  collecting_more = record {
    asked = λ l h to le. elim (cases_eq (in_index dims l) i) [
      | inl same ↦
          let e = same_in l h to same in
          let v = subst (λ m. WasAsked c m (got' m) (got'' m) (noted' m) (noted'' m) (idle'' m)) e w in
          asked_now b c l (got l) (got' l) (got'' l) (noted l) (noted' l) (noted'' l) (idle'' l) (k.to_ask l h to (omega arith)) v
      | inr ne ↦
          let x = other_in l ne in
          asked_still b l (got l) (got' l) (got'' l) (noted l) (noted' l) (noted'' l) (idle' l) (idle'' l)
          (o.got_stays l x) (o.noted_stays l x) (o.idle_stays l x) (k.asked l h to (omega arith))
    ];
    to_ask = λ l h to le.
        let x = other_in l (λ e. omega arith) in
        let t = k.to_ask l h to (omega arith) in
        record { inbox = o.inbox l h to x ∙ t.inbox; got = o.got_stays l x ∙ t.got; noted = o.noted_stays l x ∙ t.noted };
    lies = λ l more h to e. elim (cases_eq (in_index dims l) i) [
      | inl same ↦
          let t = k.to_ask l h to (omega arith) in
          subst (λ m. got'' m ≡ got' m ++ more → (in_of d m).parcel.untaken ≡ (in_of c m).parcel.untaken ++ flat_map (λ p. p.entries) more) (same_in l h to same) (o.lies more) (e ∙ ap (λ log. log ++ more) (sym t.got))
          ∙ ap (λ x. x.parcel.untaken ++ flat_map (λ p. p.entries) more) t.inbox
      | inr ne ↦
          let x = other_in l ne in
          ap (λ q. q.parcel.untaken) (o.inbox l h to x) ∙ k.lies l more h to (sym (o.got_stays l x) ∙ e)
    ];
  }

-- Serving: the first i links out were served, and the others were not looked at. Each was posted on
-- once at most.
pub record Serving (dims : List ℕ) (rank i : ℕ) (b c : State) (sent sent' : Logs) (looks looks' : ℕ → ℕ) (crowded' : ℕ → Bool) : Type 0 where
  pub served : (l : ℕ) → l < links dims → sender_at dims l ≡ rank → out_index dims l < i → WasServed c l (looks l) (looks' l) (crowded' l)
  pub to_serve : (l : ℕ) → l < links dims → sender_at dims l ≡ rank → i ≤ out_index dims l → looks' l ≡ looks l
  pub waits : (l : ℕ) → l < links dims → sender_at dims l ≡ rank → sent' l ≡ sent l → (out_of c l).parcel.untaken ≡ (out_of b l).parcel.untaken
  pub to_post : (l : ℕ) → l < links dims → sender_at dims l ≡ rank → i ≤ out_index dims l → sent' l ≡ sent l
  pub posted : (l : ℕ) → l < links dims → sender_at dims l ≡ rank → WasPosted (out_of b l).parcel.untaken (sent l) (sent' l)

pub serving_none : (dims : List ℕ) (rank : ℕ) (b : State) (sent : Logs) (looks : ℕ → ℕ) (crowded : ℕ → Bool) → Serving dims rank 0 b b sent sent looks looks crowded
serving_none dims rank b sent looks crowded = record {
  served = λ l h from less. absurd (omega arith);
  to_serve = λ l h from le. refl;
  waits = λ l h from same. refl;
  to_post = λ l h from le. refl;
  posted = λ l h from. inl refl;
}

pub serving_all : (dims : List ℕ) (rank i : ℕ) (b c : State) (sent sent' : Logs) (looks looks' : ℕ → ℕ) (crowded' : ℕ → Bool) → IsGrid dims → i ≡ sum dims
    → Serving dims rank i b c sent sent' looks looks' crowded' → (l : ℕ) → l < links dims → sender_at dims l ≡ rank → WasServed c l (looks l) (looks' l) (crowded' l)
serving_all dims rank i b c sent sent' looks looks' crowded' g all k l h from = k.served l h from (subst (λ n. out_index dims l < n) (sym all) ((out_stands dims rank l g h from).below))

-- what serving one link leaves of the others
pub record OthersWait (dims : List ℕ) (rank link : ℕ) (b c : State) (sent sent' : Logs) (looks looks' : ℕ → ℕ) (crowded crowded' : ℕ → Bool) : Type 0 where
  pub out : (m : ℕ) → m < links dims → sender_at dims m ≡ rank → m ≢ link → out_of c m ≡ out_of b m
  pub waits : sent' link ≡ sent link → (out_of c link).parcel.untaken ≡ (out_of b link).parcel.untaken
  pub posted : WasPosted (out_of b link).parcel.untaken (sent link) (sent' link)
  pub sent_stays : (m : ℕ) → m ≢ link → sent' m ≡ sent m
  pub looks_stays : (m : ℕ) → m ≢ link → looks' m ≡ looks m
  pub crowded_stays : (m : ℕ) → m ≢ link → crowded' m ≡ crowded m
  pub same_dims : c.dims ≡ b.dims
  pub ins : c.ins ≡ b.ins
  pub done : c.done ≡ b.done
  pub cap : c.cap ≡ b.cap
  pub steady : c.steady ≡ b.steady

-- a link whose own buffer stays is due as before
pub due_same : (b c : State) (l : ℕ) → c.dims ≡ b.dims → c.ins ≡ b.ins → c.done ≡ b.done → c.cap ≡ b.cap → c.steady ≡ b.steady → out_of c l ≡ out_of b l → IsDue c l → IsDue b l
due_same b c l dims ins done cap steady out due =
    sym (λ i. is_due (cap i) (steady i) (at_end (dims i) (ins i) (done i) (hop_at (dims i) l)) (out i)) ∙ due

module _ (dims : List ℕ) (rank i link : ℕ) (b c d : State) (sent sent' sent'' : Logs) (looks looks' looks'' : ℕ → ℕ) (crowded' crowded'' : ℕ → Bool)
    (g : IsGrid dims) (own : rank < ranks dims) (below : i < sum dims) (k : Serving dims rank i b c sent sent' looks looks' crowded')
    (grew : (l : ℕ) → IsPrefix (sent l) (sent' l)) (grows : (l : ℕ) → IsPrefix (sent' l) (sent'' l))
    (here : link ≡ link_to dims rank i) (o : OthersWait dims rank link c d sent' sent'' looks' looks'' crowded' crowded'') where
  other_out : (l : ℕ) → out_index dims l ≢ i → l ≢ link
  other_out l ne e = ne (ap (out_index dims) (e ∙ here) ∙ out_index-link_to dims rank i g own below)

  same_out : (l : ℕ) → l < links dims → sender_at dims l ≡ rank → out_index dims l ≡ i → link ≡ l
  same_out l h from e = here ∙ ap (link_to dims rank) (sym e) ∙ (out_stands dims rank l g h from).number

  pub waits_more : (l : ℕ) → l < links dims → sender_at dims l ≡ rank → sent'' l ≡ sent l → (out_of d l).parcel.untaken ≡ (out_of b l).parcel.untaken
  waits_more l h from same =
      let before : sent' l ≡ sent l = never_grew (sent l) (sent' l) (sent'' l) (grew l) (grows l) same in
      elim (cases_eq l link) [
        | inl e ↦ subst (λ m. sent'' m ≡ sent' m → (out_of d m).parcel.untaken ≡ (out_of c m).parcel.untaken) (sym e) o.waits (same ∙ sym before) ∙ k.waits l h from before
        | inr x ↦ ap (λ q. q.parcel.untaken) (o.out l h from x) ∙ k.waits l h from before
      ]

  pub posted_more : (l : ℕ) → l < links dims → sender_at dims l ≡ rank → WasPosted (out_of b l).parcel.untaken (sent l) (sent'' l)
  posted_more l h from = elim (cases_eq (out_index dims l) i) [
    | inl same ↦
        let before : sent' l ≡ sent l = k.to_post l h from (omega arith) in
        let now : WasPosted (out_of c l).parcel.untaken (sent' l) (sent'' l) = subst (λ m. WasPosted (out_of c m).parcel.untaken (sent' m) (sent'' m)) (same_out l h from same) o.posted in
        subst (λ log. WasPosted (out_of b l).parcel.untaken log (sent'' l)) before (subst (λ xs. WasPosted xs (sent' l) (sent'' l)) (k.waits l h from before) now)
    | inr ne ↦ subst (WasPosted (out_of b l).parcel.untaken (sent l)) (sym (o.sent_stays l (other_out l ne))) (k.posted l h from)
  ]

  pub serving_more : WasServed d link (looks' link) (looks'' link) (crowded'' link)
      → Serving dims rank (i + 1) b d sent sent'' looks looks'' crowded''
  serving_more w = record {
    served = λ l h from less. elim (cases_eq (out_index dims l) i) [
      | inl same ↦
          let e = same_out l h from same in
          let v = subst (λ m. WasServed d m (looks' m) (looks'' m) (crowded'' m)) e w in
          record { looked = λ due. subst (λ n. RoseOrFull n (looks'' l)) (k.to_serve l h from (omega arith)) (v.looked due); crowded = v.crowded }
      | inr ne ↦
          let x = other_out l ne in
          let v = k.served l h from (omega arith) in
          let still : IsDue d l → IsDue c l = due_same c d l o.same_dims o.ins o.done o.cap o.steady (o.out l h from x) in
          record { looked = λ due. subst (RoseOrFull (looks l)) (sym (o.looks_stays l x)) (v.looked (still due)); crowded = λ due. o.crowded_stays l x ∙ v.crowded (still due) }
    ];
    to_serve = λ l h from le.
        let x = other_out l (λ e. omega arith) in
        o.looks_stays l x ∙ k.to_serve l h from (omega arith);
    waits = waits_more;
    to_post = λ l h from le. o.sent_stays l (other_out l (λ e. omega arith)) ∙ k.to_post l h from (omega arith);
    posted = posted_more;
  }
