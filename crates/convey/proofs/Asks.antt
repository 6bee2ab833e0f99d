-- Which links a sweep served, and which calls it made.
use Rattle.std.proofs.Common.{◌≡◌, ◌≢◌, ℕ, ◌<◌, ◌≤◌, nat_lt, Bool, true, false, ◌||◌, ◌&&◌, eqb, List, ◌∷◌, ◌++◌, [], length, sum, refl, sym, ap, ◌∙◌, arith, length-append}
use Rattle.std.proofs.lemmas.Bool.{eqb-true}
use Rattle.std.proofs.lemmas.Bool.Decides.{nat_tests}
use Rattle.item_buffer.specs.Contents.{Shipped}
use Rattle.route_tensor.specs.Grid.{ranks, IsGrid}
use Rattle.route_tensor.specs.Link.{links}
use Rattle.route_tensor.specs.Ends.{hop_at, sender_at, reader_at}
use Rattle.route_tensor.specs.Neighbour.{link_to, out_index}
use Rattle.route_tensor.proofs.Neighbours.{out_index-link_to}
use Rattle.hop_core.specs.Link.{is_due, is_wanted}
use Rattle.hop_core.specs.State.{State, at_end}
use Rattle.convey.specs.Buffers.{out_of, in_of}
use Rattle.convey.specs.Due.{IsDue, was_served, collects_of, posts_below}
use Rattle.port_bank.specs.Logs.{Logs}
use Rattle.port_bank.specs.Calls.{sweep_calls}
use Rattle.port_bank.specs.Calls.Call.{Post, Collect}
use Rattle.convey.proofs.Ways.{to_below, to_sender}
use Rattle.port_bank.proofs.Sweeping.{swept_none}

-- which links were served
pub served_sent : (st : State) (l : ℕ) (log log' : List Shipped) (p : Shipped) → log' ≡ log ++ p ∷ [] → was_served st l log log' ≡ true
served_sent st l log log' p e =
    let more : length log < length log' = omega (arith, ap length e, length-append log (p ∷ [])) in
    let is : nat_lt (length log) (length log') ≡ true = grind (arith, nat_tests, more) in
    ap (λ b. b || is_due st.cap st.steady (at_end st.dims st.ins st.done (hop_at st.dims l)) (out_of st l)) is

or_true : (b c : Bool) → c ≡ true → (b || c) ≡ true
or_true true c h = refl
or_true false c h = h

pub served_due : (st : State) (l : ℕ) (log log' : List Shipped) → IsDue st l → was_served st l log log' ≡ true
served_due st l log log' due = or_true (nat_lt (length log) (length log')) (is_due st.cap st.steady (at_end st.dims st.ins st.done (hop_at st.dims l)) (out_of st l)) due

not_true : (c : Bool) → (c ≡ true → ⊥) → c ≡ false
not_true true h = absurd (h refl)
not_true false h = refl

pub served_not : (st : State) (l : ℕ) (log log' : List Shipped) → log' ≡ log → (IsDue st l → ⊥) → was_served st l log log' ≡ false
served_not st l log log' same off =
    let less : length log' ≤ length log = omega (arith, ap length same) in
    let is : nat_lt (length log) (length log') ≡ false = grind (arith, nat_tests, less) in
    ap (λ b. b || is_due st.cap st.steady (at_end st.dims st.ins st.done (hop_at st.dims l)) (out_of st l)) is
    ∙ not_true (is_due st.cap st.steady (at_end st.dims st.ins st.done (hop_at st.dims l)) (out_of st l)) off

pub served_same : (b c : State) (l : ℕ) (log log' log'' : List Shipped) → c.dims ≡ b.dims → c.ins ≡ b.ins → c.done ≡ b.done → c.cap ≡ b.cap → c.steady ≡ b.steady → out_of c l ≡ out_of b l → log'' ≡ log'
    → was_served c l log log'' ≡ was_served b l log log'
served_same b c l log log' log'' dims ins done cap steady out same =
    λ i. nat_lt (length log) (length (same i)) || is_due (cap i) (steady i) (at_end (dims i) (ins i) (done i) (hop_at (dims i) l)) (out i)

-- a link out that is served leaves the links before it as they are
pub served_before : (dims : List ℕ) (rank i link : ℕ) (b c : State) (sent sent' sent'' : Logs) → IsGrid dims → rank < ranks dims → i < sum dims → link ≡ link_to dims rank i
    → c.dims ≡ b.dims → c.ins ≡ b.ins → c.done ≡ b.done → c.cap ≡ b.cap → c.steady ≡ b.steady → ((m : ℕ) → m < links dims → sender_at dims m ≡ rank → m ≢ link → out_of c m ≡ out_of b m)
    → ((m : ℕ) → m ≢ link → sent'' m ≡ sent' m) → (j : ℕ) → j < i
    → was_served c (link_to dims rank j) (sent (link_to dims rank j)) (sent'' (link_to dims rank j)) ≡ was_served b (link_to dims rank j) (sent (link_to dims rank j)) (sent' (link_to dims rank j))
served_before dims rank i link b c sent sent' sent'' g own below here same_dims ins done cap steady out stays j less =
    let l : ℕ = link_to dims rank j in
    let low : j < sum dims = omega (arith, less, below) in
    let other : l ≢ link = λ e. absurd (omega (arith, less, ap (out_index dims) (e ∙ here), out_index-link_to dims rank j g own low, out_index-link_to dims rank i g own below)) in
    served_same b c l (sent l) (sent' l) (sent'' l) same_dims ins done cap steady (out l (to_below dims rank j g own low) (to_sender dims rank j g own low) other) (stays l other)

-- where nothing is to be made on a rank's links, no call is made
and_not : (b c : Bool) → (b ≡ true → c ≡ false) → (b && c) ≡ false
and_not true c h = h refl
and_not false c h = refl

pub none_served : (st : State) (sent sent' : Logs) → ((l : ℕ) → l < links st.dims → sender_at st.dims l ≡ st.rank → was_served st l (sent l) (sent' l) ≡ false) → posts_below st sent sent' (links st.dims) ≡ []
none_served st sent sent' none = swept_none _ Post (links st.dims) (λ l w. and_not _ _ (λ own. none l w (eqb-true _ _ own)))

pub none_wanted : (st : State) → ((l : ℕ) → l < links st.dims → reader_at st.dims l ≡ st.rank → is_wanted (in_of st l) ≡ false) → collects_of st ≡ []
none_wanted st none = swept_none _ Collect (links st.dims) (λ l w. and_not _ _ (λ own. none l w (eqb-true _ _ own)))

-- the posts of a sweep, of a state on this grid
pub posts_here : (dims : List ℕ) (rank m : ℕ) (st : State) (sent sent' : Logs) → st.dims ≡ dims → st.rank ≡ rank
    → sweep_calls (λ l. eqb (sender_at dims l) rank && was_served st l (sent l) (sent' l)) Post m ≡ posts_below st sent sent' m
posts_here dims rank m st sent sent' d r = λ k. sweep_calls (λ l. eqb (sender_at (sym d k) l) (sym r k) && was_served st l (sent l) (sent' l)) Post m

pub collects_here : (dims : List ℕ) (rank : ℕ) (st : State) → st.dims ≡ dims → st.rank ≡ rank
    → sweep_calls (λ l. eqb (reader_at dims l) rank && is_wanted (in_of st l)) Collect (links dims) ≡ collects_of st
collects_here dims rank st d r = λ k. sweep_calls (λ l. eqb (reader_at (sym d k) l) (sym r k) && is_wanted (in_of st l)) Collect (links (sym d k))
