-- What contracts see of one rank's port, after a post or a collect on one of its links.
use Rattle.std.proofs.Common.{◌≡◌, ℕ, ◌+◌, ◌<◌, ◌≤◌, ◌==◌, Bool, true, cond, List, [], ◌∷◌, ◌++◌, length, Result, Ok, Err, IsErr, refl, sym, ap, subst, ◌∙◌, inl, inr, arith, eqb-true, eq-eqb}
use Rattle.std.proofs.lemmas.Bool.{cases_eq}
use Rattle.std.proofs.lemmas.Option.{slice_get-get_or}
use Rattle.bale_items.specs.declared.fault.NoMemory.{NoMemory}
use Rattle.item_buffer.specs.Contents.{Shipped}
use Rattle.list_laws.proofs.Lists.{set_same}
use Rattle.route_tensor.specs.Grid.{IsGrid}
use Rattle.route_tensor.specs.Ends.{sender_at, reader_at}
use Rattle.route_tensor.specs.Link.{links}
use Rattle.list_laws.specs.Lists.{IsPrefix, changed}
use Rattle.port_bank.specs.Logs.{Logs, with_parcel, starting_at, ending_at, starting_elsewhere, ending_elsewhere}
use Rattle.port_bank.specs.Relay.{RelayLaw}
use Rattle.port_bank.specs.Calls.{Call}
use Rattle.port_bank.specs.Port.{Others, PortView, is_crowded, is_idle}
use Rattle.port_bank.specs.Frames.{SamePort, SameOuts, SameIns}
use Rattle.port_bank.specs.declared.port.Posted.{Posted}
use Rattle.port_bank.specs.declared.port.Posted.TheVariants.{Sent, NoRoom}
use Rattle.port_bank.specs.declared.port.Collected.{Collected}
use Rattle.port_bank.specs.declared.port.Collected.TheVariants.{Got, Nothing}
use Rattle.port_bank.specs.Plain.{Bank, IsBank, Channel, unused_channel, channel_after_post, channel_after_refusal, channel_after_look, channel_after_collect, channel_at, with_channel, sent_of, got_of, others_of, view_of, BankPosted, BankCollected}
use Rattle.port_bank.proofs.Channels.{channel-here, channel-other, read_changed, read_same}
use Rattle.port_bank.proofs.Kept.{law_own, added-here, added-other}
use Rattle.port_bank.proofs.Owners.{starting_own, ending_own, sent_rejoined, got_rejoined, sent_more_rejoined, got_more_rejoined}

added_own : (dims : List ℕ) (r : ℕ) (logs : Logs) (l : ℕ) (p : Shipped) (m : ℕ) → sender_at dims m ≡ r → with_parcel (starting_at dims r logs) l p m ≡ with_parcel logs l p m
added_own dims r logs l p m from = ap (λ log. cond (m == l) (log ++ p ∷ []) log) (starting_own dims r logs m from)

-- the relay law of a rank, read from its own logs or from all
pub law_of_all : (dims : List ℕ) (r : ℕ) (sent got : Logs) (l : ℕ) (p : Shipped) → IsGrid dims → RelayLaw dims r (with_parcel (starting_at dims r sent) l p) (ending_at dims r got)
    → RelayLaw dims r (with_parcel sent l p) got
law_of_all dims r sent got l p g law =
    law_own dims r (with_parcel (starting_at dims r sent) l p) (with_parcel sent l p) (ending_at dims r got) got g (added_own dims r sent l p) (ending_own dims r got) law

-- the links that are crowded or idle for a rank's port, whatever calls it noted
abbrev pub crowded_of : ℕ → Bank → ℕ → Bool
crowded_of r b = is_crowded (view_of r b [])

abbrev pub idle_of : ℕ → Bank → ℕ → Bool
idle_of r b = is_idle (view_of r b [])

-- A bank after a turn on one link.
pub record Turn (b : Bank) (l : ℕ) (b' : Bank) : Type 0 where
  pub within : l < length b.channels
  pub channel : Channel
  pub is : b' ≡ with_channel b l channel

same_channel : (b : Bank) (l : ℕ) → l < length b.channels → with_channel b l (channel_at b l) ≡ b
same_channel b l within = ap (λ cs. record { dims = b.dims; slots = b.slots; channels = cs }) (set_same b.channels l (channel_at b l) (slice_get-get_or b.channels l unused_channel within))

pub post_turn : (b b' : Bank) (l : ℕ) (r : Result Posted NoMemory) (p : Shipped) → l < length b.channels
    → (r ≡ Ok Sent → b' ≡ with_channel b l (channel_after_post (channel_at b l) p)) → (r ≡ Ok NoRoom → b' ≡ with_channel b l (channel_after_refusal (channel_at b l))) → (IsErr r → b' ≡ b) → Turn b l b'
post_turn b b' l (Ok Sent) p within sent no_room none = record { within = within; channel = channel_after_post (channel_at b l) p; is = sent refl }
post_turn b b' l (Ok NoRoom) p within sent no_room none = record { within = within; channel = channel_after_refusal (channel_at b l); is = no_room refl }
post_turn b b' l (Err m) p within sent no_room none = record { within = within; channel = channel_at b l; is = none refl ∙ sym (same_channel b l within) }

pub collect_turn : (b b' : Bank) (l : ℕ) (r : Collected) (p : Shipped) → l < length b.channels
    → (r ≡ Got → b' ≡ with_channel b l (channel_after_collect (channel_at b l) p)) → (r ≡ Nothing → b' ≡ with_channel b l (channel_after_look (channel_at b l))) → Turn b l b'
collect_turn b b' l Got p within got nothing = record { within = within; channel = channel_after_collect (channel_at b l) p; is = got refl }
collect_turn b b' l Nothing p within got nothing = record { within = within; channel = channel_after_look (channel_at b l); is = nothing refl }

-- what is read of the links after a turn is as before elsewhere
read_here : {X : Type 0} (b : Bank) (l : ℕ) (c : Channel) → l < length b.channels → (f : ℕ → Channel → X)
    → ◌≡◌ {A = ℕ → X} (λ m. f m (channel_at (with_channel b l c) m)) (changed (λ m. f m (channel_at b m)) l (f l (channel_at (with_channel b l c) l)))
read_here b l c within f = read_changed b l c within f ∙ ap (λ x. changed (λ m. f m (channel_at b m)) l (f l x)) (sym (channel-here b l c within))

pub crowded_here : (r : ℕ) (b b' : Bank) (l : ℕ) → Turn b l b' → crowded_of r b' ≡ changed (crowded_of r b) l (crowded_of r b' l)
crowded_here r b b' l t =
    subst (λ x. crowded_of r x ≡ changed (crowded_of r b) l (crowded_of r x l)) (sym t.is)
    (read_here b l t.channel t.within (λ m c. length (cond (sender_at b.dims m == r) c.sent []) == length c.got + b.slots))

pub idle_here : (r : ℕ) (b b' : Bank) (l : ℕ) → Turn b l b' → idle_of r b' ≡ changed (idle_of r b) l (idle_of r b' l)
idle_here r b b' l t =
    subst (λ x. idle_of r x ≡ changed (idle_of r b) l (idle_of r x l)) (sym t.is)
    (read_here b l t.channel t.within (λ m c. length (cond (reader_at b.dims m == r) c.got []) == length c.sent))

-- of others' logs, one of the rank's own isn't seen
hidden : (r end : ℕ) (log log' : List Shipped) → end ≡ r → cond (end == r) [] log ≡ cond (end == r) [] log'
hidden r end log log' is = ap (λ k. cond k [] log) (eq-eqb end r is) ∙ sym (ap (λ k. cond k [] log') (eq-eqb end r is))

-- what a rank's port has, where one channel changes
module _ (b : Bank) (r l : ℕ) (c : Channel) (within : l < length b.channels) (cs cs' : List Call) where
  ins_got : c.got ≡ (channel_at b l).got → (view_of r (with_channel b l c) cs').got ≡ (view_of r b cs).got
  ins_got got = read_same b l c within (λ m x. cond (reader_at b.dims m == r) x.got []) (ap (λ log. cond (reader_at b.dims l == r) log []) got)

  ins_kept : c.got ≡ (channel_at b l).got → c.looks_in ≡ (channel_at b l).looks_in → c.listens ≡ (channel_at b l).listens → c.noted ≡ (channel_at b l).noted
      → SameIns (view_of r b cs) (view_of r (with_channel b l c) cs')
  ins_kept got looks listens noted =
      record {
        got = ins_got got;
        looks_in = read_same b l c within (λ m x. x.looks_in) looks;
        listens = read_same b l c within (λ m x. x.listens) listens;
        noted = read_same b l c within (λ m x. x.noted) noted;
      }

  outs_kept : c.sent ≡ (channel_at b l).sent → c.looks_out ≡ (channel_at b l).looks_out → SameOuts (view_of r b cs) (view_of r (with_channel b l c) cs')
  outs_kept sent looks =
      record {
        sent = read_same b l c within (λ m x. cond (sender_at b.dims m == r) x.sent []) (ap (λ log. cond (sender_at b.dims l == r) log []) sent);
        looks_out = read_same b l c within (λ m x. x.looks_out) looks;
      }

  idle_kept : c.sent ≡ (channel_at b l).sent → c.got ≡ (channel_at b l).got → is_idle (view_of r (with_channel b l c) cs') ≡ is_idle (view_of r b cs)
  idle_kept sent got =
      read_same b l c within (λ m x. length (cond (reader_at b.dims m == r) x.got []) == length x.sent)
      (λ i. length (cond (reader_at b.dims l == r) (got i) []) == length (sent i))

  crowded_kept : c.sent ≡ (channel_at b l).sent → c.got ≡ (channel_at b l).got → is_crowded (view_of r (with_channel b l c) cs') ≡ is_crowded (view_of r b cs)
  crowded_kept sent got =
      read_same b l c within (λ m x. length (cond (sender_at b.dims m == r) x.sent []) == length x.got + b.slots)
      (λ i. length (cond (sender_at b.dims l == r) (sent i) []) == length (got i) + b.slots)

  others_kept : cond (sender_at b.dims l == r) [] c.sent ≡ cond (sender_at b.dims l == r) [] (channel_at b l).sent
      → cond (reader_at b.dims l == r) [] c.got ≡ cond (reader_at b.dims l == r) [] (channel_at b l).got
      → SamePort (view_of r b cs) (view_of r (with_channel b l c) cs')
  others_kept sent got =
      let sents = read_same b l c within (λ m x. cond (sender_at b.dims m == r) [] x.sent) sent in
      let gots = read_same b l c within (λ m x. cond (reader_at b.dims m == r) [] x.got) got in
      record { rank = refl; dims = refl; slots = refl; others = λ i. record { bank = []; sent = sents i; got = gots i } }

  kept_by_sender : sender_at b.dims l ≡ r → c.got ≡ (channel_at b l).got → SamePort (view_of r b cs) (view_of r (with_channel b l c) cs')
  kept_by_sender from got = others_kept (hidden r (sender_at b.dims l) c.sent (channel_at b l).sent from) (ap (λ log. cond (reader_at b.dims l == r) [] log) got)

  kept_by_reader : reader_at b.dims l ≡ r → c.sent ≡ (channel_at b l).sent → SamePort (view_of r b cs) (view_of r (with_channel b l c) cs')
  kept_by_reader to sent = others_kept (ap (λ log. cond (sender_at b.dims l == r) [] log) sent) (hidden r (reader_at b.dims l) c.got (channel_at b l).got to)

  noted_here : c.noted ≡ c.listens → (view_of r (with_channel b l c) cs').noted ≡ changed (view_of r b cs).noted l ((view_of r (with_channel b l c) cs').listens l)
  noted_here same = read_changed b l c within (λ m x. x.noted) ∙ ap (λ n. changed (λ m. (channel_at b m).noted) l n) (same ∙ sym (ap (λ (x : Channel). x.listens) (channel-here b l c within)))

  got_more : (p : Shipped) → reader_at b.dims l ≡ r → c.got ≡ (channel_at b l).got ++ p ∷ []
      → (view_of r (with_channel b l c) cs').got ≡ with_parcel (view_of r b cs).got l p
  got_more p to is = λ i m. at m i
    where
      at : (m : ℕ) → ending_at b.dims r (got_of (with_channel b l c)) m ≡ with_parcel (ending_at b.dims r (got_of b)) l p m
      at m = elim (cases_eq m l) [
        | inl e ↦ subst (λ n. ending_at b.dims r (got_of (with_channel b l c)) n ≡ with_parcel (ending_at b.dims r (got_of b)) l p n) (sym e)
            (ending_own b.dims r (got_of (with_channel b l c)) l to
            ∙ (ap (λ (x : Channel). x.got) (channel-here b l c within)
            ∙ (is ∙ (ap (λ log. log ++ p ∷ []) (sym (ending_own b.dims r (got_of b) l to)) ∙ sym (added-here (ending_at b.dims r (got_of b)) l p)))))
        | inr ne ↦ ap (λ (x : Channel). cond (reader_at b.dims m == r) x.got []) (channel-other b l c within m ne) ∙ sym (added-other (ending_at b.dims r (got_of b)) l m p ne)
      ]

-- What a post leaves.
pub record PostLeaves (old new : PortView) (answer : Result Posted NoMemory) : Type 0 where
  pub still_idle : (answer ≡ Ok Sent → ⊥) → is_idle new ≡ is_idle old
  pub same_ins : SameIns old new
  pub same_port : SamePort old new

pub post_leaves : (b b' : Bank) (r l : ℕ) (answer : Result Posted NoMemory) (p : Shipped) (cs cs' : List Call) → l < length b.channels → sender_at b.dims l ≡ r → BankPosted b b' l p answer
    → PostLeaves (view_of r b cs) (view_of r b' cs') answer
post_leaves b b' r l (Ok Sent) p cs cs' within from does =
    let c : Channel = channel_after_post (channel_at b l) p in
    subst (λ x. PostLeaves (view_of r b cs) (view_of r x cs') (Ok Sent)) (sym (does.sent refl))
    (record { still_idle = λ not. absurd (not refl); same_ins = ins_kept b r l c within cs cs' refl refl refl refl; same_port = kept_by_sender b r l c within cs cs' from refl })
post_leaves b b' r l (Ok NoRoom) p cs cs' within from does =
    let c : Channel = channel_after_refusal (channel_at b l) in
    subst (λ x. PostLeaves (view_of r b cs) (view_of r x cs') (Ok NoRoom)) (sym (does.no_room refl))
    (record { still_idle = λ not. idle_kept b r l c within cs cs' refl refl; same_ins = ins_kept b r l c within cs cs' refl refl refl refl; same_port = kept_by_sender b r l c within cs cs' from refl })
post_leaves b b' r l (Err m) p cs cs' within from does =
    subst (λ x. PostLeaves (view_of r b cs) (view_of r x cs') (Err m)) (sym (does.no_memory refl))
    (record { still_idle = λ not. refl; same_ins = record { got = refl; looks_in = refl; listens = refl; noted = refl }; same_port = record { rank = refl; dims = refl; slots = refl; others = refl } })

-- What a collect leaves.
pub record CollectLeaves (old new : PortView) (l : ℕ) (answer : Collected) (p : Shipped) : Type 0 where
  pub got : answer ≡ Got → new.got ≡ with_parcel old.got l p
  pub not_got : answer ≡ Nothing → new.got ≡ old.got
  pub still_crowded : answer ≡ Nothing → is_crowded new ≡ is_crowded old
  pub noted : new.noted ≡ changed old.noted l (new.listens l)
  pub same_outs : SameOuts old new
  pub same_port : SamePort old new

pub collect_leaves : (b b' : Bank) (r l : ℕ) (answer : Collected) (p : Shipped) (cs cs' : List Call) → l < length b.channels → reader_at b.dims l ≡ r → BankCollected b b' l p answer
    → CollectLeaves (view_of r b cs) (view_of r b' cs') l answer p
collect_leaves b b' r l Got p cs cs' within to does =
    let c : Channel = channel_after_collect (channel_at b l) p in
    subst (λ x. CollectLeaves (view_of r b cs) (view_of r x cs') l Got p) (sym (does.got refl))
    (record {
      got = λ is. got_more b r l c within cs cs' p to refl;
      not_got = λ is. absurd cc;
      still_crowded = λ is. absurd cc;
      noted = noted_here b r l c within cs cs' refl;
      same_outs = outs_kept b r l c within cs cs' refl refl;
      same_port = kept_by_reader b r l c within cs cs' to refl;
    })
collect_leaves b b' r l Nothing p cs cs' within to does =
    let c : Channel = channel_after_look (channel_at b l) in
    subst (λ x. CollectLeaves (view_of r b cs) (view_of r x cs') l Nothing p) (sym (does.nothing refl))
    (record {
      got = λ is. absurd cc;
      not_got = λ is. ins_got b r l c within cs cs' refl;
      still_crowded = λ is. crowded_kept b r l c within cs cs' refl refl;
      noted = noted_here b r l c within cs cs' refl;
      same_outs = outs_kept b r l c within cs cs' refl refl;
      same_port = kept_by_reader b r l c within cs cs' to refl;
    })

-- on a link from a rank to itself, what the rank collected is a prefix of what it posted
pub begins_own : (most r l : ℕ) (b : Bank) → IsBank most b → l < links b.dims → sender_at b.dims l ≡ r → reader_at b.dims l ≡ r
    → IsPrefix (ending_at b.dims r (got_of b) l) (starting_at b.dims r (sent_of b) l)
begins_own most r l b is below from to =
    subst (λ got. IsPrefix got (starting_at b.dims r (sent_of b) l)) (sym (ending_own b.dims r (got_of b) l to))
    (subst (λ sent. IsPrefix (got_of b l) sent) (sym (starting_own b.dims r (sent_of b) l from)) (is.each_link l below).begins)

-- a count that rises on one link falls nowhere
pub none_falls : (f : Channel → ℕ) (b b' : Bank) (l : ℕ) → Turn b l b' → f (channel_at b l) ≤ f (channel_at b' l) → (m : ℕ) → f (channel_at b m) ≤ f (channel_at b' m)
none_falls f b b' l t rose m = elim (cases_eq m l) [
  | inl e ↦ subst (λ n. f (channel_at b n) ≤ f (channel_at b' n)) (sym e) rose
  | inr ne ↦
      let same : f (channel_at b' m) ≡ f (channel_at b m) = ap (λ x. f (channel_at x m)) t.is ∙ ap f (channel-other b l t.channel t.within m ne) in
      omega arith
]

-- on one link the sender isn't crowded while the reader is idle
pub apart : (b : Bank) (l : ℕ) → 0 < b.slots → crowded_of (sender_at b.dims l) b l ≡ true → idle_of (reader_at b.dims l) b l ≡ true → ⊥
apart b l some crowded idle =
    let sent = ap length (starting_own b.dims (sender_at b.dims l) (sent_of b) l refl) in
    let got = ap length (ending_own b.dims (reader_at b.dims l) (got_of b) l refl) in
    let full = eqb-true _ _ crowded in
    let empty = eqb-true _ _ idle in
    omega (arith, sent, got, full, empty)

-- a bank after one rank's post, or after its collect, by what its port told
pub after_post : (b b' : Bank) (r r' l : ℕ) (p : Shipped) → b'.dims ≡ b.dims → r' ≡ r → sender_at b.dims l ≡ r → starting_at b'.dims r' (sent_of b') ≡ with_parcel (starting_at b.dims r (sent_of b)) l p
    → ending_at b'.dims r' (got_of b') ≡ ending_at b.dims r (got_of b) → others_of r' b' ≡ others_of r b → (sent_of b' ≡ with_parcel (sent_of b) l p) × (got_of b' ≡ got_of b)
after_post b b' r r' l p same rank from sent got rest =
    let elsewhere : starting_elsewhere b'.dims r' (sent_of b') ≡ starting_elsewhere b.dims r (sent_of b) = ap (λ (x : Others). x.sent) rest in
    let others : ending_elsewhere b'.dims r' (got_of b') ≡ ending_elsewhere b.dims r (got_of b) = ap (λ (x : Others). x.got) rest in (
      sent_more_rejoined b.dims r (sent_of b) (sent_of b') l p from
          (subst (λ x. starting_at x r (sent_of b') ≡ with_parcel (starting_at b.dims r (sent_of b)) l p) same (subst (λ q. starting_at b'.dims q (sent_of b') ≡ with_parcel (starting_at b.dims r (sent_of b)) l p) rank sent))
          (subst (λ x. starting_elsewhere x r (sent_of b') ≡ starting_elsewhere b.dims r (sent_of b)) same (subst (λ q. starting_elsewhere b'.dims q (sent_of b') ≡ starting_elsewhere b.dims r (sent_of b)) rank elsewhere)),
      got_rejoined b.dims r (got_of b) (got_of b')
          (subst (λ x. ending_at x r (got_of b') ≡ ending_at b.dims r (got_of b)) same (subst (λ q. ending_at b'.dims q (got_of b') ≡ ending_at b.dims r (got_of b)) rank got))
          (subst (λ x. ending_elsewhere x r (got_of b') ≡ ending_elsewhere b.dims r (got_of b)) same (subst (λ q. ending_elsewhere b'.dims q (got_of b') ≡ ending_elsewhere b.dims r (got_of b)) rank others)),
    )

pub after_collect : (b b' : Bank) (r r' l : ℕ) (p : Shipped) → b'.dims ≡ b.dims → r' ≡ r → reader_at b.dims l ≡ r → starting_at b'.dims r' (sent_of b') ≡ starting_at b.dims r (sent_of b)
    → ending_at b'.dims r' (got_of b') ≡ with_parcel (ending_at b.dims r (got_of b)) l p → others_of r' b' ≡ others_of r b → (sent_of b' ≡ sent_of b) × (got_of b' ≡ with_parcel (got_of b) l p)
after_collect b b' r r' l p same rank to sent got rest =
    let elsewhere : starting_elsewhere b'.dims r' (sent_of b') ≡ starting_elsewhere b.dims r (sent_of b) = ap (λ (x : Others). x.sent) rest in
    let others : ending_elsewhere b'.dims r' (got_of b') ≡ ending_elsewhere b.dims r (got_of b) = ap (λ (x : Others). x.got) rest in (
      sent_rejoined b.dims r (sent_of b) (sent_of b')
          (subst (λ x. starting_at x r (sent_of b') ≡ starting_at b.dims r (sent_of b)) same (subst (λ q. starting_at b'.dims q (sent_of b') ≡ starting_at b.dims r (sent_of b)) rank sent))
          (subst (λ x. starting_elsewhere x r (sent_of b') ≡ starting_elsewhere b.dims r (sent_of b)) same (subst (λ q. starting_elsewhere b'.dims q (sent_of b') ≡ starting_elsewhere b.dims r (sent_of b)) rank elsewhere)),
      got_more_rejoined b.dims r (got_of b) (got_of b') l p to
          (subst (λ x. ending_at x r (got_of b') ≡ with_parcel (ending_at b.dims r (got_of b)) l p) same (subst (λ q. ending_at b'.dims q (got_of b') ≡ with_parcel (ending_at b.dims r (got_of b)) l p) rank got))
          (subst (λ x. ending_elsewhere x r (got_of b') ≡ ending_elsewhere b.dims r (got_of b)) same (subst (λ q. ending_elsewhere b'.dims q (got_of b') ≡ ending_elsewhere b.dims r (got_of b)) rank others)),
    )
