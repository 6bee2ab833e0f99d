use Rattle.std.proofs.Common.{◌≡◌, ◌++◌, append-nil, ◌≢◌, ◌<◌, inl, inr, refl, sym, ap, subst, ◌∙◌, rules, sum, Ok, Err, Result}
use Rattle.std.proofs.lemmas.Bool.{cases_eq}
use Rattle.bale_items.specs.declared.fault.NoMemory.{NoMemory}
use Rattle.std.specs.List.{All}
use Rattle.bale_items.specs.declared.item.Entry.{Entry}
use Rattle.item_buffer.specs.Contents.{Contents, IsFresh, as_shipped}
use Rattle.route_tensor.specs.Tag.{IsFair}
use Rattle.route_tensor.specs.Link.{links}
use Rattle.route_tensor.specs.Neighbour.{hop_to, out_index}
use Rattle.port_bank.specs.Port.{is_crowded, is_idle}
use Rattle.port_bank.specs.declared.port.Posted.{Posted}
use Rattle.port_bank.specs.declared.port.Posted.TheVariants.{Sent, NoRoom}
use Rattle.port_bank.proofs.Frames.{outs_elsewhere}
use Rattle.port_bank.proofs.Kept.{added-here}
use Rattle.port_bank.proofs.Channels.{changed-other}
use Rattle.hop_core.specs.State.{State}
use Rattle.convey.specs.Buffers.{out_of}
use Rattle.convey.proofs.States.{out_number}
use Rattle.convey.proofs.Collects.{grew}
use Rattle.convey.proofs.Posts.{taken_out, not_due, sent_from, reopened, may_post, dated, served_one, served_none, still_waits, still_due, no_longer_due}
use Rattle.port_bank.specs.Calls.{once_if}
use Rattle.port_bank.specs.Calls.Call.{Post}
use Rattle.convey.proofs.Ways.{posts_first}
use Rattle.convey.proofs.Asks.{served_sent, served_due, served_not}
use Rattle.convey.proofs.posting.post_one.Goals as goal

apart : (let a : Result Posted NoMemory = Ok NoRoom in let b : Result Posted NoMemory = Ok Sent in a ≡ b) → ⊥
apart h = cc

wrong : (x : NoMemory) → (let a : Result Posted NoMemory = Err x in let b : Result Posted NoMemory = Ok Sent in a ≡ b) → ⊥
wrong x h = cc

not_sent : (r : Result Posted NoMemory) → r ≡ Ok NoRoom → r ≢ Ok Sent
not_sent r e f = apart (sym e ∙ f)

failed : (r : Result Posted NoMemory) (x : NoMemory) → r ≡ Err x → r ≢ Ok Sent
failed r x e f = wrong x (sym e ∙ f)

pub post-requires : goal.post-requires
post-requires g c =
    let st = c.args.state.now in
    let s = c.known.ensures.standing in
    let below : c.args.link < links st.dims = subst (λ ds. c.args.link < links ds) (sym c.requires.ready.same_dims) c.requires.link in
    let n : c.args.number ≡ out_index st.dims c.args.link = c.requires.number ∙ ap (λ ds. out_index ds c.args.link) (sym c.requires.ready.same_dims) in
    let t = taken_out st c.args.number c.args.link c.take_out-outgoing.new.parcel s below n (sym c.due_to.ensures ∙ c.if-not-due_to.false) c.take_out-outgoing.ensures.parcel in
    let q = as_shipped c.take_out-outgoing.new.parcel in (
      search rules,
      record {
        link = c.requires.link;
        starts_here = c.requires.starts_here;
        fresh = c.take_out-outgoing.ensures.taken.fresh.none_taken;
        epoch = ap (λ p. p.epoch) c.take_out-outgoing.ensures.parcel ∙ dated (g.P.Port.view c.args.port.now).dims (g.P.Port.view c.args.port.now).rank st st c.args.link (out_of st c.args.link) q _ (g.P.Port.view c.args.port.now).sent _ (g.P.Port.view c.args.port.now).got s c.requires.ready c.requires.link c.requires.starts_here t.due t.entries t.last refl;
        law = may_post _ _ st st c.args.link (out_of st c.args.link) q _ (g.P.Port.view c.args.port.now).sent _ (g.P.Port.view c.args.port.now).got s c.requires.ready c.requires.link c.requires.starts_here t.due t.entries t.last refl;
      },
    )

pub returns-in-Ok-Sent-clause-leaves : goal.returns-in-Ok-Sent-clause-leaves
returns-in-Ok-Sent-clause-leaves g c =
    let st = c.args.state.now in
    let s = c.known.ensures.standing in
    let below : c.args.link < links st.dims = subst (λ ds. c.args.link < links ds) (sym c.requires.ready.same_dims) c.requires.link in
    let n : c.args.number ≡ out_index st.dims c.args.link = c.requires.number ∙ ap (λ ds. out_index ds c.args.link) (sym c.requires.ready.same_dims) in
    let t = taken_out st c.args.number c.args.link c.take_out-outgoing.new.parcel s below n (sym c.due_to.ensures ∙ c.if-not-due_to.false) c.take_out-outgoing.ensures.parcel in
    let q = as_shipped c.take_out-outgoing.new.parcel in
    let e = c.post.ensures.posts in
    let was : c.post.result ≡ Ok Sent = c.in-Ok-Sent.is ∙ ap Ok c.in-Ok-Sent.field-0-is in
    let over = sym c.take_out-outgoing.ensures.borrowed in
    let new = sent_from st c.take_out-outgoing.result.state.now c.state-1.given.0 c.args.number c.take_out-outgoing.result.number c.args.link _ _ n c.take_out-outgoing.ensures.outgoing.0 c.take_out-outgoing.ensures.state (c.state-1.given.1 over ∙ c.sent.ensures) in
    let closes = ap (λ p. p.last) c.take_out-outgoing.ensures.outgoing.1 in
    let more = ap (λ logs. logs c.args.link) (e.sent was) ∙ added-here (g.P.Port.view c.args.port.now).sent c.args.link q in
    let one = (served_one _ _ st _ c.args.link _ q _ _ _ _ s c.requires.ready c.requires.link c.requires.starts_here t.due t.entries t.last e.same_ins.got new refl closes (e.sent was)) in
    record {
      ready = one.ready;
      goes_on = one.goes_on;
      ins = search rules;
      idle = λ m same. elim (cases_eq m c.args.link) [
        | inl here ↦ absurd (grew _ _ (sym more ∙ subst (λ l. (g.P.Port.view c.post.new.self).sent l ≡ (g.P.Port.view c.args.port.now).sent l) here same))
        | inr other ↦ ap (λ f. f m) e.idle_here ∙ changed-other (is_idle (g.P.Port.view c.args.port.now)) c.args.link m (is_idle (g.P.Port.view c.post.new.self) c.args.link) other
      ];
      same_ins = e.same_ins;
      same_port = e.same_port;
    }

pub returns-in-Ok-NoRoom-clause-leaves : goal.returns-in-Ok-NoRoom-clause-leaves
returns-in-Ok-NoRoom-clause-leaves g c =
    let st = c.args.state.now in
    let s = c.known.ensures.standing in
    let below : c.args.link < links st.dims = subst (λ ds. c.args.link < links ds) (sym c.requires.ready.same_dims) c.requires.link in
    let n : c.args.number ≡ out_index st.dims c.args.link = c.requires.number ∙ ap (λ ds. out_index ds c.args.link) (sym c.requires.ready.same_dims) in
    let t = taken_out st c.args.number c.args.link c.take_out-outgoing.new.parcel s below n (sym c.due_to.ensures ∙ c.if-not-due_to.false) c.take_out-outgoing.ensures.parcel in
    let q = as_shipped c.take_out-outgoing.new.parcel in
    let e = c.post.ensures.posts in
    let no = not_sent _ (c.in-Ok-NoRoom.is ∙ ap Ok c.in-Ok-NoRoom.field-0-is) in
    let over = sym c.take_out-outgoing.ensures.borrowed in
    let new = reopened st c.take_out-outgoing.result.state.now c.state-in-Ok-NoRoom-1.given.0 c.args.number c.take_out-outgoing.result.number c.args.link _ _ n c.take_out-outgoing.ensures.outgoing.0 c.take_out-outgoing.ensures.state (c.state-in-Ok-NoRoom-1.given.1 over ∙ c.put_back.ensures.state) in
    let keeps = ap (λ p. p.untaken) (e.kept no) ∙ t.entries in
    let none = (served_none _ _ st _ c.args.link _ q _ _ _ _ s c.requires.ready c.requires.link c.requires.starts_here t.due t.entries t.last e.same_ins.got new keeps refl (e.not_sent no)) in
    record {
      ready = none.ready;
      goes_on = none.goes_on;
      ins = search rules;
      idle = λ m same. ap (λ f. f m) (e.still_idle no);
      same_ins = e.same_ins;
      same_port = e.same_port;
    }

pub returns-in-Err-clause-leaves : goal.returns-in-Err-clause-leaves
returns-in-Err-clause-leaves g c =
    let st = c.args.state.now in
    let s = c.known.ensures.standing in
    let below : c.args.link < links st.dims = subst (λ ds. c.args.link < links ds) (sym c.requires.ready.same_dims) c.requires.link in
    let n : c.args.number ≡ out_index st.dims c.args.link = c.requires.number ∙ ap (λ ds. out_index ds c.args.link) (sym c.requires.ready.same_dims) in
    let t = taken_out st c.args.number c.args.link c.take_out-outgoing.new.parcel s below n (sym c.due_to.ensures ∙ c.if-not-due_to.false) c.take_out-outgoing.ensures.parcel in
    let q = as_shipped c.take_out-outgoing.new.parcel in
    let e = c.post.ensures.posts in
    let no = failed _ _ c.in-Err.is in
    let over = sym c.take_out-outgoing.ensures.borrowed in
    let new = reopened st c.take_out-outgoing.result.state.now c.state-in-Err-1.given.0 c.args.number c.take_out-outgoing.result.number c.args.link _ _ n c.take_out-outgoing.ensures.outgoing.0 c.take_out-outgoing.ensures.state (c.state-in-Err-1.given.1 over ∙ c.put_back-in-Err.ensures.state) in
    let keeps = ap (λ p. p.untaken) (e.kept no) ∙ t.entries in
    let none = (served_none _ _ st _ c.args.link _ q _ _ _ _ s c.requires.ready c.requires.link c.requires.starts_here t.due t.entries t.last e.same_ins.got new keeps refl (e.not_sent no)) in
    record {
      ready = none.ready;
      goes_on = none.goes_on;
      ins = search rules;
      idle = λ m same. ap (λ f. f m) (e.still_idle no);
      same_ins = e.same_ins;
      same_port = e.same_port;
    }

pub returns-then-not-due_to-clause-leaves : goal.returns-then-not-due_to-clause-leaves
returns-then-not-due_to-clause-leaves g c = posts_first c.args.state.now (g.P.Port.view c.args.port.now) c.requires.ready

pub returns-in-Ok-Sent-clause-out : goal.returns-in-Ok-Sent-clause-out
returns-in-Ok-Sent-clause-out g c =
    let st = c.args.state.now in
    let s = c.known.ensures.standing in
    let below : c.args.link < links st.dims = subst (λ ds. c.args.link < links ds) (sym c.requires.ready.same_dims) c.requires.link in
    let n : c.args.number ≡ out_index st.dims c.args.link = c.requires.number ∙ ap (λ ds. out_index ds c.args.link) (sym c.requires.ready.same_dims) in
    let t = taken_out st c.args.number c.args.link c.take_out-outgoing.new.parcel s below n (sym c.due_to.ensures ∙ c.if-not-due_to.false) c.take_out-outgoing.ensures.parcel in
    let q = as_shipped c.take_out-outgoing.new.parcel in
    let e = c.post.ensures.posts in
    let was : c.post.result ≡ Ok Sent = c.in-Ok-Sent.is ∙ ap Ok c.in-Ok-Sent.field-0-is in
    let over = sym c.take_out-outgoing.ensures.borrowed in
    let new = sent_from st c.take_out-outgoing.result.state.now c.state-1.given.0 c.args.number c.take_out-outgoing.result.number c.args.link _ _ n c.take_out-outgoing.ensures.outgoing.0 c.take_out-outgoing.ensures.state (c.state-1.given.1 over ∙ c.sent.ensures) in
    let closes = ap (λ p. p.last) c.take_out-outgoing.ensures.outgoing.1 in
    (served_one _ _ st _ c.args.link _ q _ _ _ _ s c.requires.ready c.requires.link c.requires.starts_here t.due t.entries t.last e.same_ins.got new refl closes (e.sent was)).out

pub returns-in-Ok-Sent-clause-served : goal.returns-in-Ok-Sent-clause-served
returns-in-Ok-Sent-clause-served g c =
    let st = c.args.state.now in
    let s = c.known.ensures.standing in
    let below : c.args.link < links st.dims = subst (λ ds. c.args.link < links ds) (sym c.requires.ready.same_dims) c.requires.link in
    let n : c.args.number ≡ out_index st.dims c.args.link = c.requires.number ∙ ap (λ ds. out_index ds c.args.link) (sym c.requires.ready.same_dims) in
    let t = taken_out st c.args.number c.args.link c.take_out-outgoing.new.parcel s below n (sym c.due_to.ensures ∙ c.if-not-due_to.false) c.take_out-outgoing.ensures.parcel in
    let q = as_shipped c.take_out-outgoing.new.parcel in
    let e = c.post.ensures.posts in
    let was : c.post.result ≡ Ok Sent = c.in-Ok-Sent.is ∙ ap Ok c.in-Ok-Sent.field-0-is in
    let over = sym c.take_out-outgoing.ensures.borrowed in
    let new = sent_from st c.take_out-outgoing.result.state.now c.state-1.given.0 c.args.number c.take_out-outgoing.result.number c.args.link _ _ n c.take_out-outgoing.ensures.outgoing.0 c.take_out-outgoing.ensures.state (c.state-1.given.1 over ∙ c.sent.ensures) in
    let closes = ap (λ p. p.last) c.take_out-outgoing.ensures.outgoing.1 in
    let no = no_longer_due _ _ st _ c.args.link _ q _ (g.P.Port.view c.args.port.now).sent _ _ s c.requires.ready c.requires.link c.requires.starts_here t.due t.entries t.last e.same_ins.got new refl closes in
    record { looked = λ d. absurd (no d); crowded = λ d. absurd (no d) }

pub returns-in-Ok-Sent-clause-waits : goal.returns-in-Ok-Sent-clause-waits
returns-in-Ok-Sent-clause-waits g c =
    let st = c.args.state.now in
    let s = c.known.ensures.standing in
    let below : c.args.link < links st.dims = subst (λ ds. c.args.link < links ds) (sym c.requires.ready.same_dims) c.requires.link in
    let n : c.args.number ≡ out_index st.dims c.args.link = c.requires.number ∙ ap (λ ds. out_index ds c.args.link) (sym c.requires.ready.same_dims) in
    let t = taken_out st c.args.number c.args.link c.take_out-outgoing.new.parcel s below n (sym c.due_to.ensures ∙ c.if-not-due_to.false) c.take_out-outgoing.ensures.parcel in
    let q = as_shipped c.take_out-outgoing.new.parcel in
    let e = c.post.ensures.posts in
    let was : c.post.result ≡ Ok Sent = c.in-Ok-Sent.is ∙ ap Ok c.in-Ok-Sent.field-0-is in
    let over = sym c.take_out-outgoing.ensures.borrowed in
    let new = sent_from st c.take_out-outgoing.result.state.now c.state-1.given.0 c.args.number c.take_out-outgoing.result.number c.args.link _ _ n c.take_out-outgoing.ensures.outgoing.0 c.take_out-outgoing.ensures.state (c.state-1.given.1 over ∙ c.sent.ensures) in
    let closes = ap (λ p. p.last) c.take_out-outgoing.ensures.outgoing.1 in
    let more = ap (λ logs. logs c.args.link) (e.sent was) ∙ added-here (g.P.Port.view c.args.port.now).sent c.args.link q in
    λ same. absurd (grew _ _ (sym more ∙ same))

pub returns-in-Ok-NoRoom-clause-out : goal.returns-in-Ok-NoRoom-clause-out
returns-in-Ok-NoRoom-clause-out g c =
    let st = c.args.state.now in
    let s = c.known.ensures.standing in
    let below : c.args.link < links st.dims = subst (λ ds. c.args.link < links ds) (sym c.requires.ready.same_dims) c.requires.link in
    let n : c.args.number ≡ out_index st.dims c.args.link = c.requires.number ∙ ap (λ ds. out_index ds c.args.link) (sym c.requires.ready.same_dims) in
    let t = taken_out st c.args.number c.args.link c.take_out-outgoing.new.parcel s below n (sym c.due_to.ensures ∙ c.if-not-due_to.false) c.take_out-outgoing.ensures.parcel in
    let q = as_shipped c.take_out-outgoing.new.parcel in
    let e = c.post.ensures.posts in
    let no = not_sent _ (c.in-Ok-NoRoom.is ∙ ap Ok c.in-Ok-NoRoom.field-0-is) in
    let over = sym c.take_out-outgoing.ensures.borrowed in
    let new = reopened st c.take_out-outgoing.result.state.now c.state-in-Ok-NoRoom-1.given.0 c.args.number c.take_out-outgoing.result.number c.args.link _ _ n c.take_out-outgoing.ensures.outgoing.0 c.take_out-outgoing.ensures.state (c.state-in-Ok-NoRoom-1.given.1 over ∙ c.put_back.ensures.state) in
    let keeps = ap (λ p. p.untaken) (e.kept no) ∙ t.entries in
    (served_none _ _ st _ c.args.link _ q _ _ _ _ s c.requires.ready c.requires.link c.requires.starts_here t.due t.entries t.last e.same_ins.got new keeps refl (e.not_sent no)).out

pub returns-in-Ok-NoRoom-clause-waits : goal.returns-in-Ok-NoRoom-clause-waits
returns-in-Ok-NoRoom-clause-waits g c =
    let st = c.args.state.now in
    let s = c.known.ensures.standing in
    let below : c.args.link < links st.dims = subst (λ ds. c.args.link < links ds) (sym c.requires.ready.same_dims) c.requires.link in
    let n : c.args.number ≡ out_index st.dims c.args.link = c.requires.number ∙ ap (λ ds. out_index ds c.args.link) (sym c.requires.ready.same_dims) in
    let t = taken_out st c.args.number c.args.link c.take_out-outgoing.new.parcel s below n (sym c.due_to.ensures ∙ c.if-not-due_to.false) c.take_out-outgoing.ensures.parcel in
    let q = as_shipped c.take_out-outgoing.new.parcel in
    let e = c.post.ensures.posts in
    let no = not_sent _ (c.in-Ok-NoRoom.is ∙ ap Ok c.in-Ok-NoRoom.field-0-is) in
    let over = sym c.take_out-outgoing.ensures.borrowed in
    let new = reopened st c.take_out-outgoing.result.state.now c.state-in-Ok-NoRoom-1.given.0 c.args.number c.take_out-outgoing.result.number c.args.link _ _ n c.take_out-outgoing.ensures.outgoing.0 c.take_out-outgoing.ensures.state (c.state-in-Ok-NoRoom-1.given.1 over ∙ c.put_back.ensures.state) in
    let keeps = ap (λ p. p.untaken) (e.kept no) ∙ t.entries in
    λ same. still_waits _ _ st _ c.args.link _ q _ (g.P.Port.view c.args.port.now).sent _ _ s c.requires.ready c.requires.link c.requires.starts_here t.due t.entries t.last e.same_ins.got new keeps

pub returns-in-Err-clause-out : goal.returns-in-Err-clause-out
returns-in-Err-clause-out g c =
    let st = c.args.state.now in
    let s = c.known.ensures.standing in
    let below : c.args.link < links st.dims = subst (λ ds. c.args.link < links ds) (sym c.requires.ready.same_dims) c.requires.link in
    let n : c.args.number ≡ out_index st.dims c.args.link = c.requires.number ∙ ap (λ ds. out_index ds c.args.link) (sym c.requires.ready.same_dims) in
    let t = taken_out st c.args.number c.args.link c.take_out-outgoing.new.parcel s below n (sym c.due_to.ensures ∙ c.if-not-due_to.false) c.take_out-outgoing.ensures.parcel in
    let q = as_shipped c.take_out-outgoing.new.parcel in
    let e = c.post.ensures.posts in
    let no = failed _ _ c.in-Err.is in
    let over = sym c.take_out-outgoing.ensures.borrowed in
    let new = reopened st c.take_out-outgoing.result.state.now c.state-in-Err-1.given.0 c.args.number c.take_out-outgoing.result.number c.args.link _ _ n c.take_out-outgoing.ensures.outgoing.0 c.take_out-outgoing.ensures.state (c.state-in-Err-1.given.1 over ∙ c.put_back-in-Err.ensures.state) in
    let keeps = ap (λ p. p.untaken) (e.kept no) ∙ t.entries in
    (served_none _ _ st _ c.args.link _ q _ _ _ _ s c.requires.ready c.requires.link c.requires.starts_here t.due t.entries t.last e.same_ins.got new keeps refl (e.not_sent no)).out

pub returns-in-Err-clause-waits : goal.returns-in-Err-clause-waits
returns-in-Err-clause-waits g c =
    let st = c.args.state.now in
    let s = c.known.ensures.standing in
    let below : c.args.link < links st.dims = subst (λ ds. c.args.link < links ds) (sym c.requires.ready.same_dims) c.requires.link in
    let n : c.args.number ≡ out_index st.dims c.args.link = c.requires.number ∙ ap (λ ds. out_index ds c.args.link) (sym c.requires.ready.same_dims) in
    let t = taken_out st c.args.number c.args.link c.take_out-outgoing.new.parcel s below n (sym c.due_to.ensures ∙ c.if-not-due_to.false) c.take_out-outgoing.ensures.parcel in
    let q = as_shipped c.take_out-outgoing.new.parcel in
    let e = c.post.ensures.posts in
    let no = failed _ _ c.in-Err.is in
    let over = sym c.take_out-outgoing.ensures.borrowed in
    let new = reopened st c.take_out-outgoing.result.state.now c.state-in-Err-1.given.0 c.args.number c.take_out-outgoing.result.number c.args.link _ _ n c.take_out-outgoing.ensures.outgoing.0 c.take_out-outgoing.ensures.state (c.state-in-Err-1.given.1 over ∙ c.put_back-in-Err.ensures.state) in
    let keeps = ap (λ p. p.untaken) (e.kept no) ∙ t.entries in
    λ same. still_waits _ _ st _ c.args.link _ q _ (g.P.Port.view c.args.port.now).sent _ _ s c.requires.ready c.requires.link c.requires.starts_here t.due t.entries t.last e.same_ins.got new keeps

pub returns-in-Ok-NoRoom-clause-served : goal.returns-in-Ok-NoRoom-clause-served
returns-in-Ok-NoRoom-clause-served g c =
    let was : c.post.result ≡ Ok NoRoom = c.in-Ok-NoRoom.is ∙ ap Ok c.in-Ok-NoRoom.field-0-is in
    record { looked = λ d. c.post.ensures.posts.looked was; crowded = λ d. c.post.ensures.posts.crowded was }

pub due_to-requires : goal.due_to-requires
due_to-requires g c =
    let st = c.args.state.now in
    let s = c.known.ensures.standing in
    let below : c.args.link < links st.dims = subst (λ ds. c.args.link < links ds) (sym c.requires.ready.same_dims) c.requires.link in
    let n : c.args.number ≡ out_index st.dims c.args.link = c.requires.number ∙ ap (λ ds. out_index ds c.args.link) (sym c.requires.ready.same_dims) in
    let within : c.args.number < sum st.dims = subst (λ i. i < sum st.dims) (sym n) (out_number st.dims c.args.link s.grid below).within in
    (search rules, within)

pub returns-then-not-due_to-clause-served : goal.returns-then-not-due_to-clause-served
returns-then-not-due_to-clause-served g c =
    let st = c.args.state.now in
    let s = c.known.ensures.standing in
    let below : c.args.link < links st.dims = subst (λ ds. c.args.link < links ds) (sym c.requires.ready.same_dims) c.requires.link in
    let n : c.args.number ≡ out_index st.dims c.args.link = c.requires.number ∙ ap (λ ds. out_index ds c.args.link) (sym c.requires.ready.same_dims) in
    let within : c.args.number < sum st.dims = subst (λ i. i < sum st.dims) (sym n) (out_number st.dims c.args.link s.grid below).within in
    let no = not_due st c.args.number c.args.link _ s below n c.due_to.ensures c.if-not-due_to.true in
    record { looked = λ d. absurd (no d); crowded = λ d. absurd (no d) }

pub take_out-outgoing-requires : goal.take_out-outgoing-requires
take_out-outgoing-requires g c =
    let st = c.args.state.now in
    let s = c.known.ensures.standing in
    let below : c.args.link < links st.dims = subst (λ ds. c.args.link < links ds) (sym c.requires.ready.same_dims) c.requires.link in
    let n : c.args.number ≡ out_index st.dims c.args.link = c.requires.number ∙ ap (λ ds. out_index ds c.args.link) (sym c.requires.ready.same_dims) in
    let within : c.args.number < sum st.dims = subst (λ i. i < sum st.dims) (sym n) (out_number st.dims c.args.link s.grid below).within in
    (search rules, (search rules, (search rules, (within, (sym c.due_to.ensures ∙ c.if-not-due_to.false, c.requires.empty)))))

pub returns-then-not-due_to-clause-posted : goal.returns-then-not-due_to-clause-posted
returns-then-not-due_to-clause-posted g c = inl refl

pub returns-in-Ok-Sent-clause-posted : goal.returns-in-Ok-Sent-clause-posted
returns-in-Ok-Sent-clause-posted g c =
    let st = c.args.state.now in
    let s = c.known.ensures.standing in
    let below : c.args.link < links st.dims = subst (λ ds. c.args.link < links ds) (sym c.requires.ready.same_dims) c.requires.link in
    let n : c.args.number ≡ out_index st.dims c.args.link = c.requires.number ∙ ap (λ ds. out_index ds c.args.link) (sym c.requires.ready.same_dims) in
    let t = taken_out st c.args.number c.args.link c.take_out-outgoing.new.parcel s below n (sym c.due_to.ensures ∙ c.if-not-due_to.false) c.take_out-outgoing.ensures.parcel in
    let q = as_shipped c.take_out-outgoing.new.parcel in
    let was : c.post.result ≡ Ok Sent = c.in-Ok-Sent.is ∙ ap Ok c.in-Ok-Sent.field-0-is in
    inr (record { parcel = q; is = ap (λ logs. logs c.args.link) (c.post.ensures.posts.sent was) ∙ added-here (g.P.Port.view c.args.port.now).sent c.args.link q; holds = t.entries })

pub returns-in-Ok-NoRoom-clause-posted : goal.returns-in-Ok-NoRoom-clause-posted
returns-in-Ok-NoRoom-clause-posted g c =
    let no = not_sent _ (c.in-Ok-NoRoom.is ∙ ap Ok c.in-Ok-NoRoom.field-0-is) in
    inl (ap (λ logs. logs c.args.link) (c.post.ensures.posts.not_sent no))

pub returns-in-Err-clause-posted : goal.returns-in-Err-clause-posted
returns-in-Err-clause-posted g c = inl (ap (λ logs. logs c.args.link) (c.post.ensures.posts.not_sent (failed _ _ c.in-Err.is)))

pub returns-then-not-due_to-clause-calls : goal.returns-then-not-due_to-clause-calls
returns-then-not-due_to-clause-calls g c =
    let st = c.args.state.now in
    let s = c.known.ensures.standing in
    let below : c.args.link < links st.dims = subst (λ ds. c.args.link < links ds) (sym c.requires.ready.same_dims) c.requires.link in
    let n : c.args.number ≡ out_index st.dims c.args.link = c.requires.number ∙ ap (λ ds. out_index ds c.args.link) (sym c.requires.ready.same_dims) in
    let no = not_due st c.args.number c.args.link _ s below n c.due_to.ensures c.if-not-due_to.true in
    let log = (g.P.Port.view c.args.port.now).sent c.args.link in
    sym (append-nil (g.P.Port.view c.args.port.now).calls) ∙ ap (λ b. (g.P.Port.view c.args.port.now).calls ++ once_if b (Post c.args.link)) (sym (served_not st c.args.link log log refl no))

pub returns-in-Ok-Sent-clause-calls : goal.returns-in-Ok-Sent-clause-calls
returns-in-Ok-Sent-clause-calls g c =
    let q = as_shipped c.take_out-outgoing.new.parcel in
    let was : c.post.result ≡ Ok Sent = c.in-Ok-Sent.is ∙ ap Ok c.in-Ok-Sent.field-0-is in
    let log = (g.P.Port.view c.args.port.now).sent c.args.link in
    let more = ap (λ logs. logs c.args.link) (c.post.ensures.posts.sent was) ∙ added-here (g.P.Port.view c.args.port.now).sent c.args.link q in
    c.post.ensures.posts.calls (search rules) ∙ ap (λ b. (g.P.Port.view c.args.port.now).calls ++ once_if b (Post c.args.link)) (sym (served_sent c.state-1.given.0 c.args.link log _ q more))

pub returns-in-Ok-NoRoom-clause-calls : goal.returns-in-Ok-NoRoom-clause-calls
returns-in-Ok-NoRoom-clause-calls g c =
    let st = c.args.state.now in
    let s = c.known.ensures.standing in
    let below : c.args.link < links st.dims = subst (λ ds. c.args.link < links ds) (sym c.requires.ready.same_dims) c.requires.link in
    let n : c.args.number ≡ out_index st.dims c.args.link = c.requires.number ∙ ap (λ ds. out_index ds c.args.link) (sym c.requires.ready.same_dims) in
    let t = taken_out st c.args.number c.args.link c.take_out-outgoing.new.parcel s below n (sym c.due_to.ensures ∙ c.if-not-due_to.false) c.take_out-outgoing.ensures.parcel in
    let q = as_shipped c.take_out-outgoing.new.parcel in
    let e = c.post.ensures.posts in
    let no = not_sent _ (c.in-Ok-NoRoom.is ∙ ap Ok c.in-Ok-NoRoom.field-0-is) in
    let over = sym c.take_out-outgoing.ensures.borrowed in
    let new = reopened st c.take_out-outgoing.result.state.now c.state-in-Ok-NoRoom-1.given.0 c.args.number c.take_out-outgoing.result.number c.args.link _ _ n c.take_out-outgoing.ensures.outgoing.0 c.take_out-outgoing.ensures.state (c.state-in-Ok-NoRoom-1.given.1 over ∙ c.put_back.ensures.state) in
    let keeps = ap (λ p. p.untaken) (e.kept no) ∙ t.entries in
    let due = still_due _ _ st _ c.args.link _ q _ (g.P.Port.view c.args.port.now).sent _ _ s c.requires.ready c.requires.link c.requires.starts_here t.due t.entries t.last e.same_ins.got new keeps refl in
    let log = (g.P.Port.view c.args.port.now).sent c.args.link in
    c.post.ensures.posts.calls (search rules) ∙ ap (λ b. (g.P.Port.view c.args.port.now).calls ++ once_if b (Post c.args.link)) (sym (served_due c.state-in-Ok-NoRoom-1.given.0 c.args.link log _ due))

pub returns-in-Err-clause-still_due : goal.returns-in-Err-clause-still_due
returns-in-Err-clause-still_due g c =
    let st = c.args.state.now in
    let s = c.known.ensures.standing in
    let below : c.args.link < links st.dims = subst (λ ds. c.args.link < links ds) (sym c.requires.ready.same_dims) c.requires.link in
    let n : c.args.number ≡ out_index st.dims c.args.link = c.requires.number ∙ ap (λ ds. out_index ds c.args.link) (sym c.requires.ready.same_dims) in
    let t = taken_out st c.args.number c.args.link c.take_out-outgoing.new.parcel s below n (sym c.due_to.ensures ∙ c.if-not-due_to.false) c.take_out-outgoing.ensures.parcel in
    let q = as_shipped c.take_out-outgoing.new.parcel in
    let e = c.post.ensures.posts in
    let no = failed _ _ c.in-Err.is in
    let over = sym c.take_out-outgoing.ensures.borrowed in
    let new = reopened st c.take_out-outgoing.result.state.now c.state-in-Err-1.given.0 c.args.number c.take_out-outgoing.result.number c.args.link _ _ n c.take_out-outgoing.ensures.outgoing.0 c.take_out-outgoing.ensures.state (c.state-in-Err-1.given.1 over ∙ c.put_back-in-Err.ensures.state) in
    let keeps = ap (λ p. p.untaken) (e.kept no) ∙ t.entries in
    λ err. still_due _ _ st _ c.args.link _ q _ (g.P.Port.view c.args.port.now).sent _ _ s c.requires.ready c.requires.link c.requires.starts_here t.due t.entries t.last e.same_ins.got new keeps refl

pub returns-in-Err-clause-no_post : goal.returns-in-Err-clause-no_post
returns-in-Err-clause-no_post g c = λ err. ap (λ port. (g.P.Port.view port).calls) (c.post.ensures.no_memory (search rules))

pub returns-in-Err-clause-elsewhere : goal.returns-in-Err-clause-elsewhere
returns-in-Err-clause-elsewhere g c =
    let same = c.post.ensures.no_memory (search rules) in
    record {
      sent = λ m ne. ap (λ port. (g.P.Port.view port).sent m) same;
      looks_out = λ m ne. ap (λ port. (g.P.Port.view port).looks_out m) same;
      crowded = λ m ne. ap (λ port. is_crowded (g.P.Port.view port) m) same;
    }

pub returns-in-Ok-Sent-clause-elsewhere : goal.returns-in-Ok-Sent-clause-elsewhere
returns-in-Ok-Sent-clause-elsewhere g c = outs_elsewhere c.post.ensures.posts

pub returns-in-Ok-NoRoom-clause-elsewhere : goal.returns-in-Ok-NoRoom-clause-elsewhere
returns-in-Ok-NoRoom-clause-elsewhere g c = outs_elsewhere c.post.ensures.posts
