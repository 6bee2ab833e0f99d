use Rattle.std.proofs.Common.{◌≡◌, ℕ, true, false, ◌<◌, [], ◌∷◌, ◌++◌, length, length-append, arith, refl, sym, ap, subst, ◌∙◌, rules, sum}
use Rattle.route_tensor.specs.Link.{links}
use Rattle.route_tensor.specs.Neighbour.{in_index}
use Rattle.std.specs.List.{flat_map}
use Rattle.std.proofs.lemmas.Bool.{false≢true}
use Rattle.std.proofs.lemmas.List.{append-nil}
use Rattle.item_buffer.specs.Contents.{as_shipped}
use Rattle.port_bank.specs.Logs.{Logs}
use Rattle.port_bank.proofs.Frames.{ins_elsewhere}
use Rattle.port_bank.proofs.Kept.{added-here}
use Rattle.bale_items.specs.Counters.{RoseOrFull}
use Rattle.port_bank.proofs.Channels.{changed-here}
use Rattle.hop_core.specs.Link.{is_wanted}
use Rattle.hop_core.specs.State.{in_at}
use Rattle.convey.specs.Buffers.{in_of}
use Rattle.convey.specs.Due.{WantsParcel}
use Rattle.port_bank.specs.Calls.{once_if}
use Rattle.port_bank.specs.Calls.Call.{Collect}
use Rattle.convey.specs.AdvanceSteps.{GoesOn}
use Rattle.convey.proofs.Ways.{no_more, goes_on_refl, collects_first}
use Rattle.convey.proofs.States.{in_number}
use Rattle.convey.proofs.Collects.{filled, fair_at, collected_one, came_lies, grew, still_ready}
use Rattle.convey.proofs.collecting.collect_one.Goals as goal

pub wants_from-requires : goal.wants_from-requires
wants_from-requires g c =
    let st = c.args.state.now in
    let s = c.known.ensures.standing in
    let below : c.args.link < links st.dims = subst (λ ds. c.args.link < links ds) (sym c.requires.ready.same_dims) c.requires.link in
    let n : c.args.number ≡ in_index st.dims c.args.link = c.requires.number ∙ ap (λ ds. in_index ds c.args.link) (sym c.requires.ready.same_dims) in
    (search rules, subst (λ i. i < sum st.dims) (sym n) (in_number st.dims c.args.link s.grid below).within)

pub returns-in-Got-clause-leaves : goal.returns-in-Got-clause-leaves
returns-in-Got-clause-leaves g c =
    let st = c.args.state.now in
    let s = c.known.ensures.standing in
    let below : c.args.link < links st.dims = subst (λ ds. c.args.link < links ds) (sym c.requires.ready.same_dims) c.requires.link in
    let n : c.args.number ≡ in_index st.dims c.args.link = c.requires.number ∙ ap (λ ds. in_index ds c.args.link) (sym c.requires.ready.same_dims) in
    let wants : WantsParcel st c.args.link = subst (λ i. is_wanted (in_at st i) ≡ true) n (sym c.wants_from.ensures ∙ c.if-not-wants_from.false) in
    let q = as_shipped c.collect.new.p in
    let e = c.in-Got.ensures.collects in
    let new = filled st c.take_in.new.self c.args.number c.args.link _ n c.take_in.ensures.state in
    let one = (collected_one _ _ _ _ c.args.link _ _ _ _ _ s c.requires.ready c.requires.link c.requires.ends_here wants new c.collect.ensures.collects.same_outs.sent q refl refl (e.fair refl) (e.own refl) (e.got refl)) in
    record {
      ready = one.ready;
      goes_on = one.goes_on;
      outs = search rules;
      same_outs = c.collect.ensures.collects.same_outs;
      same_port = c.collect.ensures.collects.same_port;
    }

pub returns-in-Nothing-clause-leaves : goal.returns-in-Nothing-clause-leaves
returns-in-Nothing-clause-leaves g c =
    let sent : Logs = (g.P.Port.view c.args.port.now).sent in
    let got : Logs = (g.P.Port.view c.args.port.now).got in
    record {
      ready = still_ready _ _ c.args.state.now _ _ _ _ c.collect.ensures.collects.same_outs.sent (c.in-Nothing.ensures.collects.not_got refl) c.requires.ready;
      goes_on = subst (λ (a : Logs). GoesOn c.args.state.now c.args.state.now sent a got (g.P.Port.view c.collect.new.self).got) (sym c.collect.ensures.collects.same_outs.sent)
          (subst (λ (b : Logs). GoesOn c.args.state.now c.args.state.now sent sent got b) (sym (c.in-Nothing.ensures.collects.not_got refl)) (goes_on_refl c.args.state.now sent got));
      outs = search rules;
      same_outs = c.collect.ensures.collects.same_outs;
      same_port = c.collect.ensures.collects.same_port;
    }

pub returns-then-not-wants_from-clause-leaves : goal.returns-then-not-wants_from-clause-leaves
returns-then-not-wants_from-clause-leaves g c = collects_first c.args.state.now (g.P.Port.view c.args.port.now) c.requires.ready

pub returns-in-Got-clause-inbox : goal.returns-in-Got-clause-inbox
returns-in-Got-clause-inbox g c =
    let st = c.args.state.now in
    let s = c.known.ensures.standing in
    let below : c.args.link < links st.dims = subst (λ ds. c.args.link < links ds) (sym c.requires.ready.same_dims) c.requires.link in
    let n : c.args.number ≡ in_index st.dims c.args.link = c.requires.number ∙ ap (λ ds. in_index ds c.args.link) (sym c.requires.ready.same_dims) in
    let wants : WantsParcel st c.args.link = subst (λ i. is_wanted (in_at st i) ≡ true) n (sym c.wants_from.ensures ∙ c.if-not-wants_from.false) in
    let q = as_shipped c.collect.new.p in
    let e = c.in-Got.ensures.collects in
    let new = filled st c.take_in.new.self c.args.number c.args.link _ n c.take_in.ensures.state in
    (collected_one _ _ _ _ c.args.link _ _ _ _ _ s c.requires.ready c.requires.link c.requires.ends_here wants new c.collect.ensures.collects.same_outs.sent q refl refl (e.fair refl) (e.own refl) (e.got refl)).inbox

pub returns-in-Got-clause-asked : goal.returns-in-Got-clause-asked
returns-in-Got-clause-asked g c =
    let st = c.args.state.now in
    let s = c.known.ensures.standing in
    let below : c.args.link < links st.dims = subst (λ ds. c.args.link < links ds) (sym c.requires.ready.same_dims) c.requires.link in
    let n : c.args.number ≡ in_index st.dims c.args.link = c.requires.number ∙ ap (λ ds. in_index ds c.args.link) (sym c.requires.ready.same_dims) in
    let wants : WantsParcel st c.args.link = subst (λ i. is_wanted (in_at st i) ≡ true) n (sym c.wants_from.ensures ∙ c.if-not-wants_from.false) in
    let more = ap (λ logs. logs c.args.link) (c.in-Got.ensures.collects.got refl) ∙ added-here (g.P.Port.view c.args.port.now).got c.args.link (as_shipped c.collect.new.p) in
    record {
      left = λ no. absurd (no wants);
      unasked = λ no. absurd (no wants);
      rose = λ yes same. absurd (grew _ _ (sym more ∙ same));
      idle = λ yes same. absurd (grew _ _ (sym more ∙ same));
      once = omega (arith, ap length more, length-append ((g.P.Port.view c.args.port.now).got c.args.link) (as_shipped c.collect.new.p ∷ []));
    }

pub returns-in-Nothing-clause-asked : goal.returns-in-Nothing-clause-asked
returns-in-Nothing-clause-asked g c =
    let st = c.args.state.now in
    let s = c.known.ensures.standing in
    let below : c.args.link < links st.dims = subst (λ ds. c.args.link < links ds) (sym c.requires.ready.same_dims) c.requires.link in
    let n : c.args.number ≡ in_index st.dims c.args.link = c.requires.number ∙ ap (λ ds. in_index ds c.args.link) (sym c.requires.ready.same_dims) in
    let wants : WantsParcel st c.args.link = subst (λ i. is_wanted (in_at st i) ≡ true) n (sym c.wants_from.ensures ∙ c.if-not-wants_from.false) in
    let link : ℕ = c.args.link in
    let e = c.in-Nothing.ensures.collects in
    let noted : (g.P.Port.view c.collect.new.self).noted link ≡ (g.P.Port.view c.collect.new.self).listens link = ap (λ n. n link) e.noted ∙ changed-here (g.P.Port.view c.args.port.now).noted link ((g.P.Port.view c.collect.new.self).listens link) in
    record {
      left = λ no. absurd (no wants);
      unasked = λ no. absurd (no wants);
      rose = λ yes same. subst (RoseOrFull ((g.P.Port.view c.args.port.now).noted link)) (sym noted) (e.heard refl);
      idle = λ yes same. e.idle refl;
      once = omega (arith, ap (λ logs. length (logs link)) (e.not_got refl));
    }

pub returns-in-Nothing-clause-lies : goal.returns-in-Nothing-clause-lies
returns-in-Nothing-clause-lies g c =
    let untaken = (in_of c.args.state.now c.args.link).parcel.untaken in
    λ more e. sym (ap (λ m. untaken ++ flat_map (λ p. p.entries) m) (no_more _ more (sym (ap (λ logs. logs c.args.link) (c.in-Nothing.ensures.collects.not_got refl)) ∙ e)) ∙ append-nil untaken)

pub returns-then-not-wants_from-clause-lies : goal.returns-then-not-wants_from-clause-lies
returns-then-not-wants_from-clause-lies g c =
    let untaken = (in_of c.args.state.now c.args.link).parcel.untaken in
    λ more e. sym (ap (λ m. untaken ++ flat_map (λ p. p.entries) m) (no_more _ more e) ∙ append-nil untaken)

pub returns-in-Got-clause-lies : goal.returns-in-Got-clause-lies
returns-in-Got-clause-lies g c =
    let st = c.args.state.now in
    let s = c.known.ensures.standing in
    let below : c.args.link < links st.dims = subst (λ ds. c.args.link < links ds) (sym c.requires.ready.same_dims) c.requires.link in
    let n : c.args.number ≡ in_index st.dims c.args.link = c.requires.number ∙ ap (λ ds. in_index ds c.args.link) (sym c.requires.ready.same_dims) in
    let wants : WantsParcel st c.args.link = subst (λ i. is_wanted (in_at st i) ≡ true) n (sym c.wants_from.ensures ∙ c.if-not-wants_from.false) in
    let q = as_shipped c.collect.new.p in
    let e = c.in-Got.ensures.collects in
    let new = filled st c.take_in.new.self c.args.number c.args.link _ n c.take_in.ensures.state in
    λ more same. came_lies _ _ c.args.link _ q _ _ more s below wants new refl
    (ap (λ logs. logs c.args.link) (e.got refl) ∙ added-here (g.P.Port.view c.args.port.now).got c.args.link q) same

pub returns-then-not-wants_from-clause-asked : goal.returns-then-not-wants_from-clause-asked
returns-then-not-wants_from-clause-asked g c =
    let st = c.args.state.now in
    let s = c.known.ensures.standing in
    let below : c.args.link < links st.dims = subst (λ ds. c.args.link < links ds) (sym c.requires.ready.same_dims) c.requires.link in
    let n : c.args.number ≡ in_index st.dims c.args.link = c.requires.number ∙ ap (λ ds. in_index ds c.args.link) (sym c.requires.ready.same_dims) in
    let no : WantsParcel st c.args.link → ⊥ = λ w. absurd (false≢true (sym c.if-not-wants_from.true ∙ (c.wants_from.ensures ∙ subst (λ i. is_wanted (in_at st i) ≡ true) (sym n) w))) in
    record {
      left = λ z. refl;
      unasked = λ z. refl;
      rose = λ yes same. absurd (no yes);
      idle = λ yes same. absurd (no yes);
      once = omega arith;
    }

pub take_in-requires : goal.take_in-requires
take_in-requires g c =
    let st = c.args.state.now in
    let s = c.known.ensures.standing in
    let below : c.args.link < links st.dims = subst (λ ds. c.args.link < links ds) (sym c.requires.ready.same_dims) c.requires.link in
    let n : c.args.number ≡ in_index st.dims c.args.link = c.requires.number ∙ ap (λ ds. in_index ds c.args.link) (sym c.requires.ready.same_dims) in
    let within : c.args.number < sum st.dims = subst (λ i. i < sum st.dims) (sym n) (in_number st.dims c.args.link s.grid below).within in
    let came = c.in-Got.ensures.collects.arrived refl in (
      search rules,
      (
        search rules,
        (
          within,
          (
            sym c.wants_from.ensures ∙ c.if-not-wants_from.false,
            (record { none_taken = ap (λ p. p.taken) came; none_back = ap (λ p. p.back) came }, fair_at st _ c.args.number c.args.link _ s below c.requires.ready.same_dims n (c.in-Got.ensures.collects.fair refl)),
          ),
        ),
      ),
    )

pub returns-in-Got-clause-calls : goal.returns-in-Got-clause-calls
returns-in-Got-clause-calls g c =
    let st = c.args.state.now in
    let s = c.known.ensures.standing in
    let n : c.args.number ≡ in_index st.dims c.args.link = c.requires.number ∙ ap (λ ds. in_index ds c.args.link) (sym c.requires.ready.same_dims) in
    let wants : WantsParcel st c.args.link = subst (λ i. is_wanted (in_at st i) ≡ true) n (sym c.wants_from.ensures ∙ c.if-not-wants_from.false) in
    c.collect.ensures.collects.calls ∙ ap (λ b. (g.P.Port.view c.args.port.now).calls ++ once_if b (Collect c.args.link)) (sym wants)

pub returns-in-Got-clause-elsewhere : goal.returns-in-Got-clause-elsewhere
returns-in-Got-clause-elsewhere g c = ins_elsewhere c.collect.ensures.collects

pub returns-in-Nothing-clause-calls : goal.returns-in-Nothing-clause-calls
returns-in-Nothing-clause-calls g c =
    let st = c.args.state.now in
    let s = c.known.ensures.standing in
    let n : c.args.number ≡ in_index st.dims c.args.link = c.requires.number ∙ ap (λ ds. in_index ds c.args.link) (sym c.requires.ready.same_dims) in
    let wants : WantsParcel st c.args.link = subst (λ i. is_wanted (in_at st i) ≡ true) n (sym c.wants_from.ensures ∙ c.if-not-wants_from.false) in
    c.collect.ensures.collects.calls ∙ ap (λ b. (g.P.Port.view c.args.port.now).calls ++ once_if b (Collect c.args.link)) (sym wants)

pub returns-in-Nothing-clause-elsewhere : goal.returns-in-Nothing-clause-elsewhere
returns-in-Nothing-clause-elsewhere g c = ins_elsewhere c.collect.ensures.collects

pub returns-then-not-wants_from-clause-calls : goal.returns-then-not-wants_from-clause-calls
returns-then-not-wants_from-clause-calls g c =
    let st = c.args.state.now in
    let s = c.known.ensures.standing in
    let n : c.args.number ≡ in_index st.dims c.args.link = c.requires.number ∙ ap (λ ds. in_index ds c.args.link) (sym c.requires.ready.same_dims) in
    let no : is_wanted (in_of st c.args.link) ≡ false = subst (λ i. is_wanted (in_at st i) ≡ false) n (sym c.wants_from.ensures ∙ c.if-not-wants_from.true) in
    sym (append-nil (g.P.Port.view c.args.port.now).calls) ∙ ap (λ b. (g.P.Port.view c.args.port.now).calls ++ once_if b (Collect c.args.link)) (sym no)
