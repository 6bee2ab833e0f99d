use Rattle.std.proofs.Common.{◌≡◌, ℕ, ◌<◌, ◌++◌, Bool, List, length, get_or, refl, sym, ap, subst, ◌∙◌, arith, rules}
use Rattle.list_laws.specs.Lists.{IsPrefix}
use Rattle.port_bank.specs.Port.{is_idle}
use Rattle.port_bank.specs.Logs.{Logs}
use Rattle.port_bank.specs.Calls.{Call}
use Rattle.port_bank.proofs.Kept.{law_same}
use Rattle.exstack.specs.Links.{no_stack_in}
use Rattle.exstack.specs.State.{Stack, stack_dims, number, stack_link_from}
use Rattle.exstack.specs.Agreement.{AgreesIn}
use Rattle.exstack.specs.Steps.{WasCollected, MadeRound, AskedWithoutSuccess, StackStopsAt, posts_to, collects_from}
use Rattle.exstack.specs.Standing.{IsStack}
use Rattle.exstack.proofs.Making.{after_round, PostsDone, CollectsDone, Before, before, none_done, round_done, stack_done, agrees_done}
use Rattle.exstack.proofs.exstack.Exstack.go_round.Goals as goal

pub invariant_of-self : goal.invariant_of-self
invariant_of-self g c =
    let st : Stack = record {
      ranks = c.self.inside.ranks;
      rank = c.self.inside.rank;
      stage = c.self.inside.stage;
      done = c.self.inside.done;
      epoch = c.self.inside.epoch;
      outs = c.self.inside.outs.items;
      ins = c.self.inside.ins.items;
      popped = c.self.inside.popped;
    } in
    let now : Stack = c.args.self.now in
    let view : st ≡ now = c.self.view_is in
    let s : IsStack g.row.CAP st = c.self.invariant.standing in
    let b : Before st c.args.last c.args.exchange = before st now c.args.last c.args.exchange view c.requires.in_round c.requires.exchange c.requires.last c.requires.forgotten in
    let sent : Logs = (g.P.Port.view c.args.port.now).sent in
    let sent' : Logs = (g.P.Port.view c.post_all.new.port).sent in
    let got : Logs = (g.P.Port.view c.args.port.now).got in
    let e = c.post_all.ensures in
    let p : PostsDone st c.post_all.new.outs.items c.args.last sent sent' got = record {
      count = e.count;
      moved = e.moved;
      law = law_same _ _ _ _ _ _ _ _ (ap stack_dims view ∙ sym c.requires.at_port.same_dims) (ap (λ (t : Stack). t.rank) view ∙ sym c.requires.at_port.same_rank) refl refl e.law;
      grows = e.left.grows;
    } in
    let q : CollectsDone st st.ins c.args.exchange sent' got got = none_done st c.args.exchange sent' got in
    record {
      standing = stack_done g.row.CAP st c.post_all.new.outs.items st.ins c.args.last c.args.exchange sent sent' got got s b p q;
      from_high = c.self.invariant.from_high;
      from_none = c.self.invariant.from_none;
    }

pub returns-in_err-post_all-clause-cycle : goal.returns-in_err-post_all-clause-cycle
returns-in_err-post_all-clause-cycle g c =
    let st : Stack = record {
      ranks = c.self.inside.ranks;
      rank = c.self.inside.rank;
      stage = c.self.inside.stage;
      done = c.self.inside.done;
      epoch = c.self.inside.epoch;
      outs = c.self.inside.outs.items;
      ins = c.self.inside.ins.items;
      popped = c.self.inside.popped;
    } in
    let now : Stack = c.args.self.now in
    let view : st ≡ now = c.self.view_is in
    let s : IsStack g.row.CAP st = c.self.invariant.standing in
    let b : Before st c.args.last c.args.exchange = before st now c.args.last c.args.exchange view c.requires.in_round c.requires.exchange c.requires.last c.requires.forgotten in
    let sent : Logs = (g.P.Port.view c.args.port.now).sent in
    let sent' : Logs = (g.P.Port.view c.post_all.new.port).sent in
    let got : Logs = (g.P.Port.view c.args.port.now).got in
    let e = c.post_all.ensures in
    let p : PostsDone st c.post_all.new.outs.items c.args.last sent sent' got = record {
      count = e.count;
      moved = e.moved;
      law = law_same _ _ _ _ _ _ _ _ (ap stack_dims view ∙ sym c.requires.at_port.same_dims) (ap (λ (t : Stack). t.rank) view ∙ sym c.requires.at_port.same_rank) refl refl e.law;
      grows = e.left.grows;
    } in
    let q : CollectsDone st st.ins c.args.exchange sent' got got = none_done st c.args.exchange sent' got in
    λ n a. subst (λ (logs : Logs). AgreesIn n (after_round st c.post_all.new.outs.items st.ins) sent' logs) (sym e.left.same_ins.got)
    (agrees_done g.row.CAP st c.post_all.new.outs.items st.ins c.args.last c.args.exchange sent sent' got got s b p q n (subst (λ t. AgreesIn n t sent got) (sym view) a))

pub invariant_of-self-2 : goal.invariant_of-self-2
invariant_of-self-2 g c =
    let st : Stack = record {
      ranks = c.self.inside.ranks;
      rank = c.self.inside.rank;
      stage = c.self.inside.stage;
      done = c.self.inside.done;
      epoch = c.self.inside.epoch;
      outs = c.self.inside.outs.items;
      ins = c.self.inside.ins.items;
      popped = c.self.inside.popped;
    } in
    let now : Stack = c.args.self.now in
    let view : st ≡ now = c.self.view_is in
    let s : IsStack g.row.CAP st = c.self.invariant.standing in
    let b : Before st c.args.last c.args.exchange = before st now c.args.last c.args.exchange view c.requires.in_round c.requires.exchange c.requires.last c.requires.forgotten in
    let sent : Logs = (g.P.Port.view c.args.port.now).sent in
    let sent' : Logs = (g.P.Port.view c.post_all.new.port).sent in
    let got : Logs = (g.P.Port.view c.args.port.now).got in
    let e = c.post_all.ensures in
    let p : PostsDone st c.post_all.new.outs.items c.args.last sent sent' got = record {
      count = e.count;
      moved = e.moved;
      law = law_same _ _ _ _ _ _ _ _ (ap stack_dims view ∙ sym c.requires.at_port.same_dims) (ap (λ (t : Stack). t.rank) view ∙ sym c.requires.at_port.same_rank) refl refl e.law;
      grows = e.left.grows;
    } in
    let got' : Logs = (g.P.Port.view c.collect_all.new.port).got in
    let f = c.collect_all.ensures in
    let q : CollectsDone st c.collect_all.new.ins.items c.args.exchange sent' got got' = record {
      count = f.count;
      moved = subst (λ (logs : Logs). (a : ℕ) → a < length st.ins → WasCollected c.args.exchange (get_or st.ins a no_stack_in) (get_or c.collect_all.new.ins.items a no_stack_in) (logs (number (length st.ins) a st.rank)) (got' (number (length st.ins) a st.rank))) e.left.same_ins.got f.moved;
      own = subst (λ (logs : Logs). IsPrefix (logs (number (length st.ins) st.rank st.rank)) (sent' (number (length st.ins) st.rank st.rank)) → IsPrefix (got' (number (length st.ins) st.rank st.rank)) (sent' (number (length st.ins) st.rank st.rank))) e.left.same_ins.got
          (subst (λ (logs : Logs). IsPrefix ((g.P.Port.view c.post_all.new.port).got (number (length st.ins) st.rank st.rank)) (sent' (number (length st.ins) st.rank st.rank)) → IsPrefix (got' (number (length st.ins) st.rank st.rank)) (logs (number (length st.ins) st.rank st.rank))) f.left.same_outs.sent f.own);
      grows = subst (λ (logs : Logs). (m : ℕ) → IsPrefix (logs m) (got' m)) e.left.same_ins.got f.left.grows;
    } in
    record {
      standing = stack_done g.row.CAP st c.post_all.new.outs.items c.collect_all.new.ins.items c.args.last c.args.exchange sent sent' got got' s b p q;
      from_high = omega arith;
      from_none = λ a w. absurd (omega arith);
    }

pub returns-clause-cycle : goal.returns-clause-cycle
returns-clause-cycle g c =
    let st : Stack = record {
      ranks = c.self.inside.ranks;
      rank = c.self.inside.rank;
      stage = c.self.inside.stage;
      done = c.self.inside.done;
      epoch = c.self.inside.epoch;
      outs = c.self.inside.outs.items;
      ins = c.self.inside.ins.items;
      popped = c.self.inside.popped;
    } in
    let now : Stack = c.args.self.now in
    let view : st ≡ now = c.self.view_is in
    let s : IsStack g.row.CAP st = c.self.invariant.standing in
    let b : Before st c.args.last c.args.exchange = before st now c.args.last c.args.exchange view c.requires.in_round c.requires.exchange c.requires.last c.requires.forgotten in
    let sent : Logs = (g.P.Port.view c.args.port.now).sent in
    let sent' : Logs = (g.P.Port.view c.post_all.new.port).sent in
    let got : Logs = (g.P.Port.view c.args.port.now).got in
    let e = c.post_all.ensures in
    let p : PostsDone st c.post_all.new.outs.items c.args.last sent sent' got = record {
      count = e.count;
      moved = e.moved;
      law = law_same _ _ _ _ _ _ _ _ (ap stack_dims view ∙ sym c.requires.at_port.same_dims) (ap (λ (t : Stack). t.rank) view ∙ sym c.requires.at_port.same_rank) refl refl e.law;
      grows = e.left.grows;
    } in
    let got' : Logs = (g.P.Port.view c.collect_all.new.port).got in
    let f = c.collect_all.ensures in
    let q : CollectsDone st c.collect_all.new.ins.items c.args.exchange sent' got got' = record {
      count = f.count;
      moved = subst (λ (logs : Logs). (a : ℕ) → a < length st.ins → WasCollected c.args.exchange (get_or st.ins a no_stack_in) (get_or c.collect_all.new.ins.items a no_stack_in) (logs (number (length st.ins) a st.rank)) (got' (number (length st.ins) a st.rank))) e.left.same_ins.got f.moved;
      own = subst (λ (logs : Logs). IsPrefix (logs (number (length st.ins) st.rank st.rank)) (sent' (number (length st.ins) st.rank st.rank)) → IsPrefix (got' (number (length st.ins) st.rank st.rank)) (sent' (number (length st.ins) st.rank st.rank))) e.left.same_ins.got
          (subst (λ (logs : Logs). IsPrefix ((g.P.Port.view c.post_all.new.port).got (number (length st.ins) st.rank st.rank)) (sent' (number (length st.ins) st.rank st.rank)) → IsPrefix (got' (number (length st.ins) st.rank st.rank)) (logs (number (length st.ins) st.rank st.rank))) f.left.same_outs.sent f.own);
      grows = subst (λ (logs : Logs). (m : ℕ) → IsPrefix (logs m) (got' m)) e.left.same_ins.got f.left.grows;
    } in
    λ n a. subst (λ (logs : Logs). AgreesIn n (after_round st c.post_all.new.outs.items c.collect_all.new.ins.items) logs got') (sym f.left.same_outs.sent)
    (agrees_done g.row.CAP st c.post_all.new.outs.items c.collect_all.new.ins.items c.args.last c.args.exchange sent sent' got got' s b p q n (subst (λ t. AgreesIn n t sent got) (sym view) a))

pub returns-clause-round : goal.returns-clause-round
returns-clause-round g c =
    let st : Stack = record {
      ranks = c.self.inside.ranks;
      rank = c.self.inside.rank;
      stage = c.self.inside.stage;
      done = c.self.inside.done;
      epoch = c.self.inside.epoch;
      outs = c.self.inside.outs.items;
      ins = c.self.inside.ins.items;
      popped = c.self.inside.popped;
    } in
    let now : Stack = c.args.self.now in
    let view : st ≡ now = c.self.view_is in
    let s : IsStack g.row.CAP st = c.self.invariant.standing in
    let b : Before st c.args.last c.args.exchange = before st now c.args.last c.args.exchange view c.requires.in_round c.requires.exchange c.requires.last c.requires.forgotten in
    let sent : Logs = (g.P.Port.view c.args.port.now).sent in
    let sent' : Logs = (g.P.Port.view c.post_all.new.port).sent in
    let got : Logs = (g.P.Port.view c.args.port.now).got in
    let e = c.post_all.ensures in
    let p : PostsDone st c.post_all.new.outs.items c.args.last sent sent' got = record {
      count = e.count;
      moved = e.moved;
      law = law_same _ _ _ _ _ _ _ _ (ap stack_dims view ∙ sym c.requires.at_port.same_dims) (ap (λ (t : Stack). t.rank) view ∙ sym c.requires.at_port.same_rank) refl refl e.law;
      grows = e.left.grows;
    } in
    let got' : Logs = (g.P.Port.view c.collect_all.new.port).got in
    let f = c.collect_all.ensures in
    let q : CollectsDone st c.collect_all.new.ins.items c.args.exchange sent' got got' = record {
      count = f.count;
      moved = subst (λ (logs : Logs). (a : ℕ) → a < length st.ins → WasCollected c.args.exchange (get_or st.ins a no_stack_in) (get_or c.collect_all.new.ins.items a no_stack_in) (logs (number (length st.ins) a st.rank)) (got' (number (length st.ins) a st.rank))) e.left.same_ins.got f.moved;
      own = subst (λ (logs : Logs). IsPrefix (logs (number (length st.ins) st.rank st.rank)) (sent' (number (length st.ins) st.rank st.rank)) → IsPrefix (got' (number (length st.ins) st.rank st.rank)) (sent' (number (length st.ins) st.rank st.rank))) e.left.same_ins.got
          (subst (λ (logs : Logs). IsPrefix ((g.P.Port.view c.post_all.new.port).got (number (length st.ins) st.rank st.rank)) (sent' (number (length st.ins) st.rank st.rank)) → IsPrefix (got' (number (length st.ins) st.rank st.rank)) (logs (number (length st.ins) st.rank st.rank))) f.left.same_outs.sent f.own);
      grows = subst (λ (logs : Logs). (m : ℕ) → IsPrefix (logs m) (got' m)) e.left.same_ins.got f.left.grows;
    } in
    subst (λ (logs : Logs). MadeRound c.args.last c.args.exchange now (after_round st c.post_all.new.outs.items c.collect_all.new.ins.items) sent logs got got') (sym f.left.same_outs.sent)
    (subst (λ (t : Stack). MadeRound c.args.last c.args.exchange t (after_round st c.post_all.new.outs.items c.collect_all.new.ins.items) sent sent' got got') view
    (round_done g.row.CAP st c.post_all.new.outs.items c.collect_all.new.ins.items c.args.last c.args.exchange sent sent' got got' s b p q))

pub returns-clause-asks : goal.returns-clause-asks
returns-clause-asks g c =
    let st : Stack = record {
      ranks = c.self.inside.ranks;
      rank = c.self.inside.rank;
      stage = c.self.inside.stage;
      done = c.self.inside.done;
      epoch = c.self.inside.epoch;
      outs = c.self.inside.outs.items;
      ins = c.self.inside.ins.items;
      popped = c.self.inside.popped;
    } in
    let now : Stack = c.args.self.now in
    let view : st ≡ now = c.self.view_is in
    let s : IsStack g.row.CAP st = c.self.invariant.standing in
    let n : ℕ = length st.ins in
    let noted' : ℕ → ℕ = (g.P.Port.view c.collect_all.new.port).noted in
    let idle' : ℕ → Bool = is_idle (g.P.Port.view c.collect_all.new.port) in
    record {
      looked = search rules;
      crowded = search rules;
      asked = λ a w due.
          let u : a < n = omega (arith, w, s.all_ins, ap (λ (t : Stack). t.ranks) view) in
          let number_is : number n a st.rank ≡ stack_link_from now a = ap (λ m. number m a st.rank) s.all_ins ∙ ap (λ (t : Stack). stack_link_from t a) view in
          subst (λ l. AskedWithoutSuccess ((g.P.Port.view c.args.port.now).noted l) (noted' l) (idle' l)) number_is
          (subst (λ (counts : ℕ → ℕ). AskedWithoutSuccess (counts (number n a st.rank)) (noted' (number n a st.rank)) (idle' (number n a st.rank))) c.post_all.ensures.left.same_ins.noted (c.collect_all.ensures.still_stuck a u due));
      calls =
          let before : List Call = (g.P.Port.view c.args.port.now).calls in
          let posted = c.in_ok-post_all.ensures.calls ∙ ap (λ m. before ++ posts_to m st.rank st.outs m) s.all_outs in
          let collected = c.collect_all.ensures.calls ∙ ap (λ m. (g.P.Port.view c.post_all.new.port).calls ++ collects_from m st.rank st.ins m) s.all_ins in
          collected ∙ ap (λ cs. cs ++ collects_from st.ranks st.rank st.ins st.ranks) posted
          ∙ ap (λ (t : Stack). (before ++ posts_to t.ranks t.rank t.outs t.ranks) ++ collects_from t.ranks t.rank t.ins t.ranks) view;
    }

pub returns-in_err-post_all-clause-stops : goal.returns-in_err-post_all-clause-stops
returns-in_err-post_all-clause-stops g c =
    let st : Stack = record {
      ranks = c.self.inside.ranks;
      rank = c.self.inside.rank;
      stage = c.self.inside.stage;
      done = c.self.inside.done;
      epoch = c.self.inside.epoch;
      outs = c.self.inside.outs.items;
      ins = c.self.inside.ins.items;
      popped = c.self.inside.popped;
    } in
    let view : st ≡ c.args.self.now = c.self.view_is in
    let all : length st.outs ≡ st.ranks = c.self.invariant.standing.all_outs in
    let before : List Call = (g.P.Port.view c.args.port.now).calls in
    let calls : List Call = (g.P.Port.view c.post_all.new.port).calls in
    λ err. subst (λ (t : Stack). StackStopsAt st.ranks st.rank t.outs c.post_all.new.outs.items before calls) view
    (subst (λ m. StackStopsAt m st.rank st.outs c.post_all.new.outs.items before calls) all (c.in_err-post_all.ensures.stops (search rules)))

pub returns-in_err-post_all-clause-round : goal.returns-in_err-post_all-clause-round
returns-in_err-post_all-clause-round g c =
    let st : Stack = record {
      ranks = c.self.inside.ranks;
      rank = c.self.inside.rank;
      stage = c.self.inside.stage;
      done = c.self.inside.done;
      epoch = c.self.inside.epoch;
      outs = c.self.inside.outs.items;
      ins = c.self.inside.ins.items;
      popped = c.self.inside.popped;
    } in
    let now : Stack = c.args.self.now in
    let view : st ≡ now = c.self.view_is in
    let s : IsStack g.row.CAP st = c.self.invariant.standing in
    let b : Before st c.args.last c.args.exchange = before st now c.args.last c.args.exchange view c.requires.in_round c.requires.exchange c.requires.last c.requires.forgotten in
    let sent : Logs = (g.P.Port.view c.args.port.now).sent in
    let sent' : Logs = (g.P.Port.view c.post_all.new.port).sent in
    let got : Logs = (g.P.Port.view c.args.port.now).got in
    let e = c.post_all.ensures in
    let p : PostsDone st c.post_all.new.outs.items c.args.last sent sent' got = record {
      count = e.count;
      moved = e.moved;
      law = law_same _ _ _ _ _ _ _ _ (ap stack_dims view ∙ sym c.requires.at_port.same_dims) (ap (λ (t : Stack). t.rank) view ∙ sym c.requires.at_port.same_rank) refl refl e.law;
      grows = e.left.grows;
    } in
    let q : CollectsDone st st.ins c.args.exchange sent' got got = none_done st c.args.exchange sent' got in
    subst (λ (logs : Logs). MadeRound c.args.last c.args.exchange now (after_round st c.post_all.new.outs.items st.ins) sent sent' got logs) (sym e.left.same_ins.got)
    (subst (λ (t : Stack). MadeRound c.args.last c.args.exchange t (after_round st c.post_all.new.outs.items st.ins) sent sent' got got) view
    (round_done g.row.CAP st c.post_all.new.outs.items st.ins c.args.last c.args.exchange sent sent' got got s b p q))
