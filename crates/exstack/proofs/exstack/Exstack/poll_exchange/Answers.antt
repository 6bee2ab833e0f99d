use Rattle.std.proofs.Common.{◌≡◌, ℕ, ◌<◌, arith, refl, ◌||◌, true, false, [], ◌∷◌, sym, ap, subst, ◌∙◌, rules}
use Rattle.port_bank.specs.Logs.{Logs}
use Rattle.exstack.specs.declared.stage.Stage.{Stage}
use Rattle.exstack.specs.declared.stage.Stage.TheVariants.{Exchanging}
use Rattle.exstack.specs.Steps.{AsksOnce, MadeRound}
use Rattle.exstack.specs.State.{Stack, stack_in_at, number, stack_link_from, is_proceeding, is_exchanging, in_exchange, stage_of_exchange}
use Rattle.exstack.specs.Agreement.{AgreesIn, rounds_in}
use Rattle.exstack.specs.Standing.{IsStack}
use Rattle.port_bank.specs.Machine.{IsOwnStep}
use Rattle.port_bank.specs.Machine.Step.{Idle}
use Rattle.exstack.specs.Parts.{stack_part}
use Rattle.exstack.specs.State.{is_all_done}
use Rattle.exstack.proofs.Manners.{Kind, kind_of, and_false}
use Rattle.exstack.proofs.Polling.{SameLists, Polled, exchange_lists, made_lists, lists_after, idle_poll, exchange_not_all, exchange_stays, exchange_epoch}
use Rattle.exstack.proofs.Beginning.{Begun, exchange_begun, exchange_agrees}
use Rattle.exstack.proofs.Settling.{round_staged, agrees_staged, asks_staged, exchange_rounds}
use Rattle.exstack.specs.Links.{no_stack_in}
use Rattle.exstack.specs.Cycles.{exchange_parcel, entries_if_any}
use Rattle.exstack.proofs.OneLink.{whole_after}
use Rattle.exstack.proofs.exstack.Exstack.poll_exchange.Goals as goal

pub go_round-requires : goal.go_round-requires
go_round-requires g c =
    let now : Stack = c.args.self.now in
    let b : Stack = c.begin_exchange.new.self in
    let sent : Logs = (g.P.Port.view c.args.port.now).sent in
    let got : Logs = (g.P.Port.view c.args.port.now).got in
    let is : b ≡ in_exchange now = c.begin_exchange.ensures.state in
    let s : IsStack g.row.CAP now = c.begin_exchange.ensures.standing in
    let k : Begun b Exchanging now.done now = subst (λ (t : Stack). Begun t Exchanging now.done now) (sym is) (exchange_begun now) in
    let agrees : (n : ℕ) → AgreesIn n now sent got → AgreesIn n b sent got = λ n a. subst (λ (t : Stack). AgreesIn n t sent got) (sym is) (exchange_agrees g.row.CAP n now sent got s c.requires.may.may a) in (
      search rules,
      (
        ap (λ (s : Stage). is_proceeding s || is_exchanging s) k.stage_is,
        (
          sym (ap is_exchanging k.stage_is),
          (
            sym (and_false b.done),
            (
              k.forgotten,
              record { same_dims = c.requires.may.at_port.same_dims ∙ ap (λ m. m ∷ []) (sym k.ranks); same_rank = c.requires.may.at_port.same_rank ∙ sym k.rank; agrees = record { cycle = c.requires.may.at_port.agrees.cycle; agrees = agrees c.requires.may.at_port.agrees.cycle c.requires.may.at_port.agrees.agrees } },
            ),
          ),
        ),
      ),
    )

pub returns-in_err-missing-clause-polls : goal.returns-in_err-missing-clause-polls
returns-in_err-missing-clause-polls g c =
    record {
      agrees =
          let now : Stack = c.args.self.now in
          let b : Stack = c.begin_exchange.new.self in
          let sent : Logs = (g.P.Port.view c.args.port.now).sent in
          let got : Logs = (g.P.Port.view c.args.port.now).got in
          let is : b ≡ in_exchange now = c.begin_exchange.ensures.state in
          let s : IsStack g.row.CAP now = c.begin_exchange.ensures.standing in
          let k : Begun b Exchanging now.done now = subst (λ (t : Stack). Begun t Exchanging now.done now) (sym is) (exchange_begun now) in
          let agrees : (n : ℕ) → AgreesIn n now sent got → AgreesIn n b sent got = λ n a. subst (λ (t : Stack). AgreesIn n t sent got) (sym is) (exchange_agrees g.row.CAP n now sent got s c.requires.may.may a) in
          record { cycle = c.requires.may.at_port.agrees.cycle; agrees = c.go_round.ensures.cycle c.requires.may.at_port.agrees.cycle (agrees c.requires.may.at_port.agrees.cycle c.requires.may.at_port.agrees.agrees) };
      cycle =
          let now : Stack = c.args.self.now in
          let b : Stack = c.begin_exchange.new.self in
          let sent : Logs = (g.P.Port.view c.args.port.now).sent in
          let got : Logs = (g.P.Port.view c.args.port.now).got in
          let is : b ≡ in_exchange now = c.begin_exchange.ensures.state in
          let s : IsStack g.row.CAP now = c.begin_exchange.ensures.standing in
          let k : Begun b Exchanging now.done now = subst (λ (t : Stack). Begun t Exchanging now.done now) (sym is) (exchange_begun now) in
          let agrees : (n : ℕ) → AgreesIn n now sent got → AgreesIn n b sent got = λ n a. subst (λ (t : Stack). AgreesIn n t sent got) (sym is) (exchange_agrees g.row.CAP n now sent got s c.requires.may.may a) in
          λ n a. c.go_round.ensures.cycle n (agrees n a);
      same = search rules;
      step =
          let now : Stack = c.args.self.now in
          let b : Stack = c.begin_exchange.new.self in
          let h : Stack = c.go_round.new.self in
          let sent : Logs = (g.P.Port.view c.args.port.now).sent in
          let got : Logs = (g.P.Port.view c.args.port.now).got in
          let sent' : Logs = (g.P.Port.view c.go_round.new.port).sent in
          let got' : Logs = (g.P.Port.view c.go_round.new.port).got in
          let is : b ≡ in_exchange now = c.begin_exchange.ensures.state in
          let s : IsStack g.row.CAP now = c.begin_exchange.ensures.standing in
          let k : Begun b Exchanging now.done now = subst (λ (t : Stack). Begun t Exchanging now.done now) (sym is) (exchange_begun now) in
          let n : ℕ = c.requires.may.at_port.agrees.cycle in
          let a : AgreesIn n now sent got = c.requires.may.at_port.agrees.agrees in
          let m : ℕ = n in
          let agrees : AgreesIn m b sent got = subst (λ (t : Stack). AgreesIn m t sent got) (sym is) (exchange_agrees g.row.CAP n now sent got s c.requires.may.may a) in
          let first : SameLists now b sent sent got got = subst (λ (t : Stack). SameLists now t sent sent got got) (sym is) (exchange_lists g.row.CAP now sent got s c.requires.may.may) in
          let kind : Kind b.stage b.done false true = kind_of b.stage b.done false true (ap (λ (t : Stage). is_proceeding t || is_exchanging t) k.stage_is) (sym (ap is_exchanging k.stage_is)) (sym (and_false b.done)) in
          let second : SameLists b h sent sent' got got' = made_lists g.row.CAP m b h false true sent sent' got got' c.go_round.ensures.standing kind c.go_round.ensures.same c.go_round.ensures.round agrees in
          let lists : SameLists now h sent sent' got got' = lists_after now b h sent sent' got got' k.ranks first second in
          let epoch : b.epoch ≡ now.epoch = ap (λ (t : Stack). t.epoch) is ∙ exchange_epoch now in
          let same = c.go_round.ensures.same in
          let polled : Polled now h now.done = record {
            ranks = ap (λ (t : Stack). t.ranks) same ∙ k.ranks;
            epoch = ap (λ (t : Stack). t.epoch) same ∙ epoch;
            done_is = ap (λ (t : Stack). t.done) same ∙ k.done_is;
            forgotten = ap (λ (t : Stack). t.popped) same ∙ k.forgotten;
          } in
          let stage : h.stage ≡ Exchanging = ap (λ (t : Stack). t.stage) same ∙ k.stage_is in
          idle_poll now h sent sent' got got' polled (ap is_all_done stage ∙ sym (exchange_not_all now.stage c.requires.may.may)) lists;
      round = search rules;
      whole =
          let now : Stack = c.args.self.now in
          let b : Stack = c.begin_exchange.new.self in
          let h : Stack = c.go_round.new.self in
          let sent : Logs = (g.P.Port.view c.args.port.now).sent in
          let got : Logs = (g.P.Port.view c.args.port.now).got in
          let got' : Logs = (g.P.Port.view c.go_round.new.port).got in
          let is : b ≡ in_exchange now = c.begin_exchange.ensures.state in
          let s : IsStack g.row.CAP now = c.begin_exchange.ensures.standing in
          let k : Begun b Exchanging now.done now = subst (λ (t : Stack). Begun t Exchanging now.done now) (sym is) (exchange_begun now) in
          λ n a agrees w due came.
          let now_in : AgreesIn n b sent got = subst (λ (t : Stack). AgreesIn n t sent got) (sym is) (exchange_agrees g.row.CAP n now sent got s c.requires.may.may agrees) in
          let within : a < b.ranks = subst (λ m. a < m) (sym k.ranks) w in
          let standing : IsStack g.row.CAP b = c.go_round.ensures.standing in
          let open' = (standing.each_in a no_stack_in (omega (arith, within, standing.all_ins))).due_open in
          let epoch : b.epoch ≡ now.epoch = ap (λ (t : Stack). t.epoch) is ∙ exchange_epoch now in
          whole_after b.epoch n (rounds_in n b.stage) true (stack_in_at b a) (stack_in_at h a) (got (stack_link_from b a)) (got' (stack_link_from b a)) open' (now_in.ins a within)
          (λ x. ap (rounds_in n) k.stage_is) refl (ap (λ (t : Stack). (stack_in_at t a).due) is ∙ due) came (c.go_round.ensures.round.collected a within)
          ∙ (λ i. entries_if_any (exchange_parcel (epoch i) n (got' (number (k.ranks i) a (k.rank i)))));
      same_port = search rules;
    }

pub returns-clause-polls : goal.returns-clause-polls
returns-clause-polls g c =
    record {
      agrees =
          let now : Stack = c.args.self.now in
          let b : Stack = c.begin_exchange.new.self in
          let sent : Logs = (g.P.Port.view c.args.port.now).sent in
          let got : Logs = (g.P.Port.view c.args.port.now).got in
          let is : b ≡ in_exchange now = c.begin_exchange.ensures.state in
          let s : IsStack g.row.CAP now = c.begin_exchange.ensures.standing in
          let k : Begun b Exchanging now.done now = subst (λ (t : Stack). Begun t Exchanging now.done now) (sym is) (exchange_begun now) in
          let agrees : (n : ℕ) → AgreesIn n now sent got → AgreesIn n b sent got = λ n a. subst (λ (t : Stack). AgreesIn n t sent got) (sym is) (exchange_agrees g.row.CAP n now sent got s c.requires.may.may a) in
          let h : Stack = c.go_round.new.self in
          let r = c.settle_exchange.result in
          let sent' : Logs = (g.P.Port.view c.go_round.new.port).sent in
          let got' : Logs = (g.P.Port.view c.go_round.new.port).got in
          let stage : h.stage ≡ Exchanging = ap (λ (t : Stack). t.stage) c.go_round.ensures.same ∙ k.stage_is in
          let over : (n : ℕ) → AgreesIn n now sent got → AgreesIn n c.settle_exchange.new.self sent' got' = λ n a.
          subst (λ (t : Stack). AgreesIn n t sent' got') (sym c.settle_exchange.ensures.state)
          (agrees_staged n h (stage_of_exchange r) sent' got' (ap (rounds_in n) stage ∙ exchange_rounds n r) (c.go_round.ensures.cycle n (agrees n a))) in
          record { cycle = c.requires.may.at_port.agrees.cycle; agrees = over c.requires.may.at_port.agrees.cycle c.requires.may.at_port.agrees.agrees };
      cycle =
          let now : Stack = c.args.self.now in
          let b : Stack = c.begin_exchange.new.self in
          let sent : Logs = (g.P.Port.view c.args.port.now).sent in
          let got : Logs = (g.P.Port.view c.args.port.now).got in
          let is : b ≡ in_exchange now = c.begin_exchange.ensures.state in
          let s : IsStack g.row.CAP now = c.begin_exchange.ensures.standing in
          let k : Begun b Exchanging now.done now = subst (λ (t : Stack). Begun t Exchanging now.done now) (sym is) (exchange_begun now) in
          let agrees : (n : ℕ) → AgreesIn n now sent got → AgreesIn n b sent got = λ n a. subst (λ (t : Stack). AgreesIn n t sent got) (sym is) (exchange_agrees g.row.CAP n now sent got s c.requires.may.may a) in
          let h : Stack = c.go_round.new.self in
          let r = c.settle_exchange.result in
          let sent' : Logs = (g.P.Port.view c.go_round.new.port).sent in
          let got' : Logs = (g.P.Port.view c.go_round.new.port).got in
          let stage : h.stage ≡ Exchanging = ap (λ (t : Stack). t.stage) c.go_round.ensures.same ∙ k.stage_is in
          let over : (n : ℕ) → AgreesIn n now sent got → AgreesIn n c.settle_exchange.new.self sent' got' = λ n a.
          subst (λ (t : Stack). AgreesIn n t sent' got') (sym c.settle_exchange.ensures.state)
          (agrees_staged n h (stage_of_exchange r) sent' got' (ap (rounds_in n) stage ∙ exchange_rounds n r) (c.go_round.ensures.cycle n (agrees n a))) in
          over;
      same = search rules;
      step =
          let now : Stack = c.args.self.now in
          let b : Stack = c.begin_exchange.new.self in
          let h : Stack = c.go_round.new.self in
          let sent : Logs = (g.P.Port.view c.args.port.now).sent in
          let got : Logs = (g.P.Port.view c.args.port.now).got in
          let sent' : Logs = (g.P.Port.view c.go_round.new.port).sent in
          let got' : Logs = (g.P.Port.view c.go_round.new.port).got in
          let is : b ≡ in_exchange now = c.begin_exchange.ensures.state in
          let s : IsStack g.row.CAP now = c.begin_exchange.ensures.standing in
          let k : Begun b Exchanging now.done now = subst (λ (t : Stack). Begun t Exchanging now.done now) (sym is) (exchange_begun now) in
          let n : ℕ = c.requires.may.at_port.agrees.cycle in
          let a : AgreesIn n now sent got = c.requires.may.at_port.agrees.agrees in
          let m : ℕ = n in
          let agrees : AgreesIn m b sent got = subst (λ (t : Stack). AgreesIn m t sent got) (sym is) (exchange_agrees g.row.CAP n now sent got s c.requires.may.may a) in
          let first : SameLists now b sent sent got got = subst (λ (t : Stack). SameLists now t sent sent got got) (sym is) (exchange_lists g.row.CAP now sent got s c.requires.may.may) in
          let kind : Kind b.stage b.done false true = kind_of b.stage b.done false true (ap (λ (t : Stage). is_proceeding t || is_exchanging t) k.stage_is) (sym (ap is_exchanging k.stage_is)) (sym (and_false b.done)) in
          let second : SameLists b h sent sent' got got' = made_lists g.row.CAP m b h false true sent sent' got got' c.go_round.ensures.standing kind c.go_round.ensures.same c.go_round.ensures.round agrees in
          let lists : SameLists now h sent sent' got got' = lists_after now b h sent sent' got got' k.ranks first second in
          let epoch : b.epoch ≡ now.epoch = ap (λ (t : Stack). t.epoch) is ∙ exchange_epoch now in
          let same = c.go_round.ensures.same in
          let polled : Polled now h now.done = record {
            ranks = ap (λ (t : Stack). t.ranks) same ∙ k.ranks;
            epoch = ap (λ (t : Stack). t.epoch) same ∙ epoch;
            done_is = ap (λ (t : Stack). t.done) same ∙ k.done_is;
            forgotten = ap (λ (t : Stack). t.popped) same ∙ k.forgotten;
          } in
          let r = c.settle_exchange.result in
          let staged : Stack = record h { stage = stage_of_exchange r } in
          let settled : c.settle_exchange.new.self ≡ staged = c.settle_exchange.ensures.state in
          let over : SameLists now staged sent sent' got got' = record { pushed = lists.pushed; pulled = lists.pulled } in
          let polled' : Polled now staged now.done = record { ranks = polled.ranks; epoch = polled.epoch; done_is = polled.done_is; forgotten = polled.forgotten } in
          subst (λ (t : Stack). IsOwnStep Idle (stack_part now sent got) (stack_part t sent' got')) (sym settled)
          (idle_poll now staged sent sent' got got' polled' (sym (exchange_stays r) ∙ sym (exchange_not_all now.stage c.requires.may.may)) over);
      round =
          subst (λ (t : Stack). MadeRound false true t c.settle_exchange.new.self (g.P.Port.view c.args.port.now).sent (g.P.Port.view c.go_round.new.port).sent (g.P.Port.view c.args.port.now).got (g.P.Port.view c.go_round.new.port).got) c.begin_exchange.ensures.state
          (subst (λ (t : Stack). MadeRound false true c.begin_exchange.new.self t (g.P.Port.view c.args.port.now).sent (g.P.Port.view c.go_round.new.port).sent (g.P.Port.view c.args.port.now).got (g.P.Port.view c.go_round.new.port).got) (sym c.settle_exchange.ensures.state)
          (round_staged false true c.begin_exchange.new.self c.go_round.new.self (stage_of_exchange c.settle_exchange.result) (g.P.Port.view c.args.port.now).sent (g.P.Port.view c.go_round.new.port).sent (g.P.Port.view c.args.port.now).got (g.P.Port.view c.go_round.new.port).got c.go_round.ensures.round));
      whole =
          let now : Stack = c.args.self.now in
          let b : Stack = c.begin_exchange.new.self in
          let h : Stack = c.go_round.new.self in
          let sent : Logs = (g.P.Port.view c.args.port.now).sent in
          let got : Logs = (g.P.Port.view c.args.port.now).got in
          let got' : Logs = (g.P.Port.view c.go_round.new.port).got in
          let is : b ≡ in_exchange now = c.begin_exchange.ensures.state in
          let s : IsStack g.row.CAP now = c.begin_exchange.ensures.standing in
          let k : Begun b Exchanging now.done now = subst (λ (t : Stack). Begun t Exchanging now.done now) (sym is) (exchange_begun now) in
          λ n a agrees w due came.
          let now_in : AgreesIn n b sent got = subst (λ (t : Stack). AgreesIn n t sent got) (sym is) (exchange_agrees g.row.CAP n now sent got s c.requires.may.may agrees) in
          let within : a < b.ranks = subst (λ m. a < m) (sym k.ranks) w in
          let standing : IsStack g.row.CAP b = c.go_round.ensures.standing in
          let open' = (standing.each_in a no_stack_in (omega (arith, within, standing.all_ins))).due_open in
          let epoch : b.epoch ≡ now.epoch = ap (λ (t : Stack). t.epoch) is ∙ exchange_epoch now in
          let settled = c.settle_exchange.ensures.state in
          ap (λ (t : Stack). (stack_in_at t a).unread) settled
          ∙ (whole_after b.epoch n (rounds_in n b.stage) true (stack_in_at b a) (stack_in_at h a) (got (stack_link_from b a)) (got' (stack_link_from b a)) open' (now_in.ins a within)
          (λ x. ap (rounds_in n) k.stage_is) refl (ap (λ (t : Stack). (stack_in_at t a).due) is ∙ due) (sym (ap (λ (t : Stack). (stack_in_at t a).due) settled) ∙ came) (c.go_round.ensures.round.collected a within)
          ∙ (λ i. entries_if_any (exchange_parcel (epoch i) n (got' (number (k.ranks i) a (k.rank i))))));
      same_port = search rules;
    }

pub returns-clause-asks : goal.returns-clause-asks
returns-clause-asks g c =
    let now : Stack = c.args.self.now in
    let b : Stack = c.begin_exchange.new.self in
    let h : Stack = c.go_round.new.self in
    let is : b ≡ in_exchange now = c.begin_exchange.ensures.state in
    subst (λ (t : Stack). AsksOnce t c.settle_exchange.new.self (g.P.Port.view c.args.port.now) (g.P.Port.view c.go_round.new.port)) is
    (subst (λ (t : Stack). AsksOnce b t (g.P.Port.view c.args.port.now) (g.P.Port.view c.go_round.new.port)) (sym c.settle_exchange.ensures.state)
    (asks_staged b h (stage_of_exchange c.settle_exchange.result) (g.P.Port.view c.args.port.now) (g.P.Port.view c.go_round.new.port) c.in_ok-missing.ensures.asks))
