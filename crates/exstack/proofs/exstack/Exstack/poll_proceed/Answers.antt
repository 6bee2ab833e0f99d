use Rattle.std.proofs.Common.{◌≡◌, ℕ, ◌||◌, false, [], ◌∷◌, sym, ap, subst, ◌∙◌, rules}
use Rattle.port_bank.specs.Logs.{Logs}
use Rattle.exstack.specs.declared.stage.Stage.{Stage}
use Rattle.exstack.specs.declared.stage.Stage.TheVariants.{Proceeding}
use Rattle.exstack.specs.State.{Stack, is_proceeding, is_exchanging, in_proceed, stage_of_proceed}
use Rattle.exstack.specs.Steps.{AsksOnce, MadeRound}
use Rattle.exstack.specs.Agreement.{AgreesIn, rounds_in, cycle_after}
use Rattle.exstack.specs.Standing.{IsStack}
use Rattle.exstack.specs.Parts.{stack_part, AreOwnSteps, proceed_steps}
use Rattle.exstack.specs.State.{is_all_done}
use Rattle.exstack.proofs.Manners.{Kind, kind_of, and_true}
use Rattle.exstack.proofs.Polling.{SameLists, Polled, proceed_lists, made_lists, lists_after, proceed_poll, may_not_all, proceed_epoch}
use Rattle.exstack.proofs.Beginning.{Begun, proceed_begun, proceed_agrees}
use Rattle.exstack.proofs.Settling.{round_staged, agrees_staged, asks_staged, proceed_rounds}
use Rattle.exstack.proofs.exstack.Exstack.poll_proceed.Goals as goal

pub go_round-requires : goal.go_round-requires
go_round-requires g c =
    let now : Stack = c.args.self.now in
    let b : Stack = c.begin_proceed.new.self in
    let sent : Logs = (g.P.Port.view c.args.port.now).sent in
    let got : Logs = (g.P.Port.view c.args.port.now).got in
    let is : b ≡ in_proceed c.args.done now = c.begin_proceed.ensures.state in
    let s : IsStack g.row.CAP now = c.begin_proceed.ensures.standing in
    let k : Begun b Proceeding c.args.done now = subst (λ (t : Stack). Begun t Proceeding c.args.done now) (sym is) (proceed_begun c.args.done now c.requires.may.same_done) in
    let agrees : (n : ℕ) → AgreesIn n now sent got → AgreesIn (cycle_after n now.stage) b sent got = λ n a. subst (λ (t : Stack). AgreesIn (cycle_after n now.stage) t sent got) (sym is) (proceed_agrees g.row.CAP n now c.args.done sent got s c.requires.may.may a) in (
      search rules,
      (
        ap (λ (s : Stage). is_proceeding s || is_exchanging s) k.stage_is,
        (
          sym (ap is_exchanging k.stage_is),
          (
            sym (and_true b.done ∙ k.done_is),
            (
              k.forgotten,
              record { same_dims = c.requires.may.at_port.same_dims ∙ ap (λ m. m ∷ []) (sym k.ranks); same_rank = c.requires.may.at_port.same_rank ∙ sym k.rank; agrees = record { cycle = (cycle_after c.requires.may.at_port.agrees.cycle now.stage); agrees = agrees c.requires.may.at_port.agrees.cycle c.requires.may.at_port.agrees.agrees } },
            ),
          ),
        ),
      ),
    )

pub returns-in_err-missing-clause-polls : goal.returns-in_err-missing-clause-polls
returns-in_err-missing-clause-polls g c =
    record {
      agrees =
          let now : Stack = c.args.self.now in
          let b : Stack = c.begin_proceed.new.self in
          let sent : Logs = (g.P.Port.view c.args.port.now).sent in
          let got : Logs = (g.P.Port.view c.args.port.now).got in
          let is : b ≡ in_proceed c.args.done now = c.begin_proceed.ensures.state in
          let s : IsStack g.row.CAP now = c.begin_proceed.ensures.standing in
          let k : Begun b Proceeding c.args.done now = subst (λ (t : Stack). Begun t Proceeding c.args.done now) (sym is) (proceed_begun c.args.done now c.requires.may.same_done) in
          let agrees : (n : ℕ) → AgreesIn n now sent got → AgreesIn (cycle_after n now.stage) b sent got = λ n a. subst (λ (t : Stack). AgreesIn (cycle_after n now.stage) t sent got) (sym is) (proceed_agrees g.row.CAP n now c.args.done sent got s c.requires.may.may a) in
          record { cycle = (cycle_after c.requires.may.at_port.agrees.cycle now.stage); agrees = c.go_round.ensures.cycle (cycle_after c.requires.may.at_port.agrees.cycle now.stage) (agrees c.requires.may.at_port.agrees.cycle c.requires.may.at_port.agrees.agrees) };
      cycle =
          let now : Stack = c.args.self.now in
          let b : Stack = c.begin_proceed.new.self in
          let sent : Logs = (g.P.Port.view c.args.port.now).sent in
          let got : Logs = (g.P.Port.view c.args.port.now).got in
          let is : b ≡ in_proceed c.args.done now = c.begin_proceed.ensures.state in
          let s : IsStack g.row.CAP now = c.begin_proceed.ensures.standing in
          let k : Begun b Proceeding c.args.done now = subst (λ (t : Stack). Begun t Proceeding c.args.done now) (sym is) (proceed_begun c.args.done now c.requires.may.same_done) in
          let agrees : (n : ℕ) → AgreesIn n now sent got → AgreesIn (cycle_after n now.stage) b sent got = λ n a. subst (λ (t : Stack). AgreesIn (cycle_after n now.stage) t sent got) (sym is) (proceed_agrees g.row.CAP n now c.args.done sent got s c.requires.may.may a) in
          λ n a. c.go_round.ensures.cycle (cycle_after n now.stage) (agrees n a);
      same = search rules;
      steps =
          let now : Stack = c.args.self.now in
          let b : Stack = c.begin_proceed.new.self in
          let h : Stack = c.go_round.new.self in
          let sent : Logs = (g.P.Port.view c.args.port.now).sent in
          let got : Logs = (g.P.Port.view c.args.port.now).got in
          let sent' : Logs = (g.P.Port.view c.go_round.new.port).sent in
          let got' : Logs = (g.P.Port.view c.go_round.new.port).got in
          let is : b ≡ in_proceed c.args.done now = c.begin_proceed.ensures.state in
          let s : IsStack g.row.CAP now = c.begin_proceed.ensures.standing in
          let k : Begun b Proceeding c.args.done now = subst (λ (t : Stack). Begun t Proceeding c.args.done now) (sym is) (proceed_begun c.args.done now c.requires.may.same_done) in
          let n : ℕ = c.requires.may.at_port.agrees.cycle in
          let a : AgreesIn n now sent got = c.requires.may.at_port.agrees.agrees in
          let m : ℕ = cycle_after n now.stage in
          let agrees : AgreesIn m b sent got = subst (λ (t : Stack). AgreesIn m t sent got) (sym is) (proceed_agrees g.row.CAP n now c.args.done sent got s c.requires.may.may a) in
          let first : SameLists now b sent sent got got = subst (λ (t : Stack). SameLists now t sent sent got got) (sym is) (proceed_lists g.row.CAP now c.args.done sent got s c.requires.may.read) in
          let kind : Kind b.stage b.done c.args.done false = kind_of b.stage b.done c.args.done false (ap (λ (t : Stage). is_proceeding t || is_exchanging t) k.stage_is) (sym (ap is_exchanging k.stage_is)) (sym (and_true b.done ∙ k.done_is)) in
          let second : SameLists b h sent sent' got got' = made_lists g.row.CAP m b h c.args.done false sent sent' got got' c.go_round.ensures.standing kind c.go_round.ensures.same c.go_round.ensures.round agrees in
          let lists : SameLists now h sent sent' got got' = lists_after now b h sent sent' got got' k.ranks first second in
          let epoch : b.epoch ≡ now.epoch = ap (λ (t : Stack). t.epoch) is ∙ proceed_epoch c.args.done now in
          let same = c.go_round.ensures.same in
          let polled : Polled now h c.args.done = record {
            ranks = ap (λ (t : Stack). t.ranks) same ∙ k.ranks;
            epoch = ap (λ (t : Stack). t.epoch) same ∙ epoch;
            done_is = ap (λ (t : Stack). t.done) same ∙ k.done_is;
            forgotten = ap (λ (t : Stack). t.popped) same ∙ k.forgotten;
          } in
          let stage : h.stage ≡ Proceeding = ap (λ (t : Stack). t.stage) same ∙ k.stage_is in
          proceed_poll now h c.args.done sent sent' got got' polled c.requires.may.done_stays (may_not_all now.stage c.requires.may.may) lists;
      round = search rules;
      same_port = search rules;
    }

pub returns-clause-polls : goal.returns-clause-polls
returns-clause-polls g c =
    record {
      agrees =
          let now : Stack = c.args.self.now in
          let b : Stack = c.begin_proceed.new.self in
          let sent : Logs = (g.P.Port.view c.args.port.now).sent in
          let got : Logs = (g.P.Port.view c.args.port.now).got in
          let is : b ≡ in_proceed c.args.done now = c.begin_proceed.ensures.state in
          let s : IsStack g.row.CAP now = c.begin_proceed.ensures.standing in
          let k : Begun b Proceeding c.args.done now = subst (λ (t : Stack). Begun t Proceeding c.args.done now) (sym is) (proceed_begun c.args.done now c.requires.may.same_done) in
          let agrees : (n : ℕ) → AgreesIn n now sent got → AgreesIn (cycle_after n now.stage) b sent got = λ n a. subst (λ (t : Stack). AgreesIn (cycle_after n now.stage) t sent got) (sym is) (proceed_agrees g.row.CAP n now c.args.done sent got s c.requires.may.may a) in
          let h : Stack = c.go_round.new.self in
          let r = c.settle_proceed.result in
          let sent' : Logs = (g.P.Port.view c.go_round.new.port).sent in
          let got' : Logs = (g.P.Port.view c.go_round.new.port).got in
          let stage : h.stage ≡ Proceeding = ap (λ (t : Stack). t.stage) c.go_round.ensures.same ∙ k.stage_is in
          let over : (n : ℕ) → AgreesIn n now sent got → AgreesIn (cycle_after n now.stage) c.settle_proceed.new.self sent' got' = λ n a.
          subst (λ (t : Stack). AgreesIn (cycle_after n now.stage) t sent' got') (sym c.settle_proceed.ensures.state)
          (agrees_staged (cycle_after n now.stage) h (stage_of_proceed r) sent' got' (ap (rounds_in (cycle_after n now.stage)) stage ∙ proceed_rounds (cycle_after n now.stage) r) (c.go_round.ensures.cycle (cycle_after n now.stage) (agrees n a))) in
          record { cycle = (cycle_after c.requires.may.at_port.agrees.cycle now.stage); agrees = over c.requires.may.at_port.agrees.cycle c.requires.may.at_port.agrees.agrees };
      cycle =
          let now : Stack = c.args.self.now in
          let b : Stack = c.begin_proceed.new.self in
          let sent : Logs = (g.P.Port.view c.args.port.now).sent in
          let got : Logs = (g.P.Port.view c.args.port.now).got in
          let is : b ≡ in_proceed c.args.done now = c.begin_proceed.ensures.state in
          let s : IsStack g.row.CAP now = c.begin_proceed.ensures.standing in
          let k : Begun b Proceeding c.args.done now = subst (λ (t : Stack). Begun t Proceeding c.args.done now) (sym is) (proceed_begun c.args.done now c.requires.may.same_done) in
          let agrees : (n : ℕ) → AgreesIn n now sent got → AgreesIn (cycle_after n now.stage) b sent got = λ n a. subst (λ (t : Stack). AgreesIn (cycle_after n now.stage) t sent got) (sym is) (proceed_agrees g.row.CAP n now c.args.done sent got s c.requires.may.may a) in
          let h : Stack = c.go_round.new.self in
          let r = c.settle_proceed.result in
          let sent' : Logs = (g.P.Port.view c.go_round.new.port).sent in
          let got' : Logs = (g.P.Port.view c.go_round.new.port).got in
          let stage : h.stage ≡ Proceeding = ap (λ (t : Stack). t.stage) c.go_round.ensures.same ∙ k.stage_is in
          let over : (n : ℕ) → AgreesIn n now sent got → AgreesIn (cycle_after n now.stage) c.settle_proceed.new.self sent' got' = λ n a.
          subst (λ (t : Stack). AgreesIn (cycle_after n now.stage) t sent' got') (sym c.settle_proceed.ensures.state)
          (agrees_staged (cycle_after n now.stage) h (stage_of_proceed r) sent' got' (ap (rounds_in (cycle_after n now.stage)) stage ∙ proceed_rounds (cycle_after n now.stage) r) (c.go_round.ensures.cycle (cycle_after n now.stage) (agrees n a))) in
          over;
      same = search rules;
      steps =
          let now : Stack = c.args.self.now in
          let b : Stack = c.begin_proceed.new.self in
          let h : Stack = c.go_round.new.self in
          let sent : Logs = (g.P.Port.view c.args.port.now).sent in
          let got : Logs = (g.P.Port.view c.args.port.now).got in
          let sent' : Logs = (g.P.Port.view c.go_round.new.port).sent in
          let got' : Logs = (g.P.Port.view c.go_round.new.port).got in
          let is : b ≡ in_proceed c.args.done now = c.begin_proceed.ensures.state in
          let s : IsStack g.row.CAP now = c.begin_proceed.ensures.standing in
          let k : Begun b Proceeding c.args.done now = subst (λ (t : Stack). Begun t Proceeding c.args.done now) (sym is) (proceed_begun c.args.done now c.requires.may.same_done) in
          let n : ℕ = c.requires.may.at_port.agrees.cycle in
          let a : AgreesIn n now sent got = c.requires.may.at_port.agrees.agrees in
          let m : ℕ = cycle_after n now.stage in
          let agrees : AgreesIn m b sent got = subst (λ (t : Stack). AgreesIn m t sent got) (sym is) (proceed_agrees g.row.CAP n now c.args.done sent got s c.requires.may.may a) in
          let first : SameLists now b sent sent got got = subst (λ (t : Stack). SameLists now t sent sent got got) (sym is) (proceed_lists g.row.CAP now c.args.done sent got s c.requires.may.read) in
          let kind : Kind b.stage b.done c.args.done false = kind_of b.stage b.done c.args.done false (ap (λ (t : Stage). is_proceeding t || is_exchanging t) k.stage_is) (sym (ap is_exchanging k.stage_is)) (sym (and_true b.done ∙ k.done_is)) in
          let second : SameLists b h sent sent' got got' = made_lists g.row.CAP m b h c.args.done false sent sent' got got' c.go_round.ensures.standing kind c.go_round.ensures.same c.go_round.ensures.round agrees in
          let lists : SameLists now h sent sent' got got' = lists_after now b h sent sent' got got' k.ranks first second in
          let epoch : b.epoch ≡ now.epoch = ap (λ (t : Stack). t.epoch) is ∙ proceed_epoch c.args.done now in
          let same = c.go_round.ensures.same in
          let polled : Polled now h c.args.done = record {
            ranks = ap (λ (t : Stack). t.ranks) same ∙ k.ranks;
            epoch = ap (λ (t : Stack). t.epoch) same ∙ epoch;
            done_is = ap (λ (t : Stack). t.done) same ∙ k.done_is;
            forgotten = ap (λ (t : Stack). t.popped) same ∙ k.forgotten;
          } in
          let r = c.settle_proceed.result in
          let staged : Stack = record h { stage = stage_of_proceed r } in
          let settled : c.settle_proceed.new.self ≡ staged = c.settle_proceed.ensures.state in
          let over : SameLists now staged sent sent' got got' = record { pushed = lists.pushed; pulled = lists.pulled } in
          let polled' : Polled now staged c.args.done = record { ranks = polled.ranks; epoch = polled.epoch; done_is = polled.done_is; forgotten = polled.forgotten } in
          subst (λ (t : Stack). AreOwnSteps (proceed_steps now.done c.args.done (is_all_done t.stage)) (stack_part now sent got) (stack_part t sent' got')) (sym settled)
          (proceed_poll now staged c.args.done sent sent' got got' polled' c.requires.may.done_stays (may_not_all now.stage c.requires.may.may) over);
      round =
          subst (λ (t : Stack). MadeRound c.args.done false t c.settle_proceed.new.self (g.P.Port.view c.args.port.now).sent (g.P.Port.view c.go_round.new.port).sent (g.P.Port.view c.args.port.now).got (g.P.Port.view c.go_round.new.port).got) c.begin_proceed.ensures.state
          (subst (λ (t : Stack). MadeRound c.args.done false c.begin_proceed.new.self t (g.P.Port.view c.args.port.now).sent (g.P.Port.view c.go_round.new.port).sent (g.P.Port.view c.args.port.now).got (g.P.Port.view c.go_round.new.port).got) (sym c.settle_proceed.ensures.state)
          (round_staged c.args.done false c.begin_proceed.new.self c.go_round.new.self (stage_of_proceed c.settle_proceed.result) (g.P.Port.view c.args.port.now).sent (g.P.Port.view c.go_round.new.port).sent (g.P.Port.view c.args.port.now).got (g.P.Port.view c.go_round.new.port).got c.go_round.ensures.round));
      same_port = search rules;
    }

pub returns-clause-asks : goal.returns-clause-asks
returns-clause-asks g c =
    let now : Stack = c.args.self.now in
    let b : Stack = c.begin_proceed.new.self in
    let h : Stack = c.go_round.new.self in
    let is : b ≡ in_proceed c.args.done now = c.begin_proceed.ensures.state in
    subst (λ (t : Stack). AsksOnce t c.settle_proceed.new.self (g.P.Port.view c.args.port.now) (g.P.Port.view c.go_round.new.port)) is
    (subst (λ (t : Stack). AsksOnce b t (g.P.Port.view c.args.port.now) (g.P.Port.view c.go_round.new.port)) (sym c.settle_proceed.ensures.state)
    (asks_staged b h (stage_of_proceed c.settle_proceed.result) (g.P.Port.view c.args.port.now) (g.P.Port.view c.go_round.new.port) c.in_ok-missing.ensures.asks))
