use Rattle.std.proofs.Common.{rules, ◌∙◌, sym, subst, ap, length, ◌<◌, lit<, arith}
use Rattle.item_buffer.specs.Contents.{as_shipped}
use Rattle.port_bank.specs.Logs.{lasts, with_parcel, starting_at, ending_at}
use Rattle.port_bank.specs.Relay.{RelayLaw}
use Rattle.port_bank.specs.Calls.{calls_of}
use Rattle.port_bank.specs.Plain.{sent_of, got_of}
use Rattle.port_bank.proofs.Ports.{crowded_here, idle_here, none_falls, post_turn, post_leaves}
use Rattle.port_bank.proofs.Owners.{starting_own}
use Rattle.port_bank.proofs.plain_port.PlainPortPort.post.Goals as goal

pub post-answer-requires : goal.post-answer-requires
post-answer-requires g c =
    let b = c.args.self.now.bank in (
      lit< tt,
      (
        lit< tt,
        (
          c.requires.may.link,
          (
            c.requires.may.fresh,
            (
              c.requires.may.epoch ∙ ap lasts (starting_own b.dims c.args.self.now.rank (sent_of b) c.args.link c.requires.may.starts_here),
              subst (λ r. RelayLaw b.dims r (with_parcel (starting_at b.dims r (sent_of b)) c.args.link (as_shipped c.args.p.now)) (ending_at b.dims r (got_of b))) (sym c.requires.may.starts_here) c.requires.may.law,
            ),
          ),
        ),
      ),
    )

pub returns-clause-posts : goal.returns-clause-posts
returns-clause-posts g c =
    let b = c.args.self.now.bank in
    let does = c.post-answer.ensures.does in
    let within : c.args.link < length b.channels = omega (arith, c.requires.may.link, c.known.ensures.number) in
    let t = post_turn b c.post-answer.new.self c.args.link c.post-answer.result (as_shipped c.args.p.now) within does.sent does.no_room does.no_memory in
    let leaves = post_leaves b c.post-answer.new.self c.args.self.now.rank c.args.link c.post-answer.result (as_shipped c.args.p.now) (calls_of c.args.self.now.calls) (calls_of c.note_post.new.self) within c.requires.may.starts_here does in
    record {
      sent = search rules;
      emptied = search rules;
      room = search rules;
      looked = search rules;
      no_room = search rules;
      crowded = search rules;
      at_hand = search rules;
      not_sent = search rules;
      still_idle = leaves.still_idle;
      kept = search rules;
      crowded_here = crowded_here c.args.self.now.rank b c.post-answer.new.self c.args.link t;
      idle_here = idle_here c.args.self.now.rank b c.post-answer.new.self c.args.link t;
      calls = search rules;
      looks_out = none_falls (λ x. x.looks_out) b c.post-answer.new.self c.args.link t c.post-answer.ensures.looks;
      looks_here = search rules;
      same_ins = leaves.same_ins;
      same_port = leaves.same_port;
    }
