use Rattle.std.proofs.Common.{rules, ◌≡◌, sym, ap, subst, ◌∙◌}
use Rattle.route_tensor.specs.Grid.{ranks}
use Rattle.hop_core.specs.State.{State}
use Rattle.convey.specs.Buffers.{buffers_of}
use Rattle.convey.specs.Parts.{part_of}
use Rattle.query_node.specs.Taking.{HasHeard, Hears}
use Rattle.query_node.proofs.Heard.{hears_both, hears_unread}
use Rattle.query_node.proofs.hearing.hear_all.Goals as goal

pub hear_batch-requires : goal.hear_batch-requires
hear_batch-requires g c =
    let T = g.A.Asker.talk in
    let r' : State = c.unread.new.self in
    let un : Hears T c.args.asker.now.value c.loop-number.asker.value c.args.lines.now.items c.loop-number.lines.items c.args.replies.now r' =
    hears_unread T c.args.asker.now.value c.loop-number.asker.value c.args.lines.now.items c.loop-number.lines.items c.args.replies.now c.loop-number.replies r' c.loop-number.invariant c.unread.ensures.state c.unread.ensures.kept c.unread.ensures.step in
    let h = c.requires.may.heard in
    let dims : ranks r'.dims ≡ ranks c.args.replies.now.dims = ap (λ (t : State). ranks t.dims) un.same in
    let has = subst (λ p. HasHeard T h.0 p c.loop-number.asker.value c.loop-number.lines.items (part_of (buffers_of r') h.1 h.2).pulled) (sym dims) (un.on h.0 h.1 h.2 h.3 h.4) in (
      search rules,
      (
        sym c.unread.ensures.still ∙ c.in-Some.is,
        record {
          begun = λ d. c.requires.may.begun (sym (ap (λ (t : State). t.phase) un.same) ∙ d);
          first = ap (λ (t : State). t.epoch) un.same ∙ c.requires.may.first;
          heard = (h.0, h.1, h.2, un.kept h.1 h.2 h.3, has);
        },
      ),
    )

pub loop-number-preserved : goal.loop-number-preserved
loop-number-preserved g c =
    hears_both g.A.Asker.talk c.args.asker.now.value c.loop-number.asker.value c.hear_batch.new.asker.value c.args.lines.now.items c.loop-number.lines.items c.hear_batch.new.lines.items c.args.replies.now c.unread.new.self c.hear_batch.new.replies
    (hears_unread g.A.Asker.talk c.args.asker.now.value c.loop-number.asker.value c.args.lines.now.items c.loop-number.lines.items c.args.replies.now c.loop-number.replies c.unread.new.self c.loop-number.invariant c.unread.ensures.state c.unread.ensures.kept c.unread.ensures.step)
    c.hear_batch.ensures.hears

pub returns-clause-hears : goal.returns-clause-hears
returns-clause-hears g c =
    hears_unread g.A.Asker.talk c.args.asker.now.value c.loop-number.asker.value c.args.lines.now.items c.loop-number.lines.items c.args.replies.now c.loop-number.replies c.unread.new.self c.loop-number.invariant c.unread.ensures.state c.unread.ensures.kept c.unread.ensures.step
