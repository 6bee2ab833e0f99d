use Rattle.std.proofs.Common.{rules, get_or, sym, ap, subst, ◌∙◌}
use Rattle.std.proofs.lemmas.Option.{slice_get-get_or}
use Rattle.bale_items.specs.declared.item.Entry.{Entry}
use Rattle.hop_core.specs.State.{State, pulls}
use Rattle.hop_core.proofs.Going.{no_entry}
use Rattle.query_node.specs.Taking.{AnswersQueries}
use Rattle.query_node.proofs.Answered.{answers_refused, replying_next, reply_sender, refused_to}
use Rattle.query_node.proofs.answering.push_answers.Goals as goal

pub push_answer-requires : goal.push_answer-requires
push_answer-requires g c =
    let e : Entry = get_or c.batch-entry-items.result.now c.loop-entry.entry-index no_entry in
    let next = c.batch-entry-items.ensures.gives c.loop-entry.entry-index e (slice_get-get_or c.batch-entry-items.result.now c.loop-entry.entry-index no_entry c.loop-entry-test.true) in
    let same = c.loop-entry.invariant.answers.same_replies in (
      search rules,
      (
        reply_sender g.A.Asker.talk c.args.asker.now.value c.loop-entry.entry-index c.loop-entry.count _ c.sender_of-from.result c.args.queries.now c.args.replies.now c.loop-entry.replies c.loop-entry.invariant c.requires.may.same_dims next.sender c.sender_of-from.ensures,
        (ap (λ (t : State). t.phase) same ∙ c.requires.may.working, ap (λ (t : State). t.done) same ∙ c.requires.may.not_done),
      ),
    )

pub loop-entry-preserved : goal.loop-entry-preserved
loop-entry-preserved g c =
    let e : Entry = get_or c.batch-entry-items.result.now c.loop-entry.entry-index no_entry in
    let next = c.batch-entry-items.ensures.gives c.loop-entry.entry-index e (slice_get-get_or c.batch-entry-items.result.now c.loop-entry.entry-index no_entry c.loop-entry-test.true) in
    replying_next g.A.Asker.talk c.args.asker.now.value g.row.CAP c.loop-entry.entry-index c.loop-entry.count _ c.sender_of-from.result e.item c.args.queries.now c.args.replies.now c.loop-entry.replies c.push_answer.new.replies c.push_answer.result
    c.loop-entry.invariant next c.sender_of-from.ensures c.push_answer.ensures c.in-Accepted.is

pub returns-in-Full-clause-answers : goal.returns-in-Full-clause-answers
returns-in-Full-clause-answers g c =
    let e : Entry = get_or c.batch-entry-items.result.now c.loop-entry.entry-index no_entry in
    let T = g.A.Asker.talk in
    let s = c.args.asker.now.value in
    let q : State = c.args.queries.now in
    answers_refused T s g.row.CAP c.sender_of-from.result e.item q (pulls c.loop-entry.count q) c.args.replies.now c.loop-entry.replies c.push_answer.new.replies c.push_answer.result
    (subst (λ n. AnswersQueries T s q (pulls n q) c.args.replies.now c.loop-entry.replies) (sym c.loop-entry.invariant.number) c.loop-entry.invariant.answers) c.push_answer.ensures c.in-Full.is

pub returns-in-Full-clause-refused : goal.returns-in-Full-clause-refused
returns-in-Full-clause-refused g c =
    let e : Entry = get_or c.batch-entry-items.result.now c.loop-entry.entry-index no_entry in
    let next = c.batch-entry-items.ensures.gives c.loop-entry.entry-index e (slice_get-get_or c.batch-entry-items.result.now c.loop-entry.entry-index no_entry c.loop-entry-test.true) in
    refused_to g.A.Asker.talk c.args.asker.now.value g.row.CAP c.loop-entry.entry-index c.loop-entry.count _ c.sender_of-from.result e.item c.args.queries.now c.args.replies.now c.loop-entry.replies c.push_answer.new.replies c.push_answer.result
    c.loop-entry.invariant next c.sender_of-from.ensures
    (reply_sender g.A.Asker.talk c.args.asker.now.value c.loop-entry.entry-index c.loop-entry.count _ c.sender_of-from.result c.args.queries.now c.args.replies.now c.loop-entry.replies c.loop-entry.invariant c.requires.may.same_dims next.sender c.sender_of-from.ensures)
    c.push_answer.ensures c.in-Full.is
