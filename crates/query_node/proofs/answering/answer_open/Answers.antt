use Rattle.std.proofs.Common.{rules, sym, ap, ◌∙◌}
use Rattle.std.proofs.lemmas.Bool.{false≢true}
use Rattle.convey.specs.Buffers.{is_complete}
use Rattle.query_node.proofs.Answered.{answers_both, answers_unread, may_still}
use Rattle.query_node.proofs.answering.answer_open.Goals as goal

pub answer_batch-requires : goal.answer_batch-requires
answer_batch-requires g c =
    let T = g.A.Asker.talk in
    let s = c.args.asker.now.value in
    let so_far = answers_unread T s c.args.queries.now c.loop-number.queries c.unread.new.self c.args.replies.now c.loop-number.replies c.loop-number.invariant c.unread.ensures.state c.unread.ensures.kept c.unread.ensures.step in
    let may = c.requires.may (λ e. false≢true (sym c.if-is_over.false ∙ (c.is_over.ensures ∙ ap is_complete (c.phase.ensures.value ∙ e)))) in
    (search rules, (sym c.unread.ensures.still ∙ c.in-Some.is, may_still T s c.args.queries.now c.unread.new.self c.args.replies.now c.loop-number.replies so_far may))

pub returns-in-Some-answer_batch-clause-answers : goal.returns-in-Some-answer_batch-clause-answers
returns-in-Some-answer_batch-clause-answers g c =
    answers_both g.A.Asker.talk c.args.asker.now.value c.args.queries.now c.unread.new.self c.answer_batch.new.queries c.args.replies.now c.loop-number.replies c.answer_batch.new.replies
    (answers_unread g.A.Asker.talk c.args.asker.now.value c.args.queries.now c.loop-number.queries c.unread.new.self c.args.replies.now c.loop-number.replies c.loop-number.invariant c.unread.ensures.state c.unread.ensures.kept c.unread.ensures.step)
    c.answer_batch.ensures.answers

pub loop-number-preserved : goal.loop-number-preserved
loop-number-preserved g c =
    answers_both g.A.Asker.talk c.args.asker.now.value c.args.queries.now c.unread.new.self c.answer_batch.new.queries c.args.replies.now c.loop-number.replies c.answer_batch.new.replies
    (answers_unread g.A.Asker.talk c.args.asker.now.value c.args.queries.now c.loop-number.queries c.unread.new.self c.args.replies.now c.loop-number.replies c.loop-number.invariant c.unread.ensures.state c.unread.ensures.kept c.unread.ensures.step)
    c.answer_batch.ensures.answers

pub returns-clause-answers : goal.returns-clause-answers
returns-clause-answers g c =
    answers_unread g.A.Asker.talk c.args.asker.now.value c.args.queries.now c.loop-number.queries c.unread.new.self c.args.replies.now c.loop-number.replies c.loop-number.invariant c.unread.ensures.state c.unread.ensures.kept c.unread.ensures.step
