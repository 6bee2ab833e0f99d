use Rattle.std.proofs.Common.{◌≡◌, Bool, true, None, Option, is_some, sym, subst, ◌∙◌, if◌then◌else◌}
use Rattle.std.proofs.lemmas.Bool.{not-true}
use Rattle.app_tally.specs.Texts.{lines_of_text}
use Rattle.bale_words.specs.declared.command.Generated.{Generated}
use Rattle.bale_subjects.specs.Reading.{HasText}
use Rattle.bale_subjects.specs.Reading.{IsRead}
use Rattle.bale_subjects.specs.Subjects.{is_tally, matrix_asked, of_lines, of_matrix}
use Rattle.bale_subjects.proofs.Read.{a_tally, not_false}
use Rattle.bale_subjects.proofs.job.read_subject.Goals as goal

pub returns-then-is_tally-clause-asked : goal.returns-then-is_tally-clause-asked
returns-then-is_tally-clause-asked g c = λ text told.
    let tally : is_tally c.args.command.now.task ≡ true = sym c.is_tally.ensures ∙ c.if-is_tally.true in
    let none : c.args.command.now.travel.generated ≡ None = c.requires.ranges.lines (a_tally c.args.command.now.task tally) in
    subst (λ (b : Bool). IsRead (if b then of_lines (lines_of_text text) else of_matrix (matrix_asked c.args.command.now.travel.generated text)) c.read_lines_of.result) (sym tally)
    (c.read_lines_of.ensures.asked text (subst (λ (o : Option Generated). HasText o (g.S.Source.left c.args.source.now) text) none told))

pub returns-else-is_tally-clause-unread : goal.returns-else-is_tally-clause-unread
returns-else-is_tally-clause-unread g c = λ none. c.read_matrix_of.ensures.unread (not_false (is_some c.args.command.now.travel.generated) none)

pub returns-else-is_tally-clause-read_whole : goal.returns-else-is_tally-clause-read_whole
returns-else-is_tally-clause-read_whole g c = λ text told some. c.read_matrix_of.ensures.read_whole text told (not-true (is_some c.args.command.now.travel.generated) some)
