use Rattle.std.proofs.Common.{◌∙◌, sym, ap, arith}
use Rattle.mtx_text.specs.Grammar.{matrix_of}
use Rattle.mtx_text.proofs.Front.{front_decides}
use Rattle.mtx_text.proofs.read.read_matrix_by.Goals as goal

pub returns-in-Ok-parse_matrix_by-clause-gives : goal.returns-in-Ok-parse_matrix_by-clause-gives
returns-in-Ok-parse_matrix_by-clause-gives g c = λ text told.
    let read = c.in-Ok.ensures.text text told in
    let slice = c.as_slice.ensures.value in
    sym (front_decides 16_777_217 text (omega arith)) ∙ sym (ap matrix_of (slice ∙ read)) ∙ c.in-Ok-parse_matrix_by.ensures

pub returns-in-Err-Bad-clause-gives : goal.returns-in-Err-Bad-clause-gives
returns-in-Err-Bad-clause-gives g c = λ text told.
    let read = c.in-Ok.ensures.text text told in
    let slice = c.as_slice.ensures.value in
    sym (front_decides 16_777_217 text (omega arith)) ∙ sym (ap matrix_of (slice ∙ read)) ∙ rw c.in-Err-Bad.field-0-is at c.in-Err-Bad.ensures
