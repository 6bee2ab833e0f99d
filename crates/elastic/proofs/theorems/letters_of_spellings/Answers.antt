use Rattle.elastic.proofs.Letters.{spellings_are_read, fronts_are_read}
use Rattle.elastic.proofs.theorems.letters_of_spellings.Goals as goal

pub returns-clause-spellings : goal.returns-clause-spellings
returns-clause-spellings c = spellings_are_read

pub returns-clause-fronts : goal.returns-clause-fronts
returns-clause-fronts c = fronts_are_read
