use Rattle.port_bank.proofs.Frames.{ins_elsewhere}
use Rattle.exstack.proofs.Moves.{collects_leave}
use Rattle.exstack.proofs.in_link.InLink.collect.Goals as goal

pub returns-then-not-exchange-clause-elsewhere : goal.returns-then-not-exchange-clause-elsewhere
returns-then-not-exchange-clause-elsewhere g c = ins_elsewhere c.collect.ensures.collects

pub returns-then-not-exchange-clause-left : goal.returns-then-not-exchange-clause-left
returns-then-not-exchange-clause-left g c = collects_leave c.collect.ensures.collects

pub returns-else-not-exchange-clause-elsewhere : goal.returns-else-not-exchange-clause-elsewhere
returns-else-not-exchange-clause-elsewhere g c = ins_elsewhere c.collect.ensures.collects

pub returns-else-not-exchange-clause-left : goal.returns-else-not-exchange-clause-left
returns-else-not-exchange-clause-left g c = collects_leave c.collect.ensures.collects

pub returns-in-Nothing-clause-elsewhere : goal.returns-in-Nothing-clause-elsewhere
returns-in-Nothing-clause-elsewhere g c = ins_elsewhere c.collect.ensures.collects

pub returns-in-Nothing-clause-left : goal.returns-in-Nothing-clause-left
returns-in-Nothing-clause-left g c = collects_leave c.collect.ensures.collects
