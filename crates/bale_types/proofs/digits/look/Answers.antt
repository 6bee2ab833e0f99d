use Rattle.std.proofs.Common.{◌≡◌, rules, arith}
use Rattle.std.proofs.lemmas.Grind.{common_steps}
use Rattle.bale_types.specs.Digits.{four}
use Rattle.bale_types.proofs.Laid.{laid}
use Rattle.bale_types.proofs.digits.look.Goals as goal

pub returns : goal.returns
returns c = record {
  bytes =
      let copied : c.copy_from_slice.new.self ≡ four c.args.n = search rules in
      laid c.args.at 4 _ 4 c.args.buffer.now c.copy_from_slice.new.self (four c.args.n) c.requires.room copied (omega arith) (omega arith);
  bound = grind (arith, common_steps);
  len = search rules;
}
