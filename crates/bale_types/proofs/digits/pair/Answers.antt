use Rattle.std.proofs.Common.{◌≡◌, ◌+◌, ◌*◌, ◌/◌, [], ◌∷◌, ◌++◌, take, get_or, rules, arith, ap, ◌∙◌}
use Rattle.std.proofs.lemmas.Grind.{common_steps}
use Rattle.bale_types.specs.declared.digits.TheConstants.{PAIRS}
use Rattle.bale_types.proofs.Laid.{laid}
use Rattle.bale_types.proofs.Pairs.{pairs_at}
use Rattle.bale_types.proofs.digits.pair.Goals as goal

pub returns : goal.returns
returns c = record {
  bytes =
      let at = c.args.at in
      let n = c.args.n in
      let old = c.args.buffer.now in
      let p = pairs_at n c.requires.few in
      let digits = get_or PAIRS (n * 2) 0 ∷ get_or PAIRS (n * 2 + 1) 0 ∷ [] in
      let copied : c.copy_from_slice.new.self ≡ digits = search rules in
      laid at 2 _ 2 old c.copy_from_slice.new.self digits c.requires.room copied (omega arith) (omega arith)
      ∙ ap (λ b. take at old ++ b ∷ get_or PAIRS (n * 2 + 1) 0 ∷ []) p.0
      ∙ ap (λ b. take at old ++ (48 + n / 10) ∷ b ∷ []) p.1;
  bound = grind (arith, common_steps);
  len = search rules;
}
