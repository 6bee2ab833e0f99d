use Rattle.std.proofs.Common.{◌≡◌, ◌++◌, length, take, take_all, rules, arith, ap, sym, ◌∙◌}
use Rattle.std.proofs.lemmas.Grind.{common_steps}
use Rattle.bale_types.proofs.Laid.{laid}
use Rattle.bale_types.proofs.line.LineLineText.lay.Goals as goal

pub returns-then-self-le-SHORT : goal.returns-then-self-le-SHORT
returns-then-self-le-SHORT c = record {
  bytes =
      let at = c.args.at in
      let buffer = c.args.buffer.now in
      let room = c.self.inside.room in
      let len = c.self.inside.len in
      let same : c.args.self.now ≡ take len room = search rules in
      let copied : c.copy_from_slice.new.self ≡ take 16 room = search rules in
      laid at 16 _ len buffer c.copy_from_slice.new.self room (omega (arith, c.requires)) copied (search rules) (omega (arith, c.if-self-le-SHORT.true))
      ∙ ap (λ xs. take at buffer ++ xs) (sym same);
  bound = grind (arith, common_steps);
  len = search rules;
}

pub returns : goal.returns
returns c = record {
  bytes =
      let at = c.args.at in
      let buffer = c.args.buffer.now in
      let room = c.self.inside.room in
      let len = c.self.inside.len in
      let same : c.args.self.now ≡ take len room = search rules in
      let sized : length room ≡ 80 = search rules in
      let whole : c.copy_from_slice-2.new.self ≡ room = search rules in
      let copied : c.copy_from_slice-2.new.self ≡ take 80 room = whole ∙ sym (take_all 80 room (omega (arith, sized))) in
      laid at 80 _ len buffer c.copy_from_slice-2.new.self room (omega (arith, c.requires)) copied (omega (arith, sized)) (search rules)
      ∙ ap (λ xs. take at buffer ++ xs) (sym same);
  bound = grind (arith, common_steps);
  len = search rules;
}
