use Rattle.std.proofs.Common.{◌≡◌, ◌+◌, length, arith, rules}
use Rattle.std.proofs.lemmas.Grind.{common_steps}
use Rattle.bale_types.proofs.Laid.{laid_to}
use Rattle.mtx_text.proofs.entry_line.EntryLineLineText.lay.Goals.{After-lay-front}
use Rattle.mtx_text.proofs.entry_line.EntryLineLineText.lay.Goals as goal

-- where the front ends
front_end : (c : After-lay-front) → c.lay-front.result ≡ c.args.at + length c.self.inside.front
front_end c =
    let room = c.requires in
    let same = c.lay-front.ensures.len in
    laid_to c.lay-front.result c.args.at c.lay-front.new.buffer c.args.buffer.now c.self.inside.front c.lay-front.ensures.bytes
    (omega (arith, c.lay-front.ensures.bound, room, same)) (omega (arith, room))

pub lay_rest-requires : goal.lay_rest-requires
lay_rest-requires c =
    omega (arith, front_end (goal.at.lay_rest-requires c).After-lay-front, c.self.invariant.short, c.requires, c.lay-front.ensures.len)

pub returns : goal.returns
returns c =
    let end = front_end (goal.at.returns c).After-lay-front in
    record {
      bytes = grind (arith, common_steps);
      bound = omega (arith, end, c.self.invariant.short, c.lay_rest.ensures.bound);
      len = search rules;
    }
