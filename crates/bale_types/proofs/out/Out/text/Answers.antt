use Rattle.std.proofs.Common.{◌∙◌, ◌+◌, ◌-◌, ◌<◌, ◌≤◌, length, take, sym, subst, arith, rules}
use Rattle.std.proofs.lemmas.Grind.{common_steps}
use Rattle.bale_types.specs.Out.{appended_bytes}
use Rattle.bale_types.specs.Stream.{taken_with, IsTakenPrefix}
use Rattle.bale_types.proofs.Moves.{moved_on, part_of_rest, front_held, front_of_front, on_err_any}
use Rattle.bale_types.proofs.Waiting.{short_of, waits_on}
use Rattle.bale_types.proofs.out.Out.text.Goals as goal

pub loop-at-preserved : goal.loop-at-preserved
loop-at-preserved g c =
    let taken = g.K.Sink.taken in
    let all = appended_bytes g.K.Sink.taken in
    let bound : c.in_ok-at.field-0 ≤ length c.args.t.now - c.loop-at.at = grind (arith, common_steps) in
    record {
      within = omega arith;
      bytes = moved_on (all c.fill.new.self) (all c.loop-at.self) (all c.args.self.now) c.args.t.now c.loop-at.at (length c.args.t.now) c.in_ok-at.field-0
          c.in_ok-at.ensures.ok c.loop-at.invariant.bytes bound;
      no_fault = search rules;
      gathers = λ (short : c.args.self.now.len + length c.args.t.now < 16384).
          let here = short_of c.args.self.now.len c.loop-at.self.len c.loop-at.at (length c.args.t.now) c.loop-at.invariant.waits c.loop-at.invariant.within short in
          let below : c.loop-at.self.len + c.in_ok-at.field-0 < 16384 = omega arith in
          c.in_ok-at.ensures.gathers below ∙ c.loop-at.invariant.gathers short;
      waits = waits_on c.args.self.now.len c.loop-at.self.len c.loop-at.at c.in_ok-at.field-0 c.fill.new.self.len c.loop-at.invariant.waits c.in_ok-at.ensures.some.some c.in_ok-at.ensures.waits;
      grows = front_of_front (taken c.args.self.now.sink.now) (taken c.loop-at.self.sink.now) (taken c.fill.new.self.sink.now) c.loop-at.invariant.grows c.fill.ensures.sink.grows;
      same_sink = search rules;
    }

-- of what follows the first `at` bytes a part was appended, and of that the sink has a front;
-- where the buffer has room for the whole text, no write is made that could fail
pub returns-in_err-at : goal.returns-in_err-at
returns-in_err-at g c =
    let taken = g.K.Sink.taken in
    let all = appended_bytes g.K.Sink.taken in
    let new = c.fill.new.self in
    let old = c.args.self.now in
    let mid = c.loop-at.self in
    let part = part_of_rest (all new) (all mid) (all old) c.args.t.now c.loop-at.at c.loop-at.invariant.bytes c.in_err-at.ensures.part in
    let before : IsTakenPrefix (all old) (all mid) = subst (IsTakenPrefix (all old)) (sym c.loop-at.invariant.bytes) (front_held (all old) (take c.loop-at.at c.args.t.now)) in
    let more : IsTakenPrefix (all mid) (all new) = search rules in
    record {
      written = record {
        ok = search rules;
        err = on_err_any c.from_residual.result
            (front_of_front (taken new.sink.now) (all new) (taken_with (all old) c.args.t.now) (front_held (taken new.sink.now) (take new.len new.buffer)) part);
        sink = record {
          counts = search rules;
          grows = front_of_front (taken old.sink.now) (taken mid.sink.now) (taken new.sink.now) c.loop-at.invariant.grows c.fill.ensures.sink.grows;
          same_sink = search rules;
        };
      };
      kept = on_err_any c.from_residual.result (front_of_front (all old) (all mid) (all new) before more);
      part = on_err_any c.from_residual.result part;
      gathers = search rules;
      no_failure = λ (short : old.len + length c.args.t.now < 16384).
          let here = short_of old.len mid.len c.loop-at.at (length c.args.t.now) c.loop-at.invariant.waits c.loop-at.invariant.within short in
          let full = c.in_err-at.ensures.full in
          absurd (grind (arith, common_steps, here, full));
      waits = search rules;
    }
