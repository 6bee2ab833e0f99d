use Rattle.std.proofs.Common.{◌≡◌, ◌+◌, ◌-◌, ◌<◌, ◌≤◌, length, take}
use Rattle.bale_types.specs.Stream.{taken_with, IsTakenPrefix}
use Rattle.bale_types.specs.Out.{appended_bytes, left_over}
use Rattle.bale_types.proofs.out.Out.text.Given as goal

-- what was appended so far is a prefix of the text up to `at`
abbrev pub invariant-loop-at : goal.invariant-loop-at
invariant-loop-at g l = record {
  within : l.at ≤ length l.t;
  bytes : appended_bytes g.K.Sink.taken l.self ≡ taken_with (appended_bytes g.K.Sink.taken l.fn.self) (take l.at l.t);
  no_fault : g.K.Sink.faults l.self.sink.now ≡ g.K.Sink.faults l.fn.self.sink.now;
  gathers : l.fn.self.len + length l.t < 16384 → l.self.sink.now ≡ l.fn.self.sink.now;
  waits : l.self.len ≡ left_over l.fn.self.len l.at;
  grows : IsTakenPrefix (g.K.Sink.taken l.fn.self.sink.now) (g.K.Sink.taken l.self.sink.now);
  same_sink : l.self.sink.ghost_name ≡ l.fn.self.sink.ghost_name;
}

abbrev pub decreases-loop-at : goal.decreases-loop-at
decreases-loop-at g l = length l.t - l.at
