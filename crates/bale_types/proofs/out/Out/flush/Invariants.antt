use Rattle.std.proofs.Common.{◌≡◌}
use Rattle.bale_types.specs.Stream.{IsTakenPrefix}
use Rattle.bale_types.specs.Out.{appended_bytes}
use Rattle.bale_types.proofs.out.Out.flush.Given as goal

-- what was appended has gone to the sink or still waits
abbrev pub invariant-loop-self : goal.invariant-loop-self
invariant-loop-self g l = record {
  kept : appended_bytes g.K.Sink.taken l.self ≡ appended_bytes g.K.Sink.taken l.fn.self;
  no_fault : g.K.Sink.faults l.self.sink.now ≡ g.K.Sink.faults l.fn.self.sink.now;
  no_write : l.fn.self.len ≡ 0 → l.self.sink.now ≡ l.fn.self.sink.now;
  no_bytes : l.fn.self.len ≡ 0 → l.self.len ≡ 0;
  grows : IsTakenPrefix (g.K.Sink.taken l.fn.self.sink.now) (g.K.Sink.taken l.self.sink.now);
  same_sink : l.self.sink.ghost_name ≡ l.fn.self.sink.ghost_name;
}

abbrev pub decreases-loop-self : goal.decreases-loop-self
decreases-loop-self g l = l.self.len
