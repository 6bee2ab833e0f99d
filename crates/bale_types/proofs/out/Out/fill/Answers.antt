use Rattle.std.proofs.Common.{◌≡◌, ◌∙◌, take, ap, subst, rules}
use Rattle.bale_types.specs.Out.{appended_bytes}
use Rattle.bale_types.specs.Stream.{taken_with, IsTakenPrefix}
use Rattle.bale_types.proofs.Moves.{part_of_all, front_of_front, on_err_any}
use Rattle.bale_types.proofs.out.Out.fill.Goals as goal

pub returns-in_err-flush_if_full-2-clause-part : goal.returns-in_err-flush_if_full-2-clause-part
returns-in_err-flush_if_full-2-clause-part g c =
    let all = appended_bytes g.K.Sink.taken in
    let n = c.copy_in-count.result in
    let same : all c.flush_if_full-2.new.self ≡ taken_with (all c.args.self.now) (take n c.args.t.now) =
    c.flush_if_full-2.ensures.kept ∙ c.copy_in-count.ensures.appended ∙ ap (λ o. taken_with o (take n c.args.t.now)) c.flush_if_full.ensures.kept in
    on_err_any c.from_residual-in_err-flush_if_full-2.result (part_of_all (all c.flush_if_full-2.new.self) (all c.args.self.now) c.args.t.now n same)

pub returns-in_err-flush_if_full-2-clause-sink : goal.returns-in_err-flush_if_full-2-clause-sink
returns-in_err-flush_if_full-2-clause-sink g c =
    let taken = g.K.Sink.taken in
    let old = taken c.args.self.now.sink.now in
    let mid = taken c.flush_if_full.new.self.sink.now in
    let new = taken c.flush_if_full-2.new.self.sink.now in
    let sink : taken c.copy_in-count.new.self.sink.now ≡ mid = ap (λ s. taken s.now) c.copy_in-count.ensures.sink in
    let more : IsTakenPrefix mid new = subst (λ o. IsTakenPrefix o new) sink c.flush_if_full-2.ensures.sink.grows in
    record {
      counts = search rules;
      grows = front_of_front old mid new c.flush_if_full.ensures.sink.grows more;
      same_sink = search rules;
    }

pub returns-clause-sink : goal.returns-clause-sink
returns-clause-sink g c =
    let taken = g.K.Sink.taken in
    let old = taken c.args.self.now.sink.now in
    let mid = taken c.flush_if_full.new.self.sink.now in
    let new = taken c.flush_if_full-2.new.self.sink.now in
    let sink : taken c.copy_in-count.new.self.sink.now ≡ mid = ap (λ s. taken s.now) c.copy_in-count.ensures.sink in
    let more : IsTakenPrefix mid new = subst (λ o. IsTakenPrefix o new) sink c.flush_if_full-2.ensures.sink.grows in
    record {
      counts = search rules;
      grows = front_of_front old mid new c.flush_if_full.ensures.sink.grows more;
      same_sink = search rules;
    }
