use Rattle.std.proofs.Common.{◌≡◌, ap, ap₂, ◌∙◌, subst, rules}
use Rattle.std.specs.List.{flat_map}
use Rattle.bale_types.specs.Stream.{taken_with, IsTakenPrefix}
use Rattle.bale_types.specs.Out.{appended_bytes}
use Rattle.bale_types.proofs.Moves.{front_of_front, on_err_any}
use Rattle.mtx_text.specs.Written.{entry_text, banner_text, size_text}
use Rattle.mtx_text.proofs.WrittenMatrix.{read_again}
use Rattle.mtx_text.proofs.WrittenPieces.{front_first, front_second, front_third, all_three}
use Rattle.mtx_text.proofs.write.write_matrix.Goals as goal

pub returns-in_err-write_banner-clause-written : goal.returns-in_err-write_banner-clause-written
returns-in_err-write_banner-clause-written g c = record {
  ok = search rules;
  err = let m = c.args.m.now in
      on_err_any c.from_residual.result
      (front_first _ _ (banner_text m.kind) (size_text m) (flat_map (entry_text m.kind) m.entries)
      (subst (λ k. IsTakenPrefix (g.K.Sink.taken c.write_banner.new.out.sink.now) (taken_with (appended_bytes g.K.Sink.taken c.args.out.now) (banner_text k))) c.kind.ensures c.in_err-write_banner.ensures.err));
  sink = record {
    counts = search rules;
    grows = search rules;
    same_sink = search rules;
  };
}

pub returns-in_err-write_sizes-clause-written : goal.returns-in_err-write_sizes-clause-written
returns-in_err-write_sizes-clause-written g c = record {
  ok = search rules;
  err = let m = c.args.m.now in
      on_err_any c.from_residual-in_err-write_sizes.result
      (front_second _ (appended_bytes g.K.Sink.taken c.write_banner.new.out) (appended_bytes g.K.Sink.taken c.args.out.now) (banner_text m.kind) (size_text m) (flat_map (entry_text m.kind) m.entries)
      (c.in_ok-write_banner.ensures.ok ∙ ap (λ k. taken_with (appended_bytes g.K.Sink.taken c.args.out.now) (banner_text k)) c.kind.ensures)
      c.in_err-write_sizes.ensures.err);
  sink = record {
    counts = search rules;
    grows = front_of_front (g.K.Sink.taken c.args.out.now.sink.now) (g.K.Sink.taken c.write_banner.new.out.sink.now) (g.K.Sink.taken c.write_sizes.new.out.sink.now)
        c.write_banner.ensures.sink.grows c.write_sizes.ensures.sink.grows;
    same_sink = search rules;
  };
}

pub returns-in_err-write_entries-clause-written : goal.returns-in_err-write_entries-clause-written
returns-in_err-write_entries-clause-written g c = record {
  ok = search rules;
  err = let m = c.args.m.now in
      let here : flat_map (entry_text c.kind-2.result) c.entries-entries.result.now ≡ flat_map (entry_text m.kind) m.entries = ap₂ (λ k ts. flat_map (entry_text k) ts) c.kind-2.ensures c.entries-entries.ensures.entries in
      on_err_any c.from_residual-in_err-write_entries.result
      (front_third _ (appended_bytes g.K.Sink.taken c.write_sizes.new.out) (appended_bytes g.K.Sink.taken c.write_banner.new.out) (appended_bytes g.K.Sink.taken c.args.out.now)
      (banner_text m.kind) (size_text m) (flat_map (entry_text m.kind) m.entries)
      (c.in_ok-write_banner.ensures.ok ∙ ap (λ k. taken_with (appended_bytes g.K.Sink.taken c.args.out.now) (banner_text k)) c.kind.ensures)
      c.in_ok-write_sizes.ensures.ok
      (subst (λ text. IsTakenPrefix (g.K.Sink.taken c.write_entries.new.out.sink.now) (taken_with (appended_bytes g.K.Sink.taken c.write_sizes.new.out) text)) here c.in_err-write_entries.ensures.err));
  sink = record {
    counts = search rules;
    grows = front_of_front (g.K.Sink.taken c.args.out.now.sink.now) (g.K.Sink.taken c.write_sizes.new.out.sink.now) (g.K.Sink.taken c.write_entries.new.out.sink.now)
        (front_of_front (g.K.Sink.taken c.args.out.now.sink.now) (g.K.Sink.taken c.write_banner.new.out.sink.now) (g.K.Sink.taken c.write_sizes.new.out.sink.now)
        c.write_banner.ensures.sink.grows c.write_sizes.ensures.sink.grows)
        c.write_entries.ensures.sink.grows;
    same_sink = search rules;
  };
}

pub returns-clause-written : goal.returns-clause-written
returns-clause-written g c = record {
  ok = let m = c.args.m.now in
      let here : flat_map (entry_text c.kind-2.result) c.entries-entries.result.now ≡ flat_map (entry_text m.kind) m.entries = ap₂ (λ k ts. flat_map (entry_text k) ts) c.kind-2.ensures c.entries-entries.ensures.entries in
      all_three _ (appended_bytes g.K.Sink.taken c.write_sizes.new.out) (appended_bytes g.K.Sink.taken c.write_banner.new.out) (appended_bytes g.K.Sink.taken c.args.out.now)
      (banner_text m.kind) (size_text m) (flat_map (entry_text m.kind) m.entries)
      (c.in_ok-write_entries.ensures.ok ∙ ap (taken_with (appended_bytes g.K.Sink.taken c.write_sizes.new.out)) here)
      c.in_ok-write_sizes.ensures.ok
      (c.in_ok-write_banner.ensures.ok ∙ ap (λ k. taken_with (appended_bytes g.K.Sink.taken c.args.out.now) (banner_text k)) c.kind.ensures);
  err = search rules;
  sink = record {
    counts = search rules;
    grows = front_of_front (g.K.Sink.taken c.args.out.now.sink.now) (g.K.Sink.taken c.write_sizes.new.out.sink.now) (g.K.Sink.taken c.write_entries.new.out.sink.now)
        (front_of_front (g.K.Sink.taken c.args.out.now.sink.now) (g.K.Sink.taken c.write_banner.new.out.sink.now) (g.K.Sink.taken c.write_sizes.new.out.sink.now)
        c.write_banner.ensures.sink.grows c.write_sizes.ensures.sink.grows)
        c.write_entries.ensures.sink.grows;
    same_sink = search rules;
  };
}

pub returns-in_err-write_banner-clause-read_again : goal.returns-in_err-write_banner-clause-read_again
returns-in_err-write_banner-clause-read_again g c = read_again c.args.m.now c.entries-entries.ensures.kept

pub returns-in_err-write_sizes-clause-read_again : goal.returns-in_err-write_sizes-clause-read_again
returns-in_err-write_sizes-clause-read_again g c = read_again c.args.m.now c.entries-entries.ensures.kept

pub returns-in_err-write_entries-clause-read_again : goal.returns-in_err-write_entries-clause-read_again
returns-in_err-write_entries-clause-read_again g c = read_again c.args.m.now c.entries-entries.ensures.kept

pub returns-clause-read_again : goal.returns-clause-read_again
returns-clause-read_again g c = read_again c.args.m.now c.entries-entries.ensures.kept
