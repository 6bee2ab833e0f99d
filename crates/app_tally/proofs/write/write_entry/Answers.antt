use Rattle.std.proofs.Common.{◌≡◌, [], ◌∷◌, ◌++◌, ap, subst, ◌∙◌, rules}
use Rattle.std.specs.Prelude.{decimal}
use Rattle.bale_types.specs.Stream.{taken_with, IsTakenPrefix}
use Rattle.bale_types.specs.Out.{appended_bytes}
use Rattle.bale_types.proofs.Moves.{front_of_front, on_err_any}
use Rattle.list_laws.proofs.Results.{on_ok_map}
use Rattle.mtx_text.proofs.WrittenPieces.{front_first, front_second, front_third, all_three}
use Rattle.app_tally.proofs.Written.{on_err_map}
use Rattle.app_tally.proofs.write.write_entry.Goals as goal

pub returns-in_err-line : goal.returns-in_err-line
returns-in_err-line g c = record {
  ok = search rules;
  err = let number : c.byte.new.self ≡ decimal c.args.times ++ 32 ∷ [] = c.byte.ensures.bytes ∙ ap (λ l. l ++ 32 ∷ []) (c.number.ensures.bytes ∙ ap (λ l. l ++ decimal c.args.times) c.new-count.ensures) in
      on_err_any c.from_residual.result
      (front_first _ _ (decimal c.args.times ++ 32 ∷ []) c.args.line.now (10 ∷ [])
      (subst (λ l. IsTakenPrefix (g.K.Sink.taken c.line.new.self.sink.now) (taken_with (appended_bytes g.K.Sink.taken c.args.out.now) l)) number c.in_err-line.ensures.written.err));
  sink = search rules;
}

pub returns-in_err-text : goal.returns-in_err-text
returns-in_err-text g c = record {
  ok = search rules;
  err = let number : c.byte.new.self ≡ decimal c.args.times ++ 32 ∷ [] = c.byte.ensures.bytes ∙ ap (λ l. l ++ 32 ∷ []) (c.number.ensures.bytes ∙ ap (λ l. l ++ decimal c.args.times) c.new-count.ensures) in
      on_err_any c.from_residual-in_err-text.result
      (front_second _ (appended_bytes g.K.Sink.taken c.line.new.self) (appended_bytes g.K.Sink.taken c.args.out.now) (decimal c.args.times ++ 32 ∷ []) c.args.line.now (10 ∷ [])
      (c.in_ok-line.ensures.written.ok ∙ ap (taken_with (appended_bytes g.K.Sink.taken c.args.out.now)) number) c.in_err-text.ensures.written.err);
  sink = record { counts = search rules; grows = front_of_front (g.K.Sink.taken c.args.out.now.sink.now) (g.K.Sink.taken c.line.new.self.sink.now) (g.K.Sink.taken c.text.new.self.sink.now) c.line.ensures.written.sink.grows c.text.ensures.written.sink.grows; same_sink = search rules };
}

pub returns : goal.returns
returns g c = record {
  ok = let number : c.byte.new.self ≡ decimal c.args.times ++ 32 ∷ [] = c.byte.ensures.bytes ∙ ap (λ l. l ++ 32 ∷ []) (c.number.ensures.bytes ∙ ap (λ l. l ++ decimal c.args.times) c.new-count.ensures) in
      on_ok_map c.byte-2.result
      (λ e. all_three _ (appended_bytes g.K.Sink.taken c.text.new.self) (appended_bytes g.K.Sink.taken c.line.new.self) (appended_bytes g.K.Sink.taken c.args.out.now) (decimal c.args.times ++ 32 ∷ []) c.args.line.now (10 ∷ [])
      e c.in_ok-text.ensures.written.ok (c.in_ok-line.ensures.written.ok ∙ ap (taken_with (appended_bytes g.K.Sink.taken c.args.out.now)) number))
      c.byte-2.ensures.written.ok;
  err = let number : c.byte.new.self ≡ decimal c.args.times ++ 32 ∷ [] = c.byte.ensures.bytes ∙ ap (λ l. l ++ 32 ∷ []) (c.number.ensures.bytes ∙ ap (λ l. l ++ decimal c.args.times) c.new-count.ensures) in
      on_err_map c.byte-2.result
      (λ e. front_third _ (appended_bytes g.K.Sink.taken c.text.new.self) (appended_bytes g.K.Sink.taken c.line.new.self) (appended_bytes g.K.Sink.taken c.args.out.now) (decimal c.args.times ++ 32 ∷ []) c.args.line.now (10 ∷ [])
      (c.in_ok-line.ensures.written.ok ∙ ap (taken_with (appended_bytes g.K.Sink.taken c.args.out.now)) number) c.in_ok-text.ensures.written.ok e)
      c.byte-2.ensures.written.err;
  sink = record {
    counts = search rules;
    grows = front_of_front (g.K.Sink.taken c.args.out.now.sink.now) (g.K.Sink.taken c.text.new.self.sink.now) (g.K.Sink.taken c.byte-2.new.self.sink.now)
        (front_of_front (g.K.Sink.taken c.args.out.now.sink.now) (g.K.Sink.taken c.line.new.self.sink.now) (g.K.Sink.taken c.text.new.self.sink.now) c.line.ensures.written.sink.grows c.text.ensures.written.sink.grows)
        c.byte-2.ensures.written.sink.grows;
    same_sink = search rules;
  };
}
