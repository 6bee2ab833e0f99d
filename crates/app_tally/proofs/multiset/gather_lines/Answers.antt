use Rattle.std.proofs.Common.{◌≡◌, ◌<◌, ◌≤◌, [], ◌∷◌, ◌++◌, Some, slice_get, All, length, map, get_or, sym, subst, ap, ◌∙◌, arith}
use Rattle.std.proofs.lemmas.List.{map-append, take_all}
use Rattle.std.proofs.lemmas.List.Elements.{All-push}
use Rattle.std.proofs.lemmas.Option.{slice_get-get_or}
use Rattle.list_laws.proofs.Lists.{within}
use Rattle.app_tally.specs.Numbers.{front_number}
use Rattle.app_tally.specs.code.CountView.{numbered_lines}
use Rattle.app_tally.proofs.Multisets.{entries_len, entry_at, entries_counted}
use Rattle.app_tally.proofs.TallyRounds.{gather_more}
use Rattle.app_tally.proofs.multiset.gather_lines.Goals as goal

pub loop-i-preserved : goal.loop-i-preserved
loop-i-preserved c =
    let same : length c.args.times.now ≡ length c.args.lines.now = c.requires.same in
    let low : c.loop-i.i < length c.args.times.now = omega (arith, c.len-i-end.ensures.value) in
    let there : slice_get (numbered_lines c.args.lines.now c.args.times.now) c.loop-i.i ≡ Some (c.at.result.now, get_or c.args.times.now c.loop-i.i 0) =
    entry_at c.args.lines.now c.args.times.now c.loop-i.i c.at.result.now (get_or c.args.times.now c.loop-i.i 0) c.at.ensures (slice_get-get_or c.args.times.now c.loop-i.i 0 low) in
    record {
      gathered =
          gather_more (numbered_lines c.args.lines.now c.args.times.now) c.loop-i.i (c.at.result.now, get_or c.args.times.now c.loop-i.i 0) _ (map (λ r. (r.1.now, r.2)) c.loop-i.all.items) _
          (within (numbered_lines c.args.lines.now c.args.times.now) c.loop-i.i _ there) there c.loop-i.invariant.gathered
          (ap (map (λ r. (r.1.now, r.2))) c.in_ok-push.ensures.items ∙ map-append (λ r. (r.1.now, r.2)) c.loop-i.all.items (c.numbered.result ∷ [])
          ∙ ap (λ l. map (λ r. (r.1.now, r.2)) c.loop-i.all.items ++ (l, c.numbered.result.2) ∷ []) c.numbered.ensures.line
          ∙ ap (λ n. map (λ r. (r.1.now, r.2)) c.loop-i.all.items ++ (c.at.result.now, n) ∷ []) c.numbered.ensures.times);
      numbers = λ all.
          subst (All (λ r. r.0 ≡ front_number 16 r.1.now)) (sym c.in_ok-push.ensures.items)
          (All-push (λ r. r.0 ≡ front_number 16 r.1.now) c.loop-i.all.items c.numbered.result (c.loop-i.invariant.numbers all) (c.numbered.ensures.number ∙ ap (front_number 16) (sym c.numbered.ensures.line)));
    }

pub returns-in_err-push-clause-counted : goal.returns-in_err-push-clause-counted
returns-in_err-push-clause-counted c = entries_counted c.args.lines.now c.args.times.now c.len-i-end.ensures.letters c.requires.some

pub returns-clause-counted : goal.returns-clause-counted
returns-clause-counted c = entries_counted c.args.lines.now c.args.times.now c.len-i-end.ensures.letters c.requires.some

pub returns-clause-gathered : goal.returns-clause-gathered
returns-clause-gathered c =
    let len : length (numbered_lines c.args.lines.now c.args.times.now) ≡ length c.args.times.now = entries_len c.args.lines.now c.args.times.now c.requires.same in
    let same : length c.args.times.now ≡ length c.args.lines.now = c.requires.same in
    let past : length (numbered_lines c.args.lines.now c.args.times.now) ≤ c.loop-i.i = omega (arith, c.len-i-end.ensures.value) in
    c.loop-i.invariant.gathered ∙ ap (λ w. map (λ r. (r.1.now, r.2)) c.args.all.now.items ++ w) (take_all c.loop-i.i (numbered_lines c.args.lines.now c.args.times.now) past)
