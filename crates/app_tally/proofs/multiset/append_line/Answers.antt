use Rattle.std.proofs.Common.{◌≡◌, ◌∷◌, ◌++◌, [], take, length, rules, ap, ◌∙◌}
use Rattle.std.proofs.Math.Seq.{take-append_seam}
use Rattle.app_tally.proofs.multiset.append_line.Goals as goal

pub returns-in-Err-clause-same_numbers : goal.returns-in-Err-clause-same_numbers
returns-in-Err-clause-same_numbers c =
    let len : c.len-len.result ≡ length c.args.times.now.items = search rules in
    c.truncate.ensures.items ∙ ap (take c.len-len.result) c.in_ok-push.ensures.items ∙ ap (λ n. take n (c.args.times.now.items ++ 1 ∷ [])) len ∙ take-append_seam c.args.times.now.items (1 ∷ [])
