use Rattle.std.proofs.Common.{◌≡◌, length, map, arith, ◌∙◌}
use Rattle.std.proofs.lemmas.List.{length-map}
use Rattle.std.proofs.lemmas.Option.{slice_get-get_or}
use Rattle.app_histo_ig.specs.Igs.{to_ask}
use Rattle.app_histo_ig.specs.code.IgSent.{number_and_column}
use Rattle.app_histo_ig.proofs.IgSent.{query_at}
use Rattle.app_histo_ig.proofs.ig_sent.query_of_own.Goals as goal

pub returns : goal.returns
returns c =
    let count : length (map (to_ask c.args.ranks) (map number_and_column c.args.own.now)) ≡ length c.args.own.now =
    length-map (map number_and_column c.args.own.now) (to_ask c.args.ranks) ∙ length-map c.args.own.now number_and_column in
    query_at c.args.ranks c.args.i c.args.own.now _ (slice_get-get_or c.args.own.now c.args.i _ (omega (arith, count, c.requires.within)))
