use Rattle.std.proofs.Common.{arith, ◌<◌, ◌≡◌, ◌==◌, Some, length, slice_get, refl, sym, subst}
use Rattle.std.proofs.lemmas.Option.{slice_get_read}
use Rattle.round_examples.specs.Traffics.{TrafficState}
use Rattle.round_examples.proofs.Targets.{in_round, emitted}
use Rattle.round_examples.proofs.traffic.TrafficProgram.emission.Goals as goal

pub index-requires : goal.index-requires
index-requires c =
    let low : c.args.i < length c.self.inside.targets.items =
    subst (λ (s : TrafficState). c.args.i < length s.targets) (sym c.self.view_is) (in_round (c.args.self.now.round == 0) c.args.self.now.targets c.args.i c.requires) in
    omega (arith, low, c.self.inside.targets.ok.0)

pub returns : goal.returns
returns c =
    let low : c.args.i < length c.self.inside.targets.items =
    subst (λ (s : TrafficState). c.args.i < length s.targets) (sym c.self.view_is) (in_round (c.args.self.now.round == 0) c.args.self.now.targets c.args.i c.requires) in
    let at : slice_get c.self.inside.targets.items c.args.i ≡ Some c.index.result.now =
    slice_get_read c.self.inside.targets.items (length c.self.inside.targets.items) c.args.i c.index.result.now refl low c.index.ensures in
    emitted (c.args.self.now.round == 0) c.args.self.now.targets c.args.i c.index.result.now.0 c.index.result.now.1 c.requires
    (subst (λ (s : TrafficState). slice_get s.targets c.args.i ≡ Some c.index.result.now) c.self.view_is at)
