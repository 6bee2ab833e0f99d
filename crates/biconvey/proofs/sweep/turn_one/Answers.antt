use Rattle.std.proofs.Common.{rules, ◌≡◌, ◌<◌, length, slice_get, slice_set, Some, refl, sym, subst, arith, IfOk, ◌∙◌}
use Rattle.std.proofs.lemmas.Option.{slice_get_read}
use Rattle.std.proofs.lemmas.List.{length-map, length-set}
use Rattle.list_laws.proofs.Lists.{get_once, get_here, get_other}
use Rattle.query_node.specs.States.{BiState}
use Rattle.biconvey.specs.RanksOverBanks.{AfterBiRank, sides_of}
use Rattle.biconvey.proofs.sweep.turn_one.Goals as goal

pub turn_node-requires : goal.turn_node-requires
turn_node-requires g c =
    let ns = c.args.all.now.items in
    let r = c.args.number in
    let w = c.requires.on_bank.2 in
    let n = c.index_mut.result.now in
    let size = sym (length-map ns (λ (x : BiState g.row.A.Denot). x.queries)) ∙ w.queries.all in
    let low : r < length ns = omega (arith, c.requires.number, size) in
    let at : slice_get ns r ≡ Some n = slice_get_read ns (length ns) r n refl low c.index_mut.ensures.value in
    (search rules, (search rules, (c.requires.number, (c.requires.banks, (c.requires.on_bank.1 r, w.each r n at)))))

pub returns-clause-only : goal.returns-clause-only
returns-clause-only g c = record { all = length-set c.args.all.now.items c.args.number c.turn_node.new.node; others = λ k apart. get_other c.args.all.now.items c.args.number k c.turn_node.new.node apart }

pub returns-clause-turned : goal.returns-clause-turned
returns-clause-turned g c = λ n n' was now.
    let T = g.A.Asker.talk in
    let ns = c.args.all.now.items in
    let r = c.args.number in
    let w = c.requires.on_bank.2 in
    let q = c.args.banks.queries in
    let s = sides_of c.args.banks.queries c.args.banks.replies in
    let size = sym (length-map ns (λ (x : BiState g.row.A.Denot). x.queries)) ∙ w.queries.all in
    let low : r < length ns = omega (arith, c.requires.number, size) in
    let at : slice_get ns r ≡ Some c.index_mut.result.now = slice_get_read ns (length ns) r c.index_mut.result.now refl low c.index_mut.ensures.value in
    let same : c.index_mut.result.now ≡ n = get_once ns r c.index_mut.result.now n at was in
    let same' : c.turn_node.new.node ≡ n' = get_once (slice_set ns r c.turn_node.new.node) r c.turn_node.new.node n' (get_here ns r c.turn_node.new.node low) now in
    subst (λ (m : BiState g.row.A.Denot). IfOk c.turn_node.result (λ b. AfterBiRank T q.dims g.row.CAP q.slots r m n' s (sides_of b.queries b.replies))) same
    (subst (λ (m : BiState g.row.A.Denot). IfOk c.turn_node.result (λ b. AfterBiRank T q.dims g.row.CAP q.slots r c.index_mut.result.now m s (sides_of b.queries b.replies))) same'
    c.turn_node.ensures.turned)
