use Rattle.std.proofs.Common.{rules, ◌≡◌, ℕ, ◌<◌, ◌+◌, List, length, slice_get, slice_set, Some, refl, ap, ◌∙◌, subst, arith, IfOk}
use Rattle.std.specs.Prelude.{Result, Ok, Err}
use Rattle.std.proofs.lemmas.List.{length-set}
use Rattle.std.proofs.lemmas.Option.{slice_get_read}
use Rattle.list_laws.proofs.Lists.{get_once, get_here, get_other}
use Rattle.port_bank.specs.Plain.{sent_of, got_of}
use Rattle.rank_group.specs.Ranks.{RankState, AfterRank}
use Rattle.rank_group.specs.Turns.{OnlyAt, turn_count}
use Rattle.rank_group.proofs.Resting.{epoch_few}
use Rattle.rank_group.proofs.sweep.turn_one.Goals as goal

only_at : {X : Type 0} (xs : List X) (r : ℕ) (x : X) → OnlyAt r xs (slice_set xs r x)
only_at xs r x = record { all = length-set xs r x; others = λ k apart. get_other xs r k x apart }

if_both : {X E : Type 0} (result : Result X E) (P Q Z : X → Type 0) → ((b : X) → P b → Q b → Z b) → IfOk result P → IfOk result Q → IfOk result Z
if_both (Ok b) P Q Z f p q = f b p q
if_both (Err e) P Q Z f p q = tt

pub turn_rank-requires : goal.turn_rank-requires
turn_rank-requires g c =
    let R = g.Q.Program.rules in
    let rs = c.args.all.now.items in
    let r = c.args.number in
    let w = c.requires.turns.on_bank in
    let n = c.index_mut.result.now in
    let low : r < length rs = omega (arith, c.requires.number, w.ranked.all) in
    let at : slice_get rs r ≡ Some n = slice_get_read rs (length rs) r n refl low c.index_mut.ensures.value in
    let has = w.ranked.each r n at in
    let few = epoch_few R g.met.Q.Program.laws c.requires.law c.args.bank.dims g.row.CAP c.args.bank.slots c.requires.turns.manner c.requires.turns.starts c.requires.turns.h rs (sent_of c.args.bank) (got_of c.args.bank) w c.requires.turns.rounds c.requires.turns.plan r n at in
    (search rules, (search rules, (c.requires.number, (few, (c.requires.turns.manner, c.requires.turns.h r, has)))))

pub returns-clause-only : goal.returns-clause-only
returns-clause-only g c = only_at c.args.all.now.items c.args.number c.turn_rank.new.rank

pub returns-clause-turned : goal.returns-clause-turned
returns-clause-turned g c =
    let R = g.Q.Program.rules in
    let rs = c.args.all.now.items in
    let r = c.args.number in
    let w = c.requires.turns.on_bank in
    let low : r < length rs = omega (arith, c.requires.number, w.ranked.all) in
    let x = c.index_mut.result.now in
    let x' = c.turn_rank.new.rank in
    let at : slice_get rs r ≡ Some x = slice_get_read rs (length rs) r x refl low c.index_mut.ensures.value in
    let at' : slice_get (slice_set rs r x') r ≡ Some x' = get_here rs r x' low in
    if_both c.turn_rank.result _ _ _ (λ b turned counted. record {
      only = only_at rs r x';
      turned = λ n n' was now.
          subst (λ (m : RankState g.row.Q.Denot). AfterRank R c.args.bank.dims g.row.CAP c.args.bank.slots r m n' (sent_of c.args.bank) (got_of c.args.bank) (sent_of b) (got_of b)) (get_once rs r x n at was)
          (subst (λ (m : RankState g.row.Q.Denot). AfterRank R c.args.bank.dims g.row.CAP c.args.bank.slots r x m (sent_of c.args.bank) (got_of c.args.bank) (sent_of b) (got_of b)) (get_once (slice_set rs r x') r x' n' at' now) turned);
      counted = λ n was. counted ∙ ap (λ (m : RankState g.row.Q.Denot). c.args.steps.now + turn_count m) (get_once rs r x n at was);
    }) c.turn_rank.ensures.turned c.turn_rank.ensures.steps
