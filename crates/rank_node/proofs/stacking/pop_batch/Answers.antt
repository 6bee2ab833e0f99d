use Rattle.std.proofs.Common.{◌≡◌, ◌<◌, ◌∙◌, ℕ, List, length, sym, ap, arith}
use Rattle.std.proofs.lemmas.List.{length-map}
use Rattle.std.proofs.lemmas.List.Quantifiers.{position-Some}
use Rattle.bale_items.specs.declared.item.Entry.{Entry}
use Rattle.bale_items.specs.declared.item.Item.{Item}
use Rattle.exstack.specs.Links.{no_stack_in, has_unread}
use Rattle.exstack.specs.State.{Stack, stack_in_at, pops}
use Rattle.exstack.specs.Parts.{PopGivesNext}
use Rattle.rank_node.specs.Batches.{from_sender}
use Rattle.rank_node.proofs.Chains.{mapped_at}
use Rattle.rank_node.proofs.Popped.{pops_batch, batch_some}
use Rattle.rank_node.proofs.stacking.pop_batch.Goals as goal

pub returns-clause-pops : goal.returns-clause-pops
returns-clause-pops g c =
    let st : Stack = c.args.exstack.now in
    let entries : List Entry = c.batch.result.now in
    let pair : Entry → ℕ × Item = λ e. (c.args.sender, e.item) in
    let low : c.args.sender < st.ranks = omega (arith, (position-Some has_unread st.ins c.args.sender no_stack_in c.requires.lowest).0, c.known.ensures.standing.all_ins) in
    let same : length entries ≡ length (stack_in_at st c.args.sender).unread = ap length c.batch.ensures.value in
    let size : length (from_sender c.args.sender entries) ≡ length (stack_in_at st c.args.sender).unread = length-map entries pair ∙ same in
    let all = pops_batch g.Q.Program.rules g.met.Q.Program.laws c.args.voting st c.pop_all.new.self (length (stack_in_at st c.args.sender).unread) c.args.prog.now.value c.take_each-taken.new.prog.value
    (from_sender c.args.sender entries) c.args.taken.sum c.take_each-taken.result.sum c.args.taken.spoiled c.take_each-taken.result.spoiled (sym size) c.pop_all.ensures.state
    (omega (arith, batch_some st c.args.sender c.requires.lowest, size))
    (λ i p. mapped_at pair (λ q. (q.0 < st.ranks) × PopGivesNext (pops i st) q.0 q.1) entries i p (λ e at. (low, c.batch.ensures.gives i e at))) c.take_each-taken.ensures in
    all.0

pub returns-clause-less : goal.returns-clause-less
returns-clause-less g c =
    let st : Stack = c.args.exstack.now in
    let entries : List Entry = c.batch.result.now in
    let pair : Entry → ℕ × Item = λ e. (c.args.sender, e.item) in
    let low : c.args.sender < st.ranks = omega (arith, (position-Some has_unread st.ins c.args.sender no_stack_in c.requires.lowest).0, c.known.ensures.standing.all_ins) in
    let same : length entries ≡ length (stack_in_at st c.args.sender).unread = ap length c.batch.ensures.value in
    let size : length (from_sender c.args.sender entries) ≡ length (stack_in_at st c.args.sender).unread = length-map entries pair ∙ same in
    let all = pops_batch g.Q.Program.rules g.met.Q.Program.laws c.args.voting st c.pop_all.new.self (length (stack_in_at st c.args.sender).unread) c.args.prog.now.value c.take_each-taken.new.prog.value
    (from_sender c.args.sender entries) c.args.taken.sum c.take_each-taken.result.sum c.args.taken.spoiled c.take_each-taken.result.spoiled (sym size) c.pop_all.ensures.state
    (omega (arith, batch_some st c.args.sender c.requires.lowest, size))
    (λ i p. mapped_at pair (λ q. (q.0 < st.ranks) × PopGivesNext (pops i st) q.0 q.1) entries i p (λ e at. (low, c.batch.ensures.gives i e at))) c.take_each-taken.ensures in
    all.1
