use Rattle.std.proofs.Common.{◌≡◌, ℕ, List, length, get_or, arith, sym, ap, ◌∙◌}
use Rattle.std.proofs.lemmas.Bool.{ne_eqb}
use Rattle.bale_items.specs.declared.item.Entry.{Entry}
use Rattle.route_tensor.specs.Tag.{sender_of}
use Rattle.rank_handles.proofs.Views.{no_entry, leading_alone, take_whole, front_more, front_ends, front_all}
use Rattle.rank_handles.proofs.view.of_sender.Goals as goal

pub returns-then-this-eq1-clause-value : goal.returns-then-this-eq1-clause-value
returns-then-this-eq1-clause-value g c =
    let dims : List ℕ = c.args.conveyor.now.dims in let es : List Entry = c.args.entries.now in
    let one : length dims ≡ 1 = omega (arith, c.requires.hops, c.if-this-eq1.true) in
    take_whole es ∙ sym (leading_alone dims c.args.near c.args.from es one (c.requires.alone one))

pub returns-then-sender_of-from-clause-value : goal.returns-then-sender_of-from-clause-value
returns-then-sender_of-from-clause-value g c =
    let dims : List ℕ = c.args.conveyor.now.dims in let es : List Entry = c.args.entries.now in let n : ℕ = c.loop-count.count in let tag = (get_or es n no_entry).tag in
    let is : c.sender_of.result ≡ sender_of dims tag (length dims) c.args.near = c.sender_of.ensures ∙ ap (λ (a : ℕ). sender_of dims tag (length dims) a) (sym c.requires.near) in
    front_ends dims c.args.near c.args.from n es no_entry c.loop-count-test.true (ne_eqb (sender_of dims tag (length dims) c.args.near) c.args.from (λ e. c.if-sender_of-from.true (is ∙ e))) c.loop-count.invariant.1

pub loop-count-preserved : goal.loop-count-preserved
loop-count-preserved g c =
    let dims : List ℕ = c.args.conveyor.now.dims in let es : List Entry = c.args.entries.now in let n : ℕ = c.loop-count.count in let tag = (get_or es n no_entry).tag in
    let is : c.sender_of.result ≡ sender_of dims tag (length dims) c.args.near = c.sender_of.ensures ∙ ap (λ (a : ℕ). sender_of dims tag (length dims) a) (sym c.requires.near) in
    (omega (arith, c.loop-count-test.true), front_more dims c.args.near c.args.from n es no_entry c.loop-count-test.true (sym is ∙ c.if-sender_of-from.false) c.loop-count.invariant.1)

pub returns-clause-value : goal.returns-clause-value
returns-clause-value g c = front_all c.args.conveyor.now.dims c.args.near c.args.from c.loop-count.count c.args.entries.now (omega (arith, c.loop-count-test.false)) c.loop-count.invariant.1
