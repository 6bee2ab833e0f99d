use Rattle.std.proofs.Common.{◌<◌, ◌/◌, [], pos, All, length, sym, ap, ◌∙◌, subst, get_or, take, arith}
use Rattle.std.proofs.lemmas.List.{length-map}
use Rattle.std.proofs.lemmas.List.Elements.{All-replicate}
use Rattle.least_walks.specs.declared.table.Span.{Span}
use Rattle.least_walks.specs.code.Spans.{in_span, lists_of, IsSpanWithin}
use Rattle.least_walks.proofs.Rows.{table_none, table_more, table_len}
use Rattle.least_walks.proofs.Spans.{none_of}
use Rattle.least_walks.proofs.table.Table.of.Goals as goal

pub loop-t-init : goal.loop-t-init
loop-t-init c =
    let nothing : Span = record { from = 0; to = 0 } in
    let edges = c.in_ok-edges.edges.items in
    let made = c.in_ok-spans.ensures in
    record {
      lists = ap (λ es. lists_of es c.in_ok-spans.spans.items) c.in_ok-edges.ensures.items ∙ ap (λ ss. lists_of [] ss) made ∙ none_of c.args.places
          ∙ sym (table_none c.args.ranks c.args.places c.args.low c.args.high);
      within = subst (λ ss. All (IsSpanWithin edges) ss) (sym made) (All-replicate (IsSpanWithin edges) c.args.places nothing ((omega arith), (omega arith)));
    }

pub keep-requires-clause-inside : goal.keep-requires-clause-inside
keep-requires-clause-inside c =
    subst (λ n. (get_or c.args.entries.now c.loop-t.t-index (record { i = 0; j = 0; v = pos 0 })).i / c.args.ranks < n)
    (sym (sym (length-map c.loop-t.spans.items (in_span c.loop-t.edges.items)) ∙ ap length c.loop-t.invariant.lists ∙ table_len c.args.ranks c.args.places c.args.low c.args.high (take c.loop-t.t-index c.args.entries.now)))
    (c.requires.inside c.loop-t.t-index (record { i = 0; j = 0; v = pos 0 }) c.loop-t-test.true)

pub loop-t-preserved : goal.loop-t-preserved
loop-t-preserved c = record {
  lists = table_more c.args.ranks c.args.places c.args.low c.args.high c.args.entries.now c.loop-t.t-index (record { i = 0; j = 0; v = pos 0 }) _ _
      c.loop-t-test.true c.loop-t.invariant.lists c.in_ok-keep.ensures.kept;
  within = c.in_ok-keep.ensures.within;
}
