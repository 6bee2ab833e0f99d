-- The replies theorem.
use Rattle.std.proofs.Common.{◌≡◌, ℕ, List, ap, ◌∙◌}
use Rattle.bale_items.specs.declared.item.Item.{Item}
use Rattle.port_bank.specs.Logs.{Logs}
use Rattle.list_laws.specs.Lists.{IsPrefix}
use Rattle.port_bank.proofs.Fronts.{begins_trans, begins_map}
use Rattle.port_bank.proofs.Pipeline.{Keeps, arrives_in_order, arrives_whole}
use Rattle.round_program.specs.Talks.{Talk}
use Rattle.round_program.specs.Replies.{carrying, queries_to, answers, replies_of}
use Rattle.query_node.specs.Banks.{IsLawfulBank, sent_to, got_from, RepliesBegin, RepliesEnd}

keeps : (dims : List ℕ) (sent got : Logs) → IsLawfulBank dims sent got → Keeps dims sent got
keeps dims sent got b = record { grid = b.grid; fronts = b.fronts; relays = b.relays }

pub answers_begin : {S : Type 0} (T : Talk S) (s : S) (from : ℕ) (xs ys : List Item) → IsPrefix xs ys → IsPrefix (answers T s from xs) (answers T s from ys)
answers_begin T s from xs ys b = begins_map (λ (x : Item). carrying (T.answer s from x.a)) xs ys b

pub replies_begin : {S : Type 0} (T : Talk S) → RepliesBegin T
replies_begin T dims all asking asked replying replied lawful lawful' own s d from to =
    let came : IsPrefix (got_from dims asked d s) (sent_to dims asking s d) = arrives_in_order dims asking asked (keeps dims asking asked lawful) s d 0 from to in
    let back : IsPrefix (got_from dims replied s d) (sent_to dims replying d s) = arrives_in_order dims replying replied (keeps dims replying replied lawful') d s 0 to from in
    begins_trans (got_from dims replied s d) (sent_to dims replying d s) (replies_of T all d s) back
    (begins_trans (sent_to dims replying d s) (answers T (all d) s (got_from dims asked d s)) (replies_of T all d s) ((own d to).replies s from)
    (answers_begin T (all d) s (got_from dims asked d s) (queries_to T (all s) d)
    (begins_trans (got_from dims asked d s) (sent_to dims asking s d) (queries_to T (all s) d) came ((own s from).queries d to))))

pub replies_end : {S : Type 0} (T : Talk S) → RepliesEnd T
replies_end T dims all asking asked replying replied lawful lawful' s d from to mine theirs ended ended' =
    let came : got_from dims asked d s ≡ sent_to dims asking s d = arrives_whole dims asking asked (keeps dims asking asked lawful) s d 0 from to ended in
    let back : got_from dims replied s d ≡ sent_to dims replying d s = arrives_whole dims replying replied (keeps dims replying replied lawful') d s 0 to from ended' in
    back ∙ (theirs.replies s from ∙ ap (answers T (all d) s) (came ∙ mine.queries d to))
