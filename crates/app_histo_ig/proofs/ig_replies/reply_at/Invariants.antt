use Rattle.std.proofs.Common.{◌≡◌, ◌<◌, length, map, slice_get}
use Rattle.app_histo_ig.proofs.IgReplies.{from_list}
use Rattle.app_histo_ig.proofs.ig_replies.reply_at.Given as goal

abbrev pub invariant-loop-from : goal.invariant-loop-from
invariant-loop-from l = record {
  here : slice_get (from_list l.ranks l.sums (map (λ q. q.items) l.queries) l.from) l.left ≡ slice_get (from_list l.ranks l.sums (map (λ q. q.items) l.queries) 0) l.i;
  within : l.left < length (from_list l.ranks l.sums (map (λ q. q.items) l.queries) l.from);
}
