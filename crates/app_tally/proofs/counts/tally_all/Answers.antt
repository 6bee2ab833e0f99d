use Rattle.std.proofs.Common.{◌≡◌, All, map, is_lt, sym, ap, subst, ◌∙◌}
use Rattle.std.specs.List.Sorted.{IsSortedBy}
use Rattle.std.proofs.lemmas.List.Sorted.{All-permutation}
use Rattle.list_laws.proofs.Results.{if_ok_is, if_ok_from}
use Rattle.app_tally.specs.Counts.{by_bytes, Entry, times, tally_of}
use Rattle.app_tally.specs.Numbers.{front_number}
use Rattle.app_tally.specs.code.CountView.{counted_lines, IsLineEntry}
use Rattle.app_tally.proofs.Tallied.{same_tally}
use Rattle.app_tally.proofs.Multisets.{times_sorted, counted_sorted}
use Rattle.app_tally.proofs.Fronts.{sorted_by_front}
use Rattle.app_tally.proofs.TallyRounds.{sorted_map}
use Rattle.app_tally.proofs.counts.tally_all.Goals as goal

pub count_sorted-requires-clause-order : goal.count_sorted-requires-clause-order
count_sorted-requires-clause-order c =
    subst (λ xs. IsSortedBy (λ (e : Entry) (f : Entry). is_lt (by_bytes e.0 f.0)) (map (λ l. (l.1.now, l.2)) xs)) (sym c.as_slice.ensures.value)
    (sorted_map (λ l. (l.1.now, l.2)) c.sort_unstable.new.self.items
    (sorted_by_front (λ l. l.0) (λ l. (l.1.now, l.2)) c.sort_unstable.new.self.items
    (All-permutation (λ l. l.0 ≡ front_number 16 l.1.now) c.sort_unstable_by_key.new.self.items c.sort_unstable.new.self.items c.sort_unstable.ensures.permutation
    (All-permutation (λ l. l.0 ≡ front_number 16 l.1.now) c.args.lines.items c.sort_unstable_by_key.new.self.items c.sort_unstable_by_key.ensures.permutation c.requires.numbers))
    (counted_sorted (λ l. (l.1.now, l.2)) c.sort_unstable_by_key.new.self.items c.sort_unstable.new.self.items c.sort_unstable.ensures.permutation
    (counted_sorted (λ l. (l.1.now, l.2)) c.args.lines.items c.sort_unstable_by_key.new.self.items c.sort_unstable_by_key.ensures.permutation c.requires.counted))
    c.sort_unstable.ensures.sorted))

pub count_sorted-requires-clause-counted : goal.count_sorted-requires-clause-counted
count_sorted-requires-clause-counted c =
    subst (λ xs. All IsLineEntry (map (λ l. (l.1.now, l.2)) xs)) (sym c.as_slice.ensures.value)
    (counted_sorted (λ l. (l.1.now, l.2)) c.sort_unstable_by_key.new.self.items c.sort_unstable.new.self.items c.sort_unstable.ensures.permutation
    (counted_sorted (λ l. (l.1.now, l.2)) c.args.lines.items c.sort_unstable_by_key.new.self.items c.sort_unstable_by_key.ensures.permutation c.requires.counted))

pub returns : goal.returns
returns c =
    if_ok_from (λ a. a ≡ tally_of (counted_lines (map (λ l. (l.1.now, l.2)) c.args.lines.items))) c.count_sorted.result
    (λ a e. if_ok_is (λ a. a ≡ tally_of (counted_lines (map (λ l. (l.1.now, l.2)) c.as_slice.result.now))) c.count_sorted.result a e c.count_sorted.ensures
    ∙ same_tally (counted_lines (map (λ l. (l.1.now, l.2)) c.as_slice.result.now)) (counted_lines (map (λ l. (l.1.now, l.2)) c.args.lines.items))
    (λ q. ap (λ xs. times q (counted_lines (map (λ l. (l.1.now, l.2)) xs))) c.as_slice.ensures.value ∙ times_sorted (λ l. (l.1.now, l.2)) c.sort_unstable_by_key.new.self.items c.sort_unstable.new.self.items q c.sort_unstable.ensures.permutation
    ∙ times_sorted (λ l. (l.1.now, l.2)) c.args.lines.items c.sort_unstable_by_key.new.self.items q c.sort_unstable_by_key.ensures.permutation))
