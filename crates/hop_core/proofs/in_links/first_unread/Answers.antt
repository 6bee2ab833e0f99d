use Rattle.std.proofs.Common.{◌≡◌, ◌<◌, ◌≤◌, ◌+◌, ℕ, ◌∙◌, true, length, get_or, sym, ap, arith, inl, inr}
use Rattle.std.proofs.lemmas.Bool.{cases_eq}
use Rattle.std.proofs.lemmas.List.{get_or_default}
use Rattle.hop_core.specs.Link.{In, no_in, is_empty}
use Rattle.hop_core.proofs.in_links.first_unread.Goals as goal

pub returns : goal.returns
returns g c =
    let within : c.args.from < length c.args.links.now = omega (arith, c.if-from-links.false) in
    let here : is_empty (get_or c.args.links.now c.args.from no_in).parcel ≡ true =
    ap (λ (x : In). is_empty x.parcel) (sym (c.index-links-from.is ∙ get_or_default c.args.links.now c.args.from c.index-links-from.result no_in within)) ∙ sym c.is_empty.ensures ∙ c.if-not-is_empty.false in
    let after = c.search_unread.ensures in
    let also : (i : ℕ) → c.args.from ≤ i → (c.args.from + 1 ≤ i → is_empty (get_or c.args.links.now i no_in).parcel ≡ true) → is_empty (get_or c.args.links.now i no_in).parcel ≡ true =
    λ i a later. elim (cases_eq i c.args.from) as (λ _. is_empty (get_or c.args.links.now i no_in).parcel ≡ true) [
      | inl same ↦ ap (λ j. is_empty (get_or c.args.links.now j no_in).parcel) same ∙ here
      | inr ne ↦ later (omega (arith, a, ne))
    ] in
    record {
      from_here = λ r e. (let f = after.from_here r e in omega arith);
      within = after.within;
      some = after.some;
      below = λ r e i a b. also i a (λ n. after.below r e i n b);
      none = λ e i a b. also i a (λ n. after.none e i n b);
    }
