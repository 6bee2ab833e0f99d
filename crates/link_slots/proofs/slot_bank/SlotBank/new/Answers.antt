use Rattle.std.proofs.Common.{arith, rules, ◌≡◌, ◌+◌, ◌*◌, ℕ, List, replicate, ap, subst, sym, refl, ◌∙◌, length, false, None}
use Rattle.std.proofs.lemmas.Grind.{common_steps}
use Rattle.item_buffer.specs.Contents.{blank}
use Rattle.route_tensor.specs.Grid.{ranks}
use Rattle.route_tensor.specs.Link.{links}
use Rattle.std.specs.List.{All}
use Rattle.link_slots.specs.Gathering.{HasNew}
use Rattle.link_slots.specs.Shape.{Shape, IsShape}
use Rattle.link_slots.specs.Seat.{IsWiredUp}
use Rattle.std.proofs.lemmas.List.{length-replicate}
use Rattle.link_slots.proofs.Making.{is_shape, opens_lawful, first_gathering, none_given}
use Rattle.link_slots.proofs.slot_bank.SlotBank.new.Goals as goal

pub table_of-requires : goal.table_of-requires
table_of-requires g c =
    let dims : List ℕ = c.args.grid.now in
    let shape : Shape = record { dims = dims; slots = c.args.slots } in
    let is : IsShape shape = is_shape dims c.args.slots c.links-links.ensures.grid c.requires.slots in
    let l = c.links-links.ensures.value in let r = c.ranks-ranks.ensures.value in let h = c.hops.ensures.value in
    let items : c.in_ok-words.words.items ≡ replicate (16 * (2 * c.links-links.result + c.ranks-ranks.result * c.hops.result)) 0 = first_of (search rules, grind (arith, common_steps)) in
    let zeros : c.as_slice.result.now ≡ replicate (16 * (2 * links dims + ranks dims * length dims)) 0 =
    c.as_slice.ensures.value ∙ items ∙ (λ k. replicate (16 * (2 * l k + r k * h k)) 0) in
    let blanks : c.in_ok-places.places.items ≡ replicate (c.args.slots * links dims) (blank 0) = c.in_ok-places.ensures ∙ (λ k. replicate (c.args.slots * l k) (blank 0)) in
    (omega arith, (omega arith, opens_lawful g.row.CAP shape c.as_slice.result.now c.in_ok-places.places.items is zeros blanks))

pub invariant_of-bank : goal.invariant_of-bank
invariant_of-bank g c =
    let dims : List ℕ = c.args.grid.now in
    let shape : Shape = record { dims = dims; slots = c.args.slots } in
    let l = c.links-links.ensures.value in let r = c.ranks-ranks.ensures.value in let h = c.hops.ensures.value in
    let items : c.in_ok-words.words.items ≡ replicate (16 * (2 * c.links-links.result + c.ranks-ranks.result * c.hops.result)) 0 = first_of (search rules, grind (arith, common_steps)) in
    let words : length c.as_slice.result.now ≡ 16 * (2 * links dims + ranks dims * length dims) =
    ap length c.as_slice.ensures.value ∙ ap length items ∙ length-replicate (16 * (2 * c.links-links.result + c.ranks-ranks.result * c.hops.result)) 0 ∙ (λ k. 16 * (2 * l k + r k * h k)) in
    let slots : length c.in_ok-places.places.items ≡ c.args.slots * links dims = ap length c.in_ok-places.ensures ∙ length-replicate (c.args.slots * c.links-links.result) (blank 0) ∙ ap (λ n. c.args.slots * n) l in
    subst (λ (s : Shape). IsWiredUp g.row.CAP s c.in_ok-board.board.shared.table_id c.args.slots dims c.in_ok-wires.wires.items) (sym c.in_ok-board.ensures.key) (record {
      is_cap = c.requires.cap;
      board = record { shape = is_shape dims c.args.slots c.links-links.ensures.grid c.requires.slots; words = c.in_ok-board.ensures.words ∙ words; slots = c.in_ok-board.ensures.slots ∙ slots };
      slots_is = refl;
      grid_is = refl;
      many = c.in_ok-wires.ensures.many;
      each = λ l d h. c.in_ok-wires.ensures.each l d (omega (arith, h, c.in_ok-wires.ensures.many));
    })

pub invariant_of-result : goal.invariant_of-result
invariant_of-result g c =
    let dims : List ℕ = c.args.grid.now in
    let shape : Shape = record { dims = dims; slots = c.args.slots } in
    first_gathering shape c.in_ok-board.place.me c.in_ok-ends.ends.items c.in_ok-ended.ended.items (is_shape dims c.args.slots c.links-links.ensures.grid c.requires.slots) c.in_ok-board.ensures.seat
    (c.in_ok-ends.ensures.many ∙ c.ranks-ranks.ensures.value)
    (subst (λ (n : ℕ). All (HasNew n) c.in_ok-ends.ends.items) c.links-links.ensures.value c.in_ok-ends.ensures.new)
    (c.in_ok-ended.ensures ∙ ap (λ (n : ℕ). replicate n None) c.ranks-ranks.ensures.value)

pub returns-clause-gather : goal.returns-clause-gather
returns-clause-gather g c =
    let seat = c.in_ok-board.ensures.seat in
    let given = none_given c.links-links.result c.in_ok-ends.ends.items c.in_ok-ends.ensures.new ∙ ap (λ (n : ℕ). replicate n false) (c.in_ok-ends.ensures.many ∙ c.ranks-ranks.ensures.value) in
    λ k. record { id = c.in_ok-board.ensures.table k; shape = (seat k).0.shape; lists = (seat k).0.lists; given = given k }
