use Rattle.std.proofs.Common.{rules, arith, ◌≡◌, ◌∷◌, ◌+◌, ◌%◌, ◌^◌, ℕ, List, refl, sym, ap, subst, ◌∙◌}
use mathlib.Core.Option.{none}
use Rattle.atomic_table.specs.Table.{Me, Allows, step, rest}
use Rattle.item_buffer.specs.Contents.{Contents}
use Rattle.link_slots.specs.Logs.{in_of}
use Rattle.link_slots.specs.View.{own_logs}
use Rattle.link_slots.specs.Wiring.{slot_of, released_word}
use Rattle.link_slots.specs.Shape.{Shape, wiring}
use Rattle.link_slots.specs.WordSteps.{TableView, IsLawful, HoldsSeat, released, release_told}
use Rattle.link_slots.proofs.HeldSeats.{manned_with}
use Rattle.link_slots.proofs.Tells as tells
use Rattle.link_slots.proofs.table.steps.receive.Goals as goal

-- the empty parcel in the slot in front, and what was there
filled : (shape : Shape) (m m1 m2 : Me Contents TableView) (k slot : ℕ) (b p : Contents) (c : List (ℕ × Contents)) → k ≡ slot → m1 ≡ (m.0, (slot, b) ∷ c) → m2 ≡ (m1.0, (k, p) ∷ rest m1.1) → m2 ≡ (m.0, (slot, p) ∷ c)
filled shape m m1 m2 k slot b p c e f h = h ∙ ap (λ (z : Me Contents TableView). (z.0, (k, p) ∷ rest z.1)) f ∙ ap (λ (z : ℕ). (m.0, (z, p) ∷ c)) e

pub fetch_add-requires : goal.fetch_add-requires
fetch_add-requires g c =
    let b = c.requires.at.board in let key : Shape = c.args.top.now.key in let m : Me Contents TableView = c.args.place.now.me in
    let f = c.bring_parcel.ensures.front in
    let there = filled key m c.bring_parcel.new.place.me c.swap.new.place.me c.args.slot (slot_of (wiring key) c.args.link (in_of (own_logs m.0) c.args.link).taken) f.0 c.args.parcel.now f.1 c.requires.slot f.3 c.swap.ensures.swapped.0 in (
      c.swap.ensures.table ∙ c.bring_parcel.ensures.stays.table ∙ c.requires.at.here,
      (let e = b.words in let h = c.requires.at.below in omega arith),
      subst (λ (z : Me Contents TableView). Allows (IsLawful g.row.CAP key) c.args.top.now.table_id.slots c.swap.new.place.id z (released_word c.args.link) (λ n. (n + 1) % 2 ^ 64) (release_told g.row.CAP (step c.args.top.now.table_id.slots (released_word c.args.link) 1 0 none) z)) (sym there)
          (tells.release g.row.CAP key b.shape c.args.top.now.table_id.slots b.slots c.swap.new.place.id c.args.link m.0 f.1 c.args.parcel.now f.0 (subst (HoldsSeat key) f.3 c.bring_parcel.ensures.stays.seat) c.requires.at.below c.requires.at.own c.requires.known c.requires.empty),
    )

pub returns-clause-stays : goal.returns-clause-stays
returns-clause-stays g c = record {
  table = search rules;
  seat =
      let key : Shape = c.args.top.now.key in let m : Me Contents TableView = c.args.place.now.me in let m3 : Me Contents TableView = c.fetch_add.new.seat.me in
      let f = c.bring_parcel.ensures.front in
      let there = filled key m c.bring_parcel.new.place.me c.swap.new.place.me c.args.slot (slot_of (wiring key) c.args.link (in_of (own_logs m.0) c.args.link).taken) f.0 c.args.parcel.now f.1 c.requires.slot f.3 c.swap.ensures.swapped.0 in
      let t = subst (λ (z : Me Contents TableView). released g.row.CAP z.0.shape c.args.link z m3) there (c.fetch_add.ensures.2 c.args.link refl) in
      let u = subst (λ (z : Shape). released g.row.CAP z c.args.link (m.0, (slot_of (wiring key) c.args.link (in_of (own_logs m.0) c.args.link).taken, c.args.parcel.now) ∷ f.1) m3) c.requires.at.manned.of t in
      manned_with key m m3 c.requires.at.manned _ (ap (λ (z : Me Contents TableView). z.0) u.0) u.1;
}
