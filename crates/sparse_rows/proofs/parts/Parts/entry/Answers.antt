use Rattle.std.proofs.Common.{rules, ◌≡◌, ℕ, ◌+◌, ◌*◌, ◌<◌, List, [], Some, length, get_or, slice_get, subst, arith}
use Rattle.bale_items.specs.declared.triple.Triple.{Triple}
use Rattle.sparse_rows.specs.Parts.{parts_of}
use Rattle.sparse_rows.proofs.Turns.{parts_count, part_entry}
use Rattle.sparse_rows.proofs.parts.Parts.entry.Goals as goal

-- where the entry stands in the matrix
stands : (ranks : ℕ) (items : List Triple) (seen : List (List (ℕ × Triple))) (rank x : ℕ) → parts_of ranks items ≡ seen
    → rank < length seen → x < length (get_or seen rank [])
    → (x * ranks + rank < length items) × ((t : Triple) → t ≡ get_or items (x * ranks + rank) t → slice_get (get_or seen rank []) x ≡ Some (x * ranks + rank, t))
stands ranks items seen rank x e l w =
    subst (λ ps. rank < length ps → x < length (get_or ps rank [])
    → (x * ranks + rank < length items) × ((t : Triple) → t ≡ get_or items (x * ranks + rank) t → slice_get (get_or ps rank []) x ≡ Some (x * ranks + rank, t))) e
    (λ l w. part_entry ranks items rank x (subst (λ k. rank < k) (parts_count ranks items) l) w) l w

pub overflow_mul-e : goal.overflow_mul-e
overflow_mul-e c =
    let there = (stands _ _ _ c.args.rank c.args.x c.self.view_is c.requires.rank c.requires.within).0 in
    let few = c.self.invariant in omega arith

pub overflow_add-e : goal.overflow_add-e
overflow_add-e c =
    let there = (stands _ _ _ c.args.rank c.args.x c.self.view_is c.requires.rank c.requires.within).0 in
    let few = c.self.invariant in omega arith

pub overflow_cast-result : goal.overflow_cast-result
overflow_cast-result c =
    let there = (stands _ _ _ c.args.rank c.args.x c.self.view_is c.requires.rank c.requires.within).0 in
    let few = c.self.invariant in omega arith

pub bounds-self-inside-e : goal.bounds-self-inside-e
bounds-self-inside-e c =
    let there = (stands _ _ _ c.args.rank c.args.x c.self.view_is c.requires.rank c.requires.within).0 in omega arith

pub offset_bounds-self-inside-e : goal.offset_bounds-self-inside-e
offset_bounds-self-inside-e c =
    let there = (stands _ _ _ c.args.rank c.args.x c.self.view_is c.requires.rank c.requires.within).0 in
    let few = c.self.invariant in omega arith

pub returns : goal.returns
returns c = (stands _ _ _ c.args.rank c.args.x c.self.view_is c.requires.rank c.requires.within).1 _ (search rules)
