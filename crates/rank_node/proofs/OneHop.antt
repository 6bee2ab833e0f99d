-- On one hop all that a link brings is of the neighbour that sends on it.
use Rattle.std.proofs.Common.{◌≡◌, ℕ, ◌-◌, List, [], ◌∷◌, length, refl, sym, ap, ◌∙◌}
use Rattle.bale_items.specs.declared.item.Item.{Item}
use Rattle.bale_items.specs.declared.item.Entry.{Entry}
use Rattle.route_tensor.specs.Grid.{place}
use Rattle.route_tensor.specs.Neighbour.{neighbour}
use Rattle.route_tensor.specs.Tag.{tag_rank}
use Rattle.route_tensor.specs.Routes.{Site}
use Rattle.route_tensor.proofs.Places.{place-zero}
use Rattle.rank_node.specs.Batches.{from_link, from_sender}

pub of_neighbour : (site : Site) (number sender : ℕ) (es : List Entry) → length site.dims ≡ 1 → sender ≡ neighbour site.dims site.rank number → from_sender sender es ≡ from_link site number es
of_neighbour site number sender [] one is = refl
of_neighbour site number sender (e ∷ es) one is =
    let a = neighbour site.dims site.rank number in
    let t = tag_rank site.dims e.tag in
    let same : sender ≡ place site.dims a t (length site.dims - 1) = is ∙ sym (ap (λ k. place site.dims a t (k - 1)) one ∙ place-zero site.dims a t) in
    ap (λ s. (s, e.item) ∷ from_sender sender es) same ∙ ap (λ (xs : List (ℕ × Item)). (place site.dims a t (length site.dims - 1), e.item) ∷ xs) (of_neighbour site number sender es one is)
