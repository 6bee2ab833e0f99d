-- Triples as they came to several maps, behind each other, have the cells of all maps together.
use Rattle.std.proofs.Common.{ℕ, ◌+◌, ◌<◌, ◌≡◌, List, [], ◌∷◌, ◌++◌, length, get_or, map, take, sym, ap, ◌∙◌}
use Rattle.std.specs.List.{flat_map}
use Rattle.std.proofs.lemmas.List.{append-nil, take_more, map-append}
use Rattle.std.proofs.lemmas.List.Concat.{flat_map-append}
use Rattle.std.proofs.lemmas.List.Sums.{fold-append}
use Rattle.bale_items.specs.declared.triple.Triple.{Triple}
use Rattle.mtx_text.specs.Cells.{gathered_cells, raised_all, together, with_value_raised}
use Rattle.mtx_text.proofs.Gathered.{gathered_alike, gathered_append}

abbrev cells_of : List (List Triple) → List Triple
cells_of maps = flat_map (λ cells. cells) maps

one_more : {X : Type 0} → (f : X → List Triple) (xs : List X) (x : X) → flat_map f (xs ++ x ∷ []) ≡ flat_map f xs ++ f x
one_more f xs x = flat_map-append f xs (x ∷ []) ∙ ap (λ l. flat_map f xs ++ l) (append-nil (f x))

-- one map more, of which `list` came
pub maps_more : {X Y : Type 0} → (f : X → List Triple) (g : Y → List Triple) (maps : List X) (k : ℕ) (m : X) (lists more : List Y) (list : Y) → k < length maps
    → m ≡ get_or maps k m → more ≡ lists ++ list ∷ [] → gathered_cells (g list) ≡ f m
    → gathered_cells (flat_map g lists) ≡ together (map f (take k maps)) → gathered_cells (flat_map g more) ≡ together (map f (take (k + 1) maps))
maps_more {X} {Y} f g maps k m lists more list l e p h so_far =
    let before : List (List Triple) = map f (take k maps) in
    let right : map f (take (k + 1) maps) ≡ before ++ f m ∷ [] =
    ap (map f) (take_more maps k m l ∙ ap (λ x. take k maps ++ x ∷ []) (sym e)) ∙ map-append f (take k maps) (m ∷ []) in
    ap gathered_cells (ap (flat_map g) p ∙ one_more g lists list) ∙ sym (gathered_append (flat_map g lists) (g list))
    ∙ ap (λ l. gathered_cells (flat_map g lists ++ l)) h ∙ gathered_alike (flat_map g lists) (cells_of before) (f m) so_far
    ∙ sym (ap together right ∙ ap gathered_cells (one_more (λ cells. cells) before (f m)))

-- the cells of one map more are raised
pub together_push : {X : Type 0} → (f : X → List Triple) (maps more : List X) (m : X) → more ≡ maps ++ m ∷ []
    → together (map f more) ≡ raised_all (together (map f maps)) (f m)
together_push f maps more m e =
    ap (λ l. together (map f l)) e ∙ ap together (map-append f maps (m ∷ [])) ∙ ap gathered_cells (one_more (λ cells. cells) (map f maps) (f m))
    ∙ fold-append (λ cells t. with_value_raised t cells) [] (cells_of (map f maps)) (f m)
