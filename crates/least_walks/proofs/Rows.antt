-- The table after one more entry.
use Rattle.std.proofs.Common.{ℕ, ◌+◌, ◌/◌, ◌<◌, ◌≡◌, Bool, true, false, cond, eqb, ◌&&◌, List, [], ◌∷◌, ◌++◌, Some, length, map, get_or, slice_get, take, arith, inl, inr, refl, sym, ap, ◌∙◌, subst, replicate}
use Rattle.std.specs.List.{filter, range_with_len}
use Rattle.std.proofs.lemmas.Bool.{cases_Bool, cases_eq, eq-eqb, ne_eqb}
use Rattle.std.proofs.lemmas.List.{append-nil, map-append, take_more, length-replicate, get_or-replicate}
use Rattle.std.proofs.lemmas.List.Elements.{filter-append}
use Rattle.std.proofs.lemmas.List.FromFn.{length-map-range_with_len, get_or-map-range_with_len, fill_by_all}
use Rattle.std.proofs.lemmas.Option.{get_or_from_slice_get}
use Rattle.bale_items.specs.declared.triple.Triple.{Triple}
use Rattle.list_laws.specs.Lists.{changed_at}
use Rattle.list_laws.proofs.Lists.{find, within, get_once, get_here, get_other, set_len, same_reads}
use Rattle.least_walks.specs.declared.table.Edge.{Edge}
use Rattle.least_walks.specs.Tables.{edge_of, in_range, is_kept, edges_at, table_of, table_with_edge}

-- each place of a list that is made from the places
pub made_place : {S : Type 0} (f : ℕ → S) (n p : ℕ) → p < n → slice_get (map f (range_with_len 0 n)) p ≡ Some (f p)
made_place {S} f n p low =
    let ss : List S = map f (range_with_len 0 n) in
    let size : length ss ≡ n = length-map-range_with_len f 0 n in
    let s : (s : S) × (slice_get ss p ≡ Some s) = find ss p (subst (λ n. p < n) (sym size) low) in
    let is : s.0 ≡ f p = sym (get_or_from_slice_get ss p s.0 s.0 s.1) ∙ get_or-map-range_with_len f 0 n p p s.0 low (omega arith) in
    s.1 ∙ ap Some is

-- the edges of a place after one more entry
edges_push : (ranks low high : ℕ) (ts : List Triple) (t : Triple) (p : ℕ)
    → edges_at ranks low high (ts ++ t ∷ []) p ≡ edges_at ranks low high ts p ++ cond (is_kept ranks low high p t) (edge_of ranks t ∷ []) []
edges_push ranks low high ts t p =
    ap (map (edge_of ranks)) (filter-append (is_kept ranks low high p) ts (t ∷ []))
    ∙ map-append (edge_of ranks) (filter (is_kept ranks low high p) ts) (filter (is_kept ranks low high p) (t ∷ []))
    ∙ ap (λ es. edges_at ranks low high ts p ++ es) (one (is_kept ranks low high p t))
  where
    one : (b : Bool) → map (edge_of ranks) (cond b (t ∷ []) []) ≡ cond b (edge_of ranks t ∷ []) []
    one true = refl
    one false = refl

never : (b : Bool) → (b && false) ≡ false
never true = refl
never false = refl

always : (b : Bool) → (b && true) ≡ b
always true = refl
always false = refl

-- one place after one more entry
kept_at : (ranks places low high : ℕ) (ts : List Triple) (t : Triple) (p : ℕ) → p < places
    → slice_get (table_with_edge ranks low high t (table_of ranks places low high ts)) p ≡ Some (edges_at ranks low high ts p ++ cond (is_kept ranks low high p t) (edge_of ranks t ∷ []) [])
kept_at ranks places low high ts t p low_p =
    let rows : List (List Edge) = table_of ranks places low high ts in
    let there : slice_get rows p ≡ Some (edges_at ranks low high ts p) = made_place (edges_at ranks low high ts) places p low_p in
    elim (cases_Bool (in_range low high t)) [
      | inr out ↦
          ap (λ b. slice_get (cond b (changed_at rows (t.i / ranks) [] (λ es. es ++ edge_of ranks t ∷ [])) rows) p) out
          ∙ there
          ∙ ap Some (sym (append-nil (edges_at ranks low high ts p)))
          ∙ ap (λ b. Some (edges_at ranks low high ts p ++ cond b (edge_of ranks t ∷ []) [])) (sym (ap (λ b. eqb (t.i / ranks) p && b) out ∙ never (eqb (t.i / ranks) p)))
      | inl in_it ↦
          ap (λ b. slice_get (cond b (changed_at rows (t.i / ranks) [] (λ es. es ++ edge_of ranks t ∷ [])) rows) p) in_it
          ∙ (elim (cases_eq (t.i / ranks) p) [
            | inl here ↦
                let inside : p < length rows = subst (λ n. p < n) (sym (length-map-range_with_len (edges_at ranks low high ts) 0 places)) low_p in
                ap (λ k. slice_get (changed_at rows k [] (λ es. es ++ edge_of ranks t ∷ [])) p) here
                ∙ get_here rows p (get_or rows p [] ++ edge_of ranks t ∷ []) inside
                ∙ ap (λ es. Some (es ++ edge_of ranks t ∷ [])) (get_or_from_slice_get rows p (edges_at ranks low high ts p) [] there)
                ∙ ap (λ b. Some (edges_at ranks low high ts p ++ cond b (edge_of ranks t ∷ []) [])) (sym (ap (λ b. eqb (t.i / ranks) p && b) in_it ∙ always (eqb (t.i / ranks) p) ∙ eq-eqb (t.i / ranks) p here))
            | inr other ↦
                get_other rows (t.i / ranks) p (get_or rows (t.i / ranks) [] ++ edge_of ranks t ∷ []) (λ e. other (sym e))
                ∙ there
                ∙ ap Some (sym (append-nil (edges_at ranks low high ts p)))
                ∙ ap (λ b. Some (edges_at ranks low high ts p ++ cond b (edge_of ranks t ∷ []) [])) (sym (ap (λ b. eqb (t.i / ranks) p && b) in_it ∙ always (eqb (t.i / ranks) p) ∙ ne_eqb (t.i / ranks) p other))
          ])
    ]

kept_len : (ranks low high : ℕ) (t : Triple) (rows : List (List Edge)) → length (table_with_edge ranks low high t rows) ≡ length rows
kept_len ranks low high t rows = either (in_range low high t)
  where
    either : (b : Bool) → length (cond b (changed_at rows (t.i / ranks) [] (λ es. es ++ edge_of ranks t ∷ [])) rows) ≡ length rows
    either true = set_len rows (t.i / ranks) (get_or rows (t.i / ranks) [] ++ edge_of ranks t ∷ [])
    either false = refl

pub table_one : (ranks places low high : ℕ) (ts : List Triple) (t : Triple)
    → table_with_edge ranks low high t (table_of ranks places low high ts) ≡ table_of ranks places low high (ts ++ t ∷ [])
table_one ranks places low high ts t =
    let old : List (List Edge) = table_of ranks places low high ts in
    let size : length (table_with_edge ranks low high t old) ≡ places = kept_len ranks low high t old ∙ length-map-range_with_len (edges_at ranks low high ts) 0 places in
    same_reads (table_with_edge ranks low high t old) (table_of ranks places low high (ts ++ t ∷ [])) (size ∙ sym (length-map-range_with_len (edges_at ranks low high (ts ++ t ∷ [])) 0 places)) (λ p x at.
    let low_p : p < places = subst (λ n. p < n) size (within (table_with_edge ranks low high t old) p x at) in
    made_place (edges_at ranks low high (ts ++ t ∷ [])) places p low_p
    ∙ ap Some (edges_push ranks low high ts t p)
    ∙ ap Some (get_once (table_with_edge ranks low high t old) p _ x (kept_at ranks places low high ts t p low_p) at))

pub table_more : (ranks places low high : ℕ) (ts : List Triple) (k : ℕ) (d : Triple) (old new : List (List Edge)) → k < length ts
    → old ≡ table_of ranks places low high (take k ts) → new ≡ table_with_edge ranks low high (get_or ts k d) old → new ≡ table_of ranks places low high (take (k + 1) ts)
table_more ranks places low high ts k d old new inside so_far one =
    one ∙ ap (table_with_edge ranks low high (get_or ts k d)) so_far ∙ table_one ranks places low high (take k ts) (get_or ts k d)
    ∙ ap (table_of ranks places low high) (sym (take_more ts k d inside))

pub table_none : (ranks places low high : ℕ) → table_of ranks places low high [] ≡ replicate places []
table_none ranks places low high =
    sym (fill_by_all (λ p. edges_at ranks low high [] p) (replicate places []) places [] (length-replicate places []) (λ k l. get_or-replicate places k [] [] l))

pub table_len : (ranks places low high : ℕ) (ts : List Triple) → length (table_of ranks places low high ts) ≡ places
table_len ranks places low high ts = length-map-range_with_len (edges_at ranks low high ts) 0 places
