-- The lists of queries by sender, and the replies to them.
use Rattle.std.proofs.Common.{◌≡◌, ℕ, zero, suc, ◌+◌, ◌<◌, ◌≤◌, ◌≢◌, ◌++◌, List, [], ◌∷◌, Some, map, length, get_or, slice_get, replicate, arith, refl, sym, ap, ◌∙◌, subst, inl, inr, add-one, append_assoc}
use Rattle.std.specs.List.{range_with_len}
use Rattle.std.proofs.lemmas.Bool.{cases_eq}
use Rattle.std.proofs.lemmas.List.{append-nil, get_or-replicate, length-replicate}
use Rattle.std.proofs.lemmas.List.FromFn.{length-map-range_with_len, get_or-map-range_with_len, fill_by_all}
use Rattle.bale_items.specs.declared.Item.{Item}
use Rattle.list_laws.proofs.Lists.{get_once, within, get_here, get_other, set_len, same_reads}
use Rattle.round_program.specs.Canonical.{items_of}
use Rattle.round_program.proofs.Items.{items_push, items_here, items_other}
use Rattle.app_histo_ig.specs.Igs.{ig_reply_to, ig_replies_from, noted_query}
use Rattle.app_histo_ig.proofs.IgRounds.{noted_all, by_sender}
use Rattle.sparse_rows.proofs.Starts.{made_at}

-- one more query
noted_one : (n : ℕ) (before : List (ℕ × Item)) (e : ℕ × Item) → noted_query (by_sender n before) e.0 e.1 ≡ by_sender n (before ++ e ∷ [])
noted_one n before e =
    let old : List (List Item) = by_sender n before in
    let list : List Item = get_or old e.0 [] ++ e.1 ∷ [] in
    let size : length (noted_query old e.0 e.1) ≡ n = set_len old e.0 list ∙ length-map-range_with_len (λ f. items_of f before) 0 n in
    same_reads (noted_query old e.0 e.1) (by_sender n (before ++ e ∷ [])) (size ∙ sym (length-map-range_with_len (λ f. items_of f (before ++ e ∷ [])) 0 n)) (λ i x at.
    let low : i < n = subst (λ k. i < k) size (within (noted_query old e.0 e.1) i x at) in
    let there : slice_get old i ≡ Some (items_of i before) = made_at (λ f. items_of f before) n i low in
    made_at (λ f. items_of f (before ++ e ∷ [])) n i low
    ∙ (elim (cases_eq i e.0) [
      | inl same ↦
          let inside : e.0 < length old = subst (λ k. k < length old) same (within old i (items_of i before) there) in
          let here : slice_get (noted_query old e.0 e.1) i ≡ Some list = ap (slice_get (noted_query old e.0 e.1)) same ∙ get_here old e.0 list inside in
          let was : get_or old e.0 [] ≡ items_of e.0 before = get_or-map-range_with_len (λ f. items_of f before) 0 n e.0 e.0 [] (subst (λ k. k < n) same low) (omega arith) in
          ap Some (ap (λ k. items_of k (before ++ e ∷ [])) same ∙ items_push e.0 before (e ∷ []) ∙ ap (λ xs. items_of e.0 before ++ xs) (items_here e [])
          ∙ ap (λ xs. xs ++ e.1 ∷ []) (sym was) ∙ get_once (noted_query old e.0 e.1) i list x here at)
      | inr other ↦
          let here : slice_get (noted_query old e.0 e.1) i ≡ Some (items_of i before) = get_other old e.0 i list other ∙ there in
          ap Some (items_push i before (e ∷ []) ∙ ap (λ xs. items_of i before ++ xs) (items_other i e [] (λ q. other (sym q))) ∙ append-nil (items_of i before)
          ∙ get_once (noted_query old e.0 e.1) i (items_of i before) x here at)
    ]))

noted_more : (n : ℕ) (before came : List (ℕ × Item)) → noted_all (by_sender n before) came ≡ by_sender n (before ++ came)
noted_more n before [] = ap (by_sender n) (sym (append-nil before))
noted_more n before (e ∷ es) =
    ap (λ qs. noted_all qs es) (noted_one n before e) ∙ noted_more n (before ++ e ∷ []) es ∙ ap (by_sender n) (append_assoc before (e ∷ []) es)

-- from empty lists, the items of each sender
pub noted_from_none : (n : ℕ) (came : List (ℕ × Item)) → noted_all (replicate n []) came ≡ by_sender n came
noted_from_none n came =
    ap (λ qs. noted_all qs came)
    (fill_by_all (λ f. items_of f []) (replicate n []) n [] (length-replicate n []) (λ k l. get_or-replicate n k [] [] l))
    ∙ noted_more n [] came

-- replies to one sender's queries all go to it
replies_mine : (ranks f : ℕ) (sums : List ℕ) (q : List Item) → items_of f (map (ig_reply_to ranks sums f) q) ≡ map (λ x. (ig_reply_to ranks sums f x).1) q
replies_mine ranks f sums [] = refl
replies_mine ranks f sums (x ∷ xs) = items_here (ig_reply_to ranks sums f x) (map (ig_reply_to ranks sums f) xs) ∙ ap (λ ys. (ig_reply_to ranks sums f x).1 ∷ ys) (replies_mine ranks f sums xs)

replies_others : (ranks f r : ℕ) (sums : List ℕ) (q : List Item) → f ≢ r → items_of r (map (ig_reply_to ranks sums f) q) ≡ []
replies_others ranks f r sums [] d = refl
replies_others ranks f r sums (x ∷ xs) d = items_other r (ig_reply_to ranks sums f x) (map (ig_reply_to ranks sums f) xs) d ∙ replies_others ranks f r sums xs d

none_before : (ranks r : ℕ) (sums : List ℕ) (q : ℕ → List Item) (k n : ℕ) → r < k → items_of r (ig_replies_from ranks sums k (map q (range_with_len k n))) ≡ []
none_before ranks r sums q k zero low = refl
none_before ranks r sums q k (suc n) low =
    let rest : List (List Item) = map q (range_with_len (k + 1) n) in
    items_push r (map (ig_reply_to ranks sums k) (q k)) (ig_replies_from ranks sums (suc k) rest)
    ∙ ap (λ ys. ys ++ items_of r (ig_replies_from ranks sums (suc k) rest)) (replies_others ranks k r sums (q k) (λ e. absurd (omega arith)))
    ∙ ap (λ j. items_of r (ig_replies_from ranks sums j rest)) (sym (add-one k))
    ∙ none_before ranks r sums q (k + 1) n (omega arith)

-- the replies to a rank are those to its queries
pub replies_to : (ranks r : ℕ) (sums : List ℕ) (q : ℕ → List Item) (k n : ℕ) → k ≤ r → r < k + n
    → items_of r (ig_replies_from ranks sums k (map q (range_with_len k n))) ≡ map (λ x. (ig_reply_to ranks sums r x).1) (q r)
replies_to ranks r sums q k zero low high = absurd (omega arith)
replies_to ranks r sums q k (suc n) low high =
    let rest : List (List Item) = map q (range_with_len (k + 1) n) in
    items_push r (map (ig_reply_to ranks sums k) (q k)) (ig_replies_from ranks sums (suc k) rest)
    ∙ (elim (cases_eq k r) [
      | inl same ↦
          ap (λ ys. items_of r (map (ig_reply_to ranks sums k) (q k)) ++ ys) (ap (λ j. items_of r (ig_replies_from ranks sums j rest)) (sym (add-one k)) ∙ none_before ranks r sums q (k + 1) n (omega arith))
          ∙ append-nil (items_of r (map (ig_reply_to ranks sums k) (q k)))
          ∙ ap (λ j. items_of r (map (ig_reply_to ranks sums j) (q j))) same
          ∙ replies_mine ranks r sums (q r)
      | inr other ↦
          ap (λ ys. ys ++ items_of r (ig_replies_from ranks sums (suc k) rest)) (replies_others ranks k r sums (q k) other)
          ∙ ap (λ j. items_of r (ig_replies_from ranks sums j rest)) (sym (add-one k))
          ∙ replies_to ranks r sums q (k + 1) n (omega arith) (omega arith)
    ])
