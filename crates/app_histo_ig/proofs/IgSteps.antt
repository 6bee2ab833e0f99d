-- What a step of the code leaves, where a rank is one of ig.
use Rattle.std.proofs.Common.{ℕ, min, lit<, ◌/◌, ◌+◌, ◌-◌, ◌^◌, ◌<◌, ◌≡◌, ◌==◌, ◌++◌, ◌∷◌, [], Bool, true, false, cond, All, List, Some, map, length, get_or, slice_get, slice_set, arith, sym, ap, ◌∙◌, subst}
use Rattle.bale_items.specs.declared.Item.{Item}
use Rattle.list_laws.proofs.Lists.{map_changed, map_unchanged}
use Rattle.round_program.specs.Laws.{Fits}
use Rattle.app_histo_ig.specs.Owners.{with_sum_risen}
use Rattle.app_histo_ig.specs.Igs.{IgState, IsIg, IsIgQuery, ig_rules, noted_query, ig_next_outgoing, to_ask, ig_replies_from}
use Rattle.app_histo_ig.specs.code.IgSent.{number_and_column, ig_items_sent}
use Rattle.app_histo_ig.specs.declared.ig_sent.Own.{Own}
use Rattle.app_histo_ig.specs.laws.IgLaws.{ig_laws, is_query, noted_asked, noted_len, sums_len, sums_words}
use Rattle.sparse_rows.proofs.Places.{place_below}
use Rattle.app_histo_ig.proofs.IgSent.{sent_next}

-- one list of many grew by an item, or none did
pub note_is : {X : Type 0} (f : X → List Item) (xs : List X) (i : ℕ) (x y : X) (item : Item) (b : Bool) → slice_get xs i ≡ Some x → f y ≡ cond b (f x ++ item ∷ []) (f x) → map f (slice_set xs i y) ≡ cond b (noted_query (map f xs) i item) (map f xs)
note_is f xs i x y item true e h = map_changed f xs i x y [] (λ q. q ++ item ∷ []) e h
note_is f xs i x y item false e h = map_unchanged f xs i x y e h

-- either way the state is one that the program can be in
pub note_valid : (s : IgState) (from : ℕ) (x : Item) (b : Bool) (queries : List (List Item)) → IsIg s → Fits ig_rules s from x → s.round ≡ 1 → queries ≡ cond b (noted_query s.queries from x) s.queries → IsIg (record s { queries = queries })
note_valid s from x true queries v e z h =
    record {
      own_rank = v.own_rank;
      wide = v.wide;
      named = v.named;
      words = v.words;
      places = v.places;
      senders = ap length h ∙ noted_len true s.queries from x ∙ v.senders;
      asked = subst (All (All (IsIgQuery s.cols))) (sym h) (noted_asked s.cols s.queries from x (is_query s.cols s.ranks s.round s.rank from x e (omega arith)).0 v.asked);
      fit = v.fit;
    }
note_valid s from x false queries v e z h = subst (λ q. IsIg (record s { queries = q })) (sym h) v

pub rise_valid : (s : IgState) (x : Item) (sums : List ℕ) → IsIg s → sums ≡ with_sum_risen s.ranks s.sums x → IsIg (record s { sums = sums })
rise_valid s x sums v h =
    record {
      own_rank = v.own_rank;
      wide = v.wide;
      named = v.named;
      words = subst (All (λ w. w < 2 ^ 64)) (sym h) (sums_words true s.ranks s.sums x v.words);
      places = ap length h ∙ sums_len true s.ranks s.sums x ∙ v.places;
      senders = v.senders;
      asked = v.asked;
      fit = v.fit;
    }

-- the state after a round, from its two fields that change
pub ended_valid : (s : IgState) (round : ℕ) (outgoing : List (ℕ × Item)) → IsIg s → round ≡ min (s.round + 1) (2 ^ 64 - 1) → outgoing ≡ ig_next_outgoing s → IsIg (record s { round = round; outgoing = outgoing })
ended_valid s round outgoing v e h =
    let next : IsIg (ig_rules.ended s 0) = (ig_laws.next s 0 v (lit< tt)).valid in
    subst (λ r. IsIg (record s { round = r; outgoing = outgoing })) (sym e) (subst (λ o. IsIg (record s { round = min (s.round + 1) (2 ^ 64 - 1); outgoing = o })) (sym h) next)

-- a query's column has a place
pub query_place : (s : IgState) (x : Item) → IsIg s → IsIgQuery s.cols x → (x.a < 2 ^ 32) × (x.a / s.ranks < length s.sums)
query_place s x v q =
    let own : s.rank < s.ranks = v.own_rank in
    let wide : s.cols < 2 ^ 32 = v.wide in
    let low : x.a < s.cols = q.0 in
    (omega arith, subst (λ n. x.a / s.ranks < n) (sym v.places) (place_below s.ranks s.cols x.a (omega arith) low))

pub queries_placed : (s : IgState) → IsIg s → All (All (λ x. (x.a < 2 ^ 32) × (x.a / s.ranks < length s.sums))) s.queries
queries_placed s v k d l i e b = query_place s (get_or (get_or s.queries k d) i e) v (v.asked k d l i e b)

-- what is sent after a round, from the fields that it is read from
sent_is : (s : IgState) (round : ℕ) (own : List Own) → round ≡ min (s.round + 1) (2 ^ 64 - 1) → map number_and_column own ≡ s.own
    → ig_items_sent round s.ranks own (ig_replies_from s.ranks s.sums 0 s.queries) ≡ ig_next_outgoing s
sent_is s round own e o =
    sent_next s.round round s.ranks own (ig_replies_from s.ranks s.sums 0 s.queries) e
    ∙ ap (λ w. cond (s.round == 0) (map (to_ask s.ranks) w) (cond (s.round == 1) (ig_replies_from s.ranks s.sums 0 s.queries) [])) o

pub ended_from : (s : IgState) (round : ℕ) (own : List Own) → IsIg s → round ≡ min (s.round + 1) (2 ^ 64 - 1) → map number_and_column own ≡ s.own
    → IsIg (record s { round = round; outgoing = ig_items_sent round s.ranks own (ig_replies_from s.ranks s.sums 0 s.queries) })
ended_from s round own v e o = ended_valid s round (ig_items_sent round s.ranks own (ig_replies_from s.ranks s.sums 0 s.queries)) v e (sent_is s round own e o)

pub ended_is : (s : IgState) (votes round : ℕ) (own : List Own) → round ≡ min (s.round + 1) (2 ^ 64 - 1) → map number_and_column own ≡ s.own
    → record s { round = round; outgoing = ig_items_sent round s.ranks own (ig_replies_from s.ranks s.sums 0 s.queries) } ≡ ig_rules.ended s votes
ended_is s votes round own e o =
    ap (λ w. record s { round = w; outgoing = ig_items_sent round s.ranks own (ig_replies_from s.ranks s.sums 0 s.queries) }) e
    ∙ ap (λ w. record s { round = min (s.round + 1) (2 ^ 64 - 1); outgoing = w }) (sent_is s round own e o)
