-- What a step of the code leaves, where a rank asks.
use Rattle.std.proofs.Common.{ℕ, suc, min, lit<, ◌%◌, ◌≤◌, All, replicate, arith, ◌+◌, ◌-◌, ◌^◌, ◌<◌, ◌≡◌, ◌==◌, ◌++◌, ◌∷◌, [], Bool, true, false, cond, List, Some, map, length, slice_get, slice_set, sym, ap, ◌∙◌, subst}
use Rattle.std.proofs.lemmas.Bool.{eq-eqb}
use Rattle.std.proofs.lemmas.Bool.Decides.{nat_tests}
use Rattle.std.proofs.lemmas.List.{length-replicate}
use Rattle.std.proofs.lemmas.List.Elements.{All-nil, All-cons, All-replicate}
use Rattle.bale_items.specs.declared.Item.{Item}
use Rattle.list_laws.proofs.Lists.{map_changed, map_unchanged, all_head, all_tail}
use Rattle.round_program.specs.Laws.{Fits}
use Rattle.round_examples.specs.Asks.{AskState, IsAsk, IsAskQuery, ask_rules, is_asked, noted_ask, answered_number, query, asks_from, ask_replies_from}
use Rattle.round_examples.specs.laws.AskLaws.{ask_laws}

-- one list of many grew by an item, or none did
pub note_is : {X : Type 0} (f : X → List Item) (xs : List X) (i : ℕ) (x y : X) (item : Item) (b : Bool) → slice_get xs i ≡ Some x → f y ≡ cond b (f x ++ item ∷ []) (f x) → map f (slice_set xs i y) ≡ cond b (noted_ask (map f xs) i item) (map f xs)
note_is f xs i x y item true e h = map_changed f xs i x y [] (λ q. q ++ item ∷ []) e h
note_is f xs i x y item false e h = map_unchanged f xs i x y e h

-- either way the state is one that the program can be in
pub note_valid : (s : AskState) (from : ℕ) (x : Item) (b : Bool) (queries : List (List Item)) → IsAsk s → Fits ask_rules s from x → s.round ≡ 0 → queries ≡ cond b (noted_ask s.queries from x) s.queries → IsAsk (record s { queries = queries })
note_valid s from x true queries v e z h =
    let kept : IsAsk (ask_rules.absorbed s from x) = (ask_laws.keeps s from x v e).valid in
    let first : IsAsk (record s { queries = noted_ask s.queries from x }) = subst (λ w. IsAsk (record s { queries = cond w (noted_ask s.queries from x) s.queries; answers = cond w s.answers (answered_number s.answers x) })) (eq-eqb s.round 0 z) kept in
    subst (λ q. IsAsk (record s { queries = q })) (sym h) first
note_valid s from x false queries v e z h = subst (λ q. IsAsk (record s { queries = q })) (sym h) v

-- the state after a round, from its two fields that change
pub ended_valid : (s : AskState) (round : ℕ) (table : List ℕ) (queries : List (List Item)) (outgoing : List (ℕ × Item)) → IsAsk s → round ≡ min (s.round + 1) (2 ^ 64 - 1) → table ≡ s.table → queries ≡ s.queries → outgoing ≡ cond (s.round == 0) (ask_replies_from table 0 queries) [] → IsAsk (record s { round = round; outgoing = outgoing })
ended_valid s round table queries outgoing v e t q h =
    let next : IsAsk (ask_rules.ended s 0) = (ask_laws.next s 0 v (lit< tt)).valid in
    let sent : outgoing ≡ cond (s.round == 0) (ask_replies_from s.table 0 s.queries) [] =
    h ∙ (ap (λ w. cond (s.round == 0) (ask_replies_from w 0 queries) []) t ∙ ap (λ w. cond (s.round == 0) (ask_replies_from s.table 0 w) []) q) in
    subst (λ r. IsAsk (record s { round = r; outgoing = outgoing })) (sym e) (subst (λ o. IsAsk (record s { round = min (s.round + 1) (2 ^ 64 - 1); outgoing = o })) (sym sent) next)

-- the queries for columns fit in round 0
query_fits : (columns ranks rank e j : ℕ) → rank < ranks → columns < 2 ^ 32 → e < 2 ^ 64 → j < columns → is_asked (columns ∷ []) ranks 0 (j % ranks) rank (query ranks e j).1 ≡ true
query_fits columns ranks rank e j own wide low named = grind (arith, nat_tests)

asks_fit : (columns ranks rank e : ℕ) (names : List ℕ) → rank < ranks → columns < 2 ^ 32 → e + length names ≤ 2 ^ 64 → All (λ j. j < columns) names → All (λ w. is_asked (columns ∷ []) ranks 0 w.0 rank w.1 ≡ true) (asks_from ranks e names)
asks_fit columns ranks rank e [] own wide low named = All-nil (λ w. is_asked (columns ∷ []) ranks 0 w.0 rank w.1 ≡ true)
asks_fit columns ranks rank e (j ∷ js) own wide low named =
    All-cons (λ w. is_asked (columns ∷ []) ranks 0 w.0 rank w.1 ≡ true) (query ranks e j) (asks_from ranks (suc e) js)
    (query_fits columns ranks rank e j own wide (omega arith) (all_head (λ k. k < columns) j js named))
    (asks_fit columns ranks rank (suc e) js own wide (omega arith) (all_tail (λ k. k < columns) j js named))

-- a rank before its first round, from its fields
pub asking_valid : (rank ranks : ℕ) (table names answers : List ℕ) (queries : List (List Item)) (outgoing : List (ℕ × Item)) → rank < ranks → length table < 2 ^ 32 → All (λ v. v < 2 ^ 64) table → length names < 2 ^ 64 → All (λ j. j < length table) names → queries ≡ replicate ranks [] → outgoing ≡ asks_from ranks 0 names → IsAsk (record { rank = rank; ranks = ranks; round = 0; table = table; queries = queries; outgoing = outgoing; answers = answers })
asking_valid rank ranks table names answers queries outgoing own wide values low named q o =
    record {
      own = own;
      values = values;
      columns = wide;
      senders = ap length q ∙ length-replicate ranks [];
      asked = subst (All (All (IsAskQuery (length table)))) (sym q) (All-replicate (All (IsAskQuery (length table))) ranks [] (All-nil (IsAskQuery (length table))));
      fit = subst (All (λ w. is_asked (length table ∷ []) ranks 0 w.0 rank w.1 ≡ true)) (sym o) (asks_fit (length table) ranks rank 0 names own wide (omega arith) named);
    }
