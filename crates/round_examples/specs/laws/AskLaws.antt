-- The laws of asking.
use Rattle.std.proofs.Common.{ℕ, suc, ◌+◌, ◌-◌, ◌^◌, ◌<◌, ◌≤◌, ◌≡◌, ◌≢◌, ◌==◌, min, max, Bool, true, false, List, []}
use Rattle.std.proofs.Common.{if◌then◌else◌}
use Rattle.std.proofs.Common.{◌∷◌, ◌++◌, map, length, get_or, All, arith, refl, sym, ap, ◌∙◌, subst, inl, inr}
use Rattle.std.proofs.Common.{lit<}
use Rattle.std.proofs.lemmas.Bool.{cases_eq, eq-eqb, ne_eqb, cases_Bool}
use Rattle.std.proofs.lemmas.Bool.Decides.{nat_tests}
use Rattle.std.proofs.lemmas.List.Elements.{All-nil, All-map, All-append, All-push}
use Rattle.bale_items.specs.declared.Item.{Item}
use Rattle.list_laws.proofs.Lists.{changed_comm, changed_len, changed_all, all_head, all_tail}
use Rattle.round_program.specs.Laws.{Laws, Fits, SameRound, NextRound, IsItem}
use Rattle.round_examples.specs.Asks.{AskState, IsAsk, IsAskQuery, ask_rules, is_asked, noted_ask, answered_number, ask_replies_from}
use Rattle.round_examples.specs.Asks.{ask_reply_to}

asked_within : (shape : List ℕ) (ranks round to from : ℕ) (x : Item) → is_asked shape ranks round to from x ≡ true
    → (to < ranks) × (from < ranks) × IsItem x
asked_within [] ranks round to from x h = absurd (cc)
asked_within (columns ∷ []) ranks round to from x h =
    (grind (arith, nat_tests), grind (arith, nat_tests), grind (arith, nat_tests))
asked_within (columns ∷ (c ∷ cs)) ranks round to from x h = absurd (cc)

-- in round 0 what comes is a query
is_query : (columns ranks round to from : ℕ) (x : Item) → is_asked (columns ∷ []) ranks round to from x ≡ true
    → round ≡ 0 → IsAskQuery columns x × (from < ranks)
is_query columns ranks round to from x h z = (grind (arith, nat_tests), grind (arith, nat_tests))

noted_comm : (queries : List (List Item)) (f g : ℕ) (x y : Item) → f ≢ g
    → noted_ask (noted_ask queries f x) g y ≡ noted_ask (noted_ask queries g y) f x
noted_comm queries f g x y d = changed_comm queries f g [] (λ q. q ++ x ∷ []) (λ q. q ++ y ∷ []) (λ e. absurd (d e))

answered_comm : (answers : List ℕ) (x y : Item) → answered_number (answered_number answers x) y ≡ answered_number (answered_number answers y) x
answered_comm answers x y = changed_comm answers x.a y.a 0 (λ v. max v x.b) (λ v. max v y.b) (λ e v. omega arith)

-- absorbing, in round 0 (b is true) and later
queries_comm : (b : Bool) (queries : List (List Item)) (f g : ℕ) (x y : Item) → f ≢ g
    → (if b then noted_ask (if b then noted_ask queries f x else queries) g y else if b then noted_ask queries f x else queries)
    ≡ (if b then noted_ask (if b then noted_ask queries g y else queries) f x else if b then noted_ask queries g y else queries)
queries_comm true queries f g x y d = noted_comm queries f g x y d
queries_comm false queries f g x y d = refl

answers_comm : (b : Bool) (answers : List ℕ) (x y : Item)
    → (if b then if b then answers else answered_number answers x else answered_number (if b then answers else answered_number answers x) y)
    ≡ (if b then if b then answers else answered_number answers y else answered_number (if b then answers else answered_number answers y) x)
answers_comm true answers x y = refl
answers_comm false answers x y = answered_comm answers x y

commutes : (s : AskState) (f g : ℕ) (x y : Item) → f ≢ g
    → ask_rules.absorbed (ask_rules.absorbed s f x) g y ≡ ask_rules.absorbed (ask_rules.absorbed s g y) f x
commutes s f g x y d =
    let q : (ask_rules.absorbed (ask_rules.absorbed s f x) g y).queries
    ≡ (ask_rules.absorbed (ask_rules.absorbed s g y) f x).queries =
    queries_comm (s.round == 0) s.queries f g x y d in
    let a : (ask_rules.absorbed (ask_rules.absorbed s f x) g y).answers
    ≡ (ask_rules.absorbed (ask_rules.absorbed s g y) f x).answers = answers_comm (s.round == 0) s.answers x y in
    ap (λ w. record s { queries = w; answers = (ask_rules.absorbed (ask_rules.absorbed s f x) g y).answers }) q
    ∙ ap (λ w. record s { queries = (ask_rules.absorbed (ask_rules.absorbed s g y) f x).queries; answers = w }) a

-- the lists of queries keep their number and hold queries
noted_len : (b : Bool) (queries : List (List Item)) (f : ℕ) (x : Item)
    → length (if b then noted_ask queries f x else queries) ≡ length queries
noted_len true queries f x = changed_len queries f [] (λ q. q ++ x ∷ [])
noted_len false queries f x = refl

noted_asked : (columns : ℕ) (queries : List (List Item)) (f : ℕ) (x : Item) → IsAskQuery columns x
    → All (All (IsAskQuery columns)) queries → All (All (IsAskQuery columns)) (noted_ask queries f x)
noted_asked columns queries f x q a =
    changed_all (All (IsAskQuery columns)) queries f [] (λ l. l ++ x ∷ []) (λ l h. All-push (IsAskQuery columns) l x h q) a

keeps : (s : AskState) (f : ℕ) (x : Item) → IsAsk s → Fits ask_rules s f x
    → SameRound ask_rules s (ask_rules.absorbed s f x)
keeps s f x v e =
    record {
      valid =
          record {
            own = v.own;
            values = v.values;
            columns = v.columns;
            senders = noted_len (s.round == 0) s.queries f x ∙ v.senders;
            asked =
                elim (cases_eq s.round 0) [
                  | inl z ↦ subst
                      (λ b. All (All (IsAskQuery (length s.table))) (if b then noted_ask s.queries f x else s.queries))
                      (sym (eq-eqb s.round 0 z))
                      (noted_asked (length s.table) s.queries f x
                      (is_query (length s.table) s.ranks s.round s.rank f x e z).0 v.asked)
                  | inr n ↦ subst
                      (λ b. All (All (IsAskQuery (length s.table))) (if b then noted_ask s.queries f x else s.queries))
                      (sym (ne_eqb s.round 0 n)) v.asked
                ];
            fit = v.fit;
          };
      rank = refl;
      ranks = refl;
      round = refl;
      shape = refl;
      most = refl;
      emissions = refl;
    }

-- replies fit in any round but the first
reply_fits : (s : AskState) (round f : ℕ) (x : Item) → IsAsk s → f < s.ranks → round ≢ 0 → IsAskQuery (length s.table) x
    → is_asked (length s.table ∷ []) s.ranks round f s.rank (ask_reply_to s.table f x).1 ≡ true
reply_fits s round f x v l n q =
    let value : get_or s.table x.a 0 < 2 ^ 64 = v.values x.a 0 q.0 in
    let own : s.rank < s.ranks = v.own in
    let number : x.b < 2 ^ 64 = q.1 in
    grind (arith, nat_tests)

replies_fit : (s : AskState) (round f : ℕ) (qs : List (List Item)) → IsAsk s → round ≢ 0 → f + length qs ≤ s.ranks
    → All (All (IsAskQuery (length s.table))) qs
    → All (λ e. is_asked (length s.table ∷ []) s.ranks round e.0 s.rank e.1 ≡ true) (ask_replies_from s.table f qs)
replies_fit s round f [] v n l a = All-nil (λ e. is_asked (length s.table ∷ []) s.ranks round e.0 s.rank e.1 ≡ true)
replies_fit s round f (q ∷ qs) v n l a =
    let here : All (IsAskQuery (length s.table)) q = all_head (All (IsAskQuery (length s.table))) q qs a in
    let low : f < s.ranks = omega arith in
    All-append (λ e. is_asked (length s.table ∷ []) s.ranks round e.0 s.rank e.1 ≡ true) (map (ask_reply_to s.table f) q)
    (ask_replies_from s.table (suc f) qs)
    (All-map (λ e. is_asked (length s.table ∷ []) s.ranks round e.0 s.rank e.1 ≡ true) (ask_reply_to s.table f) q
    (λ k d b. reply_fits s round f (get_or q k d) v low n (here k d b)))
    (replies_fit s round (suc f) qs v n (omega arith) (all_tail (All (IsAskQuery (length s.table))) q qs a))

next : (s : AskState) (votes : ℕ) → IsAsk s → NextRound ask_rules s (ask_rules.ended s votes)
next s votes v =
    let later : min (s.round + 1) (2 ^ 64 - 1) ≢ 0 = λ e. absurd (omega arith) in
    record {
      valid =
          record {
            own = v.own;
            values = v.values;
            columns = v.columns;
            senders = v.senders;
            asked = v.asked;
            fit =
                elim (cases_Bool (s.round == 0)) [
                  | inl z ↦ subst
                      (λ b. All
                      (λ e. is_asked (length s.table ∷ []) s.ranks (min (s.round + 1) (2 ^ 64 - 1)) e.0 s.rank e.1
                      ≡ true) (if b then ask_replies_from s.table 0 s.queries else [])) (sym z)
                      (replies_fit s (min (s.round + 1) (2 ^ 64 - 1)) 0 s.queries v later
                      (omega (arith, v.senders)) v.asked)
                  | inr n ↦ subst
                      (λ b. All
                      (λ e. is_asked (length s.table ∷ []) s.ranks (min (s.round + 1) (2 ^ 64 - 1)) e.0 s.rank e.1
                      ≡ true) (if b then ask_replies_from s.table 0 s.queries else [])) (sym n)
                      (All-nil (λ e. is_asked (length s.table ∷ []) s.ranks
                      (min (s.round + 1) (2 ^ 64 - 1)) e.0 s.rank e.1 ≡ true))
                ];
          };
      rank = refl;
      ranks = refl;
      round = refl;
      shape = refl;
      most = refl;
    }

pub ask_laws : Laws ask_rules
ask_laws =
    record {
      emits = λ s v. v.fit;
      commutes = λ s f g x y v d e h. commutes s f g x y d;
      keeps = λ s f x v e. keeps s f x v e;
      vote_below = λ s v. lit< tt;
      next = λ s votes v l. next s votes v;
      within = asked_within;
      most_below = λ s v. lit< tt;
    }
