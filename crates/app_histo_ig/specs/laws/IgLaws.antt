-- The laws of ig.
use Rattle.std.proofs.Common.{ℕ, suc, ◌+◌, ◌-◌, ◌/◌, ◌%◌, ◌^◌, ◌<◌, ◌≤◌, ◌≡◌, ◌≢◌, ◌==◌, min, max, Bool, true, false}
use Rattle.std.proofs.Common.{List, [], ◌∷◌, ◌++◌, map, length, get_or, All, arith, refl, sym, ap, ◌∙◌, subst}
use Rattle.std.proofs.Common.{inl, inr, lit<}
use Rattle.std.specs.Prelude.{nat_lt, if◌then◌else◌}
use Rattle.std.proofs.lemmas.Bool.{cases_eq, cases_lt, eq-eqb, ne_eqb}
use Rattle.std.proofs.lemmas.List.{get_or_past}
use Rattle.std.proofs.lemmas.Bool.Decides.{nat_tests}
use Rattle.std.proofs.lemmas.List.Elements.{All-nil, All-map, All-append, All-push}
use Rattle.bale_items.specs.declared.Item.{Item}
use Rattle.list_laws.proofs.Lists.{changed_comm, changed_len, changed_all, all_head, all_tail}
use Rattle.round_program.specs.Laws.{Laws, Fits, SameRound, IsItem}
use Rattle.app_histo_ig.specs.Owners.{with_sum_risen}
use Rattle.app_histo_ig.specs.laws.OwnerLaws.{risen_comm, risen_len}
use Rattle.app_histo_ig.specs.Igs.{IgState, IsIg, IsIgQuery, ig_rules, may_ig, noted_query, answered_entry, ig_replies_from, ig_reply_to}
use Rattle.app_histo_ig.specs.Igs.{to_ask, ig_next_outgoing}

ig_within : (shape : List ℕ) (ranks round to from : ℕ) (x : Item) → may_ig shape ranks round to from x ≡ true
    → (to < ranks) × (from < ranks) × IsItem x
ig_within [] ranks round to from x h = absurd (cc)
ig_within (cols ∷ []) ranks round to from x h =
    (grind (arith, nat_tests), grind (arith, nat_tests), grind (arith, nat_tests))
ig_within (cols ∷ (c ∷ cs)) ranks round to from x h = absurd (cc)

-- in rounds 0 and 1 what comes names a column
pub is_query : (cols ranks round to from : ℕ) (x : Item) → may_ig (cols ∷ []) ranks round to from x ≡ true → round ≤ 1
    → IsIgQuery cols x × (from < ranks)
is_query cols ranks round to from x h z = (grind (arith, nat_tests), grind (arith, nat_tests))

-- a step that is taken under a test commutes with another, if the steps do
both_ways : {X : Type 0} (b : Bool) (f g : X → X) (x : X) → f (g x) ≡ g (f x)
    → (if b then f (if b then g x else x) else if b then g x else x)
    ≡ (if b then g (if b then f x else x) else if b then f x else x)
both_ways true f g x e = e
both_ways false f g x e = refl

noted_comm : (queries : List (List Item)) (f g : ℕ) (x y : Item) → f ≢ g
    → noted_query (noted_query queries f x) g y ≡ noted_query (noted_query queries g y) f x
noted_comm queries f g x y d = changed_comm queries f g [] (λ q. q ++ x ∷ []) (λ q. q ++ y ∷ []) (λ e. absurd (d e))

answered_comm : (ranks : ℕ) (answers : List ℕ) (x y : Item)
    → answered_entry ranks (answered_entry ranks answers x) y ≡ answered_entry ranks (answered_entry ranks answers y) x
answered_comm ranks answers x y =
    changed_comm answers (x.a / ranks) (y.a / ranks) 0 (λ v. max v x.b) (λ v. max v y.b) (λ e v. omega arith)

commutes : (s : IgState) (f g : ℕ) (x y : Item) → f ≢ g
    → ig_rules.absorbed (ig_rules.absorbed s f x) g y ≡ ig_rules.absorbed (ig_rules.absorbed s g y) f x
commutes s f g x y d =
    let one : IgState = ig_rules.absorbed (ig_rules.absorbed s f x) g y in
    let two : IgState = ig_rules.absorbed (ig_rules.absorbed s g y) f x in
    let n : one.sums ≡ two.sums =
    both_ways (s.round == 0) (λ ns. with_sum_risen s.ranks ns y) (λ ns. with_sum_risen s.ranks ns x) s.sums
    (risen_comm s.ranks s.sums x y) in
    let q : one.queries ≡ two.queries =
    both_ways (s.round == 1) (λ qs. noted_query qs g y) (λ qs. noted_query qs f x) s.queries (noted_comm s.queries f g x y d) in
    let a : one.answers ≡ two.answers =
    both_ways (nat_lt 1 s.round) (λ ns. answered_entry s.ranks ns y) (λ ns. answered_entry s.ranks ns x) s.answers
    (answered_comm s.ranks s.answers x y) in
    ap (λ w. record s { sums = w; queries = one.queries; answers = one.answers }) n
    ∙ ap (λ w. record s { sums = two.sums; queries = w; answers = one.answers }) q
    ∙ ap (λ w. record s { sums = two.sums; queries = two.queries; answers = w }) a

-- lists keep their lengths, words stay words and queries queries
pub sums_len : (b : Bool) (ranks : ℕ) (sums : List ℕ) (x : Item)
    → length (if b then with_sum_risen ranks sums x else sums) ≡ length sums
sums_len true ranks sums x = risen_len ranks sums x
sums_len false ranks sums x = refl

pub sums_words : (b : Bool) (ranks : ℕ) (sums : List ℕ) (x : Item) → All (λ v. v < 2 ^ 64) sums
    → All (λ v. v < 2 ^ 64) (if b then with_sum_risen ranks sums x else sums)
sums_words true ranks sums x h =
    changed_all (λ v. v < 2 ^ 64) sums (x.a / ranks) 0 (λ v. (v + x.b) % 2 ^ 64) (λ v l. omega arith) h
sums_words false ranks sums x h = h

pub noted_len : (b : Bool) (queries : List (List Item)) (f : ℕ) (x : Item)
    → length (if b then noted_query queries f x else queries) ≡ length queries
noted_len true queries f x = changed_len queries f [] (λ q. q ++ x ∷ [])
noted_len false queries f x = refl

pub noted_asked : (cols : ℕ) (queries : List (List Item)) (f : ℕ) (x : Item) → IsIgQuery cols x
    → All (All (IsIgQuery cols)) queries → All (All (IsIgQuery cols)) (noted_query queries f x)
noted_asked cols queries f x q a =
    changed_all (All (IsIgQuery cols)) queries f [] (λ l. l ++ x ∷ []) (λ l h. All-push (IsIgQuery cols) l x h q) a

keeps : (s : IgState) (f : ℕ) (x : Item) → IsIg s → Fits ig_rules s f x → SameRound ig_rules s (ig_rules.absorbed s f x)
keeps s f x v e =
    record {
      valid =
          record {
            own_rank = v.own_rank;
            wide = v.wide;
            named = v.named;
            words = sums_words (s.round == 0) s.ranks s.sums x v.words;
            places = sums_len (s.round == 0) s.ranks s.sums x ∙ v.places;
            senders = noted_len (s.round == 1) s.queries f x ∙ v.senders;
            asked =
                elim (cases_eq s.round 1) [
                  | inl z ↦ subst (λ b. All (All (IsIgQuery s.cols)) (if b then noted_query s.queries f x else s.queries))
                      (sym (eq-eqb s.round 1 z))
                      (noted_asked s.cols s.queries f x
                      (is_query s.cols s.ranks s.round s.rank f x e (omega arith)).0 v.asked)
                  | inr n ↦ subst (λ b. All (All (IsIgQuery s.cols)) (if b then noted_query s.queries f x else s.queries))
                      (sym (ne_eqb s.round 1 n)) v.asked
                ];
            fit = v.fit;
          };
      rank = refl;
      ranks = refl;
      round = refl;
      shape = refl;
      most = refl;
      emissions = refl;
    }

-- queries fit in round 1
ask_fits : (s : IgState) (e : ℕ × ℕ) → IsIg s → (e.0 < 2 ^ 64) × (e.1 < s.cols)
    → may_ig (s.cols ∷ []) s.ranks 1 (e.1 % s.ranks) s.rank (to_ask s.ranks e).1 ≡ true
ask_fits s e v q =
    let own : s.rank < s.ranks = v.own_rank in
    let wide : s.cols < 2 ^ 32 = v.wide in
    let number : e.0 < 2 ^ 64 = q.0 in
    let column : e.1 < s.cols = q.1 in
    grind (arith, nat_tests)

-- and replies in round 2
reply_fits : (s : IgState) (f : ℕ) (x : Item) → IsIg s → f < s.ranks → IsIgQuery s.cols x
    → may_ig (s.cols ∷ []) s.ranks 2 f s.rank (ig_reply_to s.ranks s.sums f x).1 ≡ true
reply_fits s f x v l q =
    let value : get_or s.sums (x.a / s.ranks) 0 < 2 ^ 64 = word_at s.sums (x.a / s.ranks) v.words in
    let own : s.rank < s.ranks = v.own_rank in
    let number : x.b < 2 ^ 64 = q.1 in
    grind (arith, nat_tests)
  where
    word_at : (sums : List ℕ) (i : ℕ) → All (λ v. v < 2 ^ 64) sums → get_or sums i 0 < 2 ^ 64
    word_at sums i h = elim (cases_lt i (length sums)) [
      | inl low ↦ h i 0 low
      | inr past ↦ subst (λ n. n < 2 ^ 64) (sym (get_or_past sums i 0 past)) (lit< tt)
    ]

replies_fit : (s : IgState) (f : ℕ) (qs : List (List Item)) → IsIg s → f + length qs ≤ s.ranks
    → All (All (IsIgQuery s.cols)) qs
    → All (λ e. may_ig (s.cols ∷ []) s.ranks 2 e.0 s.rank e.1 ≡ true) (ig_replies_from s.ranks s.sums f qs)
replies_fit s f [] v l a = All-nil (λ e. may_ig (s.cols ∷ []) s.ranks 2 e.0 s.rank e.1 ≡ true)
replies_fit s f (q ∷ qs) v l a =
    let here : All (IsIgQuery s.cols) q = all_head (All (IsIgQuery s.cols)) q qs a in
    let low : f < s.ranks = omega arith in
    All-append (λ e. may_ig (s.cols ∷ []) s.ranks 2 e.0 s.rank e.1 ≡ true) (map (ig_reply_to s.ranks s.sums f) q)
    (ig_replies_from s.ranks s.sums (suc f) qs)
    (All-map (λ e. may_ig (s.cols ∷ []) s.ranks 2 e.0 s.rank e.1 ≡ true) (ig_reply_to s.ranks s.sums f) q
    (λ k d b. reply_fits s f (get_or q k d) v low (here k d b)))
    (replies_fit s (suc f) qs v (omega arith) (all_tail (All (IsIgQuery s.cols)) q qs a))

pub ig_next_fit : (s : IgState) → IsIg s
    → All (λ e. may_ig (s.cols ∷ []) s.ranks (min (s.round + 1) (2 ^ 64 - 1)) e.0 s.rank e.1 ≡ true) (ig_next_outgoing s)
ig_next_fit s v =
    elim (cases_eq s.round 0) [
      | inl z ↦
          let one : min (s.round + 1) (2 ^ 64 - 1) ≡ 1 = omega arith in
          subst (λ b. All (λ e. may_ig (s.cols ∷ []) s.ranks (min (s.round + 1) (2 ^ 64 - 1)) e.0 s.rank e.1 ≡ true)
          (if b then map (to_ask s.ranks) s.own else if s.round == 1 then ig_replies_from s.ranks s.sums 0 s.queries
          else []))
          (sym (eq-eqb s.round 0 z))
          (subst (λ n. All (λ e. may_ig (s.cols ∷ []) s.ranks n e.0 s.rank e.1 ≡ true) (map (to_ask s.ranks) s.own))
          (sym one)
          (All-map (λ e. may_ig (s.cols ∷ []) s.ranks 1 e.0 s.rank e.1 ≡ true) (to_ask s.ranks) s.own
          (λ k d l. ask_fits s (get_or s.own k d) v (v.named k d l))))
      | inr n ↦
          subst (λ b. All (λ e. may_ig (s.cols ∷ []) s.ranks (min (s.round + 1) (2 ^ 64 - 1)) e.0 s.rank e.1 ≡ true)
          (if b then map (to_ask s.ranks) s.own else if s.round == 1 then ig_replies_from s.ranks s.sums 0 s.queries
          else []))
          (sym (ne_eqb s.round 0 n))
          (elim (cases_eq s.round 1) [
            | inl z ↦
                let two : min (s.round + 1) (2 ^ 64 - 1) ≡ 2 = omega arith in
                subst (λ b. All
                (λ e. may_ig (s.cols ∷ []) s.ranks (min (s.round + 1) (2 ^ 64 - 1)) e.0 s.rank e.1 ≡ true)
                (if b then ig_replies_from s.ranks s.sums 0 s.queries else []))
                (sym (eq-eqb s.round 1 z))
                (subst (λ n. All (λ e. may_ig (s.cols ∷ []) s.ranks n e.0 s.rank e.1 ≡ true)
                (ig_replies_from s.ranks s.sums 0 s.queries)) (sym two)
                (replies_fit s 0 s.queries v (omega (arith, v.senders)) v.asked))
            | inr m ↦
                subst (λ b. All
                (λ e. may_ig (s.cols ∷ []) s.ranks (min (s.round + 1) (2 ^ 64 - 1)) e.0 s.rank e.1 ≡ true)
                (if b then ig_replies_from s.ranks s.sums 0 s.queries else []))
                (sym (ne_eqb s.round 1 m))
                (All-nil (λ e. may_ig (s.cols ∷ []) s.ranks (min (s.round + 1) (2 ^ 64 - 1)) e.0 s.rank e.1 ≡ true))
          ])
    ]

pub ig_laws : Laws ig_rules
ig_laws =
    record {
      emits = λ s v. v.fit;
      commutes = λ s f g x y v d e h. commutes s f g x y d;
      keeps = λ s f x v e. keeps s f x v e;
      vote_below = λ s v. lit< tt;
      next = λ s votes v l. record {
        valid = record {
          own_rank = v.own_rank;
          wide = v.wide;
          named = v.named;
          words = v.words;
          places = v.places;
          senders = v.senders;
          asked = v.asked;
          fit = ig_next_fit s v;
        };
        rank = refl;
        ranks = refl;
        round = refl;
        shape = refl;
        most = refl;
      };
      within = ig_within;
      most_below = λ s v. lit< tt;
    }
