-- What a batch makes of a list of a rank is what it makes of the rank.
use Rattle.std.proofs.Common.{ℕ, max, ◌%◌, ◌/◌, ◌^◌, ◌<◌, ◌≡◌, ◌≢◌, ◌==◌, Bool, true, false, List, [], ◌∷◌, cond, length, All, refl, sym, ap, ◌∙◌, subst, arith}
use Rattle.std.specs.Prelude.{nat_lt, ◌&&◌, ◌||◌}
use Rattle.std.specs.List.{fold}
use Rattle.std.proofs.lemmas.Bool.{ne_eqb}
use Rattle.std.proofs.lemmas.Bool.Decides.{nat_tests}
use Rattle.bale_items.specs.declared.Item.{Item}
use Rattle.list_laws.proofs.Lists.{changed_len}
use Rattle.round_program.specs.Rules.{Rules}
use Rattle.round_program.specs.Laws.{is_item}
use Rattle.round_program.specs.Batches.{taken_in, all_taken_in}
use Rattle.app_histo_ig.specs.declared.seat.Seat.{Seat}
use Rattle.app_histo_ig.specs.Owners.{with_sum_risen}
use Rattle.app_histo_ig.specs.Histos.{HistoState, IsHisto, histo_rules, may_count}
use Rattle.app_histo_ig.specs.Sums.{SumsState, IsSums, sums_rules}
use Rattle.app_histo_ig.specs.Igs.{IgState, IsIg, ig_rules, may_ig, noted_query, answered_entry}
use Rattle.app_histo_ig.specs.laws.IgLaws.{sums_len, sums_words}
use Rattle.app_histo_ig.specs.code.Batches.{own_risen, all_risen, own_noted, all_noted, own_answered, all_answered}

-- a batch of which each item changes one field alone
pub in_field : {S F : Type 0} (R : Rules S) (put : F → S) (step : F → ℕ → Item → F) → ((f : F) (from : ℕ) (x : Item) → taken_in R (put f) from x ≡ put (step f from x))
    → (f : F) (came : List (ℕ × Item)) → all_taken_in R (put f) came ≡ put (fold (λ g e. step g e.0 e.1) f came)
in_field R put step same f [] = refl
in_field R put step same f (e ∷ es) = ap (λ t. all_taken_in R t es) (same f e.0 e.1) ∙ in_field R put step same (step f e.0 e.1) es

-- a batch of which nothing fits
pub none_taken : {S : Type 0} (R : Rules S) (s : S) → ((from : ℕ) (x : Item) → taken_in R s from x ≡ s) → (came : List (ℕ × Item)) → all_taken_in R s came ≡ s
none_taken R s same [] = refl
none_taken R s same (e ∷ es) = ap (λ t. all_taken_in R t es) (same e.0 e.1) ∙ none_taken R s same es

-- a choice inside a field
inside : {X Y : Type 0} (put : X → Y) (b c : Bool) (x y : X) → b ≡ c → cond b (put x) (put y) ≡ put (cond c x y)
inside put true true x y e = refl
inside put false false x y e = refl
inside put true false x y e = absurd (cc)
inside put false true x y e = absurd (cc)

-- the seat of a rank
pub record Sits (seat : Seat) (rank ranks cols : ℕ) : Type 0 where
  pub own : seat.rank ≡ rank
  pub all : seat.ranks ≡ ranks
  pub wide : seat.cols ≡ cols

may_same : (seat : Seat) (rank ranks cols from : ℕ) (x : Item) → Sits seat rank ranks cols → may_count (cols ∷ []) ranks 0 rank from x ≡ may_count (seat.cols ∷ []) seat.ranks 0 seat.rank from x
may_same seat rank ranks cols from x at =
    ap (λ n. may_count (n ∷ []) ranks 0 rank from x) (sym at.wide)
    ∙ ap (λ n. may_count (seat.cols ∷ []) n 0 rank from x) (sym at.all)
    ∙ ap (λ n. may_count (seat.cols ∷ []) seat.ranks 0 n from x) (sym at.own)

-- histo's items come in round 0
pub counts_taken : (s : HistoState) (seat : Seat) (came : List (ℕ × Item)) → s.round ≡ 0 → Sits seat s.rank s.ranks s.cols → all_taken_in histo_rules s came ≡ record s { counts = all_risen seat s.counts came }
counts_taken s seat came z at = in_field histo_rules (λ l. record s { counts = l }) (own_risen seat) one s.counts came
  where
    one : (l : List ℕ) (from : ℕ) (x : Item) → taken_in histo_rules (record s { counts = l }) from x ≡ record s { counts = own_risen seat l from x }
    one l from x =
        inside (λ (m : List ℕ). record s { counts = m }) (may_count (s.cols ∷ []) s.ranks s.round s.rank from x) (may_count (seat.cols ∷ []) seat.ranks 0 seat.rank from x) (with_sum_risen s.ranks l x) l
        (ap (λ n. may_count (s.cols ∷ []) s.ranks n s.rank from x) z ∙ may_same seat s.rank s.ranks s.cols from x at)
        ∙ ap (λ k. record s { counts = cond (may_count (seat.cols ∷ []) seat.ranks 0 seat.rank from x) (with_sum_risen k l x) l }) (sym at.all)

pub no_counts : (s : HistoState) (came : List (ℕ × Item)) → s.round ≢ 0 → all_taken_in histo_rules s came ≡ s
no_counts s came n = none_taken histo_rules s (λ from x. late (s.round == 0) from x (ne_eqb s.round 0 n)) came
  where
    late : (b : Bool) (from : ℕ) (x : Item) → b ≡ false
        → cond (b && nat_lt from s.ranks && nat_lt x.a s.cols && x.a % s.ranks == s.rank && is_item x) (record s { counts = with_sum_risen s.ranks s.counts x }) s ≡ s
    late false from x e = refl
    late true from x e = absurd (cc)

-- so do the values of the sums alone
pub sums_taken : (s : SumsState) (seat : Seat) (came : List (ℕ × Item)) → s.round ≡ 0 → Sits seat s.rank s.ranks s.cols → all_taken_in sums_rules s came ≡ record s { sums = all_risen seat s.sums came }
sums_taken s seat came z at = in_field sums_rules (λ l. record s { sums = l }) (own_risen seat) one s.sums came
  where
    one : (l : List ℕ) (from : ℕ) (x : Item) → taken_in sums_rules (record s { sums = l }) from x ≡ record s { sums = own_risen seat l from x }
    one l from x =
        inside (λ (m : List ℕ). record s { sums = m }) (may_count (s.cols ∷ []) s.ranks s.round s.rank from x) (may_count (seat.cols ∷ []) seat.ranks 0 seat.rank from x) (with_sum_risen s.ranks l x) l
        (ap (λ n. may_count (s.cols ∷ []) s.ranks n s.rank from x) z ∙ may_same seat s.rank s.ranks s.cols from x at)
        ∙ ap (λ k. record s { sums = cond (may_count (seat.cols ∷ []) seat.ranks 0 seat.rank from x) (with_sum_risen k l x) l }) (sym at.all)

pub no_sums : (s : SumsState) (came : List (ℕ × Item)) → s.round ≢ 0 → all_taken_in sums_rules s came ≡ s
no_sums s came n = none_taken sums_rules s (λ from x. late (s.round == 0) from x (ne_eqb s.round 0 n)) came
  where
    late : (b : Bool) (from : ℕ) (x : Item) → b ≡ false
        → cond (b && nat_lt from s.ranks && nat_lt x.a s.cols && x.a % s.ranks == s.rank && is_item x) (record s { sums = with_sum_risen s.ranks s.sums x }) s ≡ s
    late false from x e = refl
    late true from x e = absurd (cc)

-- in rounds 0 and 1 of ig a rank is sent what is for its columns
tests : (a t c d i : Bool) → t ≡ true → (a && t && (false || (c && d)) && i) ≡ (true && a && c && d && i)
tests a false c d i e = absurd (cc)
tests false true c d i e = refl
tests true true false d i e = refl
tests true true true d i e = refl

may_early : (seat : Seat) (s : IgState) (n from : ℕ) (x : Item) → IsIg s → nat_lt 1 n ≡ false → Sits seat s.rank s.ranks s.cols
    → may_ig (s.cols ∷ []) s.ranks n s.rank from x ≡ may_count (seat.cols ∷ []) seat.ranks 0 seat.rank from x
may_early seat s n from x v early at =
    let own : nat_lt s.rank s.ranks ≡ true = grind (arith, nat_tests, v.own_rank) in
    ap (λ b. nat_lt from s.ranks && nat_lt s.rank s.ranks && (b || (nat_lt x.a s.cols && x.a % s.ranks == s.rank)) && is_item x) early
    ∙ tests (nat_lt from s.ranks) (nat_lt s.rank s.ranks) (nat_lt x.a s.cols) (x.a % s.ranks == s.rank) (is_item x) own
    ∙ may_same seat s.rank s.ranks s.cols from x at

-- round 0 of ig: values
pub values_taken : (s : IgState) (seat : Seat) (came : List (ℕ × Item)) → IsIg s → s.round ≡ 0 → Sits seat s.rank s.ranks s.cols → all_taken_in ig_rules s came ≡ record s { sums = all_risen seat s.sums came }
values_taken s seat came v z at = in_field ig_rules (λ l. record s { sums = l }) (own_risen seat) one s.sums came
  where
    step : (l : List ℕ) (from : ℕ) (x : Item) (n : ℕ) → n ≡ 0 → ig_rules.absorbed (record s { round = n; sums = l }) from x ≡ record s { round = n; sums = with_sum_risen s.ranks l x }
    step l from x n e = subst (λ k. ig_rules.absorbed (record s { round = k; sums = l }) from x ≡ record s { round = k; sums = with_sum_risen s.ranks l x }) (sym e) refl

    one : (l : List ℕ) (from : ℕ) (x : Item) → taken_in ig_rules (record s { sums = l }) from x ≡ record s { sums = own_risen seat l from x }
    one l from x =
        ap (λ t. cond (may_ig (s.cols ∷ []) s.ranks s.round s.rank from x) t (record s { sums = l })) (step l from x s.round z)
        ∙ inside (λ (m : List ℕ). record s { sums = m }) (may_ig (s.cols ∷ []) s.ranks s.round s.rank from x) (may_count (seat.cols ∷ []) seat.ranks 0 seat.rank from x) (with_sum_risen s.ranks l x) l
        (may_early seat s s.round from x v (ap (nat_lt 1) z) at)
        ∙ ap (λ k. record s { sums = cond (may_count (seat.cols ∷ []) seat.ranks 0 seat.rank from x) (with_sum_risen k l x) l }) (sym at.all)

-- round 1: queries
pub queries_taken : (s : IgState) (seat : Seat) (came : List (ℕ × Item)) → IsIg s → s.round ≡ 1 → Sits seat s.rank s.ranks s.cols → all_taken_in ig_rules s came ≡ record s { queries = all_noted seat s.queries came }
queries_taken s seat came v z at = in_field ig_rules (λ l. record s { queries = l }) (own_noted seat) one s.queries came
  where
    step : (l : List (List Item)) (from : ℕ) (x : Item) (n : ℕ) → n ≡ 1 → ig_rules.absorbed (record s { round = n; queries = l }) from x ≡ record s { round = n; queries = noted_query l from x }
    step l from x n e = subst (λ k. ig_rules.absorbed (record s { round = k; queries = l }) from x ≡ record s { round = k; queries = noted_query l from x }) (sym e) refl

    one : (l : List (List Item)) (from : ℕ) (x : Item) → taken_in ig_rules (record s { queries = l }) from x ≡ record s { queries = own_noted seat l from x }
    one l from x =
        ap (λ t. cond (may_ig (s.cols ∷ []) s.ranks s.round s.rank from x) t (record s { queries = l })) (step l from x s.round z)
        ∙ inside (λ (m : List (List Item)). record s { queries = m }) (may_ig (s.cols ∷ []) s.ranks s.round s.rank from x) (may_count (seat.cols ∷ []) seat.ranks 0 seat.rank from x) (noted_query l from x) l
        (may_early seat s s.round from x v (ap (nat_lt 1) z) at)

-- later rounds: replies
replies_may : (a t b i : Bool) → t ≡ true → (a && t && (true || b) && i) ≡ (a && i)
replies_may a false b i e = absurd (cc)
replies_may false true b i e = refl
replies_may true true b i e = refl

pub replies_taken : (s : IgState) (ranks : ℕ) (came : List (ℕ × Item)) → IsIg s → 1 < s.round → ranks ≡ s.ranks → all_taken_in ig_rules s came ≡ record s { answers = all_answered ranks s.answers came }
replies_taken s ranks came v late p = in_field ig_rules (λ l. record s { answers = l }) (own_answered ranks) one s.answers came
  where
    third : nat_lt 1 s.round ≡ true
    third = grind (arith, nat_tests, late)

    step : (l : List ℕ) (from : ℕ) (x : Item) (b c d : Bool) → b ≡ false → c ≡ false → d ≡ true
        → record s { sums = cond b (with_sum_risen s.ranks s.sums x) s.sums; queries = cond c (noted_query s.queries from x) s.queries; answers = cond d (answered_entry s.ranks l x) l } ≡ record s { answers = answered_entry s.ranks l x }
    step l from x false false true e f g = refl
    step l from x true c d e f g = absurd (cc)
    step l from x false true d e f g = absurd (cc)
    step l from x false false false e f g = absurd (cc)

    may : (from : ℕ) (x : Item) → may_ig (s.cols ∷ []) s.ranks s.round s.rank from x ≡ (nat_lt from s.ranks && is_item x)
    may from x =
        ap (λ b. nat_lt from s.ranks && nat_lt s.rank s.ranks && (b || (nat_lt x.a s.cols && x.a % s.ranks == s.rank)) && is_item x) third
        ∙ replies_may (nat_lt from s.ranks) (nat_lt s.rank s.ranks) (nat_lt x.a s.cols && x.a % s.ranks == s.rank) (is_item x) (grind (arith, nat_tests, v.own_rank))

    one : (l : List ℕ) (from : ℕ) (x : Item) → taken_in ig_rules (record s { answers = l }) from x ≡ record s { answers = own_answered ranks l from x }
    one l from x =
        ap (λ t. cond (may_ig (s.cols ∷ []) s.ranks s.round s.rank from x) t (record s { answers = l }))
        (step l from x (s.round == 0) (s.round == 1) (nat_lt 1 s.round) (ne_eqb s.round 0 (λ e. omega arith)) (ne_eqb s.round 1 (λ e. omega arith)) third)
        ∙ inside (λ (m : List ℕ). record s { answers = m }) (may_ig (s.cols ∷ []) s.ranks s.round s.rank from x) (nat_lt from s.ranks && is_item x) (answered_entry s.ranks l x) l (may from x)
        ∙ ap (λ k. record s { answers = cond (nat_lt from k && is_item x) (answered_entry k l x) l }) (sym p)

-- sums stay as many words
pub all_risen_len : (seat : Seat) (sums : List ℕ) (came : List (ℕ × Item)) → length (all_risen seat sums came) ≡ length sums
all_risen_len seat sums [] = refl
all_risen_len seat sums (e ∷ es) = all_risen_len seat (own_risen seat sums e.0 e.1) es ∙ sums_len (may_count (seat.cols ∷ []) seat.ranks 0 seat.rank e.0 e.1) seat.ranks sums e.1

pub all_risen_words : (seat : Seat) (sums : List ℕ) (came : List (ℕ × Item)) → All (λ v. v < 2 ^ 64) sums → All (λ v. v < 2 ^ 64) (all_risen seat sums came)
all_risen_words seat sums [] h = h
all_risen_words seat sums (e ∷ es) h = all_risen_words seat (own_risen seat sums e.0 e.1) es (sums_words (may_count (seat.cols ∷ []) seat.ranks 0 seat.rank e.0 e.1) seat.ranks sums e.1 h)

-- and the state one that the program can be in
pub counts_valid : (s : HistoState) (seat : Seat) (came : List (ℕ × Item)) (counts : List ℕ) → IsHisto s → counts ≡ all_risen seat s.counts came → IsHisto (record s { counts = counts })
counts_valid s seat came counts v is = record { own = v.own; wide = v.wide; named = v.named; places = ap length is ∙ all_risen_len seat s.counts came ∙ v.places }

pub sums_valid : (s : SumsState) (seat : Seat) (came : List (ℕ × Item)) (sums : List ℕ) → IsSums s → sums ≡ all_risen seat s.sums came → IsSums (record s { sums = sums })
sums_valid s seat came sums v is =
    record {
      own = v.own;
      wide = v.wide;
      fit = v.fit;
      words = subst (All (λ w. w < 2 ^ 64)) (sym is) (all_risen_words seat s.sums came v.words);
      places = ap length is ∙ all_risen_len seat s.sums came ∙ v.places;
    }

pub values_valid : (s : IgState) (seat : Seat) (came : List (ℕ × Item)) (sums : List ℕ) → IsIg s → sums ≡ all_risen seat s.sums came → IsIg (record s { sums = sums })
values_valid s seat came sums v is =
    record {
      own_rank = v.own_rank;
      wide = v.wide;
      named = v.named;
      words = subst (All (λ w. w < 2 ^ 64)) (sym is) (all_risen_words seat s.sums came v.words);
      places = ap length is ∙ all_risen_len seat s.sums came ∙ v.places;
      senders = v.senders;
      asked = v.asked;
      fit = v.fit;
    }

-- answers stay as many
answered_len : (b : Bool) (ranks : ℕ) (answers : List ℕ) (x : Item) → length (cond b (answered_entry ranks answers x) answers) ≡ length answers
answered_len true ranks answers x = changed_len answers (x.a / ranks) 0 (λ v. max v x.b)
answered_len false ranks answers x = refl

pub all_answered_len : (ranks : ℕ) (answers : List ℕ) (came : List (ℕ × Item)) → length (all_answered ranks answers came) ≡ length answers
all_answered_len ranks answers [] = refl
all_answered_len ranks answers (e ∷ es) = all_answered_len ranks (own_answered ranks answers e.0 e.1) es ∙ answered_len (nat_lt e.0 ranks && is_item e.1) ranks answers e.1
