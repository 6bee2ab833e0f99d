-- What the ranks of tally have after their round: together each line, as often as it was read.
use Rattle.std.proofs.Common.{ℕ, zero, suc, ◌+◌, ◌-◌, ◌*◌, ◌/◌, ◌%◌, ◌<◌, ◌≡◌, ◌==◌, Bool, true, false, cond, List, [], ◌∷◌, ◌++◌, None, Some, map, length, get_or, take, slice_get, filter, fold, count_by, All, arith, inl, inr, refl, sym, ap, ◌∙◌, subst, lit<}
use Rattle.std.proofs.Common.{is_eq, is_lt}
use Rattle.std.specs.List.{range_with_len, enumerate_from, sum}
use Rattle.std.specs.List.Sorted.{IsSortedBy}
use Rattle.std.proofs.Math.Nat.{mod-lt}
use Rattle.std.proofs.lemmas.Bool.{cases_lt}
use Rattle.std.proofs.lemmas.List.{length-map, take_more, append_assoc}
use Rattle.std.proofs.lemmas.List.Elements.{All-map, All-filter}
use Rattle.std.proofs.lemmas.List.FromFn.{length-map-range_with_len}
use Rattle.std.proofs.lemmas.List.Sums.{sum_by-cons}
use Rattle.std.proofs.lemmas.Option.{get_or_from_slice_get}
use Rattle.list_laws.specs.Sums.{total}
use Rattle.list_laws.proofs.Lists.{find, within, get_map, get_once}
use Rattle.list_laws.proofs.Sums.{total_same, total_swap}
use Rattle.round_program.specs.Canonical.{InRound, EndsWithin, HaveEnded}
use Rattle.sparse_rows.specs.Deals.{dealt}
use Rattle.sparse_rows.proofs.Deals.{dealt_count}
use Rattle.sparse_rows.proofs.Starts.{made_at, made_from, all_numbered}
use Rattle.sparse_rows.proofs.Turns.{turn_read, turn_count}
use Rattle.elastic.specs.Spelling.{IsLetter}
use Rattle.elastic.specs.LetterRuns.{letters_to_of, letters_by, absorb_letters, letters_upto, letters_absorbed, letter_votes, letter_states, HasLetterRounds, LetterMember, InLetterRound}
use Rattle.elastic.specs.Mails.{MailState, mailing, mail_rules}
use Rattle.elastic.specs.Theorem.{SameLetterRuns}
use Rattle.elastic.proofs.Runs.{mailers_run_letters}
use Rattle.app_tally.specs.Counts.{by_bytes, Entry, with_line, times, tally_of, Rises}
use Rattle.app_tally.specs.code.CountView.{counted_lines}
use Rattle.app_tally.specs.Tallies.{TallyState, tally_rules, IsTallying, counter_of}
use Rattle.app_tally.specs.laws.TallyLaws.{tally_laws}
use Rattle.app_tally.specs.TallyRuns.{own_lines, tally_begins, tally_starts, TallyEnded}
use Rattle.app_tally.proofs.Multisets.{counted_append}
use Rattle.app_tally.proofs.Tallied.{found, found_on, rises_on, found_tally, times_cons}

-- ---- Letters by their parts

pub letters_back : (ranks : ℕ) (ls : List (List ℕ)) → map (λ (e : ℕ × List ℕ). e.1) (map (λ l. (counter_of ranks l, l)) ls) ≡ ls
letters_back ranks [] = refl
letters_back ranks (l ∷ ls) = ap (λ w. l ∷ w) (letters_back ranks ls)

pub counters_back : (ranks : ℕ) (ls : List (List ℕ)) → map (λ (e : ℕ × List ℕ). e.0) (map (λ l. (counter_of ranks l, l)) ls) ≡ map (counter_of ranks) ls
counters_back ranks [] = refl
counters_back ranks (l ∷ ls) = ap (λ w. counter_of ranks l ∷ w) (counters_back ranks ls)

one_for : (b : Bool) (r : ℕ) (l : List ℕ) (es : List (ℕ × List ℕ)) (ls : List (List ℕ)) → map (λ e. e.1) es ≡ ls → map (λ e. e.1) (cond b ((r, l) ∷ es) es) ≡ cond b (l ∷ ls) ls
one_for true r l es ls e = ap (λ w. l ∷ w) e
one_for false r l es ls e = e

-- what is for one rank
letters_for : (ranks r : ℕ) (ls : List (List ℕ)) → map (λ (e : ℕ × List ℕ). e.1) (filter (λ (e : ℕ × List ℕ). e.0 == r) (map (λ l. (counter_of ranks l, l)) ls)) ≡ dealt (counter_of ranks) r ls
letters_for ranks r [] = refl
letters_for ranks r (l ∷ ls) = one_for (counter_of ranks l == r) (counter_of ranks l) l (filter (λ (e : ℕ × List ℕ). e.0 == r) (map (λ l. (counter_of ranks l, l)) ls)) (dealt (counter_of ranks) r ls) (letters_for ranks r ls)

-- ---- The lines of a rank

pub own_letters : (ranks r : ℕ) (lines : List (List ℕ)) → All IsLetter lines → All IsLetter (own_lines ranks r lines)
own_letters ranks r lines a =
    All-map IsLetter (λ (e : ℕ × List ℕ). e.1) (dealt (λ (e : ℕ × List ℕ). e.0 % ranks) r (enumerate_from 0 lines))
    (All-filter (λ (e : ℕ × List ℕ). e.0 % ranks == r) (λ (e : ℕ × List ℕ). IsLetter e.1) (enumerate_from 0 lines) (all_numbered IsLetter 0 lines a))

pub begins_valid : (ranks r : ℕ) (lines : List (List ℕ)) → r < ranks → All IsLetter lines → IsTallying (tally_begins ranks lines r)
begins_valid ranks r lines low a = record { rank = low; lines = own_letters ranks r lines a }

pub own_count : (ranks r : ℕ) (lines : List (List ℕ)) → r < ranks → length (own_lines ranks r lines) ≡ (length lines + (ranks - 1 - r)) / ranks
own_count ranks r lines low =
    let start : 0 + r ≡ 0 * ranks + r = omega arith in
    length-map (dealt (λ (e : ℕ × List ℕ). e.0 % ranks) r (enumerate_from 0 lines)) (λ e. e.1) ∙ turn_count ranks r lines 0 0 r (ranks - 1 - r) low (omega arith) start

-- the line at place k of a rank
pub own_at : (ranks r k : ℕ) (lines : List (List ℕ)) (l : List ℕ) (d : List ℕ) → r < ranks → k < length (own_lines ranks r lines) → slice_get lines (k * ranks + r) ≡ Some l → get_or (own_lines ranks r lines) k d ≡ l
own_at ranks r k lines l d low room at =
    let part : List (ℕ × List ℕ) = dealt (λ (e : ℕ × List ℕ). e.0 % ranks) r (enumerate_from 0 lines) in
    let there = turn_read ranks r k lines low (subst (λ n. k < n) (length-map part (λ e. e.1)) room) in
    get_or_from_slice_get (map (λ e. e.1) part) k there.0 d (get_map (λ e. e.1) part k (k * ranks + r, there.0) there.1) ∙ get_once lines (k * ranks + r) there.0 l there.2 at

pub own_inside : (ranks r k : ℕ) (lines : List (List ℕ)) → r < ranks → k < length (own_lines ranks r lines) → k * ranks + r < length lines
own_inside ranks r k lines low room =
    let part : List (ℕ × List ℕ) = dealt (λ (e : ℕ × List ℕ). e.0 % ranks) r (enumerate_from 0 lines) in
    let there = turn_read ranks r k lines low (subst (λ n. k < n) (length-map part (λ e. e.1)) room) in
    within lines (k * ranks + r) there.0 there.2

-- ---- The start

abbrev begins_of : ℕ → List (List ℕ) → List TallyState
begins_of ranks lines = map (tally_begins ranks lines) (range_with_len 0 ranks)

map_map : {X Y Z : Type 0} (f : Y → Z) (h : X → Y) (xs : List X) → map (λ x. f (h x)) xs ≡ map f (map h xs)
map_map f h [] = refl
map_map f h (x ∷ xs) = ap (λ w. f (h x) ∷ w) (map_map f h xs)

starts_are : (ranks : ℕ) (lines : List (List ℕ)) → tally_starts ranks lines ≡ map (mailing tally_rules) (begins_of ranks lines)
starts_are ranks lines = map_map (mailing tally_rules) (tally_begins ranks lines) (range_with_len 0 ranks)

begins_in : (ranks : ℕ) (lines : List (List ℕ)) → All IsLetter lines → InLetterRound tally_rules ranks 0 [] 1 (begins_of ranks lines)
begins_in ranks lines a =
    record {
      size = length-map-range_with_len (tally_begins ranks lines) 0 ranks;
      each =
          λ r s at.
          let made = made_from (tally_begins ranks lines) ranks r s at in
          subst (LetterMember tally_rules ranks 0 [] 1 r) made.1
          (record { valid = begins_valid ranks r lines made.0 a; own_rank = refl; all_ranks = refl; same_round = refl; same_shape = refl; same_most = refl });
    }

runs : (ranks : ℕ) (lines : List (List ℕ)) → All IsLetter lines → SameLetterRuns tally_rules ranks [] 1 (begins_of ranks lines)
runs ranks lines a = mailers_run_letters tally_rules tally_laws ranks [] 1 (begins_of ranks lines) (begins_in ranks lines a)

one_round : (starts : List TallyState) → HasLetterRounds tally_rules starts 1
one_round starts = record { some = lit< tt; goes = λ m l. absurd (omega arith); stops = refl }

pub starts_in_round : (ranks : ℕ) (lines : List (List ℕ)) → All IsLetter lines → InRound (mail_rules tally_rules) ranks 0 [] 1 (tally_starts ranks lines)
starts_in_round ranks lines a = subst (InRound (mail_rules tally_rules) ranks 0 [] 1) (sym (starts_are ranks lines)) (runs ranks lines a).in_round

pub within_one : (ranks : ℕ) (lines : List (List ℕ)) → All IsLetter lines → EndsWithin (mail_rules tally_rules) (tally_starts ranks lines) 1
within_one ranks lines a =
    subst (λ ss. EndsWithin (mail_rules tally_rules) ss 1) (sym (starts_are ranks lines))
    (record { rounds = 1; has_rounds = (runs ranks lines a).rounds 1 (one_round (begins_of ranks lines)); at_most = omega arith })

-- ---- The end

-- how often a line comes to a rank
abbrev pub comes : ℕ → List (List ℕ) → List ℕ → ℕ → ℕ
comes ranks lines q r = total ranks (λ f. times q (dealt (counter_of ranks) r (own_lines ranks f lines)))

came_after : (t : TallyState) (from : ℕ) (ls : List (List ℕ)) → (absorb_letters tally_rules t from ls).came ≡ fold (λ es l. with_line l es) t.came ls
came_after t from [] = refl
came_after t from (l ∷ ls) = came_after (record t { came = with_line l t.came }) from ls

zero_plus : (n : ℕ) → 0 + n ≡ n
zero_plus n = omega arith

rises_upto : (s : TallyState) (lists : ℕ → List (List ℕ)) (n : ℕ) → Rises s.came → Rises (letters_upto tally_rules s lists n).came
rises_upto s lists zero r = r
rises_upto s lists (suc n) r = subst Rises (sym (came_after (letters_upto tally_rules s lists n) n (lists n))) (rises_on (letters_upto tally_rules s lists n).came (lists n) (rises_upto s lists n r))

found_upto : (q : List ℕ) (s : TallyState) (lists : ℕ → List (List ℕ)) (n : ℕ) → Rises s.came → found q (letters_upto tally_rules s lists n).came ≡ found q s.came + total n (λ f. times q (lists f))
found_upto q s lists zero r = omega arith
found_upto q s lists (suc n) r =
    let t : TallyState = letters_upto tally_rules s lists n in
    let here : found q (absorb_letters tally_rules t n (lists n)).came ≡ found q t.came + times q (lists n) = ap (found q) (came_after t n (lists n)) ∙ found_on q t.came (lists n) (rises_upto s lists n r) in
    let rest : found q t.came ≡ found q s.came + total n (λ f. times q (lists f)) = found_upto q s lists n r in
    omega arith

-- the letters of each rank for each
sent_for : (ranks : ℕ) (lines : List (List ℕ)) (r f : ℕ) → f < ranks → letters_by tally_rules (begins_of ranks lines) r f ≡ dealt (counter_of ranks) r (own_lines ranks f lines)
sent_for ranks lines r f low = ap (λ o. letters_to_of tally_rules o r) (made_at (tally_begins ranks lines) ranks f low) ∙ letters_for ranks r (own_lines ranks f lines)

-- a rank after the round
absorbed_has : (ranks : ℕ) (lines : List (List ℕ)) (r : ℕ) (q : List ℕ) (n : ℕ) → n ≡ ranks → found q (letters_upto tally_rules (tally_begins ranks lines r) (letters_by tally_rules (begins_of ranks lines) r) n).came ≡ comes ranks lines q r
absorbed_has ranks lines r q n e =
    ap (λ k. found q (letters_upto tally_rules (tally_begins ranks lines r) (letters_by tally_rules (begins_of ranks lines) r) k).came) e
    ∙ found_upto q (tally_begins ranks lines r) (letters_by tally_rules (begins_of ranks lines) r) ranks tt
    ∙ ap (λ k. 0 + k) (total_same ranks (λ f. times q (letters_by tally_rules (begins_of ranks lines) r f)) (λ f. times q (dealt (counter_of ranks) r (own_lines ranks f lines))) (λ f low. ap (times q) (sent_for ranks lines r f low)))
    ∙ zero_plus (comes ranks lines q r)

-- the run has one round
rounds_are : (starts : List TallyState) (n : ℕ) → HasLetterRounds tally_rules starts n → n ≡ 1
rounds_are starts n h =
    elim (cases_lt 1 n) [
      | inl more ↦ absurd (let goes : false ≡ true = h.goes 0 (omega arith) in cc)
      | inr few ↦ (let some : 0 < n = h.some in omega arith)
    ]

-- the programs after their run
ended_are : (lines : List (List ℕ)) (ps : List (MailState TallyState)) (h : TallyEnded lines ps) → ps ≡ map (mailing tally_rules) (letter_states tally_rules (begins_of h.ranks lines) 1)
ended_are lines ps h =
    let over = (runs h.ranks lines h.letters).ended ps (subst (λ ss. HaveEnded (mail_rules tally_rules) ss ps) (starts_are h.ranks lines) h.ended) in
    over.2 ∙ ap (λ n. map (mailing tally_rules) (letter_states tally_rules (begins_of h.ranks lines) n)) (rounds_are (begins_of h.ranks lines) over.0 over.1)

pub programs_len : (lines : List (List ℕ)) (ps : List (MailState TallyState)) (h : TallyEnded lines ps) → length ps ≡ h.ranks
programs_len lines ps h =
    let ss : List TallyState = begins_of h.ranks lines in
    ap length (ended_are lines ps h) ∙ length-map (letter_states tally_rules ss 1) (mailing tally_rules)
    ∙ length-map (letters_absorbed tally_rules ss) (λ s. tally_rules.ended s (letter_votes tally_rules (letters_absorbed tally_rules ss)))
    ∙ length-map ss (λ s. letters_upto tally_rules s (letters_by tally_rules ss s.rank) (length ss))
    ∙ length-map-range_with_len (tally_begins h.ranks lines) 0 h.ranks

-- what a rank has counted
pub rank_has : (lines : List (List ℕ)) (ps : List (MailState TallyState)) (h : TallyEnded lines ps) (r : ℕ) (m : MailState TallyState) (q : List ℕ) → r < length ps → slice_get ps r ≡ Some m
    → found q m.inner.came ≡ comes h.ranks lines q r
rank_has lines ps h r m q low at =
    let ss : List TallyState = begins_of h.ranks lines in
    let size : length ss ≡ h.ranks = length-map-range_with_len (tally_begins h.ranks lines) 0 h.ranks in
    let begin : slice_get ss r ≡ Some (tally_begins h.ranks lines r) = made_at (tally_begins h.ranks lines) h.ranks r (subst (λ n. r < n) (programs_len lines ps h) low) in
    let after : slice_get (letter_states tally_rules ss 1) r ≡ Some (tally_rules.ended (letters_upto tally_rules (tally_begins h.ranks lines r) (letters_by tally_rules ss r) (length ss)) (letter_votes tally_rules (letters_absorbed tally_rules ss))) =
    get_map (λ s. tally_rules.ended s (letter_votes tally_rules (letters_absorbed tally_rules ss))) (letters_absorbed tally_rules ss) r _
    (get_map (λ s. letters_upto tally_rules s (letters_by tally_rules ss s.rank) (length ss)) ss r (tally_begins h.ranks lines r) begin) in
    let same : m ≡ mailing tally_rules (tally_rules.ended (letters_upto tally_rules (tally_begins h.ranks lines r) (letters_by tally_rules ss r) (length ss)) (letter_votes tally_rules (letters_absorbed tally_rules ss))) =
    get_once ps r m _ at (ap (λ xs. slice_get xs r) (ended_are lines ps h) ∙ get_map (mailing tally_rules) (letter_states tally_rules ss 1) r _ after) in
    ap (λ (w : MailState TallyState). found q w.inner.came) same ∙ absorbed_has h.ranks lines r q (length ss) size

pub rank_found : (lines : List (List ℕ)) (ps : List (MailState TallyState)) (r : ℕ) → r < length ps → slice_get ps r ≡ None → ⊥
rank_found lines ps r low none = let there = find ps r low in cc

-- a number of lines, whichever number each of them has
times_numbered : (q : List ℕ) (es : List (ℕ × List ℕ)) → times q (map (λ e. e.1) es) ≡ count_by (λ e. is_eq (by_bytes q e.1)) es
times_numbered q [] = refl
times_numbered q (e ∷ es) = times_cons q e.1 (map (λ w. w.1) es) ∙ ap (λ n. cond (is_eq (by_bytes q e.1)) 1 0 + n) (times_numbered q es) ∙ sym (sum_by-cons (λ w. cond (is_eq (by_bytes q w.1)) 1 0) e es)

lines_back : (n : ℕ) (lines : List (List ℕ)) → map (λ e. e.1) (enumerate_from n lines) ≡ lines
lines_back n [] = refl
lines_back n (l ∷ ls) = ap (λ w. l ∷ w) (lines_back (n + 1) ls)

numbers_dealt : (ranks n : ℕ) (lines : List (List ℕ)) → 0 < ranks → All (λ (e : ℕ × List ℕ). e.0 % ranks < ranks) (enumerate_from n lines)
numbers_dealt ranks n lines some k d l = mod-lt (get_or (enumerate_from n lines) k d).0 some

-- all ranks together have each line as often as it was read
pub all_come : (ranks : ℕ) (lines : List (List ℕ)) (q : List ℕ) → 0 < ranks → total ranks (comes ranks lines q) ≡ times q lines
all_come ranks lines q some =
    total_swap ranks ranks (λ r f. times q (dealt (counter_of ranks) r (own_lines ranks f lines)))
    ∙ total_same ranks (λ f. total ranks (λ r. times q (dealt (counter_of ranks) r (own_lines ranks f lines)))) (λ f. times q (own_lines ranks f lines))
    (λ f low. dealt_count ranks (counter_of ranks) (λ m. is_eq (by_bytes q m)) (own_lines ranks f lines) (λ k d l. mod-lt (sum (get_or (own_lines ranks f lines) k d)) some))
    ∙ total_same ranks (λ f. times q (own_lines ranks f lines)) (λ f. count_by (λ (e : ℕ × List ℕ). is_eq (by_bytes q e.1)) (dealt (λ (e : ℕ × List ℕ). e.0 % ranks) f (enumerate_from 0 lines)))
    (λ f low. times_numbered q (dealt (λ (e : ℕ × List ℕ). e.0 % ranks) f (enumerate_from 0 lines)))
    ∙ dealt_count ranks (λ (e : ℕ × List ℕ). e.0 % ranks) (λ (e : ℕ × List ℕ). is_eq (by_bytes q e.1)) (enumerate_from 0 lines) (numbers_dealt ranks 0 lines some)
    ∙ sym (times_numbered q (enumerate_from 0 lines)) ∙ ap (times q) (lines_back 0 lines)

-- ---- Gathering and sorting

-- the lines of one more rank
pub gathered_more : (ranks : ℕ) (lines : List (List ℕ)) (q : List ℕ) (r n : ℕ) (old new came : List Entry) → times q (counted_lines old) ≡ total r (comes ranks lines q) → new ≡ old ++ came → found q (tally_of (counted_lines came)) ≡ comes ranks lines q r → n ≡ r + 1
    → times q (counted_lines new) ≡ total n (comes ranks lines q)
gathered_more ranks lines q r n old new came so_far e has next =
    let both : times q (counted_lines (old ++ came)) ≡ times q (counted_lines old) + times q (counted_lines came) = counted_append q old came in
    let more : times q (counted_lines came) ≡ comes ranks lines q r = sym (found_tally q (counted_lines came)) ∙ has in
    let all : times q (counted_lines new) ≡ total (suc r) (comes ranks lines q) = ap (λ es. times q (counted_lines es)) e ∙ (let s : times q (counted_lines (old ++ came)) ≡ total r (comes ranks lines q) + comes ranks lines q r = omega arith in s) in
    subst (λ k. times q (counted_lines new) ≡ total k (comes ranks lines q)) (let s : suc r ≡ n = omega arith in s) all

pub gather_more : (came : List Entry) (i : ℕ) (e : Entry) (first old new : List Entry) → i < length came → slice_get came i ≡ Some e → old ≡ first ++ take i came → new ≡ old ++ e ∷ [] → new ≡ first ++ take (i + 1) came
gather_more came i e first old new low at so_far is =
    is ∙ ap (λ w. w ++ e ∷ []) so_far ∙ append_assoc first (take i came) (e ∷ []) ∙ ap (λ w. first ++ (take i came ++ w ∷ [])) (sym (get_or_from_slice_get came i e e at)) ∙ ap (λ w. first ++ w) (sym (take_more came i e low))

-- sorted entries are in order
pub sorted_map : {X : Type 0} (f : X → Entry) (xs : List X) → IsSortedBy (λ x y. is_lt (by_bytes (f x).0 (f y).0)) xs → IsSortedBy (λ (e : Entry) (f : Entry). is_lt (by_bytes e.0 f.0)) (map f xs)
sorted_map {X} f xs s k d low high =
    let len : length (map f xs) ≡ length xs = length-map xs f in
    let x : (x : X) × (slice_get xs k ≡ Some x) = find xs k (omega arith) in
    let y : (y : X) × (slice_get xs (k + 1) ≡ Some y) = find xs (k + 1) (omega arith) in
    let first : get_or (map f xs) k d ≡ f x.0 = get_or_from_slice_get (map f xs) k (f x.0) d (get_map f xs k x.0 x.1) in
    let second : get_or (map f xs) (k + 1) d ≡ f y.0 = get_or_from_slice_get (map f xs) (k + 1) (f y.0) d (get_map f xs (k + 1) y.0 y.1) in
    ap (λ (e : Entry). is_lt (by_bytes e.0 (get_or (map f xs) k d).0)) second ∙ ap (λ (e : Entry). is_lt (by_bytes (f y.0).0 e.0)) first
    ∙ ap (λ w. is_lt (by_bytes (f w).0 (f x.0).0)) (sym (get_or_from_slice_get xs (k + 1) y.0 x.0 y.1)) ∙ ap (λ w. is_lt (by_bytes (f (get_or xs (k + 1) x.0)).0 (f w).0)) (sym (get_or_from_slice_get xs k x.0 x.0 x.1))
    ∙ s k x.0 low (omega arith)
