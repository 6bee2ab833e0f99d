-- Mailers compute what their letter programs do.
use Rattle.std.proofs.Common.{ℕ, zero, suc, ◌+◌, ◌-◌, ◌^◌, ◌<◌, ◌≤◌, ◌≡◌, ◌==◌, min, Bool, true, false, cond, List, [], ◌∷◌, ◌++◌, Option, None, Some, map, length, get_or, set, replicate, slice_get, sum_by, filter, All, arith, refl, sym, ap, ◌∙◌, subst, inl, inr}
use Rattle.std.specs.List.{flat_map}
use Rattle.std.specs.Option.{option_map}
use Rattle.std.proofs.lemmas.Bool.{cases_lt, cases_eq, eq-eqb, ne_eqb}
use Rattle.std.proofs.lemmas.List.{length-map, length-set, length-replicate, get_or-set_same, get_or-set_other, set-get_or, set-set}
use Rattle.std.proofs.lemmas.List.Elements.{All-nil, All-cons}
use Rattle.std.proofs.lemmas.List.Sums.{sum_by-cons}
use Rattle.std.proofs.lemmas.Option.{slice_get-map, slice_get_past}
use Rattle.bale_items.specs.declared.Item.{Item}
use Rattle.list_laws.proofs.Lists.{all_head, all_tail, all_from_gets, all_get, got_map, get_map, find}
use Rattle.round_program.specs.Laws.{Fits}
use Rattle.round_program.specs.Canonical.{items_of, emitted_of, emitted_by, absorb_all, absorb_upto, absorbed_round, vote_sum, after_whole_round, states_at, votes_at, shape_of, HasRounds, InRound, Member}
use Rattle.round_program.proofs.Items.{items_push}
use Rattle.round_program.proofs.Members.{in_round_at}
use Rattle.round_program.proofs.Orders.{every_order}
use Rattle.elastic.specs.Spelling.{IsLetter, spelling, letters_of}
use Rattle.elastic.specs.LetterRules.{LetterRules}
use Rattle.elastic.specs.LetterLaws.{LetterLaws}
use Rattle.elastic.specs.LetterRuns.{letters_to_of, letters_by, absorb_letters, letters_upto, letters_absorbed, letter_votes, letter_round, letter_states, letter_votes_at, letter_shape, HasLetterRounds, LetterMember, InLetterRound}
use Rattle.elastic.specs.Mails.{MailState, mailing, mail_rules, spelling_of, is_whole, letter_of, with_next_item, item_absorbed}
use Rattle.elastic.specs.laws.MailLaws.{mail_laws, mailing_valid, sender_low}
use Rattle.elastic.specs.Theorem.{EachLetterOnce, MailersRunLetters}
use Rattle.elastic.specs.code.Begun.{begun_items}
use Rattle.elastic.proofs.Letters.{read_on, read_all, spellings_are_read}

-- ---- A sender's items

maybe_first : {S : Type 0} (R : LetterRules S) (s : S) (f : ℕ) (l : List ℕ) (ls : List (List ℕ)) (b : Bool) → absorb_letters R (cond b (R.absorbed s f l) s) f ls ≡ absorb_letters R s f (cond b (l ∷ ls) ls)
maybe_first R s f l ls true = refl
maybe_first R s f l ls false = refl

-- what a mailer is after items of one sender
record After {S : Type 0} (R : LetterRules S) (t u : MailState S) (f : ℕ) (items : List Item) : Type 0 where
  inner : u.inner ≡ absorb_letters R t.inner f (read_on (get_or t.begun f []) items)
  begun : u.begun ≡ set t.begun f (begun_items (get_or t.begun f []) items)

after_all : {S : Type 0} (R : LetterRules S) (t : MailState S) (f : ℕ) (items : List Item) → f < length t.begun → After R t (absorb_all (mail_rules R) t f items) f items
after_all R t f [] low = record { inner = refl; begun = sym (set-get_or t.begun f []) }
after_all {S} R t f (x ∷ xs) low =
    let items : List Item = with_next_item t.begun f x in
    let left : List Item = cond (is_whole items) [] items in
    let u : MailState S = item_absorbed R t f x in
    let here : get_or u.begun f [] ≡ left = get_or-set_same t.begun f left [] low in
    let rest : After R u (absorb_all (mail_rules R) u f xs) f xs = after_all R u f xs (subst (λ n. f < n) (sym (length-set t.begun f left)) low) in
    record {
      inner =
          rest.inner ∙ ap (λ b. absorb_letters R u.inner f (read_on b xs)) here
          ∙ maybe_first R t.inner f (letter_of items) (read_on left xs) (is_whole items);
      begun = rest.begun ∙ ap (λ b. set u.begun f (begun_items b xs)) here ∙ set-set t.begun f left (begun_items left xs);
    }

abbrev no_items : List Item
no_items = []

-- and after those of the senders below n
record AfterUpto {S : Type 0} (R : LetterRules S) (s : S) (u : MailState S) (lists : ℕ → List Item) (n : ℕ) : Type 0 where
  inner : u.inner ≡ letters_upto R s (λ f. letters_of (lists f)) n
  begun : (g : ℕ) → n ≤ g → get_or u.begun g [] ≡ []
  len : length u.begun ≡ R.ranks s

none_yet : (p g : ℕ) → get_or (replicate p []) g [] ≡ no_items
none_yet zero g = refl
none_yet (suc p) zero = refl
none_yet (suc p) (suc g) = none_yet p g

after_upto : {S : Type 0} (R : LetterRules S) (s : S) (lists : ℕ → List Item) (n : ℕ) → n ≤ R.ranks s → AfterUpto R s (absorb_upto (mail_rules R) (mailing R s) lists n) lists n
after_upto R s lists zero low = record { inner = refl; begun = λ g l. none_yet (R.ranks s) g; len = length-replicate (R.ranks s) [] }
after_upto {S} R s lists (suc n) low =
    let t : MailState S = absorb_upto (mail_rules R) (mailing R s) lists n in
    let before : AfterUpto R s t lists n = after_upto R s lists n (omega arith) in
    let room : n < length t.begun = subst (λ k. n < k) (sym before.len) (omega arith) in
    let after : After R t (absorb_all (mail_rules R) t n (lists n)) n (lists n) = after_all R t n (lists n) room in
    record {
      inner =
          after.inner
          ∙ ap (λ b. absorb_letters R t.inner n (read_on b (lists n))) (before.begun n (omega arith))
          ∙ ap (absorb_letters R t.inner n) (read_all (lists n))
          ∙ ap (λ i. absorb_letters R i n (letters_of (lists n))) before.inner;
      begun =
          λ g l.
          ap (λ b. get_or b g []) after.begun
          ∙ get_or-set_other t.begun n g (begun_items (get_or t.begun n []) (lists n)) [] (λ e. absurd (omega arith))
          ∙ before.begun g (omega arith);
      len = ap length after.begun ∙ length-set t.begun n (begun_items (get_or t.begun n []) (lists n)) ∙ before.len;
    }

pub each_letter_once : {S : Type 0} (R : LetterRules S) → LetterLaws R → EachLetterOnce R
each_letter_once {S} R laws s came v fits =
    let m : MailState S = mailing R s in
    let low : All (λ e. (e.0 < R.ranks s) × Fits (mail_rules R) m e.0 e.1) came = λ k d l. (sender_low R m (get_or came k d).0 (get_or came k d).1 (fits k d l), fits k d l) in
    ap (λ (t : MailState S). t.inner) (every_order (mail_rules R) (mail_laws R laws) m (R.ranks s) came (mailing_valid R laws s v) low)
    ∙ (after_upto R s (λ f. items_of f came) (R.ranks s) (omega arith)).inner

-- ---- What is sent

one_more : (b : Bool) (x : Item) (to : ℕ) (es : List (ℕ × Item)) (xs : List Item) → map (λ e. e.1) es ≡ cond b xs [] → map (λ e. e.1) (cond b ((to, x) ∷ es) es) ≡ cond b (x ∷ xs) []
one_more true x to es xs e = ap (λ l. x ∷ l) e
one_more false x to es xs e = e

-- the items of one letter that are for rank d
pub one_letter : (d to : ℕ) (items : List Item) → items_of d (map (λ x. (to, x)) items) ≡ cond (to == d) items []
one_letter d to [] = elim (cases_eq to d) [ inl e ↦ ap (λ b. cond b [] []) (sym (eq-eqb to d e)) | inr n ↦ ap (λ b. cond b [] []) (sym (ne_eqb to d n)) ]
one_letter d to (x ∷ xs) = one_more (to == d) x to (filter (λ (e : ℕ × Item). e.0 == d) (map (λ x. (to, x)) xs)) xs (one_letter d to xs)

sent_one : (b : Bool) (l : List ℕ) (es : List (ℕ × List ℕ)) (to : ℕ) → cond b (spelling l) [] ++ flat_map spelling (map (λ e. e.1) es) ≡ flat_map spelling (map (λ e. e.1) (cond b ((to, l) ∷ es) es))
sent_one true l es to = refl
sent_one false l es to = refl

sent_spelled : (d : ℕ) (letters : List (ℕ × List ℕ)) → items_of d (spelling_of letters) ≡ flat_map spelling (map (λ e. e.1) (filter (λ e. e.0 == d) letters))
sent_spelled d [] = refl
sent_spelled d (e ∷ es) =
    items_push d (map (λ x. (e.0, x)) (spelling e.1)) (spelling_of es)
    ∙ ap (λ xs. xs ++ items_of d (spelling_of es)) (one_letter d e.0 (spelling e.1))
    ∙ ap (λ xs. cond (e.0 == d) (spelling e.1) [] ++ xs) (sent_spelled d es)
    ∙ sent_one (e.0 == d) e.1 (filter (λ w. w.0 == d) es) e.0

sent_of : {S : Type 0} (R : LetterRules S) (o : Option S) (d : ℕ) → emitted_of (mail_rules R) (option_map (mailing R) o) d ≡ flat_map spelling (letters_to_of R o d)
sent_of R None d = refl
sent_of R (Some s) d = sent_spelled d (R.letters s)

sent_by : {S : Type 0} (R : LetterRules S) (ss : List S) (d f : ℕ) → emitted_by (mail_rules R) (map (mailing R) ss) d f ≡ flat_map spelling (letters_by R ss d f)
sent_by R ss d f = ap (λ o. emitted_of (mail_rules R) o d) (slice_get-map (mailing R) ss f) ∙ sent_of R (slice_get ss f) d

-- ---- A round

-- what holds of the states of a round: they are valid, and each rank is one of all
abbrev Ranked : {S : Type 0} → LetterRules S → ℕ → S → Type 0
Ranked R p s = R.valid s × (R.ranks s ≡ p)

second_one : (b : Bool) (e : ℕ × List ℕ) (es : List (ℕ × List ℕ)) → IsLetter e.1 → All IsLetter (map (λ w. w.1) es) → All IsLetter (map (λ w. w.1) (cond b (e ∷ es) es))
second_one true e es h a = All-cons IsLetter e.1 (map (λ w. w.1) es) h a
second_one false e es h a = a

ranked_at : {S : Type 0} (R : LetterRules S) (p : ℕ) (ss : List S) (f : ℕ) (s : S) → All (Ranked R p) ss → slice_get ss f ≡ Some s → Ranked R p s
ranked_at R p ss f s a e = all_get (Ranked R p) ss f s a e

second_letters : (p d : ℕ) (es : List (ℕ × List ℕ)) → All (λ e. (e.0 < p) × IsLetter e.1) es → All IsLetter (map (λ e. e.1) (filter (λ e. e.0 == d) es))
second_letters p d [] a = All-nil IsLetter
second_letters p d (e ∷ es) a =
    let here : (e.0 < p) × IsLetter e.1 = all_head (λ e. (e.0 < p) × IsLetter e.1) e es a in
    second_one (e.0 == d) e (filter (λ w. w.0 == d) es) here.1 (second_letters p d es (all_tail (λ e. (e.0 < p) × IsLetter e.1) e es a))

by_letters : {S : Type 0} (R : LetterRules S) → LetterLaws R → (p : ℕ) (ss : List S) (d f : ℕ) → All (Ranked R p) ss → All IsLetter (letters_by R ss d f)
by_letters R laws p ss d f a =
    elim (cases_lt f (length ss)) [
      | inl low ↦
          let t : (t : _) × (slice_get ss f ≡ Some t) = find ss f low in
          subst (λ o. All IsLetter (letters_to_of R o d)) (sym t.1) (second_letters (R.ranks t.0) d (R.letters t.0) (laws.emits t.0 (ranked_at R p ss f t.0 a t.1).0))
      | inr past ↦ subst (λ o. All IsLetter (letters_to_of R o d)) (sym (slice_get_past ss f past)) (All-nil IsLetter)
    ]

letters_ext : {S : Type 0} (R : LetterRules S) (s : S) (xs ys : ℕ → List (List ℕ)) (n : ℕ) → ((f : ℕ) → xs f ≡ ys f) → letters_upto R s xs n ≡ letters_upto R s ys n
letters_ext R s xs ys zero h = refl
letters_ext R s xs ys (suc n) h =
    ap (λ t. absorb_letters R t n (xs n)) (letters_ext R s xs ys n h) ∙ ap (absorb_letters R (letters_upto R s ys n) n) (h n)

-- one rank after the absorbs of a round
absorbed_one : {S : Type 0} (R : LetterRules S) → LetterLaws R → (ss : List S) (s : S) → All (Ranked R (length ss)) ss → R.ranks s ≡ length ss
    → (absorb_upto (mail_rules R) (mailing R s) (emitted_by (mail_rules R) (map (mailing R) ss) (R.rank s)) (length (map (mailing R) ss))).inner ≡ letters_upto R s (letters_by R ss (R.rank s)) (length ss)
absorbed_one {S} R laws ss s a ranks =
    let lists : ℕ → List Item = emitted_by (mail_rules R) (map (mailing R) ss) (R.rank s) in
    ap (λ n. (absorb_upto (mail_rules R) (mailing R s) lists n).inner) (length-map ss (mailing R))
    ∙ (after_upto R s lists (length ss) (subst (λ n. n ≤ R.ranks s) ranks (omega arith))).inner
    ∙ letters_ext R s (λ f. letters_of (lists f)) (letters_by R ss (R.rank s)) (length ss)
    (λ f. ap letters_of (sent_by R ss (R.rank s) f) ∙ spellings_are_read (letters_by R ss (R.rank s) f) (by_letters R laws (length ss) ss (R.rank s) f a))

map_thrice : {S T U : Type 0} (f : T → U) (g : T → T) (k : S → T) (h : S → U) (ss : List S) → All (λ s. f (g (k s)) ≡ h s) ss → map f (map g (map k ss)) ≡ map h ss
map_thrice f g k h [] a = refl
map_thrice f g k h (s ∷ ss) a =
    ap (λ x. x ∷ map f (map g (map k ss))) (all_head (λ s. f (g (k s)) ≡ h s) s ss a) ∙ ap (λ xs. h s ∷ xs) (map_thrice f g k h ss (all_tail (λ s. f (g (k s)) ≡ h s) s ss a))

abbrev inners : {S : Type 0} → List (MailState S) → List S
inners ts = map (λ t. t.inner) ts

inners_absorbed : {S : Type 0} (R : LetterRules S) → LetterLaws R → (ss : List S) → All (Ranked R (length ss)) ss → inners (absorbed_round (mail_rules R) (map (mailing R) ss)) ≡ letters_absorbed R ss
inners_absorbed {S} R laws ss a =
    map_thrice (λ (t : MailState S). t.inner)
    (λ t. absorb_upto (mail_rules R) t (emitted_by (mail_rules R) (map (mailing R) ss) (R.rank t.inner)) (length (map (mailing R) ss)))
    (mailing R) (λ s. letters_upto R s (letters_by R ss (R.rank s)) (length ss)) ss
    (λ k d l. absorbed_one R laws ss (get_or ss k d) a (a k d l).1)

vote_inners : {S : Type 0} (R : LetterRules S) (ts : List (MailState S)) → sum_by (λ t. R.vote t.inner) ts ≡ sum_by R.vote (inners ts)
vote_inners R [] = refl
vote_inners R (t ∷ ts) =
    sum_by-cons (λ u. R.vote u.inner) t ts ∙ ap (λ n. R.vote t.inner + n) (vote_inners R ts) ∙ sym (sum_by-cons R.vote t.inner (inners ts))

end_inners : {S : Type 0} (R : LetterRules S) (votes : ℕ) (ts : List (MailState S)) → map (λ t. mailing R (R.ended t.inner votes)) ts ≡ map (mailing R) (map (λ s. R.ended s votes) (inners ts))
end_inners R votes [] = refl
end_inners R votes (t ∷ ts) = ap (λ xs. mailing R (R.ended t.inner votes) ∷ xs) (end_inners R votes ts)

votes_same : {S : Type 0} (R : LetterRules S) → LetterLaws R → (ss : List S) → All (Ranked R (length ss)) ss → vote_sum (mail_rules R) (absorbed_round (mail_rules R) (map (mailing R) ss)) ≡ letter_votes R (letters_absorbed R ss)
votes_same R laws ss a =
    ap (λ n. min n (2 ^ 64 - 1)) (vote_inners R (absorbed_round (mail_rules R) (map (mailing R) ss)) ∙ ap (sum_by R.vote) (inners_absorbed R laws ss a))

round_same : {S : Type 0} (R : LetterRules S) → LetterLaws R → (ss : List S) → All (Ranked R (length ss)) ss → after_whole_round (mail_rules R) (map (mailing R) ss) ≡ map (mailing R) (letter_round R ss)
round_same {S} R laws ss a =
    let ts : List (MailState S) = absorbed_round (mail_rules R) (map (mailing R) ss) in
    end_inners R (vote_sum (mail_rules R) ts) ts
    ∙ ap (λ is. map (mailing R) (map (λ s. R.ended s (vote_sum (mail_rules R) ts)) is)) (inners_absorbed R laws ss a)
    ∙ ap (λ v. map (mailing R) (map (λ s. R.ended s v) (letters_absorbed R ss))) (votes_same R laws ss a)

-- ---- A run

starts_in_round : {S : Type 0} (R : LetterRules S) → LetterLaws R → (p n : ℕ) (shape : List ℕ) (most : ℕ) (ss : List S) → InLetterRound R p n shape most ss → InRound (mail_rules R) p n shape most (map (mailing R) ss)
starts_in_round {S} R laws p n shape most ss all =
    record {
      size = length-map ss (mailing R) ∙ all.size;
      each =
          λ r t e.
          let s : (s : S) × (slice_get ss r ≡ Some s) × (mailing R s ≡ t) = got_map (mailing R) ss r t e in
          let here : LetterMember R p n shape most r s.0 = all.each r s.0 s.1 in
          subst (Member (mail_rules R) p n shape most r) s.2
          (record {
            valid = mailing_valid R laws s.0 here.valid;
            own_rank = here.own_rank;
            all_ranks = here.all_ranks;
            same_round = here.same_round;
            same_shape = here.same_shape;
            same_most = here.same_most;
          });
    }

-- the letter programs of a round of mailers
ranked : {S : Type 0} (R : LetterRules S) (p n : ℕ) (shape : List ℕ) (most : ℕ) (ss : List S) → InRound (mail_rules R) p n shape most (map (mailing R) ss) → All (Ranked R (length ss)) ss
ranked R p n shape most ss all =
    all_from_gets (Ranked R (length ss)) ss
    (λ r s e.
    let here : Member (mail_rules R) p n shape most r (mailing R s) = all.each r (mailing R s) (get_map (mailing R) ss r s e) in
    (here.valid.inner, here.all_ranks ∙ sym all.size ∙ length-map ss (mailing R)))

-- round n of a run
record AtRound {S : Type 0} (R : LetterRules S) (starts : List S) (n : ℕ) : Type 0 where
  states : states_at (mail_rules R) (map (mailing R) starts) n ≡ map (mailing R) (letter_states R starts n)
  all : All (Ranked R (length (letter_states R starts n))) (letter_states R starts n)

at_round : {S : Type 0} (R : LetterRules S) → LetterLaws R → (p : ℕ) (shape : List ℕ) (most : ℕ) (starts : List S) (n : ℕ) → InRound (mail_rules R) p 0 shape most (map (mailing R) starts) → AtRound R starts n
at_round R laws p shape most starts zero all = record { states = refl; all = ranked R p 0 shape most starts all }
at_round R laws p shape most starts (suc n) all =
    let before : AtRound R starts n = at_round R laws p shape most starts n all in
    let states : states_at (mail_rules R) (map (mailing R) starts) (suc n) ≡ map (mailing R) (letter_states R starts (suc n)) =
    ap (after_whole_round (mail_rules R)) before.states ∙ round_same R laws (letter_states R starts n) before.all in
    record {
      states = states;
      all =
          ranked R p (min (suc n) (2 ^ 64 - 1)) shape most (letter_states R starts (suc n))
          (subst (InRound (mail_rules R) p (min (suc n) (2 ^ 64 - 1)) shape most) states (in_round_at (mail_rules R) (mail_laws R laws) p shape most (map (mailing R) starts) (suc n) all));
    }

votes_at_same : {S : Type 0} (R : LetterRules S) → LetterLaws R → (starts : List S) (n : ℕ) → AtRound R starts n → votes_at (mail_rules R) (map (mailing R) starts) n ≡ letter_votes_at R starts n
votes_at_same R laws starts n here =
    ap (λ ts. vote_sum (mail_rules R) (absorbed_round (mail_rules R) ts)) here.states ∙ votes_same R laws (letter_states R starts n) here.all

shape_same : {S : Type 0} (R : LetterRules S) (starts : List S) → shape_of (mail_rules R) (map (mailing R) starts) ≡ letter_shape R starts
shape_same R [] = refl
shape_same R (s ∷ ss) = refl

goes_same : {S : Type 0} (R : LetterRules S) → LetterLaws R → (starts : List S) (n : ℕ) → AtRound R starts n
    → R.goes_on (shape_of (mail_rules R) (map (mailing R) starts)) n (votes_at (mail_rules R) (map (mailing R) starts) n) ≡ R.goes_on (letter_shape R starts) n (letter_votes_at R starts n)
goes_same R laws starts n here =
    ap (λ a. R.goes_on a n (votes_at (mail_rules R) (map (mailing R) starts) n)) (shape_same R starts) ∙ ap (R.goes_on (letter_shape R starts) n) (votes_at_same R laws starts n here)

pub mailers_run_letters : {S : Type 0} (R : LetterRules S) → LetterLaws R → MailersRunLetters R
mailers_run_letters {S} R laws p shape most starts begin =
    let all : InRound (mail_rules R) p 0 shape most (map (mailing R) starts) = starts_in_round R laws p 0 shape most starts begin in
    let at : (n : ℕ) → AtRound R starts n = λ n. at_round R laws p shape most starts n all in
    let back : (n : ℕ) → HasRounds (mail_rules R) (map (mailing R) starts) n → HasLetterRounds R starts n =
    λ n h. record { some = h.some; goes = λ m l. sym (goes_same R laws starts m (at m)) ∙ h.goes m l; stops = sym (goes_same R laws starts (n - 1) (at (n - 1))) ∙ h.stops } in
    record {
      in_round = all;
      states = λ n. (at n).states;
      sent = λ n to from. sent_by R (letter_states R starts n) to from;
      votes = λ n. votes_at_same R laws starts n (at n);
      rounds = λ n h. record { some = h.some; goes = λ m l. goes_same R laws starts m (at m) ∙ h.goes m l; stops = goes_same R laws starts (n - 1) (at (n - 1)) ∙ h.stops };
      rounds_back = back;
      ended = λ ends h. (h.rounds, back h.rounds h.has_rounds, h.states ∙ (at h.rounds).states);
    }
