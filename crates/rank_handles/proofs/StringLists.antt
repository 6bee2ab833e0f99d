-- Strings pushed, pending and pulled, by the exchange machine's lists.
use Rattle.std.proofs.Common.{◌≡◌, ◌≢◌, ℕ, zero, suc, ◌+◌, ◌-◌, ◌<◌, ◌==◌, ◌&&◌, Bool, true, false, cond, List, [], ◌∷◌, ◌++◌, map, length, take, get_or, set, replicate, Option, Some, None, arith, refl, sym, ap, ◌∙◌, subst, inl, inr}
use Rattle.std.specs.List.{flat_map, filter}
use Rattle.std.proofs.lemmas.Bool.{cases_eq, eq-eqb, ne_eqb, eqb-true, and_parts}
use Rattle.std.proofs.lemmas.List.{append_assoc, append-nil, length-append, take_at, get_or-set_same, get_or-set_other}
use Rattle.std.proofs.lemmas.List.Elements.{All-nil, All-cons, All-append}
use Rattle.std.proofs.lemmas.Grind.{flat_map-append}
use Rattle.bale_items.specs.declared.item.Item.{Item}
use Rattle.port_bank.specs.Machine.{Part, Step, ItemLists, after, taken_back}
use Rattle.port_bank.specs.Machine.Step.{Push, Pull, Unpull, Done, Complete, Reset, Idle}
use Rattle.convey.specs.Progress.{advance_step}
use Rattle.round_program.specs.Canonical.{items_of}
use Rattle.elastic.specs.Spelling.{IsLetter, spelling, letters_of}
use Rattle.elastic.specs.Mails.{is_whole, letter_of, with_next_item, begun_after}
use Rattle.elastic.specs.code.Begun.{begun_items}
use Rattle.elastic.proofs.Letters.{left_more, letters_more, spellings_are_read}
use Rattle.elastic.proofs.Runs.{one_letter}
use Rattle.rank_handles.specs.Many.{after_all}
use Rattle.rank_handles.specs.Strings.{pushed_with, strings_of, with_string}
use Rattle.rank_handles.specs.ElasticKept.{AreStrings, IsAhead}

eq_swap : (a b : ℕ) → (a == b) ≡ (b == a)
eq_swap a b =
    elim (cases_eq a b) [
      | inl e ↦ eq-eqb a b e ∙ sym (eq-eqb b a (sym e))
      | inr n ↦ ne_eqb a b n ∙ sym (ne_eqb b a (λ q. n (sym q)))
    ]

pub nothing_either : {X : Type 0} (b : Bool) → ◌≡◌ {A = List X} (cond b [] []) []
nothing_either true = refl
nothing_either false = refl

pub replicate_or : {X : Type 0} (n i : ℕ) (x : X) → get_or (replicate n x) i x ≡ x
replicate_or zero i x = refl
replicate_or (suc n) zero x = refl
replicate_or (suc n) (suc i) x = replicate_or n i x

-- ---- Pushing what is pending

first_case : (b : Bool) (e : ℕ × Item) (es : List (ℕ × Item)) → map (λ x. x.1) (cond b (e ∷ es) es) ≡ cond b (e.1 ∷ map (λ x. x.1) es) (map (λ x. x.1) es)
first_case true e es = refl
first_case false e es = refl

items_first : (r : ℕ) (e : ℕ × Item) (es : List (ℕ × Item)) → items_of r (e ∷ es) ≡ cond (e.0 == r) (e.1 ∷ items_of r es) (items_of r es)
items_first r e es = first_case (e.0 == r) e (filter (λ x. x.0 == r) es)

push_case : (b c : Bool) (xs ys : List Item) (x : Item) → cond (b && c) (xs ++ x ∷ []) xs ++ cond b ys [] ≡ xs ++ cond b (cond c (x ∷ ys) ys) []
push_case true true xs ys x = append_assoc xs (x ∷ []) ys
push_case true false xs ys x = refl
push_case false c xs ys x = refl

-- an item that is pushed isn't pending any more
pub pushed_one : (p : Part) (d : ℕ) (x : Item) (rest : List (ℕ × Item)) → pushed_with (after (Push d x) p) rest ≡ pushed_with p ((d, x) ∷ rest)
pushed_one p d x rest = λ i e r. (
    push_case (e == p.epoch) (r == d) (p.pushed e r) (items_of r rest) x
    ∙ ap (λ l. p.pushed e r ++ cond (e == p.epoch) l []) (ap (λ b. cond b (x ∷ items_of r rest) (items_of r rest)) (eq_swap r d) ∙ sym (items_first r (d, x) rest))) i

-- parts whose pushed items and epoch are the same
pub pushed_same : (p q : Part) (pending : List (ℕ × Item)) → q.epoch ≡ p.epoch → q.pushed ≡ p.pushed → pushed_with q pending ≡ pushed_with p pending
pushed_same p q pending epoch pushed = λ i e r. pushed i e r ++ cond (e == epoch i) (items_of r pending) []

-- the epoch is no matter where nothing is pending
pub pushed_none : (p q : Part) → q.pushed ≡ p.pushed → pushed_with q [] ≡ pushed_with p []
pushed_none p q pushed = λ i e r. (ap (λ l. q.pushed e r ++ l) (nothing_either (e == q.epoch)) ∙ ap (λ (f : ItemLists). f e r ++ []) pushed ∙ sym (ap (λ l. p.pushed e r ++ l) (nothing_either (e == p.epoch)))) i

-- ---- What a string adds

pub strings_more : (xs : List Item) (l : List ℕ) → AreStrings xs → IsLetter l → letters_of (xs ++ spelling l) ≡ letters_of xs ++ l ∷ []
strings_more xs l are is =
    let ls = are.strings in
    let one : flat_map spelling (l ∷ []) ≡ spelling l = append-nil (spelling l) in
    let all : xs ++ spelling l ≡ flat_map spelling (ls ++ l ∷ []) = ap (λ m. m ++ spelling l) are.is ∙ ap (λ m. flat_map spelling ls ++ m) (sym one) ∙ sym (flat_map-append spelling ls (l ∷ [])) in
    ap letters_of all
    ∙ spellings_are_read (ls ++ l ∷ []) (All-append IsLetter ls (l ∷ []) are.short (All-cons IsLetter l [] is (All-nil IsLetter)))
    ∙ ap (λ m. m ++ l ∷ []) (sym (spellings_are_read ls are.short) ∙ sym (ap letters_of are.is))

pub with_spelling : (xs : List Item) (l : List ℕ) → AreStrings xs → IsLetter l → AreStrings (xs ++ spelling l)
with_spelling xs l are is =
    record {
      strings = are.strings ++ l ∷ [];
      short = All-append IsLetter are.strings (l ∷ []) are.short (All-cons IsLetter l [] is (All-nil IsLetter));
      is = ap (λ m. m ++ spelling l) are.is ∙ ap (λ m. flat_map spelling are.strings ++ m) (sym (append-nil (spelling l))) ∙ sym (flat_map-append spelling are.strings (l ∷ []));
    }

pub no_strings : AreStrings []
no_strings = record { strings = []; short = All-nil IsLetter; is = refl }

-- the items of a string that is pending, and nothing was before it
spelled_case : (b c : Bool) (xs ys : List Item) → xs ++ cond b (cond c ys []) [] ≡ cond (b && c) (xs ++ ys) (xs ++ cond b [] [])
spelled_case true true xs ys = refl
spelled_case true false xs ys = refl
spelled_case false c xs ys = refl

spelled_at : (p : Part) (to : ℕ) (l : List ℕ) (e r : ℕ)
    → pushed_with p (map (λ x. (to, x)) (spelling l)) e r ≡ cond ((e == p.epoch) && (r == to)) (p.pushed e r ++ spelling l) (pushed_with p [] e r)
spelled_at p to l e r =
    ap (λ m. p.pushed e r ++ cond (e == p.epoch) m []) (one_letter r to (spelling l) ∙ ap (λ b. cond b (spelling l) []) (eq_swap to r))
    ∙ spelled_case (e == p.epoch) (r == to) (p.pushed e r) (spelling l)

pub none_at : (p : Part) (e r : ℕ) → pushed_with p [] e r ≡ p.pushed e r
none_at p e r = ap (λ m. p.pushed e r ++ m) (nothing_either (e == p.epoch)) ∙ append-nil (p.pushed e r)

string_case : (b : Bool) (xs ys : List Item) (l : List ℕ) → xs ≡ ys → (b ≡ true → letters_of (xs ++ spelling l) ≡ letters_of xs ++ l ∷ [])
    → letters_of (cond b (xs ++ spelling l) ys) ≡ cond b (letters_of ys ++ l ∷ []) (letters_of ys)
string_case true xs ys l e more = more refl ∙ ap (λ m. letters_of m ++ l ∷ []) e
string_case false xs ys l e more = refl

-- as strings
pub strings_pending : (p : Part) (to : ℕ) (l : List ℕ) → ((r : ℕ) → AreStrings (pushed_with p [] p.epoch r)) → IsLetter l
    → strings_of (pushed_with p (map (λ x. (to, x)) (spelling l))) ≡ with_string (strings_of (pushed_with p [])) p.epoch to l
strings_pending p to l whole is = λ i e r. (
    ap letters_of (spelled_at p to l e r)
    ∙ string_case ((e == p.epoch) && (r == to)) (p.pushed e r) (pushed_with p [] e r) l (sym (none_at p e r)) (λ here.
    let now : e ≡ p.epoch = eqb-true e p.epoch (and_parts (e == p.epoch) (r == to) here).0 in
    let are : AreStrings (p.pushed e r) = subst (λ (n : ℕ). AreStrings (p.pushed n r)) (sym now) (subst AreStrings (none_at p p.epoch r) (whole r)) in
    strings_more (p.pushed e r) l are is)) i

whole_case : (b : Bool) (xs ys zs : List Item) → AreStrings xs → AreStrings ys → AreStrings (cond b xs ys)
whole_case true xs ys zs a b = a
whole_case false xs ys zs a b = b

pub whole_pending : (p : Part) (to : ℕ) (l : List ℕ) → ((r : ℕ) → AreStrings (pushed_with p [] p.epoch r)) → IsLetter l
    → (r : ℕ) → AreStrings (pushed_with p (map (λ x. (to, x)) (spelling l)) p.epoch r)
whole_pending p to l whole is r =
    subst AreStrings (sym (spelled_at p to l p.epoch r))
    (whole_case ((p.epoch == p.epoch) && (r == to)) (p.pushed p.epoch r ++ spelling l) (pushed_with p [] p.epoch r) []
    (with_spelling (p.pushed p.epoch r) l (subst AreStrings (none_at p p.epoch r) (whole r)) is) (whole r))

-- ---- Reading one item

one_case : (b : Bool) (xs : List Item) (x : Item) (l : List ℕ) → (b ≡ true → letters_of (xs ++ x ∷ []) ≡ letters_of xs ++ l ∷ [])
    → letters_of (cond b (xs ++ x ∷ []) xs) ≡ cond b (letters_of xs ++ l ∷ []) (letters_of xs)
one_case true xs x l more = more refl
one_case false xs x l more = refl

none_case : (b : Bool) (xs : List Item) (x : Item) → (b ≡ true → letters_of (xs ++ x ∷ []) ≡ letters_of xs) → letters_of (cond b (xs ++ x ∷ []) xs) ≡ letters_of xs
none_case true xs x same = same refl
none_case false xs x same = refl

-- what each sender has begun, as the lists of items pulled say
abbrev pub BegunAs : Part → List (List Item) → Type 0
BegunAs p begun = (r : ℕ) → get_or begun r [] ≡ begun_items [] (p.pulled p.epoch r)

read_by : (p : Part) (begun : List (List Item)) (f : ℕ) (x : Item) (whole : Bool) → BegunAs p begun → is_whole (with_next_item begun f x) ≡ whole → (e r : ℕ) → ((e == p.epoch) && (r == f)) ≡ true
    → letters_of (p.pulled e r ++ x ∷ []) ≡ letters_of (p.pulled e r) ++ cond whole (letter_of (with_next_item begun f x) ∷ []) []
read_by p begun f x whole known is e r here =
    let parts = and_parts (e == p.epoch) (r == f) here in
    let now : e ≡ p.epoch = eqb-true e p.epoch parts.0 in
    let from : r ≡ f = eqb-true r f parts.1 in
    let was : begun_items [] (p.pulled e r) ≡ get_or begun f [] = (λ i. begun_items [] (p.pulled (now i) (from i))) ∙ sym (known f) in
    letters_more (p.pulled e r) x
    ∙ ap (λ (b : List Item). letters_of (p.pulled e r) ++ cond (is_whole (b ++ x ∷ [])) (letter_of (b ++ x ∷ []) ∷ []) []) was
    ∙ ap (λ (b : Bool). letters_of (p.pulled e r) ++ cond b (letter_of (with_next_item begun f x) ∷ []) []) is

pub read_whole : (p : Part) (begun : List (List Item)) (f : ℕ) (x : Item) → BegunAs p begun → is_whole (with_next_item begun f x) ≡ true
    → strings_of (after (Pull f x) p).pulled ≡ with_string (strings_of p.pulled) p.epoch f (letter_of (with_next_item begun f x))
read_whole p begun f x known is = λ i e r. (
    one_case ((e == p.epoch) && (r == f)) (p.pulled e r) x (letter_of (with_next_item begun f x)) (read_by p begun f x true known is e r)) i

pub read_part : (p : Part) (begun : List (List Item)) (f : ℕ) (x : Item) → BegunAs p begun → is_whole (with_next_item begun f x) ≡ false
    → strings_of (after (Pull f x) p).pulled ≡ strings_of p.pulled
read_part p begun f x known is = λ i e r. (
    none_case ((e == p.epoch) && (r == f)) (p.pulled e r) x (λ here. read_by p begun f x false known is e r here ∙ append-nil (letters_of (p.pulled e r)))) i

at_once : (e r f : ℕ) → r ≡ f → ((e == e) && (r == f)) ≡ true
at_once e r f is = ap (λ b. b && (r == f)) (eq-eqb e e refl) ∙ eq-eqb r f is

elsewhere : (e r f : ℕ) → r ≢ f → ((e == e) && (r == f)) ≡ false
elsewhere e r f isnt = ap (λ b. b && (r == f)) (eq-eqb e e refl) ∙ ne_eqb r f isnt

pub begun_as_pulled : (p : Part) (begun : List (List Item)) (f : ℕ) (x : Item) → f < length begun → BegunAs p begun → BegunAs (after (Pull f x) p) (begun_after begun f x)
begun_as_pulled p begun f x low known r =
    let w : List Item = with_next_item begun f x in
    let v : List Item = cond (is_whole w) [] w in
    let old : List Item = p.pulled p.epoch r in
    elim (cases_eq r f) [
      | inl e ↦
          let here : get_or begun f [] ≡ begun_items [] old = known f ∙ ap (λ n. begun_items [] (p.pulled p.epoch n)) (sym e) in
          ap (λ n. get_or (set begun f v) n []) e ∙ get_or-set_same begun f v [] low
          ∙ ap (λ (b : List Item). cond (is_whole (b ++ x ∷ [])) [] (b ++ x ∷ [])) here
          ∙ sym (left_more [] old x)
          ∙ sym (ap (λ b. begun_items [] (cond b (old ++ x ∷ []) old)) (at_once p.epoch r f e))
      | inr n ↦
          get_or-set_other begun f r v [] n ∙ known r
          ∙ sym (ap (λ b. begun_items [] (cond b (old ++ x ∷ []) old)) (elsewhere p.epoch r f n))
    ]

-- ---- An item that is pulled and put back

back_case : (b : Bool) (xs : List Item) (x : Item)
    → cond b (take (length (cond b (xs ++ x ∷ []) xs) - 1) (cond b (xs ++ x ∷ []) xs)) (cond b (xs ++ x ∷ []) xs) ≡ xs
back_case true xs x =
    let len : length (xs ++ x ∷ []) ≡ length xs + 1 = length-append xs (x ∷ []) in
    let less : length (xs ++ x ∷ []) - 1 ≡ length xs = omega (arith, len) in
    ap (λ n. take n (xs ++ x ∷ [])) less ∙ take_at xs (x ∷ []) (length xs) refl
back_case false xs x = refl

pub put_back : (p : Part) (f : ℕ) (x : Item) → (after Unpull (after (Pull f x) p)).pulled ≡ p.pulled
put_back p f x = λ i e r. back_case ((e == p.epoch) && (r == f)) (p.pulled e r) x i

-- ---- Steps that push and pull nothing

pub advance_pushed : (was now complete : Bool) (p : Part) → (after (advance_step was now complete) p).pushed ≡ p.pushed
advance_pushed true true true p = refl
advance_pushed true true false p = refl
advance_pushed true false true p = refl
advance_pushed true false false p = refl
advance_pushed false true true p = refl
advance_pushed false true false p = refl
advance_pushed false false true p = refl
advance_pushed false false false p = refl

pub advance_pulled : (was now complete : Bool) (p : Part) → (after (advance_step was now complete) p).pulled ≡ p.pulled
advance_pulled true true true p = refl
advance_pulled true true false p = refl
advance_pulled true false true p = refl
advance_pulled true false false p = refl
advance_pulled false true true p = refl
advance_pulled false true false p = refl
advance_pulled false false true p = refl
advance_pulled false false false p = refl

pub advance_epoch : (was now complete : Bool) (p : Part) → (after (advance_step was now complete) p).epoch ≡ p.epoch
advance_epoch true true true p = refl
advance_epoch true true false p = refl
advance_epoch true false true p = refl
advance_epoch true false false p = refl
advance_epoch false true true p = refl
advance_epoch false true false p = refl
advance_epoch false false true p = refl
advance_epoch false false false p = refl

-- ---- Epochs ahead

not_now : (e n r d : ℕ) → n < e → ((e == n) && (r == d)) ≡ false
not_now e n r d low = ap (λ b. b && (r == d)) (ne_eqb e n (λ q. absurd (omega (arith, low, q))))

taken_ahead : (p : Part) (o : Option ℕ) → IsAhead p → (e r : ℕ) → p.epoch < e → taken_back p.pulled p.epoch o e r ≡ []
taken_ahead p None ahead e r low = (ahead e r low).1
taken_ahead p (Some s) ahead e r low =
    ap (λ b. cond b (take (length (p.pulled e r) - 1) (p.pulled e r)) (p.pulled e r)) (not_now e p.epoch r s low) ∙ (ahead e r low).1

ahead_step : (s : Step) (p : Part) → IsAhead p → IsAhead (after s p)
ahead_step (Push d x) p ahead e r low =
    (ap (λ b. cond b (p.pushed e r ++ x ∷ []) (p.pushed e r)) (not_now e p.epoch r d low) ∙ (ahead e r low).0, (ahead e r low).1)
ahead_step (Pull s x) p ahead e r low =
    ((ahead e r low).0, ap (λ b. cond b (p.pulled e r ++ x ∷ []) (p.pulled e r)) (not_now e p.epoch r s low) ∙ (ahead e r low).1)
ahead_step Unpull p ahead e r low = ((ahead e r low).0, taken_ahead p p.latest ahead e r low)
ahead_step Done p ahead e r low = ahead e r low
ahead_step Complete p ahead e r low = ahead e r low
ahead_step Reset p ahead e r low = let less : p.epoch < e = omega (arith, low) in ahead e r less
ahead_step Idle p ahead e r low = ahead e r low

pub ahead_all : (steps : List Step) (p : Part) → IsAhead p → IsAhead (after_all steps p)
unfolding after_all
ahead_all [] p ahead = ahead
ahead_all (s ∷ steps) p ahead = ahead_all steps (after s p) (ahead_step s p ahead)
