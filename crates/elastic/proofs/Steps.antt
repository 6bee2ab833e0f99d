-- What the steps of the code leave.
use Rattle.std.proofs.Common.{ℕ, suc, ◌+◌, ◌-◌, ◌/◌, ◌^◌, ◌<◌, ◌≡◌, cond, List, [], ◌∷◌, ◌++◌, Some, Result, Ok, Err, OnOk, OnErr, map, length, get_or, set, take, drop, replicate, slice_get, All, arith, refl, sym, ap, ◌∙◌, subst}
use Rattle.std.specs.Int.{w64, to_le_bytes}
use Rattle.std.specs.List.{flat_map}
use Rattle.std.proofs.lemmas.List.{append-nil, append_assoc, drop_more, set_at, length-replicate, length-drop, replicate-append-replicate, take_more}
use Rattle.std.proofs.lemmas.Option.{get_or_from_slice_get}
use Rattle.bale_items.specs.declared.Item.{Item}
use Rattle.round_program.specs.Laws.{IsItem}
use Rattle.list_laws.proofs.Lists.{find, get_map, get_once, map_set}
use Rattle.elastic.specs.Spelling.{IsLetter, next_item, next_items, spelling, length_in, bytes_in, letter_from}
use Rattle.elastic.specs.LetterRules.{LetterRules}
use Rattle.elastic.specs.LetterLaws.{LetterLaws, SameLetters, NextLetters, StillSends}
use Rattle.elastic.specs.Mails.{MailState, IsMail, spelling_of, is_whole, begun_after}
use Rattle.elastic.specs.laws.MailLaws.{spelled_sent, mail_kept}

-- ---- Reading

-- three words behind a list
pub three_words : (l₀ l₁ l₂ l₃ a b c x y z : List ℕ) → l₁ ≡ l₀ ++ a → l₂ ≡ l₁ ++ b → l₃ ≡ l₂ ++ c → a ≡ x → b ≡ y → c ≡ z → l₃ ≡ l₀ ++ (x ++ (y ++ z))
three_words l₀ l₁ l₂ l₃ a b c x y z e₁ e₂ e₃ ea eb ec =
    e₃ ∙ ap (λ l. l ++ c) (e₂ ∙ ap (λ l. l ++ b) e₁) ∙ append_assoc (l₀ ++ a) b c ∙ append_assoc l₀ a (b ++ c)
    ∙ ap (λ l. l₀ ++ (l ++ (b ++ c))) ea ∙ ap (λ l. l₀ ++ (x ++ (l ++ c))) eb ∙ ap (λ l. l₀ ++ (x ++ (y ++ l))) ec

-- one more item's bytes
pub more_bytes : (items : List Item) (i : ℕ) (d : Item) (old new total : List ℕ) → i < length items → new ≡ old ++ bytes_in (get_or items i d)
    → old ++ flat_map bytes_in (drop i items) ≡ total → new ++ flat_map bytes_in (drop (i + 1) items) ≡ total
more_bytes items i d old new total low e so_far =
    ap (λ l. l ++ flat_map bytes_in (drop (i + 1) items)) e ∙ append_assoc old (bytes_in (get_or items i d)) (flat_map bytes_in (drop (i + 1) items))
    ∙ ap (λ xs. old ++ flat_map bytes_in xs) (sym (drop_more items i d low)) ∙ so_far

-- a letter from its words
pub letter_made : (x : Item) (xs : List Item) (l₀ l₁ l₂ l₃ l₄ b c : List ℕ) → l₀ ≡ [] → l₁ ≡ l₀ ++ b → l₂ ≡ l₁ ++ c → l₃ ≡ l₂ ++ flat_map bytes_in xs → l₄ ≡ take (length_in x) l₃
    → b ≡ to_le_bytes w64 x.b → c ≡ to_le_bytes w64 x.c → l₄ ≡ letter_from x xs
letter_made x xs l₀ l₁ l₂ l₃ l₄ b c e₀ e₁ e₂ e₃ e₄ eb ec =
    let all : l₃ ≡ b ++ (c ++ flat_map bytes_in xs) =
    e₃ ∙ ap (λ l. l ++ flat_map bytes_in xs) (e₂ ∙ ap (λ l. l ++ c) (e₁ ∙ ap (λ l. l ++ b) e₀)) ∙ append_assoc b c (flat_map bytes_in xs) in
    e₄ ∙ ap (take (length_in x)) (all ∙ ap (λ l. l ++ (c ++ flat_map bytes_in xs)) eb ∙ ap (λ l. to_le_bytes w64 x.b ++ (l ++ flat_map bytes_in xs)) ec)

-- what all senders have begun, after one sender's list was changed
pub seen_after : {X : Type 0} (f : X → List Item) (xs : List X) (i : ℕ) (x y : X) (item : Item) → slice_get xs i ≡ Some x → f y ≡ cond (is_whole (f x ++ item ∷ [])) [] (f x ++ item ∷ [])
    → map f (set xs i y) ≡ begun_after (map f xs) i item
seen_after f xs i x y item at e =
    let here : get_or (map f xs) i [] ≡ f x = get_or_from_slice_get (map f xs) i (f x) [] (get_map f xs i x at) in
    map_set f xs i y
    ∙ ap (set (map f xs) i) (e ∙ ap (λ l. cond (is_whole (l ++ item ∷ [])) [] (l ++ item ∷ [])) (sym here))

-- one more sender's list was emptied
pub cleared_more : (xs now new : List (List Item)) (k : ℕ) → now ≡ replicate k [] ++ drop k xs → k < length xs → new ≡ set now k [] → new ≡ replicate (k + 1) [] ++ drop (k + 1) xs
cleared_more xs now new k so_far low e =
    e ∙ ap (λ l. set l k []) (so_far ∙ ap (λ l. replicate k [] ++ l) (drop_more xs k [] low))
    ∙ set_at (replicate k []) (get_or xs k []) (drop (k + 1) xs) [] k (length-replicate k [])
    ∙ sym (append_assoc (replicate k []) ([] ∷ []) (drop (k + 1) xs))
    ∙ ap (λ l. l ++ drop (k + 1) xs) (replicate-append-replicate k 1 [])

-- ---- Spelling

-- one more item of a letter
pub spell_more : (to : ℕ) (old new total : List (ℕ × Item)) (rest next : List ℕ) → 0 < length rest → new ≡ old ++ (to, next_item rest) ∷ [] → next ≡ drop 24 rest
    → old ++ map (λ x. (to, x)) (next_items ((length rest + 23) / 24) rest) ≡ total
    → new ++ map (λ x. (to, x)) (next_items ((length next + 23) / 24) next) ≡ total
spell_more to old new total rest next some e n so_far =
    let len : length (drop 24 rest) ≡ length rest - 24 = length-drop 24 rest in
    let count : (length rest + 23) / 24 ≡ suc ((length (drop 24 rest) + 23) / 24) = omega arith in
    ap (λ w. new ++ map (λ x. (to, x)) (next_items ((length w + 23) / 24) w)) n
    ∙ ap (λ l. l ++ map (λ x. (to, x)) (next_items ((length (drop 24 rest) + 23) / 24) (drop 24 rest))) e
    ∙ append_assoc old ((to, next_item rest) ∷ []) (map (λ x. (to, x)) (next_items ((length (drop 24 rest) + 23) / 24) (drop 24 rest)))
    ∙ ap (λ k. old ++ map (λ x. (to, x)) (next_items k rest)) (sym count) ∙ so_far

spelled_append : (xs ys : List (ℕ × List ℕ)) → spelling_of (xs ++ ys) ≡ spelling_of xs ++ spelling_of ys
spelled_append [] ys = refl
spelled_append (x ∷ xs) ys =
    ap (λ l. map (λ i. (x.0, i)) (spelling x.1) ++ l) (spelled_append xs ys) ∙ sym (append_assoc (map (λ i. (x.0, i)) (spelling x.1)) (spelling_of xs) (spelling_of ys))

-- one more letter
pub spelled_more : (letters : List (ℕ × List ℕ)) (i to : ℕ) (l : List ℕ) (old new : List (ℕ × Item)) → i < length letters → slice_get (map (λ e. e.0) letters) i ≡ Some to → slice_get (map (λ e. e.1) letters) i ≡ Some l
    → old ≡ spelling_of (take i letters) → new ≡ old ++ map (λ x. (to, x)) (spelling l) → new ≡ spelling_of (take (i + 1) letters)
spelled_more letters i to l old new low a b so_far e =
    let w : (w : ℕ × List ℕ) × (slice_get letters i ≡ Some w) = find letters i low in
    let first : to ≡ w.0.0 = get_once (map (λ e. e.0) letters) i to w.0.0 a (get_map (λ e. e.0) letters i w.0 w.1) in
    let second : l ≡ w.0.1 = get_once (map (λ e. e.1) letters) i l w.0.1 b (get_map (λ e. e.1) letters i w.0 w.1) in
    let more : take (i + 1) letters ≡ take i letters ++ w.0 ∷ [] = take_more letters i w.0 low ∙ ap (λ x. take i letters ++ x ∷ []) (get_or_from_slice_get letters i w.0 w.0 w.1) in
    e ∙ ap (λ k. old ++ map (λ x. (k, x)) (spelling l)) first ∙ ap (λ m. old ++ map (λ x. (w.0.0, x)) (spelling m)) second
    ∙ ap (λ m. m ++ map (λ x. (w.0.0, x)) (spelling w.0.1)) so_far
    ∙ sym (ap spelling_of more ∙ spelled_append (take i letters) (w.0 ∷ []) ∙ ap (λ m. spelling_of (take i letters) ++ m) (append-nil (map (λ x. (w.0.0, x)) (spelling w.0.1))))

-- ---- Handing over

-- whatever an absorb answered, the rank is the same
pub still_rank : {S T E : Type 0} (R : LetterRules S) → LetterLaws R → (i t : S) (f : ℕ) (l : List ℕ) (r : Result T E) → R.valid i → f < R.ranks i → IsLetter l → OnOk r (t ≡ R.absorbed i f l) → OnErr r (StillSends R i t)
    → (R.rank t ≡ R.rank i) × (R.ranks t ≡ R.ranks i)
still_rank R laws i t f l (Ok x) v low is ok err =
    let k : SameLetters R i (R.absorbed i f l) = laws.keeps i f l v low is in (ap R.rank ok ∙ k.rank, ap R.ranks ok ∙ k.ranks)
still_rank R laws i t f l (Err e) v low is ok err = (err.rank, err.ranks)

-- ---- Mailers, from their fields

-- one as it is made
pub made_valid : {S : Type 0} (R : LetterRules S) → LetterLaws R → (s : S) (outgoing : List (ℕ × Item)) (begun : List (List Item)) → R.valid s → outgoing ≡ spelling_of (R.letters s) → begun ≡ replicate (R.ranks s) []
    → IsMail R (record { inner = s; outgoing = outgoing; begun = begun })
made_valid R laws s outgoing begun v e b =
    record {
      inner = v;
      own = laws.own s v;
      sent = subst (All (λ (e : ℕ × Item). (e.0 < R.ranks s) × IsItem e.1)) (sym e) (spelled_sent (R.ranks s) (R.letters s) (laws.emits s v));
      senders = ap length b ∙ length-replicate (R.ranks s) [];
    }

-- and one whose round has ended
pub ended_valid : {S : Type 0} (R : LetterRules S) → LetterLaws R → (s : MailState S) (t : S) (votes n : ℕ) (outgoing : List (ℕ × Item)) (begun : List (List Item)) → IsMail R s → votes < 2 ^ 64 → R.valid t
    → t ≡ R.ended s.inner votes → outgoing ≡ spelling_of (R.letters t) → n ≡ length s.begun → begun ≡ replicate n [] → IsMail R (record { inner = t; outgoing = outgoing; begun = begun })
ended_valid R laws s t votes n outgoing begun m low v e o len b =
    let k : NextLetters R s.inner (R.ended s.inner votes) = laws.next s.inner votes m.inner low in
    made_valid R laws t outgoing begun v o (b ∙ ap (λ i. replicate i []) (len ∙ m.senders ∙ sym (ap R.ranks e ∙ k.ranks)))

-- one that took an item in, whatever its letter program answered
pub taken_valid : {S T E : Type 0} (R : LetterRules S) → LetterLaws R → (s : MailState S) (t : S) (f : ℕ) (l : List ℕ) (r : Result T E) (begun : List (List Item)) → IsMail R s → f < R.ranks s.inner → IsLetter l → R.valid t
    → OnOk r (t ≡ R.absorbed s.inner f l) → OnErr r (StillSends R s.inner t) → length begun ≡ length s.begun → IsMail R (record s { inner = t; begun = begun })
taken_valid R laws s t f l r begun m low is v ok err len =
    let same : (R.rank t ≡ R.rank s.inner) × (R.ranks t ≡ R.ranks s.inner) = still_rank R laws s.inner t f l r m.inner low is ok err in
    mail_kept R s t begun m v same.0 same.1 len
