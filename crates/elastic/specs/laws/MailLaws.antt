-- A mailer over a lawful letter program is a lawful program.
use Rattle.std.proofs.Common.{ℕ, zero, suc, ◌/◌, ◌^◌, ◌<◌, ◌≤◌, ◌≡◌, ◌≢◌, Bool, true, false, if◌then◌else◌, List, []}
use Rattle.std.proofs.Common.{◌∷◌, ◌++◌}
use Rattle.std.proofs.Common.{map, length, get_or, set, take, drop, All, arith, refl, sym, ap, ◌∙◌, subst, lit<, lit≤}
use Rattle.std.specs.Int.{w64, to_le_bytes, byte_at, bytes_low_first}
use Rattle.std.specs.List.{flat_map}
use Rattle.std.proofs.Math.Nat.{mod-lt}
use Rattle.std.proofs.lemmas.Bool.Decides.{nat_tests}
use Rattle.std.proofs.lemmas.List.{length-set, length-replicate, length-take, get_or-set_other, set_comm}
use Rattle.std.proofs.lemmas.List.Elements.{All-nil, All-cons, All-append, All-map, All-take, All-drop}
use Rattle.bale_items.specs.declared.Item.{Item}
use Rattle.list_laws.proofs.Lists.{all_head, all_tail}
use Rattle.round_program.specs.Laws.{Laws, Fits, IsItem, SameRound, NextRound}
use Rattle.elastic.specs.Spelling.{IsLetter, pad, packed_word, further, letter_head, next_item, next_items, spelling}
use Rattle.elastic.specs.Spelling.{length_in, bytes_in, letter_from}
use Rattle.elastic.specs.LetterRules.{LetterRules}
use Rattle.elastic.specs.LetterLaws.{LetterLaws, SameLetters, NextLetters}
use Rattle.elastic.specs.Mails.{MailState, IsMail, mailing, mail_rules, spelling_of, is_whole, letter_of, with_next_item}
use Rattle.elastic.specs.Mails.{item_absorbed, may_carry}

-- ---- What is spelled are items

pad_bytes : (k : ℕ) (bytes : List ℕ) → All (λ b. b < 256) bytes → All (λ b. b < 256) (pad k bytes)
pad_bytes zero bytes a = All-nil (λ b. b < 256)
pad_bytes (suc k) [] a = All-cons (λ b. b < 256) 0 (pad k []) (lit< tt) (pad_bytes k [] a)
pad_bytes (suc k) (b ∷ bs) a =
    All-cons (λ b. b < 256) b (pad k bs) (all_head (λ b. b < 256) b bs a)
    (pad_bytes k bs (all_tail (λ b. b < 256) b bs a))

pub pad_len : (k : ℕ) (bytes : List ℕ) → length (pad k bytes) ≡ k
pad_len zero bytes = refl
pad_len (suc k) [] = ap suc (pad_len k [])
pad_len (suc k) (b ∷ bs) = ap suc (pad_len k bs)

-- a byte of a padded list, also past its end
pub padded_byte : (k : ℕ) (bytes : List ℕ) (i : ℕ) → All (λ b. b < 256) bytes → get_or (pad k bytes) i 0 < 256
padded_byte zero bytes i a = lit< tt
padded_byte (suc k) [] zero a = lit< tt
padded_byte (suc k) [] (suc i) a = padded_byte k [] i a
padded_byte (suc k) (b ∷ bs) zero a = all_head (λ b. b < 256) b bs a
padded_byte (suc k) (b ∷ bs) (suc i) a = padded_byte k bs i (all_tail (λ b. b < 256) b bs a)

word_below : (bytes : List ℕ) → All (λ b. b < 256) bytes → packed_word bytes < 2 ^ 64
word_below bytes a =
    let p : List ℕ = pad 8 bytes in
    let b0 : get_or p 0 0 < 256 = padded_byte 8 bytes 0 a in
    let b1 : get_or p 1 0 < 256 = padded_byte 8 bytes 1 a in
    let b2 : get_or p 2 0 < 256 = padded_byte 8 bytes 2 a in
    let b3 : get_or p 3 0 < 256 = padded_byte 8 bytes 3 a in
    let b4 : get_or p 4 0 < 256 = padded_byte 8 bytes 4 a in
    let b5 : get_or p 5 0 < 256 = padded_byte 8 bytes 5 a in
    let b6 : get_or p 6 0 < 256 = padded_byte 8 bytes 6 a in
    let b7 : get_or p 7 0 < 256 = padded_byte 8 bytes 7 a in
    omega arith

next_items_are : (k : ℕ) (bytes : List ℕ) → All (λ b. b < 256) bytes → All IsItem (next_items k bytes)
next_items_are zero bytes a = All-nil IsItem
next_items_are (suc k) bytes a =
    All-cons IsItem (next_item bytes) (next_items k (drop 24 bytes)) (
      word_below bytes a,
      word_below (drop 8 bytes) (All-drop (λ b. b < 256) 8 bytes a),
      word_below (drop 16 bytes) (All-drop (λ b. b < 256) 16 bytes a),
    )
    (next_items_are k (drop 24 bytes) (All-drop (λ b. b < 256) 24 bytes a))

pub spelling_items : (l : List ℕ) → IsLetter l → All IsItem (spelling l)
spelling_items l is =
    let short : length l ≤ 65_535 = is.short in
    All-cons IsItem (letter_head l) (next_items (further (length l)) (drop 16 l))
    (omega arith, word_below l is.bytes, word_below (drop 8 l) (All-drop (λ b. b < 256) 8 l is.bytes))
    (next_items_are (further (length l)) (drop 16 l) (All-drop (λ b. b < 256) 16 l is.bytes))

pub spelled_sent : (p : ℕ) (letters : List (ℕ × List ℕ)) → All (λ e. (e.0 < p) × IsLetter e.1) letters
    → All (λ e. (e.0 < p) × IsItem e.1) (spelling_of letters)
spelled_sent p [] a = All-nil (λ (e : ℕ × Item). (e.0 < p) × IsItem e.1)
spelled_sent p (e ∷ es) a =
    let here : (e.0 < p) × IsLetter e.1 = all_head (λ e. (e.0 < p) × IsLetter e.1) e es a in
    let items : All IsItem (spelling e.1) = spelling_items e.1 here.1 in
    All-append (λ (w : ℕ × Item). (w.0 < p) × IsItem w.1) (map (λ x. (e.0, x)) (spelling e.1)) (spelling_of es)
    (All-map (λ (w : ℕ × Item). (w.0 < p) × IsItem w.1) (λ x. (e.0, x)) (spelling e.1) (λ k d l. (here.0, items k d l)))
    (spelled_sent p es (all_tail (λ e. (e.0 < p) × IsLetter e.1) e es a))

-- ---- What is read are letters

byte_below : (i n : ℕ) → byte_at i n < 256
byte_below zero n = mod-lt n (lit< tt)
byte_below (suc i) n = mod-lt (n / 256 ^ suc i) (lit< tt)

low_bytes : (i k n : ℕ) → All (λ b. b < 256) (bytes_low_first i k n)
low_bytes i zero n = All-nil (λ b. b < 256)
low_bytes i (suc k) n =
    All-cons (λ b. b < 256) (byte_at i n) (bytes_low_first (suc i) k n) (byte_below i n) (low_bytes (suc i) k n)

pub word_bytes : (n : ℕ) → All (λ b. b < 256) (to_le_bytes w64 n)
word_bytes n = low_bytes 0 8 n

further_bytes : (xs : List Item) → All (λ b. b < 256) (flat_map bytes_in xs)
further_bytes [] = All-nil (λ b. b < 256)
further_bytes (x ∷ xs) =
    All-append (λ b. b < 256) (bytes_in x) (flat_map bytes_in xs)
    (All-append (λ b. b < 256) (to_le_bytes w64 x.a) (to_le_bytes w64 x.b ++ to_le_bytes w64 x.c) (word_bytes x.a)
    (All-append (λ b. b < 256) (to_le_bytes w64 x.b) (to_le_bytes w64 x.c) (word_bytes x.b) (word_bytes x.c)))
    (further_bytes xs)

pub read_letter : (x : Item) (xs : List Item) → IsLetter (letter_from x xs)
read_letter x xs =
    let all : List ℕ = to_le_bytes w64 x.b ++ (to_le_bytes w64 x.c ++ flat_map bytes_in xs) in
    let low : length_in x < 65_536 = mod-lt x.a (lit< tt) in
    let len : length (take (length_in x) all) ≡ _ = length-take (length_in x) all in
    record {
      short = omega arith;
      bytes =
          All-take (λ b. b < 256) (length_in x) all
          (All-append (λ b. b < 256) (to_le_bytes w64 x.b) (to_le_bytes w64 x.c ++ flat_map bytes_in xs)
          (word_bytes x.b)
          (All-append (λ b. b < 256) (to_le_bytes w64 x.c) (flat_map bytes_in xs) (word_bytes x.c) (further_bytes xs)));
    }

pub letter_is : (items : List Item) → IsLetter (letter_of items)
letter_is [] = record { short = lit≤ tt; bytes = All-nil (λ b. b < 256) }
letter_is (x ∷ xs) = read_letter x xs

-- ---- The laws

carries : (ranks to from : ℕ) (x : Item) → to < ranks → from < ranks → IsItem x → may_carry ranks to from x ≡ true
carries ranks to from x a b is =
    let xa : x.a < 2 ^ 64 = is.0 in
    let xb : x.b < 2 ^ 64 = is.1 in
    let xc : x.c < 2 ^ 64 = is.2 in
    grind (arith, nat_tests)

within : (ranks to from : ℕ) (x : Item) → may_carry ranks to from x ≡ true → (to < ranks) × (from < ranks) × IsItem x
within ranks to from x h = (grind (arith, nat_tests), grind (arith, nat_tests), grind (arith, nat_tests))

-- a rank may be sent what fits by ranks alone
pub sender_low : {S : Type 0} (R : LetterRules S) (s : MailState S) (f : ℕ) (x : Item) → Fits (mail_rules R) s f x
    → f < R.ranks s.inner
sender_low R s f x h = (within (R.ranks s.inner) (R.rank s.inner) f x h).1

-- a letter program after a letter, or as it was
same_letters : {S : Type 0} (R : LetterRules S) (s : S) → R.valid s → SameLetters R s s
same_letters R s v =
    record { valid = v; rank = refl; ranks = refl; round = refl; shape = refl; most = refl; letters = refl }

maybe_absorbed : {S : Type 0} (R : LetterRules S) → LetterLaws R → (s : S) (f : ℕ) (l : List ℕ) (b : Bool) → R.valid s
    → f < R.ranks s → IsLetter l → SameLetters R s (if b then R.absorbed s f l else s)
maybe_absorbed R laws s f l true v low is = laws.keeps s f l v low is
maybe_absorbed R laws s f l false v low is = same_letters R s v

-- a mailer with another inner state of the same round
pub mail_kept : {S : Type 0} (R : LetterRules S) (s : MailState S) (t : S) (begun : List (List Item)) → IsMail R s
    → R.valid t → R.rank t ≡ R.rank s.inner → R.ranks t ≡ R.ranks s.inner → length begun ≡ length s.begun
    → IsMail R (record s { inner = t; begun = begun })
mail_kept R s t begun v valid rank ranks len =
    record {
      inner = valid;
      own = subst (λ r. r < R.ranks t) (sym rank) (subst (λ p. R.rank s.inner < p) (sym ranks) v.own);
      sent = subst (λ p. All (λ (e : ℕ × Item). (e.0 < p) × IsItem e.1) s.outgoing) (sym ranks) v.sent;
      senders = len ∙ v.senders ∙ sym ranks;
    }

keeps : {S : Type 0} (R : LetterRules S) → LetterLaws R → (s : MailState S) (f : ℕ) (x : Item) → IsMail R s
    → Fits (mail_rules R) s f x → SameRound (mail_rules R) s (item_absorbed R s f x)
keeps {S} R laws s f x v fits =
    let items : List Item = with_next_item s.begun f x in
    let inner : S = (if is_whole items then R.absorbed s.inner f (letter_of items) else s.inner) in
    let k : SameLetters R s.inner inner =
    maybe_absorbed R laws s.inner f (letter_of items) (is_whole items) v.inner (sender_low R s f x fits)
    (letter_is items) in
    record {
      valid = mail_kept R s inner (set s.begun f (if is_whole items then [] else items)) v k.valid k.rank k.ranks
          (length-set s.begun f (if is_whole items then [] else items));
      rank = k.rank;
      ranks = k.ranks;
      round = k.round;
      shape = k.shape;
      most = k.most;
      emissions = refl;
    }

-- two letters, of which one or both or none are absorbed
inner_comm : {S : Type 0} (R : LetterRules S) (s : S) (f g : ℕ) (l m : List ℕ) (a b : Bool)
    → R.absorbed (R.absorbed s f l) g m ≡ R.absorbed (R.absorbed s g m) f l
    → (if b then R.absorbed (if a then R.absorbed s f l else s) g m else if a then R.absorbed s f l else s)
    ≡ (if a then R.absorbed (if b then R.absorbed s g m else s) f l else if b then R.absorbed s g m else s)
inner_comm R s f g l m true true e = e
inner_comm R s f g l m true false e = refl
inner_comm R s f g l m false true e = refl
inner_comm R s f g l m false false e = refl

-- a state after two absorbs, by what the two senders had begun
after_two : {S : Type 0} (R : LetterRules S) (s : MailState S) (f g : ℕ) (x y : Item) → f ≢ g
    → item_absorbed R (item_absorbed R s f x) g y
    ≡ record s {
      inner = if is_whole (with_next_item s.begun g y)
          then R.absorbed
          (if is_whole (with_next_item s.begun f x) then R.absorbed s.inner f (letter_of (with_next_item s.begun f x))
          else s.inner) g (letter_of (with_next_item s.begun g y))
          else if is_whole (with_next_item s.begun f x) then R.absorbed s.inner f (letter_of (with_next_item s.begun f x))
          else s.inner;
      begun = set (set s.begun f (if is_whole (with_next_item s.begun f x) then [] else with_next_item s.begun f x)) g
          (if is_whole (with_next_item s.begun g y) then [] else with_next_item s.begun g y);
    }
after_two {S} R s f g x y d =
    let mid : List Item = (if is_whole (with_next_item s.begun f x) then [] else with_next_item s.begun f x) in
    let inner : S =
    (if is_whole (with_next_item s.begun f x) then R.absorbed s.inner f (letter_of (with_next_item s.begun f x))
    else s.inner) in
    ap
    (λ items. record s {
      inner = if is_whole (items ++ y ∷ []) then R.absorbed inner g (letter_of (items ++ y ∷ [])) else inner;
      begun = set (set s.begun f mid) g (if is_whole (items ++ y ∷ []) then [] else items ++ y ∷ []);
    })
    (get_or-set_other s.begun f g mid [] (λ e. d (sym e)))

commutes : {S : Type 0} (R : LetterRules S) → LetterLaws R → (s : MailState S) (f g : ℕ) (x y : Item) → IsMail R s
    → f ≢ g → Fits (mail_rules R) s f x → Fits (mail_rules R) s g y
    → item_absorbed R (item_absorbed R s f x) g y ≡ item_absorbed R (item_absorbed R s g y) f x
commutes {S} R laws s f g x y v d hf hg =
    let l : List Item = with_next_item s.begun f x in
    let m : List Item = with_next_item s.begun g y in
    let law : R.absorbed (R.absorbed s.inner f (letter_of l)) g (letter_of m)
    ≡ R.absorbed (R.absorbed s.inner g (letter_of m)) f (letter_of l) =
    laws.commutes s.inner f g (letter_of l) (letter_of m) v.inner d (sender_low R s f x hf) (sender_low R s g y hg)
    (letter_is l) (letter_is m) in
    after_two R s f g x y d
    ∙ (ap (λ i. record s {
      inner = i;
      begun = set (set s.begun f (if is_whole l then [] else l)) g (if is_whole m then [] else m);
    })
    (inner_comm R s.inner f g (letter_of l) (letter_of m) (is_whole l) (is_whole m) law)
    ∙ (ap (λ b. record s {
      inner = if is_whole l then R.absorbed (if is_whole m then R.absorbed s.inner g (letter_of m)
          else s.inner) f (letter_of l) else if is_whole m then R.absorbed s.inner g (letter_of m) else s.inner;
      begun =
          b;
    })
    (set_comm s.begun f g (if is_whole l then [] else l) (if is_whole m then [] else m) d)
    ∙ sym (after_two R s g f y x (λ e. d (sym e)))))

-- a mailer as a round begins
pub mailing_valid : {S : Type 0} (R : LetterRules S) → LetterLaws R → (s : S) → R.valid s → IsMail R (mailing R s)
mailing_valid R laws s v =
    record {
      inner = v;
      own = laws.own s v;
      sent = spelled_sent (R.ranks s) (R.letters s) (laws.emits s v);
      senders = length-replicate (R.ranks s) [];
    }

next : {S : Type 0} (R : LetterRules S) → LetterLaws R → (s : MailState S) (votes : ℕ) → IsMail R s → votes < 2 ^ 64
    → NextRound (mail_rules R) s (mailing R (R.ended s.inner votes))
next R laws s votes v low =
    let k : NextLetters R s.inner (R.ended s.inner votes) = laws.next s.inner votes v.inner low in
    record {
      valid = mailing_valid R laws (R.ended s.inner votes) k.valid;
      rank = k.rank;
      ranks = k.ranks;
      round = k.round;
      shape = k.shape;
      most = k.most;
    }

pub mail_laws : {S : Type 0} (R : LetterRules S) → LetterLaws R → Laws (mail_rules R)
mail_laws R laws =
    record {
      emits = λ s v k d l. carries (R.ranks s.inner) (get_or s.outgoing k d).0 (R.rank s.inner)
          (get_or s.outgoing k d).1 (v.sent k d l).0 v.own (v.sent k d l).1;
      commutes = commutes R laws;
      keeps = keeps R laws;
      vote_below = λ s v. laws.vote_below s.inner v.inner;
      next = next R laws;
      within = λ shape ranks round to from x h. within ranks to from x h;
      most_below = λ s v. laws.most_below s.inner v.inner;
    }
