-- The programs of all ranks, of which each is made from its rank alone, as the programs of one run.
use Rattle.std.proofs.Common.{ℕ, ◌+◌, ◌%◌, ◌<◌, ◌≡◌, List, [], ◌∷◌, ◌++◌, Some, All, map, take, length, slice_get, get_or, arith, refl, sym, ap, ◌∙◌, subst}
use Rattle.std.proofs.Math.Nat.{mod-lt}
use Rattle.std.specs.List.{range_with_len, enumerate_from}
use Rattle.std.proofs.lemmas.Option.{get_or_from_slice_get}
use Rattle.std.proofs.lemmas.List.Elements.{All-nil, All-cons}
use Rattle.std.proofs.lemmas.List.FromFn.{length-map-range_with_len, get_or-map-range_with_len, map-range_with_len_more}
use Rattle.std.proofs.lemmas.List.{map-append, length-map, take_more}
use Rattle.bale_items.specs.declared.triple.Triple.{Triple}
use Rattle.sparse_rows.specs.Parts.{parts_of}
use Rattle.sparse_rows.proofs.Turns.{part_is, parts_count}
use Rattle.sparse_rows.specs.Owners.{Numbered, own_entries}
use Rattle.list_laws.proofs.Lists.{find, within, get_once, got_map, same_reads, all_head, all_tail}
use Rattle.round_program.specs.Rules.{Rules}
use Rattle.round_program.specs.Canonical.{absorbed_round, after_whole_round, vote_sum, InRound, Member}

-- the rank at each place
pub made_at : {S : Type 0} (f : ℕ → S) (p r : ℕ) → r < p → slice_get (map f (range_with_len 0 p)) r ≡ Some (f r)
made_at {S} f p r low =
    let ss : List S = map f (range_with_len 0 p) in
    let size : length ss ≡ p = length-map-range_with_len f 0 p in
    let s : (s : S) × (slice_get ss r ≡ Some s) = find ss r (subst (λ n. r < n) (sym size) low) in
    let is : s.0 ≡ f r = sym (get_or_from_slice_get ss r s.0 s.0 s.1) ∙ get_or-map-range_with_len f 0 p r r s.0 low (omega arith) in
    s.1 ∙ ap Some is

-- and what stands at a place is made from that rank
pub made_from : {S : Type 0} (f : ℕ → S) (p r : ℕ) (s : S) → slice_get (map f (range_with_len 0 p)) r ≡ Some s → (r < p) × (f r ≡ s)
made_from f p r s at =
    let low : r < p = subst (λ n. r < n) (length-map-range_with_len f 0 p) (within (map f (range_with_len 0 p)) r s at) in
    (low, get_once (map f (range_with_len 0 p)) r (f r) s (made_at f p r low) at)

pub made_in_round : {S : Type 0} (R : Rules S) (f : ℕ → S) (p n : ℕ) (shape : List ℕ) (most : ℕ)
    → ((r : ℕ) → r < p → Member R p n shape most r (f r)) → InRound R p n shape most (map f (range_with_len 0 p))
made_in_round R f p n shape most members =
    record {
      size = length-map-range_with_len f 0 p;
      each = λ r s at. let made = made_from f p r s at in subst (Member R p n shape most r) made.1 (members r made.0);
    }

-- what holds of each element holds of the numbered ones
pub all_numbered : {X : Type 0} (P : X → Type 0) (n : ℕ) (xs : List X) → All P xs → All (λ e. P e.1) (enumerate_from n xs)
all_numbered P n [] h = All-nil (λ e. P e.1)
all_numbered P n (x ∷ xs) h =
    All-cons (λ e. P e.1) (n, x) (enumerate_from (n + 1) xs) (all_head P x xs h) (all_numbered P (n + 1) xs (all_tail P x xs h))

-- a list of what the elements of a part have, one element further
pub fields_more : {X Y : Type 0} (f : X → Y) (part : List X) (x : ℕ) (e : X) (old new : List Y) → old ≡ map f (take x part) → slice_get part x ≡ Some e → new ≡ old ++ f e ∷ []
    → new ≡ map f (take (x + 1) part)
fields_more f part x e old new so_far here one =
    one
    ∙ ap (λ ys. ys ++ f e ∷ []) so_far
    ∙ ap (λ y. map f (take x part) ++ f y ∷ []) (sym (get_or_from_slice_get part x e e here))
    ∙ sym (map-append f (take x part) (get_or part x e ∷ []))
    ∙ ap (map f) (sym (take_more part x e (within part x e here)))

-- one more rank
pub made_more : {S : Type 0} (f : ℕ → S) (r : ℕ) (old new : List S) (s : S) → old ≡ map f (range_with_len 0 r) → s ≡ f r → new ≡ old ++ s ∷ [] → new ≡ map f (range_with_len 0 (r + 1))
made_more f r old new s so_far is one =
    one ∙ ap (λ ss. ss ++ s ∷ []) so_far ∙ ap (λ t. map f (range_with_len 0 r) ++ t ∷ []) is ∙ sym (map-range_with_len_more f 0 r r (omega arith))

-- what is written in parts_of at a rank's place
pub own_part : (ranks r : ℕ) (ts : List Triple) (parts : List (List Numbered)) → r < ranks → parts ≡ parts_of ranks ts → get_or parts r [] ≡ own_entries ranks r ts
own_part ranks r ts parts low is = ap (λ ps. get_or ps r []) is ∙ part_is ranks ts r low

pub part_below : (ranks r : ℕ) (ts : List Triple) (parts : List (List Numbered)) → r < ranks → parts ≡ parts_of ranks ts → r < length parts
part_below ranks r ts parts low is = subst (λ n. r < n) (sym (ap length is ∙ parts_count ranks ts)) low

-- a round that takes each program made from its rank to another made from its rank
pub round_made : {S : Type 0} (R : Rules S) (p : ℕ) (f g : ℕ → S)
    → ((r : ℕ) (votes : ℕ) → r < p → (t : S) → slice_get (absorbed_round R (map f (range_with_len 0 p))) r ≡ Some t → R.ended t votes ≡ g r)
    → after_whole_round R (map f (range_with_len 0 p)) ≡ map g (range_with_len 0 p)
round_made {S} R p f g made =
    let ss : List S = map f (range_with_len 0 p) in
    let votes : ℕ = vote_sum R (absorbed_round R ss) in
    let size : length (after_whole_round R ss) ≡ p =
    length-map (absorbed_round R ss) (λ s. R.ended s votes) ∙ length-map ss _ ∙ length-map-range_with_len f 0 p in
    same_reads (after_whole_round R ss) (map g (range_with_len 0 p)) (size ∙ sym (length-map-range_with_len g 0 p)) (λ r x at.
    let low : r < p = subst (λ n. r < n) size (within (after_whole_round R ss) r x at) in
    let from = got_map (λ s. R.ended s votes) (absorbed_round R ss) r x at in
    made_at g p r low ∙ ap Some (sym (made r votes low from.0 from.1) ∙ from.2))

-- all entries are some rank's
pub all_owned : (ranks n : ℕ) (ts : List Triple) → 0 < ranks → All (λ (e : Numbered). e.0 % ranks < ranks) (enumerate_from n ts)
all_owned ranks n ts some k d l = mod-lt _ some

-- the images of numbered entries are those of the entries
pub numbered_map : {Y : Type 0} (f : Triple → Y) (n : ℕ) (ts : List Triple) → map (λ (e : Numbered). f e.1) (enumerate_from n ts) ≡ map f ts
numbered_map f n [] = refl
numbered_map f n (t ∷ ts) = ap (λ ys. f t ∷ ys) (numbered_map f (n + 1) ts)
