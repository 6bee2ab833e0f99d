-- On one hop: the numbers of links and their ends, and that the relay law asks for tags without
-- digits alone.
use Rattle.std.proofs.Common.{◌≡◌, ℕ, zero, suc, ◌-◌, ◌*◌, ◌/◌, ◌%◌, ◌<◌, ◌≤◌, List, [], ◌∷◌, length, refl, sym, ap, subst, ◌∙◌, arith}
use Rattle.std.specs.List.{All}
use Rattle.std.proofs.Math.Nat.{mod-eq_of_lt}
use Rattle.std.proofs.lemmas.List.Elements.{All-cons, All-nil}
use Rattle.bale_items.specs.declared.item.Entry.{Entry}
use Rattle.item_buffer.specs.Contents.{Shipped}
use Rattle.route_tensor.specs.Grid.{ranks, coord, place, dim, IsGrid}
use Rattle.route_tensor.specs.Link.{links, link}
use Rattle.route_tensor.specs.Tag.{IsFair, digit}
use Rattle.route_tensor.specs.Ends.{hop_at, sender_at, reader_at}
use Rattle.route_tensor.proofs.Ends.{hop_at_has}
use Rattle.port_bank.specs.Logs.{Logs, with_parcel}
use Rattle.port_bank.specs.Flow.{hop_link}
use Rattle.port_bank.specs.Relay.{RelayLaw, HasFairTags}
use Rattle.port_bank.proofs.Routes.{sender-on_route, reader-on_route, link-on_route}
use Rattle.port_bank.proofs.Posts.{law_posted, may_post_first}
use Rattle.exstack.specs.Links.{no_tag}
use Rattle.exstack.specs.State.{number}

-- the grid of one number
pub ranks_one : (n : ℕ) → ranks (n ∷ []) ≡ n
unfolding ranks
ranks_one n = omega arith

pub dims_one : (dims : List ℕ) → length dims ≡ 1 → ranks dims ∷ [] ≡ dims
dims_one [] e = absurd (omega (arith, e))
dims_one (n ∷ []) e = ap (λ m. m ∷ []) (ranks_one n)
dims_one (n ∷ m ∷ ns) e = absurd (omega (arith, e))

pub grid_one : (n : ℕ) → 0 < n → n ≤ 64 → IsGrid (n ∷ [])
grid_one n some few = record {
  some = omega arith;
  few = omega arith;
  positive = All-cons (λ m. 0 < m) n [] some (All-nil (λ m. 0 < m));
  small = omega (arith, ranks_one n);
}

pub place_none : (n a b : ℕ) → place (n ∷ []) a b 0 ≡ a
unfolding place
place_none n a b = refl

pub place_one : (n a b : ℕ) → a < n → b < n → place (n ∷ []) a b 1 ≡ b
unfolding place
place_one n a b p q =
    let c : b % n ≡ b = mod-eq_of_lt q in
    let d : a % n ≡ a = mod-eq_of_lt p in
    let e : n * (a / n) ≡ 0 = omega arith in
    omega arith

coord_one : (n b : ℕ) → b < n → coord (n ∷ []) b 1 ≡ b
unfolding coord
coord_one n b q = mod-eq_of_lt q

pub link_one : (n a b : ℕ) → b < n → link (n ∷ []) 1 a b ≡ number n a b
link_one n a b q = let c : coord (n ∷ []) b 1 ≡ b = coord_one n b q in let z : ranks (n ∷ []) * 0 ≡ 0 = omega arith in omega arith

pub number_is : (n a b : ℕ) → a < n → b < n → hop_link (n ∷ []) a b 1 ≡ number n a b
number_is n a b p q =
    let from : place (n ∷ []) a b 0 ≡ a = place_none n a b in
    let to : place (n ∷ []) a b 1 ≡ b = place_one n a b p q in
    ap (λ x. link (n ∷ []) 1 x (place (n ∷ []) a b 1)) from ∙ (ap (λ x. link (n ∷ []) 1 a x) to ∙ link_one n a b q)

module _ (n a b : ℕ) (p : a < n) (q : b < n) (few : n ≤ 64) where
  all : IsGrid (n ∷ [])
  all = grid_one n (omega arith) few

  a_within : a < ranks (n ∷ [])
  a_within = omega (arith, ranks_one n)

  b_within : b < ranks (n ∷ [])
  b_within = omega (arith, ranks_one n)

  pub number_within : number n a b < links (n ∷ [])
  number_within = subst (λ l. l < links (n ∷ [])) (number_is n a b p q) (link-on_route (n ∷ []) a b 1 all a_within b_within (omega arith) (omega arith))

  pub number_sender : sender_at (n ∷ []) (number n a b) ≡ a
  number_sender = ap (sender_at (n ∷ [])) (sym (number_is n a b p q)) ∙ (sender-on_route (n ∷ []) a b 1 all a_within b_within (omega arith) (omega arith) ∙ place_none n a b)

  pub number_reader : reader_at (n ∷ []) (number n a b) ≡ b
  number_reader = ap (reader_at (n ∷ [])) (sym (number_is n a b p q)) ∙ (reader-on_route (n ∷ []) a b 1 all a_within b_within (omega arith) (omega arith) ∙ place_one n a b p q)

-- a tag without digits is fair on hop 1
no_digit : (i : ℕ) → digit no_tag i ≡ 0
unfolding digit
no_digit zero = refl
no_digit (suc zero) = refl
no_digit (suc (suc zero)) = refl
no_digit (suc (suc (suc zero))) = refl
no_digit (suc (suc (suc (suc i)))) = refl

dim_some : (dims : List ℕ) → IsGrid dims → (i : ℕ) → 1 ≤ i → i ≤ length dims → 0 < dim dims i
dim_some dims g i a b = g.positive (i - 1) 0 (omega arith)

pub no_tag_fair : (dims : List ℕ) → IsGrid dims → IsFair dims 1 no_tag
no_tag_fair dims g = record {
  below = λ i a b. let z = no_digit i in let d : 0 < dim dims i = dim_some dims g i a b in omega (arith, z, d);
  here = no_digit 1;
  past = λ i a. no_digit i;
}

-- a parcel of entries without tags may be posted
pub plain_law : (dims : List ℕ) (r : ℕ) (sent got : Logs) (l : ℕ) (p : Shipped) → IsGrid dims → length dims ≡ 1 → l < links dims → All (λ (e : Entry). e.tag ≡ no_tag) p.entries
    → RelayLaw dims r sent got → RelayLaw dims r (with_parcel sent l p) got
plain_law dims r sent got l p g one below plain law =
    let h = hop_at_has dims l below in
    let first : hop_at dims l ≡ 1 = omega (arith, h.first, h.last, one) in
    let fair : HasFairTags dims 1 p = λ k d w. subst (IsFair dims 1) (sym (plain k d w)) (no_tag_fair dims g) in
    law_posted dims r sent got l p g law (may_post_first dims r sent got l p g first fair)
