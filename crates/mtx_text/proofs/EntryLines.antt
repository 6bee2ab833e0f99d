-- The entry that an entry line gives keeps the sizes, the limit and the form.
use Rattle.std.proofs.Common.{◌≡◌, ℕ, zero, suc, ◌-◌, ◌≤◌, ◌<◌, ◌==◌, ◌&&◌, not, Bool, true, false, List, refl, sym, ◌∙◌, subst, inl, inr, nat_lt, nat_le, arith}
use Rattle.std.proofs.lemmas.Bool.{cases_Bool, both_ways, and_parts, and_from, leb-true, ltb-false, eq-eqb}
use Rattle.std.specs.Option.{option_map}
use Rattle.std.specs.Prelude.{Option, Some, None, Result, Ok, Err, ok_or, ℤ, pos, nat_abs, codes}
use Rattle.bale_items.specs.declared.triple.Triple.{Triple}
use Rattle.mtx_text.specs.declared.banner.Form.{Form}
use Rattle.mtx_text.specs.declared.banner.Symmetry.{Symmetry}
use Rattle.mtx_text.specs.declared.banner.Symmetry.TheVariants.{SkewSymmetric}
use Rattle.mtx_text.specs.declared.integer.Integer.{Integer}
use Rattle.mtx_text.specs.declared.kind.Kind.{Kind}
use Rattle.mtx_text.specs.declared.kind.Kind.TheVariants as kind
use Rattle.mtx_text.specs.declared.refusal.Reason.{Reason}
use Rattle.mtx_text.specs.declared.refusal.Reason.TheVariants as reason
use Rattle.mtx_text.specs.declared.sizes.Sizes.{Sizes}
use Rattle.mtx_text.specs.Integers.{integer_of, value_of}
use Rattle.mtx_text.specs.Sparse.{IsInside}
use Rattle.mtx_text.specs.Grammar.{◌>>=◌, two_of, fields_of, is_index, is_skew, place_of, value_within, cell_by}

-- an entry as its line gives it
pub record IsCell (form : Form) (sizes : Sizes) (t : Triple) : Type 0 where
  pub row : t.i < sizes.rows
  pub col : t.j < sizes.cols
  pub limit : nat_abs t.v ≤ 1_000_000_000_000
  pub one : form.kind ≡ kind.Pattern → t.v ≡ pos 1
  pub off : form.symmetry ≡ SkewSymmetric → t.i ≡ t.j → ⊥

record IsPlace (form : Form) (sizes : Sizes) (p : ℕ × ℕ) : Type 0 where
  row : p.0 < sizes.rows
  col : p.1 < sizes.cols
  off : form.symmetry ≡ SkewSymmetric → p.0 ≡ p.1 → ⊥

is_skew-skew : (s : Symmetry) → s ≡ SkewSymmetric → is_skew s ≡ true
is_skew-skew s e = rw e

place_in : (form : Form) (sizes : Sizes) (i j : Integer) (p : ℕ × ℕ) → place_of form sizes i j ≡ Ok p → IsPlace form sizes p
place_in form sizes i j p h =
    elim (cases_Bool (is_index sizes.rows i && is_index sizes.cols j)) [
      | inr out ↦
          let bad : Err reason.OutOfRange ≡ Ok p = rw out at h in
          cc
      | inl good ↦
          let both = and_parts (is_index sizes.rows i) (is_index sizes.cols j) good in
          let high_i = and_parts (not i.minus && nat_le 1 i.size) (nat_le i.size sizes.rows) both.0 in
          let high_j = and_parts (not j.minus && nat_le 1 j.size) (nat_le j.size sizes.cols) both.1 in
          let low_i = and_parts (not i.minus) (nat_le 1 i.size) high_i.0 in
          let low_j = and_parts (not j.minus) (nat_le 1 j.size) high_j.0 in
          let a : 1 ≤ i.size = leb-true 1 i.size low_i.1 in
          let b : 1 ≤ j.size = leb-true 1 j.size low_j.1 in
          let c : i.size ≤ sizes.rows = leb-true i.size sizes.rows high_i.1 in
          let d : j.size ≤ sizes.cols = leb-true j.size sizes.cols high_j.1 in
          let step = rw good at h in
          elim (cases_Bool (is_skew form.symmetry && i.size == j.size)) [
            | inl diagonal ↦
                let bad : Err reason.Diagonal ≡ Ok p = rw diagonal at step in
                cc
            | inr free ↦
                let is = rw free at step in
                let row : p.0 ≡ i.size - 1 = cc in
                let col : p.1 ≡ j.size - 1 = cc in
                record {
                  row = omega arith;
                  col = omega arith;
                  off = λ skew same. both_ways _ free (and_from _ _ (is_skew-skew form.symmetry skew) (eq-eqb i.size j.size (omega arith)));
                }
          ]
    ]

value_size : (minus : Bool) (size : ℕ) → nat_abs (value_of (record { minus = minus; size = size })) ≡ size
value_size true zero = refl
value_size true (suc n) = refl
value_size false n = refl

value_in : (o : Option Integer) (v : ℤ) → value_within o ≡ Ok v → nat_abs v ≤ 1_000_000_000_000
value_in None v h = cc
value_in (Some z) v h =
    elim (cases_Bool (nat_lt 1_000_000_000_000 z.size)) [
      | inl over ↦
          let bad : Err reason.Value ≡ Ok v = rw over at h in
          cc
      | inr within ↦
          let is = rw within at h in
          let same : value_of z ≡ v = cc in
          let limit : z.size ≤ 1_000_000_000_000 = ltb-false 1_000_000_000_000 z.size within in
          rw (← same, value_size z.minus z.size) limit
    ]

value_one : (o : Option Integer) (v : ℤ) → o ≡ Some (record { minus = false; size = 1 }) → value_within o ≡ Ok v → v ≡ pos 1
value_one o v e h =
    let is = rw e at h in
    cc

-- the third word of a pattern line is "1"
third_one : (o : Option (List ℕ × List ℕ)) (t : List ℕ × List ℕ × List ℕ) → option_map (λ two. (two.0, two.1, codes "1")) o ≡ Some t → t.2 ≡ codes "1"
third_one None t h = cc
third_one (Some two) t h = cc

third_is : (k : Kind) (words : List (List ℕ)) (t : List ℕ × List ℕ × List ℕ) → fields_of k words ≡ Some t → k ≡ kind.Pattern → t.2 ≡ codes "1"
third_is kind.Integer words t h e = cc
third_is kind.Pattern words t h e = third_one (two_of words) t h

one_read : (w : List ℕ) → w ≡ codes "1" → integer_of w ≡ Some (record { minus = false; size = 1 })
one_read w e = rw e

joined_in : (form : Form) (sizes : Sizes) (p : Result (ℕ × ℕ) Reason) (v : Result ℤ Reason) (t : Triple)
    → ((x : ℕ × ℕ) → p ≡ Ok x → IsPlace form sizes x)
    → ((x : ℤ) → v ≡ Ok x → nat_abs x ≤ 1_000_000_000_000)
    → (form.kind ≡ kind.Pattern → (x : ℤ) → v ≡ Ok x → x ≡ pos 1)
    → (p >>= λ place. v >>= λ x. Ok (record { i = place.0; j = place.1; v = x })) ≡ Ok t → IsCell form sizes t
joined_in form sizes (Err e) v t place limit one h = cc
joined_in form sizes (Ok p) (Err e) t place limit one h = cc
joined_in form sizes (Ok p) (Ok x) t place limit one h =
    let made : Triple = record { i = p.0; j = p.1; v = x } in
    let same : made ≡ t = cc in
    let is = place p refl in
    let cell : IsCell form sizes made = record { row = is.row; col = is.col; limit = limit x refl; one = λ e. one e x refl; off = is.off } in
    subst (λ (w : Triple). IsCell form sizes w) same cell

celled_in : (form : Form) (sizes : Sizes) (a b c : Option Integer) (t : Triple)
    → (form.kind ≡ kind.Pattern → c ≡ Some (record { minus = false; size = 1 }))
    → (ok_or a reason.EntryLine >>= λ i. ok_or b reason.EntryLine >>= λ j. place_of form sizes i j
    >>= λ place. value_within c >>= λ v. Ok (record { i = place.0; j = place.1; v = v })) ≡ Ok t → IsCell form sizes t
celled_in form sizes None b c t one h = cc
celled_in form sizes (Some i) None c t one h = cc
celled_in form sizes (Some i) (Some j) c t one h =
    joined_in form sizes (place_of form sizes i j) (value_within c) t
    (λ x e. place_in form sizes i j x e) (λ x e. value_in c x e) (λ k x e. value_one c x (one k) e) h

fields_in : (form : Form) (sizes : Sizes) (o : Option (List ℕ × List ℕ × List ℕ)) (t : Triple)
    → ((w : List ℕ × List ℕ × List ℕ) → o ≡ Some w → form.kind ≡ kind.Pattern → w.2 ≡ codes "1")
    → (ok_or o reason.EntryLine >>= λ w. ok_or (integer_of w.0) reason.EntryLine >>= λ i. ok_or (integer_of w.1) reason.EntryLine >>= λ j. place_of form sizes i j
    >>= λ place. value_within (integer_of w.2) >>= λ v. Ok (record { i = place.0; j = place.1; v = v })) ≡ Ok t → IsCell form sizes t
fields_in form sizes None t third h = cc
fields_in form sizes (Some w) t third h =
    celled_in form sizes (integer_of w.0) (integer_of w.1) (integer_of w.2) t (λ k. one_read w.2 (third w refl k)) h

pub cell_in : (form : Form) (sizes : Sizes) (words : List (List ℕ)) (t : Triple) → cell_by integer_of form sizes words ≡ Ok t → IsCell form sizes t
unfolding cell_by
cell_in form sizes words t h = fields_in form sizes (fields_of form.kind words) t (λ w e k. third_is form.kind words w e k) h

-- an entry that was read lies inside
pub cell_inside : (form : Form) (sizes : Sizes) (words : List (List ℕ)) (t : Triple) (cell : Result Triple Reason)
    → cell ≡ cell_by integer_of form sizes words → cell ≡ Ok t → IsInside sizes.rows sizes.cols t
cell_inside form sizes words t cell read is =
    let own = cell_in form sizes words t (sym read ∙ is) in
    record { row = own.row; col = own.col; limit = own.limit }
