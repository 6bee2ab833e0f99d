-- The form and the sizes that the head of a text gives keep their bounds.
use Rattle.std.proofs.Common.{◌≡◌, ℕ, ◌≤◌, ◌==◌, ◌&&◌, ◌||◌, not, Bool, true, false, List, subst, inl, inr, nat_lt}
use Rattle.std.proofs.lemmas.Bool.{cases_Bool, both_ways, or_parts, ltb-false, ne_eqb, cases_eq}
use Rattle.std.specs.Str.{bytes_eq}
use Rattle.std.specs.Prelude.{Option, Some, None, Ok, ok_or, codes}
use Rattle.mtx_text.specs.declared.banner.Form.{Form}
use Rattle.mtx_text.specs.declared.banner.Symmetry.{Symmetry}
use Rattle.mtx_text.specs.declared.banner.Symmetry.TheVariants.{General, Symmetric, SkewSymmetric}
use Rattle.mtx_text.specs.declared.kind.Kind.{Kind}
use Rattle.mtx_text.specs.declared.kind.Kind.TheVariants as kind
use Rattle.mtx_text.specs.declared.refusal.Reason.TheVariants as reason
use Rattle.mtx_text.specs.declared.sizes.Sizes.{Sizes}
use Rattle.mtx_text.specs.Integers.{integer_of}
use Rattle.mtx_text.specs.Grammar.{◌>>=◌, three_of, natural_of, is_general, within_limits, sizes_by, five_of, banner_form, profile_form, spells, kind_of, symmetry_of, form_of}
use Rattle.mtx_text.proofs.Given.{ran, ok_or-some}

-- what the form and the sizes of a text keep
pub record IsFrame (form : Form) (sizes : Sizes) : Type 0 where
  pub tall : sizes.rows ≤ 16_384
  pub wide : sizes.cols ≤ 16_384
  pub short : sizes.entries ≤ 262_144
  pub square : is_general form.symmetry ≡ false → sizes.rows ≡ sizes.cols
  pub plain : form.kind ≡ kind.Pattern → form.symmetry ≡ SkewSymmetric → ⊥

accepted_in : (k : Option Kind) (s : Option Symmetry) (form : Form) → profile_form k s ≡ Some form → form.kind ≡ kind.Pattern → form.symmetry ≡ SkewSymmetric → ⊥
accepted_in None s form h a b = cc
accepted_in (Some k) None form h a b = cc
accepted_in (Some kind.Pattern) (Some SkewSymmetric) form h a b = cc
accepted_in (Some kind.Pattern) (Some General) form h a b = cc
accepted_in (Some kind.Pattern) (Some Symmetric) form h a b = cc
accepted_in (Some kind.Integer) (Some s) form h a b = cc

qualified_in : (five : List ℕ × List ℕ × List ℕ × List ℕ × List ℕ) (form : Form) → banner_form five ≡ Ok form → form.kind ≡ kind.Pattern → form.symmetry ≡ SkewSymmetric → ⊥
qualified_in five form h =
    elim (cases_Bool (not (bytes_eq five.0 (codes "%%MatrixMarket")))) [
      | inl other ↦
          let bad = rw other at h in
          cc
      | inr banner ↦
          let step = rw banner at h in
          elim (cases_Bool (spells (codes "matrix") five.1 && spells (codes "coordinate") five.2)) [
            | inl named ↦
                let is = rw named at step in
                accepted_in (kind_of five.3) (symmetry_of five.4) form (ok_or-some (profile_form (kind_of five.3) (symmetry_of five.4)) reason.Unsupported form is)
            | inr unnamed ↦
                let bad = rw unnamed at step in
                cc
          ]
    ]

pub form_in : (words : List (List ℕ)) (form : Form) → form_of words ≡ Ok form → form.kind ≡ kind.Pattern → form.symmetry ≡ SkewSymmetric → ⊥
form_in words form h =
    let r = ran (ok_or (five_of words) reason.Banner) banner_form form h in
    qualified_in r.x form r.then_

square_from : (general : Bool) (rows cols : ℕ) → (not general && not (rows == cols)) ≡ false → general ≡ false → rows ≡ cols
square_from general rows cols even g =
    elim (cases_eq rows cols) [
      | inl e ↦ e
      | inr n ↦
          let step : (not general && not (rows == cols)) ≡ true = rw (g, ne_eqb rows cols n) in
          absurd (both_ways _ even step)
    ]

limits_in : (form : Form) (made sizes : Sizes) → (form.kind ≡ kind.Pattern → form.symmetry ≡ SkewSymmetric → ⊥)
    → within_limits form made ≡ Ok sizes → IsFrame form sizes
limits_in form made sizes plain h =
    elim (cases_Bool (nat_lt 16_384 made.rows || nat_lt 16_384 made.cols || nat_lt 262_144 made.entries)) [
      | inl over ↦
          let bad = rw over at h in
          cc
      | inr within ↦
          let outer = or_parts (nat_lt 16_384 made.rows || nat_lt 16_384 made.cols) (nat_lt 262_144 made.entries) within in
          let inner = or_parts (nat_lt 16_384 made.rows) (nat_lt 16_384 made.cols) outer.0 in
          let tall : made.rows ≤ 16_384 = ltb-false 16_384 made.rows inner.0 in
          let wide : made.cols ≤ 16_384 = ltb-false 16_384 made.cols inner.1 in
          let short : made.entries ≤ 262_144 = ltb-false 262_144 made.entries outer.1 in
          let step = rw within at h in
          elim (cases_Bool (not (is_general form.symmetry) && not (made.rows == made.cols))) [
            | inl uneven ↦
                let bad = rw uneven at step in
                cc
            | inr even ↦
                let is = rw even at step in
                let same : made ≡ sizes = cc in
                let frame : IsFrame form made = record { tall = tall; wide = wide; short = short; square = λ g. square_from (is_general form.symmetry) made.rows made.cols even g; plain = plain } in
                subst (λ (w : Sizes). IsFrame form w) same frame
          ]
    ]

sized_in : (form : Form) (a b c : Option ℕ) (sizes : Sizes) → (form.kind ≡ kind.Pattern → form.symmetry ≡ SkewSymmetric → ⊥)
    → (ok_or a reason.SizeLine >>= λ rows. ok_or b reason.SizeLine >>= λ cols. ok_or c reason.SizeLine
    >>= λ entries. within_limits form (record { rows = rows; cols = cols; entries = entries })) ≡ Ok sizes → IsFrame form sizes
sized_in form None b c sizes plain h = cc
sized_in form (Some x) None c sizes plain h = cc
sized_in form (Some x) (Some y) None sizes plain h = cc
sized_in form (Some x) (Some y) (Some z) sizes plain h = limits_in form (record { rows = x; cols = y; entries = z }) sizes plain h

three_in : (form : Form) (o : Option (List ℕ × List ℕ × List ℕ)) (sizes : Sizes) → (form.kind ≡ kind.Pattern → form.symmetry ≡ SkewSymmetric → ⊥)
    → (ok_or o reason.SizeLine >>= λ w. ok_or (natural_of (integer_of w.0)) reason.SizeLine >>= λ rows. ok_or (natural_of (integer_of w.1)) reason.SizeLine
    >>= λ cols. ok_or (natural_of (integer_of w.2)) reason.SizeLine
    >>= λ entries. within_limits form (record { rows = rows; cols = cols; entries = entries })) ≡ Ok sizes → IsFrame form sizes
three_in form None sizes plain h = cc
three_in form (Some w) sizes plain h = sized_in form (natural_of (integer_of w.0)) (natural_of (integer_of w.1)) (natural_of (integer_of w.2)) sizes plain h

pub sizes_in : (form : Form) (words : List (List ℕ)) (sizes : Sizes) → (form.kind ≡ kind.Pattern → form.symmetry ≡ SkewSymmetric → ⊥)
    → sizes_by integer_of form words ≡ Ok sizes → IsFrame form sizes
unfolding sizes_by
sizes_in form words sizes plain h = three_in form (three_of words) sizes plain h
