-- The entries read from all lines are good, and at most two a line.
use Rattle.std.proofs.Common.{◌≡◌, ℕ, ◌+◌, ◌*◌, ◌≤◌, false, List, [], ◌∷◌, ◌++◌, length, take, drop, refl, subst, inl, inr, nat_lt, length-append, arith}
use Rattle.std.proofs.lemmas.Bool.{cases_Bool}
use Rattle.std.proofs.lemmas.List.{length-take}
use Rattle.std.proofs.lemmas.List.Elements.{All-nil}
use Rattle.std.specs.Prelude.{Ok, Err, if◌then◌else◌}
use Rattle.bale_items.specs.declared.triple.Triple.{Triple}
use Rattle.mtx_text.specs.declared.banner.Form.{Form}
use Rattle.mtx_text.specs.declared.refusal.Reason.TheVariants as reason
use Rattle.mtx_text.specs.declared.sizes.Sizes.{Sizes}
use Rattle.mtx_text.specs.Lines.{Line}
use Rattle.mtx_text.specs.Integers.{integer_of}
use Rattle.mtx_text.specs.Grammar.{in_line, cell_by, has_place, entry_of, stands_for, entries_in, none_over, as_many, entries_of}
use Rattle.mtx_text.proofs.Given.{ran, in_line-ok}
use Rattle.mtx_text.proofs.HeadLines.{IsFrame}
use Rattle.mtx_text.proofs.EntryLines.{IsCell, cell_in}
use Rattle.mtx_text.proofs.GoodEntries.{IsGood, good_more, at_most_two}

entry_in : (form : Form) (sizes : Sizes) (done : List Triple) (words : List (List ℕ)) (t : Triple) → entry_of form sizes done words ≡ Ok t
    → IsCell form sizes t × (has_place t.i t.j done ≡ false)
unfolding entry_of
entry_in form sizes done words t h =
    let r = ran (cell_by integer_of form sizes words) (λ u. if has_place u.i u.j done then Err reason.Duplicate else Ok u) t h in
    elim (cases_Bool (has_place r.x.i r.x.j done)) [
      | inl taken ↦
          let bad = rw taken at r.then_ in
          cc
      | inr free ↦
          let is = rw free at r.then_ in
          let same : r.x ≡ t = cc in
          (subst (λ (w : Triple). IsCell form sizes w) same (cell_in form sizes words r.x r.first), subst (λ (w : Triple). has_place w.i w.j done ≡ false) same free)
    ]

-- the entries read from lines, after those that are done
pub record IsRead (form : Form) (sizes : Sizes) (room : ℕ) (entries : List Triple) : Type 0 where
  pub good : IsGood form sizes entries
  pub few : length entries ≤ room

lines_in : (form : Form) (sizes : Sizes) (lines : List Line) (done : List Triple) (room : ℕ) (entries : List Triple) → IsFrame form sizes
    → IsRead form sizes room done → entries_in form sizes done lines ≡ Ok entries → IsRead form sizes (room + 2 * length lines) entries
lines_in form sizes [] done room entries frame read h =
    let same : done ≡ entries = cc in
    let here : IsRead form sizes room entries = subst (λ (w : List Triple). IsRead form sizes room w) same read in
    record { good = here.good; few = omega (arith, here.few) }
lines_in form sizes (line ∷ rest) done room entries frame read h =
    let r = ran (in_line line.number (entry_of form sizes done line.words)) (λ t. entries_in form sizes (done ++ stands_for form.symmetry t) rest) entries h in
    let entry = entry_in form sizes done line.words r.x (in_line-ok line.number (entry_of form sizes done line.words) r.x r.first) in
    let next : IsRead form sizes (room + 2) (done ++ stands_for form.symmetry r.x) = record {
      good = good_more form sizes done r.x form.symmetry refl frame read.good entry.0 entry.1;
      few = omega (arith, length-append done (stands_for form.symmetry r.x), at_most_two form.symmetry r.x, read.few);
    } in
    let last = lines_in form sizes rest (done ++ stands_for form.symmetry r.x) (room + 2) entries frame next r.then_ in
    record { good = last.good; few = omega (arith, last.few) }

none_over-same : (lines : List Line) (entries more : List Triple) → none_over lines entries ≡ Ok more → entries ≡ more
none_over-same [] entries more h = cc
none_over-same (line ∷ rest) entries more h = cc

as_many-same : (end count : ℕ) (lines : List Line) (entries more : List Triple) → as_many end count lines entries ≡ Ok more → entries ≡ more
as_many-same end count lines entries more h =
    elim (cases_Bool (nat_lt (length lines) count)) [
      | inl short ↦
          let bad = rw short at h in
          cc
      | inr long ↦ none_over-same (drop count lines) entries more (rw long at h)
    ]

nothing_good : (form : Form) (sizes : Sizes) → IsGood form sizes []
nothing_good form sizes = record { inside = All-nil (λ u. IsCell form sizes u); once = λ i j d less within. absurd (omega arith); even = λ h i j. refl }

pub entries_good : (form : Form) (sizes : Sizes) (end count : ℕ) (lines : List Line) (entries : List Triple) → IsFrame form sizes
    → entries_of form sizes end count [] lines ≡ Ok entries → IsRead form sizes (2 * count) entries
unfolding entries_of
entries_good form sizes end count lines entries frame h =
    let r = ran (entries_in form sizes [] (take count lines)) (as_many end count lines) entries h in
    let same = as_many-same end count lines r.x entries r.then_ in
    let start : IsRead form sizes 0 [] = record { good = nothing_good form sizes; few = omega arith } in
    let read = lines_in form sizes (take count lines) [] 0 r.x frame start r.first in
    let here : IsRead form sizes (0 + 2 * length (take count lines)) entries = subst (λ (w : List Triple). IsRead form sizes (0 + 2 * length (take count lines)) w) same read in
    record { good = here.good; few = omega (arith, here.few, length-take count lines) }
