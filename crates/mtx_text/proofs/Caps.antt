-- Reading integers up to 10^18 only changes no answer: every limit of the grammar lies below.
use Rattle.std.proofs.Common.{◌≡◌, ℕ, ◌≤◌, ◌<◌, ◌==◌, ◌&&◌, ◌||◌, not, List, take, refl, sym, ap, ◌∙◌, inl, inr, min, nat_lt, nat_le, arith}
use Rattle.std.proofs.lemmas.Bool.{cases_Bool, and_parts, or_parts, leb-true, ltb-false, cases_lt, lt-ltb, le-ltb, lt-leb, le-leb, eq-eqb, ne_eqb, cases_eq}
use Rattle.std.specs.Option.{option_map}
use Rattle.std.specs.Prelude.{Option, Some, None, Result, Ok, ok_or}
use Rattle.bale_items.specs.declared.triple.Triple.{Triple}
use Rattle.mtx_text.specs.declared.banner.Form.{Form}
use Rattle.mtx_text.specs.declared.integer.Integer.{Integer}
use Rattle.mtx_text.specs.declared.kind.Kind.{Kind}
use Rattle.mtx_text.specs.declared.refusal.Reason.{Reason}
use Rattle.mtx_text.specs.declared.refusal.Reason.TheVariants as reason
use Rattle.mtx_text.specs.declared.sizes.Sizes.{Sizes}
use Rattle.mtx_text.specs.Integers.{integer_of, is_natural}
use Rattle.mtx_text.specs.Lines.{words_of}
use Rattle.mtx_text.specs.code.Capped.{capped, read_three, cell_from}
use Rattle.mtx_text.specs.Grammar.{◌>>=◌, three_of, fields_of, natural_of, within_limits, sizes_by, is_index, place_of, value_within, cell_by}

abbrev cut : ℕ → ℕ
cut n = min n 1_000_000_000_000_000_000

below_cut : (limit n : ℕ) → limit < 1_000_000_000_000_000_000 → nat_lt limit (cut n) ≡ nat_lt limit n
below_cut limit n small =
    elim (cases_lt limit n) [
      | inl h ↦ lt-ltb limit (cut n) (omega arith) ∙ sym (lt-ltb limit n h)
      | inr h ↦ le-ltb limit (cut n) (omega arith) ∙ sym (le-ltb limit n h)
    ]

le_cut : (limit n : ℕ) → limit < 1_000_000_000_000_000_000 → nat_le (cut n) limit ≡ nat_le n limit
le_cut limit n small =
    elim (cases_lt limit n) [
      | inl h ↦ lt-leb (cut n) limit (omega arith) ∙ sym (lt-leb n limit h)
      | inr h ↦ le-leb (cut n) limit (omega arith) ∙ sym (le-leb n limit h)
    ]

zero_cut : (n : ℕ) → (cut n == 0) ≡ (n == 0)
zero_cut n =
    elim (cases_eq n 0) [
      | inl h ↦ eq-eqb (cut n) 0 (omega arith) ∙ sym (eq-eqb n 0 h)
      | inr h ↦ ne_eqb (cut n) 0 (omega arith) ∙ sym (ne_eqb n 0 h)
    ]

-- ---- the size line

natural_cut : (o : Option Integer) → natural_of (option_map capped o) ≡ option_map cut (natural_of o)
natural_cut None = refl
natural_cut (Some z) =
    rw (zero_cut z.size)
    (elim (cases_Bool (is_natural z)) [ inl h ↦ rw h | inr h ↦ rw h ])

abbrev sizes_at : ℕ → ℕ → ℕ → Sizes
sizes_at rows cols entries = record { rows = rows; cols = cols; entries = entries }

limits_cut : (form : Form) (a b c : ℕ) → within_limits form (sizes_at (cut a) (cut b) (cut c)) ≡ within_limits form (sizes_at a b c)
limits_cut form a b c =
    rw (below_cut 16_384 a (omega arith), below_cut 16_384 b (omega arith), below_cut 262_144 c (omega arith))
    (elim (cases_Bool (nat_lt 16_384 a || nat_lt 16_384 b || nat_lt 262_144 c)) [
      | inl h ↦ rw h
      | inr h ↦
          let outer = or_parts (nat_lt 16_384 a || nat_lt 16_384 b) (nat_lt 262_144 c) h in
          let inner = or_parts (nat_lt 16_384 a) (nat_lt 16_384 b) outer.0 in
          let x : a ≤ 16_384 = ltb-false 16_384 a inner.0 in
          let y : b ≤ 16_384 = ltb-false 16_384 b inner.1 in
          let z : c ≤ 262_144 = ltb-false 262_144 c outer.1 in
          let p : cut a ≡ a = omega arith in
          let q : cut b ≡ b = omega arith in
          let r : cut c ≡ c = omega arith in
          rw (p, q, r)
    ])

abbrev sized : Form → Option ℕ → Option ℕ → Option ℕ → Result Sizes Reason
sized form a b c =
    ok_or a reason.SizeLine >>= λ rows. ok_or b reason.SizeLine >>= λ cols. ok_or c reason.SizeLine
    >>= λ entries. within_limits form (sizes_at rows cols entries)

sized_cut : (form : Form) (a b c : Option ℕ) → sized form (option_map cut a) (option_map cut b) (option_map cut c) ≡ sized form a b c
sized_cut form None b c = refl
sized_cut form (Some x) None c = refl
sized_cut form (Some x) (Some y) None = refl
sized_cut form (Some x) (Some y) (Some z) = limits_cut form x y z

three_cut : (form : Form) (o : Option (List ℕ × List ℕ × List ℕ))
    → (ok_or o reason.SizeLine >>= λ t. sized form (natural_of (option_map capped (integer_of t.0))) (natural_of (option_map capped (integer_of t.1))) (natural_of (option_map capped (integer_of t.2))))
    ≡ (ok_or o reason.SizeLine >>= λ t. sized form (natural_of (integer_of t.0)) (natural_of (integer_of t.1)) (natural_of (integer_of t.2)))
three_cut form None = refl
three_cut form (Some t) =
    rw (natural_cut (integer_of t.0), natural_cut (integer_of t.1), natural_cut (integer_of t.2))
    (sized_cut form (natural_of (integer_of t.0)) (natural_of (integer_of t.1)) (natural_of (integer_of t.2)))

pub sizes_capped : (form : Form) (words : List (List ℕ)) → sizes_by (λ w. option_map capped (integer_of w)) form words ≡ sizes_by integer_of form words
unfolding sizes_by
sizes_capped form words = three_cut form (three_of words)

-- ---- an entry line

index_cut : (size : ℕ) (z : Integer) → size ≤ 16_384 → is_index size (capped z) ≡ is_index size z
index_cut size z small = rw (below_cut 0 z.size (omega arith), le_cut size z.size (omega arith))

place_cut : (form : Form) (sizes : Sizes) (i j : Integer) → sizes.rows ≤ 16_384 → sizes.cols ≤ 16_384
    → place_of form sizes (capped i) (capped j) ≡ place_of form sizes i j
place_cut form sizes i j tall wide =
    rw (index_cut sizes.rows i tall, index_cut sizes.cols j wide)
    (elim (cases_Bool (is_index sizes.rows i && is_index sizes.cols j)) [
      | inr h ↦ rw h
      | inl h ↦
          let both = and_parts (is_index sizes.rows i) (is_index sizes.cols j) h in
          let high_i = and_parts (not i.minus && nat_le 1 i.size) (nat_le i.size sizes.rows) both.0 in
          let high_j = and_parts (not j.minus && nat_le 1 j.size) (nat_le j.size sizes.cols) both.1 in
          let x : i.size ≤ sizes.rows = leb-true i.size sizes.rows high_i.1 in
          let y : j.size ≤ sizes.cols = leb-true j.size sizes.cols high_j.1 in
          let p : cut i.size ≡ i.size = omega arith in
          let q : cut j.size ≡ j.size = omega arith in
          rw (p, q)
    ])

value_cut : (o : Option Integer) → value_within (option_map capped o) ≡ value_within o
value_cut None = refl
value_cut (Some z) =
    rw (below_cut 1_000_000_000_000 z.size (omega arith))
    (elim (cases_Bool (nat_lt 1_000_000_000_000 z.size)) [
      | inl h ↦ rw h
      | inr h ↦
          let x : z.size ≤ 1_000_000_000_000 = ltb-false 1_000_000_000_000 z.size h in
          let p : cut z.size ≡ z.size = omega arith in
          rw p
    ])

abbrev celled : Form → Sizes → Option Integer → Option Integer → Option Integer → Result Triple Reason
celled form sizes a b c =
    ok_or a reason.EntryLine >>= λ i. ok_or b reason.EntryLine >>= λ j. place_of form sizes i j
    >>= λ place. value_within c >>= λ v. Ok (record { i = place.0; j = place.1; v = v })

celled_cut : (form : Form) (sizes : Sizes) (a b c : Option Integer) → sizes.rows ≤ 16_384 → sizes.cols ≤ 16_384
    → celled form sizes (option_map capped a) (option_map capped b) (option_map capped c) ≡ celled form sizes a b c
celled_cut form sizes None b c tall wide = refl
celled_cut form sizes (Some i) None c tall wide = refl
celled_cut form sizes (Some i) (Some j) c tall wide = rw (place_cut form sizes i j tall wide, value_cut c)

from_cell : (form : Form) (sizes : Sizes) (o : Option (List ℕ × List ℕ × List ℕ)) → sizes.rows ≤ 16_384 → sizes.cols ≤ 16_384
    → cell_from form sizes (option_map read_three o)
    ≡ (ok_or o reason.EntryLine >>= λ t. celled form sizes (integer_of t.0) (integer_of t.1) (integer_of t.2))
unfolding cell_from
from_cell form sizes None tall wide = refl
from_cell form sizes (Some t) tall wide = celled_cut form sizes (integer_of t.0) (integer_of t.1) (integer_of t.2) tall wide

pub cell_capped : (form : Form) (sizes : Sizes) (words : List (List ℕ)) → sizes.rows ≤ 16_384 → sizes.cols ≤ 16_384
    → cell_from form sizes (option_map read_three (fields_of form.kind words)) ≡ cell_by integer_of form sizes words
unfolding cell_by
cell_capped form sizes words tall wide = from_cell form sizes (fields_of form.kind words) tall wide

-- the same of a text's first bytes, read as a line of its kind
pub cell_read : (form : Form) (sizes : Sizes) (kind : Kind) (text : List ℕ) (len n : ℕ) (cell : Result Triple Reason) (read : Option (Option Integer × Option Integer × Option Integer))
    → cell ≡ cell_from form sizes read → read ≡ option_map read_three (fields_of kind (words_of (take n text))) → len ≡ n → form.kind ≡ kind
    → sizes.rows ≤ 16_384 → sizes.cols ≤ 16_384 → cell ≡ cell_by integer_of form sizes (words_of (take len text))
cell_read form sizes kind text len n cell read is three same own tall wide =
    is ∙ ap (cell_from form sizes) (three ∙ ap (λ i. option_map read_three (fields_of kind (words_of (take i text)))) (sym same))
    ∙ ap (λ k. cell_from form sizes (option_map read_three (fields_of k (words_of (take len text))))) (sym own)
    ∙ cell_capped form sizes (words_of (take len text)) tall wide
