-- The seven laws of the propagation of labels.
use Rattle.std.proofs.Common.{ℕ, ◌%◌, ◌<◌, ◌≤◌, ◌≡◌, true, List, [], ◌∷◌, length, get_or, All, arith, refl, ap, subst}
use Rattle.std.proofs.Common.{sym, lit<, ◌∙◌}
use Rattle.std.proofs.lemmas.Bool.Decides.{nat_tests}
use Rattle.std.proofs.lemmas.List.Elements.{All-map, All-filter}
use Rattle.bale_items.specs.declared.Item.{Item}
use Rattle.reductions.specs.declared.reduced.Reduction.TheVariants.{Least}
use Rattle.reductions.specs.Reductions.{after_item, has_changed}
use Rattle.reductions.proofs.Cells.{reduced_comm, reduced_len, least_below, vote_low}
use Rattle.round_program.specs.Laws.{Laws, Fits, SameRound, IsItem}
use Rattle.components.specs.declared.labels.Link.{Link}
use Rattle.components.specs.LabelRules.{LabelState, IsLabels, IsVertexLink, label_rules, is_label, to_label_owner}

-- what may be sent goes from a rank to a rank
within : (shape : List ℕ) (ranks round to from : ℕ) (x : Item) → is_label shape ranks round to from x ≡ true
    → (to < ranks) × (from < ranks) × IsItem x
within [] ranks round to from x h = absurd (cc)
within (n ∷ []) ranks round to from x h = (grind (arith, nat_tests), grind (arith, nat_tests), grind (arith, nat_tests))
within (n ∷ (c ∷ cs)) ranks round to from x h = absurd (cc)

-- an emission may be sent to its receiver
link_fits : (s : LabelState) (l : Link) → IsLabels s → IsVertexLink (length s.labels.cells) l
    → Fits label_rules (record s { rank = l.to % s.ranks }) s.rank (to_label_owner s.ranks s.labels.before l).1
link_fits s l v is =
    let own : s.rank < s.ranks = v.own in
    let to : l.to < length s.labels.cells = is.to in
    let few : length s.labels.cells ≤ 16384 = v.vertices in
    let low : get_or s.labels.before l.from 0 < length s.labels.cells =
    v.low_before l.from 0 (subst (λ n. l.from < n) (sym v.same) is.from) in
    grind (arith, nat_tests)

-- an absorb keeps the round
keeps : (s : LabelState) (f : ℕ) (x : Item) → IsLabels s → SameRound label_rules s (label_rules.absorbed s f x)
keeps s f x v =
    let len : length (after_item Least s.labels x.a x.b).cells ≡ length s.labels.cells =
    reduced_len Least s.labels x.a x.b in
    record {
      valid =
          record {
            own = v.own;
            few = v.few;
            vertices = subst (λ n. n ≤ 16_384) (sym len) v.vertices;
            same = v.same ∙ sym len;
            low = subst (λ n. All (λ l. l < n) (after_item Least s.labels x.a x.b).cells) (sym len)
                (least_below s.labels x.a x.b (length s.labels.cells) v.low);
            low_before = subst (λ n. All (λ l. l < n) s.labels.before) (sym len) v.low_before;
            linked = subst (λ n. All (IsVertexLink n) s.links) (sym len) v.linked;
            sent = subst (λ n. All (IsVertexLink n) s.active) (sym len) v.sent;
          };
      rank = refl;
      ranks = refl;
      round = refl;
      shape = ap (λ n. n ∷ []) len;
      most = refl;
      emissions = refl;
    }

-- the end of a round
pub label_ended_valid : (s : LabelState) (votes : ℕ) → IsLabels s → IsLabels (label_rules.ended s votes)
label_ended_valid s votes v =
    record {
      own = v.own;
      few = v.few;
      vertices = v.vertices;
      same = refl;
      low = v.low;
      low_before = v.low;
      linked = v.linked;
      sent = All-filter (λ l. has_changed s.labels l.from) (IsVertexLink (length s.labels.cells)) s.links
          (λ i l m. v.linked i l m);
    }

pub label_laws : Laws label_rules
label_laws =
    record {
      emits = λ s v. All-map (λ e. is_label (length s.labels.cells ∷ []) s.ranks s.round e.0 s.rank e.1 ≡ true)
          (to_label_owner s.ranks s.labels.before) s.active (λ k d l. link_fits s (get_or s.active k d) v (v.sent k d l));
      commutes = λ s f g x y v d e h. ap (λ ls. record s { labels = ls }) (reduced_comm Least s.labels x.a x.b y.a y.b);
      keeps = λ s f x v e. keeps s f x v;
      vote_below = λ s v. vote_low s.labels;
      next = λ s votes v l. record {
        valid = label_ended_valid s votes v;
        rank = refl;
        ranks = refl;
        round = refl;
        shape = refl;
        most = refl;
      };
      within = within;
      most_below = λ s v. lit< tt;
    }
