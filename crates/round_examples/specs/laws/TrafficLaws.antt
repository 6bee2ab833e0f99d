-- The laws of traffic.
use Rattle.std.proofs.Common.{ℕ, ◌+◌, ◌%◌, ◌^◌, ◌<◌, ◌≤◌, ◌≡◌, true, List, [], ◌∷◌, if◌then◌else◌, length, All, arith}
use Rattle.std.proofs.Common.{refl, sym}
use Rattle.std.proofs.Common.{ap, subst, ◌∙◌, inl, inr, lit<}
use Rattle.std.proofs.lemmas.Bool.{cases_eq, eq-eqb, ne_eqb}
use Rattle.std.proofs.lemmas.Bool.Decides.{nat_tests}
use Rattle.std.proofs.lemmas.List.Elements.{All-nil, All-cons}
use Rattle.bale_items.specs.declared.Item.{Item}
use Rattle.list_laws.proofs.Lists.{changed_comm, all_head, all_tail}
use Rattle.round_program.specs.Laws.{Laws, IsItem}
use Rattle.round_examples.specs.Traffics.{TrafficState, IsTraffic, traffic_rules, is_sent, sent_from, traffic_raised}

sent_within : (shape : List ℕ) (ranks round to from : ℕ) (x : Item) → is_sent ranks round to from x ≡ true
    → (to < ranks) × (from < ranks) × IsItem x
sent_within shape ranks round to from x h = (
  grind (arith, nat_tests),
  grind (arith, nat_tests),
  (grind (arith, nat_tests), grind (arith, nat_tests), grind (arith, nat_tests)),
)

sent_fits : (ranks round to from cell i : ℕ) → round ≡ 0 → to < ranks → from < ranks → cell < 1024 → i < 2 ^ 64
    → is_sent ranks round to from (record { a = cell; b = 1; c = i }) ≡ true
sent_fits ranks round to from cell i z t f c few = grind (arith, nat_tests)

all_sent : (ranks round from i : ℕ) (ts : List (ℕ × ℕ)) → round ≡ 0 → from < ranks
    → All (λ t. (t.0 < ranks) × (t.1 < 1024)) ts → i + length ts ≤ 2 ^ 64
    → All (λ e. is_sent ranks round e.0 from e.1 ≡ true) (sent_from i ts)
all_sent ranks round from i [] z f aims few = All-nil (λ e. is_sent ranks round e.0 from e.1 ≡ true)
all_sent ranks round from i (t ∷ ts) z f aims few =
    let head = all_head (λ t. (t.0 < ranks) × (t.1 < 1024)) t ts aims in
    All-cons (λ e. is_sent ranks round e.0 from e.1 ≡ true) (t.0, record { a = t.1; b = 1; c = i })
    (sent_from (i + 1) ts)
    (sent_fits ranks round t.0 from t.1 i z head.0 f head.1 (omega (arith, few)))
    (all_sent ranks round from (i + 1) ts z f (all_tail (λ t. (t.0 < ranks) × (t.1 < 1024)) t ts aims)
    (omega (arith, few)))

emits : (s : TrafficState) → IsTraffic s
    → All (λ e. is_sent s.ranks s.round e.0 s.rank e.1 ≡ true) (traffic_rules.emissions s)
emits s v =
    elim (cases_eq s.round 0) [
      | inl z ↦
          subst (λ b. All (λ e. is_sent s.ranks s.round e.0 s.rank e.1 ≡ true)
          (if b then sent_from 0 s.targets else []))
          (sym (eq-eqb s.round 0 z))
          (all_sent s.ranks s.round s.rank 0 s.targets z v.own v.aims (omega (arith, v.items)))
      | inr n ↦
          subst (λ b. All (λ e. is_sent s.ranks s.round e.0 s.rank e.1 ≡ true)
          (if b then sent_from 0 s.targets else []))
          (sym (ne_eqb s.round 0 n)) (All-nil (λ e. is_sent s.ranks s.round e.0 s.rank e.1 ≡ true))
    ]

raised_comm : (counts : List ℕ) (x y : Item) → traffic_raised (traffic_raised counts x) y ≡ traffic_raised (traffic_raised counts y) x
raised_comm counts x y =
    changed_comm counts x.a y.a 0 (λ v. (v + x.b) % 2 ^ 64) (λ v. (v + y.b) % 2 ^ 64) (λ e v. omega arith)

check_comm : (check : ℕ) (x y : Item)
    → ((check + x.c) % 2 ^ 64 + y.c) % 2 ^ 64 ≡ ((check + y.c) % 2 ^ 64 + x.c) % 2 ^ 64
check_comm check x y = omega arith

pub traffic_laws : Laws traffic_rules
traffic_laws =
    record {
      emits = emits;
      commutes = λ s f g x y v d e h.
          ap (λ c. record s { counts = c; check = ((s.check + x.c) % 2 ^ 64 + y.c) % 2 ^ 64 })
          (raised_comm s.counts x y)
          ∙ ap (λ c. record s { counts = traffic_raised (traffic_raised s.counts y) x; check = c }) (check_comm s.check x y);
      keeps = λ s f x v e. record {
        valid = record { own = v.own; few = v.few; items = v.items; aims = v.aims };
        rank = refl;
        ranks = refl;
        round = refl;
        shape = refl;
        most = refl;
        emissions = refl;
      };
      vote_below = λ s v. lit< tt;
      next = λ s votes v l. record {
        valid = record { own = v.own; few = v.few; items = v.items; aims = v.aims };
        rank = refl;
        ranks = refl;
        round = refl;
        shape = refl;
        most = refl;
      };
      within = sent_within;
      most_below = λ s v. omega (arith, v.few);
    }
