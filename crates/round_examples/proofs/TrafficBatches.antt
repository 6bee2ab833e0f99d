-- What a batch makes of a rank's counts and numbers is what it makes of the rank.
use Rattle.std.proofs.Common.{ℕ, ◌+◌, ◌%◌, ◌^◌, ◌<◌, ◌≡◌, ◌≢◌, ◌==◌, Bool, true, false, List, [], ◌∷◌, cond, length, refl, ap, ◌∙◌, arith}
use Rattle.std.specs.Prelude.{nat_lt, ◌&&◌}
use Rattle.std.proofs.lemmas.Bool.{ne_eqb}
use Rattle.std.proofs.lemmas.Bool.Decides.{nat_tests}
use Rattle.bale_items.specs.declared.Item.{Item}
use Rattle.list_laws.proofs.Lists.{changed_len}
use Rattle.round_program.specs.Laws.{is_item}
use Rattle.round_program.specs.Batches.{all_taken_in}
use Rattle.round_examples.specs.Traffics.{TrafficState, traffic_rules, is_sent, traffic_raised}
use Rattle.round_examples.specs.code.TrafficBatches.{is_for_it, all_counted, all_checked}

-- a choice of two fields
inside : (s : TrafficState) (b c : Bool) (l m : List ℕ) (i j : ℕ) → b ≡ c
    → cond b (record s { counts = l; check = i }) (record s { counts = m; check = j }) ≡ record s { counts = cond c l m; check = cond c i j }
inside s true true l m i j e = refl
inside s false false l m i j e = refl
inside s true false l m i j e = absurd (cc)
inside s false true l m i j e = absurd (cc)

-- what a rank may be sent in its first round
first : (n to ranks from : ℕ) (x : Item) → n ≡ 0 → to < ranks → is_sent ranks n to from x ≡ is_for_it ranks from x
first n to ranks from x z own =
    ap (λ k. is_sent ranks k to from x) z ∙ ap (λ b. b && nat_lt from ranks && nat_lt x.a 1024 && is_item x) low
  where
    low : nat_lt to ranks ≡ true
    low = grind (arith, nat_tests, own)

pub counts_taken : (s : TrafficState) (counts : List ℕ) (check : ℕ) (came : List (ℕ × Item)) → s.round ≡ 0 → s.rank < s.ranks
    → all_taken_in traffic_rules (record s { counts = counts; check = check }) came ≡ record s { counts = all_counted s.ranks counts came; check = all_checked s.ranks check came }
counts_taken s counts check [] z own = refl
counts_taken s counts check (e ∷ es) z own =
    let b = is_for_it s.ranks e.0 e.1 in
    ap (λ t. all_taken_in traffic_rules t es)
    (inside s (is_sent s.ranks s.round s.rank e.0 e.1) b (traffic_raised counts e.1) counts ((check + e.1.c) % 2 ^ 64) check (first s.round s.rank s.ranks e.0 e.1 z own))
    ∙ counts_taken s (cond b (traffic_raised counts e.1) counts) (cond b ((check + e.1.c) % 2 ^ 64) check) es z own

-- nothing may be sent in a later round
pub none_taken : (s : TrafficState) (came : List (ℕ × Item)) → s.round ≢ 0 → all_taken_in traffic_rules s came ≡ s
none_taken s [] n = refl
none_taken s (e ∷ es) n = ap (λ t. all_taken_in traffic_rules t es) (late (s.round == 0) (ne_eqb s.round 0 n)) ∙ none_taken s es n
  where
    late : (b : Bool) → b ≡ false
        → cond (b && nat_lt s.rank s.ranks && nat_lt e.0 s.ranks && nat_lt e.1.a 1024 && is_item e.1) (record s { counts = traffic_raised s.counts e.1; check = (s.check + e.1.c) % 2 ^ 64 }) s ≡ s
    late false h = refl
    late true h = absurd (cc)

-- the counts stay as many
raised_len : (b : Bool) (counts : List ℕ) (x : Item) → length (cond b (traffic_raised counts x) counts) ≡ length counts
raised_len true counts x = changed_len counts x.a 0 (λ v. (v + x.b) % 2 ^ 64)
raised_len false counts x = refl

pub all_raised_len : (ranks : ℕ) (counts : List ℕ) (came : List (ℕ × Item)) → length (all_counted ranks counts came) ≡ length counts
all_raised_len ranks counts [] = refl
all_raised_len ranks counts (e ∷ es) =
    all_raised_len ranks (cond (is_for_it ranks e.0 e.1) (traffic_raised counts e.1) counts) es ∙ raised_len (is_for_it ranks e.0 e.1) counts e.1
