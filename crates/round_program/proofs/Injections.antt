-- A run of injected programs is the run of the programs, injected.
use Rattle.std.proofs.Common.{ℕ, zero, suc, ◌+◌, ◌-◌, ◌^◌, ◌<◌, ◌≡◌, min, List, [], ◌∷◌, Option, None, Some, map, length, drop, slice_get, slice_index_or, sum_by, arith, refl, sym, ap, ◌∙◌, subst}
use Rattle.std.specs.Option.{option_map}
use Rattle.std.proofs.lemmas.List.{length-map}
use Rattle.std.proofs.lemmas.List.Sums.{sum_by-cons}
use Rattle.std.proofs.lemmas.Option.{slice_get-map}
use Rattle.bale_items.specs.declared.Item.{Item}
use Rattle.list_laws.proofs.Lists.{got_map}
use Rattle.round_program.specs.Rules.{Rules}
use Rattle.round_program.specs.Canonical.{items_of, emitted_of, emitted_by, absorb_all, absorb_upto, absorbed_round, vote_sum, end_all, after_whole_round, states_at, votes_at, items_at, shape_of, HasRounds, InRound, Member}
use Rattle.round_program.specs.Injections.{Injects, SameRuns}
use Rattle.round_program.proofs.Orders.{upto_ext}

-- a map over injected elements
map_over : {S T : Type 0} (inject : S → T) (f : S → S) (g : T → T) → ((s : S) → g (inject s) ≡ inject (f s)) → (ss : List S) → map g (map inject ss) ≡ map inject (map f ss)
map_over inject f g h [] = refl
map_over inject f g h (s ∷ ss) = ap (λ t. t ∷ map g (map inject ss)) (h s) ∙ ap (λ ts. inject (f s) ∷ ts) (map_over inject f g h ss)

-- a sum over them
sum_over : {S T : Type 0} (inject : S → T) (f : S → ℕ) (g : T → ℕ) → ((s : S) → g (inject s) ≡ f s) → (ss : List S) → sum_by g (map inject ss) ≡ sum_by f ss
sum_over inject f g h [] = refl
sum_over inject f g h (s ∷ ss) =
    sum_by-cons g (inject s) (map inject ss) ∙ (ap (λ a. a + sum_by g (map inject ss)) (h s) ∙ (ap (λ a. f s + a) (sum_over inject f g h ss) ∙ sym (sum_by-cons f s ss)))

-- and an injected list comes from one list
map_once : {S T : Type 0} (inject : S → T) → ((s t : S) → inject s ≡ inject t → s ≡ t) → (xs ys : List S) → map inject xs ≡ map inject ys → xs ≡ ys
map_once inject once [] [] e = refl
map_once inject once [] (y ∷ ys) e = absurd (let l : length (map inject []) ≡ length (map inject (y ∷ ys)) = ap length e in omega arith)
map_once inject once (x ∷ xs) [] e = absurd (let l : length (map inject (x ∷ xs)) ≡ length (map inject []) = ap length e in omega arith)
map_once {S} {T} inject once (x ∷ xs) (y ∷ ys) e =
    let head_or : T → List T → T = λ d ts. slice_index_or ts 0 d in
    let a : x ≡ y = once x y (ap (head_or (inject x)) e) in
    let b : xs ≡ ys = map_once inject once xs ys (ap (drop 1) e) in
    ap (λ z. z ∷ xs) a ∙ ap (λ zs. y ∷ zs) b

emitted_over : {S T : Type 0} {R : Rules S} {Q : Rules T} {inject : S → T} {wrap : List ℕ → List ℕ} → Injects R Q inject wrap → (o : Option S) (d : ℕ) → emitted_of Q (option_map inject o) d ≡ emitted_of R o d
emitted_over i None d = refl
emitted_over i (Some s) d = ap (items_of d) (i.emissions s)

emitted_same : {S T : Type 0} {R : Rules S} {Q : Rules T} {inject : S → T} {wrap : List ℕ → List ℕ} → Injects R Q inject wrap → (ss : List S) (d f : ℕ) → emitted_by Q (map inject ss) d f ≡ emitted_by R ss d f
emitted_same {Q = Q} {inject = inject} i ss d f = ap (λ o. emitted_of Q o d) (slice_get-map inject ss f) ∙ emitted_over i (slice_get ss f) d

all_over : {S T : Type 0} {R : Rules S} {Q : Rules T} {inject : S → T} {wrap : List ℕ → List ℕ} → Injects R Q inject wrap → (s : S) (from : ℕ) (items : List Item) → absorb_all Q (inject s) from items ≡ inject (absorb_all R s from items)
all_over i s from [] = refl
all_over {R = R} {Q = Q} i s from (x ∷ xs) = ap (λ t. absorb_all Q t from xs) (i.absorbed s from x) ∙ all_over i (R.absorbed s from x) from xs

upto_over : {S T : Type 0} {R : Rules S} {Q : Rules T} {inject : S → T} {wrap : List ℕ → List ℕ} → Injects R Q inject wrap → (s : S) (lists : ℕ → List Item) (n : ℕ) → absorb_upto Q (inject s) lists n ≡ inject (absorb_upto R s lists n)
upto_over i s lists zero = refl
upto_over {R = R} {Q = Q} i s lists (suc n) = ap (λ t. absorb_all Q t n (lists n)) (upto_over i s lists n) ∙ all_over i (absorb_upto R s lists n) n (lists n)

absorbed_over : {S T : Type 0} {R : Rules S} {Q : Rules T} {inject : S → T} {wrap : List ℕ → List ℕ} → Injects R Q inject wrap → (ss : List S) → absorbed_round Q (map inject ss) ≡ map inject (absorbed_round R ss)
absorbed_over {R = R} {Q = Q} {inject = inject} i ss =
    map_over inject (λ s. absorb_upto R s (emitted_by R ss (R.rank s)) (length ss)) (λ t. absorb_upto Q t (emitted_by Q (map inject ss) (Q.rank t)) (length (map inject ss)))
    (λ s.
    ap (λ k. absorb_upto Q (inject s) (emitted_by Q (map inject ss) k) (length (map inject ss))) (i.rank s)
    ∙ (ap (absorb_upto Q (inject s) (emitted_by Q (map inject ss) (R.rank s))) (length-map ss inject)
    ∙ (upto_ext Q (inject s) (emitted_by Q (map inject ss) (R.rank s)) (emitted_by R ss (R.rank s)) (length ss) (λ f l. emitted_same i ss (R.rank s) f)
    ∙ upto_over i s (emitted_by R ss (R.rank s)) (length ss))))
    ss

votes_over : {S T : Type 0} {R : Rules S} {Q : Rules T} {inject : S → T} {wrap : List ℕ → List ℕ} → Injects R Q inject wrap → (ss : List S) → vote_sum Q (map inject ss) ≡ vote_sum R ss
votes_over {R = R} {Q = Q} {inject = inject} i ss = ap (λ n. min n (2 ^ 64 - 1)) (sum_over inject R.vote Q.vote i.vote ss)

round_over : {S T : Type 0} {R : Rules S} {Q : Rules T} {inject : S → T} {wrap : List ℕ → List ℕ} → Injects R Q inject wrap → (ss : List S) → after_whole_round Q (map inject ss) ≡ map inject (after_whole_round R ss)
round_over {R = R} {Q = Q} {inject = inject} i ss =
    ap (end_all Q) (absorbed_over i ss)
    ∙ (ap (λ v. map (λ t. Q.ended t v) (map inject (absorbed_round R ss))) (votes_over i (absorbed_round R ss))
    ∙ map_over inject (λ s. R.ended s (vote_sum R (absorbed_round R ss))) (λ t. Q.ended t (vote_sum R (absorbed_round R ss))) (λ s. i.ended s (vote_sum R (absorbed_round R ss))) (absorbed_round R ss))

states_over : {S T : Type 0} {R : Rules S} {Q : Rules T} {inject : S → T} {wrap : List ℕ → List ℕ} → Injects R Q inject wrap → (starts : List S) (n : ℕ) → states_at Q (map inject starts) n ≡ map inject (states_at R starts n)
states_over i starts zero = refl
states_over {R = R} {Q = Q} i starts (suc n) = ap (after_whole_round Q) (states_over i starts n) ∙ round_over i (states_at R starts n)

votes_at_over : {S T : Type 0} {R : Rules S} {Q : Rules T} {inject : S → T} {wrap : List ℕ → List ℕ} → Injects R Q inject wrap → (starts : List S) (n : ℕ) → votes_at Q (map inject starts) n ≡ votes_at R starts n
votes_at_over {R = R} {Q = Q} i starts n =
    ap (λ ts. vote_sum Q (absorbed_round Q ts)) (states_over i starts n) ∙ (ap (vote_sum Q) (absorbed_over i (states_at R starts n)) ∙ votes_over i (absorbed_round R (states_at R starts n)))

items_over : {S T : Type 0} {R : Rules S} {Q : Rules T} {inject : S → T} {wrap : List ℕ → List ℕ} → Injects R Q inject wrap → (starts : List S) (n : ℕ) → items_at Q (map inject starts) n ≡ items_at R starts n
items_over {R = R} {Q = Q} {inject = inject} i starts n =
    ap (sum_by (λ t. length (Q.emissions t))) (states_over i starts n)
    ∙ sum_over inject (λ s. length (R.emissions s)) (λ t. length (Q.emissions t)) (λ s. ap length (i.emissions s)) (states_at R starts n)

in_round_over : {S T : Type 0} {R : Rules S} {Q : Rules T} {inject : S → T} {wrap : List ℕ → List ℕ} → Injects R Q inject wrap → (p n : ℕ) (shape : List ℕ) (most : ℕ) (ss : List S) → InRound R p n shape most ss → InRound Q p n (wrap shape) most (map inject ss)
in_round_over {S} {R = R} {Q = Q} {inject = inject} {wrap = wrap} i p n shape most ss all =
    record {
      size = length-map ss inject ∙ all.size;
      each =
          λ r t e.
          let s : (s : S) × (slice_get ss r ≡ Some s) × (inject s ≡ t) = got_map inject ss r t e in
          let here : Member R p n shape most r s.0 = all.each r s.0 s.1 in
          subst (Member Q p n (wrap shape) most r) s.2
          (record {
            valid = i.valid s.0 here.valid;
            own_rank = i.rank s.0 ∙ here.own_rank;
            all_ranks = i.ranks s.0 ∙ here.all_ranks;
            same_round = i.round s.0 ∙ here.same_round;
            same_shape = i.shape s.0 ∙ ap wrap here.same_shape;
            same_most = i.most s.0 ∙ here.same_most;
          });
    }

shape_over : {S T : Type 0} {R : Rules S} {Q : Rules T} {inject : S → T} {wrap : List ℕ → List ℕ} → Injects R Q inject wrap → (starts : List S) → 0 < length starts → shape_of Q (map inject starts) ≡ wrap (shape_of R starts)
shape_over i [] some = absurd (omega arith)
shape_over i (s ∷ ss) some = i.shape s

goes_over : {S T : Type 0} {R : Rules S} {Q : Rules T} {inject : S → T} {wrap : List ℕ → List ℕ} → Injects R Q inject wrap → (starts : List S) (m : ℕ) → 0 < length starts → Q.goes_on (shape_of Q (map inject starts)) m (votes_at Q (map inject starts) m) ≡ R.goes_on (shape_of R starts) m (votes_at R starts m)
goes_over {R = R} {Q = Q} {inject = inject} i starts m some =
    ap (λ a. Q.goes_on a m (votes_at Q (map inject starts) m)) (shape_over i starts some)
    ∙ (i.goes_on (shape_of R starts) m (votes_at Q (map inject starts) m) ∙ ap (R.goes_on (shape_of R starts) m) (votes_at_over i starts m))

rounds_over : {S T : Type 0} {R : Rules S} {Q : Rules T} {inject : S → T} {wrap : List ℕ → List ℕ} → Injects R Q inject wrap → (starts : List S) (n : ℕ) → 0 < length starts → HasRounds R starts n → HasRounds Q (map inject starts) n
rounds_over i starts n some h =
    record { some = h.some; goes = λ m l. goes_over i starts m some ∙ h.goes m l; stops = goes_over i starts (n - 1) some ∙ h.stops }

rounds_under : {S T : Type 0} {R : Rules S} {Q : Rules T} {inject : S → T} {wrap : List ℕ → List ℕ} → Injects R Q inject wrap → (starts : List S) (n : ℕ) → 0 < length starts → HasRounds Q (map inject starts) n → HasRounds R starts n
rounds_under i starts n some h =
    record { some = h.some; goes = λ m l. sym (goes_over i starts m some) ∙ h.goes m l; stops = sym (goes_over i starts (n - 1) some) ∙ h.stops }

pub same_runs : {S T : Type 0} (R : Rules S) (Q : Rules T) (inject : S → T) (wrap : List ℕ → List ℕ) → Injects R Q inject wrap → SameRuns R Q inject wrap
same_runs R Q inject wrap i =
    record {
      states = states_over i;
      absorbed = absorbed_over i;
      emitted = emitted_same i;
      votes = votes_at_over i;
      items = items_over i;
      in_round = in_round_over i;
      has_rounds = rounds_over i;
      rounds_back = rounds_under i;
      ends_within = λ starts most some e. record { rounds = e.rounds; has_rounds = rounds_over i starts e.rounds some e.has_rounds; at_most = e.at_most };
      have_ended =
          λ starts ends some e.
          record {
            rounds = e.rounds;
            has_rounds = rounds_under i starts e.rounds some e.has_rounds;
            states = map_once inject i.once ends (states_at R starts e.rounds) (e.states ∙ states_over i starts e.rounds);
          };
    }
