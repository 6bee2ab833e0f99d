-- What a drive tells of programs that are cases of a program, it tells of the programs.
use Rattle.std.proofs.Common.{ℕ, zero, suc, ◌≡◌, ◌+◌, ◌*◌, Bool, List, [], ◌∷◌, Option, Some, None, map, slice_get, refl, ap, ◌∙◌}
use Rattle.std.specs.Option.{option_map}
use Rattle.std.proofs.lemmas.Option.{slice_get-map}
use Rattle.route_tensor.specs.Grid.{ranks}
use Rattle.port_bank.specs.Round.{Round}
use Rattle.round_program.specs.Rules.{Rules}
use Rattle.round_program.specs.Canonical.{absorbed_round, states_at, emitted_by, items_at}
use Rattle.round_program.specs.Epochs.{vote_item}
use Rattle.round_program.specs.Injections.{Injects, SameRuns}
use Rattle.rank_node.specs.Movers.{Manner}
use Rattle.rank_group.specs.Transcript.{BankShape, RecordsRun, vote_sent, turns_of, turns_within}

vote_over : {S T : Type 0} {R : Rules S} {Q : Rules T} {i : S → T} {w : List ℕ → List ℕ} → Injects R Q i w → (o : Option S) → vote_sent Q (option_map i o) ≡ vote_sent R o
vote_over j None = refl
vote_over j (Some s) = ap (λ v. vote_item v ∷ []) (j.vote s)

pub tells_case : {S T : Type 0} {R : Rules S} {Q : Rules T} {i : S → T} {w : List ℕ → List ℕ} → Injects R Q i w → SameRuns R Q i w
    → (starts : List S) (n : ℕ) (made : BankShape) (manner : Manner) (round : Round) → RecordsRun Q (map i starts) n made manner round → RecordsRun R starts n made manner round
tells_case {R = R} {Q = Q} {i = i} j same starts n made manner round t =
    record {
      bank = t.bank;
      ended = t.ended;
      by_last = t.by_last;
      collected = t.collected;
      work = λ m s d l a b. t.work m s d l a b ∙ (ap (λ ss. emitted_by Q ss d s) (same.states starts m) ∙ same.emitted (states_at R starts m) d s);
      votes =
          λ m s d l a b.
          t.votes m s d l a b
          ∙ (ap (λ ss. vote_sent Q (slice_get (absorbed_round Q ss) s)) (same.states starts m)
          ∙ (ap (λ ss. vote_sent Q (slice_get ss s)) (same.absorbed (states_at R starts m))
          ∙ (ap (vote_sent Q) (slice_get-map i (absorbed_round R (states_at R starts m)) s) ∙ vote_over j (slice_get (absorbed_round R (states_at R starts m)) s))));
      all_came = t.all_came;
      shape = t.shape;
    }

pub turns_case : {S T : Type 0} {R : Rules S} {Q : Rules T} {i : S → T} {w : List ℕ → List ℕ} → SameRuns R Q i w
    → (manner : Manner) (dims : List ℕ) (starts : List S) (n : ℕ) → turns_within Q manner dims (map i starts) n ≡ turns_within R manner dims starts n
turns_case same manner dims starts zero = refl
turns_case {R = R} {Q = Q} {i = i} same manner dims starts (suc n) =
    ap (λ a. a + (turns_of manner dims (items_at Q (map i starts) n) + turns_of manner dims (ranks dims * ranks dims))) (turns_case same manner dims starts n)
    ∙ ap (λ a. turns_within R manner dims starts n + (turns_of manner dims a + turns_of manner dims (ranks dims * ranks dims))) (same.items starts n)
