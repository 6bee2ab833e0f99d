-- A drive of programs that are cases of a program, told of the programs.
use Rattle.std.proofs.Common.{ℕ, ◌≡◌, ◌+◌, ◌<◌, ◌≤◌, Bool, List, [], ◌∷◌, map, length, sym, ap, ◌∙◌, subst}
use Rattle.rank_group.specs.declared.closed_round.ClosedRound.{ClosedRound}
use Rattle.rank_group.specs.Rounds.{round_inside}
use Rattle.rank_node.specs.Movers.{Manner}
use Rattle.rank_group.specs.Transcript.{BankShape, RecordsRun, turns_within}
use Rattle.round_program.specs.Rules.{Rules}
use Rattle.round_program.specs.Canonical.{InRound, HasRounds, EndsWithin, HaveEnded, states_at}
use Rattle.round_program.specs.Injections.{Injects, SameRuns}
use Rattle.round_program.proofs.Injections.{same_runs}
use Rattle.app_cases.proofs.Telling.{tells_case, turns_case}

module _ {S T : Type 0} {R : Rules S} {Q : Rules T} {i : S → T} {w : List ℕ → List ℕ} (case : Injects R Q i w) (starts : List S) (some : 0 < length starts) (any : List T) (put : any ≡ map i starts) where
  same : SameRuns R Q i w
  same = same_runs R Q i w case

  pub begins : (p : ℕ) → ((shape : List ℕ) × (most : ℕ) × InRound R p 0 shape most starts × EndsWithin R starts most)
      → (shape : List ℕ) × (most : ℕ) × InRound Q p 0 shape most any × EndsWithin Q any most
  begins p b =
      subst (λ a. (shape : List ℕ) × (most : ℕ) × InRound Q p 0 shape most a × EndsWithin Q a most) (sym put)
      (w b.0, b.1, same.in_round p 0 b.0 b.1 starts b.2, same.ends_within starts b.1 some b.3)

  pub steps : (manner : Manner) (dims : List ℕ) (before after : ℕ) → ((n : ℕ) → HasRounds Q any n → after ≤ before + turns_within Q manner dims any n)
      → (n : ℕ) → HasRounds R starts n → after ≤ before + turns_within R manner dims starts n
  steps manner dims before after f n h =
      let e : turns_within Q manner dims any n ≡ turns_within R manner dims starts n = ap (λ a. turns_within Q manner dims a n) put ∙ turns_case same manner dims starts n in
      subst (λ t. after ≤ before + t) e (f n (subst (λ a. HasRounds Q a n) (sym put) (same.has_rounds starts n some h)))

  pub are_cases : (ends : List T) → HaveEnded Q any ends → (xs : List S) × (ends ≡ map i xs)
  are_cases ends h =
      (states_at R starts h.rounds, h.states ∙ (ap (λ a. states_at Q a h.rounds) put ∙ same.states starts h.rounds))

  pub ended : (ends : List T) (xs : List S) → HaveEnded Q any ends → ends ≡ map i xs → HaveEnded R starts xs
  ended ends xs h e = same.have_ended starts xs some (subst (λ a. HaveEnded Q a (map i xs)) put (subst (HaveEnded Q any) e h))

  pub rounds : (made : BankShape) (manner : Manner) (rs : List ClosedRound)
      → ((c : ClosedRound) × (rs ≡ c ∷ []) × ((n : ℕ) → HasRounds Q any n → RecordsRun Q any n made manner (round_inside c)))
      → (c : ClosedRound) × (rs ≡ c ∷ []) × ((n : ℕ) → HasRounds R starts n → RecordsRun R starts n made manner (round_inside c))
  rounds made manner rs t = (
    t.0,
    t.1,
    λ n h.
        tells_case case same starts n made manner (round_inside t.0)
        (subst (λ a. RecordsRun Q a n made manner (round_inside t.0)) put (t.2 n (subst (λ a. HasRounds Q a n) (sym put) (same.has_rounds starts n some h)))),
  )
