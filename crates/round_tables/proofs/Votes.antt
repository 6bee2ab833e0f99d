-- Ranks that each cast the vote that is said of their number.
use Rattle.std.proofs.Common.{◌≡◌, ℕ, zero, suc, ◌+◌, ◌<◌, List, Some, length, map, slice_get, arith, refl, sym, ap, ◌∙◌, subst}
use Rattle.std.specs.List.{range_with_len}
use Rattle.std.proofs.lemmas.List.{length-map}
use Rattle.std.proofs.lemmas.List.FromFn.{length-map-range_with_len}
use Rattle.list_laws.proofs.Lists.{within, got_map, same_reads}
use Rattle.round_program.specs.Rules.{Rules}
use Rattle.round_program.specs.Canonical.{absorbed_round, states_at}
use Rattle.sparse_rows.proofs.Starts.{made_at}
use Rattle.round_tables.specs.Follows.{Vote}

-- a run keeps its ranks
pub states_len : {S : Type 0} (R : Rules S) (starts : List S) (n : ℕ) → length (states_at R starts n) ≡ length starts
states_len R starts zero = refl
states_len R starts (suc n) = length-map (absorbed_round R (states_at R starts n)) _ ∙ length-map (states_at R starts n) _ ∙ states_len R starts n

pub vote_each : {S : Type 0} (R : Rules S) (starts : List S) (n ranks : ℕ) (vote : ℕ → ℕ)
    → length starts ≡ ranks → ((r : ℕ) (s : S) → r < ranks → slice_get (absorbed_round R (states_at R starts n)) r ≡ Some s → R.vote s ≡ vote r) → Vote R starts n ranks vote
vote_each {S} R starts n ranks vote size each =
    let ss : List S = absorbed_round R (states_at R starts n) in
    let len : length ss ≡ ranks = length-map (states_at R starts n) _ ∙ states_len R starts n ∙ size in
    same_reads (map R.vote ss) (map vote (range_with_len 0 ranks)) (length-map ss R.vote ∙ len ∙ sym (length-map-range_with_len vote 0 ranks)) (λ r x there.
    let s = got_map R.vote ss r x there in
    let low : r < ranks = subst (λ c. r < c) len (within ss r s.0 s.1) in
    made_at vote ranks r low ∙ ap Some (sym (each r s.0 low s.1) ∙ s.2))
