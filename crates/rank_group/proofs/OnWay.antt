-- A rank on its way stays on it by a turn.
use Rattle.std.proofs.Common.{◌≡◌, ℕ, ◌+◌, ◌<◌, ◌≤◌, Bool, true, false, cond, refl, sym, ap, subst, arith}
use Rattle.std.proofs.lemmas.Bool.{true≢false}
use Rattle.link_slots.specs.SeatView.{SeatView, table_name, posted_on, collected_from}
use Rattle.link_slots.proofs.Ported.{one_bank}
use Rattle.round_program.specs.Rules.{Rules}
use Rattle.rank_node.specs.Movers.{Manner, epoch_in}
use Rattle.rank_group.specs.Ranks.{RankState, IsRank, progress}
use Rattle.rank_group.specs.Seats.{SeatedState, bank_of, HasSomeRun, TookTurns}

-- a rank that was turned is still on some way
pub has_way : {S : Type 0} (R : Rules S) (cap : ℕ) (notified : ℕ → ℕ → Bool) (x y : SeatedState S) → HasSomeRun R cap x → TookTurns R cap notified x y → HasSomeRun R cap y
has_way R cap notified x y w ran = let m = ran.kept w.manner w.h w.way in record { manner = w.manner; h = m.0; way = m.2 }

module _ {S : Type 0} (R : Rules S) (cap : ℕ) (x : SeatedState S) (rank : RankState S) (seat : SeatView) (same : bank_of (record x { seat = seat }) ≡ bank_of x) (er : seat.rank ≡ x.seat.rank) (notified : ℕ → ℕ → Bool) (heard : notified x.seat.rank x.turns ≡ true) where
  one_more : (n : ℕ) → x.turns ≤ n → n < x.turns + 1 → notified x.seat.rank n ≡ true
  one_more n low high = let e : x.turns ≡ n = omega (arith, low, high) in subst (λ k. notified x.seat.rank k ≡ true) e heard

  -- by a turn
  pub turned : x.lost ≡ false → x.rank.over ≡ false → progress rank ≤ progress x.rank + 1
      → ((manner : Manner) (h : ℕ → S) → IsRank R x.seat.shape.dims cap manner x.seat.rank h x.rank (posted_on x.seat) (collected_from x.seat)
      → (g : ℕ → S) × (g 0 ≡ h 0) × IsRank R x.seat.shape.dims cap manner x.seat.rank g rank (posted_on seat) (collected_from seat))
      → TookTurns R cap notified x (record { rank = rank; seat = seat; turns = x.turns + 1; lost = x.lost })
  turned kept going epoch more =
      record {
        bank = same;
        number = er;
        more = omega arith;
        heard = one_more;
        kept = λ manner h is.
            let m = more manner h (is.runs kept) in (
              m.0,
              m.1,
              record {
                runs = λ q. subst (λ (b : _). IsRank R b.shape.dims cap manner seat.rank m.0 rank (posted_on seat) (collected_from seat)) (sym same)
                    (subst (λ r. IsRank R x.seat.shape.dims cap manner r m.0 rank (posted_on seat) (collected_from seat)) (sym er) m.2);
                few = λ q. let b = is.few kept in omega (arith, epoch, b);
              },
            );
      }

  -- and where memory was wanting nothing more is asked
  pub gave_up : TookTurns R cap notified x (record { rank = rank; seat = seat; turns = x.turns + 1; lost = true })
  gave_up = record { bank = same; number = er; more = omega arith; heard = one_more; kept = λ manner h is. (h, refl, record { runs = λ q. absurd (true≢false q); few = λ q. absurd (true≢false q) }) }

-- a rank that goes on has completed the epochs before its own
pub going_progress : {S : Type 0} (n : RankState S) → n.over ≡ false → progress n ≡ epoch_in n.node.mover
going_progress n e = ap (λ b. cond b (epoch_in n.node.mover + 1) (epoch_in n.node.mover)) e

-- seats of one bank, by what no turn changes
pub one_place : {S : Type 0} (x : SeatedState S) (seat : SeatView) → table_name seat.id ≡ table_name x.seat.id → seat.shape.dims ≡ x.seat.shape.dims → seat.shape.slots ≡ x.seat.shape.slots → bank_of (record x { seat = seat }) ≡ bank_of x
one_place x seat e ed es = let i = one_bank seat.id x.seat.id e in λ k. record { id = i k; shape = record { dims = ed k; slots = es k } }
