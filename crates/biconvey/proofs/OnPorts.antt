-- A rank at its two ports stays on its way by a turn.
use Rattle.std.proofs.Common.{◌≡◌, ℕ, ◌+◌, Bool, true, false, ◌||◌, refl, sym, ap, subst, ◌∙◌, arith}
use Rattle.port_bank.specs.Shapes.{IsConveyorShape}
use Rattle.link_slots.specs.SeatView.{BankIdentity, SeatView, table_name, posted_on, collected_from}
use Rattle.link_slots.proofs.Ported.{one_bank}
use Rattle.round_program.specs.Talks.{Talk}
use Rattle.query_node.specs.States.{BiState, IsBiNode}
use Rattle.rank_group.specs.TurnNotes.{HasSame}
use Rattle.biconvey.specs.Seats.{BiSeatedState, HasSomeBiRun, SameSeat, TookBiTurns}

-- a seat by what no turn changes
pub one_seat : (old new : SeatView) → table_name new.id ≡ table_name old.id → new.shape.dims ≡ old.shape.dims → new.shape.slots ≡ old.shape.slots → new.rank ≡ old.rank → SameSeat old new
one_seat old new e ed es er = let i = one_bank new.id old.id e in record { bank = λ k. record { id = i k; shape = record { dims = ed k; slots = es k } }; number = er }

-- a rank that was turned is still on some way
pub has_way : {S : Type 0} (T : Talk S) (cap : ℕ) (notified : ℕ → ℕ → Bool) (x y : BiSeatedState S) → HasSomeBiRun T cap x → TookBiTurns T cap notified x y → HasSomeBiRun T cap y
has_way T cap notified x y w ran = record { steady = w.steady; start = w.start; way = ran.kept w.steady w.start w.way }

-- by a port that noted no move since it began to watch, which it still knows
pub none_moved : (before watched kept now : SeatView) → HasSame kept now → posted_on kept ≡ posted_on watched → collected_from kept ≡ collected_from watched → watched ≡ before → HasSame before now
none_moved before watched kept now same sent got is = record { sent = same.sent ∙ (sent ∙ ap posted_on is); got = same.got ∙ (got ∙ ap collected_from is) }

-- by one that noted a move
pub some_moved : (before watched kept now : SeatView) → (HasSame kept now → ⊥) → posted_on kept ≡ posted_on watched → collected_from kept ≡ collected_from watched → watched ≡ before → HasSame before now → ⊥
some_moved before watched kept now apart sent got is same = apart record { sent = same.sent ∙ sym (sent ∙ ap posted_on is); got = same.got ∙ sym (got ∙ ap collected_from is) }

-- one of two holds, and neither does
pub any_of : (a b : Bool) → (a || b) ≡ true → (a ≡ true → ⊥) → (b ≡ true → ⊥) → ⊥
any_of true b e not_a not_b = not_a refl
any_of false b e not_a not_b = not_b e

pub turned : {S : Type 0} (T : Talk S) (cap : ℕ) (notified : ℕ → ℕ → Bool) (n n' : BiState S) (q q' p p' : SeatView) (turns : ℕ) → notified q.rank turns ≡ true → SameSeat q q' → SameSeat p p' → n'.queries.dims ≡ n.queries.dims → n'.queries.rank ≡ n.queries.rank
    → n'.queries.steady ≡ n.queries.steady → n'.replies.steady ≡ n.replies.steady
    → ((start : S) → IsBiNode T start n (posted_on q) (collected_from q) (posted_on p) (collected_from p) → IsBiNode T start n' (posted_on q') (collected_from q') (posted_on p') (collected_from p'))
    → ((l : ℕ) → IsConveyorShape n.queries.steady cap (posted_on q l) → IsConveyorShape n.queries.steady cap (posted_on q' l))
    → ((l : ℕ) → IsConveyorShape n.replies.steady cap (posted_on p l) → IsConveyorShape n.replies.steady cap (posted_on p' l))
    → TookBiTurns T cap notified (record { node = n; queries = q; replies = p; turns = turns }) (record { node = n'; queries = q'; replies = p'; turns = turns + 1 })
turned {S} T cap notified n n' q q' p p' turns heard same_q same_p dims rank steady_q steady_p kept shape_q shape_p =
    record {
      queries = same_q;
      replies = same_p;
      more = omega arith;
      heard = λ k low high. let e : turns ≡ k = omega (arith, low, high) in subst (λ j. notified q.rank j ≡ true) e heard;
      kept = λ steady start w.
          let node = kept start w.node in
          record {
            queries = record { same_dims = dims ∙ (w.queries.same_dims ∙ sym (ap (λ (a : BankIdentity). a.shape.dims) same_q.bank)); same_rank = rank ∙ (w.queries.same_rank ∙ sym same_q.number) };
            replies = record {
              same_dims = node.same_dims ∙ (dims ∙ (sym w.node.same_dims ∙ (w.replies.same_dims ∙ sym (ap (λ (a : BankIdentity). a.shape.dims) same_p.bank))));
              same_rank = node.same_rank ∙ (rank ∙ (sym w.node.same_rank ∙ (w.replies.same_rank ∙ sym same_p.number)));
            };
            same_steady = (steady_q ∙ w.same_steady.0, steady_p ∙ w.same_steady.1);
            node = node;
            queries_shape = λ l. subst (λ s. IsConveyorShape s cap (posted_on q' l)) w.same_steady.0 (shape_q l (subst (λ s. IsConveyorShape s cap (posted_on q l)) (sym w.same_steady.0) (w.queries_shape l)));
            replies_shape = λ l. subst (λ s. IsConveyorShape s cap (posted_on p' l)) w.same_steady.1 (shape_p l (subst (λ s. IsConveyorShape s cap (posted_on p l)) (sym w.same_steady.1) (w.replies_shape l)));
            some = λ over. omega arith;
          };
    }
