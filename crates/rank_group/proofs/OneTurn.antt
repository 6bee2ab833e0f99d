-- What a turn leaves of one rank, over its own logs, whatever port it was turned at.
use Rattle.std.proofs.Common.{◌≡◌, ℕ, ◌+◌, ◌<◌, Bool, true, false, not, List, refl, sym, ap, subst, ◌∙◌, arith}
use Rattle.std.proofs.lemmas.Bool.{true≢false}
use Rattle.port_bank.specs.Logs.{Logs}
use Rattle.route_tensor.specs.Link.{links}
use Rattle.route_tensor.specs.Ends.{sender_at}
use Rattle.round_program.specs.Rules.{Rules}
use Rattle.rank_node.specs.Sending.{is_voting}
use Rattle.rank_node.specs.Movers.{Manner, IsLogShape, mover_dims, mover_rank, manner_in, HasCap}
use Rattle.rank_node.specs.Nodes.{NodeState, IsNode}
use Rattle.rank_node.specs.Next.{with_next, HasStopped, KeepsTransport, BeginsEpoch, EndsRun}
use Rattle.rank_group.specs.Ranks.{RankState, IsRank}
use Rattle.rank_node.proofs.Between.{extended_before}

-- what a turn tells of a node
pub record OneTurn {S : Type 0} (R : Rules S) (cap : ℕ) (n n' : NodeState S) (sent got sent' got' : Logs) : Type 0 where
  pub dims : mover_dims n'.mover ≡ mover_dims n.mover
  pub rank : mover_rank n'.mover ≡ mover_rank n.mover
  pub manner : manner_in n'.mover ≡ manner_in n.mover
  pub cap_is : HasCap cap n'.mover
  pub shape : (l : ℕ) → l < links (mover_dims n.mover) → sender_at (mover_dims n.mover) l ≡ mover_rank n.mover → IsLogShape (manner_in n.mover) cap (sent l) → IsLogShape (manner_in n.mover) cap (sent' l)
  pub kept : (h : ℕ → S) → IsNode R h n sent got → IsNode R h n' sent' got'

-- what `next` tells
pub record NextTold {S : Type 0} (R : Rules S) (cap : ℕ) (n n' : NodeState S) (more : Bool) : Type 0 where
  pub keeps : KeepsTransport cap n.mover n'.mover
  pub begins : more ≡ true → BeginsEpoch R n n'
  pub ends : more ≡ false → EndsRun R n n'

module _ {S : Type 0} (R : Rules S) (dims : List ℕ) (cap r : ℕ) (manner : Manner) (h : ℕ → S) (n : RankState S) (n1 : NodeState S) (sent got sent' got' : Logs)
    (is : IsRank R dims cap manner r h n sent got) (on : n.over ≡ false) (t : OneTurn R cap n.node n1 sent got sent' got') where
  shaped : (l : ℕ) → l < links dims → sender_at dims l ≡ r → IsLogShape manner cap (sent' l)
  shaped l below own =
      let b : l < links (mover_dims n.node.mover) = subst (λ (ds : List ℕ). l < links ds) (sym is.same_dims) below in
      let o : sender_at (mover_dims n.node.mover) l ≡ mover_rank n.node.mover = ap (λ (ds : List ℕ). sender_at ds l) is.same_dims ∙ (own ∙ sym is.same_rank) in
      subst (λ b. IsLogShape b cap (sent' l)) is.same_manner (t.shape l b o (subst (λ b. IsLogShape b cap (sent l)) (sym is.same_manner) (is.shape l below own)))

  -- a rank that stays in its epoch
  pub stays_in : (over : Bool) → over ≡ false → IsRank R dims cap manner r h (record { node = n1; over = over }) sent' got'
  stays_in over still =
      record {
        same_dims = t.dims ∙ is.same_dims;
        same_rank = t.rank ∙ is.same_rank;
        same_manner = t.manner ∙ is.same_manner;
        same_cap = t.cap_is;
        runs = λ e. t.kept h (is.runs on);
        stopped = λ e. absurd (true≢false (sym e ∙ still));
        shape = shaped;
      }

  -- and one that goes on, where an epoch follows
  pub goes_on : (n2 : NodeState S) (more : Bool) → NextTold R cap n1 n2 more → (g : ℕ → S) × (g 0 ≡ h 0) × IsRank R dims cap manner r g (record { node = n2; over = not more }) sent' got'
  goes_on n2 more x = by more refl (is_voting n1.run.sends) refl where
    node1 : IsNode R h n1 sent' got'
    node1 = t.kept h (is.runs on)

    has : (g : ℕ → S) → (not more ≡ false → IsNode R g n2 sent' got') → (not more ≡ true → HasStopped R g n2 sent' got') → IsRank R dims cap manner r g (record { node = n2; over = not more }) sent' got'
    has g runs stopped =
        record {
          same_dims = x.keeps.dims ∙ (t.dims ∙ is.same_dims);
          same_rank = x.keeps.rank ∙ (t.rank ∙ is.same_rank);
          same_manner = x.keeps.manner ∙ (t.manner ∙ is.same_manner);
          same_cap = x.keeps.same_cap;
          runs = runs;
          stopped = stopped;
          shape = shaped;
        }

    by : (b : Bool) → more ≡ b → (v : Bool) → is_voting n1.run.sends ≡ v → (g : ℕ → S) × (g 0 ≡ h 0) × IsRank R dims cap manner r g (record { node = n2; over = not more }) sent' got'
    by true m false v = (h, refl, has h (λ e. (x.begins m).votes v h _ _ node1) (λ e. absurd (true≢false (sym e ∙ ap not m))))
    by true m true v =
        let g : ℕ → S = with_next h (n1.run.round + 1) (R.ended n1.run.prog n1.run.sum) in
        (g, extended_before h (n1.run.round + 1) (R.ended n1.run.prog n1.run.sum) 0 (λ q. omega (arith, q)), has g (λ e. (x.begins m).work v h _ _ node1) (λ e. absurd (true≢false (sym e ∙ ap not m))))
    by false m v e = (h, refl, has h (λ q. absurd (true≢false (sym (ap not m) ∙ q))) (λ q. (x.ends m).stopped h _ _ node1))
