-- What a rank of ig sends in its round, as a list.
use Rattle.std.proofs.Common.{◌≡◌, ℕ, zero, suc, ◌+◌, ◌-◌, ◌^◌, ◌<◌, ◌≤◌, ◌==◌, min, List, [], map, cond, ◌∷◌, length, Some, slice_get, inl, inr, refl, sym, ap, ◌∙◌, arith}
use Rattle.std.proofs.lemmas.Bool.{cases_eq, eq-eqb, ne_eqb, lt-ltb, le-ltb}
use Rattle.std.proofs.lemmas.List.{length-map}
use Rattle.bale_items.specs.declared.Item.{Item}
use Rattle.list_laws.proofs.Lists.{get_map}
use Rattle.sparse_rows.specs.Owners.{Numbered, column_owner}
use Rattle.app_histo_ig.specs.declared.ig_sent.Own.{Own}
use Rattle.app_histo_ig.specs.Igs.{to_ask, value_item}
use Rattle.app_histo_ig.specs.code.IgSent.{own_entry, number_and_column, question_of, to_add, ig_items_sent, sent_of_own}

-- in rounds 0 and 1 what is sent is of the entries, as many items as there are entries
pub sent_early : (round ranks : ℕ) (own : List Own) (replies : List (ℕ × Item)) → round < 2 → ig_items_sent round ranks own replies ≡ sent_of_own round ranks own
sent_early round ranks own replies low = ap (λ b. cond b (sent_of_own round ranks own) (cond (round == 2) replies [])) (lt-ltb round 2 low)

-- whatever the replies
pub same_early : (round ranks : ℕ) (own : List Own) (replies others : List (ℕ × Item)) → round < 2 → ig_items_sent round ranks own replies ≡ ig_items_sent round ranks own others
same_early round ranks own replies others low = sent_early round ranks own replies low ∙ sym (sent_early round ranks own others low)

pub count_own : (round ranks : ℕ) (own : List Own) → length (sent_of_own round ranks own) ≡ length own
count_own round ranks own =
    elim (cases_eq round 0) [
      | inl e ↦ ap (λ b. length (cond b (map (to_add ranks) own) (map (to_ask ranks) (map number_and_column own)))) (eq-eqb round 0 e) ∙ length-map own (to_add ranks)
      | inr n ↦
          ap (λ b. length (cond b (map (to_add ranks) own) (map (to_ask ranks) (map number_and_column own)))) (ne_eqb round 0 n)
          ∙ (length-map (map number_and_column own) (to_ask ranks) ∙ length-map own number_and_column)
    ]

-- in round 2 it is the replies, and then nothing
pub sent_replies : (round ranks : ℕ) (own : List Own) (replies : List (ℕ × Item)) → round ≡ 2 → ig_items_sent round ranks own replies ≡ replies
sent_replies round ranks own replies e = ap (λ r. ig_items_sent r ranks own replies) e

pub sent_late : (round ranks : ℕ) (own : List Own) (replies : List (ℕ × Item)) → 2 < round → ig_items_sent round ranks own replies ≡ []
sent_late round ranks own replies high =
    ap (λ b. cond b (sent_of_own round ranks own) (cond (round == 2) replies [])) (le-ltb round 2 (omega (arith, high)))
    ∙ ap (λ b. cond b replies []) (ne_eqb round 2 (λ e. absurd (omega (arith, e, high))))

-- which round it is not, tested
past_first : {X : Type 0} (round : ℕ) (x y : X) → 2 ≤ round → cond (round == 0) x y ≡ y
past_first round x y high = ap (λ b. cond b x y) (ne_eqb round 0 (λ e. absurd (omega (arith, e, high))))

past_second : {X : Type 0} (round : ℕ) (x y : X) → 2 ≤ round → cond (round == 1) x y ≡ y
past_second round x y high = ap (λ b. cond b x y) (ne_eqb round 1 (λ e. absurd (omega (arith, e, high))))

pub query_at : (ranks i : ℕ) (own : List Own) (o : Own) → slice_get own i ≡ Some o → slice_get (map (to_ask ranks) (map number_and_column own)) i ≡ Some (to_ask ranks (number_and_column o))
query_at ranks i own o e = get_map (to_ask ranks) (map number_and_column own) i (number_and_column o) (get_map number_and_column own i o e)

-- what is sent after a round
pub sent_next : (round next ranks : ℕ) (own : List Own) (replies : List (ℕ × Item)) → next ≡ min (round + 1) (2 ^ 64 - 1)
    → ig_items_sent next ranks own replies ≡ cond (round == 0) (map (to_ask ranks) (map number_and_column own)) (cond (round == 1) replies [])
sent_next zero next ranks own replies e = ap (λ r. ig_items_sent r ranks own replies) e
sent_next (suc zero) next ranks own replies e = ap (λ r. ig_items_sent r ranks own replies) e
sent_next (suc (suc n)) next ranks own replies e =
    sent_late next ranks own replies (omega (arith, e)) ∙ sym (past_first (suc (suc n)) _ _ (omega arith) ∙ past_second (suc (suc n)) _ _ (omega arith))

-- what a rank keeps of its entries, as the definitions of its round have it
pub own_numbers : (es : List Numbered) → map number_and_column (map own_entry es) ≡ map (λ e. (e.0, e.1.j)) es
own_numbers [] = refl
own_numbers (e ∷ es) = ap (λ l. (e.0, e.1.j) ∷ l) (own_numbers es)

pub own_values : (ranks : ℕ) (es : List Numbered) → map (to_add ranks) (map own_entry es) ≡ map (λ e. (column_owner ranks e, value_item e)) es
own_values ranks [] = refl
own_values ranks (e ∷ es) = ap (λ l. (column_owner ranks e, value_item e) ∷ l) (own_values ranks es)

pub own_questions : (ranks : ℕ) (own : List Own) → map (question_of ranks) own ≡ map (λ e. (e.0, e.1.a)) (map (to_add ranks) own)
own_questions ranks [] = refl
own_questions ranks (o ∷ os) = ap (λ l. question_of ranks o ∷ l) (own_questions ranks os)
