use Rattle.std.proofs.Common.{◌≡◌, ℕ, ◌<◌, ◌^◌, All, List, map, length, replicate, arith, sym, ap, ◌∙◌, subst}
use Rattle.std.specs.Prelude.{vec_len}
use Rattle.std.proofs.lemmas.List.{length-map, length-replicate}
use Rattle.bale_items.specs.declared.Item.{Item}
use Rattle.app_histo_ig.specs.code.IgSent.{question_of, to_add}
use Rattle.app_histo_ig.proofs.IgSent.{own_questions}
use Rattle.app_histo_ig.proofs.SumsAsked.{asks_ranks, asker_is}
use Rattle.app_histo_ig.proofs.ig_by_askers.asker_of.Goals as goal

pub new-requires-clause-some : goal.new-requires-clause-some
new-requires-clause-some c =
    let own : c.args.q.rank < c.args.q.ranks = c.rank-rank.ensures.valid.own in
    let all : c.ranks-ranks.result ≡ c.args.q.ranks = c.ranks-ranks.ensures in
    omega arith

pub new-requires-clause-asks : goal.new-requires-clause-asks
new-requires-clause-asks c =
    let own = c.into_added-added.result.own.items in
    let is : map (question_of c.args.q.ranks) own ≡ map (λ (e : ℕ × Item). (e.0, e.1.a)) c.args.q.values =
    own_questions c.args.q.ranks own ∙ ap (map {B = ℕ × ℕ} (λ (e : ℕ × Item). (e.0, e.1.a))) c.into_added-added.ensures.values in
    subst (λ n. All (λ q. (q.0 < n) × (q.1 < 2 ^ 64)) (map (question_of n) own)) (sym c.ranks-ranks.ensures)
    (subst (All (λ q. (q.0 < c.args.q.ranks) × (q.1 < 2 ^ 64))) (sym is) (asks_ranks c.args.q c.rank-rank.ensures.valid))

pub new-requires-clause-words : goal.new-requires-clause-words
new-requires-clause-words c = subst (All (λ v. v < 2 ^ 64)) (sym c.into_added-added.ensures.sums) c.rank-rank.ensures.valid.words

pub new-requires-clause-places : goal.new-requires-clause-places
new-requires-clause-places c =
    let size : vec_len c.into_added-added.result.own ≡ length c.into_added-added.result.own.items = omega (arith, c.into_added-added.result.own.ok.0) in
    ap length c.in_ok-answers.ensures ∙ length-replicate c.len.result 0 ∙ c.len.ensures ∙ size

pub returns : goal.returns
returns c =
    let own = c.into_added-added.result.own in
    let values : map (to_add c.args.q.ranks) own.items ≡ c.args.q.values = c.into_added-added.ensures.values in
    let is : map (question_of c.ranks-ranks.result) own.items ≡ map (λ (e : ℕ × Item). (e.0, e.1.a)) c.args.q.values =
    ap (λ n. map (question_of n) own.items) c.ranks-ranks.ensures ∙ own_questions c.args.q.ranks own.items ∙ ap (map {B = ℕ × ℕ} (λ (e : ℕ × Item). (e.0, e.1.a))) values in
    let size : vec_len own ≡ length own.items = omega (arith, own.ok.0) in
    let all : length own.items ≡ length c.args.q.values = sym (length-map own.items (to_add c.args.q.ranks)) ∙ ap length values in
    c.new.ensures
    ∙ asker_is c.args.q c.rank-rank.result c.ranks-ranks.result (map (question_of c.ranks-ranks.result) own.items) c.into_added-added.result.sums.items c.in_ok-answers.answers.items
    c.rank-rank.ensures.value c.ranks-ranks.ensures is c.into_added-added.ensures.sums
    (c.in_ok-answers.ensures ∙ ap (λ n. replicate n 0) (c.len.ensures ∙ size ∙ all))
