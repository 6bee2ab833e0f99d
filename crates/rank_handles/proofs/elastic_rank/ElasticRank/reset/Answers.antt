use Rattle.std.proofs.Common.{◌≡◌, ◌≢◌, ℕ, true, false, List, [], Option, Some, None, drop, map, replicate, rules, sym, ap, ◌∙◌, subst}
use Rattle.std.specs.Prelude.{if◌then◌else◌}
use Rattle.std.proofs.lemmas.List.{length-map}
use denote.Enum.Bare.{sameb, same_true}
use Rattle.bale_items.specs.declared.item.Item.{Item}
use Rattle.rank_handles.specs.contracts.answer.Answer.{the_type}
use Rattle.rank_handles.specs.declared.answer.Answer.{Answer}
use Rattle.rank_handles.specs.declared.answer.Answer.TheVariants.{Good}
use Rattle.rank_handles.specs.Seated.{Seated}
use Rattle.rank_handles.specs.Answers.{reset_answer}
use Rattle.rank_handles.specs.Strings.{ElasticState}
use Rattle.rank_handles.specs.StringCalls.{ResetsStrings}
use Rattle.rank_handles.proofs.StringEpochs.{elastic_reset, elastic_unreset, strings_reset}
use Rattle.rank_handles.proofs.elastic_rank.ElasticRank.reset.Goals as goal

pub invariant_of-self : goal.invariant_of-self
invariant_of-self c =
    let x = c.self.inside in
    let begun : List (List Item) = map (λ l. l.items) x.begun.items in
    let good : reset_answer x.rank ≡ Good = sym c.reset-answer.ensures.answer ∙ same_true the_type (search rules) _ _ (sym c.eq.ensures ∙ c.if-eq.true) in
    elastic_reset (drop x.pushed x.spelled.items) begun (map (λ l. l.items) c.forget_all.new.begun.items) x.rank c.reset-answer.new.self c.reset-answer.ensures.resets c.self.invariant good
    (c.forget_all.ensures ∙ ap (λ (n : ℕ). replicate n []) (sym (length-map x.begun.items _)))

pub invariant_of-self-else-eq : goal.invariant_of-self-else-eq
invariant_of-self-else-eq c =
    let x = c.self.inside in
    let bad : reset_answer x.rank ≢ Good = λ e. absurd (let same : false ≡ true = sym c.if-eq.false ∙ (c.eq.ensures ∙ ap (λ (a : Answer). sameb the_type a Good) (c.reset-answer.ensures.answer ∙ e)) in cc) in
    elastic_unreset (drop x.pushed x.spelled.items) (map (λ l. l.items) x.begun.items) x.rank c.reset-answer.new.self c.reset-answer.ensures.resets bad c.self.invariant

pub returns-then-eq-clause-resets : goal.returns-then-eq-clause-resets
returns-then-eq-clause-resets c =
    let x = c.self.inside in let b : Seated = c.reset-answer.new.self in let string : Option (List ℕ) = if x.gave then Some x.letter.items else None in
    subst (λ (z : ElasticState). ResetsStrings z (record { rank = b; pending = drop x.pushed x.spelled.items; string = string })) c.self.view_is
    (strings_reset (drop x.pushed x.spelled.items) string (map (λ l. l.items) x.begun.items) x.rank b c.self.invariant c.reset-answer.ensures.resets)

pub returns-else-eq-clause-resets : goal.returns-else-eq-clause-resets
returns-else-eq-clause-resets c =
    let x = c.self.inside in let b : Seated = c.reset-answer.new.self in let string : Option (List ℕ) = if x.gave then Some x.letter.items else None in
    subst (λ (z : ElasticState). ResetsStrings z (record { rank = b; pending = drop x.pushed x.spelled.items; string = string })) c.self.view_is
    (strings_reset (drop x.pushed x.spelled.items) string (map (λ l. l.items) x.begun.items) x.rank b c.self.invariant c.reset-answer.ensures.resets)
