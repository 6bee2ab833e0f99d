use Rattle.std.proofs.Common.{◌≡◌, ◌&&◌, ℕ, Bool, true, false, List, Option, Some, None, drop, map, sym, ap, ◌∙◌, subst}
use Rattle.std.specs.Prelude.{if◌then◌else◌}
use Rattle.bale_items.specs.declared.item.Item.{Item}
use Rattle.rank_handles.specs.Seated.{Seated}
use Rattle.rank_handles.specs.Answers.{advance_answer}
use Rattle.rank_handles.specs.Strings.{ElasticState}
use Rattle.rank_handles.specs.StringCalls.{is_none_pending, AdvancesStrings}
use Rattle.rank_handles.specs.ElasticKept.{PendingPushed}
use Rattle.rank_handles.proofs.StringAdvances.{advance_same, elastic_advanced, strings_advanced}
use Rattle.rank_handles.proofs.elastic_rank.ElasticRank.advance.Goals.{then-done, else-done}
use Rattle.rank_handles.proofs.elastic_rank.ElasticRank.advance.Goals as goal

-- what is pushed and pending, of the items in a list that is lent
moved : (xs ys : List (ℕ × Item)) (n m : ℕ) (a b : Seated) → xs ≡ ys → PendingPushed (drop n xs) a (drop m xs) b → PendingPushed (drop n ys) a (drop m ys) b
moved xs ys n m a b same pushed = subst (λ (zs : List (ℕ × Item)). PendingPushed (drop n zs) a (drop m zs) b) same pushed

then_told : (done none d : Bool) → done ≡ true → d ≡ none → d ≡ (done && none)
then_told done none d is told = told ∙ ap (λ (t : Bool). t && none) (sym is)

else_told : (done none d : Bool) → done ≡ false → d ≡ done → d ≡ (done && none)
else_told done none d is told = told ∙ is ∙ ap (λ (t : Bool). t && none) (sym is)

pub invariant_of-self : goal.invariant_of-self
invariant_of-self c =
    let x = c.self.inside in let push = c.push_pending-self-inside in let xs : List (ℕ × Item) = x.spelled.items in
    let none : c.are_none_pending-none.result ≡ is_none_pending (drop push.result xs) = c.are_none_pending-none.ensures ∙ ap (λ (zs : List (ℕ × Item)). is_none_pending (drop push.result zs)) c.deref-2.ensures.value in
    let d : Bool = c.if-done.advance in
    let is : d ≡ (c.args.done && is_none_pending (drop push.result xs)) = elim c.if-done.branch [
      | then-done w ↦ then_told c.args.done (is_none_pending (drop push.result xs)) d w.if-done.true (w.advance-is ∙ none)
      | else-done w ↦ else_told c.args.done (is_none_pending (drop push.result xs)) d w.if-done.false w.advance-is
    ] in
    elastic_advanced (drop x.pushed xs) (drop push.result xs) (map (λ l. l.items) x.begun.items) c.args.done d x.rank push.new.rank c.advance.new.self c.self.invariant
    (moved c.deref.result.now xs x.pushed push.result x.rank push.new.rank c.deref.ensures.value push.ensures) is c.advance.ensures.advances

pub returns-clause-answer : goal.returns-clause-answer
returns-clause-answer c =
    let x = c.self.inside in let push = c.push_pending-self-inside in let xs : List (ℕ × Item) = x.spelled.items in
    let none : c.are_none_pending-none.result ≡ is_none_pending (drop push.result xs) = c.are_none_pending-none.ensures ∙ ap (λ (zs : List (ℕ × Item)). is_none_pending (drop push.result zs)) c.deref-2.ensures.value in
    let d : Bool = c.if-done.advance in
    let is : d ≡ (c.args.done && is_none_pending (drop push.result xs)) = elim c.if-done.branch [
      | then-done w ↦ then_told c.args.done (is_none_pending (drop push.result xs)) d w.if-done.true (w.advance-is ∙ none)
      | else-done w ↦ else_told c.args.done (is_none_pending (drop push.result xs)) d w.if-done.false w.advance-is
    ] in
    c.advance.ensures.answer
    ∙ advance_same (drop x.pushed xs) (drop push.result xs) (map (λ l. l.items) x.begun.items) c.args.done d x.rank push.new.rank c.advance.new.self c.self.invariant
    (moved c.deref.result.now xs x.pushed push.result x.rank push.new.rank c.deref.ensures.value push.ensures) is c.advance.ensures.advances
    ∙ ap (λ (z : ElasticState). advance_answer z.rank c.args.done c.advance.new.self.state.phase) c.self.view_is

pub returns-clause-advances : goal.returns-clause-advances
returns-clause-advances c =
    let x = c.self.inside in let push = c.push_pending-self-inside in let xs : List (ℕ × Item) = x.spelled.items in
    let none : c.are_none_pending-none.result ≡ is_none_pending (drop push.result xs) = c.are_none_pending-none.ensures ∙ ap (λ (zs : List (ℕ × Item)). is_none_pending (drop push.result zs)) c.deref-2.ensures.value in
    let d : Bool = c.if-done.advance in
    let is : d ≡ (c.args.done && is_none_pending (drop push.result xs)) = elim c.if-done.branch [
      | then-done w ↦ then_told c.args.done (is_none_pending (drop push.result xs)) d w.if-done.true (w.advance-is ∙ none)
      | else-done w ↦ else_told c.args.done (is_none_pending (drop push.result xs)) d w.if-done.false w.advance-is
    ] in
    let string : Option (List ℕ) = if x.gave then Some x.letter.items else None in
    subst (λ (z : ElasticState). AdvancesStrings c.args.done z (record { rank = c.advance.new.self; pending = drop push.result xs; string = string })) c.self.view_is
    (strings_advanced (drop x.pushed xs) (drop push.result xs) (map (λ l. l.items) x.begun.items) c.args.done d x.rank push.new.rank c.advance.new.self c.self.invariant
    (moved c.deref.result.now xs x.pushed push.result x.rank push.new.rank c.deref.ensures.value push.ensures) is c.advance.ensures.advances string)
