use Rattle.std.proofs.Common.{◌≡◌, ℕ, List, Some, None, drop, map, true, false, sym, ◌∙◌, subst}
use Rattle.std.specs.Prelude.{if◌then◌else◌}
use Rattle.bale_items.specs.declared.item.Item.{Item}
use Rattle.rank_handles.specs.declared.answer.Answer.TheVariants.{Good}
use Rattle.elastic.specs.Spelling.{spelling}
use Rattle.rank_handles.specs.Seated.{Seated}
use Rattle.rank_handles.specs.Strings.{ElasticState}
use Rattle.rank_handles.specs.StringCalls.{string_answer, PushesString}
use Rattle.rank_handles.specs.ElasticKept.{PendingPushed}
use Rattle.rank_handles.proofs.StringPushes.{refused_kept, refused_same, good_kept, good_pushed}
use Rattle.rank_handles.proofs.elastic_rank.ElasticRank.push.Goals as goal

-- what is pushed and pending, of items that are a string's
spelled_moved : (xs ys zs : List (ℕ × Item)) (m : ℕ) (a b : Seated) → xs ≡ ys → ys ≡ zs → PendingPushed (drop 0 xs) a (drop m xs) b → PendingPushed zs a (drop m ys) b
spelled_moved xs ys zs m a b same is pushed =
    subst (λ (es : List (ℕ × Item)). PendingPushed es a (drop m ys) b) is
    (subst (λ (es : List (ℕ × Item)). PendingPushed es a (drop m es) b) same pushed)

pub invariant_of-self : goal.invariant_of-self
invariant_of-self c =
    let x = c.self.inside in
    let s : ElasticState = record { rank = x.rank; pending = drop x.pushed x.spelled.items; string = if x.gave then Some x.letter.items else None } in
    let good : string_answer s c.args.bytes.now c.args.to ≡ Good = subst (λ (z : ElasticState). string_answer z c.args.bytes.now c.args.to ≡ Good) (sym c.self.view_is) (sym c.answer.ensures ∙ c.in-Good.is) in
    refused_kept c.args.to c.args.bytes.now (map (λ l. l.items) x.begun.items) s good c.self.invariant
    (drop 0 c.spell_string.new.spelled.items) (c.spell_string.ensures.none c.if-not-spell_string.true)

pub returns-then-not-spell_string-clause-unchanged : goal.returns-then-not-spell_string-clause-unchanged
returns-then-not-spell_string-clause-unchanged c =
    let x = c.self.inside in
    let s : ElasticState = record { rank = x.rank; pending = drop x.pushed x.spelled.items; string = if x.gave then Some x.letter.items else None } in
    let good : string_answer s c.args.bytes.now c.args.to ≡ Good = subst (λ (z : ElasticState). string_answer z c.args.bytes.now c.args.to ≡ Good) (sym c.self.view_is) (sym c.answer.ensures ∙ c.in-Good.is) in
    λ _. refused_same c.args.to c.args.bytes.now (map (λ l. l.items) x.begun.items) s good c.self.invariant
    (drop 0 c.spell_string.new.spelled.items) (c.spell_string.ensures.none c.if-not-spell_string.true) ∙ c.self.view_is

pub invariant_of-self-2 : goal.invariant_of-self-2
invariant_of-self-2 c =
    let x = c.self.inside in
    let s : ElasticState = record { rank = x.rank; pending = drop x.pushed x.spelled.items; string = if x.gave then Some x.letter.items else None } in
    let good : string_answer s c.args.bytes.now c.args.to ≡ Good = subst (λ (z : ElasticState). string_answer z c.args.bytes.now c.args.to ≡ Good) (sym c.self.view_is) (sym c.answer.ensures ∙ c.in-Good.is) in
    let left : List (ℕ × Item) = drop c.push_pending-self-inside.result c.spell_string.new.spelled.items in
    good_kept c.args.to c.args.bytes.now (map (λ l. l.items) x.begun.items) s good c.self.invariant left c.push_pending-self-inside.new.rank c.spell_string.ensures.bytes
    (spelled_moved c.deref.result.now c.spell_string.new.spelled.items (map (λ y. (c.args.to, y)) (spelling c.args.bytes.now)) c.push_pending-self-inside.result x.rank c.push_pending-self-inside.new.rank
    c.deref.ensures.value (c.spell_string.ensures.spelled c.if-not-spell_string.false) c.push_pending-self-inside.ensures)

pub returns-clause-pushes : goal.returns-clause-pushes
returns-clause-pushes c =
    let x = c.self.inside in
    let s : ElasticState = record { rank = x.rank; pending = drop x.pushed x.spelled.items; string = if x.gave then Some x.letter.items else None } in
    let good : string_answer s c.args.bytes.now c.args.to ≡ Good = subst (λ (z : ElasticState). string_answer z c.args.bytes.now c.args.to ≡ Good) (sym c.self.view_is) (sym c.answer.ensures ∙ c.in-Good.is) in
    let left : List (ℕ × Item) = drop c.push_pending-self-inside.result c.spell_string.new.spelled.items in
    λ _. subst (λ (z : ElasticState). PushesString c.args.bytes.now c.args.to z (record { rank = c.push_pending-self-inside.new.rank; pending = left; string = s.string })) c.self.view_is
    (good_pushed c.args.to c.args.bytes.now (map (λ l. l.items) x.begun.items) s good c.self.invariant left c.push_pending-self-inside.new.rank c.spell_string.ensures.bytes
    (spelled_moved c.deref.result.now c.spell_string.new.spelled.items (map (λ y. (c.args.to, y)) (spelling c.args.bytes.now)) c.push_pending-self-inside.result x.rank c.push_pending-self-inside.new.rank
    c.deref.ensures.value (c.spell_string.ensures.spelled c.if-not-spell_string.false) c.push_pending-self-inside.ensures))
