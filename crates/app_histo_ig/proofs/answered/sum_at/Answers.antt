use Rattle.std.proofs.Common.{w64, ◌∙◌, ◌<◌, ◌≡◌, [], None, slice_get, length, map, get_or, ap, sym, subst, arith}
use Rattle.std.specs.Option.{option_copied}
use Rattle.std.proofs.lemmas.List.{length-map}
use Rattle.std.proofs.lemmas.Option.{get_or_from_slice_get}
use mir.Val.{SFits}
use Rattle.std.proofs.lemmas.Int.{to_z-of_z}
use Rattle.bale_items.specs.Bits.{from_twos_complement}
use Rattle.list_laws.proofs.Lists.{find, get_map}
use Rattle.app_histo_ig.proofs.ColumnWords.{column_word}
use Rattle.app_histo_ig.proofs.Dealt.{word_is, word_there}
use Rattle.app_histo_ig.proofs.answered.sum_at.Given.{Over}
use Rattle.app_histo_ig.proofs.answered.sum_at.Goals.{After-answers}
use Rattle.app_histo_ig.proofs.answered.sum_at.Goals as goal

pub unreachable-requires : goal.unreachable-requires
unreachable-requires g c =
    let s = find c.args.p.now c.args.at.rank c.requires.rank in
    let none : slice_get c.args.p.now c.args.at.rank ≡ None = sym c.get.ensures ∙ ap option_copied c.in_default.is in
    absurd (cc)

-- the words of the entry's rank
own : (g : Over) (c : After-answers g) → get_or (map g.Q.Answered.words c.args.p.now) c.args.at.rank [] ≡ c.answers.result.now
own g c =
    let f = g.Q.Answered.words in
    get_or_from_slice_get (map f c.args.p.now) c.args.at.rank (f c.in-Some.own.now) []
    (get_map f c.args.p.now c.args.at.rank c.in-Some.own.now (sym c.get.ensures ∙ ap option_copied c.in-Some.is))
    ∙ sym c.answers.ensures

-- the entry's word is there
there : (g : Over) (c : After-answers g) → c.args.at.turn < length c.answers.result.now
there g c =
    subst (λ l. c.args.at.turn < length l) (own g c)
    (word_there c.args.m.now.entries (map g.Q.Answered.words c.args.p.now) (length c.args.p.now) c.args.at.turn c.args.at.rank c.requires.sums (length-map c.args.p.now g.Q.Answered.words)
    c.requires.rank c.requires.entry)

pub offset_bounds-answers-at : goal.offset_bounds-answers-at
offset_bounds-answers-at g c = omega (arith, there g (goal.at.offset_bounds-answers-at g c).After-answers, c.answers.type_inv)

pub bounds-answers-at : goal.bounds-answers-at
bounds-answers-at g c = there g (goal.at.bounds-answers-at g c).After-answers

pub returns : goal.returns
returns g c = λ t at.
    let words = map g.Q.Answered.words c.args.p.now in
    let fits : SFits w64 c.value_of.result = record { sfits = c.value_of.type_inv } in
    to_z-of_z w64 c.value_of.result fits
    ∙ c.value_of.ensures.value
    ∙ ap (λ l. from_twos_complement (get_or l c.args.at.turn 0)) (sym (own g (goal.at.returns g c).After-answers))
    ∙ ap from_twos_complement (word_is words (length c.args.p.now) c.args.at.turn c.args.at.rank (length-map c.args.p.now g.Q.Answered.words) c.requires.rank)
    ∙ ap from_twos_complement (c.requires.sums.word _ t at)
    ∙ (column_word c.args.m.now t.j c.known.ensures).back
