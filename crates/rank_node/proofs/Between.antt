-- A node goes from one epoch to the next.
use Rattle.std.proofs.Common.{◌≡◌, ◌≢◌, ℕ, suc, ◌+◌, ◌*◌, ◌-◌, ◌^◌, ◌<◌, ◌≤◌, min, Bool, true, false, cond, List, [], ◌∷◌, ◌++◌, length, take, refl, sym, ap, subst, ◌∙◌, arith, inl, inr, sum_by}
use Rattle.std.proofs.lemmas.Bool.{cases_eq, true≢false, false≢true, eq-eqb, ne_eqb}
use Rattle.std.proofs.lemmas.List.{take_all, append-nil}
use Rattle.bale_items.specs.declared.item.Item.{Item}
use Rattle.list_laws.specs.Sums.{total}
use Rattle.list_laws.proofs.Sums.{total_zero}
use Rattle.port_bank.specs.Flow.{IsPrefix}
use Rattle.port_bank.specs.Machine.{Part, after}
use Rattle.port_bank.specs.Machine.Step.{Reset}
use Rattle.round_program.specs.Rules.{Rules}
use Rattle.round_program.specs.Laws.{Laws, SameRound, NextRound}
use Rattle.round_program.specs.Canonical.{items_of, emissions_to}
use Rattle.round_program.specs.Orders.{fitting, after_pulls}
use Rattle.round_program.specs.Epochs.{PairLists, vote_item, heard, after_work, Voted, told, spoiled, Own}
use Rattle.round_program.proofs.Orders.{upto_ext, upto_none, pulls_same}
use Rattle.round_program.proofs.Steps.{own_same, own_work_done, own_work_over, own_vote_done, own_round_over}
use Rattle.rank_node.specs.declared.sends.Sends.{Sends}
use Rattle.rank_node.specs.declared.sends.Sends.TheVariants.{Emissions, Nothing, Votes}
use Rattle.rank_node.specs.Sending.{votes_to, to_send, is_voting, epoch_of, spoiled_vote}
use Rattle.rank_node.specs.Runs.{part_lists, round_after, from_round, HasTaken}
use Rattle.rank_node.specs.Next.{with_next}
use Rattle.rank_node.proofs.Ballots.{votes_each}

-- where all is pushed, what a rank was sent is all that goes to it
all_of : (items : List (ℕ × Item)) (next d : ℕ) → next ≡ length items → items_of d (take next items) ≡ items_of d items
all_of items next d e = ap (items_of d) (take_all next items (omega (arith, e)))

-- nothing was heard where nothing was pulled
heard_none : (p m : ℕ) (l : PairLists) → ((f : ℕ) → l.pulled (2 * m + 1) f ≡ []) → heard p l m ≡ 0
heard_none p m l none =
    let z : total p (λ f. sum_by (λ x. x.a) (l.pulled (2 * m + 1) f)) ≡ 0 = total_zero p (λ f. sum_by (λ x. x.a) (l.pulled (2 * m + 1) f)) (λ f b. ap (sum_by (λ (x : Item). x.a)) (none f)) in
    omega (arith, z)

-- and nothing absorbed
worked_none : {S : Type 0} (R : Rules S) (p m : ℕ) (h : ℕ → S) (l : PairLists) → ((f : ℕ) → l.pulled (2 * m) f ≡ []) → after_work R p h l m ≡ h m
worked_none R p m h l none =
    upto_ext R (h m) (λ f. fitting R (h m) f (l.pulled (2 * m) f)) (λ f. []) p (λ f b. ap (fitting R (h m) f) (none f)) ∙ upto_none R (h m) p

begins_all : {X : Type 0} (xs ys : List X) → xs ≡ ys → IsPrefix xs ys
begins_all xs ys e = record { rest = []; is = sym e ∙ sym (append-nil xs) }

begins_none : {X : Type 0} (xs ys : List X) → xs ≡ [] → IsPrefix xs ys
begins_none xs ys e = record { rest = ys; is = ap (λ zs. zs ++ ys) (sym e) }

-- what a rank that is done has pushed in an epoch of work
work_front : {S : Type 0} (R : Rules S) (p : ℕ) (h : ℕ → S) (prog : S) (sends : Sends) (next : ℕ) (round d : ℕ) (xs : List Item) → is_voting sends ≡ false → next ≡ length (to_send R prog sends)
    → (sends ≡ Emissions → R.emissions prog ≡ R.emissions (h round)) → xs ≡ items_of d (take next (to_send R prog sends)) → IsPrefix xs (emissions_to R (h round) d)
work_front R p h prog Emissions next round d xs work all emissions e = begins_all xs (emissions_to R (h round) d) (e ∙ (all_of (R.emissions prog) next d all ∙ ap (items_of d) (emissions refl)))
work_front R p h prog Nothing next round d xs work all emissions e = begins_none xs (emissions_to R (h round) d) (e ∙ all_of [] next d all)
work_front R p h prog (Votes v q) next round d xs work all emissions e = absurd (true≢false work)

work_whole : {S : Type 0} (R : Rules S) (p : ℕ) (h : ℕ → S) (prog : S) (sends : Sends) (next : ℕ) (round d : ℕ) (xs : List Item) → is_voting sends ≡ false → next ≡ length (to_send R prog sends)
    → (sends ≡ Emissions → R.emissions prog ≡ R.emissions (h round)) → (sends ≡ Nothing → ⊥) → xs ≡ items_of d (take next (to_send R prog sends)) → xs ≡ emissions_to R (h round) d
work_whole R p h prog Emissions next round d xs work all emissions some e = e ∙ (all_of (R.emissions prog) next d all ∙ ap (items_of d) (emissions refl))
work_whole R p h prog Nothing next round d xs work all emissions some e = absurd (some refl)
work_whole R p h prog (Votes v q) next round d xs work all emissions some e = absurd (true≢false work)

-- a state's vote, by whether memory was wanting
vote_is : {S : Type 0} (R : Rules S) (prog w : S) (b : Bool) → (b ≡ false → prog ≡ w) → cond b spoiled_vote (R.vote prog) ≡ cond b spoiled_vote (R.vote w)
vote_is R prog w true e = refl
vote_is R prog w false e = ap R.vote (e refl)

module _ {S : Type 0} (R : Rules S) (laws : Laws R) (p rank : ℕ) (h : ℕ → S) (round next : ℕ) (prog : S) (sum : ℕ) (lost : Bool) (part : Part) (done : part.done ≡ true) where
  abbrev over : Part
  over = after Reset part

  abbrev R' : Rules S
  R' = from_round (R.round (h 0)) R

  -- after work come the votes
  pub to_votes : (sends : Sends) (vote q : ℕ) → is_voting sends ≡ false → q ≡ p → vote ≡ cond lost spoiled_vote (R.vote prog) → HasTaken R p rank h round sends next prog sum lost part
      → HasTaken R p rank h round (Votes vote q) 0 prog 0 lost (after Reset part)
  to_votes sends vote q work same is_vote is =
      let e : part.epoch ≡ 2 * round = is.passed.epoch ∙ ap (epoch_of round) work in
      let all : next ≡ length (to_send R prog sends) = is.within.all_pushed done in
      record {
        passed = record {
          epoch = omega (arith, e);
          valid = is.passed.valid;
          own_rank = is.passed.own_rank;
          all_ranks = is.passed.all_ranks;
          own_round = is.passed.own_round;
          few = is.passed.few;
          own =
              let own : Own R' p (2 * round) (2 * round) h (part_lists part) = subst (λ k. Own R' p k k h (part_lists part)) e is.passed.own in
              let one : 2 * round + 1 ≡ part.epoch + 1 = omega (arith, e) in
              subst (λ k. Own R' p k k h (part_lists part)) one (own_work_over R' p round h (part_lists part) (own_work_done R' p round h (part_lists part) is.passed.goes own));
          goes = is.passed.goes;
          emitted_front = λ m d b c. elim (cases_eq m round) [
            | inl here ↦ subst (λ k. IsPrefix (part.pushed (2 * k) d) (emissions_to R (h k) d)) (sym here) (work_front R p h prog sends next round d (part.pushed (2 * round) d) work all is.within.emissions (subst (λ k. part.pushed k d ≡ items_of d (take next (to_send R prog sends))) e (is.within.pushed d b)))
            | inr apart ↦ is.passed.emitted_front m d b (omega (arith, c, e, apart))
          ];
          one_vote = λ m d b c. is.passed.one_vote m d b (omega (arith, c, e));
          ahead = λ k d b. is.passed.ahead k d (omega (arith, b));
        };
        within = record {
          next_low = omega arith;
          all_pushed = λ d. absurd (false≢true d);
          pushed = λ d b. (is.passed.ahead (part.epoch + 1) d (omega arith)).0;
          emissions = λ s. absurd (cc);
          nothing = λ s. absurd (cc);
          works = is.within.works;
          vote = λ v r s. (sym (votes_second s) ∙ same, sym (votes_first s) ∙ (is_vote ∙ vote_is R prog (after_work R p h (part_lists part) round) lost is.within.works));
          emitted_all = λ b clean d low. work_whole R p h prog sends next round d (part.pushed (2 * round) d) work all is.within.emissions (λ s. true≢false (sym (is.within.nothing s) ∙ clean))
              (subst (λ k. part.pushed k d ≡ items_of d (take next (to_send R prog sends))) e (is.within.pushed d low));
          hears = λ b. sym (heard_none p round (part_lists part) (λ f. (is.passed.ahead (2 * round + 1) f (omega (arith, e))).1));
        };
      } where
        votes_first : {a b c d : ℕ} → Votes a b ≡ Votes c d → a ≡ c
        votes_first s = cc

        votes_second : {a b c d : ℕ} → Votes a b ≡ Votes c d → b ≡ d
        votes_second s = cc

  -- what it told in the round that it ends
  pub voted : (v q : ℕ) → HasTaken R p rank h round (Votes v q) next prog sum lost part → Voted R' p h (part_lists part) round
  voted v q is = by lost refl where
    e : part.epoch ≡ 2 * round + 1
    e = is.passed.epoch

    all : next ≡ length (votes_to q v)
    all = is.within.all_pushed done

    says : (w : ℕ) → v ≡ w → (d : ℕ) → d < p → part.pushed (2 * round + 1) d ≡ vote_item w ∷ []
    says w same d b =
        subst (λ k. part.pushed k d ≡ items_of d (take next (votes_to q v))) e (is.within.pushed d b)
        ∙ (all_of (votes_to q v) next d all ∙ (votes_each q v d (subst (λ k. d < k) (sym (is.within.vote v q refl).0) b) ∙ ap (λ k. vote_item k ∷ []) same))

    by : (b : Bool) → lost ≡ b → Voted R' p h (part_lists part) round
    by true c = spoiled (says spoiled_vote ((is.within.vote v q refl).1 ∙ ap (λ b. cond b spoiled_vote (R.vote (after_work R p h (part_lists part) round))) c))
    by false c = told (is.within.emitted_all refl c) (says (R.vote (after_work R p h (part_lists part) round)) ((is.within.vote v q refl).1 ∙ ap (λ b. cond b spoiled_vote (R.vote (after_work R p h (part_lists part) round))) c))

-- the history up to a round is as it was
pub extended_before : {S : Type 0} (h : ℕ → S) (m : ℕ) (s : S) (k : ℕ) → k ≢ m → with_next h m s k ≡ h k
extended_before h m s k apart = ap (λ b. cond b s (h k)) (ne_eqb k m apart)

pub extended_at : {S : Type 0} (h : ℕ → S) (m : ℕ) (s : S) → with_next h m s m ≡ s
extended_at h m s = ap (λ b. cond b s (h m)) (eq-eqb m m refl)

-- the rank after its round: completed, with the next state at the end of its history
pub own_ended : {S : Type 0} (R : Rules S) → Laws R → (p rank : ℕ) (h : ℕ → S) (round next : ℕ) (prog : S) (sum : ℕ) (part : Part) (v q : ℕ) → part.done ≡ true → sum ≢ 2 ^ 64 - 1
    → HasTaken R p rank h round (Votes v q) next prog sum false part → Own (from_round (R.round (with_next h (round + 1) (R.ended prog sum) 0)) R) p (2 * round + 2) (2 * round + 2) (with_next h (round + 1) (R.ended prog sum)) (part_lists part)
own_ended {S} R laws p rank h round next prog sum part v q done clean is =
    let e : part.epoch ≡ 2 * round + 1 = is.passed.epoch in
    let h' = with_next h (round + 1) (R.ended prog sum) in
    let l = part_lists part in
    let R' : Rules S = from_round (R.round (h 0)) R in
    let own : Own R' p (2 * round + 1) (2 * round + 1) h l = subst (λ k. Own R' p k k h l) e is.passed.own in
    let vote = voted R laws p rank h round next prog sum false part done v q is in
    let own1 : Own R' p (2 * round + 1) (2 * round + 2) h l = own_vote_done R' p round h l vote own in
    let hist : (m : ℕ) → 2 * m ≤ 2 * round + 1 → h' m ≡ h m = λ m b. extended_before h (round + 1) (R.ended prog sum) m (λ q. omega (arith, q, b)) in
    let own2 : Own R' p (2 * round + 1) (2 * round + 2) h' l = own_same R' p (2 * round + 1) (2 * round + 2) h h' l l (record { pushed = λ e d b. refl; pulled = λ e f b. refl }) hist own1 in
    let hears : sum ≡ heard p l round = is.within.hears refl in
    let was : prog ≡ after_work R p h l round = is.within.works refl in
    let at : h' (suc round) ≡ R.ended prog sum = ap h' (omega arith) ∙ extended_at h (round + 1) (R.ended prog sum) in
    let here : h' round ≡ h round = extended_before h (round + 1) (R.ended prog sum) round (λ q. omega (arith, q)) in
    let first : h' 0 ≡ h 0 = extended_before h (round + 1) (R.ended prog sum) 0 (λ q. omega (arith, q)) in
    subst (λ s. Own (from_round (R.round s) R) p (2 * round + 2) (2 * round + 2) h' l) (sym first)
    (own_round_over R' p round h' l (λ q. clean (hears ∙ q))
    (at ∙ (ap (λ w. R.ended w sum) (was ∙ ap (λ s. after_pulls R s (part.pulled (2 * round)) p) (sym here)) ∙ ap (R.ended (after_work R p h' l round)) hears)) own2)

-- another round
pub to_work : {S : Type 0} (R : Rules S) → Laws R → (p rank : ℕ) (h : ℕ → S) (round next : ℕ) (prog prog' : S) (sum : ℕ) (lost : Bool) (sends : Sends) (part : Part) (v q : ℕ) → part.done ≡ true → sum ≢ 2 ^ 64 - 1
    → round < 2 ^ 63 → R.goes_on (R.shape prog) (R.round prog) sum ≡ true → is_voting sends ≡ false → (lost ≡ false → prog' ≡ R.ended prog sum) → (sends ≡ Emissions → lost ≡ false) → (sends ≡ Nothing → lost ≡ true)
    → HasTaken R p rank h round (Votes v q) next prog sum false part
    → HasTaken R p rank (with_next h (round + 1) (R.ended prog sum)) (round + 1) sends 0 prog' 0 lost (after Reset part)
to_work R laws p rank h round next prog prog' sum lost sends part v q done clean few goes work ended some none is =
    let e : part.epoch ≡ 2 * round + 1 = is.passed.epoch in
    let h' = with_next h (round + 1) (R.ended prog sum) in
    let l = part_lists part in
    let was : prog ≡ after_work R p h l round = is.within.works refl in
    let same : SameRound R (h round) prog = subst (SameRound R (h round)) (sym was) (pulls_same R laws (h round) (part.pulled (2 * round)) p is.passed.valid) in
    let hears : sum ≡ heard p l round = is.within.hears refl in
    let low : sum < 2 ^ 64 = omega (arith, hears) in
    let after' : NextRound R prog (R.ended prog sum) = laws.next prog sum same.valid low in
    let at : h' (round + 1) ≡ R.ended prog sum = extended_at h (round + 1) (R.ended prog sum) in
    let here : (m : ℕ) → m ≤ round → h' m ≡ h m = λ m b. extended_before h (round + 1) (R.ended prog sum) m (λ q. omega (arith, q, b)) in
    let first : h' 0 ≡ h 0 = here 0 (omega arith) in
    let one_more : suc round ≡ round + 1 = omega arith in
    let all : next ≡ length (votes_to q v) = is.within.all_pushed done in
    record {
      passed = record {
        epoch = epoch_next sends work e;
        valid = subst R.valid (sym at) after'.valid;
        own_rank = ap R.rank at ∙ (after'.rank ∙ (same.rank ∙ is.passed.own_rank));
        all_ranks = ap R.ranks at ∙ (after'.ranks ∙ (same.ranks ∙ is.passed.all_ranks));
        own_round = ap R.round at ∙ (after'.round ∙ (ap (λ k. min (k + 1) (2 ^ 64 - 1)) (same.round ∙ (is.passed.own_round ∙ ap (λ s. round_after (R.round s) round) (sym first))) ∙ ap (round_after (R.round (h' 0))) one_more));
        few = omega (arith, few);
        own =
            let two : 2 * round + 2 ≡ part.epoch + 1 = omega (arith, e) in
            subst (λ k. Own (from_round (R.round (h' 0)) R) p k k h' l) two (own_ended R laws p rank h round next prog sum part v q done clean is);
        goes = λ m b.
            let m' : m ≡ round = omega (arith, b) in
            subst (λ k. R.goes_on (R.shape (h' k)) (round_after (R.round (h' 0)) k) (heard p l k) ≡ true) (sym m')
            (ap (λ s. R.goes_on (R.shape s) (round_after (R.round (h' 0)) round) (heard p l round)) (here round (omega arith))
            ∙ (ap (λ a. R.goes_on a (round_after (R.round (h' 0)) round) (heard p l round)) (sym same.shape)
            ∙ (ap (λ k. R.goes_on (R.shape prog) k (heard p l round)) (sym (same.round ∙ (is.passed.own_round ∙ ap (λ s. round_after (R.round s) round) (sym first)))) ∙ (ap (R.goes_on (R.shape prog) (R.round prog)) (sym hears) ∙ goes))));
        emitted_front = λ m d b c. subst (λ s. IsPrefix (part.pushed (2 * m) d) (emissions_to R s d)) (sym (here m (omega (arith, c, e)))) (is.passed.emitted_front m d b (omega (arith, c, e)));
        one_vote = λ m d b c. elim (cases_eq m round) [
          | inl same' ↦ subst (λ k. length (part.pushed (2 * k + 1) d) ≤ 1) (sym same')
              (let one : part.pushed (2 * round + 1) d ≡ vote_item v ∷ [] =
              subst (λ k. part.pushed k d ≡ items_of d (take next (votes_to q v))) e (is.within.pushed d b)
              ∙ (all_of (votes_to q v) next d all ∙ votes_each q v d (subst (λ k. d < k) (sym (is.within.vote v q refl).0) b)) in
              omega (arith, ap length one))
          | inr apart ↦ is.passed.one_vote m d b (omega (arith, c, e, apart))
        ];
        ahead = λ k d b. is.passed.ahead k d (omega (arith, b));
      };
      within = record {
        next_low = omega arith;
        all_pushed = λ d. absurd (false≢true d);
        pushed = λ d b. (is.passed.ahead (part.epoch + 1) d (omega arith)).0;
        emissions = λ s. ap R.emissions (ended (some s) ∙ sym at);
        nothing = none;
        works = λ b. ended b ∙ (sym at ∙ sym (worked_none R p (round + 1) h' l (λ f. (is.passed.ahead (2 * (round + 1)) f (omega (arith, e))).1)));
        vote = λ w r s. absurd (true≢false (sym (ap is_voting s) ∙ work));
        emitted_all = λ b. absurd (true≢false (sym b ∙ work));
        hears = λ b. absurd (true≢false (sym b ∙ work));
      };
    } where
      epoch_next : (s : Sends) → is_voting s ≡ false → part.epoch ≡ 2 * round + 1 → part.epoch + 1 ≡ epoch_of (round + 1) (is_voting s)
      epoch_next s w e = omega (arith, e) ∙ ap (epoch_of (round + 1)) (sym w)
