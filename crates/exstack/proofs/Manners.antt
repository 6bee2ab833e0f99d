-- What kind of round a stage is in.
use Rattle.std.proofs.Common.{◌≡◌, ℕ, ◌+◌, ◌*◌, Bool, true, false, not, ◌&&◌, ◌||◌, refl, sym, ap, ◌∙◌}
use Rattle.std.proofs.lemmas.Bool.{false≢true}
use Rattle.exstack.specs.declared.stage.Stage.{Stage}
use Rattle.exstack.specs.declared.stage.Stage.TheVariants.{Start, Proceeding, Filling, Exchanging, Full, AllDone}
use Rattle.exstack.specs.State.{is_proceeding, is_exchanging, may_read}
use Rattle.exstack.specs.Standing.{may_wait}
use Rattle.exstack.specs.State.{is_all_done}
use Rattle.exstack.specs.Agreement.{rounds_in}

pub record Kind (stage : Stage) (done last exchange : Bool) : Type 0 where
  pub odd : (n : ℕ) → exchange ≡ true → rounds_in n stage ≡ 2 * n + 2
  pub even : (n : ℕ) → exchange ≡ false → rounds_in n stage ≡ 2 * n + 1
  pub exchanging : exchange ≡ true → is_exchanging stage ≡ true
  pub reading : may_read stage ≡ false → exchange ≡ false
  pub none_wait : exchange ≡ false → (due : Bool) → may_wait stage due ≡ false
  pub not_last : exchange ≡ true → last ≡ false
  pub not_all : is_all_done stage ≡ false
  pub done_last : exchange ≡ false → last ≡ done
  pub last_done : last ≡ true → done ≡ true

and_done : (d b : Bool) → (d && b) ≡ true → d ≡ true
and_done true b h = refl
and_done false b h = h

pub and_true : (d : Bool) → (d && true) ≡ d
and_true true = refl
and_true false = refl

pub and_false : (d : Bool) → (d && false) ≡ false
and_false true = refl
and_false false = refl

-- both facts about the marks follow from how the last mark is chosen
marks_last : (done last exchange : Bool) → last ≡ (done && not exchange) → (exchange ≡ true → last ≡ false) × (exchange ≡ false → last ≡ done) × (last ≡ true → done ≡ true)
marks_last done last exchange l = (
  λ h. l ∙ (ap (λ b. done && not b) h ∙ and_false done),
  λ h. l ∙ (ap (λ b. done && not b) h ∙ and_true done),
  λ h. and_done done (not exchange) (sym l ∙ h),
)

pub kind_of : (stage : Stage) (done last exchange : Bool) → (is_proceeding stage || is_exchanging stage) ≡ true → exchange ≡ is_exchanging stage → last ≡ (done && not exchange) → Kind stage done last exchange
kind_of Start done last exchange r x l = absurd (false≢true r)
kind_of Proceeding done last exchange r x l = let m = marks_last done last exchange l in record {
  odd = λ n h. absurd (false≢true (sym x ∙ h));
  even = λ n h. refl;
  exchanging = λ h. absurd (false≢true (sym x ∙ h));
  reading = λ h. x;
  none_wait = λ h due. refl;
  not_last = m.0;
  not_all = refl;
  done_last = m.1;
  last_done = m.2;
}
kind_of Filling done last exchange r x l = absurd (false≢true r)
kind_of Exchanging done last exchange r x l = let m = marks_last done last exchange l in record {
  odd = λ n h. refl;
  even = λ n h. absurd (false≢true (sym h ∙ x));
  exchanging = λ h. refl;
  reading = λ h. absurd (false≢true (sym h));
  none_wait = λ h due. absurd (false≢true (sym h ∙ x));
  not_last = m.0;
  not_all = refl;
  done_last = m.1;
  last_done = m.2;
}
kind_of Full done last exchange r x l = absurd (false≢true r)
kind_of AllDone done last exchange r x l = absurd (false≢true r)
