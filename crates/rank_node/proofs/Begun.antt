-- A node that hasn't turned.
use Rattle.std.proofs.Common.{◌≡◌, ℕ, ◌==◌, Bool, true, false, cond, [], replicate, nat_lt, refl, ap, ◌∙◌, get_or, zero, suc}
use Rattle.std.proofs.Math.Seq.{take-nil}
use Rattle.route_tensor.specs.Grid.{ranks}
use Rattle.route_tensor.specs.Neighbour.{in_index, out_index}
use Rattle.port_bank.specs.Logs.{Logs}
use Rattle.port_bank.specs.Flow.{belongs, hop_link}
use Rattle.hop_core.specs.Link.{no_out, no_in}
use Rattle.hop_core.specs.State.{State}
use Rattle.convey.specs.Agreement.{items_among}
use Rattle.convey.specs.Buffers.{buffers_of, in_of, out_of}
use Rattle.convey.specs.Parts.{part_of, pushed_to, pulled_of}

-- empty logs
abbrev pub no_logs : Logs
no_logs = λ l. []

-- a state whose links are all new
pub record Empty (st : State) : Type 0 where
  pub outs : (l : ℕ) → (out_of st l).parcel.untaken ≡ []
  pub ins : (l : ℕ) → (in_of st l).parcel.untaken ≡ []
  pub not_done : st.done ≡ false

either : {X : Type 0} (b : Bool) (x y : X) → x ≡ y → cond b x y ≡ y
either true x y e = e
either false x y e = refl

none_pushed : (st : State) → Empty st → (e d : ℕ) → pushed_to (buffers_of st) no_logs e d ≡ []
none_pushed st new e d =
    either (e == st.epoch) (items_among (belongs st.dims st.rank d 1) (out_of st (hop_link st.dims st.rank d 1)).parcel.untaken) []
    (ap (items_among (belongs st.dims st.rank d 1)) (new.outs (hop_link st.dims st.rank d 1)))

-- nothing was pushed and nothing pulled
pub new_part : (st : State) → Empty st → (e d : ℕ) → ((part_of (buffers_of st) no_logs no_logs).pushed e d ≡ []) × ((part_of (buffers_of st) no_logs no_logs).pulled e d ≡ [])
new_part st new e d =
    (either (nat_lt d (ranks st.dims)) (pushed_to (buffers_of st) no_logs e d) [] (none_pushed st new e d), either (nat_lt d (ranks st.dims)) (pulled_of (buffers_of st) no_logs e d) [] (take-nil _))

pub same_or : {X : Type 0} (n i : ℕ) (x : X) → get_or (replicate n x) i x ≡ x
same_or zero i x = refl
same_or (suc n) zero x = refl
same_or (suc n) (suc i) x = same_or n i x

pub new_links : (n : ℕ) (st : State) → st.outs ≡ replicate n no_out → st.ins ≡ replicate n no_in → st.done ≡ false → Empty st
new_links n st outs ins done =
    record {
      outs = λ l. ap (λ os. (get_or os (out_index st.dims l) no_out).parcel.untaken) outs ∙ ap (λ o. o.parcel.untaken) (same_or n (out_index st.dims l) no_out);
      ins = λ l. ap (λ xs. (get_or xs (in_index st.dims l) no_in).parcel.untaken) ins ∙ ap (λ x. x.parcel.untaken) (same_or n (in_index st.dims l) no_in);
      not_done = done;
    }
