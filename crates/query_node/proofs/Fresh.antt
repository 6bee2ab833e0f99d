-- A rank that hasn't turned.
use Rattle.std.proofs.Common.{◌≡◌, ◌≢◌, ℕ, zero, suc, ◌<◌, ◌^◌, ◌==◌, Bool, true, false, cond, List, [], ◌∷◌, length, replicate, drop, nat_lt, None, Some, All, refl, sym, ap, subst, ◌∙◌, arith, get_or}
use Rattle.std.proofs.lemmas.Bool.{false≢true}
use Rattle.std.proofs.lemmas.List.Elements.{All-nil}
use Rattle.std.proofs.Math.Seq.{take-nil}
use Rattle.bale_items.specs.declared.item.Item.{Item}
use Rattle.route_tensor.specs.Grid.{ranks}
use Rattle.route_tensor.specs.Neighbour.{in_index, out_index}
use Rattle.port_bank.specs.Logs.{Logs}
use Rattle.port_bank.specs.Flow.{belongs, hop_link}
use Rattle.port_bank.specs.Machine.{ItemLists}
use Rattle.hop_core.specs.declared.phase.Phase.{Phase}
use Rattle.hop_core.specs.declared.phase.Phase.TheVariants.{Dormant, Working}
use Rattle.hop_core.specs.Link.{no_out, no_in}
use Rattle.hop_core.specs.State.{State}
use Rattle.convey.specs.Agreement.{items_among}
use Rattle.convey.specs.Buffers.{buffers_of, in_of, out_of}
use Rattle.convey.specs.Conveyors.{AgreesWith, KeepsAgreement}
use Rattle.convey.specs.Law.{IsSound}
use Rattle.convey.specs.Parts.{part_of, pushed_to, pulled_of}
use Rattle.round_program.specs.Talks.{Talk}
use Rattle.round_program.specs.Replies.{hearing, places_to, answers}
use Rattle.query_node.specs.Lines.{HasLines}
use Rattle.query_node.specs.Taking.{HasHeard}
use Rattle.query_node.specs.States.{IsFirst, IsBiNode}
use Rattle.query_node.proofs.Orders.{talk_same}

-- empty logs
abbrev pub no_logs : Logs
no_logs = λ l. []

either : {X : Type 0} (b : Bool) (x y : X) → x ≡ y → cond b x y ≡ y
either true x y e = e
either false x y e = refl

none_pushed : (st : State) → ((l : ℕ) → (out_of st l).parcel.untaken ≡ []) → (e d : ℕ) → pushed_to (buffers_of st) no_logs e d ≡ []
none_pushed st outs e d =
    either (e == st.epoch) (items_among (belongs st.dims st.rank d 1) (out_of st (hop_link st.dims st.rank d 1)).parcel.untaken) []
    (ap (items_among (belongs st.dims st.rank d 1)) (outs (hop_link st.dims st.rank d 1)))

same_or : {X : Type 0} (n i : ℕ) (x : X) → get_or (replicate n x) i x ≡ x
same_or zero i x = refl
same_or (suc n) zero x = refl
same_or (suc n) (suc i) x = same_or n i x

not_dormant : (p : Phase) → p ≡ Working → p ≢ Dormant
not_dormant p w d = absurd (cc)

-- a conveyor that has begun its first epoch
pub first_of : (dims : List ℕ) (rank n : ℕ) (steady : Bool) (st st' : State) → st.dims ≡ dims → st.rank ≡ rank → st.steady ≡ steady → st.outs ≡ replicate n no_out → st.ins ≡ replicate n no_in → st.done ≡ false → st.epoch ≡ 0
    → AgreesWith st no_logs no_logs → st' ≡ record st { phase = Working; pulled = None } → KeepsAgreement st st' → IsSound (buffers_of st') → IsFirst dims rank steady st'
first_of dims rank n steady st st' is_dims is_rank is_steady outs ins done first agrees new kept sound =
    let phase : st'.phase ≡ Working = ap (λ (t : State). t.phase) new in
    let outs' : (l : ℕ) → (out_of st' l).parcel.untaken ≡ [] = λ l. ap (λ (t : State). (out_of t l).parcel.untaken) new
    ∙ (ap (λ os. (get_or os (out_index st.dims l) no_out).parcel.untaken) outs ∙ ap (λ o. o.parcel.untaken) (same_or n (out_index st.dims l) no_out)) in
    let ins' : (l : ℕ) → (in_of st' l).parcel.untaken ≡ [] = λ l. ap (λ (t : State). (in_of t l).parcel.untaken) new
    ∙ (ap (λ xs. (get_or xs (in_index st.dims l) no_in).parcel.untaken) ins ∙ ap (λ x. x.parcel.untaken) (same_or n (in_index st.dims l) no_in)) in
    record {
      same_dims = ap (λ (t : State). t.dims) new ∙ is_dims;
      same_rank = ap (λ (t : State). t.rank) new ∙ is_rank;
      same_steady = ap (λ (t : State). t.steady) new ∙ is_steady;
      working = phase;
      not_done = ap (λ (t : State). t.done) new ∙ done;
      runs = record {
        first = ap (λ (t : State). t.epoch) new ∙ first;
        begun = λ e. not_dormant st'.phase phase e;
        working = λ d. phase;
        sound = sound;
        agrees = kept no_logs no_logs agrees;
      };
      unread = ins';
      none_pushed = λ e d. either (nat_lt d (ranks st'.dims)) (pushed_to (buffers_of st') no_logs e d) [] (none_pushed st' outs' e d);
      none_pulled = λ e d. either (nat_lt d (ranks st'.dims)) (pulled_of (buffers_of st') no_logs e d) [] (take-nil _);
    }

-- no replies, nothing heard
hears_nothing : {S : Type 0} (T : Talk S) (s : S) (i : ℕ) (qs : List (ℕ × ℕ)) (came : ℕ → List Item) → ((d : ℕ) → came d ≡ []) → hearing T s i qs came ≡ s
hears_nothing {S} T s i qs came none = ap (hearing T s i qs) (λ j d. none d j) ∙ nothing T s i qs where
  nothing : (T : Talk S) (s : S) (i : ℕ) (qs : List (ℕ × ℕ)) → hearing T s i qs (λ d. []) ≡ s
  nothing T s i [] = refl
  nothing T s i (q ∷ qs) = ap (hearing T s (suc i) qs) (λ j d. either (d == q.0) [] [] refl j) ∙ nothing T s (suc i) qs

pub nothing_heard : {S : Type 0} (T : Talk S) (s : S) (p : ℕ) (lines : List (List ℕ)) (came : ItemLists) → T.valid s → HasLines p (T.queries s) lines → ((d : ℕ) → came 0 d ≡ []) → HasHeard T s p s lines came
nothing_heard T s p lines came valid has none =
    record {
      valid = valid;
      same = talk_same T s valid;
      state = sym (hears_nothing T s 0 (T.queries s) (came 0) none);
      all = has.all;
      waits = λ d b. has.each d b ∙ ap (λ (xs : List Item). Some (drop (length xs) (places_to d 0 (T.queries s)))) (sym (none d));
      small = λ d. subst (λ xs. All (λ (x : Item). x.a < 2 ^ 64) xs) (sym (none d)) (All-nil (λ (x : Item). x.a < 2 ^ 64));
    }

pub fresh_node : {S : Type 0} (T : Talk S) (s : S) (dims : List ℕ) (rank : ℕ) (steady : Bool) (lines : List (List ℕ)) (q r : State) → T.valid s → T.rank s ≡ rank → T.ranks s ≡ ranks dims → HasLines (ranks dims) (T.queries s) lines
    → IsFirst dims rank steady q → IsFirst dims rank steady r → IsBiNode T s (record { asker = s; next = 0; lines = lines; queries = q; replies = r }) no_logs no_logs no_logs no_logs
fresh_node T s dims rank steady lines q r valid own all has fq fr =
    record {
      asks = fq.runs;
      replies = fr.runs;
      same_dims = fr.same_dims ∙ sym fq.same_dims;
      same_rank = fr.same_rank ∙ sym fq.same_rank;
      own_rank = own ∙ sym fq.same_rank;
      all_ranks = all ∙ ap ranks (sym fq.same_dims);
      next_low = omega arith;
      all_pushed = λ d. absurd (false≢true (sym fq.not_done ∙ d));
      pushed = λ d b. fq.none_pushed q.epoch d;
      answered = λ f b. fr.none_pushed r.epoch f ∙ sym (ap (λ (xs : List Item). answers T s f xs) (fq.none_pulled q.epoch f));
      over = λ d. absurd (false≢true (sym fr.not_done ∙ d));
      heard = subst (λ (ds : List ℕ). HasHeard T s (ranks ds) s lines (part_of (buffers_of r) no_logs no_logs).pulled) (sym fr.same_dims)
          (nothing_heard T s (ranks dims) lines (part_of (buffers_of r) no_logs no_logs).pulled valid has (λ d. fr.none_pulled 0 d));
      read = λ l below to hop. fr.unread l;
    }
