-- An elastic rank that was just made.
use Rattle.std.proofs.Common.{◌≡◌, ℕ, ◌-◌, ◌==◌, Bool, cond, nat_lt, List, [], length, get_or, replicate, None, refl, sym, ap, ◌∙◌, subst}
use Rattle.std.specs.Prelude.{sum}
use Rattle.std.proofs.lemmas.List.{length-replicate}
use Rattle.std.proofs.Math.Seq.{take-nil}
use Rattle.bale_items.specs.declared.item.Item.{Item}
use Rattle.bale_items.specs.declared.item.Entry.{Entry}
use Rattle.route_tensor.specs.Grid.{ranks}
use Rattle.port_bank.specs.Flow.{hop_link}
use Rattle.route_tensor.specs.Pair.{belongs}
use Rattle.route_tensor.specs.Neighbour.{out_index}
use Rattle.hop_core.specs.Link.{Out, no_out}
use Rattle.hop_core.specs.State.{State}
use Rattle.convey.specs.Buffers.{buffers_of, out_of}
use Rattle.convey.specs.Agreement.{items_among}
use Rattle.convey.specs.Parts.{part_of, pushed_to, pulled_of, unread_of}
use Rattle.elastic.specs.Spelling.{letters_of}
use Rattle.elastic.specs.code.Begun.{begun_items}
use Rattle.rank_handles.specs.Seated.{Seated, part}
use Rattle.rank_handles.specs.Grouped.{Grouped, IsNewRank, new_state}
use Rattle.rank_handles.specs.StringCalls.{NewElastic}
use Rattle.rank_handles.specs.ElasticKept.{AreStrings, IsUntouched, IsUndone, IsElastic}
use Rattle.rank_handles.proofs.StringLists.{replicate_or, nothing_either, none_at, no_strings}

module _ (dims : List ℕ) (rank cap : ℕ) (steady : Bool) where
  abbrev fresh : State
  fresh = new_state dims rank cap steady

  fresh_waiting : (l : ℕ) → (out_of fresh l).parcel.untaken ≡ []
  fresh_waiting l = ap (λ (o : Out). o.parcel.untaken) (replicate_or (sum dims) (out_index dims l) no_out)

  fresh_pushed : (e r : ℕ) → pushed_to (buffers_of fresh) (λ l. []) e r ≡ []
  fresh_pushed e r =
      ap (λ (es : List Entry). cond (e == 0) (items_among (belongs dims rank r 1) es) []) (fresh_waiting (hop_link dims rank r 1)) ∙ nothing_either (e == 0)

  fresh_pulled : (e r : ℕ) → pulled_of (buffers_of fresh) (λ l. []) e r ≡ []
  fresh_pulled e r = take-nil (0 - unread_of (buffers_of fresh) e r)

  fresh_part : IsUntouched (part_of (buffers_of fresh) (λ l. []) (λ l. []))
  fresh_part e r = (
    ap (λ (l : List Item). cond (nat_lt r (ranks dims)) l []) (fresh_pushed e r) ∙ nothing_either (nat_lt r (ranks dims)),
    ap (λ (l : List Item). cond (nat_lt r (ranks dims)) l []) (fresh_pulled e r) ∙ nothing_either (nat_lt r (ranks dims)),
  )

pub new_fresh : (g : Grouped) (number : ℕ) (s : Seated) → IsNewRank g number s → IsUntouched (part s)
unfolding IsNewRank
new_fresh g number s new =
    subst IsUntouched (λ i. part_of (buffers_of (sym new.state i)) (sym new.sent i) (sym new.got i)) (fresh_part g.bank.shape.dims number g.cap g.steady)

pub new_undone : (g : Grouped) (number : ℕ) (s : Seated) → IsNewRank g number s → IsUndone s
unfolding IsNewRank
new_undone g number s new = record { dormant = λ e. ap (λ (z : State). z.done) new.state; working = λ e. ap (λ (z : State). z.done) new.state }

pub new_ranks : (g : Grouped) (number : ℕ) (s : Seated) → IsNewRank g number s → ranks s.state.dims ≡ ranks g.bank.shape.dims
unfolding IsNewRank
new_ranks g number s new = ap (λ (z : State). ranks z.dims) new.state

pub elastic_new : (s : Seated) (begun : List (List Item)) → IsUndone s → IsUntouched (part s) → begun ≡ replicate (ranks s.state.dims) [] → IsElastic s [] begun
elastic_new s begun undone fresh none = record {
  undone = undone;
  ahead = λ e r low. fresh e r;
  sent = record {
    working = λ _. refl;
    whole = λ r. subst AreStrings (sym (none_at (part s) (part s).epoch r ∙ (fresh (part s).epoch r).0)) no_strings;
  };
  read = record {
    senders = ap length none ∙ length-replicate (ranks s.state.dims) [];
    begun_is = λ r. ap (λ (l : List (List Item)). get_or l r []) none ∙ replicate_or (ranks s.state.dims) r [] ∙ sym (ap (begun_items []) (fresh (part s).epoch r).1);
  };
}

pub new_elastic : (g : Grouped) (number : ℕ) (s : Seated) → IsNewRank g number s → NewElastic g number (record { rank = s; pending = []; string = None })
new_elastic g number s new =
    let fresh = new_fresh g number s new in
    record {
      rank_is = new;
      pending = refl;
      string = refl;
      toward = λ i e r. letters_of ((none_at (part s) e r ∙ (fresh e r).0) i);
      from = λ i e r. letters_of ((fresh e r).1 i);
    }
