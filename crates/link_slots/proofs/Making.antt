-- A bank as it is made.
use Rattle.std.proofs.Common.{◌≡◌, ℕ, zero, suc, ◌+◌, ◌*◌, ◌<◌, ◌≤◌, true, false, ◌||◌, ne_eqb, List, [], ◌∷◌, map, length, replicate, get_or, sym, refl, ap, ◌∙◌, subst, arith, Option, Some, None}
use Rattle.std.specs.List.{All}
use Rattle.std.proofs.lemmas.List.{length-replicate}
use mathlib.Core.Option.{some, some-ne-none, some-injective}
use lib.ListN.{get_elem?}
use mathlib.Core.Logic.{dite}
use native.Mathlib.Decide.{dec_le}
use Rattle.atomic_table.specs.Table.{Me, opening}
use Rattle.item_buffer.specs.Contents.{Contents, blank}
use Rattle.route_tensor.specs.Grid.{ranks, IsGrid}
use Rattle.route_tensor.specs.Link.{links}
use Rattle.list_laws.proofs.Lists.{all_head, all_tail}
use Rattle.port_bank.specs.Port.{IsSlots}
use Rattle.port_bank.specs.Slots.{is_slot_count}
use Rattle.port_bank.proofs.Closing.{law_nothing}
use Rattle.link_slots.specs.declared.seat.rank_ends.RankEnds.{RankEnds}
use Rattle.link_slots.specs.declared.seat.rank_ends.EndedCounts.{EndedCounts}
use Rattle.item_buffer.specs.Contents.{as_shipped}
use Rattle.port_bank.specs.Logs.{lasts}
use Rattle.link_slots.specs.Logs.{got_of}
use Rattle.link_slots.specs.OwnLinks.{IsOwn}
use Rattle.list_laws.specs.Counts.{saturated_count}
use Rattle.link_slots.specs.View.{first_view, no_logs, logs_or}
use Rattle.link_slots.specs.ClosedBank.{logs_at, ended_of}
use Rattle.link_slots.specs.Shape.{Shape, IsShape, wiring, IsBlank, MayFollow, KeepsLaw}
use Rattle.link_slots.specs.WordSteps.{TableView, IsLawful}
use Rattle.link_slots.specs.Gathering.{IsGathering, AreNew, HasNew, is_gone}
use Rattle.link_slots.proofs.Opening.{opens, no_sent, no_got, same_some, some_there}
use Rattle.link_slots.proofs.Wires.{wired}

not_slots : (n : ℕ) → 8 < n → is_slot_count n ≡ false
not_slots n h = let a = ne_eqb 1 n (λ e. omega arith) in let b = ne_eqb 2 n (λ e. omega arith) in let c = ne_eqb 4 n (λ e. omega arith) in let d = ne_eqb 8 n (λ e. omega arith) in
    λ k. ((a k) || ((b k) || ((c k) || ((d k) || false))))

pub slots_range : (n : ℕ) → IsSlots n → (0 < n) × (n ≤ 8)
unfolding IsSlots
slots_range zero h = absurd (let e : false ≡ true = h in cc)
slots_range (suc n) h = (omega arith, dite (dec_le (suc n) 8) (λ low. low) (λ high. absurd (let e : false ≡ true = sym (not_slots (suc n) (omega arith)) ∙ h in cc)))

pub is_shape : (dims : List ℕ) (slots : ℕ) → IsGrid dims → IsSlots slots → IsShape (record { dims = dims; slots = slots })
is_shape dims slots g h = let r = slots_range slots h in record { grid = g; some = r.0; few = r.1; counts = h }

one_value : {A : Type 0} (n k : ℕ) (a b : A) → get_elem? (replicate n a) k ≡ some b → b ≡ a
one_value zero k a b e = absurd (some-ne-none b (sym e))
one_value (suc n) zero a b e = sym (some-injective a b e)
one_value (suc n) (suc k) a b e = one_value n k a b e

-- the first state is lawful
pub opens_lawful : (cap : ℕ) (shape : Shape) (words : List ℕ) (slots : List Contents) → IsShape shape → words ≡ replicate (16 * (2 * links shape.dims + ranks shape.dims * length shape.dims)) 0 → slots ≡ replicate (shape.slots * links shape.dims) (blank 0)
    → IsLawful cap shape (opening words slots (first_view shape (ranks shape.dims) (links shape.dims)))
opens_lawful cap shape words slots is zeros blanks =
    opens IsBlank (MayFollow shape.dims cap) (KeepsLaw shape.dims) shape (wiring shape) (wired shape is) words slots zeros
    (ap length blanks ∙ length-replicate (shape.slots * links shape.dims) (blank 0))
    (λ k b e. let same : b ≡ blank 0 = one_value (shape.slots * links shape.dims) k (blank 0) b (ap (λ (z : List Contents). get_elem? z k) (sym blanks) ∙ e) in subst (λ (z : Contents). z ≡ blank z.epoch) (sym same) refl)
    (λ r. law_nothing shape.dims r (λ l. []))

kept_new : (count : ℕ) (ends : List (Option RankEnds)) (r : ℕ) (e : RankEnds) → All (HasNew count) ends → get_or ends r None ≡ Some e → AreNew count e
kept_new count [] r e all at = absurd (let n : None ≡ Some e = at in cc)
kept_new count (x ∷ xs) zero e all at = subst (HasNew count) at (all_head (HasNew count) x xs all)
kept_new count (x ∷ xs) (suc r) e all at = kept_new count xs r e (all_tail (HasNew count) x xs all) at

here_still : (count : ℕ) (o : Option RankEnds) → HasNew count o → is_gone o ≡ false
here_still count (Some e) h = refl
here_still count None h = absurd h

pub none_given : (count : ℕ) (ends : List (Option RankEnds)) → All (HasNew count) ends → map is_gone ends ≡ replicate (length ends) false
none_given count [] all = refl
none_given count (x ∷ xs) all = λ k. here_still count x (all_head (HasNew count) x xs all) k ∷ none_given count xs (all_tail (HasNew count) x xs all) k

in_range : {A : Type 0} (l : List (Option A)) (r : ℕ) (x : A) → get_or l r None ≡ Some x → r < length l
in_range [] r x e = absurd (let n : None ≡ Some x = e in cc)
in_range (y ∷ ys) zero x e = omega arith
in_range (y ∷ ys) (suc r) x e = let h = in_range ys r x e in omega arith

pub first_gathering : (shape : Shape) (m : Me Contents TableView) (ends : List (Option RankEnds)) (ended : List (Option EndedCounts)) → IsShape shape → m ≡ (first_view shape (ranks shape.dims) (links shape.dims), []) → length ends ≡ ranks shape.dims → All (HasNew (links shape.dims)) ends → ended ≡ replicate (ranks shape.dims) None
    → IsGathering m.0.shape m ends ended
first_gathering shape m ends ended is me many new none =
    let shaped : m.0.shape ≡ shape = ap (λ (z : Me Contents TableView). z.0.shape) me in
    subst (λ (z : Shape). IsGathering z m ends ended) (sym shaped) (record {
      shaped = is;
      of = shaped;
      no_slots = ap (λ (z : Me Contents TableView). z.1) me;
      lists_many = ap (λ (z : Me Contents TableView). length z.0.lists) me ∙ length-replicate (ranks shape.dims) _;
      ends_many = many;
      each_new = λ r e at. (
        kept_new (links shape.dims) ends r e new at,
        ap (λ (z : Me Contents TableView). get_or z.0.lists r None) me ∙ some_there (ranks shape.dims) r (no_logs (links shape.dims)) (let h = in_range ends r e at in omega arith),
      );
      each_own = λ r x at. let same : x ≡ no_logs (links shape.dims) = same_some (ranks shape.dims) r (no_logs (links shape.dims)) x (sym (ap (λ (z : Me Contents TableView). get_or z.0.lists r None) me) ∙ at) in
          subst (IsOwn shape.dims r) (sym same) (record {
            outs = length-replicate (links shape.dims) _;
            ins = length-replicate (links shape.dims) _;
            sent = λ l ne. ap (λ (f : ℕ → List Contents). f l) (no_sent Contents (links shape.dims));
            got = λ l ne. ap (λ (f : ℕ → List Contents). f l) (no_got Contents (links shape.dims));
          });
      ended_many = ap length none ∙ length-replicate (ranks shape.dims) None;
      each_ended = λ r l a b. ap (λ (z : List (Option EndedCounts)). ended_of (get_or z r None) l) none ∙ ap (λ (z : Option EndedCounts). ended_of z l) (nones (ranks shape.dims) r)
          ∙ ap (λ (z : List Contents). saturated_count (lasts (map as_shipped z))) (sym (ap (λ (z : Me Contents TableView). got_of (logs_at z.0.lists r) l) me ∙ nothing_got (links shape.dims) (ranks shape.dims) r l));
    })
  where
    nothing_got : (n k r l : ℕ) → ◌≡◌ {A = List Contents} (got_of (logs_or (get_or (replicate k (Some (no_logs n))) r None)) l) []
    nothing_got n zero r l = refl
    nothing_got n (suc k) zero l = λ j. no_got Contents n j l
    nothing_got n (suc k) (suc r) l = nothing_got n k r l

    nones : (n r : ℕ) → ◌≡◌ {A = Option EndedCounts} (get_or (replicate n None) r None) None
    nones zero r = refl
    nones (suc n) zero = refl
    nones (suc n) (suc r) = nones n r
