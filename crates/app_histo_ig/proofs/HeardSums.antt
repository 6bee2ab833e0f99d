-- What ranks have to write: the sums of their entries' columns, by ig's three rounds, or by asking.
use Rattle.std.proofs.Common.{◌≡◌, ℕ, zero, suc, ◌+◌, ◌*◌, ◌/◌, ◌%◌, ◌<◌, ◌≤◌, List, [], ◌∷◌, Some, map, length, get_or, slice_get, slice_set, arith, refl, sym, ap, ◌∙◌, subst}
use Rattle.std.proofs.Math.Nat.{mod-lt}
use Rattle.std.proofs.lemmas.Nat.{div-add-mod'}
use Rattle.std.proofs.lemmas.Option.{get_or_from_slice_get}
use Rattle.std.proofs.lemmas.List.{length-map, length-set, get_or-set_same, get_or-set_other}
use Rattle.bale_items.specs.declared.triple.Triple.{Triple}
use Rattle.bale_items.specs.Bits.{twos_complement}
use Rattle.list_laws.proofs.Lists.{find, within, get_once, get_map}
use Rattle.mtx_text.specs.Sparse.{Sparse}
use Rattle.round_program.specs.Replies.{after_answers, answered_from}
use Rattle.sparse_rows.specs.Owners.{Numbered, column_owner, own_entries}
use Rattle.sparse_rows.proofs.Turns.{part_is, part_some}
use Rattle.app_histo_ig.specs.Igs.{IgState}
use Rattle.app_histo_ig.specs.IgLines.{column_sum}
use Rattle.app_histo_ig.specs.IgRuns.{IgEnded}
use Rattle.app_histo_ig.specs.Asking.{AskingState, ig_talk}
use Rattle.app_histo_ig.specs.AskingRuns.{IsAskerOf}
use Rattle.app_histo_ig.specs.ColumnAnswers.{HaveSums, IgHeard}
use Rattle.app_histo_ig.proofs.ColumnWords.{column_word}
use Rattle.app_histo_ig.proofs.IgOwners.{programs_len, ended_at}
use Rattle.app_histo_ig.proofs.IgAnswers.{entry_answered}

-- what one rank has for an entry of the matrix
record HasSumFor (entries : List Triple) (ranks e : ℕ) (t : Triple) (answers : List ℕ) : Type 0 where
  place : e / ranks < length answers
  word : get_or answers (e / ranks) 0 ≡ twos_complement (column_sum t.j entries)

-- all ranks, where each has the sums of its own entries' columns
sums_of_all : {S : Type 0} (f : S → List ℕ) (entries : List Triple) (ranks : ℕ) (ps : List S) → 0 < ranks → length ps ≡ ranks
    → ((e : ℕ) (t : Triple) → slice_get entries e ≡ Some t → (s : S) × (slice_get ps (e % ranks) ≡ Some s) × HasSumFor entries ranks e t (f s)) → HaveSums entries (map f ps)
sums_of_all {S} f entries ranks ps some all each =
    let size : length (map f ps) ≡ ranks = length-map ps f ∙ all in
    let own : (e : ℕ) (t : Triple) → slice_get entries e ≡ Some t → HasSumFor entries ranks e t (get_or (map f ps) (e % ranks) []) = λ e t at.
    (let h = each e t at in
    subst (HasSumFor entries ranks e t) (sym (get_or_from_slice_get (map f ps) (e % ranks) (f h.0) [] (get_map f ps (e % ranks) h.0 h.1))) h.2) in
    record {
      some = subst (λ n. 0 < n) (sym size) some;
      place = λ e low. (let t = find entries e low in subst (λ n. e / n < length (get_or (map f ps) (e % n) [])) (sym size) (own e t.0 t.1).place);
      word = λ e t at. subst (λ n. get_or (get_or (map f ps) (e % n) []) (e / n) 0 ≡ twos_complement (column_sum t.j entries)) (sym size) (own e t at).word;
    }

-- by three rounds
pub ended_sums : (m : Sparse) (ps : List IgState) → IgEnded m ps → HaveSums m.entries (map (λ (s : IgState). s.answers) ps)
ended_sums m ps h =
    sums_of_all (λ (s : IgState). s.answers) m.entries h.ranks ps h.some (programs_len m ps h)
    (λ e t at.
    let here = ended_at m ps h (e % h.ranks) (mod-lt e h.some) in
    let is = entry_answered m ps h e t _ (within m.entries e t at) at here in
    (_, here, record { place = is.place; word = is.word ∙ (column_word m t.j h.matrix).word }))

-- ---- By asking

-- what stands before the first reply stays
kept : (all : ℕ → AskingState) (r : ℕ) (s : AskingState) (i : ℕ) (qs : List (ℕ × ℕ)) (j : ℕ) → j < i
    → get_or (answered_from ig_talk all r s i qs).answers j 0 ≡ get_or s.answers j 0
kept all r s i [] j low = refl
kept all r s i (q ∷ qs) j low =
    let reply : ℕ = ig_talk.answer (all q.0) r q.1 in
    kept all r (ig_talk.heard s i reply) (suc i) qs j (omega arith)
    ∙ get_or-set_other s.answers i j reply 0 (λ same. absurd (omega arith))

places_kept : (all : ℕ → AskingState) (r : ℕ) (s : AskingState) (i : ℕ) (qs : List (ℕ × ℕ)) → length (answered_from ig_talk all r s i qs).answers ≡ length s.answers
places_kept all r s i [] = refl
places_kept all r s i (q ∷ qs) =
    let reply : ℕ = ig_talk.answer (all q.0) r q.1 in
    places_kept all r (ig_talk.heard s i reply) (suc i) qs ∙ length-set s.answers i reply

-- query number k is answered at its place
heard_at : (all : ℕ → AskingState) (r : ℕ) (s : AskingState) (i : ℕ) (qs : List (ℕ × ℕ)) (k : ℕ) (q : ℕ × ℕ) → i + length qs ≤ length s.answers → slice_get qs k ≡ Some q
    → get_or (answered_from ig_talk all r s i qs).answers (i + k) 0 ≡ ig_talk.answer (all q.0) r q.1
heard_at all r s i [] k q room at = absurd (cc)
heard_at all r s i (p ∷ qs) zero q room at =
    let reply : ℕ = ig_talk.answer (all p.0) r p.1 in
    let same : p ≡ q = get_once (p ∷ qs) 0 p q refl at in
    let here : i + 0 ≡ i = omega arith in
    ap (λ n. get_or (answered_from ig_talk all r s i (p ∷ qs)).answers n 0) here
    ∙ kept all r (ig_talk.heard s i reply) (suc i) qs i (omega arith)
    ∙ get_or-set_same s.answers i reply 0 (omega arith)
    ∙ ap (λ (u : ℕ × ℕ). ig_talk.answer (all u.0) r u.1) same
heard_at all r s i (p ∷ qs) (suc k) q room at =
    let reply : ℕ = ig_talk.answer (all p.0) r p.1 in
    let next : i + suc k ≡ suc i + k = omega arith in
    let size : length (slice_set s.answers i reply) ≡ length s.answers = length-set s.answers i reply in
    ap (λ n. get_or (answered_from ig_talk all r s i (p ∷ qs)).answers n 0) next
    ∙ heard_at all r (ig_talk.heard s i reply) (suc i) qs k q (omega arith) at

-- entry number e stands at its rank's place e div ranks
own_at : (ranks : ℕ) (ts : List Triple) (e : ℕ) (t : Triple) → 0 < ranks → slice_get ts e ≡ Some t → slice_get (own_entries ranks (e % ranks) ts) (e / ranks) ≡ Some (e, t)
own_at ranks ts e t some at =
    let low : e % ranks < ranks = mod-lt e some in
    let whole : e / ranks * ranks + e % ranks ≡ e = div-add-mod' e ranks in
    ap (λ xs. slice_get xs (e / ranks)) (sym (part_is ranks ts (e % ranks) low))
    ∙ sym (part_some ranks ts (e % ranks) (e / ranks) t low (ap (slice_get ts) whole ∙ at))
    ∙ ap (λ n. Some (n, t)) whole

-- what an asker has heard for an entry of its rank
entry_heard : (m : Sparse) (qs : List AskingState) (h : IgHeard m qs) (e : ℕ) (t : Triple) → slice_get m.entries e ≡ Some t
    → (s : AskingState) × (slice_get qs (e % h.ranks) ≡ Some s) × HasSumFor m.entries h.ranks e t s.answers
entry_heard m qs h e t at =
    let r : ℕ = e % h.ranks in
    let low : r < h.ranks = mod-lt e h.some in
    let s = find h.began r (subst (λ n. r < n) (sym h.are.size) low) in
    let all : ℕ → AskingState = λ d. get_or h.began d s.0 in
    let is : IsAskerOf m h.ranks r s.0 = h.are.each r s.0 s.1 in
    let own : all r ≡ s.0 = get_or_from_slice_get h.began r s.0 s.0 s.1 in
    let inside : t.j < m.cols = subst (λ (u : Triple). u.j < m.cols) (get_or_from_slice_get m.entries e t t at) (h.matrix.inside e t (within m.entries e t at)).col in
    let d : ℕ = t.j % h.ranks in
    let asked = find h.began d (subst (λ n. d < n) (sym h.are.size) (mod-lt t.j h.some)) in
    let knows : IsAskerOf m h.ranks d asked.0 = h.are.each d asked.0 asked.1 in
    let query : slice_get s.0.queries (e / h.ranks) ≡ Some (d, t.j) =
    ap (λ xs. slice_get xs (e / h.ranks)) is.asks ∙ get_map {Y = ℕ × ℕ} (λ (x : Numbered). (column_owner h.ranks x, x.1.j)) (own_entries h.ranks r m.entries) (e / h.ranks) (e, t) (own_at h.ranks m.entries e t h.some at) in
    let ends : AskingState = answered_from ig_talk all r s.0 0 s.0.queries in
    let same : after_answers ig_talk all r ≡ ends = ap (λ u. answered_from ig_talk all r u 0 u.queries) own in
    let place : e / h.ranks < length s.0.queries = within s.0.queries (e / h.ranks) (d, t.j) query in
    let size : length ends.answers ≡ length s.0.queries = places_kept all r s.0 0 s.0.queries ∙ is.places in
    let plain : 0 + e / h.ranks ≡ e / h.ranks = omega arith in
    let word : get_or ends.answers (e / h.ranks) 0 ≡ get_or (all d).sums (t.j / (all d).ranks) 0 =
    ap (λ n. get_or ends.answers n 0) (sym plain) ∙ heard_at all r s.0 0 s.0.queries (e / h.ranks) (d, t.j) (omega (arith, is.places)) query in
    let there : all d ≡ asked.0 = get_or_from_slice_get h.began d asked.0 s.0 asked.1 in
    let sum : get_or (all d).sums (t.j / (all d).ranks) 0 ≡ get_or asked.0.sums (t.j / h.ranks) 0 =
    ap (λ (u : AskingState). get_or u.sums (t.j / u.ranks) 0) there ∙ ap (λ n. get_or asked.0.sums (t.j / n) 0) knows.all_ranks in (
      ends,
      h.heard.each r s.0 s.1 ∙ ap (λ u. Some u) same,
      record {
        place = subst (λ n. e / h.ranks < n) (sym size) place;
        word = word ∙ sum ∙ knows.knows t.j inside refl;
      },
    )

pub heard_sums : (m : Sparse) (qs : List AskingState) → IgHeard m qs → HaveSums m.entries (map (λ (s : AskingState). s.answers) qs)
heard_sums m qs h = sums_of_all (λ (s : AskingState). s.answers) m.entries h.ranks qs h.some (h.heard.size ∙ h.are.size) (λ e t at. entry_heard m qs h e t at)
