-- Pulling items, and the strings that they make whole.
use Rattle.std.proofs.Common.{◌≡◌, ◌≢◌, ℕ, ◌+◌, ◌-◌, ◌<◌, ◌≤◌, ◌==◌, ◌&&◌, Bool, true, false, not, cond, nat_lt, List, [], ◌∷◌, ◌++◌, length, take, Option, Some, None, Result, Ok, Err, arith, refl, sym, ap, ◌∙◌, subst, inl, inr}
use Rattle.std.specs.Prelude.{is_some, is_ok, if◌then◌else◌}
use Rattle.std.specs.Option.{option_map}
use Rattle.std.proofs.lemmas.Bool.{cases_eq, eq-eqb, ne_eqb}
use Rattle.std.proofs.lemmas.List.{length-append, length-set, length-take}
use Rattle.bale_items.specs.declared.item.Item.{Item}
use Rattle.bale_items.specs.declared.item.Entry.{Entry}
use Rattle.list_laws.specs.Sums.{total}
use Rattle.list_laws.proofs.Sums.{total_lt}
use Rattle.list_laws.proofs.Results.{if_ok_is}
use Rattle.route_tensor.specs.Grid.{ranks}
use Rattle.port_bank.specs.Flow.{flow}
use Rattle.port_bank.specs.Machine.{Part, Step, after}
use Rattle.port_bank.specs.Machine.Step.{Pull, Unpull, Idle}
use Rattle.link_slots.specs.SeatView.{collected_from}
use Rattle.hop_core.specs.declared.phase.Phase.TheVariants.{Dormant}
use Rattle.hop_core.specs.State.{State}
use Rattle.convey.specs.Buffers.{back_of}
use Rattle.elastic.specs.Mails.{is_whole, letter_of, with_next_item, begun_after}
use Rattle.rank_handles.specs.declared.answer.Answer.{Answer}
use Rattle.rank_handles.specs.declared.answer.Answer.TheVariants.{Good, Nothing, NoMemory, NotBegun}
use Rattle.rank_handles.specs.Seated.{Seated, Moved, part}
use Rattle.rank_handles.specs.Answers.{pull_result, unpull_answer}
use Rattle.rank_handles.specs.Calls.{Pulls, Unpulls}
use Rattle.rank_handles.specs.Strings.{ElasticState, strings_of, with_string}
use Rattle.rank_handles.specs.StringCalls.{PullsString}
use Rattle.rank_handles.specs.ElasticKept.{AreStrings, KeepsBegun, IsElastic, came_from, unpulled, OnlyPulled, NoString, OneString, StringPulled}
use Rattle.rank_handles.proofs.StringLists.{pushed_same, read_whole, read_part, begun_as_pulled, BegunAs, put_back}
use Rattle.rank_handles.proofs.StringWalks.{walked_none, walked_one, walked_both, ahead_walked, step_is, phase_after, read_same, undone_same}
use Rattle.rank_handles.proofs.StringAnswers.{pull_err}

only_none : (a : Seated) → OnlyPulled a a
only_none a = record { walked = walked_none a; links = refl; phase = refl; done = refl; epoch = refl; pushed = refl }

only_both : (a b c : Seated) → OnlyPulled a b → OnlyPulled b c → OnlyPulled a c
only_both a b c x y = record {
  walked = walked_both a b c x.walked y.walked;
  links = y.links ∙ x.links;
  phase = y.phase ∙ x.phase;
  done = y.done ∙ x.done;
  epoch = y.epoch ∙ x.epoch;
  pushed = y.pushed ∙ x.pushed;
}

pub no_string_none : (a : Seated) → NoString a a
no_string_none a = record { only = only_none a; strings = refl }

pub no_string_both : (a b c : Seated) → NoString a b → NoString b c → NoString a c
no_string_both a b c x y = record { only = only_both a b c x.only y.only; strings = y.strings ∙ x.strings }

one_string_after : (f : ℕ) (l : List ℕ) (a b c : Seated) → NoString a b → OneString f l b c → OneString f l a c
one_string_after f l a b c x y = record {
  only = only_both a b c x.only y.only;
  strings = y.strings ∙ (λ i. with_string (x.strings i) (x.only.epoch i) f l);
}

-- with what was pulled before it
pub pulled_after : (r : Result ℕ Answer) (l : List ℕ) (a b c : Seated) → NoString a b → StringPulled r l b c → StringPulled r l a c
pulled_after (Ok f) l a b c x y = record { given = one_string_after f l a b c x y.given; none = y.none; nothing = y.nothing; errors = y.errors }
pulled_after (Err e) l a b c x y = record { given = y.given; none = no_string_both a b c x y.none; nothing = y.nothing; errors = y.errors }

pub string_given : (f : ℕ) (l : List ℕ) (a b : Seated) → OneString f l a b → StringPulled (Ok f) l a b
string_given f l a b one = record { given = one; none = tt; nothing = λ e. absurd cc; errors = tt }

pub string_refused : (l : List ℕ) (a b : Seated) → NoString a b → StringPulled (Err NoMemory) l a b
string_refused l a b none = record { given = tt; none = none; nothing = λ e. absurd cc; errors = inr refl }

only_pulled : (s : Step) (a b : Seated) → b.seat ≡ a.seat → Moved s a.state.phase a b → (after s (part a)).epoch ≡ (part a).epoch → (after s (part a)).done ≡ (part a).done → (after s (part a)).pushed ≡ (part a).pushed → OnlyPulled a b
only_pulled s a b links m epoch done pushed =
    let is = step_is s a.state.phase a b m in
    record {
      walked = walked_one s a.state.phase a b m;
      links = links;
      phase = phase_after s a.state.phase a b m;
      done = ap (λ (p : Part). p.done) is ∙ done;
      epoch = ap (λ (p : Part). p.epoch) is ∙ epoch;
      pushed = ap (λ (p : Part). p.pushed) is ∙ pushed;
    }

-- ---- Fewer items are left to be pulled

take_le : (k : ℕ) (xs : List Item) → length (take k xs) ≤ length xs
take_le k xs = grind (arith, length-take)

bounded : (b : Bool) (k : ℕ) (xs : List Item) → length (cond b (take k xs) []) ≤ length xs
bounded true k xs = take_le k xs
bounded false k xs = omega arith

len_case : (b : Bool) (xs : List Item) (x : Item) → length (cond b (xs ++ x ∷ []) xs) ≡ cond b (length xs + 1) (length xs)
len_case true xs x = length-append xs (x ∷ [])
len_case false xs x = refl

fewer : (c c' n m : ℕ) → c ≡ c' → n ≡ m + 1 → n ≤ c → c - n < c' - m
fewer c c' n m e len low = omega (arith, e, len, low)

no_fewer : (c c' n m : ℕ) → c ≡ c' → n ≡ m → c - n ≤ c' - m
no_fewer c c' n m e len = omega (arith, e, len)

module _ (f : ℕ) (x : Item) (a b : Seated) (links : b.seat ≡ a.seat) (m : Moved (Pull f x) a.state.phase a b) where
  pulled_is : part b ≡ after (Pull f x) (part a)
  pulled_is = step_is (Pull f x) a.state.phase a b m

  dims_are : b.state.dims ≡ a.state.dims
  dims_are = (walked_one (Pull f x) a.state.phase a b m).dims

  came_same : (r : ℕ) → came_from b r ≡ came_from a r
  came_same r =
      let rank : b.state.rank ≡ a.state.rank = (walked_one (Pull f x) a.state.phase a b m).rank in
      let epoch : b.state.epoch ≡ a.state.epoch = ap (λ (p : Part). p.epoch) pulled_is in
      λ i. length (flow (dims_are i) (collected_from (links i)) r (rank i) (length (dims_are i)) (epoch i))

  len_is : (r : ℕ) → length ((part b).pulled (part b).epoch r) ≡ cond (r == f) (length ((part a).pulled (part a).epoch r) + 1) (length ((part a).pulled (part a).epoch r))
  len_is r =
      ap (λ (p : Part). length (p.pulled p.epoch r)) pulled_is
      ∙ ap (λ t. length (cond (t && (r == f)) ((part a).pulled (part a).epoch r ++ x ∷ []) ((part a).pulled (part a).epoch r))) (eq-eqb (part a).epoch (part a).epoch refl)
      ∙ len_case (r == f) ((part a).pulled (part a).epoch r) x

  below_came : (r : ℕ) → length ((part b).pulled (part b).epoch r) ≤ came_from b r
  below_came r = bounded (nat_lt r (ranks b.state.dims)) _ (flow b.state.dims (collected_from b.seat) r b.state.rank (length b.state.dims) b.state.epoch)

  abbrev left_of : Seated → ℕ → ℕ
  left_of s r = came_from s r - length ((part s).pulled (part s).epoch r)

  less_here : left_of b f < left_of a f
  less_here =
      let same = came_same f in
      let more : length ((part b).pulled (part b).epoch f) ≡ length ((part a).pulled (part a).epoch f) + 1 = len_is f ∙ ap (λ t. cond t (length ((part a).pulled (part a).epoch f) + 1) (length ((part a).pulled (part a).epoch f))) (eq-eqb f f refl) in
      let low = below_came f in
      fewer (came_from b f) (came_from a f) (length ((part b).pulled (part b).epoch f)) (length ((part a).pulled (part a).epoch f)) same more low

  no_more : (r : ℕ) → left_of b r ≤ left_of a r
  no_more r = elim (cases_eq r f) [
    | inl e ↦ subst (λ n. left_of b n ≤ left_of a n) (sym e) (let l = less_here in omega (arith, l))
    | inr n ↦
        let same = came_same r in
        let len : length ((part b).pulled (part b).epoch r) ≡ length ((part a).pulled (part a).epoch r) = len_is r ∙ ap (λ t. cond t (length ((part a).pulled (part a).epoch r) + 1) (length ((part a).pulled (part a).epoch r))) (ne_eqb r f n) in
        no_fewer (came_from b r) (came_from a r) (length ((part b).pulled (part b).epoch r)) (length ((part a).pulled (part a).epoch r)) same len
  ]

  pub unpulled_less : f < ranks a.state.dims → unpulled b < unpulled a
  unpulled_less low =
      subst (λ n. total n (left_of b) < unpulled a) (sym (ap ranks dims_are))
      (total_lt (ranks a.state.dims) (left_of b) (left_of a) f low less_here (λ k _. no_more k))

pulled_some : (st : State) (o : Option ℕ) (g : ℕ × Entry → ℕ) (f : ℕ) → option_map g (back_of st o) ≡ Some f → is_some o ≡ true
pulled_some st (Some i) g f e = refl
pulled_some st None g f e = absurd cc

-- ---- A pull of one item

module _ (begun : List (List Item)) (f : ℕ) (x : Item) (a b : Seated) (read : KeepsBegun a begun) (gives : pull_result a ≡ Ok (f, x)) (pulls : Pulls a b) where
  item_moved : Moved (Pull f x) a.state.phase a b
  unfolding Pulls
  item_moved = if_ok_is (λ p. Moved (Pull p.0 p.1) a.state.phase a b) (pull_result a) (f, x) gives pulls.pulled

  item_links : b.seat ≡ a.seat
  unfolding Pulls
  item_links = pulls.links

  pub item_sender : f < ranks a.state.dims
  unfolding Pulls
  item_sender = if_ok_is (λ p. p.0 < ranks a.state.dims) (pull_result a) (f, x) gives pulls.sender

  item_is : part b ≡ after (Pull f x) (part a)
  item_is = step_is (Pull f x) a.state.phase a b item_moved

  pub item_known : f < length begun
  item_known = subst (λ n. f < n) (sym read.senders) item_sender

  item_only : OnlyPulled a b
  item_only = only_pulled (Pull f x) a b item_links item_moved refl refl refl

  pub item_whole : (l : List ℕ) → is_whole (with_next_item begun f x) ≡ true → l ≡ letter_of (with_next_item begun f x) → OneString f l a b
  item_whole l is e = record {
    only = item_only;
    strings = ap (λ (p : Part). strings_of p.pulled) item_is ∙ read_whole (part a) begun f x read.begun_is is ∙ ap (with_string (strings_of (part a).pulled) (part a).epoch f) (sym e);
  }

  pub item_part : is_whole (with_next_item begun f x) ≡ false → NoString a b × (unpulled b < unpulled a)
  item_part is = (
    record {
      only = item_only;
      strings = ap (λ (p : Part). strings_of p.pulled) item_is ∙ read_part (part a) begun f x read.begun_is is;
    },
    unpulled_less f x a b item_links item_moved item_sender,
  )

  pub item_read : (begun' : List (List Item)) → begun' ≡ begun_after begun f x → KeepsBegun b begun'
  item_read begun' e = subst (KeepsBegun b) (sym e) (record {
    senders = length-set begun f (cond (is_whole (with_next_item begun f x)) [] (with_next_item begun f x)) ∙ read.senders ∙ ap ranks (sym (dims_are f x a b item_links item_moved));
    begun_is = subst (λ (p : Part). BegunAs p (begun_after begun f x)) (sym item_is) (begun_as_pulled (part a) begun f x item_known read.begun_is);
  })

  -- and put back
  pub item_back : (c : Seated) → Unpulls b c → NoString a c × KeepsBegun c begun
  unfolding Unpulls
  item_back c unpulls =
      let latest : (part b).latest ≡ Some f = ap (λ (p : Part). p.latest) item_is in
      let some : is_some b.state.pulled ≡ true = pulled_some b.state b.state.pulled _ f latest in
      let good : unpull_answer b ≡ Good = ap (λ t. if t then Good else Nothing) some in
      let m = unpulls.put_back good in let is = step_is Unpull b.state.phase b c m in
      let only : OnlyPulled a c = only_both a b c item_only (only_pulled Unpull b c unpulls.links m refl refl refl) in
      let same : (part c).pulled ≡ (part a).pulled = ap (λ (p : Part). p.pulled) is ∙ ap (λ (p : Part). (after Unpull p).pulled) item_is ∙ put_back (part a) f x in (
        record { only = only; strings = ap strings_of same },
        read_same a c begun only.walked.dims only.epoch same read,
      )

-- where there is none
pub item_none : (l : List ℕ) (begun : List (List Item)) (a b : Seated) (e : Answer) → a.state.phase ≢ Dormant → KeepsBegun a begun → pull_result a ≡ Err e → Pulls a b
    → StringPulled (Err e) l a b × KeepsBegun b begun
unfolding Pulls
item_none l begun a b e started read is_err pulls =
    let is_none : e ≡ Nothing = pull_err a.state.phase _ e started is_err in
    let none : pull_result a ≡ Err Nothing = is_err ∙ ap Err is_none in
    let m = pulls.nothing none in let is = step_is Idle a.state.phase a b m in
    let only : OnlyPulled a b = only_pulled Idle a b pulls.links m refl refl refl in
    let same : (part b).pulled ≡ (part a).pulled = ap (λ (p : Part). p.pulled) is in (
      record {
        given = tt;
        none = record { only = only; strings = ap strings_of same };
        nothing = λ _. pulls.still_none none;
        errors = inl is_none;
      },
      read_same a b begun only.walked.dims only.epoch same read,
    )

-- ---- What a pull of a string leaves of an elastic rank

pub elastic_read : (p : List (ℕ × Item)) (begun begun' : List (List Item)) (a b : Seated) → OnlyPulled a b → IsElastic a p begun → KeepsBegun b begun' → IsElastic b p begun'
elastic_read p begun begun' a b only kept read = record {
  undone = undone_same a b only.phase only.done kept.undone;
  ahead = ahead_walked a b only.walked kept.ahead;
  sent = record {
    working = λ not. kept.sent.working (λ e. not (only.phase ∙ e));
    whole = λ r. subst AreStrings (λ i. sym (pushed_same (part a) (part b) p only.epoch only.pushed) i (sym only.epoch i) r) (kept.sent.whole r);
  };
  read = read;
}

pub only_of : (r : Result ℕ Answer) (l : List ℕ) (a b : Seated) → StringPulled r l a b → OnlyPulled a b
only_of (Ok f) l a b p = p.given.only
only_of (Err e) l a b p = p.none.only

-- as calls on an elastic rank tell it
pub strings_pulled : (r : Result ℕ Answer) (p : List (ℕ × Item)) (s : Option (List ℕ)) (l : List ℕ) (a b : Seated) → a.state.phase ≢ Dormant → StringPulled r l a b
    → PullsString r (record { rank = a; pending = p; string = s }) (record { rank = b; pending = p; string = if is_ok r then Some l else None })
unfolding PullsString
strings_pulled (Ok f) p s l a b begun pulled = let only = pulled.given.only in record {
  not_begun = λ e. absurd (begun e);
  given = λ _. record {
    walked = only.walked;
    given = l;
    string = refl;
    from_is = pulled.given.strings;
    toward = ap strings_of (pushed_same (part a) (part b) p only.epoch only.pushed);
    phase = only.phase;
    pending = refl;
  };
  none = λ _. tt;
  errors = λ _. tt;
  nothing = λ e. absurd cc;
}
strings_pulled (Err e) p s l a b begun pulled = let only = pulled.none.only in record {
  not_begun = λ e. absurd (begun e);
  given = λ _. tt;
  none = λ _. record {
    walked = only.walked;
    string = refl;
    same = record {
      toward = ap strings_of (pushed_same (part a) (part b) p only.epoch only.pushed);
      from = pulled.none.strings;
    };
    phase = only.phase;
    pending = refl;
  };
  errors = λ _. pulled.errors;
  nothing = pulled.nothing;
}

pub none_begun_yet : (s : ElasticState) → s.rank.state.phase ≡ Dormant → PullsString (Err NotBegun) s s
unfolding PullsString
none_begun_yet s dormant = record {
  not_begun = λ _. (refl, refl);
  given = λ begun. absurd (begun dormant);
  none = λ begun. absurd (begun dormant);
  errors = λ begun. absurd (begun dormant);
  nothing = λ e. absurd cc;
}
