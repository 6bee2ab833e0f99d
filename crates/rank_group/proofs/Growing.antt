-- What one rank's turn leaves of the lists of a bank and of the inboxes, here counted by link.
use Rattle.std.proofs.Common.{◌≡◌, ◌≢◌, ℕ, ◌+◌, ◌<◌, ◌≤◌, ◌==◌, Bool, true, false, cond, List, [], ◌∷◌, ◌++◌, length, length-append, sym, ap, subst, ◌∙◌, arith, inl, inr}
use Rattle.std.specs.List.{flat_map}
use Rattle.std.proofs.lemmas.Bool.{cases_eq, cases_lt, ne_eqb}
use Rattle.std.proofs.lemmas.List.{append-nil, get_or_past}
use Rattle.item_buffer.specs.Contents.{Shipped}
use Rattle.list_laws.specs.Lists.{IsPrefix}
use Rattle.list_laws.proofs.Sums.{total_le, total_lt}
use Rattle.route_tensor.specs.Link.{links}
use Rattle.route_tensor.specs.Ends.{sender_at, reader_at}
use Rattle.port_bank.specs.Logs.{Logs, ending_at}
use Rattle.port_bank.specs.Plain.{Bank, IsBank, unused_channel, channel_at, sent_of, got_of}
use Rattle.port_bank.proofs.Fronts.{begins_shorter, begins_whole}
use Rattle.convey.proofs.OneRank.{starting-own, ending-own}
use Rattle.rank_group.specs.BankLogs.{parcel_entries, AreBankLogs, OwnLogsGrow, moved_over, moved}

abbrev entries_of : List Shipped → ℕ
entries_of log = length (parcel_entries log)

-- the logs of a lawful bank
pub lawful : (cap : ℕ) (b : Bank) (dims : List ℕ) (slots : ℕ) → IsBank cap b → b.dims ≡ dims → b.slots ≡ slots → AreBankLogs dims cap slots (sent_of b) (got_of b)
lawful cap b dims slots is ed es =
    subst (λ d. AreBankLogs d cap slots (sent_of b) (got_of b)) ed
    (subst (λ k. AreBankLogs b.dims cap k (sent_of b) (got_of b)) es
    (record {
      grid = is.grid;
      links_keep = is.each_link;
      none_past = λ l past. let e : channel_at b l ≡ unused_channel = get_or_past b.channels l unused_channel (omega (arith, past, is.number)) in (ap (λ c. c.sent) e, ap (λ c. c.got) e);
      relays = is.each_rank;
    }))

-- a turn posts at most one parcel on a link, whichever rank's it is
pub posted_once : (dims : List ℕ) (r : ℕ) (sent got sent' got' : Logs) → OwnLogsGrow dims r sent got sent' got' → (l : ℕ) → l < links dims → length (sent' l) ≤ length (sent l) + 1
posted_once dims r sent got sent' got' t l below = elim (cases_eq (sender_at dims l) r) [
  | inl here ↦ let few = t.one_sent l below here in omega (arith, few, ap length (starting-own dims r sent l here), ap length (starting-own dims r sent' l here))
  | inr apart ↦
      let same : sent' l ≡ sent l = subst (λ b. cond b [] (sent' l) ≡ cond b [] (sent l)) (ne_eqb (sender_at dims l) r apart) (ap (λ (f : Logs). f l) t.sent_elsewhere) in
      omega (arith, ap length same)
]

-- lies: an inbox of the rank has at most what it had and what came
pub record Grows (dims : List ℕ) (r : ℕ) (sent got sent' got' : Logs) (inbox inbox' : ℕ → ℕ) : Type 0 where
  pub own : OwnLogsGrow dims r sent got sent' got'
  pub apart : (l : ℕ) → reader_at dims l ≢ r → inbox' l ≡ inbox l
  pub lies : (l : ℕ) (more : List Shipped) → l < links dims → reader_at dims l ≡ r → ending_at dims r got' l ≡ ending_at dims r got l ++ more
      → inbox' l ≤ inbox l + entries_of more
  pub inboxes : (l : ℕ) → l < links dims → inbox l ≤ entries_of (got l)
  pub past : (l : ℕ) → links dims ≤ l → (sent' l ≡ sent l) × (got' l ≡ got l)

-- where a rank's own logs grow and the others stay, all grow
grown : (own : ℕ → Bool) (old new : Logs) → ((l : ℕ) → IsPrefix (cond (own l) (old l) []) (cond (own l) (new l) [])) → ((l : ℕ) → cond (own l) [] (new l) ≡ cond (own l) [] (old l)) → (l : ℕ) → IsPrefix (old l) (new l)
grown own old new grows same l = pick (own l) (grows l) (same l) where
  pick : (b : Bool) → IsPrefix (cond b (old l) []) (cond b (new l) []) → cond b [] (new l) ≡ cond b [] (old l) → IsPrefix (old l) (new l)
  pick true g s = g
  pick false g s = record { rest = []; is = s ∙ sym (append-nil (old l)) }

module _ (dims : List ℕ) (r : ℕ) (sent got sent' got' : Logs) (inbox inbox' : ℕ → ℕ) (t : Grows dims r sent got sent' got' inbox inbox') where
  sent_more : (l : ℕ) → IsPrefix (sent l) (sent' l)
  sent_more = grown (λ l. sender_at dims l == r) sent sent' t.own.sent_grows (λ l. ap (λ (f : Logs). f l) t.own.sent_elsewhere)

  pub got_more : (l : ℕ) → IsPrefix (got l) (got' l)
  got_more = grown (λ l. reader_at dims l == r) got got' t.own.got_grows (λ l. ap (λ (f : Logs). f l) t.own.got_elsewhere)

  entries_more : (l : ℕ) → entries_of (got' l) ≡ entries_of (got l) + entries_of (got_more l).rest
  entries_more l = ap entries_of (got_more l).is ∙ by (got l) (got_more l).rest where
    by : (xs ys : List Shipped) → entries_of (xs ++ ys) ≡ entries_of xs + entries_of ys
    by [] ys = omega arith
    by (x ∷ xs) ys = omega (arith, length-append x.entries (flat_map (λ p. p.entries) (xs ++ ys)), length-append x.entries (flat_map (λ p. p.entries) xs), by xs ys)

  inbox_step : (l : ℕ) → l < links dims → inbox' l + entries_of (got l) ≤ inbox l + entries_of (got' l)
  inbox_step l below = elim (cases_eq (reader_at dims l) r) [
    | inl here ↦
        let own : ending_at dims r got' l ≡ ending_at dims r got l ++ (got_more l).rest = ending-own dims r got' l here ∙ ((got_more l).is ∙ ap (λ g. g ++ (got_more l).rest) (sym (ending-own dims r got l here))) in
        omega (arith, t.lies l (got_more l).rest below here own, entries_more l)
    | inr apart ↦ omega (arith, t.apart l apart, entries_more l)
  ]

  pub inboxes_on : (l : ℕ) → l < links dims → inbox' l ≤ entries_of (got' l)
  inboxes_on l below = omega (arith, inbox_step l below, t.inboxes l below)

  step : (l : ℕ) → l < links dims → moved_over sent got inbox l ≤ moved_over sent' got' inbox' l
  step l below = omega (arith, inbox_step l below, t.inboxes l below, begins_shorter (sent l) (sent' l) (sent_more l), begins_shorter (got l) (got' l) (got_more l))

  pub moves_on : moved dims sent got inbox ≤ moved dims sent' got' inbox'
  moves_on = total_le (links dims) (moved_over sent got inbox) (moved_over sent' got' inbox') step

  -- where nothing moved the lists are as before
  module _ (light : moved dims sent' got' inbox' ≤ moved dims sent got inbox) where
    level : (l : ℕ) → l < links dims → moved_over sent' got' inbox' l ≤ moved_over sent got inbox l
    level l below = elim (cases_lt (moved_over sent got inbox l) (moved_over sent' got' inbox' l)) [
      | inl less ↦ absurd (omega (arith, light, total_lt (links dims) (moved_over sent got inbox) (moved_over sent' got' inbox') l below less step))
      | inr more ↦ omega (arith, more)
    ]

    pub sent_same : sent' ≡ sent
    sent_same = λ i l. one l i where
      one : (l : ℕ) → sent' l ≡ sent l
      one l = elim (cases_lt l (links dims)) [
        | inl below ↦ begins_whole (sent l) (sent' l) (sent_more l) (omega (arith, level l below, inbox_step l below, t.inboxes l below, begins_shorter (got l) (got' l) (got_more l)))
        | inr past ↦ (t.past l (omega (arith, past))).0
      ]

    pub got_same : got' ≡ got
    got_same = λ i l. one l i where
      one : (l : ℕ) → got' l ≡ got l
      one l = elim (cases_lt l (links dims)) [
        | inl below ↦ begins_whole (got l) (got' l) (got_more l) (omega (arith, level l below, inbox_step l below, t.inboxes l below, begins_shorter (sent l) (sent' l) (sent_more l)))
        | inr past ↦ (t.past l (omega (arith, past))).1
      ]

    -- and no inbox shrank
    pub inbox_same : (l : ℕ) → l < links dims → inbox l ≤ inbox' l
    inbox_same l below =
        let e = ap (λ (g : Logs). entries_of (g l)) got_same in
        omega (arith, level l below, t.inboxes l below, e, inbox_step l below, begins_shorter (sent l) (sent' l) (sent_more l), begins_shorter (got l) (got' l) (got_more l))
