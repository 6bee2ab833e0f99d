-- One round of all ranks: what holds of their labels as it begins and ends.
use Rattle.std.proofs.Common.{ℕ, ◌%◌, ◌<◌, ◌≤◌, ◌≡◌, ◌==◌, List, [], ◌∷◌, ◌++◌, Some, map, length, get_or, slice_get, All, arith, refl, sym, ap, ◌∙◌, subst}
use Rattle.std.specs.Prelude.{Contains}
use Rattle.std.specs.List.{filter}
use Rattle.std.proofs.lemmas.List.Elements.{All-map, All-filter, All-contains_itself}
use Rattle.bale_items.specs.declared.triple.Triple.{Triple}
use Rattle.mtx_text.specs.Sparse.{Sparse}
use Rattle.round_program.specs.Canonical.{after_whole_round, emitted_by, InRound}
use Rattle.reductions.specs.declared.reduced.Reduction.TheVariants.{Least}
use Rattle.reductions.specs.Reductions.{has_changed}
use Rattle.reductions.proofs.CellRounds.{HasCells, GoTo, cell, least_fell, least_keeps}
use Rattle.reductions.proofs.Links.{Offers, HasLinks, Sends}
use Rattle.reductions.proofs.Lists.{all_mapped, unfiltered}
use Rattle.reductions.proofs.Rounds.{full, was, upto_keep}
use Rattle.components.specs.declared.labels.Link.{Link}
use Rattle.components.specs.Connected.{links_of_entries, IsPath, Connected}
use Rattle.components.specs.LabelRules.{LabelState, label_rules, to_label_owner}
use Rattle.components.specs.Starts.{own_links, label_begins}

abbrev pub at : LabelState → ℕ → ℕ
at s v = cell s.labels v

pub has_labels : HasCells label_rules Least (λ x. x.a) (λ x. x.b) (λ s. s.labels)
has_labels = record { absorbs = λ s from x. refl; begins = λ s votes. refl }

-- ---- Links

-- a link offers its end the label of its beginning
abbrev pub label_offers : Offers Link
label_offers = record { from = λ l. l.from; to = λ l. l.to; along = λ l label. label }

-- what all links of a list offer is sent
all_send : (ranks : ℕ) (labels : List ℕ) (ls : List Link) (v c : ℕ) → All (λ e. e.1.a ≡ v → c ≤ e.1.b) (map (to_label_owner ranks labels) ls) → All (λ l. l.to ≡ v → c ≤ get_or labels l.from 0) ls
all_send ranks labels ls v c h = all_mapped (λ e. e.1.a ≡ v → c ≤ e.1.b) (to_label_owner ranks labels) ls h

pub label_links : HasLinks label_rules (λ x. x.a) (λ x. x.b) (λ s. s.labels) (λ s. s.links) label_offers
label_links =
    record {
      absorbs = λ s from x. refl;
      ends = λ s votes. refl;
      again = λ s votes k d low fell c came.
          unfiltered (λ l. l.to ≡ (get_or s.links k d).to → c ≤ get_or s.labels.cells l.from 0) (λ l. has_changed s.labels l.from) s.links
          (all_send s.ranks s.labels.cells (filter (λ l. has_changed s.labels l.from) s.links) (get_or s.links k d).to c came) k d low fell refl;
    }

pub begins_sends : (ranks : ℕ) (m : Sparse) (r : ℕ) → All (Sends label_rules (λ x. x.a) (λ x. x.b) (λ s. s.labels) (λ s. s.links) label_offers (label_begins ranks m r)) (own_links ranks r m.entries)
begins_sends ranks m r k d low c came =
    all_send ranks (label_begins ranks m r).labels.before (own_links ranks r m.entries) (get_or (own_links ranks r m.entries) k d).to c came k d low refl

-- ---- Ways

-- a way, and a link on from its end
way_on : (entries : List Triple) (u : ℕ) (way : List Link) (l : Link) → IsPath entries u l.from way → Contains (links_of_entries entries) l → IsPath entries u l.to (way ++ l ∷ [])
way_on entries u [] l w has = (has, sym w, refl)
way_on entries u (k ∷ way) l w has = (w.0, w.1, way_on entries k.to way l w.2 has)

connected_on : (entries : List Triple) (u : ℕ) (l : Link) → Connected entries u l.from → Contains (links_of_entries entries) l → Connected entries u l.to
connected_on entries u l c has = (c.0 ++ l ∷ [], way_on entries u c.0 l c.1 has)

-- ---- What holds as a round begins

pub record Stage (m : Sparse) (ranks : ℕ) (ss : List LabelState) : Type 0 where
  pub own : (r : ℕ) (s : LabelState) → slice_get ss r ≡ Some s → s.links ≡ own_links ranks r m.entries
  pub sent : (r : ℕ) (s : LabelState) → slice_get ss r ≡ Some s → All (Contains (links_of_entries m.entries)) s.active
  -- a label is the number of a connected vertex, and at most the vertex's own
  pub connected : (r : ℕ) (s : LabelState) → slice_get ss r ≡ Some s → (v : ℕ) → v < m.rows → Connected m.entries (at s v) v
  pub low : (r : ℕ) (s : LabelState) → slice_get ss r ≡ Some s → (v : ℕ) → at s v ≤ v

links_stay : (ss : List LabelState) (s : LabelState) → (full label_rules ss s).links ≡ s.links
links_stay ss s =
    upto_keep label_rules (λ t. t.links ≡ s.links) (λ x. Unit {0}) (λ t f x l q. l) s (emitted_by label_rules ss s.rank) (length ss) refl (λ f k d l. tt)

pub own_contained : (entries : List Triple) (ranks r : ℕ) → All (Contains (links_of_entries entries)) (own_links ranks r entries)
own_contained entries ranks r = All-filter (λ l. l.from % ranks == r) (Contains (links_of_entries entries)) (links_of_entries entries) (All-contains_itself (links_of_entries entries))

module _ {m : Sparse} {ranks n most : ℕ} {ss : List LabelState} (all : InRound label_rules ranks n (m.rows ∷ []) most ss)
    (calm : (r : ℕ) (s : LabelState) → slice_get ss r ≡ Some s → s.labels.before ≡ s.labels.cells) (stage : Stage m ranks ss) where
  pub size : (r : ℕ) (s : LabelState) → slice_get ss r ≡ Some s → length s.labels.cells ≡ m.rows
  size r s here = ap (λ ns. get_or ns 0 0) (all.each r s here).same_shape

  -- all labels for a vertex go to its owner
  pub to_owners : (v : ℕ) → GoTo has_labels ss v (v % ranks)
  to_owners v f q here =
      All-map (λ e. e.1.a ≡ v → e.0 ≡ v % ranks) (to_label_owner q.ranks q.labels.before) q.active
      (λ k d low same. ap (λ p. (get_or q.active k d).to % p) (all.each f q here).all_ranks ∙ ap (λ w. w % ranks) same)

  came_connected : (f : ℕ) (q : LabelState) → slice_get ss f ≡ Some q → All (λ l. Connected m.entries (get_or q.labels.before l.from 0) l.to) q.active
  came_connected f q here k d low =
      let l : Link = get_or q.active k d in
      let from : l.from < m.rows = subst (λ c. l.from < c) (size f q here) ((all.each f q here).valid.sent k d low).from in
      connected_on m.entries (get_or q.labels.before l.from 0) l
      (subst (λ ls. Connected m.entries (get_or ls l.from 0) l.from) (sym (calm f q here)) (stage.connected f q here l.from from)) (stage.sent f q here k d low)

  full_connected : (r : ℕ) (s : LabelState) → slice_get ss r ≡ Some s → (v : ℕ) → v < m.rows → Connected m.entries (at (full label_rules ss s) v) v
  full_connected r s here v low =
      least_keeps has_labels (λ n. Connected m.entries n v) ss s v (subst (λ n. v < n) (sym (size r s here)) low) (stage.connected r s here v low)
      (λ f q there. All-map (λ e. e.1.a ≡ v → Connected m.entries e.1.b v) (to_label_owner q.ranks q.labels.before) q.active
      (λ k d l same. subst (Connected m.entries (get_or q.labels.before (get_or q.active k d).from 0)) same (came_connected f q there k d l)))

  pub next_stage : Stage m ranks (after_whole_round label_rules ss)
  next_stage =
      record {
        own = λ r t here. (let u = was label_rules ss r t here in subst (λ w. w.links ≡ own_links ranks r m.entries) u.2 (links_stay ss u.0 ∙ stage.own r u.0 u.1));
        sent = λ r t here.
            let u = was label_rules ss r t here in
            let w : LabelState = full label_rules ss u.0 in
            subst (λ t. All (Contains (links_of_entries m.entries)) t.active) u.2
            (All-filter (λ l. has_changed w.labels l.from) (Contains (links_of_entries m.entries)) w.links
            (subst (All (Contains (links_of_entries m.entries))) (sym (links_stay ss u.0 ∙ stage.own r u.0 u.1)) (own_contained m.entries ranks r)));
        connected = λ r t here. (let u = was label_rules ss r t here in subst (λ w. (v : ℕ) → v < m.rows → Connected m.entries (at w v) v) u.2 (full_connected r u.0 u.1));
        low = λ r t here. (let u = was label_rules ss r t here in subst (λ w. (v : ℕ) → at w v ≤ v) u.2 (λ v.
            let a : at (full label_rules ss u.0) v ≤ at u.0 v = least_fell has_labels ss u.0 v in
            let b : at u.0 v ≤ v = stage.low r u.0 u.1 v in
            omega arith));
      }
