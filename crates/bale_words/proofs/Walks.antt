-- What clap makes of one word for each option: no fault, and each option's value.
use Rattle.std.proofs.Common.{ℕ, zero, suc, ◌<◌, ◌≡◌, ◌≢◌, ◌==◌, ◌&&◌, ◌||◌, Bool, true, false, not, List, [], ◌∷◌, ◌++◌, map, length, get_or, Some, None, Result, Ok, Err, IfErr, codes, arith, refl, sym, ap, ◌∙◌, subst, inl, inr}
use Rattle.std.specs.Prelude.{nat_lt, is_some, count_by, fold}
use Rattle.std.specs.List.{list_all, list_any}
use Rattle.std.specs.Str.{bytes_eq}
use Rattle.std.proofs.lemmas.Bool.{cases_Bool, and_parts, or_parts, or_right, not-true, false≢true}
use Rattle.std.proofs.lemmas.Bool.Decides.{nat_tests}
use Rattle.std.proofs.lemmas.List.{append_assoc, append-nil}
use Rattle.std.proofs.lemmas.Slice.Eq.{bytes_eq-Decides}
use Rattle.clap.specs.Walk.{Rule, Row, Held, Walk, walked, walk, walk_from, finished, with_default, has_row, arg_by_long, first_of, used, with_values, without, rows_after, nothing_held, is_early_multiple}
use Rattle.clap.specs.Lexer.{long_of}
use Rattle.clap.specs.Simple.{App, Shape, built, names_of, filled_from, is_simple, is_buildable, is_ready, is_ready_leaf, matches_of, new_shape}
use Rattle.clap.specs.Faults.{fault_of, built_fault, turn_fault, walk_fault, defaults_fault, is_simple_and_free, is_free_app}
use Rattle.clap.specs.Kinds.{or_else, FailsBy}
use Rattle.clap.specs.Values.{kind_of}
use Rattle.clap.specs.declared.error.Error.{Error}
use Rattle.clap.specs.declared.error.kind.ErrorKind.TheVariants.{OutOfMemory}
use Rattle.clap.specs.Takes.{is_given}
use Rattle.clap.specs.declared.builder.action.ArgAction.TheVariants.{Set}
use Rattle.clap.specs.declared.builder.value_parser.ValueParser.TheVariants as vp
use Rattle.clap.specs.declared.builder.value_parser.Reading.TheVariants as reading
use Rattle.clap.specs.declared.parser.matches.ValueSource.TheVariants.{CommandLine}
use Rattle.clap.proofs.CutLemmas.{Lacks}
use Rattle.clap.proofs.LexerLemmas.{name_and_value-at}
use Rattle.bale_words.specs.Options.{Given, is_among, was_given, are_accepted, value_in, is_name, word_of}
use Rattle.bale_words.specs.Clap.{option_rule, app_named, command_words}

-- an option as clap fills it in
abbrev built_rule : List ℕ → Rule
built_rule n = record (option_rule n) { action = Some Set; parser = Some vp.String; range = Some (record { start_inclusive = 1; end_inclusive = 1 }) }

filled_rules : (i : ℕ) (names : List (List ℕ)) → filled_from i (map option_rule names) ≡ map built_rule names
filled_rules i [] = refl
filled_rules i (n ∷ ns) = ap (λ rs. built_rule n ∷ rs) (filled_rules i ns)

-- the command as clap builds it
abbrev built_shape : List (List ℕ) → Shape
built_shape names = record (new_shape (codes "bale")) { disable_help_flag = true; rules = map built_rule names; disable_help_subcommand = true; is_built = true }

built_is : (names : List (List ℕ)) → built (app_named names) ≡ record { top = built_shape names; subs = [] }
built_is names = ap (λ rs. with_rules rs) (filled_rules 1 names)
  where
    with_rules : List Rule → App
    with_rules rs = record { top = record (built_shape names) { rules = rs }; subs = [] }

-- texts that are one
pub same_text : (a b : List ℕ) → bytes_eq a b ≡ true → a ≡ b
same_text a b e = (bytes_eq-Decides a b).0 e

text_is : (a : List ℕ) → bytes_eq a a ≡ true
text_is a = (bytes_eq-Decides a a).1 refl

-- the row of an option that was given
abbrev given_row : Given → Row
given_row g = record { id = g.name; values = g.value ∷ []; count = None; source = Some CommandLine; reading = reading.AsWritten }

-- the walk after some options
abbrev held : List Row → Held
held rows = record { rows = rows; pending = None; skip = 0 }

abbrev after : List Row → Walk
after rows = walk_from (held rows)

-- an option is found by its name
found : (names : List (List ℕ)) (name : List ℕ) → is_among name names ≡ true → arg_by_long (map built_rule names) name ≡ Some (built_rule name)
found [] name h = absurd (false≢true h)
found (n ∷ ns) name h =
    elim (cases_Bool (bytes_eq n name)) [
      | inl same ↦ here (same_text n name same)
      | inr other ↦ rw (other) (found ns name (subst (λ b. (b || is_among name ns) ≡ true) other h))
    ]
  where
    here : n ≡ name → arg_by_long (map built_rule (n ∷ ns)) name ≡ Some (built_rule name)
    here e = subst (λ m. arg_by_long (map built_rule (m ∷ ns)) name ≡ Some (built_rule name)) (sym e) (rw (text_is name) refl)

-- a name without `=`, that isn't empty
lacks : (xs : List ℕ) → list_any (λ b. b == 61) xs ≡ false → Lacks 61 xs
lacks [] h i l = absurd (omega arith)
lacks (x ∷ xs) h i l =
    let parts : ((x == 61) ≡ false) × (list_any (λ b. b == 61) xs ≡ false) = or_parts (x == 61) (list_any (λ b. b == 61) xs) h in
    lacks_at x xs i l parts.0 (lacks xs parts.1)
  where
    lacks_at : (x : ℕ) (xs : List ℕ) (i : ℕ) → i < length (x ∷ xs) → (x == 61) ≡ false → Lacks 61 xs → get_or (x ∷ xs) i 0 ≢ 61
    lacks_at x xs zero l no' rest = grind (arith, nat_tests)
    lacks_at x xs (suc i) l no' rest = rest i (omega arith)

-- how clap cuts the word of an option
cut : (g : Given) → is_name g.name ≡ true → long_of (word_of g) ≡ Some (g.name, Some g.value)
cut g h = cut_at g.name g.value (and_parts _ _ h).0 (lacks g.name (not-true _ (and_parts _ _ h).1))
  where
    cut_at : (name value : List ℕ) → nat_lt 0 (length name) ≡ true → Lacks 61 name → long_of (45 ∷ 45 ∷ (name ++ 61 ∷ value)) ≡ Some (name, Some value)
    cut_at [] value some lack = absurd (false≢true some)
    cut_at (x ∷ xs) value some lack = ap (λ p. Some p) (name_and_value-at (x ∷ xs) value lack)

-- no row yet has the option's name
without_none : (id : List ℕ) (rows : List Row) → has_row id rows ≡ false → without id rows ≡ rows
without_none id [] h = refl
without_none id (r ∷ rs) h =
    let parts : (bytes_eq r.id id ≡ false) × (has_row id rs ≡ false) = or_parts (bytes_eq r.id id) (has_row id rs) h in
    rw (parts.0) (ap (λ xs. r ∷ xs) (without_none id rs parts.1))

with_new : (id : List ℕ) (values : List (List ℕ)) (rows : List Row) → has_row id rows ≡ false
    → with_values id reading.AsWritten CommandLine values rows ≡ rows ++ (record { id = id; values = values; count = None; source = Some CommandLine; reading = reading.AsWritten }) ∷ []
with_new id values [] h = refl
with_new id values (r ∷ rs) h =
    let parts : (bytes_eq r.id id ≡ false) × (has_row id rs ≡ false) = or_parts (bytes_eq r.id id) (has_row id rs) h in
    rw (parts.0) (ap (λ xs. r ∷ xs) (with_new id values rs parts.1))

used_row : (g : Given) (rows : List Row) → has_row g.name rows ≡ false → used (built_rule g.name) (g.value ∷ []) rows ≡ rows ++ given_row g ∷ []
used_row g rows h = ap (with_values g.name reading.AsWritten CommandLine (g.value ∷ [])) (without_none g.name rows h) ∙ with_new g.name (g.value ∷ []) rows h

-- the word is no `--`
no_dashes : (g : Given) → bytes_eq (word_of g) (45 ∷ 45 ∷ []) ≡ false
no_dashes g = go g.name
  where
    go : (name : List ℕ) → bytes_eq (45 ∷ 45 ∷ (name ++ 61 ∷ g.value)) (45 ∷ 45 ∷ []) ≡ false
    go [] = refl
    go (x ∷ xs) = refl

-- one word of the walk
one_step : (names : List (List ℕ)) (g : Given) (rows : List Row) → is_name g.name ≡ true → is_among g.name names ≡ true → has_row g.name rows ≡ false
    → walked (map built_rule names) [] (after rows) (word_of g) ≡ after (rows ++ given_row g ∷ [])
unfolding walked
one_step names g rows name known new =
    let dashes : bytes_eq (word_of g) (45 ∷ 45 ∷ []) ≡ false = no_dashes g in
    let long : long_of (word_of g) ≡ Some (g.name, Some g.value) = cut g name in
    let rule : arg_by_long (map built_rule names) g.name ≡ Some (built_rule g.name) = found names g.name known in
    let row : used (built_rule g.name) (g.value ∷ []) rows ≡ rows ++ given_row g ∷ [] = used_row g rows new in
    rw (dashes, long, rule) (ap after row)

no_turn_fault : (names : List (List ℕ)) (g : Given) (rows : List Row) → is_name g.name ≡ true → is_among g.name names ≡ true → has_row g.name rows ≡ false
    → turn_fault (built_shape names) [] (after rows) (word_of g) ≡ []
no_turn_fault names g rows name known new =
    let dashes : bytes_eq (word_of g) (45 ∷ 45 ∷ []) ≡ false = no_dashes g in
    let long : long_of (word_of g) ≡ Some (g.name, Some g.value) = cut g name in
    let rule : arg_by_long (map built_rule names) g.name ≡ Some (built_rule g.name) = found names g.name known in
    rw (dashes, long, rule, new) refl

-- the options to come have names of their own
abbrev are_new : List Row → List Given → Bool
are_new rows gs = list_all (λ g. not (has_row g.name rows)) gs

-- each name is one that an option can have
abbrev pub all_names : List (List ℕ) → Bool
all_names names = list_all is_name names

-- a known name is one of them
known_name : (names : List (List ℕ)) (name : List ℕ) → all_names names ≡ true → is_among name names ≡ true → is_name name ≡ true
known_name [] name all known = absurd (false≢true known)
known_name (n ∷ ns) name all known =
    let parts : (is_name n ≡ true) × (all_names ns ≡ true) = and_parts (is_name n) (all_names ns) all in
    elim (cases_Bool (bytes_eq n name)) [
      | inl same ↦ subst (λ m. is_name m ≡ true) (same_text n name same) parts.0
      | inr other ↦ known_name ns name parts.1 (subst (λ b. (b || is_among name ns) ≡ true) other known)
    ]

has_row_push : (id : List ℕ) (rows : List Row) (r : Row) → has_row id rows ≡ false → bytes_eq r.id id ≡ false → has_row id (rows ++ r ∷ []) ≡ false
has_row_push id [] r h n = rw n refl
has_row_push id (x ∷ xs) r h n =
    let parts : (bytes_eq x.id id ≡ false) × (has_row id xs ≡ false) = or_parts (bytes_eq x.id id) (has_row id xs) h in
    rw (parts.0) (has_row_push id xs r parts.1 n)

-- after one option the others are still new
still_new : (g : Given) (rows : List Row) (gs : List Given) → was_given g.name gs ≡ false → are_new rows gs ≡ true → are_new (rows ++ given_row g ∷ []) gs ≡ true
still_new g rows [] apart new = refl
still_new g rows (h ∷ hs) apart new =
    let here : (not (has_row h.name rows) ≡ true) × (are_new rows hs ≡ true) = and_parts (not (has_row h.name rows)) (are_new rows hs) new in
    let other : (bytes_eq h.name g.name ≡ false) × (was_given g.name hs ≡ false) = or_parts (bytes_eq h.name g.name) (was_given g.name hs) apart in
    let one : has_row h.name (rows ++ given_row g ∷ []) ≡ false = has_row_push h.name rows (given_row g) (not-true _ here.0) (apart_back g.name h.name other.0) in
    rw (one) (still_new g rows hs other.1 here.1)
  where
    apart_back : (a b : List ℕ) → bytes_eq b a ≡ false → bytes_eq a b ≡ false
    apart_back a b e = elim (cases_Bool (bytes_eq a b)) [
      | inl same ↦ absurd (false≢true (sym e ∙ (bytes_eq-Decides b a).1 (sym (same_text a b same))))
      | inr n ↦ n
    ]

-- what `are_accepted` says of the first option
pub record IsFirst (names : List (List ℕ)) (g : Given) (gs : List Given) : Type 0 where
  pub known : is_among g.name names ≡ true
  pub apart : was_given g.name gs ≡ false
  pub rest : are_accepted names gs ≡ true

pub first_of_accepted : (names : List (List ℕ)) (g : Given) (gs : List Given) → are_accepted names (g ∷ gs) ≡ true → IsFirst names g gs
first_of_accepted names g gs h =
    let outer : ((is_among g.name names && not (was_given g.name gs)) ≡ true) × (are_accepted names gs ≡ true) = and_parts (is_among g.name names && not (was_given g.name gs)) (are_accepted names gs) h in
    let inner : (is_among g.name names ≡ true) × (not (was_given g.name gs) ≡ true) = and_parts (is_among g.name names) (not (was_given g.name gs)) outer.0 in
    record { known = inner.0; apart = not-true _ inner.1; rest = outer.1 }

-- the whole walk
all_steps : (names : List (List ℕ)) (gs : List Given) (rows : List Row) → all_names names ≡ true → are_accepted names gs ≡ true → are_new rows gs ≡ true
    → fold (walked (map built_rule names) []) (after rows) (map word_of gs) ≡ after (rows ++ map given_row gs)
all_steps names [] rows all ok new = ap after (sym (append-nil rows))
all_steps names (g ∷ gs) rows all ok new =
    let first : IsFirst names g gs = first_of_accepted names g gs ok in
    let here : (not (has_row g.name rows) ≡ true) × (are_new rows gs ≡ true) = and_parts (not (has_row g.name rows)) (are_new rows gs) new in
    ap (λ w. fold (walked (map built_rule names) []) w (map word_of gs)) (one_step names g rows (known_name names g.name all first.known) first.known (not-true _ here.0))
    ∙ (all_steps names gs (rows ++ given_row g ∷ []) all first.rest (still_new g rows gs first.apart here.1)
    ∙ ap after (append_assoc rows (given_row g ∷ []) (map given_row gs)))

no_walk_fault : (names : List (List ℕ)) (gs : List Given) (rows : List Row) → all_names names ≡ true → are_accepted names gs ≡ true → are_new rows gs ≡ true
    → walk_fault (built_shape names) [] (after rows) (map word_of gs) ≡ []
unfolding walk_fault
no_walk_fault names [] rows all ok new = refl
no_walk_fault names (g ∷ gs) rows all ok new =
    let first : IsFirst names g gs = first_of_accepted names g gs ok in
    let here : (not (has_row g.name rows) ≡ true) × (are_new rows gs ≡ true) = and_parts (not (has_row g.name rows)) (are_new rows gs) new in
    let name : is_name g.name ≡ true = known_name names g.name all first.known in
    ap (λ k. or_else k (walk_fault (built_shape names) [] (walked (map built_rule names) [] (after rows) (word_of g)) (map word_of gs))) (no_turn_fault names g rows name first.known (not-true _ here.0))
    ∙ (ap (λ w. walk_fault (built_shape names) [] w (map word_of gs)) (one_step names g rows name first.known (not-true _ here.0))
    ∙ no_walk_fault names gs (rows ++ given_row g ∷ []) all first.rest (still_new g rows gs first.apart here.1))

-- at first every option is new
all_new : (gs : List Given) → are_new [] gs ≡ true
all_new [] = refl
all_new (g ∷ gs) = all_new gs

-- no option has a default, and none is required
no_defaults : (names : List (List ℕ)) (rows : List Row) → fold with_default rows (map built_rule names) ≡ rows
no_defaults [] rows = refl
no_defaults (n ∷ ns) rows =
    let here : with_default rows (built_rule n) ≡ rows = elim (cases_Bool (has_row n rows)) [ inl t ↦ rw t refl | inr f ↦ rw f refl ] in
    ap (λ rs. fold with_default rs (map built_rule ns)) here ∙ no_defaults ns rows

no_default_fault : (names : List (List ℕ)) (rows : List Row) → defaults_fault rows (map built_rule names) ≡ []
unfolding defaults_fault
no_default_fault [] rows = refl
no_default_fault (n ∷ ns) rows =
    let here : with_default rows (built_rule n) ≡ rows = elim (cases_Bool (has_row n rows)) [ inl t ↦ rw t refl | inr f ↦ rw f refl ] in
    let none : (has_row n rows || true) ≡ true = or_right (has_row n rows) true refl in
    rw (none) (ap (λ rs. defaults_fault rs (map built_rule ns)) here ∙ no_default_fault ns rows)

none_required : (names : List (List ℕ)) (rows : List Row) → list_any (λ (a : Rule). a.required && not (is_given a.id rows)) (map built_rule names) ≡ false
none_required [] rows = refl
none_required (n ∷ ns) rows = none_required ns rows

-- the rows of a parse are those of the options that were given
pub rows_are : (names : List (List ℕ)) (gs : List Given) → all_names names ≡ true → are_accepted names gs ≡ true → matches_of (app_named names) (command_words gs) ≡ map given_row gs
rows_are names gs all ok =
    ap (λ (a : App). rows_after a.top.rules (names_of a) (map word_of gs)) (built_is names)
    ∙ (ap (λ (w : Walk). finished (map built_rule names) w.held) (all_steps names gs [] all ok (all_new gs)) ∙ no_defaults names (map given_row gs))

-- and it has no fault
pub no_fault : (names : List (List ℕ)) (gs : List Given) → all_names names ≡ true → are_accepted names gs ≡ true → fault_of (app_named names) (command_words gs) ≡ []
no_fault names gs all ok =
    let steps : walk (map built_rule names) [] nothing_held (map word_of gs) ≡ after (map given_row gs) = all_steps names gs [] all ok (all_new gs) in
    let faults : walk_fault (built_shape names) [] (walk_from nothing_held) (map word_of gs) ≡ [] = no_walk_fault names gs [] all ok (all_new gs) in
    let defaults : defaults_fault (map given_row gs) (map built_rule names) ≡ [] = no_default_fault names (map given_row gs) in
    let required : list_any (λ (a : Rule). a.required && not (is_given a.id (finished (map built_rule names) (held (map given_row gs))))) (map built_rule names) ≡ false = none_required names (finished (map built_rule names) (held (map given_row gs))) in
    ap (λ (a : App). built_fault a nothing_held (map word_of gs)) (built_is names)
    ∙ rw (steps, faults, defaults, required) refl

-- the value of an option
pub value_is : (n : List ℕ) (gs : List Given) → first_of n (map given_row gs) ≡ value_in n gs
value_is n [] = refl
value_is n (g ∷ gs) = elim (cases_Bool (bytes_eq g.name n)) [ inl t ↦ rw t refl | inr f ↦ rw f (value_is n gs) ]

-- the command is simple, and no option has a rule on another
all_simple : (names : List (List ℕ)) → list_all (λ (a : Rule). a.is_simple) (map option_rule names) ≡ true
all_simple [] = refl
all_simple (n ∷ ns) = all_simple ns

built_simple : (names : List (List ℕ)) → list_all (λ (a : Rule). a.is_simple) (map built_rule names) ≡ true
built_simple [] = refl
built_simple (n ∷ ns) = built_simple ns

built_free : (names : List (List ℕ)) → list_all (λ (a : Rule). a.is_free) (map built_rule names) ≡ true
built_free [] = refl
built_free (n ∷ ns) = built_free ns

none_early : (k : ℕ) (names : List (List ℕ)) → list_any (is_early_multiple k) (map built_rule names) ≡ false
none_early k [] = refl
none_early k (n ∷ ns) = none_early k ns

pub simple_and_free : (names : List (List ℕ)) → is_simple_and_free (app_named names) ≡ true
simple_and_free names =
    let simple : list_all (λ (a : Rule). a.is_simple) (map option_rule names) ≡ true = all_simple names in
    let made : built (app_named names) ≡ record { top = built_shape names; subs = [] } = built_is names in
    let ready : list_all (λ (a : Rule). a.is_simple) (map built_rule names) ≡ true = built_simple names in
    let free : list_all (λ (a : Rule). a.is_free) (map built_rule names) ≡ true = built_free names in
    let order : list_any (is_early_multiple (count_by (λ (a : Rule). is_some a.index) (map built_rule names))) (map built_rule names) ≡ false = none_early (count_by (λ (a : Rule). is_some a.index) (map built_rule names)) names in
    let with_built : ((is_buildable (app_named names) && (is_ready (built_shape names) && list_all is_ready_leaf [])) && is_free_app (record { top = built_shape names; subs = [] })) ≡ true = rw (simple, ready, order, free) refl in
    subst (λ (b : App). ((is_buildable (app_named names) && (is_ready b.top && list_all is_ready_leaf b.subs)) && is_free_app b) ≡ true) (sym made) with_built

pub simple : (names : List (List ℕ)) → is_simple (app_named names) ≡ true
simple names = (and_parts (is_simple (app_named names)) _ (simple_and_free names)).0

-- where there is no fault, only memory can be wanting
pub fails_none : {T : Type 0} (r : Result T Error) → FailsBy [] r → IfErr r (λ e. kind_of e ≡ OutOfMemory)
fails_none (Ok x) h = tt
fails_none (Err e) (inl memory) = memory
fails_none (Err e) (inr among) = absurd among
