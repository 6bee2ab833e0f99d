-- The numbers of a command are within the ranges of their options.
use Rattle.std.proofs.Common.{ℕ, ◌≡◌, ◌≤◌, ◌==◌, ◌&&◌, ◌^◌, ◌-◌, Bool, true, false, List, [], ◌∷◌, Option, Some, None, Result, Ok, Err, IfOk, nat_le, codes, arith, refl, sym, ap, subst, ◌∙◌, inl, inr, if◌then◌else◌}
use Rattle.std.specs.List.{list_any, slice_split}
use Rattle.std.specs.Option.{option_map, option_and_then}
use Rattle.std.proofs.lemmas.Option.{option_and_then_some, none-some, same_Some}
use Rattle.std.proofs.lemmas.Bool.{cases_Bool, false≢true}
use Rattle.std.proofs.lemmas.Bool.Decides.{nat_tests}
use Rattle.std.specs.Str.{bytes_eq}
use Rattle.item_buffer.specs.declared.capacity.TheConstants.{MOST_ENTRIES}
use Rattle.item_buffer.specs.Capacity.{capacities, is_capacity, IsCapacity}
use Rattle.bale_words.specs.declared.task.TaskName.{TaskName}
use Rattle.bale_words.specs.declared.task.TaskName.TheVariants as application
use Rattle.bale_words.specs.declared.command.Command.{Command}
use Rattle.bale_words.specs.declared.command.Generated.{Generated}
use Rattle.bale_words.specs.declared.task.Task.{Task}
use Rattle.bale_words.specs.declared.task.Task.TheVariants as task
use Rattle.bale_words.specs.declared.command.Transport.TheVariants.{Convey}
use Rattle.bale_words.specs.declared.command.Driving.TheVariants.{Threads}
use Rattle.bale_words.specs.declared.travel.Travel.{Travel}
use Rattle.bale_words.specs.Numbers.{number_in, number_of, within}
use Rattle.bale_words.specs.Options.{Given, given_of, is_among, are_accepted, value_in}
use Rattle.port_bank.specs.declared.slots.TheConstants.{MOST_SLOTS}
use Rattle.port_bank.specs.Slots.{slot_counts, is_slot_count}
use Rattle.bale_words.specs.Values.{most_entries, one_of, or_default, if_given, grid_of, slots_of, buffer_of, steady_of, driving_of, transport_of, generated_of, generated_by}
use Rattle.bale_words.specs.Words.{application_of, names_of, task_in, travel_in, travel_of, search_of, permutations_of, command_in, command_by, command_with, command_of}
use Rattle.bale_words.specs.declared.fault.WordsFault.{WordsFault}
use Rattle.bale_words.specs.Reading.{Reads}
use Rattle.bale_words.specs.Ranges.{CanGenerate, MayGenerate, TravelInRanges, TaskInRanges, InRanges}
use Rattle.bale_words.proofs.Walks.{IsFirst, first_of_accepted, same_text}

-- what a map gave came from something
map_some : {A B P : Type 0} (f : A → B) (o : Option A) (y : B) → option_map f o ≡ Some y → ((x : A) → o ≡ Some x → f x ≡ y → P) → P
map_some f None y e k = absurd (none-some y e)
map_some f (Some x) y e k = k x refl (same_Some (f x) y e)

-- and so did what a last step gave
last_some : {A B P : Type 0} (f : A → B) (o : Option A) (y : B) → option_and_then (λ x. Some (f x)) o ≡ Some y → ((x : A) → o ≡ Some x → f x ≡ y → P) → P
last_some f None y e k = absurd (none-some y e)
last_some f (Some x) y e k = k x refl (same_Some (f x) y e)

-- what a test let through
tested : {A : Type 0} (b : Bool) (x y : A) → (if b then Some x else None) ≡ Some y → (b ≡ true) × (x ≡ y)
tested true x y e = (refl, same_Some x y e)
tested false x y e = absurd (none-some y e)

within_is : (low high n m : ℕ) → within low high n ≡ Some m → (low ≤ m) × (m ≤ high)
within_is low high n m e =
    let t : (nat_le low n && nat_le n high ≡ true) × (n ≡ m) = tested (nat_le low n && nat_le n high) n m e in
    let a : nat_le low n && nat_le n high ≡ true = t.0 in
    let b : n ≡ m = t.1 in
    (grind (arith, nat_tests), grind (arith, nat_tests))

number_is : (low high : ℕ) (text : List ℕ) (m : ℕ) → number_in low high text ≡ Some m → (low ≤ m) × (m ≤ high)
unfolding number_in
number_is low high text m e = option_and_then_some (within low high) (number_of text) m e (λ n f g. within_is low high n m g)

one_is : (sizes : List ℕ) (n m : ℕ) → one_of sizes n ≡ Some m → list_any (λ size. size == m) sizes ≡ true
one_is sizes n m e =
    let t : (list_any (λ size. size == n) sizes ≡ true) × (n ≡ m) = tested (list_any (λ size. size == n) sizes) n m e in
    subst (λ k. list_any (λ size. size == k) sizes ≡ true) t.1 t.0

slots_are : (o : Option (List ℕ)) (m : ℕ) → or_default 2 slots_of o ≡ Some m → is_slot_count m ≡ true
unfolding slots_of
slots_are None m e = subst (λ k. is_slot_count k ≡ true) (same_Some 2 m e) refl
slots_are (Some text) m e = option_and_then_some (one_of slot_counts) (number_in 1 MOST_SLOTS text) m e (λ n f g. one_is slot_counts n m g)

buffer_is : (o : Option (List ℕ)) (m : ℕ) → or_default 64 buffer_of o ≡ Some m → IsCapacity m
unfolding buffer_of IsCapacity
buffer_is None m e = subst (λ k. is_capacity k ≡ true) (same_Some 64 m e) refl
buffer_is (Some text) m e = option_and_then_some (one_of capacities) (number_in 1 MOST_ENTRIES text) m e (λ n f g. one_is capacities n m g)

can_generate : (parts : List (List ℕ)) (g : Generated) → generated_by parts ≡ Some g → CanGenerate g
can_generate [] g e = absurd (none-some g e)
can_generate (a ∷ []) g e = absurd (none-some g e)
can_generate (a ∷ b ∷ []) g e = absurd (none-some g e)
can_generate (a ∷ b ∷ c ∷ d ∷ more) g e = absurd (none-some g e)
can_generate (n ∷ m ∷ seed ∷ []) g e =
    option_and_then_some (λ rows. option_and_then (λ entries. option_and_then (λ s. Some (record { rows = rows; entries = entries; seed = s })) (number_in 0 (2 ^ 64 - 1) seed)) (number_in rows (most_entries rows) m)) (number_in 1 16384 n) g e
    (λ rows f h.
    option_and_then_some (λ entries. option_and_then (λ s. Some (record { rows = rows; entries = entries; seed = s })) (number_in 0 (2 ^ 64 - 1) seed)) (number_in rows (most_entries rows) m) g h
    (λ entries i j.
    last_some (λ s. record { rows = rows; entries = entries; seed = s }) (number_in 0 (2 ^ 64 - 1) seed) g j
    (λ s k l.
    let a : (1 ≤ rows) × (rows ≤ 16384) = number_is 1 16384 n rows f in
    let b : (rows ≤ entries) × (entries ≤ most_entries rows) = number_is rows (most_entries rows) m entries i in
    subst CanGenerate l (record { some = a.0; tall = a.1; full = b.0; few = b.1 }))))

generated_is : (o : Option (List ℕ)) (g : Option Generated) → if_given generated_of o ≡ Some g → MayGenerate g
unfolding generated_of
generated_is None g e = subst MayGenerate (same_Some None g e) tt
generated_is (Some text) g e = map_some (λ x. Some x) (generated_of text) g e (λ x f h. subst MayGenerate h (can_generate (slice_split (λ b. b == 44) text) x f))

travel_is : (a : TaskName) (via slots steady buffer drive gen : Option (List ℕ)) (t : Travel) → travel_of a via slots steady buffer drive gen ≡ Some t → TravelInRanges t
unfolding travel_of
travel_is a via slots steady buffer drive gen t e =
    option_and_then_some _ (or_default Convey (transport_of a) via) t e (λ v f1 e1.
    option_and_then_some _ (or_default 2 slots_of slots) t e1 (λ s f2 e2.
    option_and_then_some _ (or_default false steady_of steady) t e2 (λ st f3 e3.
    option_and_then_some _ (or_default 64 buffer_of buffer) t e3 (λ b f4 e4.
    option_and_then_some _ (or_default Threads driving_of drive) t e4 (λ d f5 e5.
    last_some (λ g. record { transport = v; slots = s; steady = st; buffer = b; driving = d; generated = g }) (if_given generated_of gen) t e5 (λ g f6 e6.
    subst TravelInRanges e6 (record { buffer = buffer_is buffer b f4; slots = slots_are slots s f2; generated = generated_is gen g f6 })))))))

-- where none is given, no matrix is generated
none_of : (a : TaskName) (via slots steady buffer drive gen : Option (List ℕ)) (t : Travel) → gen ≡ None → travel_of a via slots steady buffer drive gen ≡ Some t → t.generated ≡ None
unfolding travel_of
none_of a via slots steady buffer drive gen t none e =
    option_and_then_some _ (or_default Convey (transport_of a) via) t e (λ v f1 e1.
    option_and_then_some _ (or_default 2 slots_of slots) t e1 (λ s f2 e2.
    option_and_then_some _ (or_default false steady_of steady) t e2 (λ st f3 e3.
    option_and_then_some _ (or_default 64 buffer_of buffer) t e3 (λ b f4 e4.
    option_and_then_some _ (or_default Threads driving_of drive) t e4 (λ d f5 e5.
    last_some (λ g. record { transport = v; slots = s; steady = st; buffer = b; driving = d; generated = g }) (if_given generated_of gen) t e5 (λ g f6 e6.
    sym (ap (λ (x : Travel). x.generated) e6) ∙ same_Some g None (sym f6 ∙ ap (if_given generated_of) none)))))))

delta_is : (s : ℕ) (o : Option (List ℕ)) (d : Option ℕ) → if_given (number_in 1 1000000000000) o ≡ Some d → TaskInRanges (task.Sssp s d)
delta_is s None d e = subst (λ x. TaskInRanges (task.Sssp s x)) (same_Some None d e) tt
delta_is s (Some text) d e =
    map_some (λ x. Some x) (number_in 1 1000000000000 text) d e (λ x f h. subst (λ y. TaskInRanges (task.Sssp s y)) h (number_is 1 1000000000000 text x f))

search_is : (source delta : Option (List ℕ)) (t : Task) → search_of source delta ≡ Some t → TaskInRanges t
search_is source delta t e =
    option_and_then_some _ (or_default 1 (number_in 0 (2 ^ 32 - 1)) source) t e (λ s f h.
    last_some (λ d. task.Sssp s d) (if_given (number_in 1 1000000000000) delta) t h (λ d g k. subst TaskInRanges k (delta_is s delta d g)))

task_is : (a : TaskName) (gs : List Given) (t : Task) → task_in a gs ≡ Some t → TaskInRanges t
task_is application.Permute gs t e =
    last_some (λ p. task.Permute p) (permutations_of (value_in (codes "seed") gs) (value_in (codes "rperm") gs) (value_in (codes "cperm") gs)) t e (λ p f h. subst TaskInRanges h tt)
task_is application.Sssp gs t e = search_is (value_in (codes "source") gs) (value_in (codes "delta") gs) t e
task_is _ gs t e = subst TaskInRanges (same_Some _ t e) tt

-- an option that is none of the names wasn't given
not_given : (names : List (List ℕ)) (name : List ℕ) (gs : List Given) → is_among name names ≡ false → are_accepted names gs ≡ true → value_in name gs ≡ None
not_given names name [] out h = refl
not_given names name (g ∷ gs) out h =
    let first : IsFirst names g gs = first_of_accepted names g gs h in
    elim (cases_Bool (bytes_eq g.name name)) [
      | inl same ↦ absurd (false≢true (sym out ∙ subst (λ n. is_among n names ≡ true) (same_text g.name name same) first.known))
      | inr other ↦ ap (λ b. if b then Some g.value else value_in name gs) other ∙ not_given names name gs out first.rest
    ]

-- a matrix isn't generated for tally
no_band : (a : TaskName) (gs : List Given) (t : Task) (travel : Travel) → are_accepted (names_of a) gs ≡ true → task_in a gs ≡ Some t → travel_in a gs ≡ Some travel
    → t ≡ task.Tally → travel.generated ≡ None
no_band application.Permute gs t travel h e f is =
    last_some (λ p. task.Permute p) (permutations_of (value_in (codes "seed") gs) (value_in (codes "rperm") gs) (value_in (codes "cperm") gs)) t e
    (λ p g k. absurd (let same : task.Permute p ≡ task.Tally = k ∙ is in cc))
no_band application.Sssp gs t travel h e f is =
    option_and_then_some _ (or_default 1 (number_in 0 (2 ^ 32 - 1)) (value_in (codes "source") gs)) t e (λ s g k.
    last_some (λ d. task.Sssp s d) (if_given (number_in 1 1000000000000) (value_in (codes "delta") gs)) t k
    (λ d i j. absurd (let same : task.Sssp s d ≡ task.Tally = j ∙ is in cc)))
no_band application.Tally gs t travel h e f is =
    none_of application.Tally (value_in (codes "via") gs) (value_in (codes "slots") gs) (value_in (codes "steady") gs) (value_in (codes "buffer") gs) (value_in (codes "drive") gs) (value_in (codes "gen") gs)
    travel (not_given (names_of application.Tally) (codes "gen") gs refl h) f
no_band _ gs t travel h e f is = absurd (let same = same_Some _ t e ∙ is in cc)

in_is : (a : TaskName) (gs : List Given) (c : Command) → are_accepted (names_of a) gs ≡ true → command_in a gs ≡ Some c → InRanges c
in_is a gs c h e =
    option_and_then_some _ (or_default (4 ∷ []) grid_of (value_in (codes "grid") gs)) c e (λ grid f1 e1.
    option_and_then_some _ (travel_in a gs) c e1 (λ travel f2 e2.
    last_some (λ t. record { task = t; grid = grid; travel = travel }) (task_in a gs) c e2 (λ t f3 e3.
    subst InRanges e3 (record {
      travel = travel_is a (value_in (codes "via") gs) (value_in (codes "slots") gs) (value_in (codes "steady") gs) (value_in (codes "buffer") gs) (value_in (codes "drive") gs) (value_in (codes "gen") gs) travel f2;
      task = task_is a gs t f3;
      lines = no_band a gs t travel h f3 f2;
    }))))

by_is : (a : TaskName) (o : Option (List Given)) (c : Command) → command_by a o ≡ Some c → InRanges c
by_is a None c e = absurd (none-some c e)
by_is a (Some gs) c e = accepted_is (are_accepted (names_of a) gs) a gs c refl e
  where
    accepted_is : (b : Bool) (a : TaskName) (gs : List Given) (c : Command) → are_accepted (names_of a) gs ≡ b → (if b then command_in a gs else None) ≡ Some c → InRanges c
    accepted_is true a gs c h e = in_is a gs c h e
    accepted_is false a gs c h e = absurd (none-some c e)

with_is : (o : Option TaskName) (words : List (List ℕ)) (c : Command) → command_with o words ≡ Some c → InRanges c
with_is None words c e = absurd (none-some c e)
with_is (Some a) words c e = by_is a (given_of words) c e

pub in_ranges : (words : List (List ℕ)) (c : Command) → command_of words ≡ Some c → InRanges c
in_ranges [] c e = absurd (none-some c e)
in_ranges (first ∷ words) c e = with_is (application_of first) words c e

-- the same of what was read
pub read_is : (a : TaskName) (o : Option (List Given)) (read : Result Command WordsFault) → Reads (command_by a o) read → IfOk read (λ c. InRanges c)
read_is a o (Ok c) e = by_is a o c e
read_is a o (Err f) e = tt
