-- What is read last decides, where all else was read.
use Rattle.std.proofs.Common.{ℕ, ◌≡◌, List, [], ◌∷◌, Option, Some, Err, codes, sym, ap, subst}
use Rattle.std.specs.Option.{option_and_then}
use Rattle.bale_words.specs.declared.fault.WordsFault.{WordsFault}
use Rattle.bale_words.specs.declared.fault.WordsFault.TheVariants.{Usage, NoMemory}
use Rattle.bale_words.specs.declared.task.TaskName.{TaskName}
use Rattle.bale_words.specs.declared.command.Command.{Command}
use Rattle.bale_words.specs.declared.task.Task.{Task}
use Rattle.bale_words.specs.declared.travel.Travel.{Travel}
use Rattle.bale_words.specs.Options.{Given, value_in}
use Rattle.bale_words.specs.Reading.{Reads}
use Rattle.bale_words.specs.Values.{or_default, grid_of}
use Rattle.bale_words.specs.Words.{task_in, travel_in, command_in}

reads_on : {X Y : Type 0} (o : Option X) (f : X → Option Y) (e : WordsFault) → Reads o (Err e) → Reads (option_and_then f o) (Err e)
reads_on o f Usage h = ap (option_and_then f) h
reads_on o f NoMemory h = tt

refused : {G T K C : Type 0} (go : Option G) (tr : Option T) (ta : Option K) (f : G → T → K → C) (g : G) (t : T) (e : WordsFault) → go ≡ Some g → tr ≡ Some t
    → Reads ta (Err e) → Reads (option_and_then (λ x. option_and_then (λ y. option_and_then (λ k. Some (f x y k)) ta) tr) go) (Err e)
refused {C = C} go tr ta f g t e grid travel task =
    subst (λ o. Reads {X = C} (option_and_then (λ x. option_and_then (λ y. option_and_then (λ k. Some (f x y k)) ta) tr) o) (Err e)) (sym grid)
    (subst (λ o. Reads {X = C} (option_and_then (λ y. option_and_then (λ k. Some (f g y k)) ta) o) (Err e)) (sym travel)
    (reads_on ta (λ k. Some (f g t k)) e task))

pub task_refused : (a : TaskName) (gs : List Given) (g : List ℕ) (t : Travel) (e : WordsFault) → or_default (4 ∷ []) grid_of (value_in (codes "grid") gs) ≡ Some g → travel_in a gs ≡ Some t
    → Reads (task_in a gs) (Err e) → Reads (command_in a gs) (Err e)
task_refused a gs g t e grid travel task =
    let made : List ℕ → Travel → Task → Command = λ x y k. record { task = k; grid = x; travel = y } in
    refused (or_default (4 ∷ []) grid_of (value_in (codes "grid") gs)) (travel_in a gs) (task_in a gs) made g t e grid travel task
