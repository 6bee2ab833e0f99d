-- Entry lines read without regard to duplicates.
use Rattle.std.specs.Prelude.{ℕ, ◌≡◌, ◌≤◌, ◌<◌, ◌+◌, ◌*◌, ◌^◌, max, length, take, ◌-◌, ◌==◌, List, [], ◌∷◌, ◌++◌}
use Rattle.std.specs.Prelude.{if◌then◌else◌}
use Rattle.std.specs.Prelude.{Option, Some, None, Result, Ok, Err, nat_lt}
use Rattle.bale_items.specs.declared.triple.Triple.{Triple}
use Rattle.mtx_text.specs.declared.banner.Form.{Form}
use Rattle.mtx_text.specs.declared.sizes.Sizes.{Sizes}
use Rattle.mtx_text.specs.declared.refusal.Reason.{Reason}
use Rattle.mtx_text.specs.declared.refusal.Reason.TheVariants as reason
use Rattle.mtx_text.specs.declared.refusal.BadLine.{BadLine}
use Rattle.std.specs.List.{All}
use Rattle.mtx_text.specs.declared.cell.PlainCell.{PlainCell}
use Rattle.mtx_text.specs.declared.draft.Draft.{Draft}
use Rattle.mtx_text.specs.declared.draft.Entry.{Entry}
use Rattle.mtx_text.specs.declared.draft.Run.{Run}
use Rattle.mtx_text.specs.code.PlainLines.{CountsAt, IsFirstKept}
use Rattle.mtx_text.specs.Lines.{Line, lines_of, lines_from, words_of}
use Rattle.mtx_text.specs.code.Chains.{IsBelowSide}
use Rattle.mtx_text.specs.Integers.{integer_of}
use Rattle.mtx_text.specs.Grammar.{bad, cell_by, stands_for, AreLimited}

-- The entries up to the first line that is bad for another reason than a duplicate, and that line.
pub record Drafted : Type 0 where
  pub entries : List Triple
  pub stop : Option BadLine

abbrev pub verdict_at : List Triple → Option BadLine → Result (List Triple) BadLine
verdict_at entries None = Ok entries
verdict_at entries (Some b) = Err b

abbrev pub cell_or : Result Triple Reason → (Triple → Drafted) → (Reason → Drafted) → Drafted
cell_or (Ok t) next stop = next t
cell_or (Err why) next stop = stop why

-- The draft of entry lines, of which `left` are still to come, after entries that are done.
unfoldable pub draft_of : Form → Sizes → ℕ → ℕ → List Triple → List Line → Drafted
draft_of form sizes end left done [] =
    record { entries = done; stop = if nat_lt 0 left then Some (bad end reason.TooFew) else None }
draft_of form sizes end left done (line ∷ rest) =
    if left == 0 then record { entries = done; stop = Some (bad line.number reason.TooMany) }
    else cell_or (cell_by integer_of form sizes line.words)
    (λ t. draft_of form sizes end (left - 1) (done ++ stands_for form.symmetry t) rest)
    (λ why. record { entries = done; stop = Some (bad line.number why) })

-- What a draft decides, if no place comes twice in it.
abbrev pub verdict : Drafted → Result (List Triple) BadLine
verdict draft = verdict_at draft.entries draft.stop

-- The draft of the entry lines that are left of a run, after entries that are done.
abbrev pub draft_from : Form → Sizes → ℕ → List Triple → Run → Drafted
draft_from form sizes end done run =
    draft_of form sizes end run.left done (lines_from run.number (lines_of run.rest.now))

-- A run reads on: what it leaves to be read, after the entries that it adds, drafts the same.
-- lines, room, on: as many lines, and at most as many bytes, are left as stood behind those that it
-- read within: entries whose rows and columns are within the sizes stay so few: each line gives at
-- most two entries
pub record ReadsOn (form : Form) (sizes : Sizes) (old new : List Triple) (from to : Run) : Type 0 where
  pub draft : (end : ℕ) → draft_from form sizes end new to ≡ draft_from form sizes end old from
  pub lines : to.number + length (lines_of to.rest.now) ≡ from.number + length (lines_of from.rest.now)
  pub room : to.number + length to.rest.now ≤ from.number + length from.rest.now
  pub on : length to.rest.now ≤ length from.rest.now
  pub within : All (λ t. IsBelowSide (max sizes.rows sizes.cols) t) old
      → All (λ t. IsBelowSide (max sizes.rows sizes.cols) t) new
  pub few : length new + 2 * to.left ≤ length old + 2 * from.left

-- Sizes within the limits, and a text whose lines have numbers below 2^63 if its first line has
-- the number given.
pub record CanRead (sizes : Sizes) (text : List ℕ) (number : ℕ) : Type 0 where
  pub limits : AreLimited sizes
  pub room : number + length text < 2 ^ 63

-- A text begins with a plain line, and this is what the line names.
pub record IsCellAt (form : Form) (sizes : Sizes) (text : List ℕ) (p : PlainCell) : Type 0 where
  pub at : CountsAt text p.len p.next
  pub value : p.cell ≡ cell_by integer_of form sizes (words_of (take p.len text))

-- The first line that counts of a text whose first line has a number, and what that line names.
pub record IsNext (form : Form) (sizes : Sizes) (text : List ℕ) (number : ℕ) (entry : Entry) : Type 0 where
  pub kept : IsFirstKept text number entry.kept
  pub value : entry.cell ≡ cell_by integer_of form sizes (words_of entry.kept.line.now)

-- What an entry line stands for was added.
-- within: entries whose rows and columns are within the sizes stay so
pub record AddsLine (sizes : Sizes) (more old new : List Triple) : Type 0 where
  pub entries : new ≡ old ++ more
  pub within : All (λ t. IsBelowSide (max sizes.rows sizes.cols) t) old
      → All (λ t. IsBelowSide (max sizes.rows sizes.cols) t) new
  pub few : length new ≤ length old + 2

-- The draft of a text whose first line has a number.
pub record IsDraft (form : Form) (sizes : Sizes) (text : List ℕ) (number : ℕ) (d : Draft) : Type 0 where
  pub draft : record { entries = d.entries.items; stop = d.stop }
      ≡ draft_of form sizes (number + length (lines_of text)) sizes.entries [] (lines_from number (lines_of text))
  pub within : All (λ t. IsBelowSide (max sizes.rows sizes.cols) t) d.entries.items
  pub few : length d.entries.items ≤ 524_288
