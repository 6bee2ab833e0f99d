-- How far an integer word is read.
use Rattle.std.specs.Prelude.{ℕ, List, min, Option, Result, Ok, ok_or}
use Rattle.std.specs.Option.{option_map}
use Rattle.bale_items.specs.declared.triple.Triple.{Triple}
use Rattle.mtx_text.specs.declared.banner.Form.{Form}
use Rattle.mtx_text.specs.declared.refusal.Reason.{Reason}
use Rattle.mtx_text.specs.declared.refusal.Reason.TheVariants as reason
use Rattle.mtx_text.specs.declared.sizes.Sizes.{Sizes}
use Rattle.mtx_text.specs.Integers.{integer_of}
use Rattle.mtx_text.specs.Grammar.{◌>>=◌, place_of, value_within}
use Rattle.mtx_text.specs.declared.integer.Integer.{Integer}

-- An integer whose size stops at 10^18, above every limit of the grammar.
--   a million digits 9 are read as 10^18 with their sign
abbrev pub capped : Integer → Integer
capped z = record { minus = z.minus; size = min z.size 1_000_000_000_000_000_000 }

-- The three words of an entry line, each read so.
abbrev pub read_three : List ℕ × List ℕ × List ℕ → Option Integer × Option Integer × Option Integer
read_three three = (
  option_map capped (integer_of three.0),
  option_map capped (integer_of three.1),
  option_map capped (integer_of three.2),
)

-- An entry line by the integers that its words are.
unfoldable pub cell_from : Form → Sizes → Option (Option Integer × Option Integer × Option Integer)
    → Result Triple Reason
cell_from form sizes read = do
  three ← ok_or read reason.EntryLine
  i ← ok_or three.0 reason.EntryLine
  j ← ok_or three.1 reason.EntryLine
  place ← place_of form sizes i j
  v ← value_within three.2
  Ok (record { i = place.0; j = place.1; v = v })
