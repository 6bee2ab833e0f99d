-- The ledger by which turns are counted.
use Rattle.std.specs.Prelude.{◌≡◌, ◌<◌, ℕ}

-- A ledger in which nothing was written, by its name and its parts, is the one that a type stands
-- for, by these.
pub record IsBlankOf (name parts blank_name blank_parts : ℕ) : Type 0 where
  -- It has that name.
  pub same_name : blank_name ≡ name
  -- It has as many parts.
  pub same_parts : blank_parts ≡ parts
  -- There are some, or nothing could be counted.
  pub some : 0 < parts
