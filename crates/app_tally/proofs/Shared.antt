-- The lines of one rank, read from those that all ranks share.
use Rattle.std.proofs.Common.{ℕ, ◌+◌, ◌-◌, ◌*◌, ◌/◌, ◌<◌, ◌≤◌, ◌≡◌, List, Some, length, slice_get, All, arith, ap, ◌∙◌, length-take-le, take_all}
use Rattle.std.proofs.lemmas.List.{get_or-take}
use Rattle.std.proofs.lemmas.List.Elements.{All-take}
use Rattle.std.proofs.lemmas.Option.{slice_get-get_or}
use Rattle.elastic.specs.Spelling.{IsLetter}
use Rattle.app_tally.specs.TallyRuns.{own_lines}
use Rattle.app_tally.specs.code.ShareView.{shared_lines, IsShare}
use Rattle.app_tally.proofs.TallyRounds.{own_at, own_count, own_inside, own_letters}

-- how many there are
pub shared_len : (ranks rank len : ℕ) (lines : List (List ℕ)) → IsShare ranks rank len lines → length (shared_lines ranks rank len lines) ≡ len
shared_len ranks rank len lines is = length-take-le len (own_lines ranks rank lines) is.within

-- where each lies
pub shared_inside : (ranks rank len i : ℕ) (lines : List (List ℕ)) → IsShare ranks rank len lines → i < length (shared_lines ranks rank len lines) → i * ranks + rank < length lines
shared_inside ranks rank len i lines is low =
    let size : length (shared_lines ranks rank len lines) ≡ len = shared_len ranks rank len lines is in
    let within : len ≤ length (own_lines ranks rank lines) = is.within in
    own_inside ranks rank i lines is.own (omega arith)

-- and which it is
pub shared_at : (ranks rank len i : ℕ) (lines : List (List ℕ)) (l : List ℕ) → IsShare ranks rank len lines → i < length (shared_lines ranks rank len lines) → slice_get lines (i * ranks + rank) ≡ Some l
    → slice_get (shared_lines ranks rank len lines) i ≡ Some l
shared_at ranks rank len i lines l is low at =
    let size : length (shared_lines ranks rank len lines) ≡ len = shared_len ranks rank len lines is in
    let within : len ≤ length (own_lines ranks rank lines) = is.within in
    slice_get-get_or (shared_lines ranks rank len lines) i l low
    ∙ ap Some (get_or-take len (own_lines ranks rank lines) i l (omega arith) ∙ own_at ranks rank i lines l l is.own (omega arith) at)

-- each may be sent
pub shared_letters : (ranks rank len : ℕ) (lines : List (List ℕ)) → All IsLetter lines → All IsLetter (shared_lines ranks rank len lines)
shared_letters ranks rank len lines a = All-take IsLetter len (own_lines ranks rank lines) (own_letters ranks rank lines a)

-- all lines of a rank
pub all_shared : (ranks rank len : ℕ) (lines : List (List ℕ)) → rank < ranks → len ≡ (length lines + (ranks - 1 - rank)) / ranks → length lines ≤ 16_777_216 → IsShare ranks rank len lines
all_shared ranks rank len lines low e few =
    let size : length (own_lines ranks rank lines) ≡ (length lines + (ranks - 1 - rank)) / ranks = own_count ranks rank lines low in
    record { own = low; within = omega arith; few = few }

pub all_are : (ranks rank len : ℕ) (lines : List (List ℕ)) → rank < ranks → len ≡ (length lines + (ranks - 1 - rank)) / ranks → shared_lines ranks rank len lines ≡ own_lines ranks rank lines
all_are ranks rank len lines low e =
    let size : length (own_lines ranks rank lines) ≡ (length lines + (ranks - 1 - rank)) / ranks = own_count ranks rank lines low in
    take_all len (own_lines ranks rank lines) (omega arith)
