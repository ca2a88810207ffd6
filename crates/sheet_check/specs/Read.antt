-- What the reading of a sheet has come to while it goes on: what is known at a place.
use Rattle.std.specs.Prelude.{ℕ, suc, ◌+◌, ◌≤◌, ◌≡◌, List, length}
use Rattle.model.specs.Fault.{Known}
use Rattle.model.specs.Sheet.{verdict_from, verdict}

-- the reading has come to a place, with what is known there: the verdict from there on, at enough commands, is that of the sheet
pub record Reached (s : List ℕ) (at : ℕ) (k : Known) : Type 0 where
  pub left : ℕ
  pub enough : length s ≤ left + at
  pub same : verdict_from (suc left) s at k ≡ verdict s
