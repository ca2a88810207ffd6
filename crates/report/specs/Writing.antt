-- What writing a text at a place of a buffer leaves, also where the buffer ends before the text.
use Rattle.std.specs.Prelude.{ℕ, ◌+◌, ◌≤◌, ◌≡◌, List, length}
use Rattle.std.proofs.lemmas.List.Edits.{sets}
use Rattle.report.specs.declared.text.Writer.{Writer}

-- The bytes that fit stand from their place on, all others are unchanged; `next` is the place after the text, at most `most` further on.
pub record Written (most : ℕ) (text before after : List ℕ) (from next : ℕ) : Type 0 where
  pub bytes : after ≡ sets before from text
  pub place : next ≡ from + length text
  pub room : next ≤ from + most

-- a place that no report reaches
abbrev pub farthest : ℕ
farthest = 65536

-- a text of n bytes would not lead past it
abbrev pub Room : Writer → ℕ → Type 0
Room w n = w.place + n ≤ farthest

-- A writer wrote the text at its place, in the same buffer.
pub record Wrote (most : ℕ) (text : List ℕ) (before after : Writer) : Type 0 where
  pub same_reference : after.buffer.ghost_name ≡ before.buffer.ghost_name
  pub written : Written most text before.buffer.now after.buffer.now before.place after.place
