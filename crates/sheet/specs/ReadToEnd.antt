-- A sheet read to its end, said of its commands: they fill the sheet, none has a fault, and END is the last. And what is wrong
-- with a sheet that is not: for each refusal the rule that is broken at its place.
use Rattle.std.specs.Prelude.{ℕ, suc, ◌+◌, ◌<◌, ◌≤◌, ◌≡◌, false, List, [], ◌∷◌, length, get_or}
use Rattle.std.proofs.Math.Option.{none, some}
use Rattle.model.specs.Refusal.{Refusal, no_command, cut_short, byte_after_end}
use Rattle.model.specs.Command.{Command, END, Row, table, row_of, total, found, command_at}
use Rattle.model.specs.Fault.{Known, nothing_known, fault_of}
use Rattle.model.specs.Sheet.{end?, after}
use Rattle.rules.specs.Broken.{Broken}

-- these commands stand one after another from a place to another
pub data Stand (s : List ℕ) : ℕ → List Command → ℕ → Type 0 where
  nothing : {p : ℕ} → Stand s p [] p
  first : {p next q : ℕ} {c : Command} {l : List Command} → command_at s p ≡ found c next → Stand s next l q
      → Stand s p (c ∷ l) q

-- none of these commands has a fault or is END, by what is known before the first; the second is what is known after the last
pub data Faultless : Known → List Command → Known → Type 0 where
  unread : {k : Known} → Faultless k [] k
  good : {k m : Known} {c : Command} {l : List Command} → fault_of k c ≡ none → end? c ≡ false → Faultless (after k c) l m
      → Faultless k (c ∷ l) m

-- The reading has come to a place without a fault, and that is known there.
pub record Read (s : List ℕ) (place : ℕ) (known : Known) : Type 0 where
  pub commands : List Command
  pub stand : Stand s 0 commands place
  pub faultless : Faultless nothing_known commands known

-- READ TO THE END: after commands without a fault a good END, and nothing behind it
pub record ReadToEnd (s : List ℕ) : Type 0 where
  pub place : ℕ
  pub known : Known
  pub read : Read s place known
  pub last : command_at s place ≡ found END (length s)
  pub ends : fault_of known END ≡ none

-- NO COMMAND at a place, or not all of it: the refusal and its place
pub data Missing (s : List ℕ) (p : ℕ) : Refusal → ℕ → Type 0 where
  -- 1: the byte names no command
  no_row : p < length s → row_of (get_or s p 0) table ≡ none → Missing s p no_command p
  -- 2: the input ends before END, or inside the command
  no_byte : length s ≤ p → Missing s p cut_short (length s)
  cut : {r : Row} → p < length s → row_of (get_or s p 0) table ≡ some r → length s < suc p + total r.widths
      → Missing s p cut_short p

-- WHAT IS WRONG at the place where the reading ends: the refusal and its place
pub data Wrong (s : List ℕ) (p : ℕ) (k : Known) : Refusal → ℕ → Type 0 where
  missing : {f : Refusal} {q : ℕ} → Missing s p f q → Wrong s p k f q
  faulty : {f : Refusal} {c : Command} {next : ℕ} → command_at s p ≡ found c next → Broken k c f → Wrong s p k f p
  -- 3: a byte after a good END
  followed : {next : ℕ} → command_at s p ≡ found END next → fault_of k END ≡ none → next < length s
      → Wrong s p k byte_after_end next

pub record TurnedDown (s : List ℕ) (f : Refusal) (q : ℕ) : Type 0 where
  pub place : ℕ
  pub known : Known
  pub read : Read s place known
  pub wrong : Wrong s place known f q
