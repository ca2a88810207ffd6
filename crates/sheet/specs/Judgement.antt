-- What the judgement of a command says: the last stage of the reading.
use Rattle.std.specs.Prelude.{ℕ, ◌≡◌, false, List, Option, Some, None}
use Rattle.std.proofs.Math.Option.{none}
use Rattle.model.specs.Command.{Command}
use Rattle.model.specs.Fault.{Known, fault_of}
use Rattle.model.specs.Sheet.{Verdict, end?, judge_fault}
use Rattle.sheet.specs.View.{Outcome, view_verdict}

-- what is said of a command at a place: the reading stops with a verdict whatever follows, or the command is good and not END
abbrev pub JudgedSays : List ℕ → ℕ → Known → Command → ℕ → Option Outcome → Type 0
JudgedSays s at k c next (Some v) = (go : ℕ → Known → Verdict) → judge_fault go s at k c next (fault_of k c) ≡ view_verdict v
JudgedSays s at k c next None = (fault_of k c ≡ none) × (end? c ≡ false)
