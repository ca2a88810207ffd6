-- The claim of demand 3 about any history between two contents, and how it gives the claim about a run.
use Prim.Native.Nat.{ℕ}
use mathlib.Core.Path.{◌≡◌}
use mathlib.Core.List.{List}
use Rattle.model.specs.Sheet.{sheet_of}
use Rattle.model.specs.Machine.{run}
use Rattle.model.specs.Start.{start_machine}
use Rattle.model.specs.Plain.{Contents}
use Rattle.model.specs.History.{History, history_of}
use Rattle.model.specs.Claim.{contents_of, declared_contents, Counted, Sequence, Once, RespectsTime, WholeOperations}
use Rattle.model.specs.Lists.{In}

-- a history from the contents c to the contents c' with the order of its operations
pub record Ordered (h : History) (c c' : Contents) : Type 0 where
  pub order : List ℕ
  pub once : Once order
  pub all : (a : ℕ) → Counted h a → In a order
  pub only : (a : ℕ) → In a order → Counted h a
  pub timely : RespectsTime h order
  pub replay : Sequence h order c c'

pub whole_operations : (sheet : List ℕ) (limit : ℕ) {h : History} {c c' : Contents} → history_of limit (start_machine (sheet_of sheet)) ≡ h
    → declared_contents (sheet_of sheet) ≡ c → contents_of (sheet_of sheet) (run limit (start_machine (sheet_of sheet))).memory ≡ c' → Ordered h c c'
    → WholeOperations sheet limit
whole_operations sheet limit eh e e' w = record {
  order = w.order;
  once = w.once;
  all = rw eh w.all;
  only = rw eh w.only;
  timely = rw eh w.timely;
  replay = rw (eh, e, e') w.replay;
}
