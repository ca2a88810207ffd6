-- Demand 3: every run is a sequence of whole operations.
use Rattle.std.specs.Prelude.{ℕ, zero, suc, ◌<◌, Bool, true, false, not, ◌&&◌, ◌||◌, ◌≡◌, ◌≢◌, List, [], ◌∷◌, length}
use Rattle.std.proofs.Math.Option.{Option, none, some}
use Rattle.model.specs.Lists.{In}
use Rattle.model.specs.Sheet.{Sheet, sheet_of}
use Rattle.model.specs.Word.{Memory, current_of}
use Rattle.model.specs.Transaction.{block_in}
use Rattle.model.specs.Start.{start_machine}
use Rattle.model.specs.Answer.{final_of}
use Rattle.model.specs.Arguments.{Pair, swap_of}
use Rattle.model.specs.Plain.{Contents, result, plainly}
use Rattle.model.specs.History.{Operation, History, operation_at, history_of}

-- A RUN'S CONTENTS are those of the W and B lines
unfoldable pub each : {A : Type 0} → ℕ → ℕ → (ℕ → A) → List A
each zero i f = []
each (suc n) i f = f i ∷ each n (suc i) f

abbrev pub contents_of : Sheet → Memory → Contents
contents_of s m = record { words = each (length s.words) 0 (current_of m); blocks = each (length s.blocks) 0 (block_in m) }

-- the plain machine's contents at first are the sheet's
abbrev pub declared_contents : Sheet → Contents
declared_contents s = record { words = s.words; blocks = s.blocks }

-- THE OPERATIONS THAT COUNT: those that ended and were not spent, and committed ones that the limit cut short
abbrev pub ended? : Option ℕ → Bool
ended? none = false
ended? (some t) = true

abbrev pub counted_by : Option Operation → Bool
counted_by none = false
counted_by (some o) = (ended? o.last || o.committed) && not o.spent

abbrev pub Counted : History → ℕ → Type 0
Counted h a = counted_by (operation_at h a) ≡ true

-- THE FREE ANSWER: a SWAP may also say no where a higher task's exchange with a changing pair on a word that it names began inside it,
-- after its first tick and before its last. Operations are named by their first ticks.
pub record Interfered (h : History) (a : ℕ) (o : Operation) : Type 0 where
  pub pairs : List Pair
  pub is : o.arguments ≡ swap_of pairs
  pub named : Pair
  pub names : In named pairs
  pub last : ℕ
  pub lasts : o.last ≡ some last
  pub by : ℕ
  pub other : Operation
  pub began : operation_at h by ≡ some other
  pub higher : o.task < other.task
  pub after : a < by
  pub before : by < last
  pub other_pairs : List Pair
  pub other_is : other.arguments ≡ swap_of other_pairs
  pub changing : Pair
  pub changes : In changing other_pairs
  pub on : changing.word ≡ named.word
  pub differs : changing.old ≢ changing.new

-- THE REPLAY: operation a takes the contents c to c' on the plain machine and gives the answers of the run
pub data Replays (h : History) (a : ℕ) (c c' : Contents) : Type 0 where
  exactly : (o : Operation) → operation_at h a ≡ some o → plainly o.arguments c ≡ result c' o.answers → Replays h a c c'
  freely : (o : Operation) → operation_at h a ≡ some o → o.answers ≡ 0 ∷ [] → Interfered h a o → c ≡ c'
      → Replays h a c c'

-- one after the other, each finds what the last one left
pub data Sequence (h : History) : List ℕ → Contents → Contents → Type 0 where
  no_more : {c : Contents} → Sequence h [] c c
  then : {a : ℕ} {l : List ℕ} {c c' c'' : Contents} → Replays h a c c' → Sequence h l c' c'' → Sequence h (a ∷ l) c c''

-- THE ORDER
abbrev pub Once : List ℕ → Type 0
Once [] = Unit {0}
Once (a ∷ l) = (In a l → ⊥) × Once l

-- operation b ended before operation a began
pub record EndedBefore (h : History) (b a : ℕ) : Type 0 where
  pub operation : Operation
  pub is : operation_at h b ≡ some operation
  pub last : ℕ
  pub lasts : operation.last ≡ some last
  pub before : last < a

-- whatever ended before another began stands before it
abbrev pub RespectsTime : History → List ℕ → Type 0
RespectsTime h [] = Unit {0}
RespectsTime h (a ∷ l) = ((b : ℕ) → In b l → EndedBefore h b a → ⊥) × RespectsTime h l

-- THE CLAIM about a run of a sheet with a limit
abbrev pub history_in : List ℕ → ℕ → History
history_in sheet limit = history_of limit (start_machine (sheet_of sheet))

pub record WholeOperations (sheet : List ℕ) (limit : ℕ) : Type 0 where
  pub order : List ℕ
  pub once : Once order
  pub all : (a : ℕ) → Counted (history_in sheet limit) a → In a order
  pub only : (a : ℕ) → In a order → Counted (history_in sheet limit) a
  pub timely : RespectsTime (history_in sheet limit) order
  pub replay : Sequence (history_in sheet limit) order
      (declared_contents (sheet_of sheet)) (contents_of (sheet_of sheet) (final_of sheet limit).memory)
