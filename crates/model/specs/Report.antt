-- The report: W, B, T, R and E lines, decimal, single spaces, each closed by 0A.
use Rattle.std.specs.Prelude.{ℕ, zero, suc, ◌+◌, ◌/◌, ◌%◌, Bool, true, false, List, [], ◌∷◌, ◌++◌, ltb, length}
use Rattle.model.specs.Lists.{at}
use Rattle.model.specs.Sheet.{Sheet}
use Rattle.model.specs.Word.{Memory, current_of, current}
use Rattle.model.specs.Job.{Task, count_list}
use Rattle.model.specs.Transaction.{block_in}
use Rattle.model.specs.Machine.{Machine, task_at}

unfoldable pub digits_by : Bool → (ℕ → List ℕ → List ℕ) → ℕ → List ℕ → List ℕ
digits_by true go v follow = (0x30 + v) ∷ follow
digits_by false go v follow = go (v / 10) ((0x30 + v % 10) ∷ follow)

-- the decimal digits of v, at most n of them, in front of what follows
unfoldable pub digits : ℕ → ℕ → List ℕ → List ℕ
unfolding digits_by
digits zero v follow = follow
digits (suc n) v follow =
    let go : ℕ → List ℕ → List ℕ = digits n in
    digits_by (ltb v 10) go v follow

-- of every number: v has no more than v + 1 digits
abbrev pub decimal : ℕ → List ℕ
decimal v = digits (suc v) v []

unfoldable pub fields : List ℕ → List ℕ
unfolding digits
fields [] = 0x0A ∷ []
fields (v ∷ l) = 0x20 ∷ (decimal v ++ fields l)

abbrev pub line : ℕ → List ℕ → List ℕ
line letter l = letter ∷ fields l

-- the lines for n numbers from i on
unfoldable pub lines : ℕ → ℕ → (ℕ → List ℕ) → List ℕ
lines zero i f = []
lines (suc n) i f = f i ++ lines n (suc i) f

abbrev pub word_line : Memory → ℕ → List ℕ
word_line m w = line 0x57 (w ∷ current_of m w ∷ [])

abbrev pub block_line : Memory → ℕ → List ℕ
block_line m b = line 0x42 (b ∷ (block_in m b).version ∷ (block_in m b).values)

abbrev pub task_line : ℕ → Task → List ℕ
task_line p t = line 0x54 (p ∷ count_list t.counts)

abbrev pub register_line : ℕ → Task → List ℕ
register_line p t = line 0x52 (p ∷ t.job.registers)

abbrev pub task_lines : List Task → ℕ → List ℕ
task_lines ts p = task_line p (task_at ts p) ++ register_line p (task_at ts p)

abbrev pub end_line : Machine → List ℕ
end_line m = line 0x45 (m.now ∷ [])

-- of what the sheet declares
unfoldable pub report : Sheet → Machine → List ℕ
unfolding at current fields lines
report s m =
    lines (length s.words) 0 (word_line m.memory)
    ++ lines (length s.blocks) 0 (block_line m.memory)
    ++ lines (length s.bodies) 0 (task_lines m.tasks)
    ++ end_line m
