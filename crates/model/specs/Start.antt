-- The start of a run: the shared memory and the machine that a sheet declares.
use Rattle.std.specs.Prelude.{ℕ, suc, ◌+◌, ◌*◌, ◌-◌, List, [], ◌∷◌, ◌++◌, map, length, replicate}
use Rattle.model.specs.Ceilings.{max_words, max_blocks, max_tasks, save_places, block_values}
use Rattle.model.specs.Command.{Block, BodyCommand}
use Rattle.model.specs.Sheet.{Sheet}
use Rattle.model.specs.Word.{Word, fresh_word, Memory, memory}
use Rattle.model.specs.Job.{no_job, no_counts, Task, task}
use Rattle.model.specs.Transaction.{bank_value}
use Rattle.model.specs.Machine.{Machine, machine, no_task}

unfoldable pub filled : {A : Type 0} → ℕ → A → List A → List A
filled n d l = l ++ replicate (n - length l) d

abbrev pub zeros : ℕ → List ℕ
zeros n = replicate n 0

-- with N tasks, task p starts with block stores 4p to 4p + 3 as copies, and block b starts in store 4N + b
abbrev pub copies_of : ℕ → List ℕ
copies_of p = (4 * p) ∷ (4 * p + 1) ∷ (4 * p + 2) ∷ (4 * p + 3) ∷ []

unfoldable pub banks_from : ℕ → List Block → List Word
banks_from store [] = []
banks_from store (b ∷ l) = fresh_word (bank_value b.version store) ∷ banks_from (suc store) l

abbrev pub start_values : Block → List ℕ
start_values b = b.values

unfoldable pub tasks_from : ℕ → List (List BodyCommand) → List Task
tasks_from p [] = []
tasks_from p (b ∷ l) = task b (copies_of p) no_counts no_job ∷ tasks_from (suc p) l

-- cells, stores and tasks as many as the ceilings allow; those that the sheet does not declare stay as they are here
unfoldable pub start_memory : Sheet → Memory
unfolding filled banks_from
start_memory s =
    memory
    (filled max_words (fresh_word 0) (map fresh_word s.words)
    ++ filled max_blocks (fresh_word 0) (banks_from (4 * length s.bodies) s.blocks))
    (zeros max_tasks)
    (replicate max_tasks (zeros save_places))
    (filled (4 * max_tasks + max_blocks) (zeros block_values)
    (replicate (4 * length s.bodies) (zeros block_values) ++ map start_values s.blocks))

unfoldable pub start_machine : Sheet → Machine
unfolding filled tasks_from start_memory
start_machine s = machine (start_memory s) (filled max_tasks no_task (tasks_from 0 s.bodies)) (replicate max_tasks []) s.releases 0
