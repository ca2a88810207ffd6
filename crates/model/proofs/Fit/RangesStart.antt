-- An accepted sheet's numbers are in range if its bytes are, and so are those of every machine that its run reaches.
use Prim.Native.Nat.{ℕ, zero, suc, ◌+◌, ◌*◌, ◌-◌, ◌<◌, ◌≤◌}
use mathlib.Core.Path.{sym, subst, ◌≡◌}
use mathlib.Core.List.{List, [], ◌∷◌, ◌++◌, map}
use native.Mathlib.Omega.{arith}
use lib.ListN.{length, replicate, get_or}
use Rattle.model.specs.Lists.{at}
use Rattle.model.specs.Command.{Block, Release, BodyCommand, Command, WORD, BLOCK, TASK, RELEASE}
use Rattle.model.specs.Command.{END, body, block_from, Row, table, operand, big_endian, no_block}
use Rattle.model.specs.Sheet.{Sheet, Declared, declares, declare, declared, accepted, verdict, sheet_of}
use Rattle.model.specs.Transaction.{bank_value}
use Rattle.model.specs.Machine.{no_task, task_at, run}
use Rattle.model.specs.Start.{filled, zeros, copies_of, banks_from, tasks_from, start_memory, start_machine, start_values}
use Rattle.model.specs.Fault.{Known}
use Rattle.model.specs.Word.{fresh_word}
use Rattle.model.proofs.Lists.{at_map}
use Rattle.model.proofs.Fit.Elements.{append_every, replicate-every, first-every}
use Rattle.model.proofs.Fit.Sheet.{release_at, block_at, SheetFit, no_release}
use Rattle.model.proofs.Fit.Ranges.{Value, WordRange, MemoryRange, CommandsRange, TaskRange, Ranges, CommandRange}
use Rattle.model.proofs.Fit.RangesTransaction.{no_entry-range}
use Rattle.model.proofs.Fit.RangesStatement.{zeros-range, after-ticks-range}
use Rattle.model.proofs.Fit.Reading.{FoundAt, Good, ending, going, good}
use Rattle.model.proofs.Fit.Accepted.{EachRow, row-each, accepted_fit}
use Rattle.model.proofs.History.Steps.{state_after, stopped}
use Rattle.model.proofs.Fit.Start.{start_fit}

-- the numbers of a sheet
pub record SheetRange (s : Sheet) : Type 0 where
  pub word : (w : ℕ) → Value (at 0 s.words w)
  pub value : (b n : ℕ) → Value (at 0 (block_at s.blocks b).values n)
  pub body : (p : ℕ) → CommandsRange (at [] s.bodies p)
  pub tick : (i : ℕ) → (release_at s.releases i).tick < 65536

-- THE START
fresh-word-range : (v : ℕ) → Value v → WordRange (fresh_word v)
fresh-word-range v h = record { value = h; count = omega arith; task = omega arith }

no_word : WordRange (fresh_word 0)
no_word = fresh-word-range 0 (omega arith)

filled-every : {A : Type 0} (d : A) (P : A → Type 0) (n : ℕ) (a : A) (l : List A) → P a → P d → ((j : ℕ) → P (at d l j)) → (j : ℕ)
    → P (at d (filled n a l) j)
unfolding filled
filled-every d P n a l p q h = append_every d P l (replicate (n - length l) a) h (replicate-every d P (n - length l) a p q)

banks_range : (store : ℕ) (bs : List Block) → store + length bs ≤ 256 → ((b : ℕ) → b < length bs → (block_at bs b).version ≤ 16777215) → (c : ℕ)
    → WordRange (at (fresh_word 0) (banks_from store bs) c)
unfolding banks_from at
banks_range store [] h v c = no_word
banks_range store (b ∷ bs) h v zero = let l = v 0 (omega arith) in fresh-word-range (bank_value b.version store) (omega arith)
banks_range store (b ∷ bs) h v (suc c) = banks_range (suc store) bs (omega arith) (λ i k. v (suc i) (omega arith)) c

abbrev pub RowRange : List ℕ → Type 0
RowRange l = (n : ℕ) → Value (at 0 l n)

pub none-range : RowRange []
unfolding at
none-range n = omega arith

module _ {s : Sheet} (c : SheetFit s) (f : SheetRange s) where
  start-memory-range : MemoryRange (start_memory s)
  unfolding start_memory
  start-memory-range =
      record {
        cell =
            append_every (fresh_word 0) WordRange (filled 32 (fresh_word 0) (map fresh_word s.words))
            (filled 16 (fresh_word 0) (banks_from (4 * length s.bodies) s.blocks))
            (filled-every (fresh_word 0) WordRange 32 (fresh_word 0) (map fresh_word s.words) no_word no_word
            (λ w. subst WordRange (sym (at_map fresh_word 0 s.words w)) (fresh-word-range _ (f.word w))))
            (filled-every (fresh_word 0) WordRange 16 (fresh_word 0) (banks_from (4 * length s.bodies) s.blocks) no_word no_word
            (banks_range (4 * length s.bodies) s.blocks (omega (arith, c.bodies, c.blocks)) c.version));
        status = λ p. replicate-every 0 (λ (n : ℕ). n ≤ 2) 8 0 (omega arith) (omega arith) p;
        save = replicate-every [] RowRange 8 (zeros 8) (zeros-range 8) none-range;
        store =
            filled-every [] RowRange 48 (zeros 8) (replicate (4 * length s.bodies) (zeros 8) ++ map start_values s.blocks) (zeros-range 8)
            none-range
            (append_every [] RowRange (replicate (4 * length s.bodies) (zeros 8)) (map start_values s.blocks)
            (replicate-every [] RowRange (4 * length s.bodies) (zeros 8) (zeros-range 8) none-range)
            (λ b. subst RowRange (sym (at_map start_values no_block s.blocks b)) (f.value b)));
      }

  copies-range : (p : ℕ) → p < 8 → (k : ℕ) → at 0 (copies_of p) k < 256
  unfolding at
  copies-range p h zero = omega arith
  copies-range p h (suc zero) = omega arith
  copies-range p h (suc (suc zero)) = omega arith
  copies-range p h (suc (suc (suc zero))) = omega arith
  copies-range p h (suc (suc (suc (suc k)))) = omega arith

  no-task : TaskRange no_task
  unfolding at
  no-task = record { body = tt; commands = tt; register = zeros-range 8; pair = no_entry-range; copy = λ k. omega arith; phase = tt }

  tasks-range : (p : ℕ) (bodies : List (List BodyCommand)) → p + length bodies ≤ 8 → ((i : ℕ) → CommandsRange (at [] bodies i)) → (q : ℕ)
      → TaskRange (task_at (tasks_from p bodies) q)
  unfolding tasks_from at
  tasks-range p [] h r q = no-task
  tasks-range p (b ∷ bodies) h r zero =
      record { body = r 0; commands = tt; register = zeros-range 8; pair = no_entry-range; copy = copies-range p (omega arith); phase = tt }
  tasks-range p (b ∷ bodies) h r (suc q) = tasks-range (suc p) bodies (omega arith) (λ i. r (suc i)) q

  pub start-range : Ranges (start_machine s)
  unfolding start_machine
  start-range = record {
    memory = start-memory-range;
    task =
        filled-every no_task TaskRange 8 no_task (tasks_from 0 s.bodies) no-task no-task
        (tasks-range 0 s.bodies (omega (arith, c.bodies)) f.body);
  }

-- THE SHEET'S BYTES
-- A COMMAND'S NUMBERS: values, and a release's tick
abbrev pub Numbers : Command → Type 0
Numbers (WORD v) = Value v
Numbers (BLOCK b) = (n : ℕ) → Value (at 0 b.values n)
Numbers (RELEASE r) = r.tick < 65536
Numbers TASK = Unit {0}
Numbers END = Unit {0}
Numbers (body c) = CommandRange c

block-values : (o : ℕ → ℕ) → ((n : ℕ) → Value (o n)) → (n : ℕ) → Value (at 0 (block_from o).values n)
block-values o h =
    first-every 0 Value (o 1) _ (h 1)
    (first-every 0 Value (o 2) _ (h 2)
    (first-every 0 Value (o 3) _ (h 3)
    (first-every 0 Value (o 4) _ (h 4)
    (first-every 0 Value (o 5) _ (h 5)
    (first-every 0 Value (o 6) _ (h 6) (first-every 0 Value (o 7) _ (h 7) (first-every 0 Value (o 8) _ (h 8) none-range)))))))

module _ (sheet : List ℕ) (bytes : (i : ℕ) → get_or sheet i 0 < 256) where
  four : (place : ℕ) → Value (big_endian sheet place 4)
  unfolding big_endian
  four place = omega (arith, bytes (place + 0), bytes (place + 1), bytes (place + 2), bytes (place + 3))

  two : (place : ℕ) → big_endian sheet place 2 < 65536
  unfolding big_endian
  two place = omega (arith, bytes (place + 0), bytes (place + 1))

  -- operands of four bytes each
  fours : (k n place : ℕ) → Value (operand sheet place (replicate k 4) n)
  unfolding operand
  fours zero n place = omega arith
  fours (suc k) zero place = four place
  fours (suc k) (suc n) place = fours k n (place + 4)

  RowNumbers : Row → Type 0
  RowNumbers r = (place : ℕ) → Numbers (r.command (λ n. operand sheet place r.widths n))

  row_numbers : EachRow RowNumbers table
  unfolding table operand RowNumbers
  row_numbers = (
    λ p. four p,
    (
      λ p. block-values (λ n. operand sheet p (replicate 9 4) n) (λ n. fours 9 n p),
      (
        λ p. tt,
        (λ p. two p, (λ p. tt, (λ p. four (p + 1), (λ p. tt, (λ p. tt, (λ p. tt, (λ p. tt, (λ p. tt, (λ p. tt, (λ p. tt, (λ p. tt, tt))))))))))),
      ),
    ),
  )

  numbers : (place : ℕ) (c : Command) (next : ℕ) → FoundAt sheet place c next → Numbers c
  unfolding RowNumbers
  numbers place c next f =
      subst Numbers (sym f.command) (row-each RowNumbers (get_or sheet place 0) table row_numbers f.row f.byte (suc place))

-- WHAT THE COMMANDS DECLARE
record DeclaredRange (d : Declared) : Type 0 where
  sheet : SheetRange d.sheet
  body : CommandsRange d.body

no_range : DeclaredRange (declares [] [] [] [] [])
unfolding at
no_range = record { sheet = record { word = λ w. omega arith; value = λ b n. omega arith; body = λ p. tt; tick = λ i. omega arith }; body = tt }

step_range : (c : Command) (d : Declared) → Numbers c → DeclaredRange d → DeclaredRange (declare c d)
unfolding declare
step_range (WORD v) d h f =
    let s = f.sheet in
    record { sheet = record { word = first-every 0 Value v d.sheet.words h s.word; value = s.value; body = s.body; tick = s.tick }; body = tt }
step_range (BLOCK b) d h f =
    let s = f.sheet in record {
      sheet = record {
        word = s.word;
        value = first-every no_block (λ (z : Block). (n : ℕ) → Value (at 0 z.values n)) b d.sheet.blocks h s.value;
        body = s.body;
        tick = s.tick;
      };
      body = tt;
    }
step_range TASK d h f =
    let s = f.sheet in record {
      sheet =
          record {
            word = s.word;
            value = s.value;
            body = first-every [] CommandsRange d.body d.sheet.bodies f.body s.body;
            tick = s.tick;
          };
      body = tt;
    }
step_range (RELEASE r) d h f =
    let s = f.sheet in record {
      sheet = record {
        word = s.word;
        value = s.value;
        body = s.body;
        tick = first-every no_release (λ (z : Release). z.tick < 65536) r d.sheet.releases h s.tick;
      };
      body = tt;
    }
step_range END d h f = no_range
step_range (body c) d h f = record { sheet = f.sheet; body = record { command = h; others = f.body } }

walk_range : {k : Known} {l : List Command} → Good Numbers k l → DeclaredRange (declared l)
unfolding declared
walk_range (ending q) = step_range END (declares [] [] [] [] []) tt no_range
walk_range (going {k} {c} {l} q e h g) = step_range c (declared l) h (walk_range g)

-- EVERY MACHINE OF THE RUN
module _ (bytes : List ℕ) (small : (i : ℕ) → get_or bytes i 0 < 256) (e : verdict bytes ≡ accepted) where
  pub sheet-range : SheetRange (sheet_of bytes)
  unfolding sheet_of
  sheet-range = (walk_range (good bytes Numbers (numbers bytes small) e)).sheet

  pub every-range : (n : ℕ) → Ranges (state_after (start_machine (sheet_of bytes)) n)
  every-range n = let c = accepted_fit bytes e in after-ticks-range c n (start_fit c) (start-range c sheet-range)

  pub final_range : (limit : ℕ) → Ranges (run limit (start_machine (sheet_of bytes)))
  final_range limit = let r = stopped limit (start_machine (sheet_of bytes)) in subst Ranges (sym r.state) (every-range r.ticks)
