-- Worked figures of document 01 and of the changes: one table of sheets, limits and figures, and one fact over the whole table, by computation.
use Prim.Native.Nat.{ℕ, zero, suc, ◌+◌}
use mathlib.Core.Bool.{Bool, true, false, ◌&&◌}
use mathlib.Core.Path.{◌≡◌, refl}
use mathlib.Core.List.{List, [], ◌∷◌, ◌++◌}
use lib.Dec.{eqb}
use lib.ListN.{length, replicate}
use Rattle.model.specs.Lists.{at}
use Rattle.model.specs.Command.{Release}
use Rattle.model.specs.Word.{current, current_of, stored}
use Rattle.model.specs.Transaction.{bank, version_of, store_of}
use Rattle.model.specs.Machine.{Machine, run, task_at, waiting_at}
use Rattle.model.specs.Start.{start_machine}
use Rattle.model.specs.Sheet.{sheet_of}
use Rattle.model.specs.Answer.{Checked, check_answer, Answer, run_answer, final_of}
use Rattle.model.proofs.WholeCases.{same_numbers}
use Rattle.model.proofs.Sheets.{body₁, body_two_words, body_read, sheet_a, sheet_a_at, against, sheet_u, sheet_u_at, sheet_uu, sheet_two_drop}
use Rattle.model.proofs.Sheets.{body_take, body_take_write, sheet_seven, sheet_spent_after_stale, sheet_untouched}
use Rattle.model.proofs.Bytes.{join, word, block, task, release, end, load, add, pair, begin, get}

-- FIGURES of the machine when the run has stopped
pub data Figure : Type 0 where
  -- word, current value
  word_is : ℕ → ℕ → Figure
  -- block, version
  version_is : ℕ → ℕ → Figure
  -- block, offset, value
  value_is : ℕ → ℕ → ℕ → Figure
  -- task, register, value
  register_is : ℕ → ℕ → ℕ → Figure
  -- task, number of them
  finished_are : ℕ → ℕ → Figure
  spent_are : ℕ → ℕ → Figure
  lost_are : ℕ → ℕ → Figure
  ticks_used : ℕ → ℕ → Figure
  dropped_are : ℕ → ℕ → Figure
  waiting_are : ℕ → ℕ → Figure
  -- task, the tick of the oldest release that waits behind its job
  oldest_is : ℕ → ℕ → Figure
  ticks_done : ℕ → Figure

-- WHAT BOTH ENTRIES ANSWER
pub data Outcome : Type 0 where
  -- the sheet check and the run refuse the sheet: number and place
  sheet_refused : ℕ → ℕ → Outcome
  -- the sheet is accepted, the run refused: number and place
  run_refused : ℕ → ℕ → Outcome
  -- the report byte for byte, the rest of the buffer unchanged
  prints : List ℕ → Outcome
  -- the run is answered with number 0 and its machine has these figures
  ends : List Figure → Outcome

pub record Case : Type 0 where
  pub sheet : List ℕ
  pub limit : ℕ
  pub buffer : List ℕ
  pub outcome : Outcome

fill : ℕ
fill = 0x2E

oldest : List Release → ℕ → Bool
oldest [] t = false
oldest (r ∷ l) t = eqb r.tick t

holds : Machine → Figure → Bool
unfolding at current oldest
holds m (word_is w v) = eqb (current_of m.memory w) v
holds m (version_is b v) = eqb (version_of (current_of m.memory (bank b))) v
holds m (value_is b o v) = eqb (stored m.memory.stores (store_of (current_of m.memory (bank b))) o) v
holds m (register_is p r v) = eqb (at 0 (task_at m.tasks p).job.registers r) v
holds m (finished_are p n) = eqb (task_at m.tasks p).counts.finished n
holds m (spent_are p n) = eqb (task_at m.tasks p).counts.spent n
holds m (lost_are p n) = eqb (task_at m.tasks p).counts.lost n
holds m (ticks_used p n) = eqb (task_at m.tasks p).counts.ticks n
holds m (dropped_are p n) = eqb (task_at m.tasks p).counts.dropped n
holds m (waiting_are p n) = eqb (length (waiting_at m.waiting p)) n
holds m (oldest_is p t) = oldest (waiting_at m.waiting p) t
holds m (ticks_done n) = eqb m.now n

all : Machine → List Figure → Bool
unfolding holds
all m [] = true
all m (f ∷ l) = holds m f && all m l

check_is : Checked → ℕ → ℕ → Bool
check_is c n place = eqb c.number n && eqb c.place place

run_is : Answer → ℕ → ℕ → Bool
run_is a n place = eqb a.number n && eqb a.place place

-- by what the sheet check and the run answer, and by the run's machine
agrees : Checked → Answer → Machine → Outcome → Bool
unfolding check_is run_is all same_numbers fill
agrees c a m (sheet_refused n place) = check_is c n place && run_is a n place
agrees c a m (run_refused n place) = check_is c 0 0 && run_is a n place
agrees c a m (prints text) = check_is c 0 0 && run_is a 0 (length text) && same_numbers a.buffer (text ++ fill ∷ fill ∷ [])
agrees c a m (ends fs) = check_is c 0 0 && eqb a.number 0 && all m fs

passes : Case → Bool
unfolding agrees check_answer run_answer run start_machine sheet_of
passes c =
    let a : Answer = run_answer c.sheet c.limit c.buffer in
    let m : Machine = final_of c.sheet c.limit in
    agrees (check_answer c.sheet) a m c.outcome

pub all_pass : List Case → Bool
unfolding passes
all_pass [] = true
all_pass (c ∷ l) = passes c && all_pass l

-- A CASE with limit 65,535 that is refused, one that has figures and room for its report, and one with a report
refused : List ℕ → ℕ → ℕ → Case
refused s n place = record { sheet = s; limit = 65535; buffer = []; outcome = sheet_refused n place }

figures_by : ℕ → List ℕ → List Figure → Case
unfolding fill
figures_by limit s fs = record { sheet = s; limit = limit; buffer = replicate 400 fill; outcome = ends fs }

figures : List ℕ → List Figure → Case
unfolding figures_by
figures s fs = figures_by 65535 s fs

report : List ℕ → ℕ → List ℕ → Case
unfolding fill
report s limit text = record { sheet = s; limit = limit; buffer = replicate (length text + 2) fill; outcome = prints text }

-- sheet A as document 01 writes it
bytes_a : List ℕ
bytes_a =
    0x01 ∷ 0x00 ∷ 0x00 ∷ 0x00 ∷ 0x0C
    ∷ 0x03
    ∷ 0x10 ∷ 0x01 ∷ 0x00 ∷ 0x00 ∷ 0x00 ∷ 0x0C
    ∷ 0x10 ∷ 0x02 ∷ 0x00 ∷ 0x00 ∷ 0x00 ∷ 0x05
    ∷ 0x13 ∷ 0x00 ∷ 0x01 ∷ 0x02
    ∷ 0x14 ∷ 0x00
    ∷ 0x04 ∷ 0x00 ∷ 0x00 ∷ 0x00
    ∷ 0x05
    ∷ []

-- "W 0 5", "T 0 1 0 0 12 0", "R 0 1 12 5 0 0 0 0 0", "E 12"
report_a : List ℕ
report_a =
    0x57 ∷ 0x20 ∷ 0x30 ∷ 0x20 ∷ 0x35 ∷ 0x0A
    ∷ 0x54 ∷ 0x20 ∷ 0x30 ∷ 0x20 ∷ 0x31 ∷ 0x20 ∷ 0x30 ∷ 0x20 ∷ 0x30 ∷ 0x20 ∷ 0x31 ∷ 0x32 ∷ 0x20 ∷ 0x30 ∷ 0x0A
    ∷ 0x52 ∷ 0x20 ∷ 0x30 ∷ 0x20 ∷ 0x31 ∷ 0x20 ∷ 0x31 ∷ 0x32 ∷ 0x20 ∷ 0x35
    ∷ 0x20 ∷ 0x30 ∷ 0x20 ∷ 0x30 ∷ 0x20 ∷ 0x30 ∷ 0x20 ∷ 0x30 ∷ 0x20 ∷ 0x30 ∷ 0x0A
    ∷ 0x45 ∷ 0x20 ∷ 0x31 ∷ 0x32 ∷ 0x0A
    ∷ []

-- P8's report: "W 0 12", "T 0 0 0 0 0 0", "R 0 0 0 0 0 0 0 0 0", "E 0"
untouched_a : List ℕ
untouched_a =
    0x57 ∷ 0x20 ∷ 0x30 ∷ 0x20 ∷ 0x31 ∷ 0x32 ∷ 0x0A
    ∷ 0x54 ∷ 0x20 ∷ 0x30 ∷ 0x20 ∷ 0x30 ∷ 0x20 ∷ 0x30 ∷ 0x20 ∷ 0x30 ∷ 0x20 ∷ 0x30 ∷ 0x20 ∷ 0x30 ∷ 0x0A
    ∷ 0x52 ∷ 0x20 ∷ 0x30 ∷ 0x20 ∷ 0x30 ∷ 0x20 ∷ 0x30 ∷ 0x20 ∷ 0x30
    ∷ 0x20 ∷ 0x30 ∷ 0x20 ∷ 0x30 ∷ 0x20 ∷ 0x30 ∷ 0x20 ∷ 0x30 ∷ 0x20 ∷ 0x30 ∷ 0x0A
    ∷ 0x45 ∷ 0x20 ∷ 0x30 ∷ 0x0A
    ∷ []

-- P10's report: "B 0 16777215 41 0 0 0 0 0 0 77", "T 0 0 1 0 20 0", "R 0 42 1 0 0 0 0 0 0", "E 20"
spent_u : List ℕ
spent_u =
    0x42 ∷ 0x20 ∷ 0x30 ∷ 0x20 ∷ 0x31 ∷ 0x36 ∷ 0x37 ∷ 0x37 ∷ 0x37 ∷ 0x32 ∷ 0x31 ∷ 0x35 ∷ 0x20 ∷ 0x34 ∷ 0x31
    ∷ 0x20 ∷ 0x30 ∷ 0x20 ∷ 0x30 ∷ 0x20 ∷ 0x30 ∷ 0x20 ∷ 0x30 ∷ 0x20 ∷ 0x30 ∷ 0x20 ∷ 0x30 ∷ 0x20 ∷ 0x37 ∷ 0x37 ∷ 0x0A
    ∷ 0x54 ∷ 0x20 ∷ 0x30 ∷ 0x20 ∷ 0x30 ∷ 0x20 ∷ 0x31 ∷ 0x20 ∷ 0x30 ∷ 0x20 ∷ 0x32 ∷ 0x30 ∷ 0x20 ∷ 0x30 ∷ 0x0A
    ∷ 0x52 ∷ 0x20 ∷ 0x30 ∷ 0x20 ∷ 0x34 ∷ 0x32 ∷ 0x20 ∷ 0x31
    ∷ 0x20 ∷ 0x30 ∷ 0x20 ∷ 0x30 ∷ 0x20 ∷ 0x30 ∷ 0x20 ∷ 0x30 ∷ 0x20 ∷ 0x30 ∷ 0x20 ∷ 0x30 ∷ 0x0A
    ∷ 0x45 ∷ 0x20 ∷ 0x32 ∷ 0x30 ∷ 0x0A
    ∷ []

-- sheet A released at ticks 0 to 5: "W 0 5", "T 0 5 0 0 56 1", "R 0 0 12 5 0 0 0 0 0", "E 56". The first job takes 12 ticks; the next four find 5
-- in word 0 and take 11 each, 3 and a SWAP of 8; the sixth release finds four waiting.
report_burst : List ℕ
report_burst =
    0x57 ∷ 0x20 ∷ 0x30 ∷ 0x20 ∷ 0x35 ∷ 0x0A
    ∷ 0x54 ∷ 0x20 ∷ 0x30 ∷ 0x20 ∷ 0x35 ∷ 0x20 ∷ 0x30 ∷ 0x20 ∷ 0x30 ∷ 0x20 ∷ 0x35 ∷ 0x36 ∷ 0x20 ∷ 0x31 ∷ 0x0A
    ∷ 0x52 ∷ 0x20 ∷ 0x30 ∷ 0x20 ∷ 0x30 ∷ 0x20 ∷ 0x31 ∷ 0x32 ∷ 0x20 ∷ 0x35
    ∷ 0x20 ∷ 0x30 ∷ 0x20 ∷ 0x30 ∷ 0x20 ∷ 0x30 ∷ 0x20 ∷ 0x30 ∷ 0x20 ∷ 0x30 ∷ 0x0A
    ∷ 0x45 ∷ 0x20 ∷ 0x35 ∷ 0x36 ∷ 0x0A
    ∷ []

-- THE TABLE
-- row 5 of the refusal table: 33 WORDs
words33 : List ℕ
words33 = join (replicate 33 (word 0))

-- nine blocks, and a GET of each below n
nine_blocks : List ℕ
nine_blocks = join (replicate 9 (block 0 (replicate 8 0)))

gets_to : ℕ → List (List ℕ)
gets_to zero = []
gets_to (suc n) = get 0 n 0 ∷ gets_to n

pub table : List Case
unfolding nine_blocks gets_to refused figures_by figures report bytes_a report_a untouched_a spent_u report_burst words33
table =
    -- P1, byte for byte, and the sheet as document 01 writes it
    report sheet_a 65535 report_a
    ∷ report bytes_a 65535 report_a
    -- the refusal table; P2 is rows 3, 6, 7 and 8
    ∷ refused (0xFF ∷ []) 1 0
    ∷ refused (0x01 ∷ 0x00 ∷ 0x00 ∷ []) 2 0
    ∷ refused [] 2 0
    ∷ refused (task ++ load 0 5 ++ end ++ (0x00 ∷ [])) 3 8
    ∷ refused end 4 0
    ∷ refused words33 5 160
    ∷ refused (task ++ add 8 0) 6 1
    ∷ refused (word 0 ++ task ++ pair 0 0 1 ++ pair 0 0 1) 7 10
    ∷ refused (task ++ add 0 0 ++ release 2 0 ++ release 1 0) 8 8
    ∷ (record { sheet = sheet_a; limit = 65536; buffer = []; outcome = run_refused 9 0 })
    ∷ (record { sheet = sheet_a; limit = 65535; buffer = []; outcome = run_refused 10 (length report_a) })
    -- two faults at one command, the lowest number wins: 2 before 4, 4 before 6, 5 before 6, 6 before 7
    ∷ refused (0x14 ∷ []) 2 0
    ∷ refused (release 0 0) 4 0
    ∷ refused (nine_blocks ++ task ++ begin ++ join (gets_to 8) ++ get 8 8 0) 5 367
    ∷ refused (word 0 ++ task ++ pair 0 0 1 ++ pair 0 0 8) 6 10
    -- P3 and P4
    ∷ figures (against (word 12) body₁ 9) (register_is 0 0 0 ∷ register_is 1 0 1 ∷ word_is 0 7 ∷ ticks_done 26 ∷ [])
    ∷ figures (against (word 12) body₁ 11) (register_is 0 0 1 ∷ register_is 1 0 0 ∷ word_is 0 5 ∷ ticks_done 23 ∷ [])
    -- P5 and P6
    ∷ figures (against (word 12 ++ word 22) body_two_words 9) (register_is 0 0 0 ∷ register_is 1 0 0 ∷ word_is 0 12 ∷ word_is 1 22 ∷ ticks_done 32 ∷ [])
    ∷ figures (against (word 12 ++ word 22) body_two_words 8) (register_is 0 0 1 ∷ register_is 1 0 0 ∷ word_is 0 5 ∷ ticks_done 30 ∷ [])
    -- P7, both ticks
    ∷ figures (against (word 12) body_read 9) (register_is 1 0 12 ∷ ticks_used 1 3 ∷ [])
    ∷ figures (against (word 12) body_read 11) (register_is 1 0 5 ∷ ticks_used 1 2 ∷ [])
    -- P8
    ∷ report sheet_a 0 untouched_a
    -- P9 and P10
    ∷ figures (sheet_u 3) (ticks_done 29 ∷ value_is 0 0 42 ∷ value_is 0 7 77 ∷ version_is 0 4 ∷ finished_are 0 1 ∷ spent_are 0 0 ∷ [])
    ∷ figures (sheet_u 16777215) (ticks_done 20 ∷ value_is 0 0 41 ∷ version_is 0 16777215 ∷ finished_are 0 0 ∷ spent_are 0 1 ∷ [])
    ∷ report (sheet_u 16777215) 65535 spent_u
    -- two tasks U
    ∷ figures sheet_uu (ticks_done 75 ∷ value_is 0 0 43 ∷ version_is 0 5 ∷ lost_are 0 1 ∷ lost_are 1 0 ∷ dropped_are 0 0 ∷ [])
    -- CHANGE 1, releases that wait: a burst; the second of two has not started at limit 12, has at 13, and ends at 23
    ∷ report (sheet_a_at (0 ∷ 1 ∷ 2 ∷ 3 ∷ 4 ∷ 5 ∷ [])) 65535 report_burst
    ∷ figures_by 12 (sheet_a_at (0 ∷ 3 ∷ [])) (register_is 0 0 1 ∷ register_is 0 1 12 ∷ register_is 0 2 5 ∷ waiting_are 0 1 ∷ ticks_used 0 12 ∷ [])
    ∷ figures_by 13 (sheet_a_at (0 ∷ 3 ∷ [])) (register_is 0 0 0 ∷ register_is 0 1 12 ∷ register_is 0 2 0 ∷ waiting_are 0 0 ∷ ticks_used 0 13 ∷ [])
    ∷ figures (sheet_a_at (0 ∷ 3 ∷ [])) (register_is 0 0 0 ∷ finished_are 0 2 ∷ ticks_done 23 ∷ dropped_are 0 0 ∷ [])
    -- the oldest starts first, and ahead of the tick's own release
    ∷ figures_by 13 (sheet_a_at (0 ∷ 3 ∷ 7 ∷ [])) (waiting_are 0 1 ∷ oldest_is 0 7 ∷ [])
    ∷ figures_by 13 (sheet_a_at (0 ∷ 3 ∷ 12 ∷ [])) (waiting_are 0 1 ∷ oldest_is 0 12 ∷ [])
    -- tick 11 ends the first job: a release in it still finds four waiting; one in tick 12 comes after the oldest has left its place
    ∷ figures (sheet_a_at (0 ∷ 1 ∷ 2 ∷ 3 ∷ 4 ∷ 11 ∷ [])) (finished_are 0 5 ∷ ticks_done 56 ∷ dropped_are 0 1 ∷ [])
    ∷ figures (sheet_a_at (0 ∷ 1 ∷ 2 ∷ 3 ∷ 4 ∷ 12 ∷ [])) (finished_are 0 6 ∷ ticks_done 67 ∷ dropped_are 0 0 ∷ [])
    -- a spent job behind which one waits, 20 ticks each
    ∷ figures_by 20 (sheet_u_at 16777215 (0 ∷ 5 ∷ [])) (register_is 0 0 42 ∷ register_is 0 1 1 ∷ spent_are 0 1 ∷ waiting_are 0 1 ∷ [])
    ∷ figures_by 21 (sheet_u_at 16777215 (0 ∷ 5 ∷ [])) (register_is 0 0 0 ∷ register_is 0 1 0 ∷ spent_are 0 1 ∷ waiting_are 0 0 ∷ [])
    ∷ figures (sheet_u_at 16777215 (0 ∷ 5 ∷ [])) (spent_are 0 2 ∷ finished_are 0 0 ∷ ticks_done 40 ∷ dropped_are 0 0 ∷ version_is 0 16777215 ∷ [])
    -- CHANGE 2, drops by task: of t0's releases those at 5 and 6 find four waiting, of t1's that at 6, while t1 runs. t0 does tick 0; t1's jobs take
    -- 12 ticks and four times 11; then t0 does the rest of its first job and four more of 2 ticks each. None counts before its tick is done.
    ∷ figures sheet_two_drop (finished_are 0 5 ∷ finished_are 1 5 ∷ ticks_used 0 10 ∷ ticks_used 1 56 ∷ ticks_done 66 ∷ dropped_are 0 2 ∷ dropped_are 1 1 ∷ [])
    ∷ figures_by 5 sheet_two_drop (waiting_are 0 4 ∷ waiting_are 1 3 ∷ dropped_are 0 0 ∷ dropped_are 1 0 ∷ [])
    ∷ figures_by 6 sheet_two_drop (waiting_are 0 4 ∷ waiting_are 1 4 ∷ dropped_are 0 1 ∷ dropped_are 1 0 ∷ [])
    ∷ figures_by 7 sheet_two_drop (waiting_are 0 4 ∷ waiting_are 1 4 ∷ dropped_are 0 2 ∷ dropped_are 1 1 ∷ [])
    -- CHANGE 3, every lost attempt: t0 reads the bank word before t1's first job and again after it, in tick 30; its next attempt has begun its
    -- exchange when t1's second job comes, and is rejected at the Commit in tick 69. Neither counts before its tick is done.
    ∷ figures (sheet_seven body_take 3 38) (lost_are 0 2 ∷ lost_are 1 0 ∷ ticks_used 0 35 ∷ ticks_used 1 50 ∷ ticks_done 85 ∷ register_is 0 0 7 ∷ [])
    ∷ figures_by 30 (sheet_seven body_take 3 38) (lost_are 0 0 ∷ [])
    ∷ figures_by 31 (sheet_seven body_take 3 38) (lost_are 0 1 ∷ finished_are 0 0 ∷ [])
    ∷ figures_by 69 (sheet_seven body_take 3 38) (lost_are 0 1 ∷ [])
    ∷ figures_by 70 (sheet_seven body_take 3 38) (lost_are 0 2 ∷ lost_are 1 0 ∷ finished_are 0 0 ∷ finished_are 1 2 ∷ [])
    -- one job of two transactions: the first commit is rejected, in tick 44; the second transaction finds a stale version, in tick 97
    ∷ figures (sheet_seven body_take_write 13 63) (lost_are 0 2 ∷ lost_are 1 0 ∷ ticks_used 0 67 ∷ ticks_used 1 54 ∷ ticks_done 121 ∷ value_is 0 1 7 ∷ [])
    ∷ figures_by 45 (sheet_seven body_take_write 13 63) (lost_are 0 1 ∷ [])
    ∷ figures_by 97 (sheet_seven body_take_write 13 63) (lost_are 0 1 ∷ [])
    -- a stale version, in tick 37, and then a spent COMMIT, which is no lost attempt
    ∷ figures sheet_spent_after_stale (lost_are 0 1 ∷ spent_are 0 1 ∷ finished_are 0 0 ∷ ticks_used 0 27 ∷ ticks_done 52 ∷ version_is 0 16777215 ∷ [])
    -- BEGIN and COMMIT: nothing touched, nothing lost
    ∷ figures sheet_untouched (lost_are 0 0 ∷ spent_are 0 0 ∷ finished_are 0 1 ∷ ticks_done 2 ∷ [])
    ∷ []

-- every sheet of the table is refused or accepted as it says, with these answers and figures
pub all_pass_lem : all_pass table ≡ true
unfolding all_pass table
all_pass_lem = refl
