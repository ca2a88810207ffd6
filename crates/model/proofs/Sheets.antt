-- Document 01's tasks and sheets, written as commands.
use Prim.Native.Nat.{ℕ}
use mathlib.Core.List.{List, [], ◌∷◌, ◌++◌}
use Rattle.model.proofs.Bytes.{word, block, task, release, end, load, add, read, pair, swap, begin, get, put, commit}

-- a task that exchanges 12 for v in word 0
abbrev pub exchanging : ℕ → List ℕ
exchanging v = task ++ load 1 12 ++ load 2 v ++ pair 0 1 2 ++ swap 0

-- sheet A's task, and the one set against it
abbrev pub body₀ : List ℕ
body₀ = exchanging 5

abbrev pub body₁ : List ℕ
body₁ = exchanging 7

-- task 1 also names word 1, whose old value r3 is never loaded
abbrev pub body_two_words : List ℕ
body_two_words = task ++ load 1 12 ++ load 2 7 ++ pair 0 1 2 ++ pair 1 3 2 ++ swap 0

-- task 1 only reads word 0
abbrev pub body_read : List ℕ
body_read = task ++ read 0 0

-- sheet A: word 0 starts with 12, task 0 exchanges 12 for 5
abbrev pub sheet_a : List ℕ
sheet_a = word 12 ++ body₀ ++ release 0 0 ++ end

-- sheet A's task, released at those ticks
abbrev pub releases_at : List ℕ → List ℕ
releases_at [] = end
releases_at (t ∷ l) = release t 0 ++ releases_at l

abbrev pub sheet_a_at : List ℕ → List ℕ
sheet_a_at ts = word 12 ++ body₀ ++ releases_at ts

-- two tasks released too often: t0, of two commands, at 0 to 6, and sheet A's above it at 1 to 6
abbrev pub body_add : List ℕ
body_add = task ++ load 0 5 ++ add 0 0

abbrev pub both_at : ℕ → List ℕ
both_at t = release t 0 ++ release t 1

abbrev pub sheet_two_drop : List ℕ
sheet_two_drop =
    word 12 ++ body_add ++ body₀ ++ release 0 0 ++ both_at 1 ++ both_at 2 ++ both_at 3 ++ both_at 4 ++ both_at 5 ++ both_at 6 ++ end

-- the words, task 0 and task 1, which is released at tick t
abbrev pub against : List ℕ → List ℕ → ℕ → List ℕ
against words body t = words ++ body₀ ++ body ++ release 0 0 ++ release t 1 ++ end

-- task U adds 1 to value 0 of block 0
abbrev pub body_u : List ℕ
body_u = task ++ begin ++ get 0 0 0 ++ load 1 1 ++ add 0 1 ++ put 0 0 0 ++ commit

abbrev pub one_block : ℕ → List ℕ
one_block version = block version (41 ∷ 0 ∷ 0 ∷ 0 ∷ 0 ∷ 0 ∷ 0 ∷ 77 ∷ [])

abbrev pub sheet_u : ℕ → List ℕ
sheet_u version = one_block version ++ body_u ++ release 0 0 ++ end

abbrev pub sheet_u_at : ℕ → List ℕ → List ℕ
sheet_u_at version ts = one_block version ++ body_u ++ releases_at ts

-- two of U, the upper released at tick 6
abbrev pub sheet_uu : List ℕ
sheet_uu = one_block 3 ++ body_u ++ body_u ++ release 0 0 ++ release 6 1 ++ end

-- a task that writes 7 at offset 0 of block 0, and what it is set against: a task that takes the value there, one that takes it and then writes
-- it at offset 1, and one that writes 0 there
abbrev pub body_seven : List ℕ
body_seven = task ++ load 0 7 ++ begin ++ put 0 0 0 ++ commit

abbrev pub body_take : List ℕ
body_take = task ++ begin ++ get 0 0 0 ++ commit

abbrev pub body_take_write : List ℕ
body_take_write = body_take ++ begin ++ put 0 1 0 ++ commit

abbrev pub body_zero : List ℕ
body_zero = task ++ begin ++ put 0 0 0 ++ commit

abbrev pub block_forty : ℕ → List ℕ
block_forty version = block version (40 ∷ 0 ∷ 0 ∷ 0 ∷ 0 ∷ 0 ∷ 0 ∷ 0 ∷ [])

-- the first at tick 0, the second at those two ticks
abbrev pub sheet_seven : List ℕ → ℕ → ℕ → List ℕ
sheet_seven body t u = block_forty 3 ++ body ++ body_seven ++ release 0 0 ++ release t 1 ++ release u 1 ++ end

abbrev pub sheet_spent_after_stale : List ℕ
sheet_spent_after_stale = block_forty 16777214 ++ body_zero ++ body_seven ++ release 0 0 ++ release 3 1 ++ end

-- a transaction that touches nothing
abbrev pub sheet_untouched : List ℕ
sheet_untouched = task ++ begin ++ commit ++ release 0 0 ++ end
