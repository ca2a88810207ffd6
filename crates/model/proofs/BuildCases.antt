-- Worked figures of the sheet builder: one table of buffers, calls, answers and the bytes left, and one fact over the whole table, by computation.
use Prim.Native.Nat.{ℕ}
use mathlib.Core.Bool.{Bool, true, false, ◌&&◌}
use mathlib.Core.Path.{◌≡◌, refl}
use mathlib.Core.List.{List, [], ◌∷◌, ◌++◌}
use lib.Dec.{eqb}
use lib.ListN.{replicate}
use Rattle.model.specs.Command.{PAIR, SWAP, BEGIN, LOAD, ADD, outside, Command, WORD, TASK, RELEASE, END, body}
use Rattle.model.specs.Builder.{BuilderState, nothing_filled, compose, handed, compose_handed}
use Rattle.model.proofs.Bytes.{word, task, end, release, add, pair, swap}
use Rattle.model.proofs.Sheets.{sheet_a}

-- number and place
pub record Said : Type 0 where
  pub number : ℕ
  pub place : ℕ

abbrev says : ℕ → ℕ → Said
says n p = record { number = n; place = p }

pub record Case : Type 0 where
  pub buffer : List ℕ
  pub calls : List Command
  pub answers : List Said
  pub left : List ℕ

same_bytes : List ℕ → List ℕ → Bool
same_bytes [] [] = true
same_bytes [] (y ∷ l) = false
same_bytes (x ∷ k) [] = false
same_bytes (x ∷ k) (y ∷ l) = eqb x y && same_bytes k l

answered : BuilderState → List ℕ → List Command → List Said → List ℕ → Bool
unfolding same_bytes compose
answered s b [] [] left = same_bytes b left
answered s b [] (a ∷ rest) left = false
answered s b (c ∷ cs) [] left = false
answered s b (c ∷ cs) (a ∷ rest) left =
    let r = compose s b c in
    eqb r.number a.number && eqb r.place a.place && answered r.state r.buffer cs rest left

pub all_answered : List Case → Bool
unfolding answered
all_answered [] = true
all_answered (c ∷ l) = answered nothing_filled c.buffer c.calls c.answers c.left && all_answered l

case : List ℕ → List Command → List Said → List ℕ → Case
case b cs l x = record { buffer = b; calls = cs; answers = l; left = x }

-- a buffer of that many bytes, none of them 0
blank : ℕ → List ℕ
blank n = replicate n 0xEE

calls_a : List Command
calls_a =
    WORD 12 ∷ TASK ∷ body (LOAD 1 12) ∷ body (LOAD 2 5) ∷ body (outside (PAIR 0 1 2)) ∷ body (outside (SWAP 0)) ∷ RELEASE (record { tick = 0; task = 0 })
    ∷ END ∷ []

lengths_a : List Said
lengths_a = says 0 5 ∷ says 0 6 ∷ says 0 12 ∷ says 0 18 ∷ says 0 22 ∷ says 0 24 ∷ says 0 28 ∷ says 0 29 ∷ []

release-at : ℕ → Command
release-at t = RELEASE (record { tick = t; task = 0 })

pub table : List Case
unfolding case blank calls_a lengths_a release-at
table =
    -- sheet A in a buffer of just its length, and in one that is longer by two; after END every command is 3, in a full buffer too
    case (blank 29) calls_a lengths_a sheet_a
    ∷ case (blank 29) (calls_a ++ (END ∷ TASK ∷ [])) (lengths_a ++ (says 3 29 ∷ says 3 29 ∷ [])) sheet_a
    ∷ case (blank 31) (calls_a ++ (END ∷ [])) (lengths_a ++ (says 3 29 ∷ [])) (sheet_a ++ blank 2)
    -- one byte too few, and just as many as WORD has
    ∷ case (blank 4) (WORD 7 ∷ TASK ∷ []) (says 11 0 ∷ says 0 1 ∷ []) (task ++ blank 3)
    ∷ case (blank 5) (WORD 258 ∷ TASK ∷ []) (says 0 5 ∷ says 11 5 ∷ []) (0x01 ∷ 0 ∷ 0 ∷ 1 ∷ 2 ∷ [])
    -- 4 before 11: in a buffer without a byte, and with PAIRs waiting; a SWAP takes them
    ∷ case [] (END ∷ WORD 0 ∷ []) (says 4 0 ∷ says 11 0 ∷ []) []
    ∷ case (blank 12)
    (WORD 0 ∷ TASK ∷ body (outside (PAIR 0 0 1)) ∷ END ∷ TASK ∷ body (outside BEGIN) ∷ body (outside (SWAP 0)) ∷ END ∷ [])
    (says 0 5 ∷ says 0 6 ∷ says 0 10 ∷ says 4 10 ∷ says 4 10 ∷ says 4 10 ∷ says 0 12 ∷ says 11 12 ∷ [])
    (word 0 ++ task ++ pair 0 0 1 ++ swap 0)
    -- an empty body, 6, 7 and 8 of document 01's table, and going on after each
    ∷ case (blank 9) (TASK ∷ END ∷ body (ADD 8 0) ∷ body (ADD 0 0) ∷ release-at 2 ∷ release-at 1 ∷ END ∷ [])
    (says 0 1 ∷ says 4 1 ∷ says 6 1 ∷ says 0 4 ∷ says 0 8 ∷ says 8 8 ∷ says 0 9 ∷ [])
    (task ++ add 0 0 ++ release 2 0 ++ end)
    ∷ case (blank 12) (WORD 0 ∷ TASK ∷ body (outside (PAIR 0 0 1)) ∷ body (outside (PAIR 0 0 1)) ∷ [])
    (says 0 5 ∷ says 0 6 ∷ says 0 10 ∷ says 7 10 ∷ []) (word 0 ++ task ++ pair 0 0 1 ++ blank 2)
    -- the last tick that two bytes hold, and the next
    ∷ case (blank 8) (TASK ∷ body (ADD 0 0) ∷ release-at 65536 ∷ release-at 65535 ∷ []) (says 0 1 ∷ says 0 4 ∷ says 6 4 ∷ says 0 8 ∷ [])
    (task ++ add 0 0 ++ (0x04 ∷ 255 ∷ 255 ∷ 0 ∷ []))
    ∷ []

pub worked : all_answered table ≡ true
unfolding all_answered table
worked = refl

-- BY BYTE AND OPERANDS: no command is 1, after END 3; an operand above 255 is out of range, and is not cut
pub handed_number : BuilderState → ℕ → List ℕ → ℕ
handed_number s b o = (compose_handed s (replicate 64 0) (handed b o)).number

pub in_body : BuilderState
in_body = (compose nothing_filled (replicate 64 0) TASK).state

pub ended : BuilderState
ended = record { known = in_body.known; filled = 4; ended = true }

pub worked_bytes :
    (handed_number nothing_filled 0xFF [] ≡ 1) × (handed_number ended 0xFF [] ≡ 3) × (handed_number in_body 0x11 (256 ∷ 0 ∷ []) ≡ 6)
    × (handed_number in_body 0x11 (7 ∷ 7 ∷ []) ≡ 0)
unfolding handed_number in_body ended compose_handed handed
worked_bytes = (refl, refl, refl, refl)
