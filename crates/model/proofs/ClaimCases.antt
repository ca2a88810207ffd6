-- Stated histories, each with an order of its operations: one table says in which order the claim holds, and one fact over the table
-- says that the test `stands` gives these answers, by computation. History/Stated.antt proves that the test decides the claim in that order.
use Prim.Native.Nat.{ℕ}
use mathlib.Core.Bool.{Bool, true, false, not, ◌&&◌}
use mathlib.Core.Path.{◌≡◌, refl}
use mathlib.Core.Logic.{inl}
use mathlib.Core.List.{List, [], ◌∷◌, ◌++◌}
use mathlib.Core.Option.{Option, none, some}
use native.Mathlib.Omega.{arith}
use lib.ListN.{replicate}
use Rattle.model.specs.Lists.{at, replace}
use Rattle.model.specs.Fault.{among}
use Rattle.model.specs.Plain.{Contents, result, plainly}
use Rattle.model.specs.History.{Operation, History, operation_at}
use Rattle.model.specs.Claim.{Interfered, EndedBefore}
use Rattle.model.specs.Arguments.{Pair, read_of, swap_of}
use Rattle.model.proofs.WholeCases.{same_contents, counted_from, timely, fed}

-- THE TEST
unfoldable pub all_among : List ℕ → List ℕ → Bool
unfolding among
all_among [] m = true
all_among (a ∷ l) m = among a m && all_among l m

unfoldable pub once : List ℕ → Bool
unfolding among
once [] = true
once (a ∷ l) = not (among a l) && once l

-- one after the other, in time, the operations take the contents c to d with the answers of the history
unfoldable pub replayed : History → Contents → List ℕ → Contents → Bool
unfolding at timely fed same_contents
replayed h d [] c = same_contents c d
replayed h d (a ∷ l) c = timely h a l && fed (replayed h d l) h a (operation_at h a) c

-- the order has each operation that counts once and no other, and replays
unfoldable pub stands : History → Contents → Contents → List ℕ → Bool
unfolding once all_among counted_from replayed
stands h c d l = once l && all_among (counted_from 0 h.began) l && all_among l (counted_from 0 h.began) && replayed h d l c

-- STATED: a history, the contents at first and at last, an order, and whether the claim holds in that order
pub record Stated : Type 0 where
  pub history : History
  pub first : Contents
  pub last : Contents
  pub order : List ℕ
  pub holds : Bool

unfoldable pub agrees : Bool → Bool → Bool
agrees true b = b
agrees false b = not b

unfoldable pub all_agree : List Stated → Bool
unfolding agrees stands
all_agree [] = true
all_agree (s ∷ l) = agrees s.holds (stands s.history s.first s.last s.order) && all_agree l

abbrev pair_with : ℕ → ℕ → ℕ → Pair
pair_with w o n = record { word = w; old = o; new = n }

-- a SWAP of task p: its pairs, its last tick, whether it committed, its answer
abbrev swapped : ℕ → List Pair → Option ℕ → Bool → ℕ → Operation
swapped p ps last yes? v =
    record { task = p; arguments = swap_of ps; last = last; committed = yes?; spent = false; answers = v ∷ []; lost = [] }

abbrev words_are : List ℕ → Contents
words_are l = record { words = l; blocks = [] }

-- TWO READS of a word by one task: only time decides their order
abbrev a_read : ℕ → Operation
a_read last = record { task = 0; arguments = read_of 0; last = some last; committed = false; spent = false; answers = 12 ∷ []; lost = [] }

abbrev history_reads : History
history_reads = record { began = some (a_read 1) ∷ none ∷ some (a_read 3) ∷ none ∷ []; latest = 2 ∷ replicate 7 0 }

abbrev pub reads : List ℕ → Bool → Stated
reads l b = record { history = history_reads; first = words_are (12 ∷ []); last = words_are (12 ∷ []); order = l; holds = b }

-- P4: task 0 exchanges 12 for 5 in word 0. Task 1 comes after its Commit, finds 5 instead of 12 and says no; only the answers decide the order.
abbrev lower_p4 : Operation
lower_p4 = swapped 0 (pair_with 0 12 5 ∷ []) (some 22) true 1

abbrev upper_p4 : Operation
upper_p4 = swapped 1 (pair_with 0 12 7 ∷ []) (some 21) false 0

abbrev history_p4 : History
history_p4 =
    record { began = replicate 3 none ++ some lower_p4 ∷ replicate 10 none ++ some upper_p4 ∷ replicate 8 none; latest = 3 ∷ 14 ∷ replicate 6 0 }

abbrev pub P4 : List ℕ → Bool → Stated
P4 l b = record { history = history_p4; first = words_are (12 ∷ []); last = words_are (5 ∷ []); order = l; holds = b }

-- P4 cut short after task 0's Commit: its exchange has not ended but counts, and is the only one
abbrev lower_cut : Operation
lower_cut = swapped 0 (pair_with 0 12 5 ∷ []) none true 1

abbrev history_cut : History
history_cut = record { began = replicate 3 none ++ some lower_cut ∷ replicate 7 none; latest = 3 ∷ replicate 7 0 }

abbrev pub cut : List ℕ → Bool → Stated
cut l b = record { history = history_cut; first = words_are (12 ∷ []); last = words_are (5 ∷ []); order = l; holds = b }

-- P5: task 1 also names word 1, which is 22 and not 0, so its no rests on that word. Task 0's word was 12 all the while:
-- its no rests on the free answer alone, since task 1's exchange with a changing pair on word 0 began inside it.
abbrev lower_p5 : Operation
lower_p5 = swapped 0 (pair_with 0 12 5 ∷ []) (some 31) false 0

abbrev upper_p5 : ℕ → Operation
upper_p5 v = swapped 1 (pair_with 0 12 v ∷ pair_with 1 0 7 ∷ []) (some 28) false 0

abbrev history_p5 : ℕ → History
history_p5 v =
    record {
      began = replicate 3 none ++ some lower_p5 ∷ replicate 9 none ++ some (upper_p5 v) ∷ replicate 18 none;
      latest = 3 ∷ 13 ∷ replicate 6 0;
    }

-- task 1's new value for word 0 is 7; were it 12, its pair would change nothing and task 0's no would have no ground
abbrev pub P5 : ℕ → List ℕ → Bool → Stated
P5 v l b = record { history = history_p5 v; first = words_are (12 ∷ 22 ∷ []); last = words_are (12 ∷ 22 ∷ []); order = l; holds = b }

-- THE TABLE
pub table : List Stated
table =
    reads (0 ∷ 2 ∷ []) true
    ∷ reads (2 ∷ 0 ∷ []) false
    -- one left out, one twice
    ∷ reads (0 ∷ []) false
    ∷ reads (0 ∷ 2 ∷ 2 ∷ []) false
    ∷ P4 (3 ∷ 14 ∷ []) true
    ∷ P4 (14 ∷ 3 ∷ []) false
    ∷ cut (3 ∷ []) true
    ∷ cut [] false
    ∷ P5 7 (3 ∷ 13 ∷ []) true
    ∷ P5 7 (13 ∷ 3 ∷ []) true
    -- in no order
    ∷ P5 12 (3 ∷ 13 ∷ []) false
    ∷ P5 12 (13 ∷ 3 ∷ []) false
    ∷ []

pub all-agree : all_agree table ≡ true
unfolding all_agree table
all-agree = refl

-- WRITTEN OUT: the first read ended before the second began
reads_apart : EndedBefore history_reads 0 2
unfolding at
reads_apart = record { operation = a_read 1; is = refl; last = 1; lasts = refl; before = omega arith }

-- P5's free answer
P5-interfered : Interfered (history_p5 7) 3 lower_p5
unfolding at
P5-interfered = record {
  pairs = pair_with 0 12 5 ∷ [];
  is = refl;
  named = pair_with 0 12 5;
  names = inl refl;
  last = 31;
  lasts = refl;
  by = 13;
  other = upper_p5 7;
  began = refl;
  higher = omega arith;
  after = omega arith;
  before = omega arith;
  other_pairs = pair_with 0 12 7 ∷ pair_with 1 0 7 ∷ [];
  other_is = refl;
  changing = pair_with 0 12 7;
  changes = inl refl;
  on = refl;
  differs = omega arith;
}

-- on the plain machine alone task 0 would have said yes
P5-not-plain : plainly lower_p5.arguments (words_are (12 ∷ 22 ∷ [])) ≡ result (words_are (5 ∷ 22 ∷ [])) (1 ∷ [])
unfolding plainly replace
P5-not-plain = refl
