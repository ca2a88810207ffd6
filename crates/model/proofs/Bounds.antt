-- Runs in which the bounds of the rates are reached, by computation: readings of 2 ticks and of 3, exchanges of 13 and 22.
use Prim.Native.Nat.{ℕ, zero, suc, ◌+◌}
use mathlib.Core.Bool.{true, false}
use mathlib.Core.Path.{◌≡◌, refl, sym, ap, ◌∙◌}
use mathlib.Core.List.{List, [], ◌∷◌, ◌++◌}
use mathlib.Core.Option.{some}
use native.Mathlib.Omega.{arith}
use Rattle.model.specs.Lists.{at}
use Rattle.model.specs.Sheet.{sheet_of}
use Rattle.model.specs.Word.{read_tick}
use Rattle.model.specs.Exchange.{exchange_tick}
use Rattle.model.specs.Machine.{Machine, running_of, enter, over, run_by, run}
use Rattle.model.specs.Start.{start_machine}
use Rattle.model.specs.History.{Operation, operation_at, history_of}
use Rattle.model.specs.Rates.{least_read, most_read, most_exchange, in_tick, is_task, one_if, running_in, own_before, own_ticks}
use Rattle.model.specs.Rates.{Starts, Ends, first_load, first_reading, second_reading, Loads, Gives}
use Rattle.model.specs.Arguments.{Pair, read_of, swap_of}
use Rattle.model.proofs.Lists.{test?}
use Rattle.model.proofs.Sums.{sum_none, sum_next}
use Rattle.model.proofs.Sheets.{body_read, against, one_block, body_u}
use Rattle.model.proofs.Bytes.{word, task, release, end, load, pair, swap}
use Rattle.model.proofs.TickCases.{sheet_of_three}

-- OWN TICKS IN ONE WALK: `ownTicks` has a run from the start for each tick, so to compute it the run is walked once.
-- how many of the next n ticks are task p's
unfoldable own_next : ℕ → ℕ → Machine → ℕ
own_next p zero m = 0
own_next p (suc n) m = one_if (is_task p (running_of (enter m))) + own_next p n (run 1 m)

-- a run that is over stays; a run after a run
run-over : (n : ℕ) (m : Machine) → over m ≡ true → run n m ≡ m
unfolding run run_by
run-over zero m e = refl
run-over (suc n) m e = rw e refl

run-first : (n : ℕ) (m : Machine) → run n (run 1 m) ≡ run (suc n) m
unfolding run run_by
run-first n m = test? (over m) (λ e. rw e (run-over n m e)) (λ e. rw e refl)

run_on : (n a : ℕ) (m : Machine) → run n (run a m) ≡ run (a + n) m
unfolding run
run_on n zero m = let e : n ≡ zero + n = omega arith in ap (λ (k : ℕ). run k m) e
run_on n (suc a) m =
    let e : suc (a + n) ≡ suc a + n = omega arith in
    ap (run n) (sym (run-first a m)) ∙ run_on n a (run 1 m) ∙ run-first (a + n) m ∙ ap (λ (k : ℕ). run k m) e

sum_later : (h k a b : ℕ) → k ≡ a + b → h + k ≡ h + a + b
sum_later h k a b e = omega arith

own-last : (p n : ℕ) (m : Machine) → own_next p (suc n) m ≡ own_next p n m + one_if (is_task p (running_of (enter (run n m))))
unfolding own_next run
own-last p zero m = omega arith
own-last p (suc n) m =
    sum_later _ _ _ _ (own-last p n (run 1 m)
    ∙ ap (λ (x : Machine). own_next p n (run 1 m) + one_if (is_task p (running_of (enter x)))) (run-first n m))

own_walk : (m : Machine) (p a n : ℕ) → own_before (running_in m) p a (a + n) ≡ own_next p n (run a m)
unfolding own_next own_before in_tick
own_walk m p a zero = sum_none _ a (a + zero) (omega arith)
own_walk m p a (suc n) =
    let e : a + suc n ≡ suc (a + n) = omega arith in
    ap (own_before (running_in m) p a) e ∙ sum_next _ a (a + n) (omega arith)
    ∙ ap (λ (k : ℕ). k + one_if (is_task p (running_in m (a + n)))) (own_walk m p a n)
    ∙ ap (λ (x : Machine). own_next p n (run a m) + one_if (is_task p (running_of (enter x)))) (sym (run_on n a m))
    ∙ sym (own-last p n (run a m))

-- operation a of the sheet's run is o, and ended in tick l, after n ticks of its own, which is the bound
pub record Took (sheet : List ℕ) (a l n bound : ℕ) (o : Operation) : Type 0 where
  pub is : operation_at (history_of 100 (start_machine (sheet_of sheet))) a ≡ some o
  pub last : o.last ≡ some l
  pub ticks : own_ticks (start_machine (sheet_of sheet)) o.task a l ≡ n
  pub reached : n ≡ bound

-- P7: task 1 READs word 0 while task 0 exchanges 12 for 5 there, its Install being done, or its Commit as well
pub sheet_p7 : ℕ → List ℕ
sheet_p7 tick = against (word 12) body_read tick

abbrev pub read_p7 : ℕ → ℕ → Operation
read_p7 l v = record { task = 1; arguments = read_of 0; last = some l; committed = false; spent = false; answers = v ∷ []; lost = [] }

pub P7-at-9 : Took (sheet_p7 9) 9 11 3 most_read (read_p7 11 12)
unfolding history_of run start_machine sheet_of sheet_p7 at own_next
P7-at-9 = record { is = refl; last = refl; ticks = own_walk _ 1 9 3; reached = refl }

pub P7-at-11 : Took (sheet_p7 11) 11 12 2 least_read (read_p7 12 5)
unfolding history_of run start_machine sheet_of sheet_p7 at own_next
P7-at-11 = record { is = refl; last = refl; ticks = own_walk _ 1 11 2; reached = refl }

-- task 1's SWAP of 12 for 7, which ended in tick l with no
abbrev pub to_seven : ℕ → Pair
to_seven w = record { word = w; old = 12; new = 7 }

abbrev pub swap_no : ℕ → List Pair → Operation
swap_no l ps = record { task = 1; arguments = swap_of ps; last = some l; committed = false; spent = false; answers = 0 ∷ []; lost = [] }

-- An exchange of one word that does every step there is: its ticks are 13.
pub all_steps : Took sheet_of_three 12 38 13 (most_exchange 1) (swap_no 38 (to_seven 0 ∷ []))
unfolding history_of run start_machine sheet_of sheet_of_three at own_next
all_steps = record { is = refl; last = refl; ticks = own_walk _ 1 12 27; reached = refl }

-- The same with two words: task 2 changes both before task 1 has installed the second. Its ticks are 22.
abbrev exchanging_two : ℕ → List ℕ
exchanging_two v = task ++ load 1 12 ++ load 2 v ++ pair 0 1 2 ++ pair 1 1 2 ++ swap 0

pub sheet_of_two_words : List ℕ
sheet_of_two_words = word 12 ++ word 12 ++ exchanging_two 5 ++ exchanging_two 7 ++ exchanging_two 9 ++ release 0 0 ++ release 15 1 ++ release 29 2 ++ end

pub all_steps_twice : Took sheet_of_two_words 19 63 22 (most_exchange 2) (swap_no 63 (to_seven 0 ∷ to_seven 1 ∷ []))
unfolding history_of run start_machine sheet_of sheet_of_two_words at own_next
all_steps_twice = record { is = refl; last = refl; ticks = own_walk _ 1 19 45; reached = refl }

-- Three of task U: task 1 comes when task 0 has installed the bank word, task 2 when task 1 has loaded it in its own exchange.
pub sheet_uuu : List ℕ
sheet_uuu = one_block 3 ++ body_u ++ body_u ++ body_u ++ release 0 0 ++ release 26 1 ++ release 52 2 ++ end

pub machine_uuu : Machine
unfolding start_machine sheet_of sheet_uuu
machine_uuu = start_machine (sheet_of sheet_uuu)

-- task 0's GET reads a word that is valid: Load in tick 1, Look in tick 2
pub loads-at_1 : Loads machine_uuu 0 1
unfolding machine_uuu run at in_tick
loads-at_1 = record {
  reads = record { runs = refl; transaction = _; inner = _; phase = refl; access = _; step = _; does = first_load _ _ refl refl };
  loads = refl;
}

pub gives-at_2 : Gives machine_uuu 0 2
unfolding machine_uuu run at in_tick read_tick
gives-at_2 = record {
  reads = record { runs = refl; transaction = _; inner = _; phase = refl; access = _; step = _; does = first_reading _ _ };
  value = 780;
  gives = refl;
}

pub reading_of_2 : (own_ticks machine_uuu 0 1 2 ≡ 2) × (2 ≡ least_read)
unfolding machine_uuu run own_next
reading_of_2 = (own_walk machine_uuu 0 1 2, refl)

-- task 1's GET reads it overlapped, and fetches: the first reading
pub loads-at_27 : Loads machine_uuu 1 27
unfolding machine_uuu run at in_tick
loads-at_27 = record {
  reads = record { runs = refl; transaction = _; inner = _; phase = refl; access = _; step = _; does = first_load _ _ refl refl };
  loads = refl;
}

pub gives-at_29 : Gives machine_uuu 1 29
unfolding machine_uuu run at in_tick read_tick
gives-at_29 = record {
  reads = record { runs = refl; transaction = _; inner = _; phase = refl; access = _; step = _; does = first_reading _ _ };
  value = 780;
  gives = refl;
}

pub first-reading_of_3 : (own_ticks machine_uuu 1 27 29 ≡ 3) × (3 ≡ most_read)
unfolding machine_uuu run own_next
first-reading_of_3 = (own_walk machine_uuu 1 27 3, refl)

-- and the second
pub loads-at_31 : Loads machine_uuu 1 31
unfolding machine_uuu run at in_tick
loads-at_31 = record {
  reads = record { runs = refl; transaction = _; inner = _; phase = refl; access = _; step = _; does = second_reading _ _ _ };
  loads = refl;
}

pub gives-at_33 : Gives machine_uuu 1 33
unfolding machine_uuu run at in_tick read_tick
gives-at_33 = record {
  reads = record { runs = refl; transaction = _; inner = _; phase = refl; access = _; step = _; does = second_reading _ _ _ };
  value = 780;
  gives = refl;
}

pub second-reading_of_3 : (own_ticks machine_uuu 1 31 33 ≡ 3) × (3 ≡ most_read)
unfolding machine_uuu run own_next
second-reading_of_3 = (own_walk machine_uuu 1 31 3, refl)

-- the exchange of its COMMIT does every step, task 2 committing before its Install
pub starts_at_49 : Starts machine_uuu 1 49 1
unfolding machine_uuu run at in_tick
starts_at_49 = record { does = record { runs = refl; transaction = _; exchange = _; phase = refl }; start = refl; entries = refl }

pub ends-at_95 : Ends machine_uuu 1 95
unfolding machine_uuu run at in_tick exchange_tick
ends-at_95 = record { does = record { runs = refl; transaction = _; exchange = _; phase = refl }; memory = _; yes? = false; ends = refl }

pub commit_of_13 : (own_ticks machine_uuu 1 49 95 ≡ 13) × (13 ≡ most_exchange 1)
unfolding machine_uuu run own_next
commit_of_13 = (own_walk machine_uuu 1 49 47, refl)
