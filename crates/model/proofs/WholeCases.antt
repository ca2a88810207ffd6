-- Demand 3 on small runs, one for each slip that breaks it: all orders of a run's operations are tried, and one fact over the
-- whole table says that each run has one, by computation. History/Search.antt proves that the test `whole` decides the claim.
use Prim.Native.Nat.{ℕ, zero, suc}
use mathlib.Core.Bool.{Bool, true, false, not, ◌&&◌, ◌||◌}
use mathlib.Core.Path.{◌≡◌, refl}
use mathlib.Core.List.{List, [], ◌∷◌, ◌++◌}
use mathlib.Core.Option.{Option, none, some}
use lib.Dec.{eqb, ltb}
use lib.ListN.{length, replicate}
use Rattle.model.specs.Lists.{at}
use Rattle.model.specs.Command.{Block}
use Rattle.model.specs.Sheet.{Verdict, accepted, turned_down, verdict, sheet_of}
use Rattle.model.specs.Word.{current}
use Rattle.model.specs.Machine.{run}
use Rattle.model.specs.Start.{start_machine}
use Rattle.model.specs.Plain.{Contents, plainly}
use Rattle.model.specs.History.{Operation, History, operation_at, history_of}
use Rattle.model.specs.Claim.{counted_by, contents_of, declared_contents, each}
use Rattle.model.specs.Arguments.{Pair, Arguments, read_of, swap_of, transaction_of}
use Rattle.model.proofs.Sheets.{body₀, body₁, body_read, against, body_u, one_block}
use Rattle.model.proofs.Bytes.{word, block, task, release, end, load, pair, swap, begin, get, put, commit}

-- EQUAL NUMBERS AND CONTENTS
unfoldable pub same_numbers : List ℕ → List ℕ → Bool
same_numbers [] [] = true
same_numbers [] (b ∷ m) = false
same_numbers (a ∷ l) [] = false
same_numbers (a ∷ l) (b ∷ m) = eqb a b && same_numbers l m

unfoldable pub same_blocks : List Block → List Block → Bool
unfolding same_numbers
same_blocks [] [] = true
same_blocks [] (b ∷ m) = false
same_blocks (a ∷ l) [] = false
same_blocks (a ∷ l) (b ∷ m) = eqb a.version b.version && same_numbers a.values b.values && same_blocks l m

unfoldable pub same_contents : Contents → Contents → Bool
unfolding same_numbers same_blocks
same_contents c d = same_numbers c.words d.words && same_blocks c.blocks d.blocks

-- THE OPERATIONS THAT COUNT, of a list that is numbered from i on
unfoldable pub listed_by : Bool → ℕ → List ℕ → List ℕ
listed_by true i l = i ∷ l
listed_by false i l = l

unfoldable pub counted_from : ℕ → List (Option Operation) → List ℕ
unfolding listed_by
counted_from i [] = []
counted_from i (o ∷ l) = listed_by (counted_by o) i (counted_from (suc i) l)

-- TIME: none of these operations ended before tick a
unfoldable pub last_before : ℕ → Option ℕ → Bool
last_before a none = false
last_before a (some t) = ltb t a

unfoldable pub ended_before : ℕ → Option Operation → Bool
unfolding last_before
ended_before a none = false
ended_before a (some o) = last_before a o.last

unfoldable pub timely : History → ℕ → List ℕ → Bool
unfolding at ended_before
timely h a [] = true
timely h a (b ∷ l) = not (ended_before a (operation_at h b)) && timely h a l

-- THE FREE ANSWER
unfoldable pub names : ℕ → List Pair → Bool
names w [] = false
names w (p ∷ l) = eqb w p.word || names w l

-- a changing pair on a word that the first ones name
unfoldable pub changes_named : List Pair → List Pair → Bool
unfolding names
changes_named ps [] = false
changes_named ps (q ∷ l) = (not (eqb q.old q.new) && names q.word ps) || changes_named ps l

abbrev pub pairs_of : Arguments → List Pair
pairs_of (read_of w) = []
pairs_of (swap_of ps) = ps
pairs_of (transaction_of rs l) = []

-- the operation with number b interferes with o, whose first and last ticks are a and z
unfoldable pub interferes : ℕ → ℕ → Operation → ℕ → Option Operation → Bool
unfolding changes_named
interferes a z o b none = false
interferes a z o b (some q) = ltb a b && ltb b z && ltb o.task q.task && changes_named (pairs_of o.arguments) (pairs_of q.arguments)

unfoldable pub interfered_from : ℕ → ℕ → Operation → ℕ → List (Option Operation) → Bool
unfolding interferes
interfered_from a z o b [] = false
interfered_from a z o b (q ∷ l) = interferes a z o b q || interfered_from a z o (suc b) l

unfoldable pub interfered : History → ℕ → Operation → Option ℕ → Bool
unfolding interfered_from
interfered h a o none = false
interfered h a o (some z) = interfered_from a z o 0 h.began

-- THE SEARCH: an operation is fed to the plain machine with contents c, and `go` says of what it leaves whether the others can follow
unfoldable pub fed : (Contents → Bool) → History → ℕ → Option Operation → Contents → Bool
unfolding plainly same_numbers interfered
fed go h a none c = false
fed go h a (some o) c =
    (same_numbers (plainly o.arguments c).answers o.answers && go (plainly o.arguments c).contents)
    || (same_numbers o.answers (0 ∷ []) && interfered h a o o.last && go c)

-- one of the operations l is the next; those in `before` are not
unfoldable pub next : (List ℕ → Contents → Bool) → History → List ℕ → List ℕ → Contents → Bool
unfolding at timely fed
next go h before [] c = false
next go h before (a ∷ l) c =
    (timely h a (before ++ l) && fed (go (before ++ l)) h a (operation_at h a) c)
    || next go h (before ++ (a ∷ [])) l c

-- as many operations as left are fed, one after the other, and leave the contents d
unfoldable pub ordered : ℕ → History → Contents → List ℕ → Contents → Bool
unfolding next same_contents
ordered zero h d l c = same_contents c d
ordered (suc n) h d l c = next (ordered n h d) h [] l c

unfoldable pub ordered_all : History → Contents → List ℕ → Contents → Bool
unfolding ordered
ordered_all h d l c = ordered (length l) h d l c

unfoldable pub whole : List ℕ → ℕ → Bool
unfolding counted_from ordered_all at current each history_of run start_machine sheet_of
whole sheet limit =
    let h : History = history_of limit (start_machine (sheet_of sheet)) in
    ordered_all h (contents_of (sheet_of sheet) (run limit (start_machine (sheet_of sheet))).memory) (counted_from 0 h.began)
    (declared_contents (sheet_of sheet))

-- THE SHEETS: task 1 comes when the exchange of sheet A's task is installed and not yet committed
-- P5 with the second word's old value loaded: task 1 Marks while its second word may still differ, and says yes
marking : List ℕ
marking = against (word 12 ++ word 22) (task ++ load 1 12 ++ load 2 7 ++ load 3 22 ++ pair 0 1 2 ++ pair 1 3 2 ++ swap 0) 9

-- P7: the value comes from the save place
reading : List ℕ
reading = against (word 12) body_read 9

-- a read-only pair
read_only : List ℕ
read_only = task ++ load 1 12 ++ pair 0 1 1 ++ swap 0

-- it gives the word back to task 0, which commits
given_back : List ℕ
unfolding read_only
given_back = against (word 12) read_only 9

-- task 2 overtakes it before its Commit: it says no, and Marks task 0 in Clean
overtaken : List ℕ
unfolding read_only
overtaken = word 12 ++ body₀ ++ read_only ++ body₁ ++ release 0 0 ++ release 9 1 ++ release 18 2 ++ end

-- task 2 leaves in word 0 the value that task 1 has loaded there, from task 0
same_value : List ℕ
same_value = word 12 ++ body₀ ++ body₁ ++ body₀ ++ release 0 0 ++ release 9 1 ++ release 17 2 ++ end

zero_block : List ℕ
zero_block = block 0 (replicate 8 0)

-- task 0 PUTs block 1 in two transactions; task 1 GETs it between the two PUTs of the second one
slots_reused : List ℕ
unfolding zero_block
slots_reused =
    zero_block ++ zero_block
    ++ task ++ load 0 5 ++ begin ++ put 1 0 0 ++ commit ++ load 0 6 ++ begin ++ put 1 0 0 ++ put 1 1 0 ++ commit
    ++ task ++ begin ++ get 0 1 0 ++ get 1 1 1 ++ commit
    ++ release 0 0 ++ release 40 1 ++ end

-- task 0 PUTs three blocks and has to do it again, since task 1 PUT the third one
restarting : List ℕ
unfolding zero_block
restarting =
    zero_block ++ zero_block ++ zero_block
    ++ task ++ load 0 5 ++ begin ++ put 0 0 0 ++ put 1 1 0 ++ put 2 2 0 ++ commit
    ++ task ++ begin ++ put 2 1 0 ++ commit
    ++ release 0 0 ++ release 45 1 ++ end

-- two of U; the upper commits while the lower copies, so that the lower's GET has answered when its pass is lost
lost_answer : List ℕ
lost_answer = one_block 3 ++ body_u ++ body_u ++ release 0 0 ++ release 10 1 ++ end

own_copy : List ℕ
unfolding zero_block
own_copy = zero_block ++ task ++ load 0 5 ++ begin ++ put 0 0 0 ++ get 1 0 0 ++ commit ++ release 0 0 ++ end

-- THE TABLE, and beside each sheet the slips that leave its run without an order
pub table : List (List ℕ)
unfolding marking reading given_back overtaken same_value slots_reused restarting lost_answer own_copy
table =
    -- Mark skipped when the marker may still fail, Mark before Install dropped, Commit that ignores the status
    marking
    -- the save place not written
    ∷ reading
    -- a read-only pair cleaned as new
    ∷ given_back
    -- Mark in Clean dropped
    ∷ overtaken
    -- Install comparing only the value
    ∷ same_value
    -- old stores taken back by block number
    ∷ slots_reused
    -- a restart that keeps the copies' slots as used
    ∷ restarting
    -- answers of a lost attempt kept
    ∷ lost_answer
    -- a GET of a PUT block answered from the block
    ∷ own_copy
    ∷ []

accepts : Verdict → Bool
accepts accepted = true
accepts (turned_down f place) = false

-- all these runs end before tick 200; a slip may let one go on for ever
pub all_whole : List (List ℕ) → Bool
unfolding accepts verdict whole
all_whole [] = true
all_whole (s ∷ l) = accepts (verdict s) && whole s 200 && all_whole l

-- every sheet of the table is accepted, and its run is a sequence of whole operations
pub all_whole_lem : all_whole table ≡ true
unfolding all_whole table
all_whole_lem = refl
