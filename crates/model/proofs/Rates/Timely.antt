-- A task inside a READ or a SWAP is there in time after so many ticks of its own and what it did in them, and its statement keeps that or ends
-- the operation in time.
use Prim.Native.Nat.{ℕ, suc, ◌+◌, ◌*◌, ◌<◌}
use mathlib.Core.Bool.{Bool, true, false}
use native.Mathlib.Omega.{arith}
use mathlib.Core.Path.{◌≡◌, refl, sym, ◌∙◌, subst}
use mathlib.Core.Logic.{◌⊎◌}
use mathlib.Core.List.{List, [], ◌∷◌, map}
use mathlib.Core.Option.{Option, none, some}
use lib.ListN.{length, length-map}
use Rattle.model.specs.Command.{READ, PAIR, SWAP, BEGIN, BodyCommand, LOAD, ADD, outside, inside}
use Rattle.model.specs.Word.{Memory, status_of, Reading, Read, reads, gives, read_tick}
use Rattle.model.specs.Exchange.{Entry, Exchange, Exchanged, goes, ends, exchange_tick}
use Rattle.model.specs.Job.{Phase, idle, plain, reading, exchanging, transacting, Task, rest, done_by, Deed}
use Rattle.model.specs.Machine.{answer, read_by, swap_by, plain_tick, statement, pair_of}
use Rattle.model.specs.Arguments.{Arguments, read_of, swap_of, transaction_of, until_commit}
use Rattle.model.specs.History.{Operation, Event, nothing, begins, amends, event_of}
use Rattle.model.specs.ExactTicks.{Tally, no_tally, tally_of, tally_in, TakesExactly}
use Rattle.model.proofs.Transactions.Given.{exchange_in}
use Rattle.model.proofs.Lists.{impossible}
use Rattle.model.proofs.Exchanges.Rates.{Reads, at_first, goes_on_reading, reading_rate, reading-ends, Ran}
use Rattle.model.proofs.Exchanges.Rates.{before-start, own-tick, others, MarksOther, plus, exchange-exact, exchange-ends}
use Rattle.model.proofs.History.Exchange.{pairs_of, Follows, follows}
use Rattle.model.proofs.History.Moves.{given, Settling, Moves, stays_outside, begun, goes_on, gets, loses, read_ends}
use Rattle.model.proofs.History.Moves.{swap_commits, swap_ends, swap_commits_and_ends, swap_rejected, transaction_commits}
use Rattle.model.proofs.History.Moves.{transaction_ends, transaction_commits_and_ends, nothing_touched, ends_spent}
use Rattle.model.proofs.History.Statement.{moves}
use Rattle.model.proofs.History.Linked.{InOperation}

-- the exchange x of task p has done t ticks of its own and c in them; it began with entries of the same pairs
pub record InExchange (t : ℕ) (c : Tally) (p : ℕ) (m : Memory) (x : Exchange) : Type 0 where
  pub entries : List Entry
  pub pairs : map pair_of entries ≡ pairs_of x
  pub ran : Ran p entries t c m x

not_none : {A : Type 0} {a : Arguments} → some a ≡ none → A
not_none e = impossible (cc)

-- IN TIME after t ticks of its own
abbrev pub Timely : ℕ → Tally → ℕ → Memory → Phase → Type 0
Timely t c p m idle = Unit {0}
Timely t c p m plain = Unit {0}
Timely t c p m (reading r w s) = Reads w t s
Timely t c p m (exchanging r x) = InExchange t c p m x
Timely t c p m (transacting x s) = Unit {0}

-- an operation with these arguments and answers may take t ticks and do that in them
abbrev pub Rate : Arguments → List ℕ → ℕ → Tally → Type 0
Rate (read_of w) vs t c = (t ≡ 2) ⊎ (t ≡ 3)
Rate (swap_of ps) vs t c = TakesExactly (length ps) (vs ≡ 1 ∷ []) t c
Rate (transaction_of rs l) vs t c = Unit {0}

abbrev pub RateBy : Option Arguments → List ℕ → ℕ → Tally → Type 0
RateBy none vs t c = Unit {0}
RateBy (some a) vs t c = Rate a vs t c

-- the operation as the event leaves it
abbrev pub amended : Event → Operation → Operation
amended nothing o = o
amended (begins a) o = o
amended (amends f) o = f o

-- the ticks count only inside an operation
pub timely-inside : {t t' : ℕ} (c c' : Tally) (p : ℕ) (m : Memory) (f : Phase) → (InOperation (given f) → t' ≡ t) → (InOperation (given f) → c' ≡ c)
    → Timely t c p m f → Timely t' c' p m f
timely-inside c c' p m idle e g h = tt
timely-inside c c' p m plain e g h = tt
timely-inside c c' p m (reading r w s) e g h = rw (e tt) h
timely-inside c c' p m (exchanging r x) e g h = rw (e tt, g tt) h
timely-inside c c' p m (transacting x s) e g h = tt

-- another task's statement
pub timely_others : (t : ℕ) (c : Tally) (p : ℕ) (m n : Memory) (f : Phase) → (status_of m p ≡ 1 → status_of n p ≡ 1) → Timely t c p m f
    → Timely t c p n f
timely_others t c p m n idle k h = tt
timely_others t c p m n plain k h = tt
timely_others t c p m n (reading r w s) k h = h
timely_others t c p m n (exchanging r x) k h = record { entries = h.entries; pairs = h.pairs; ran = others h.ran k }
timely_others t c p m n (transacting x s) k h = tt

-- one that goes on with these arguments has done fewer ticks than it may
abbrev pub Fewer : Arguments → ℕ → Type 0
Fewer (read_of w) t = t < 3
Fewer (swap_of ps) t = t < 9 * length ps + 4
Fewer (transaction_of rs l) t = Unit {0}

pub timely_fewer : (t : ℕ) (c : Tally) (p : ℕ) (m : Memory) (f : Phase) (a : Arguments) → given f ≡ some a → Timely t c p m f → Fewer a t
timely_fewer t c p m idle a e h = not_none (sym e)
timely_fewer t c p m plain a e h = not_none (sym e)
timely_fewer t c p m (reading r w s) a e h = let z : read_of w ≡ a = cc in rw (← z) (reading-ends h)
timely_fewer t c p m (exchanging r x) a e h =
    let z : swap_of (pairs_of x) ≡ a = cc in rw (← z, ← h.pairs, length-map h.entries pair_of) (exchange-ends h.ran)
timely_fewer t c p m (transacting x s) a e h = let z : transaction_of x.kept (until_commit x.commands) ≡ a = cc in rw (← z) tt

-- TASK p'S OWN STATEMENT, which did d: it is in time afterwards, and if its operation ends, that took what it may
pub record TimelyNext (g : Option Arguments) (d : Deed) (t : ℕ) (c : Tally) (p : ℕ) (m : Memory) (f : Phase) : Type 0 where
  pub inside : Timely t c p m f
  pub ended : given f ≡ none → (u : ℕ) (o : Operation) → RateBy g (amended (event_of u d) o).answers t c

done-timely : (l : List BodyCommand) (u : Task) (rs : List ℕ) (ps : List Entry) (cs : List ℕ) (t : ℕ) (n : Tally) (p : ℕ) (m : Memory)
    → Timely t n p m (done_by l u rs ps cs).job.phase
unfolding done_by
done-timely [] u rs ps cs t n p m = tt
done-timely (c ∷ l) u rs ps cs t n p m = tt

-- an answer that is 1 is yes
yes-takes : (k t : ℕ) (c : Tally) (yes? : Bool) → TakesExactly k (yes? ≡ true) t c → TakesExactly k (answer yes? ∷ [] ≡ 1 ∷ []) t c
yes-takes k t c yes? h = record {
  exact = h.exact;
  words = h.words;
  stops = h.stops;
  fetches = h.fetches;
  marks = h.marks;
  all = λ e. h.all (said yes? e);
  most = h.most;
  undisturbed = λ e. h.undisturbed (said yes? e);
}
  where
    said : (b : Bool) → answer b ∷ [] ≡ 1 ∷ [] → b ≡ true
    said true e = refl
    said false e = let z : ◌≡◌ {A = ℕ} 0 1 = cc in absurd (omega arith)

-- inside a transaction a task stays there until it is outside
abbrev Stays : Option Arguments → Option Arguments → Type 0
Stays none g = Unit {0}
Stays (some a) none = Unit {0}
Stays (some a) (some b) = b ≡ a

moves_stay : {g g' : Option Arguments} {b b' : Bool} {d : Deed} {s : Settling} → Moves g b d s g' b' → Stays g g'
moves_stay stays_outside = tt
moves_stay begun = tt
moves_stay goes_on = refl
moves_stay (gets v) = refl
moves_stay loses = refl
moves_stay (read_ends v) = tt
moves_stay swap_commits = refl
moves_stay swap_ends = tt
moves_stay swap_commits_and_ends = tt
moves_stay swap_rejected = tt
moves_stay transaction_commits = refl
moves_stay transaction_ends = tt
moves_stay transaction_commits_and_ends = tt
moves_stay nothing_touched = tt
moves_stay ends_spent = tt

transaction-timely : (rs : List ℕ) (l : List BodyCommand) (t : ℕ) (c : Tally) (p : ℕ) (m : Memory) (f : Phase)
    → Stays (some (transaction_of rs l)) (given f) → Timely t c p m f
transaction-timely rs l t c p m idle e = tt
transaction-timely rs l t c p m plain e = tt
transaction-timely rs l t c p m (reading r w s) e = impossible (cc)
transaction-timely rs l t c p m (exchanging r x) e = impossible (cc)
transaction-timely rs l t c p m (transacting x s) e = tt

module _ (p : ℕ) (m : Memory) (u : Task) (below : p < length m.status) where
  -- the first tick of an operation
  plain-timely : u.job.phase ≡ plain → (l : List BodyCommand)
      → Timely 1 no_tally p (plain_tick p m u l).memory (plain_tick p m u l).task.job.phase
  unfolding plain_tick read_tick read_by exchange_tick swap_by tally_of
  plain-timely e [] = rw e tt
  plain-timely e (LOAD r v ∷ l) = done-timely (rest u.job.commands) u _ _ _ 1 no_tally p m
  plain-timely e (ADD r q ∷ l) = done-timely (rest u.job.commands) u _ _ _ 1 no_tally p m
  plain-timely e (outside (READ r w) ∷ l) = goes_on_reading m at_first refl
  plain-timely e (outside (PAIR w o n) ∷ l) = done-timely (rest u.job.commands) u _ _ _ 1 no_tally p m
  plain-timely e (outside (SWAP r) ∷ l) = record { entries = u.job.pairs; pairs = refl; ran = own-tick (before-start m) below tt refl }
  plain-timely e (outside BEGIN ∷ l) = tt
  plain-timely e (inside c ∷ l) = rw e tt

  module _ (t : ℕ) (c : Tally) where
    read-timely : (r w : ℕ) (s : Reading) (o : Read) → read_tick m w s ≡ o → Reads w t s
        → TimelyNext (some (read_of w)) (read_by m u r w o).did (suc t) (plus c no_tally) p (read_by m u r w o).memory (read_by m u r w o).task.job.phase
    unfolding read_by
    read-timely r w s (reads s') e h = record { inside = goes_on_reading m h e; ended = λ z v o. not_none z }
    read-timely r w s (gives v) e h =
        record { inside = done-timely (rest u.job.commands) u _ _ _ (suc t) (plus c no_tally) p m; ended = λ z v' o. reading_rate h m v e }

    swap-timely : (r : ℕ) (x : Exchange) (o : Exchanged) → exchange_tick p m x x.step ≡ o → MarksOther p x x.step → InExchange t c p m x
        → TimelyNext (some (swap_of (pairs_of x))) (swap_by u r x o).did (suc t) (plus c (tally_of p m x x.step)) p (swap_by u r x o).memory
        (swap_by u r x o).task.job.phase
    unfolding swap_by event_of
    swap-timely r x (goes m' x') e a h =
        let k : Follows p m x x.step (goes m' x') = subst (λ (o : Exchanged). Follows p m x x.step o) e (follows p m x x.step) in
        record {
          inside = record { entries = h.entries; pairs = h.pairs ∙ sym k.pairs; ran = own-tick h.ran below a e };
          ended = λ z v o. not_none z;
        }
    swap-timely r x (ends m' yes?) e a h = record {
      inside = done-timely (rest u.job.commands) u _ _ _ (suc t) _ p m';
      ended = λ z v o. yes-takes (length (pairs_of x)) (suc t) _ yes?
          (rw (← h.pairs, length-map h.entries pair_of) (exchange-exact h.ran below a e));
    }

    pub timely-next : (f : Phase) → u.job.phase ≡ f → ((x : Exchange) → exchange_in f ≡ some x → MarksOther p x x.step) → Timely t c p m f
        → InOperation (given f)
        → TimelyNext (given f) (statement p m u f).did (suc t) (plus c (tally_in p m f)) p (statement p m u f).memory
        (statement p m u f).task.job.phase
    unfolding statement
    timely-next idle e a h i = absurd i
    timely-next plain e a h i = absurd i
    timely-next (reading r w s) e a h i = read-timely r w s (read_tick m w s) refl h
    timely-next (exchanging r x) e a h i = swap-timely r x (exchange_tick p m x x.step) refl (a x refl) h
    timely-next (transacting x s) e a h i = record {
      inside =
          transaction-timely x.kept (until_commit x.commands) (suc t) _ p (statement p m u (transacting x s)).memory
          (statement p m u (transacting x s)).task.job.phase (moves_stay (moves p m u (transacting x s) e));
      ended = λ z v o. tt;
    }

  pub timely-first : (f : Phase) → u.job.phase ≡ f → (InOperation (given f) → ⊥)
      → Timely 1 no_tally p (statement p m u f).memory (statement p m u f).task.job.phase
  unfolding statement
  timely-first idle e n = rw e tt
  timely-first plain e n = plain-timely e u.job.commands
  timely-first (reading r w s) e n = absurd (n tt)
  timely-first (exchanging r x) e n = absurd (n tt)
  timely-first (transacting x s) e n = absurd (n tt)
