-- The history of a run: its operations with task, arguments, first and last tick, commit and answers,
-- read off the statements that the run does.
use Rattle.std.specs.Prelude.{ℕ, Bool, true, false, List, [], ◌∷◌, ◌++◌, replicate}
use Rattle.std.proofs.Math.Option.{Option, none, some}
use Rattle.model.specs.Ceilings.{max_tasks}
use Rattle.model.specs.Lists.{at, replace}
use Rattle.model.specs.Arguments.{Arguments}
use Rattle.model.specs.Job.{Deed, nothing_done, began, read_gave, swap_committed, swap_answered, get_gave, attempt_lost}
use Rattle.model.specs.Job.{transaction_committed, transaction_ended, ended_untouched, ended_spent}
use Rattle.model.specs.Machine.{answer, Machine, statement, turn_of, Running, nobody, running, running_of, enter, beside}

-- `last` is its last tick, none if the limit came before; `lost` are the ticks in which it lost an attempt
pub record Operation : Type 0 where
  pub task : ℕ
  pub arguments : Arguments
  pub last : Option ℕ
  pub committed : Bool
  pub spent : Bool
  pub answers : List ℕ
  pub lost : List ℕ

abbrev pub operation : ℕ → Arguments → Option ℕ → Bool → Bool → List ℕ → List ℕ → Operation
operation p a l c s vs ts = record { task = p; arguments = a; last = l; committed = c; spent = s; answers = vs; lost = ts }

-- For each tick done the operation that began in it, if one did, so that an operation's number is its first tick;
-- and for each task the number of its latest operation.
pub record History : Type 0 where
  pub began : List (Option Operation)
  pub latest : List ℕ

abbrev pub no_history : History
no_history = record { began = []; latest = replicate max_tasks 0 }

abbrev pub operation_at : History → ℕ → Option Operation
operation_at h t = at none h.began t

-- WHAT A STATEMENT MEANS FOR ITS TASK'S OPERATION: nothing, it begins with those arguments, or it is amended
pub data Event : Type 0 where
  nothing : Event
  begins : Arguments → Event
  amends : (Operation → Operation) → Event

abbrev pub answering : List ℕ → Operation → Operation
answering vs o = operation o.task o.arguments o.last o.committed o.spent vs o.lost

abbrev pub ending : ℕ → Operation → Operation
ending t o = operation o.task o.arguments (some t) o.committed o.spent o.answers o.lost

abbrev pub as_committed : Operation → Operation
as_committed o = operation o.task o.arguments o.last true o.spent o.answers o.lost

abbrev pub as_spent : Operation → Operation
as_spent o = operation o.task o.arguments o.last o.committed true o.answers o.lost

-- an attempt is lost in tick t: what it answered is forgotten
abbrev pub losing : ℕ → Operation → Operation
losing t o = operation o.task o.arguments o.last o.committed o.spent [] (o.lost ++ (t ∷ []))

-- by what the statement of tick t did; a committed SWAP's answer is 1 from its Commit on
unfoldable pub event_of : ℕ → Deed → Event
event_of t nothing_done = nothing
event_of t (began given) = begins given
event_of t (read_gave v) = amends (λ o. ending t (answering (v ∷ []) o))
event_of t swap_committed = amends (λ o. as_committed (answering (1 ∷ []) o))
event_of t (swap_answered yes?) = amends (λ o. ending t (answering (answer yes? ∷ []) o))
event_of t (get_gave v) = amends (λ o. answering (o.answers ++ (v ∷ [])) o)
event_of t attempt_lost = amends (λ o. losing t o)
event_of t transaction_committed = amends (λ o. as_committed o)
event_of t transaction_ended = amends (λ o. ending t o)
event_of t ended_untouched = amends (λ o. ending t (as_committed o))
event_of t ended_spent = amends (λ o. ending t (as_spent o))

-- THE HISTORY OF A RUN
abbrev pub amend_by : (Operation → Operation) → Option Operation → Option Operation
amend_by f none = none
amend_by f (some o) = some (f o)

unfoldable pub noted : ℕ → ℕ → Event → History → History
unfolding at replace
noted t p nothing h = record { began = h.began ++ (none ∷ []); latest = h.latest }
noted t p (begins given) h =
    record { began = h.began ++ (some (operation p given none false false [] []) ∷ []); latest = replace h.latest p t }
noted t p (amends f) h =
    let n : ℕ = at 0 h.latest p in
    record { began = replace h.began n (amend_by f (operation_at h n)) ++ (none ∷ []); latest = h.latest }

-- a tick in which that task runs, its releases having arrived
unfoldable pub observed : Machine → Running → History → History
unfolding at noted event_of statement
observed m nobody h = noted m.now 0 nothing h
observed m (running p) h = noted m.now p (event_of m.now (turn_of m p).did) h

unfoldable pub observed_tick : Machine → History → History
unfolding observed running_of enter
observed_tick m h =
    let n : Machine = enter m in
    observed n (running_of n) h

unfoldable pub history_of : ℕ → Machine → History
unfolding beside observed_tick
history_of limit m = beside observed_tick limit m no_history
