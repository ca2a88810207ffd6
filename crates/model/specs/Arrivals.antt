-- The arrivals of a run: every release that arrived, in order, with its fate, read off the run by an observer, as its history is.
use Rattle.std.specs.Prelude.{ℕ, zero, suc, Bool, true, false, ◌&&◌, List, [], ◌∷◌, ◌++◌, eqb}
use Rattle.model.specs.Ceilings.{max_tasks}
use Rattle.model.specs.Command.{Release}
use Rattle.model.specs.Machine.{Machine, waiting_at, unfinished_at, oldest_by, start_oldest, start_waiting, beside}
use Rattle.model.specs.Machine.{Fate, started_job, waits, neither, fate_of, released_to, released, due}

pub record Arrival : Type 0 where
  pub release : Release
  pub fate : Fate

abbrev pub arrival : Release → Fate → Arrival
arrival r f = record { release = r; fate = f }

-- THOSE THAT WAITED START
abbrev pub waits? : Fate → Bool
waits? (started_job t) = false
waits? waits = true
waits? neither = false

abbrev pub waits_for : ℕ → Arrival → Bool
waits_for p a = eqb a.release.task p && waits? a.fate

abbrev pub first_starts_by : Bool → ℕ → Arrival → List Arrival → List Arrival → List Arrival
first_starts_by true t a l others = arrival a.release (started_job t) ∷ l
first_starts_by false t a l others = a ∷ others

-- the first arrival of task p that waits starts a job in tick t
unfoldable pub first_starts : ℕ → ℕ → List Arrival → List Arrival
first_starts p t [] = []
first_starts p t (a ∷ l) = first_starts_by (waits_for p a) t a l (first_starts p t l)

abbrev pub seen_start_by : Bool → List Release → ℕ → ℕ → List Arrival → List Arrival
seen_start_by b l p t xs = oldest_by b l xs (λ others. first_starts p t xs)

-- so for all tasks below n
unfoldable pub seen_starts : ℕ → Machine → List Arrival → List Arrival
unfolding oldest_by first_starts
seen_starts zero m xs = xs
seen_starts (suc p) m xs =
    seen_starts p (start_oldest p m) (seen_start_by (unfinished_at m p) (waiting_at m.waiting p) p m.now xs)

-- THIS TICK'S RELEASES ARRIVE
unfoldable pub seen_arrive_by : Bool → (Machine → List Arrival → List Arrival) → Release → Machine → List Arrival → List Arrival
unfolding released_to
seen_arrive_by true go r m xs = go (released r m) (xs ++ (arrival r (fate_of r m) ∷ []))
seen_arrive_by false go r m xs = xs

unfoldable pub seen_arrive : List Release → Machine → List Arrival → List Arrival
unfolding seen_arrive_by
seen_arrive [] m xs = xs
seen_arrive (r ∷ l) m xs =
    let go : Machine → List Arrival → List Arrival = seen_arrive l in
    seen_arrive_by (due r m) go r m xs

-- THE ARRIVALS OF A RUN
-- what comes before a tick's statement
unfoldable pub seen_enter : Machine → List Arrival → List Arrival
unfolding seen_arrive seen_starts start_waiting
seen_enter m xs = seen_arrive m.releases (start_waiting max_tasks m) (seen_starts max_tasks m xs)

unfoldable pub arrivals_of : ℕ → Machine → List Arrival
unfolding beside seen_enter
arrivals_of limit m = beside seen_enter limit m []

-- THOSE OF A TASK
abbrev pub started? : Fate → Bool
started? (started_job t) = true
started? waits = false
started? neither = false

abbrev pub started_in? : ℕ → Fate → Bool
started_in? u (started_job t) = eqb t u
started_in? u waits = false
started_in? u neither = false

abbrev pub neither? : Fate → Bool
neither? (started_job t) = false
neither? waits = false
neither? neither = true

abbrev pub kept_by : Bool → Release → List Release → List Release
kept_by true r l = r ∷ l
kept_by false r l = l

-- the releases of task p with such a fate
unfoldable pub with_fate : (Fate → Bool) → ℕ → List Arrival → List Release
with_fate is? p [] = []
with_fate is? p (a ∷ l) = kept_by (eqb a.release.task p && is? a.fate) a.release (with_fate is? p l)
