-- What comes before a tick's statement, one thing after the other: the oldest waiting release of a task starts, or a release arrives.
-- And what the observer of arrivals notes of it.
use Prim.Native.Nat.{ℕ, zero, suc, ◌<◌, ◌≤◌}
use mathlib.Core.Path.{◌≡◌, refl, sym, ◌∙◌, ap, subst}
use mathlib.Core.Bool.{Bool, true, false}
use mathlib.Core.List.{List, [], ◌∷◌, ◌++◌}
use native.Mathlib.Omega.{arith}
use lib.ListN.{length}
use lib.Dec.{eqb}
use borrow.Author.Tests.{ltb-true, ltb-false, eq-eqb, eqb-true}
use Rattle.model.specs.Ceilings.{max_tasks, max_waiting}
use Rattle.model.specs.Command.{Release}
use Rattle.model.specs.Machine.{Machine, waiting_at, unfinished_at, starting, behind, dropping, to_come}
use Rattle.model.specs.Machine as M
use Rattle.model.specs.Machine.{Fate, started_job, neither, fate_by, room_at, fate_of, released_to, released}
use Rattle.model.specs.Machine.{arrive_by, arrive, oldest_by, start_by, start_oldest, start_waiting, enter}
use Rattle.model.specs.Arrivals.{Arrival, arrival, first_starts, seen_start_by, seen_starts}
use Rattle.model.specs.Arrivals.{seen_arrive_by, seen_arrive, seen_enter}
use Rattle.model.proofs.Lists.{test?}

-- the next release is due
pub record Due (m : Machine) (r : Release) (l : List Release) : Type 0 where
  pub next : m.releases ≡ r ∷ l
  pub now : r.tick ≡ m.now

pub data Entering (m : Machine) : Machine → Type 0 where
  -- the oldest of those that wait behind a job that has ended
  oldest : (p : ℕ) (r : Release) (l : List Release) → p < max_tasks → unfinished_at m p ≡ false → waiting_at m.waiting p ≡ r ∷ l
      → Entering m (starting p (behind p l m))
  -- a release
  starts : (r : Release) (l : List Release) → Due m r l → unfinished_at m r.task ≡ false → Entering m (to_come (starting r.task m) l)
  waits : (r : Release) (l : List Release) → Due m r l → unfinished_at m r.task ≡ true
      → length (waiting_at m.waiting r.task) < max_waiting
      → Entering m (to_come (behind r.task (waiting_at m.waiting r.task ++ (r ∷ [])) m) l)
  drops : (r : Release) (l : List Release) → Due m r l → unfinished_at m r.task ≡ true
      → max_waiting ≤ length (waiting_at m.waiting r.task)
      → Entering m (to_come (dropping r.task m) l)

abbrev pub notes : {m n : Machine} → Entering m n → List Arrival → List Arrival
notes {m} (oldest p r l h u w) xs = first_starts p m.now xs
notes {m} (starts r l d u) xs = xs ++ (arrival r (started_job m.now) ∷ [])
notes (waits r l d u k) xs = xs ++ (arrival r M.waits ∷ [])
notes (drops r l d u k) xs = xs ++ (arrival r neither ∷ [])

pub data Entered : Machine → List Arrival → Machine → List Arrival → Type 0 where
  nothing : {m : Machine} {xs : List Arrival} → Entered m xs m xs
  then : {m n k : Machine} {xs ys : List Arrival} (s : Entering m n) → Entered n (notes s xs) k ys → Entered m xs k ys

-- what each of them keeps, all keep
pub along_noted : {m n : Machine} {xs ys : List Arrival} (P : Machine → List Arrival → Type 0)
    → ((m n : Machine) (xs : List Arrival) (s : Entering m n) → P m xs → P n (notes s xs)) → Entered m xs n ys → P m xs → P n ys
along_noted P keeps nothing k = k
along_noted P keeps (then s r) k = along_noted P keeps r (keeps _ _ _ s k)

pub along : {m n : Machine} {xs ys : List Arrival} (P : Machine → Type 0) → ((m n : Machine) → Entering m n → P m → P n) → Entered m xs n ys
    → P m → P n
along P keeps r k = along_noted (λ m xs. P m) (λ m n xs s. keeps m n s) r k

entered-then : {m n k : Machine} {xs ys zs : List Arrival} → Entered m xs n ys → Entered n ys k zs → Entered m xs k zs
entered-then nothing b = b
entered-then (then s r) b = then s (entered-then r b)

-- RELEASES
module _ {m : Machine} {r : Release} {l : List Release} (d : Due m r l) where
  release-by : (a : Bool) → unfinished_at m r.task ≡ a → (b : Bool) → room_at m r.task ≡ b
      → Entering m (to_come (released_to (fate_by a b m.now) r m) l)
  unfolding released_to
  release-by false u b k = starts r l d u
  release-by true u true k = waits r l d u (ltb-true _ _ k)
  release-by true u false k = drops r l d u (ltb-false _ _ k)

  pub release_enters : Entering m (to_come (released r m) l)
  release_enters = release-by (unfinished_at m r.task) refl (room_at m r.task) refl

  release_notes : (xs : List Arrival) (a : Bool) (u : unfinished_at m r.task ≡ a) (b : Bool) (k : room_at m r.task ≡ b)
      → notes (release-by a u b k) xs ≡ xs ++ (arrival r (fate_by a b m.now) ∷ [])
  unfolding released_to release-by
  release_notes xs false u b k = refl
  release_notes xs true u true k = refl
  release_notes xs true u false k = refl

  release-then : {n : Machine} {xs ys : List Arrival} → Entered (to_come (released r m) l) (xs ++ (arrival r (fate_of r m) ∷ [])) n ys
      → Entered m xs n ys
  unfolding release_enters
  release-then {n} {xs} {ys} rest =
      let e = release_notes xs (unfinished_at m r.task) refl (room_at m r.task) refl in
      then release_enters (subst (λ (z : List Arrival). Entered (to_come (released r m) l) z n ys) (sym e) rest)

-- the releases still to come do not count in what arrives
release_any : (f : Fate) (r : Release) (m : Machine) (rs : List Release) → released_to f r (to_come m rs) ≡ to_come (released_to f r m) rs
unfolding released_to
release_any (started_job t) r m rs = refl
release_any M.waits r m rs = refl
release_any neither r m rs = refl

arrive_any : (l : List Release) (m : Machine) (rs : List Release) → arrive l (to_come m rs) ≡ arrive l m
unfolding arrive arrive_by
arrive_any [] m rs = refl
arrive_any (r ∷ l) m rs = go (eqb r.tick m.now) (arrive_any l)
  where
    go : (b : Bool) → ((m : Machine) (rs : List Release) → arrive l (to_come m rs) ≡ arrive l m)
        → arrive_by b (arrive l) r l (to_come m rs) ≡ arrive_by b (arrive l) r l m
    go true on = ap (arrive l) (release_any (fate_of r m) r m rs) ∙ on (released r m) rs
    go false on = refl

-- a release that is due has arrived; none is due
pub due-arrives : (r : Release) (l : List Release) (m : Machine) → r.tick ≡ m.now → arrive (r ∷ l) m ≡ arrive l (to_come (released r m) l)
unfolding arrive arrive_by
due-arrives r l m e = rw (eq-eqb r.tick m.now e) (sym (arrive_any l (released r m) l))

abbrev pub NoneDue : Machine → List Release → Type 0
NoneDue m [] = Unit {0}
NoneDue m (r ∷ l) = eqb r.tick m.now ≡ false

pub none-arrives : (m : Machine) → NoneDue m m.releases → arrive m.releases m ≡ m
unfolding arrive arrive_by
none-arrives m d = go m.releases refl d
  where
    go : (l : List Release) → m.releases ≡ l → NoneDue m l → arrive l m ≡ m
    go [] e d = ap (to_come m) (sym e)
    go (r ∷ l) e d = rw d (ap (to_come m) (sym e))

-- nor in what is noted
noted_any : (l : List Release) (m : Machine) (rs : List Release) (xs : List Arrival) → seen_arrive l (to_come m rs) xs ≡ seen_arrive l m xs
unfolding seen_arrive seen_arrive_by
noted_any [] m rs xs = refl
noted_any (r ∷ l) m rs xs = go (eqb r.tick m.now) (noted_any l)
  where
    go : (b : Bool) → ((m : Machine) (rs : List Release) (xs : List Arrival) → seen_arrive l (to_come m rs) xs ≡ seen_arrive l m xs)
        → seen_arrive_by b (seen_arrive l) r (to_come m rs) xs ≡ seen_arrive_by b (seen_arrive l) r m xs
    go true on =
        let noted = xs ++ (arrival r (fate_of r m) ∷ []) in
        ap (λ (n : Machine). seen_arrive l n noted) (release_any (fate_of r m) r m rs) ∙ on (released r m) rs noted
    go false on = refl

pub arrive_enters : (l : List Release) (m : Machine) (xs : List Arrival) → m.releases ≡ l → Entered m xs (arrive l m) (seen_arrive l m xs)
unfolding arrive arrive_by seen_arrive seen_arrive_by
arrive_enters [] m xs e = subst (λ (z : Machine). Entered m xs z xs) (ap (to_come m) e) nothing
arrive_enters (r ∷ l) m xs e =
    test? (eqb r.tick m.now)
    (λ d. due d (arrive_enters l (to_come (released r m) l) (xs ++ (arrival r (fate_of r m) ∷ [])) refl))
    (λ d. later d)
  where
    next : Machine
    next = to_come (released r m) l

    seen : List Arrival
    seen = xs ++ (arrival r (fate_of r m) ∷ [])

    due : eqb r.tick m.now ≡ true → Entered next seen (arrive l next) (seen_arrive l next seen)
        → Entered m xs (arrive (r ∷ l) m) (seen_arrive (r ∷ l) m xs)
    due d rest =
        rw d (release-then (record { next = e; now = eqb-true _ _ d })
        (rw (arrive_any l (released r m) l, noted_any l (released r m) l seen) at rest))

    later : eqb r.tick m.now ≡ false → Entered m xs (arrive (r ∷ l) m) (seen_arrive (r ∷ l) m xs)
    later d = rw d (subst (λ (z : Machine). Entered m xs z xs) (ap (to_come m) e) nothing)

-- then none is due any more
pub arrive-all : (l : List Release) (m : Machine) → NoneDue (arrive l m) (arrive l m).releases
unfolding arrive arrive_by
arrive-all [] m = tt
arrive-all (r ∷ l) m = test? (eqb r.tick m.now) (λ d. rw d (arrive-all l (released r m))) (λ d. rw (d, d) refl)

-- THOSE THAT WAIT
oldest_then : (p : ℕ) (m : Machine) {k : Machine} (xs : List Arrival) {ys : List Arrival} → p < max_tasks
    → Entered (start_oldest p m) (seen_start_by (unfinished_at m p) (waiting_at m.waiting p) p m.now xs) k ys → Entered m xs k ys
unfolding oldest_by
oldest_then p m {k} xs {ys} h = go (unfinished_at m p) refl (waiting_at m.waiting p) refl
  where
    go : (b : Bool) → unfinished_at m p ≡ b → (l : List Release) → waiting_at m.waiting p ≡ l
        → Entered (start_by b l p m) (seen_start_by b l p m.now xs) k ys → Entered m xs k ys
    go true u l w rest = rest
    go false u [] w rest = rest
    go false u (r ∷ l) w rest = then (oldest p r l h u w) rest

start-all : (n : ℕ) (m : Machine) (xs : List Arrival) → n ≤ max_tasks → Entered m xs (start_waiting n m) (seen_starts n m xs)
unfolding start_waiting seen_starts
start-all zero m xs h = nothing
start-all (suc p) m xs h = oldest_then p m xs h (start-all p (start_oldest p m) _ (omega arith))

pub oldest_releases : (p : ℕ) (m : Machine) → (start_oldest p m).releases ≡ m.releases
unfolding oldest_by
oldest_releases p m = go (unfinished_at m p) (waiting_at m.waiting p)
  where
    go : (b : Bool) (l : List Release) → (start_by b l p m).releases ≡ m.releases
    go true l = refl
    go false [] = refl
    go false (r ∷ l) = refl

pub start-releases : (n : ℕ) (m : Machine) → (start_waiting n m).releases ≡ m.releases
unfolding start_waiting
start-releases zero m = refl
start-releases (suc p) m = start-releases p (start_oldest p m) ∙ oldest_releases p m

-- ALL THAT COMES BEFORE A TICK'S STATEMENT
pub entered : (m : Machine) (xs : List Arrival) → Entered m xs (enter m) (seen_enter m xs)
unfolding enter seen_enter
entered m xs =
    entered-then (start-all max_tasks m xs (omega arith))
    (arrive_enters m.releases (start_waiting max_tasks m) (seen_starts max_tasks m xs) (start-releases max_tasks m))
