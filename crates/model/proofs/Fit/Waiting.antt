-- Where a job has ended, none waits once those that wait have started, and no arrival changes that. What has come is not to come again.
use Prim.Native.Nat.{ℕ, zero, suc, ◌<◌, ◌≤◌}
use mathlib.Core.Path.{◌≡◌, refl, sym, ◌∙◌, ap}
use mathlib.Core.Bool.{Bool, true, false, true≢false}
use mathlib.Core.Logic.{◌≢◌}
use mathlib.Core.List.{List, [], ◌∷◌}
use native.Mathlib.Omega.{arith}
use lib.ListN.{length}
use Rattle.model.specs.Ceilings.{max_tasks}
use Rattle.model.specs.Lists.{at}
use Rattle.model.specs.Command.{Release}
use Rattle.model.specs.Job.{Task}
use Rattle.model.specs.Machine.{Machine, no_task, waiting_at, unfinished, unfinished_at, starting, behind, dropping, released, to_come}
use Rattle.model.specs.Machine.{oldest_by, start_by, start_oldest, start_waiting, arrive, enter, none?, none_waits}
use Rattle.model.proofs.Lists.{same?, replace-same, replace-other, length-replace, at-past}
use Rattle.model.proofs.Fit.Elements.{and_false, replace-part}
use Rattle.model.proofs.Fit.Enter.{Entering, oldest, starts, waits, drops, along, arrive_enters, NoneDue, none-arrives, due-arrives}
use Rattle.model.proofs.Fit.Enter.{oldest_releases}

-- the task's job is unfinished, or none waits behind it
abbrev pub SettledAt : Machine → ℕ → Type 0
SettledAt m p = unfinished_at m p ≡ false → waiting_at m.waiting p ≡ []

abbrev pub Settled : Machine → Type 0
Settled m = (p : ℕ) → SettledAt m p

-- ANOTHER TASK'S job starts, or another task's waiting ones change
module _ (m : Machine) {p q : ℕ} (d : q ≢ p) where
  pub started-other : unfinished_at (starting p m) q ≡ unfinished_at m q
  started-other = ap (λ (t : Task). unfinished t.job.phase) (replace-other no_task m.tasks p q _ d)

  pub behind-other : (l : List Release) → waiting_at (behind p l m).waiting q ≡ waiting_at m.waiting q
  behind-other l = replace-other [] m.waiting p q l d

-- a drop leaves every job
pub dropped_any : (m : Machine) (p q : ℕ) → unfinished_at (dropping p m) q ≡ unfinished_at m q
dropped_any m p q = replace-part no_task (λ (t : Task). unfinished t.job.phase) m.tasks p _ refl q

pub started-same : (m : Machine) {p : ℕ} → p < length m.tasks → unfinished_at (starting p m) p ≡ true
started-same m {p} h = ap (λ (t : Task). unfinished t.job.phase) (replace-same no_task m.tasks p _ h)

-- ONE THING THAT COMES BEFORE A STATEMENT keeps the machine settled
pub record SettledFit (m : Machine) : Type 0 where
  pub size : length m.tasks ≡ max_tasks
  pub settled : Settled m

pub entering_settled : {m n : Machine} → Entering m n → SettledFit m → SettledFit n
entering_settled {m} (oldest p r l h u w) f = record {
  size = length-replace m.tasks p _ ∙ f.size;
  settled = λ q. same? q p
      (λ e i. absurd (true≢false (sym (started-same (behind p l m) (rw f.size h)) ∙ rw e at i)))
      (λ d i. behind-other m d l ∙ f.settled q (sym (started-other (behind p l m) d) ∙ i));
}
entering_settled {m} (starts r l due u) f = record {
  size = length-replace m.tasks r.task _ ∙ f.size;
  settled = λ q. same? q r.task (λ e i. rw e (f.settled r.task u)) (λ d i. f.settled q (sym (started-other m d) ∙ i));
}
entering_settled {m} (waits r l due u k) f = record {
  size = f.size;
  settled = λ q. same? q r.task (λ e i. absurd (true≢false (sym u ∙ rw e at i))) (λ d i. behind-other m d _ ∙ f.settled q i);
}
entering_settled {m} (drops r l due u k) f = record {
  size = length-replace m.tasks r.task _ ∙ f.size;
  settled = λ q i. f.settled q (sym (dropped_any m r.task q) ∙ i);
}

pub arrive_settled : {l : List Release} {m : Machine} → m.releases ≡ l → SettledFit m → SettledFit (arrive l m)
arrive_settled {l} {m} e f = along SettledFit (λ m n. entering_settled) (arrive_enters l m [] e) f

-- THOSE THAT WAIT START
oldest_settled : {p : ℕ} (m : Machine) → p < length m.tasks → SettledAt (start_oldest p m) p
unfolding oldest_by
oldest_settled {p} m h = go (unfinished_at m p) refl (waiting_at m.waiting p) refl
  where
    go : (b : Bool) → unfinished_at m p ≡ b → (l : List Release) → waiting_at m.waiting p ≡ l → SettledAt (start_by b l p m) p
    go true u l w = λ i. absurd (true≢false (sym u ∙ i))
    go false u [] w = λ i. w
    go false u (r ∷ l) w = λ i. absurd (true≢false (sym (started-same (behind p l m) h) ∙ i))

module _ (m : Machine) {p q : ℕ} (d : q ≢ p) where
  oldest_other : SettledAt m q → SettledAt (start_oldest p m) q
  unfolding oldest_by
  oldest_other f = go (unfinished_at m p) (waiting_at m.waiting p)
    where
      go : (b : Bool) (l : List Release) → SettledAt (start_by b l p m) q
      go true l = f
      go false [] = f
      go false (r ∷ l) = λ i. behind-other m d l ∙ f (sym (started-other (behind p l m) d) ∙ i)

oldest_size : (p : ℕ) (m : Machine) → length (start_oldest p m).tasks ≡ length m.tasks
unfolding oldest_by
oldest_size p m = go (unfinished_at m p) (waiting_at m.waiting p)
  where
    go : (b : Bool) (l : List Release) → length (start_by b l p m).tasks ≡ length m.tasks
    go true l = refl
    go false [] = refl
    go false (r ∷ l) = length-replace m.tasks p _

-- the tasks from n on are settled, and then all
start-on : (n : ℕ) (m : Machine) → n ≤ max_tasks → length m.tasks ≡ max_tasks → ((q : ℕ) → n ≤ q → SettledAt m q) → SettledFit (start_waiting n m)
unfolding start_waiting
start-on zero m h z f = record { size = z; settled = λ q. f q (omega arith) }
start-on (suc p) m h z f =
    start-on p (start_oldest p m) (omega arith) (oldest_size p m ∙ z)
    (λ q l. same? q p (λ e. rw e (oldest_settled m (omega (arith, z)))) (λ d. oldest_other m d (f q (omega arith))))

pub start_settled : (m : Machine) → length m.tasks ≡ max_tasks → length m.waiting ≡ max_tasks → SettledFit (start_waiting max_tasks m)
start_settled m z w = start-on max_tasks m (omega arith) z (λ q l i. at-past [] m.waiting q (omega (arith, w)))

-- nobody starts in a machine that is settled
pub none_starts : (n : ℕ) {m : Machine} → Settled m → start_waiting n m ≡ m
unfolding start_waiting oldest_by
none_starts zero f = refl
none_starts (suc p) {m} f = ap (start_waiting p) here ∙ none_starts p f
  where
    go : (b : Bool) → unfinished_at m p ≡ b → start_by b (waiting_at m.waiting p) p m ≡ m
    go true u = refl
    go false u = rw (f p u)

    here : start_oldest p m ≡ m
    here = go (unfinished_at m p) refl

-- only task p can have one to start
module _ (m : Machine) (p : ℕ) (z : length m.tasks ≡ max_tasks) (others : (q : ℕ) → q ≢ p → SettledAt m q) where
  oldest_none : (k : ℕ) → k ≢ p → start_oldest k m ≡ m
  unfolding oldest_by
  oldest_none k d = go (unfinished_at m k) refl
    where
      go : (b : Bool) → unfinished_at m k ≡ b → start_by b (waiting_at m.waiting k) k m ≡ m
      go true u = refl
      go false u = rw (others k d u)

  pub one_settled : p < max_tasks → Settled (start_oldest p m)
  one_settled h q = same? q p (λ e. rw e (oldest_settled m (omega (arith, z)))) (λ d. oldest_other m d (others q d))

  pub one_starts : (n : ℕ) → p < n → n ≤ max_tasks → start_waiting n m ≡ start_oldest p m
  unfolding start_waiting
  one_starts zero h l = absurd (omega arith)
  one_starts (suc k) h l = same? k p
      (λ e. rw e (none_starts p (one_settled (omega arith))))
      (λ d. ap (start_waiting k) (oldest_none k d) ∙ one_starts k (omega arith) (omega arith))

-- WHAT IS STILL TO COME BEFORE THE STATEMENT is the same once one thing has come
settled_enters : (m : Machine) → Settled m → enter m ≡ arrive m.releases m
unfolding enter
settled_enters m f = ap (arrive m.releases) (none_starts max_tasks f)

pub release-entered : (m : Machine) → Settled m → (r : Release) (l : List Release) → m.releases ≡ r ∷ l → r.tick ≡ m.now
    → Settled (to_come (released r m) l) → enter (to_come (released r m) l) ≡ enter m
release-entered m f r l e now g =
    settled_enters (to_come (released r m) l) g ∙ sym (settled_enters m f ∙ ap (λ (k : List Release). arrive k m) e ∙ due-arrives r l m now)

pub none-entered : (m : Machine) → Settled m → NoneDue m m.releases → enter m ≡ m
none-entered m f d = settled_enters m f ∙ none-arrives m d

pub oldest_entered : (m : Machine) (p : ℕ) → p < max_tasks → length m.tasks ≡ max_tasks → ((q : ℕ) → q ≢ p → SettledAt m q)
    → enter (start_oldest p m) ≡ enter m
unfolding enter
oldest_entered m p h z others =
    settled_enters (start_oldest p m) (one_settled m p z others h)
    ∙ ap (λ (k : List Release). arrive k (start_oldest p m)) (oldest_releases p m)
    ∙ ap (arrive m.releases) (sym (one_starts m p z others max_tasks h (omega arith)))

-- NONE WAITS
pub none-waits : (ws : List (List Release)) → ((p : ℕ) → waiting_at ws p ≡ []) → none_waits ws ≡ true
unfolding at
none-waits [] f = refl
none-waits (l ∷ ws) f = rw (f 0, none-waits ws (λ p. f (suc p)))

pub some-waits : (ws : List (List Release)) {r : Release} {l : List Release} (p : ℕ) → waiting_at ws p ≡ r ∷ l → none_waits ws ≡ false
unfolding at
some-waits [] p e = let z = ap length e in absurd (omega arith)
some-waits (l ∷ ws) zero e = rw e refl
some-waits (l ∷ ws) (suc p) e = rw (some-waits ws p e) (and_false (none? l))
