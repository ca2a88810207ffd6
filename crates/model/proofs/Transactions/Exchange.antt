-- A tick of an exchange, as the transaction around it sees it: whether it says yes, and that no store changes.
use Prim.Native.Nat.{ℕ}
use mathlib.Core.Bool.{Bool, true, false}
use mathlib.Core.Path.{◌≡◌, refl, sym, ◌∙◌, ap}
use borrow.Author.Tests.{ne_eqb}
use Rattle.model.specs.Word.{Memory, status_of, set_status}
use Rattle.model.specs.Exchange.{Step, start, test, load, look, fetch, fail, mark, install, commit}
use Rattle.model.specs.Exchange.{save, clean, Exchange, Exchanged, goes, ends, to, said_yes}
use Rattle.model.proofs.Exchanges.Outcome.{commits, refuses, Cleans, renews, passes, gives_back, leaves, marks-after, Outcome, starts}
use Rattle.model.proofs.Exchanges.Outcome.{tests_done, tests_on, loads, looks_own, looks_other, fetches, saves_differing, saves-to_mark}
use Rattle.model.proofs.Exchanges.Outcome.{saves, fails, marks, installs, misses, decides, decides_last, cleans, cleans_last, cleans_to_mark}
use Rattle.model.proofs.History.Exchange.{says_yes}

-- a tick, by what it says
pub data Seen (p : ℕ) (m : Memory) (x : Exchange) : Exchanged → Type 0 where
  goes_on : {n : Memory} {y : Exchange} → said_yes y.step ≡ said_yes x.step → says_yes p m x.step ≡ false → n.stores ≡ m.stores
      → Seen p m x (goes n y)
  says-yes : {y : Exchange} → said_yes y.step ≡ true → x.step ≡ commit → status_of m p ≡ 0 → Seen p m x (goes (set_status m p 2) y)
  says-yes-last : x.step ≡ commit → status_of m p ≡ 0 → x.i ≡ 0 → Seen p m x (ends (set_status m p 2) true)
  over : {n : Memory} {yes? : Bool} → yes? ≡ said_yes x.step → says_yes p m x.step ≡ false → n.stores ≡ m.stores → Seen p m x (ends n yes?)

module _ (p : ℕ) (m : Memory) (x : Exchange) where
  -- at another step than Commit
  before : {n : Memory} {y : Exchange} (s : Step) → x.step ≡ s → says_yes p m s ≡ false → said_yes y.step ≡ said_yes s → n.stores ≡ m.stores
      → Seen p m x (goes n y)
  before s e ne y st = goes_on (y ∙ ap said_yes (sym e)) (rw e ne) st

  cleaned-step : {j : ℕ} {n : Memory} {yes? : Bool} → Cleans p m x j yes? n
      → (yes? ≡ said_yes x.step) × says_yes p m x.step ≡ false × (n.stores ≡ m.stores)
  cleaned-step (renews e f g) = (rw e, rw e, refl)
  cleaned-step (passes e f g) = (rw e, rw e, refl)
  cleaned-step (gives_back e f g) = (rw e, rw e, refl)
  cleaned-step (leaves e f g h) = (rw e, rw e, refl)
  cleaned-step (marks-after e) = (rw e, rw e, refl)

  pub seen : {o : Exchanged} → Outcome p m x o → Seen p m x o
  seen (starts e) = before start e refl refl refl
  seen (tests_done e f) = before test e refl refl refl
  seen (tests_on e f) = before test e refl refl refl
  seen (loads e) = before load e refl refl refl
  seen (looks_own e f) = before look e refl refl refl
  seen (looks_other e f) = before look e refl refl refl
  seen (fetches e) = before fetch e refl refl refl
  seen (saves_differing v e f) = before (save v) e refl refl refl
  seen (saves-to_mark v e f g h) = before (save v) e refl refl refl
  seen (saves v e f g) = before (save v) e refl refl refl
  seen (fails e) = before fail e refl refl refl
  seen (marks e) = before mark e refl refl refl
  seen (installs e f) = before install e refl refl refl
  seen (misses e f) = before install e refl refl refl
  seen (decides e (commits f) g) = says-yes refl e f
  seen (decides e (refuses f) g) = goes_on {y = to x (clean 0 false)} (rw e) (rw e (ne_eqb (status_of m p) 0 f)) refl
  seen (decides_last e (commits f) g) = says-yes-last e f g
  seen (decides_last e (refuses f) g) = over {yes? = false} (rw e) (rw e (ne_eqb (status_of m p) 0 f)) refl
  seen (cleans j yes? c g) = let h = cleaned-step c in goes_on h.0 h.1 h.2
  seen (cleans_last j yes? c g) = let h = cleaned-step c in over h.0 h.1 h.2
  seen (cleans_to_mark j yes? e f g h) = before (clean j yes?) e refl refl refl
