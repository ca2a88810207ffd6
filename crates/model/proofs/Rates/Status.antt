-- A statement of task p leaves another task's status 1 as it is: other tasks only ever mark it.
use Prim.Native.Nat.{ℕ}
use mathlib.Core.Bool.{Bool}
use mathlib.Core.Path.{◌≡◌, refl, ◌∙◌}
use mathlib.Core.Logic.{◌≢◌}
use lib.Dec.{ltb}
use lib.ListN.{length}
use borrow.Author.Tests.{ltb-true, ltb-false}
use Rattle.model.specs.Word.{Memory, status_of, set_status}
use Rattle.model.specs.Exchange.{Exchange, Exchanged}
use Rattle.model.specs.Job.{Task}
use Rattle.model.specs.Machine.{statement}
use Rattle.model.proofs.Lists.{same?, test?, replace-same, replace-other, replace-past}
use Rattle.model.proofs.Exchanges.Act.{Act, memory_after}
use Rattle.model.proofs.Exchanges.Outcome.{Decides, commits, refuses, Cleans, renews, passes, gives_back, leaves, marks-after, Outcome, starts}
use Rattle.model.proofs.Exchanges.Outcome.{tests_done, tests_on, loads, looks_own, looks_other, fetches, saves_differing, saves-to_mark, saves}
use Rattle.model.proofs.Exchanges.Outcome.{fails, marks, installs, misses, decides, decides_last, cleans, cleans_last, cleans_to_mark, outcome}
use Rattle.model.proofs.Demand3.Acts.{Touches, nothing, looks, exchanges, touches}
use Rattle.model.proofs.Demand3.Acts.{loads as loads_word}

module _ (p q : ℕ) (ne : q ≢ p) where
  marked-stays : (m : Memory) (r : ℕ) → status_of m q ≡ 1 → status_of (set_status m r 1) q ≡ 1
  marked-stays m r h = same? q r
      (λ e. rw e (test? (ltb r (length m.status))
      (λ l. replace-same 0 m.status r 1 (ltb-true r (length m.status) l))
      (λ l. rw (replace-past m.status r 1 (ltb-false r (length m.status) l)) (rw e at h))))
      (λ d. replace-other 0 m.status r q 1 d ∙ h)

  own-stays : (m : Memory) (v : ℕ) → status_of m q ≡ 1 → status_of (set_status m p v) q ≡ 1
  own-stays m v h = replace-other 0 m.status p q v ne ∙ h

  decided_stays : {m n : Memory} {yes? : Bool} → Decides p m n yes? → status_of m q ≡ 1 → status_of n q ≡ 1
  decided_stays {m} (commits e) h = own-stays m 2 h
  decided_stays (refuses d) h = h

  cleaned-stays : {m : Memory} {x : Exchange} {j : ℕ} {n : Memory} {yes? : Bool} → Cleans p m x j yes? n → status_of m q ≡ 1 → status_of n q ≡ 1
  cleaned-stays (renews s e f) h = h
  cleaned-stays (passes s e f) h = h
  cleaned-stays (gives_back s e f) h = h
  cleaned-stays (leaves s e f o) h = h
  cleaned-stays {m} (marks-after s) h = marked-stays m _ h

  outcome_stays : {m : Memory} {x : Exchange} {o : Exchanged} → Outcome p m x o → status_of m q ≡ 1 → status_of (memory_after o) q ≡ 1
  outcome_stays {m} (starts s) h = own-stays m 0 h
  outcome_stays (tests_done s e) h = h
  outcome_stays (tests_on s e) h = h
  outcome_stays (loads s) h = h
  outcome_stays (looks_own s w) h = h
  outcome_stays (looks_other s w) h = h
  outcome_stays (fetches s) h = h
  outcome_stays (saves_differing v s d) h = h
  outcome_stays (saves-to_mark v s d o c) h = h
  outcome_stays (saves v s d u) h = h
  outcome_stays {m} (fails s) h = own-stays m 1 h
  outcome_stays {m} (marks s) h = marked-stays m _ h
  outcome_stays (installs s e) h = h
  outcome_stays (misses s e) h = h
  outcome_stays (decides s d z) h = decided_stays d h
  outcome_stays (decides_last s d z) h = decided_stays d h
  outcome_stays (cleans j yes? c z) h = cleaned-stays c h
  outcome_stays (cleans_last j yes? c z) h = cleaned-stays c h
  outcome_stays (cleans_to_mark j yes? s e f o) h = h

  touched-stays : {m n : Memory} {t : Task} {v v' : Act} → Touches p m t v n v' → status_of m q ≡ 1 → status_of n q ≡ 1
  touched-stays (nothing s) h = rw s.is h
  touched-stays (loads_word c) h = h
  touched-stays (looks c r e) h = h
  touched-stays {m} (exchanges x i) h = outcome_stays (outcome p m x) h

  pub status-stays : (m : Memory) (t : Task) → status_of m q ≡ 1 → status_of (statement p m t t.job.phase).memory q ≡ 1
  status-stays m t h = touched-stays (touches p m t t.job.phase refl) h
