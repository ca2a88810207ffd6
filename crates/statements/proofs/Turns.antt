-- What the parts of a statement ensure makes the statement: one law for each way by the step of an exchange that its job is at.
use Rattle.std.proofs.Common.{◌≡◌, ℕ, refl}
use Rattle.std.specs.Prelude.{Some, None}
use Rattle.state.specs.State.{Shared, Own}
use Rattle.exchanges.specs.Places.{noted, left}
use Rattle.exchanges.specs.Exchange.{after_exchange}
use Rattle.exchanges.specs.declared.exchange.Step.{Step}
use Rattle.exchanges.specs.declared.exchange.Exchanged.{Exchanged}
use Rattle.jobs.specs.Jobs.{swap_by}
use Rattle.jobs.specs.declared.Inner.TheVariants.{Between, First, Copying, Again, Committing}
use Rattle.jobs.specs.declared.Phase.{Phase}
use Rattle.jobs.specs.declared.Phase.TheVariants as P
use Rattle.jobs.specs.declared.Job.{Job}
use Rattle.transactions.specs.Commits.{committed_by}
use Rattle.statements.specs.Statements.{other_tick, exchange_step, transaction_tick, step_tick}

module _ (m : Shared) (t : Own) (p : ℕ) (j : Job) where
  pub step_other : (f : Phase) → None ≡ exchange_step f → other_tick m t j f ≡ step_tick m t p j f
  unfolding exchange_step other_tick step_tick transaction_tick
  step_other P.Idle e = refl
  step_other P.Plain e = refl
  step_other (P.Read r w s) e = refl
  step_other (P.Exchange r s) e = cc
  step_other (P.Transaction Between) e = refl
  step_other (P.Transaction (First a s)) e = refl
  step_other (P.Transaction (Copying a k)) e = refl
  step_other (P.Transaction (Again a v s)) e = refl
  step_other (P.Transaction (Committing s)) e = cc

  -- SWAP's
  pub step-exchange : {f : Phase} {r : ℕ} {s z : Step} {d : Exchanged} {x : Job} {n : Shared} {u v : Own}
      → Some s ≡ exchange_step f → f ≡ P.Exchange r z
      → left d n u ≡ after_exchange m t p j.pairs j.value s → noted x v ≡ swap_by u j r d → left x n v ≡ step_tick m t p j f
  unfolding exchange_step step_tick
  step-exchange {s = s} {z = z} e1 e2 e3 e4 =
      let at : Some s ≡ Some z = rw e2 at e1 in
      let same : s ≡ z = cc in
      rw (e2, ← same, ← e3, ← e4)

  -- COMMIT's
  pub step-commit : (f : Phase) {s : Step} {d : Exchanged} {x : Job} {n : Shared} {u v : Own}
      → Some s ≡ exchange_step f → ((r : ℕ) (z : Step) → f ≡ P.Exchange r z → ⊥)
      → left d n u ≡ after_exchange m t p j.pairs j.value s → noted x v ≡ committed_by u j d → left x n v ≡ step_tick m t p j f
  unfolding exchange_step step_tick transaction_tick
  step-commit P.Idle e h e1 e2 = cc
  step-commit P.Plain e h e1 e2 = cc
  step-commit (P.Read r w z) e h e1 e2 = cc
  step-commit (P.Exchange r z) e h e1 e2 = absurd (h r z refl)
  step-commit (P.Transaction Between) e h e1 e2 = cc
  step-commit (P.Transaction (First a z)) e h e1 e2 = cc
  step-commit (P.Transaction (Copying a k)) e h e1 e2 = cc
  step-commit (P.Transaction (Again a k z)) e h e1 e2 = cc
  step-commit (P.Transaction (Committing z)) {s = s} e h e1 e2 = let same : s ≡ z = cc in rw (← same, ← e1, ← e2)
