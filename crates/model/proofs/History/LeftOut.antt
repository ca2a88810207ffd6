-- Which operations the order holds: a committed one that was cut short counts, a spent one does not; and those left out change nothing.
use Prim.Native.Nat.{ℕ, suc}
use mathlib.Core.Bool.{true, false, ◌||◌}
use mathlib.Core.Path.{◌≡◌, refl, sym, ◌∙◌}
use mathlib.Core.Option.{none, some}
use Rattle.model.specs.Sheet.{Sheet}
use Rattle.model.specs.Machine.{Machine}
use Rattle.model.specs.History.{Operation, operation_at}
use Rattle.model.specs.Claim.{ended?, counted_by}
use Rattle.model.proofs.Lists.{test?}
use Rattle.model.proofs.History.Advance.{counts-kept}
use Rattle.model.proofs.History.Steps.{history_after}
use Rattle.model.proofs.History.Ticks.{Started, advance}
use Rattle.model.proofs.History.Theorem.{contents_after, JustifiedRun, tick_settles}

-- the limit cut a committed operation short
pub cut_short_counts : (o : Operation) → o.last ≡ none → o.committed ≡ true → o.spent ≡ false → counted_by (some o) ≡ true
cut_short_counts o l c s = rw (l, c, s) refl

-- an operation that was cut short before its commit
pub open_left_out : (o : Operation) → o.last ≡ none → o.committed ≡ false → counted_by (some o) ≡ false
open_left_out o l c = rw (l, c) refl

pub spent-left_out : (o : Operation) → o.spent ≡ true → counted_by (some o) ≡ false
spent-left_out o s = rw s (test? (ended? o.last || o.committed) (λ e. rw e refl) (λ e. rw e refl))

-- A tick changes the contents only by an operation that counts from then on. So one that is left out has changed nothing, and one that
-- counts nothing but in the tick where it began to count.
module _ (s : Sheet) {m : Machine} (start : Started m) (just : JustifiedRun s m) (t : ℕ) where
  pub left_out_still : ((a : ℕ) → counted_by (operation_at (history_after m t) a) ≡ false → counted_by (operation_at (history_after m (suc t)) a) ≡ false)
      → contents_after s m t ≡ contents_after s m (suc t)
  left_out_still f =
      (tick_settles s start just t).still
      (λ a. test? (counted_by (operation_at (history_after m t) a)) (λ e. counts-kept (advance start t) a e ∙ sym e) (λ e. f a e ∙ sym e))
