-- Writing the shared memory, seen in the model's memory.
use Prim.Native.Nat.{ℕ, ◌+◌, ◌*◌, ◌<◌}
use mathlib.Core.Path.{◌≡◌, sym, ap, ◌∙◌}
use mathlib.Core.List.{List, []}
use Rattle.model.specs.Lists.{at, replace}
use Rattle.model.proofs.Lists.{replace-past}
use Rattle.model.proofs.Fit.Elements.{below?}
use Rattle.state.specs.Rows.{row, rows}
use Rattle.state.proofs.Rows.{at_rows, length-rows, rows-replace}

pub rows_written : (n k p i v : ℕ) (l : List ℕ) → i < n
    → rows n k (replace l (n * p + i) v) ≡ replace (rows n k l) p (replace (at [] (rows n k l) p) i v)
rows_written n k p i v l h =
    rows-replace n k p i l v h
    ∙ below? p k
    (λ b. ap (λ (r : List ℕ). replace (rows n k l) p (replace r i v)) (sym (at_rows n k p l b)))
    (λ m. replace-past (rows n k l) p (replace (row n p l) i v) (rw (length-rows n k l) m)
    ∙ sym (replace-past (rows n k l) p (replace (at [] (rows n k l) p) i v) (rw (length-rows n k l) m)))
