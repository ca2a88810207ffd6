-- The first numbers of a list copied over another, and a whole list.
use Prim.Native.Nat.{ℕ, zero, suc, ◌<◌, ◌≤◌}
use mathlib.Core.Path.{◌≡◌, refl, sym, ap, ◌∙◌}
use mathlib.Core.List.{List}
use native.Mathlib.Omega.{arith}
use lib.ListN.{length}
use lib.Seq.{ext_get_or}
use Rattle.model.specs.Lists.{at, replace}
use Rattle.model.proofs.Lists.{replace-same, replace-other, length-replace, same?}
use Rattle.jobs.specs.Jobs.{copied}

pub copied-size : (n : ℕ) (to from : List ℕ) → length (copied n to from) ≡ length to
unfolding copied
copied-size zero to from = refl
copied-size (suc n) to from = length-replace (copied n to from) n _ ∙ copied-size n to from

copied_at : (to from : List ℕ) (n i : ℕ) → n ≤ length to → i < n → at 0 (copied n to from) i ≡ at 0 from i
unfolding copied
copied_at to from zero i h g = absurd (omega arith)
copied_at to from (suc n) i h g =
    same? i n
    (λ e. ap (at 0 (replace (copied n to from) n (at 0 from n))) e
    ∙ replace-same 0 (copied n to from) n (at 0 from n) (omega (arith, copied-size n to from))
    ∙ ap (at 0 from) (sym e))
    (λ d. replace-other 0 (copied n to from) n i (at 0 from n) d ∙ copied_at to from n i (omega arith) (omega arith))

-- a whole list
pub copied_all : (n : ℕ) (to from : List ℕ) → length to ≡ n → length from ≡ n → copied n to from ≡ from
unfolding at
copied_all n to from a b =
    let size : length (copied n to from) ≡ length to = copied-size n to from in
    ext_get_or 0 (copied n to from) from (omega arith) (λ i h. copied_at to from n i (omega arith) (omega arith))
