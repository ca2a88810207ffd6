-- The entries of an exchange, read and written.
use Prim.Native.Nat.{ℕ, ◌<◌}
use mathlib.Core.Path.{◌≡◌}
use mathlib.Core.Bool.{not}
use lib.Dec.{eqb}
use lib.ListN.{length}
use Rattle.model.specs.Lists.{at, replace}
use Rattle.model.specs.Exchange.{entry, with_init}
use Rattle.model.proofs.Lists.{replace-same, replace-other}
use Rattle.state.specs.Packed.{unpack}
use Rattle.state.specs.State.{Own, set_init, set_overlapped}
use Rattle.refinement.proofs.Tabulate.{at_tabulate, length_tabulate, tabulate_replace}
use Rattle.refinement.proofs.View.{entry_of, entries_of}

module _ (k : ℕ) (t : Own) where
  pub at-entries : (e : ℕ) → e < k → at (entry 0 0 0) (entries_of k t.entries) e ≡ entry_of t.entries e
  unfolding entries_of
  at-entries e h = at_tabulate (entry 0 0 0) k e (entry_of t.entries) h

  pub length-entries : length (entries_of k t.entries) ≡ k
  unfolding entries_of
  length-entries = length_tabulate k (entry_of t.entries)

  -- entry i as loaded, and as Look leaves it
  pub entries-loaded : (i w b : ℕ) → i < length t.entries.inits → i < length t.entries.overlapped
      → entries_of k (set_overlapped (set_init t i w) i b).entries
      ≡ replace (entries_of k t.entries) i (with_init (entry_of t.entries i) (unpack w) (not (eqb b 0)))
  unfolding entries_of
  entries-loaded i w b hi ho =
      tabulate_replace k (entry_of t.entries) (entry_of (set_overlapped (set_init t i w) i b).entries) i _
      (λ h. rw (replace-same 0 t.entries.inits i w hi, replace-same 0 t.entries.overlapped i b ho))
      (λ j h d. rw (replace-other 0 t.entries.inits i j w d, replace-other 0 t.entries.overlapped i j b d))

  pub entries_looked : (i b : ℕ) → i < length t.entries.overlapped
      → entries_of k (set_overlapped t i b).entries
      ≡ replace (entries_of k t.entries) i (with_init (entry_of t.entries i) (entry_of t.entries i).init (not (eqb b 0)))
  unfolding entries_of
  entries_looked i b ho =
      tabulate_replace k (entry_of t.entries) (entry_of (set_overlapped t i b).entries) i _
      (λ h. rw (replace-same 0 t.entries.overlapped i b ho))
      (λ j h d. rw (replace-other 0 t.entries.overlapped i j b d))
