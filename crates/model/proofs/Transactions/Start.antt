-- The start of a run: task p has stores 4p to 4p + 3, block b has store 4N + b, and no task is in a transaction.
use Prim.Native.Nat.{ℕ, zero, suc, ◌+◌, ◌*◌, ◌<◌}
use mathlib.Core.Path.{◌≡◌, refl, sym, ◌∙◌, ap}
use native.Mathlib.Omega.{arith}
use lib.ListN.{length}
use Rattle.model.specs.Lists.{at}
use Rattle.model.specs.Sheet.{Sheet}
use Rattle.model.specs.Transaction.{store_of}
use Rattle.model.specs.Machine.{task_at}
use Rattle.model.specs.Start.{copies_of, start_memory, start_machine}
use Rattle.model.specs.History.{Operation}
use Rattle.model.specs.Command.{no_block}
use Rattle.model.proofs.Fit.Sheet.{SheetFit}
use Rattle.model.proofs.Fit.Start.{start-task}
use Rattle.model.proofs.History.Start.{bank-start, start-memory}
use Rattle.model.proofs.Transactions.Facts.{bank_in, slots_of, Owner, block, slot, OwnerDeclared, place, Owners, Transactions}
use Rattle.model.proofs.Transactions.Versions.{store-bank}

module _ {s : Sheet} (c : SheetFit s) where
  bank-store : (b : ℕ) → b < length s.blocks → store_of (bank_in (start_memory s) b) ≡ 4 * length s.bodies + b
  bank-store b h =
      rw (bank-start c b h) (store-bank (at no_block s.blocks b).version (4 * length s.bodies + b) (omega (arith, c.blocks, c.bodies)))

  -- COPY SLOTS
  slot_of : (p k : ℕ) → k < 4 → at 0 (copies_of p) k ≡ 4 * p + k
  unfolding at
  slot_of p zero h = omega arith
  slot_of p (suc zero) h = refl
  slot_of p (suc (suc zero)) h = refl
  slot_of p (suc (suc (suc zero))) h = refl
  slot_of p (suc (suc (suc (suc k)))) h = absurd (omega arith)

  slot_store : (p k : ℕ) → p < length s.bodies → k < 4 → at 0 (slots_of (task_at (start_machine s).tasks p)) k ≡ 4 * p + k
  slot_store p k lt h = rw (start-task s p lt) (slot_of p k h)

  -- OWNERS
  store_at : Owner → ℕ
  store_at (block b) = 4 * length s.bodies + b
  store_at (slot p k) = 4 * p + k

  places : (o : Owner) → OwnerDeclared (length s.blocks) (length s.bodies) o
      → place (bank_in (start_memory s)) (λ p. slots_of (task_at (start_machine s).tasks p)) o ≡ store_at o
  unfolding store_at
  places (block b) h = bank-store b h
  places (slot p k) h = slot_store p k h.0 h.1

  apart : (o u : Owner) → OwnerDeclared (length s.blocks) (length s.bodies) o → OwnerDeclared (length s.blocks) (length s.bodies) u
      → store_at o ≡ store_at u → o ≡ u
  unfolding store_at
  apart (block b) (block d) h k e = ap block (omega arith)
  apart (block b) (slot q j) h k e = absurd (omega (arith, k.0, k.1))
  apart (slot p i) (block d) h k e = absurd (omega (arith, h.0, h.1))
  apart (slot p i) (slot q j) h k e =
      let y : p ≡ q = omega (arith, h.1, k.1) in
      let z : i ≡ j = omega (arith, h.1, k.1) in
      rw (y, z)

  in-range : (o : Owner) → OwnerDeclared (length s.blocks) (length s.bodies) o → store_at o < 48
  unfolding store_at
  in-range (block b) h = omega (arith, c.blocks, c.bodies)
  in-range (slot p k) h = omega (arith, c.bodies, h.0, h.1)

  start_owners : Owners (length s.blocks) (length s.bodies) (bank_in (start_memory s)) (λ p. slots_of (task_at (start_machine s).tasks p))
  start_owners =
      record {
        different = λ o u h k e. apart o u h k (sym (places o h) ∙ e ∙ places u k);
        below = λ o h. rw (places o h) (in-range o h);
      }

  pub start_transactions : (operations : ℕ → Operation)
      → Transactions (length s.blocks) (length s.bodies) (start_machine s).memory (start_machine s).tasks operations
  start_transactions operations = rw (start-memory s) (record { owners = start_owners; task = λ p h. rw (start-task s p h) tt })
