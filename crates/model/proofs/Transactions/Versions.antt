-- Versions: a remembered value stays the current one or its version has been passed, and never comes back.
use Prim.Native.Nat.{ℕ, ◌<◌}
use mathlib.Core.Path.{◌≡◌, refl, sym, ◌∙◌}
use native.Mathlib.Omega.{arith}
use Rattle.model.specs.Transaction.{bank_value, version_of, store_of}
use Rattle.model.proofs.Transactions.Facts.{Past, Change, unchanged, version_raised}

-- what is there now is past
pub now-past : (v : ℕ) → Past v v
now-past v = record { older = omega arith; same = λ e. refl }

pub past_change : {now then v : ℕ} → Past now v → Change now then → Past then v
past_change P (unchanged e) = rw e P
past_change P (version_raised e) = record { older = omega (arith, P.older); same = λ h. absurd (omega (arith, P.older)) }

-- a value that has been passed does not come back
pub still_before : {now then v : ℕ} → Past now v → Change now then → then ≡ v → now ≡ v
still_before P (unchanged e) h = sym e ∙ h
still_before {now} {then} {v} P (version_raised e) h = let k : version_of then ≡ version_of v = rw h in absurd (omega (arith, P.older))

-- version and store of a bank value
pub version-bank : (v s : ℕ) → s < 256 → version_of (bank_value v s) ≡ v
version-bank v s h = omega arith

pub store-bank : (v s : ℕ) → s < 256 → store_of (bank_value v s) ≡ s
store-bank v s h = omega arith
