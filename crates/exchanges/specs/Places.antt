-- Small definitions that the statements share.
use Rattle.std.specs.Prelude.{ℕ, ◌+◌, ◌%◌, Bool, true, false}
use Rattle.state.specs.State.{Shared, Own}

abbrev pub if : {A : Type 0} → Bool → A → A → A
if true a b = a
if false a b = b

-- one more, in a byte
abbrev pub next_of : ℕ → ℕ
next_of n = (n + 1) % 256

-- what a statement answers, and what it leaves of the shared memory or of the task's record
pub record Went (A : Type 0) : Type 0 where
  pub next : A
  pub memory : Shared

abbrev pub went : {A : Type 0} → A → Shared → Went A
went a m = record { next = a; memory = m }

pub record Noted (A : Type 0) : Type 0 where
  pub next : A
  pub task : Own

abbrev pub noted : {A : Type 0} → A → Own → Noted A
noted a t = record { next = a; task = t }

-- and what it leaves of both
pub record Left (A : Type 0) : Type 0 where
  pub next : A
  pub memory : Shared
  pub task : Own

abbrev pub left : {A : Type 0} → A → Shared → Own → Left A
left a m t = record { next = a; memory = m; task = t }
