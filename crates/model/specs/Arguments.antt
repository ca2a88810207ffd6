-- The operations of a run and what they are fed: READ its word, SWAP its PAIRs, a transaction the registers at BEGIN and its commands.
use Rattle.std.specs.Prelude.{ℕ, List, [], ◌∷◌}
use Rattle.model.specs.Command.{access, COMMIT, BodyCommand, LOAD, ADD, outside, inside}

-- a PAIR as recorded
pub record Pair : Type 0 where
  pub word : ℕ
  pub old : ℕ
  pub new : ℕ

pub data Arguments : Type 0 where
  read_of : ℕ → Arguments
  swap_of : List Pair → Arguments
  transaction_of : List ℕ → List BodyCommand → Arguments

-- a transaction's commands: those before COMMIT
unfoldable pub until_commit : List BodyCommand → List BodyCommand
until_commit [] = []
until_commit (LOAD r v ∷ l) = LOAD r v ∷ until_commit l
until_commit (ADD r q ∷ l) = ADD r q ∷ until_commit l
until_commit (inside (access a) ∷ l) = inside (access a) ∷ until_commit l
until_commit (inside COMMIT ∷ l) = []
until_commit (outside c ∷ l) = []
