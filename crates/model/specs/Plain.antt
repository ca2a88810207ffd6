-- The plain machine of 'Demand 3 in full': it does each operation whole, in one step, with what the last one left.
use Rattle.std.specs.Prelude.{ℕ, suc, Bool, true, false, ◌&&◌, List, [], ◌∷◌, ◌++◌, eqb, length, replicate}
use Rattle.std.proofs.Math.Option.{Option, none, some}
use Rattle.model.specs.Lists.{at, replace}
use Rattle.model.specs.Command.{GET, PUT, Block, no_block, access, COMMIT, BodyCommand, LOAD, ADD, outside, inside}
use Rattle.model.specs.Arguments.{Pair, Arguments, read_of, swap_of, transaction_of}
use Rattle.model.specs.Transaction.{loaded, added}

-- a value for each word, a version and eight values for each block
pub record Contents : Type 0 where
  pub words : List ℕ
  pub blocks : List Block

-- what an operation leaves and answers: READ its value, SWAP 1 or 0, a transaction what its GETs gave
pub record Result : Type 0 where
  pub contents : Contents
  pub answers : List ℕ

abbrev pub result : Contents → List ℕ → Result
result c vs = record { contents = c; answers = vs }

-- SWAP: no named word differs from its old value; each named word takes its new value
unfoldable pub all_old : List ℕ → List Pair → Bool
unfolding at
all_old words [] = true
all_old words (a ∷ l) = eqb (at 0 words a.word) a.old && all_old words l

unfoldable pub all_new : List ℕ → List Pair → List ℕ
unfolding replace
all_new words [] = words
all_new words (a ∷ l) = all_new (replace words a.word a.new) l

unfoldable pub plain_swap_by : Bool → List Pair → Contents → Result
unfolding all_new
plain_swap_by true ps c = result (record { words = all_new c.words ps; blocks = c.blocks }) (1 ∷ [])
plain_swap_by false ps c = result c (0 ∷ [])

-- A transaction on its way: its registers, the copies by block number, the answers of its GETs.
pub record Pass : Type 0 where
  pub registers : List ℕ
  pub copies : List (Option (List ℕ))
  pub answers : List ℕ

abbrev pub no_copies : List Block → List (Option (List ℕ))
no_copies bs = replicate (length bs) none

-- the copy if there is one, else the block
abbrev pub values_by : Option (List ℕ) → Block → List ℕ
values_by none b = b.values
values_by (some vs) b = vs

abbrev pub values_of : List Block → Pass → ℕ → List ℕ
values_of bs q b = values_by (at none q.copies b) (at no_block bs b)

abbrev pub computes : Pass → List ℕ → Pass
computes q rs = record { registers = rs; copies = q.copies; answers = q.answers }

abbrev pub gets : Pass → ℕ → ℕ → Pass
gets q r v = record { registers = loaded q.registers r v; copies = q.copies; answers = q.answers ++ (v ∷ []) }

abbrev pub puts : Pass → ℕ → List ℕ → Pass
puts q b vs = record { registers = q.registers; copies = replace q.copies b (some vs); answers = q.answers }

-- a command of a transaction; none of outside stands there, and COMMIT comes after them
unfoldable pub pass_by : List Block → Pass → BodyCommand → Pass
unfolding at replace
pass_by bs q (LOAD r v) = computes q (loaded q.registers r v)
pass_by bs q (ADD r s) = computes q (added q.registers r s)
pass_by bs q (inside (access (GET r b o))) = gets q r (at 0 (values_of bs q b) o)
pass_by bs q (inside (access (PUT b o r))) = puts q b (replace (values_of bs q b) o (at 0 q.registers r))
pass_by bs q (inside COMMIT) = q
pass_by bs q (outside c) = q

unfoldable pub passed : List Block → Pass → List BodyCommand → Pass
unfolding pass_by
passed bs q [] = q
passed bs q (c ∷ l) = passed bs (pass_by bs q c) l

-- at COMMIT each copy becomes its block's values, and that block's version rises by 1
unfoldable pub commit_blocks : List Block → List (Option (List ℕ)) → List Block
commit_blocks [] cs = []
commit_blocks (b ∷ l) [] = b ∷ l
commit_blocks (b ∷ l) (none ∷ cs) = b ∷ commit_blocks l cs
commit_blocks (b ∷ l) (some vs ∷ cs) = (record { version = suc b.version; values = vs }) ∷ commit_blocks l cs

abbrev pub commits : Contents → Pass → Result
commits c q = result (record { words = c.words; blocks = commit_blocks c.blocks q.copies }) q.answers

abbrev pub pass_of : List Block → List ℕ → List BodyCommand → Pass
pass_of bs rs l = passed bs (record { registers = rs; copies = no_copies bs; answers = [] }) l

-- an operation whole
unfoldable pub plainly : Arguments → Contents → Result
unfolding at plain_swap_by all_old passed commit_blocks
plainly (read_of w) c = result c (at 0 c.words w ∷ [])
plainly (swap_of ps) c = plain_swap_by (all_old c.words ps) ps c
plainly (transaction_of rs l) c = commits c (pass_of c.blocks rs l)
