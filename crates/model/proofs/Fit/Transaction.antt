-- A transaction at work: its blocks, its copy slots, and its inner step.
use Prim.Native.Nat.{ℕ, suc, ◌+◌, ◌<◌, ◌≤◌}
use mathlib.Core.Path.{◌≡◌}
use mathlib.Core.Bool.{Bool, true, false}
use mathlib.Core.List.{List, [], ◌∷◌}
use lib.ListN.{length}
use Rattle.model.specs.Lists.{at}
use Rattle.model.specs.Command.{Access, GET, PUT, Inside, access, COMMIT, BodyCommand, LOAD, ADD, outside, inside}
use Rattle.model.specs.Fault.{Body, Known, among}
use Rattle.model.specs.Sheet.{named}
use Rattle.model.specs.Exchange.{Entry, Exchange}
use Rattle.model.specs.Job.{Touched, untouched, remembered, copied, Transaction, Inner, between, first, copying, again, committing}
use Rattle.model.specs.Transaction.{block_of, touched_of, touched_count, spent?, gather}
use Rattle.model.proofs.Fit.Body.{Faultless, Open}
use Rattle.model.proofs.Fit.Exchange.{ExchangeFit}

abbrev pub touched? : Touched → Bool
touched? untouched = false
touched? (remembered v) = true
touched? (copied v k) = true

abbrev pub copied? : Touched → Bool
copied? untouched = false
copied? (remembered v) = false
copied? (copied v k) = true

-- one more, if the test holds
abbrev pub count_by : Bool → ℕ → ℕ
count_by true n = suc n
count_by false n = n

-- how many blocks a test holds of
unfoldable pub count : (Touched → Bool) → List Touched → ℕ
count test [] = 0
count test (t ∷ l) = count_by (test t) (count test l)

-- the blocks that the text has named by now, the access at work counted
abbrev pub named_inside : Inside → Body → Body
named_inside (access a) b = named a b
named_inside COMMIT b = b

abbrev pub named_by : BodyCommand → Body → Body
named_by (LOAD r v) b = b
named_by (ADD r q) b = b
named_by (outside c) b = b
named_by (inside c) b = named_inside c b

abbrev pub named_so_far : List BodyCommand → Body → Body
named_so_far [] b = b
named_so_far (c ∷ l) b = named_by c b

-- the blocks against the text's, with that many copy slots used
pub record BlocksFit (blocks : ℕ) (b : Body) (ts : List Touched) (used : ℕ) : Type 0 where
  pub size : length ts ≡ 16
  pub below : (n : ℕ) → touched? (at untouched ts n) ≡ true → n < blocks
  pub touched : (n : ℕ) → touched? (at untouched ts n) ≡ true → among n b.touched ≡ true
  pub put : (n : ℕ) → copied? (at untouched ts n) ≡ true → among n b.puts ≡ true
  pub slots : count copied? ts ≡ used
  pub slot : (n v k : ℕ) → at untouched ts n ≡ copied v k → k < used
  pub different : (n q v w k : ℕ) → at untouched ts n ≡ copied v k → at untouched ts q ≡ copied w k → n ≡ q

-- a transaction is open in the text, at most eight blocks named and four of them PUT
pub record InTransaction (words blocks : ℕ) (k : Known) : Type 0 where
  pub opened : Open words blocks k
  pub inside : k.body.inside ≡ true
  pub pairs : k.body.pairs ≡ []
  pub touched : length k.body.touched ≤ 8
  pub puts : length k.body.puts ≤ 4

-- the commands after BEGIN
pub record BegunFit (words blocks : ℕ) (l : List BodyCommand) : Type 0 where
  pub known : Known
  pub inside : InTransaction words blocks known
  pub nothing : known.body.touched ≡ []
  pub no_puts : known.body.puts ≡ []
  pub faultless : Faultless known l

abbrev pub register_of : Access → ℕ
register_of (GET r b o) = r
register_of (PUT b o r) = r

abbrev pub offset_of : Access → ℕ
offset_of (GET r b o) = o
offset_of (PUT b o r) = o

-- the access at work is the first command
pub record AtWork (blocks : ℕ) (a : Access) (l : List BodyCommand) : Type 0 where
  pub others : List BodyCommand
  pub commands : l ≡ inside (access a) ∷ others
  pub register : register_of a < 8
  pub block : block_of a < blocks
  pub offset : offset_of a < 8

-- PUT's block is remembered and a copy slot is left
pub record PutFirst (a : Access) (x : Transaction) : Type 0 where
  pub value : ℕ
  pub read : touched_of x (block_of a) ≡ remembered value
  pub left : x.used < 4

abbrev pub AgainFit : Access → Transaction → Type 0
AgainFit (GET r b o) x = touched? (touched_of x b) ≡ true
AgainFit (PUT b o r) x = PutFirst (PUT b o r) x

pub record FirstFit (blocks : ℕ) (a : Access) (l : List BodyCommand) (x : Transaction) : Type 0 where
  pub at_work : AtWork blocks a l
  pub not_yet : touched_of x (block_of a) ≡ untouched

abbrev pub put? : Access → Bool
put? (GET r b o) = false
put? (PUT b o r) = true

pub record CopyingFit (blocks : ℕ) (a : Access) (n : ℕ) (l : List BodyCommand) (x : Transaction) : Type 0 where
  pub at_work : AtWork blocks a l
  pub put : put? a ≡ true
  pub some : 1 ≤ n
  pub most : n < 8
  pub first : PutFirst a x

pub record SecondFit (blocks : ℕ) (a : Access) (l : List BodyCommand) (x : Transaction) : Type 0 where
  pub at_work : AtWork blocks a l
  pub again : AgainFit a x

-- the exchange of COMMIT is that of the touched bank words; bank words are the cells from 32 on
pub record CommittingFit (blocks : ℕ) (copies : List ℕ) (l : List BodyCommand) (x : Transaction) (e : Exchange) : Type 0 where
  pub others : List BodyCommand
  pub commands : l ≡ inside COMMIT ∷ others
  pub not_spent : spent? x.blocks ≡ false
  pub exchange : ExchangeFit 32 (32 + blocks) (gather copies 0 x.blocks) e

abbrev pub InnerFit : ℕ → List ℕ → List BodyCommand → Transaction → Inner → Type 0
InnerFit blocks copies l x between = Unit {0}
InnerFit blocks copies l x (first a r) = FirstFit blocks a l x
InnerFit blocks copies l x (copying a n) = CopyingFit blocks a n l x
InnerFit blocks copies l x (again a v r) = SecondFit blocks a l x
InnerFit blocks copies l x (committing e) = CommittingFit blocks copies l x e

-- `l` are the job's commands, `begun` are those to which a restart goes back
pub record TransactionFit (words blocks : ℕ) (copies : List ℕ) (l : List BodyCommand) (ps : List Entry) (x : Transaction) (s : Inner) : Type 0 where
  pub no_pairs : ps ≡ []
  pub kept : length x.kept ≡ 8
  pub begun : BegunFit words blocks x.commands
  pub known : Known
  pub inside : InTransaction words blocks known
  pub faultless : Faultless known l
  pub touched : BlocksFit blocks (named_so_far l known.body) x.blocks x.used
  pub most : touched_count x.blocks ≤ 8
  pub most_used : x.used ≤ 4
  pub inner : InnerFit blocks copies l x s
