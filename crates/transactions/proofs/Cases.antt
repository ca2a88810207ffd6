-- Small records worked out by hand: what COMMIT, the answer of its exchange and a version read again leave of them. Each line is computed.
use Rattle.std.proofs.Common.{◌≡◌, ℕ, true, false, List, [], ◌∷◌, replicate, refl}
use Rattle.model.specs.Lists.{at, replace}
use Rattle.model.specs.Transaction.{touched_count, taken_back}
use Rattle.state.specs.Packed.{packed}
use Rattle.state.specs.State.{Blocks, Own}
use Rattle.state.specs.Held.{blocks_from, blocks_of}
use Rattle.exchanges.specs.Places.{Noted, noted}
use Rattle.jobs.specs.Jobs.{job, counted, copied, entered_in}
use Rattle.transactions.specs.Blocks.{is_spent, new_bank, touched_from, gathering, gathered_one, gathered_over, gathered_all, taken_one}
use Rattle.transactions.specs.Accesses.{loses_attempt, checked_by, again_read}
use Rattle.transactions.specs.Commits.{committed_by}
use Rattle.commands.specs.declared.Access.TheVariants.{Get}
use Rattle.exchanges.specs.declared.read.Read.TheVariants.{Gives}
use Rattle.exchanges.specs.declared.exchange.Exchanged.TheVariants.{Ends}
use Rattle.exchanges.specs.declared.exchange.Step.TheVariants.{Start}
use Rattle.jobs.specs.declared.Inner.TheVariants.{Between, Committing}
use Rattle.jobs.specs.declared.Phase.TheVariants.{Plain, Transaction}
use Rattle.jobs.specs.declared.Job.{Job}

-- block 2 was PUT into copy slot 1: version 4 in store 9; block 0 was only read; of block 1, not touched, stands what was there before
abbrev blocks : Blocks
blocks = record { touched = 5; slots = 0 ∷ 1 ∷ 2 ∷ []; remembered = 775 ∷ 2825 ∷ 1033 ∷ [] }

abbrev record_of : List ℕ → List ℕ → Blocks → List ℕ → Own
record_of registers copies x counts =
    record {
      registers = registers;
      kept = 7 ∷ 7 ∷ 7 ∷ 7 ∷ 7 ∷ 7 ∷ 7 ∷ 7 ∷ [];
      copies = copies;
      entries = record { targets = []; olds = []; news = []; inits = []; overlapped = [] };
      blocks = x;
      counts = counts;
    }

abbrev committing : Job
committing = job (Transaction (Committing Start)) 0 6 3 2 1

-- the slot of the block that was PUT takes its old store, whatever the block's number
pub takes_one : taken_one blocks 2 (20 ∷ 21 ∷ 22 ∷ 23 ∷ []) ≡ 20 ∷ 9 ∷ 22 ∷ 23 ∷ []
unfolding taken_one at replace
takes_one = refl

takes_back : taken_back (20 ∷ 21 ∷ 22 ∷ 23 ∷ []) (blocks_of blocks) ≡ 20 ∷ 9 ∷ 22 ∷ 23 ∷ []
unfolding taken_back blocks_from at replace
takes_back = refl

-- two blocks are touched, 0 and 2; of a mask with all but block 3 the others come by rising number
touches_two : touched_count (blocks_of blocks) ≡ 2
unfolding touched_count blocks_from at
touches_two = refl

touches_rising : touched_from 16 65527 0 ≡ 0 ∷ 1 ∷ 2 ∷ 4 ∷ 5 ∷ 6 ∷ 7 ∷ 8 ∷ 9 ∷ 10 ∷ 11 ∷ 12 ∷ 13 ∷ 14 ∷ 15 ∷ []
unfolding touched_from
touches_rising = refl

-- one pass for each of the two, by rising number: block 0 as it is, block 2 with one version more in its copy's store
abbrev sevens : List ℕ
sevens = 7 ∷ 7 ∷ 7 ∷ []

abbrev with_room : Own
with_room =
    record {
      registers = [];
      kept = [];
      copies = 20 ∷ 21 ∷ [];
      entries = record { targets = sevens; olds = sevens; news = sevens; inits = sevens; overlapped = sevens };
      blocks = blocks;
      counts = [];
    }

gathers_two : gathered_all with_room
    ≡ gathering 2 (record {
      targets = 32 ∷ 34 ∷ 7 ∷ [];
      olds = 775 ∷ 1033 ∷ 7 ∷ [];
      news = 775 ∷ 1301 ∷ 7 ∷ [];
      inits = 34359738368 ∷ 34359738368 ∷ 7 ∷ [];
      overlapped = 0 ∷ 0 ∷ 7 ∷ [];
    })
unfolding gathered_over gathered_one touched_from entered_in packed at replace
gathers_two = refl

-- a yes: the command is done, and no attempt was lost
says-yes : committed_by (record_of [] (20 ∷ 21 ∷ 22 ∷ 23 ∷ []) blocks (0 ∷ 0 ∷ 0 ∷ 0 ∷ [])) committing (Ends true)
    ≡ noted (job Plain 0 7 7 0 0) (record_of [] (20 ∷ 9 ∷ 22 ∷ 23 ∷ []) blocks (0 ∷ 0 ∷ 0 ∷ 0 ∷ []))
unfolding committed_by taken_back blocks_from at replace
says-yes = refl

-- an attempt, and the same lost: one more counted, registers as kept, nothing touched, next the command after BEGIN
abbrev attempt : Own
attempt = record_of (1 ∷ 2 ∷ 3 ∷ 4 ∷ 5 ∷ 6 ∷ 7 ∷ 8 ∷ []) (20 ∷ []) blocks (0 ∷ 0 ∷ 4 ∷ 0 ∷ [])

abbrev attempt-lost : Noted Job
attempt-lost =
    noted (job (Transaction Between) 0 3 3 0 0)
    (record_of (replicate 8 7) (20 ∷ []) (record { touched = 0; slots = blocks.slots; remembered = blocks.remembered })
    (0 ∷ 0 ∷ 5 ∷ 0 ∷ []))

-- a no
says_no : committed_by attempt committing (Ends false) ≡ attempt-lost
unfolding committed_by loses_attempt counted copied at replace
says_no = refl

-- the bank word of a block that was PUT: one version more, in the copy's store; of one that was only read: itself
raises_version : new_bank (record_of [] (20 ∷ 21 ∷ []) blocks []) 2 1033 ≡ 1301
unfolding at
raises_version = refl

leaves_version : new_bank (record_of [] (20 ∷ 21 ∷ []) blocks []) 0 775 ≡ 775
leaves_version = refl

-- the last version is spent, the one before it is not, and what was only read never is
spends_last : is_spent 1 4294967049 ≡ true
spends_last = refl

spends_not : is_spent 1 4294966793 ≡ false
spends_not = refl

spends_no_read : is_spent 0 4294967049 ≡ false
spends_no_read = refl

-- GET reads the bank word again: the same version in another store is not stale
again-same : again_read (record_of (1 ∷ 2 ∷ []) [] blocks []) committing (Get 1 2 0) 50 (Gives 1044)
    ≡ noted (job (Transaction Between) 0 7 3 0 1) (record_of (1 ∷ 50 ∷ []) [] blocks [])
unfolding again_read checked_by at replace
again-same = refl

-- another version is stale
again-stale : again_read attempt committing (Get 1 2 0) 50 (Gives 1300) ≡ attempt-lost
unfolding again_read loses_attempt counted copied at replace
again-stale = refl
