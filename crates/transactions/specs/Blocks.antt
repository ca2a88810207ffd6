-- The blocks of a transaction in the task's record: touched, gathered, and the old stores taken back.
use Rattle.std.specs.Prelude.{ℕ, zero, suc, ◌+◌, ◌-◌, ◌*◌, ◌/◌, ◌%◌, ◌^◌, Bool, false, List, [], ◌∷◌, ◌==◌, bit_or}
use Rattle.model.specs.Ceilings.{last_version}
use Rattle.model.specs.Lists.{at, replace}
use Rattle.model.specs.Transaction.{taken_back}
use Rattle.commands.specs.declared.Access.{Access}
use Rattle.commands.specs.declared.Access.TheVariants.{Get, Put}
use Rattle.state.specs.State.{Entries, Blocks, Own, with_copies, with_entries, set_touched, set_slot, set_remembered}
use Rattle.state.specs.Held.{touched_in, blocks_of}
use Rattle.exchanges.specs.Places.{if}
use Rattle.jobs.specs.Jobs.{entered_in}

-- the cell of a block's bank word
abbrev pub bank_of : ℕ → ℕ
bank_of b = 32 + b

abbrev pub named_block : Access → ℕ
named_block (Get r b o) = b
named_block (Put b o r) = b

abbrev pub slot_at : Own → ℕ → ℕ
slot_at t b = at 0 t.blocks.slots b

abbrev pub remembered_at : Own → ℕ → ℕ
remembered_at t b = at 0 t.blocks.remembered b

-- block b is touched: not copied yet, that bank word remembered
abbrev pub touching : ℕ → ℕ → Own → Own
touching b bank t = set_touched (set_remembered (set_slot t b 0) b bank) (bit_or t.blocks.touched (2 ^ (b % 16)))

-- no block is touched
abbrev pub clearing : Own → Own
clearing t = set_touched t 0

-- the touched ones of n blocks from number b on, by rising number
unfoldable pub touched_from : ℕ → ℕ → ℕ → List ℕ
touched_from zero mask b = []
touched_from (suc n) mask b = if (touched_in mask b) (b ∷ touched_from n mask (suc b)) (touched_from n mask (suc b))

abbrev pub touched_blocks : Own → List ℕ
touched_blocks t = touched_from 16 t.blocks.touched 0

-- a PUT block at the last version
abbrev pub is_spent : ℕ → ℕ → Bool
is_spent slot bank = if (slot == 0) false (bank / 256 == last_version)

abbrev pub spent_at : Own → ℕ → Bool
spent_at t b = is_spent (slot_at t b) (remembered_at t b)

-- what the bank word of a touched block becomes
abbrev pub new_bank : Own → ℕ → ℕ → ℕ
new_bank t slot bank =
    if (slot == 0) bank (((bank / 256 * 256 + 256) % 4294967296 + at 0 t.copies (slot - 1)) % 4294967296)

-- entry n is the bank word of block b of the task
abbrev pub entered_bank : Own → ℕ → ℕ → Entries → Entries
entered_bank t b n e = entered_in e n (bank_of b) (remembered_at t b) (new_bank t (slot_at t b) (remembered_at t b))

abbrev pub entering : ℕ → ℕ → Own → Own
entering b n t = with_entries t (entered_bank t b n t.entries)

-- the entries so far, and how many
pub record Gathering : Type 0 where
  pub count : ℕ
  pub entries : Entries

abbrev pub gathering : ℕ → Entries → Gathering
gathering n e = record { count = n; entries = e }

-- block b of the task is one more entry
unfoldable pub gathered_one : Own → ℕ → Gathering → Gathering
gathered_one t b g = gathering (g.count + 1) (entered_bank t b g.count g.entries)

-- those blocks, one after another
unfoldable pub gathered_over : Own → List ℕ → Gathering → Gathering
unfolding gathered_one
gathered_over t [] g = g
gathered_over t (b ∷ l) g = gathered_over t l (gathered_one t b g)

-- all that are touched
abbrev pub gathered_all : Own → Gathering
gathered_all t = gathered_over t (touched_blocks t) (gathering 0 t.entries)

-- the copy slot of block b, if PUT, takes the block's old store
unfoldable pub taken_one : Blocks → ℕ → List ℕ → List ℕ
taken_one x b copies =
    if (at 0 x.slots b == 0) copies (replace copies (at 0 x.slots b - 1) (at 0 x.remembered b % 256))

abbrev pub taking_one : ℕ → Own → Own
taking_one b t = with_copies t (taken_one t.blocks b t.copies)

-- the same for all blocks
abbrev pub taking_back : Own → Own
taking_back t = with_copies t (taken_back t.copies (blocks_of t.blocks))
