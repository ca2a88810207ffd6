-- What the two records of a run hold: what all tasks share, and one task's own record.
use Rattle.std.specs.Prelude.{ℕ, List, [], replicate, map}
use Rattle.model.specs.Lists.{replace}
use Rattle.state.specs.declared.memory.Memory.{Memory}
use Rattle.state.specs.declared.task.Task.{Task}
use Rattle.state.specs.declared.task.Entry.{Entry}
use Rattle.state.specs.declared.task.Block.{Block}

-- WHAT ALL SHARE: packed cells; status; save places; the values of the block stores
pub record Shared : Type 0 where
  pub cells : List ℕ
  pub status : List ℕ
  pub saves : List ℕ
  pub stores : List ℕ

unfoldable pub shared : Memory → Shared
shared m = record { cells = m.cells; status = m.status; saves = m.saves; stores = m.stores }

abbrev pub set_cell : Shared → ℕ → ℕ → Shared
set_cell m i x = record { cells = replace m.cells i x; status = m.status; saves = m.saves; stores = m.stores }

abbrev pub set_status : Shared → ℕ → ℕ → Shared
set_status m i x = record { cells = m.cells; status = replace m.status i x; saves = m.saves; stores = m.stores }

abbrev pub set_save : Shared → ℕ → ℕ → Shared
set_save m i x = record { cells = m.cells; status = m.status; saves = replace m.saves i x; stores = m.stores }

abbrev pub set_value : Shared → ℕ → ℕ → Shared
set_value m i x = record { cells = m.cells; status = m.status; saves = m.saves; stores = replace m.stores i x }

-- ONE TASK'S OWN. The entries of an exchange: each its target cell, old and new value, the packed word loaded there, and whether that
-- was overlapped.
pub record Entries : Type 0 where
  pub targets : List ℕ
  pub olds : List ℕ
  pub news : List ℕ
  pub inits : List ℕ
  pub overlapped : List ℕ

-- The blocks of a transaction: the mask of touched ones, block b's mark in its digit b; for a touched block 0, or 1 + k if it was copied
-- into slot k; and the bank word's value that was remembered.
pub record Blocks : Type 0 where
  pub touched : ℕ
  pub slots : List ℕ
  pub remembered : List ℕ

-- registers, those kept at BEGIN, copy stores, entries, blocks, counts
pub record Own : Type 0 where
  pub registers : List ℕ
  pub kept : List ℕ
  pub copies : List ℕ
  pub entries : Entries
  pub blocks : Blocks
  pub counts : List ℕ

-- by fields
abbrev pub entries_of : List Entry → Entries
entries_of l =
    record {
      targets = map (λ (e : Entry). e.target) l;
      olds = map (λ (e : Entry). e.old) l;
      news = map (λ (e : Entry). e.new) l;
      inits = map (λ (e : Entry). e.init) l;
      overlapped = map (λ (e : Entry). e.overlapped) l;
    }

abbrev pub blocks_by : ℕ → List Block → Blocks
blocks_by mask l = record { touched = mask; slots = map (λ (b : Block). b.slot) l; remembered = map (λ (b : Block). b.remembered) l }

unfoldable pub own : Task → Own
own t =
    record {
      registers = t.registers;
      kept = t.kept;
      copies = t.copies;
      entries = entries_of t.entries;
      blocks = blocks_by t.touched t.blocks;
      counts = t.counts;
    }

abbrev entries_with : List ℕ → List ℕ → List ℕ → List ℕ → List ℕ → Entries
entries_with t o n i v = record { targets = t; olds = o; news = n; inits = i; overlapped = v }

abbrev in_targets : Entries → ℕ → ℕ → Entries
in_targets e i x = entries_with (replace e.targets i x) e.olds e.news e.inits e.overlapped

abbrev in_olds : Entries → ℕ → ℕ → Entries
in_olds e i x = entries_with e.targets (replace e.olds i x) e.news e.inits e.overlapped

abbrev in_news : Entries → ℕ → ℕ → Entries
in_news e i x = entries_with e.targets e.olds (replace e.news i x) e.inits e.overlapped

abbrev in_inits : Entries → ℕ → ℕ → Entries
in_inits e i x = entries_with e.targets e.olds e.news (replace e.inits i x) e.overlapped

abbrev in_overlapped : Entries → ℕ → ℕ → Entries
in_overlapped e i x = entries_with e.targets e.olds e.news e.inits (replace e.overlapped i x)

abbrev in_touched : Blocks → ℕ → Blocks
in_touched e x = record { touched = x; slots = e.slots; remembered = e.remembered }

abbrev in_slots : Blocks → ℕ → ℕ → Blocks
in_slots e i x = record { touched = e.touched; slots = replace e.slots i x; remembered = e.remembered }

abbrev in_remembered : Blocks → ℕ → ℕ → Blocks
in_remembered e i x = record { touched = e.touched; slots = e.slots; remembered = replace e.remembered i x }

abbrev own_with : List ℕ → List ℕ → List ℕ → Entries → Blocks → List ℕ → Own
own_with r k c e b n = record { registers = r; kept = k; copies = c; entries = e; blocks = b; counts = n }

-- the record with one part given
abbrev pub with_registers : Own → List ℕ → Own
with_registers t l = own_with l t.kept t.copies t.entries t.blocks t.counts

abbrev pub with_kept : Own → List ℕ → Own
with_kept t l = own_with t.registers l t.copies t.entries t.blocks t.counts

abbrev pub with_copies : Own → List ℕ → Own
with_copies t l = own_with t.registers t.kept l t.entries t.blocks t.counts

abbrev pub with_entries : Own → Entries → Own
with_entries t e = own_with t.registers t.kept t.copies e t.blocks t.counts

abbrev pub with_blocks : Own → Blocks → Own
with_blocks t b = own_with t.registers t.kept t.copies t.entries b t.counts

abbrev pub set_register : Own → ℕ → ℕ → Own
set_register t i x = own_with (replace t.registers i x) t.kept t.copies t.entries t.blocks t.counts

abbrev pub set_kept : Own → ℕ → ℕ → Own
set_kept t i x = own_with t.registers (replace t.kept i x) t.copies t.entries t.blocks t.counts

abbrev pub set_copy : Own → ℕ → ℕ → Own
set_copy t i x = own_with t.registers t.kept (replace t.copies i x) t.entries t.blocks t.counts

abbrev pub set_target : Own → ℕ → ℕ → Own
set_target t i x = with_entries t (in_targets t.entries i x)

abbrev pub set_old : Own → ℕ → ℕ → Own
set_old t i x = with_entries t (in_olds t.entries i x)

abbrev pub set_new : Own → ℕ → ℕ → Own
set_new t i x = with_entries t (in_news t.entries i x)

abbrev pub set_init : Own → ℕ → ℕ → Own
set_init t i x = with_entries t (in_inits t.entries i x)

abbrev pub set_overlapped : Own → ℕ → ℕ → Own
set_overlapped t i x = with_entries t (in_overlapped t.entries i x)

abbrev pub set_touched : Own → ℕ → Own
set_touched t x = with_blocks t (in_touched t.blocks x)

abbrev pub set_slot : Own → ℕ → ℕ → Own
set_slot t i x = with_blocks t (in_slots t.blocks i x)

abbrev pub set_remembered : Own → ℕ → ℕ → Own
set_remembered t i x = with_blocks t (in_remembered t.blocks i x)

abbrev pub set_count : Own → ℕ → ℕ → Own
set_count t i x = own_with t.registers t.kept t.copies t.entries t.blocks (replace t.counts i x)

-- AT THE START
abbrev zeros : ℕ → List ℕ
zeros n = replicate n 0

-- every cell holds that word, all else is 0
abbrev pub filled_with : ℕ → Shared
filled_with word = record { cells = replicate 48 word; status = zeros 8; saves = zeros 64; stores = zeros 384 }

abbrev pub own_zeros : Own
own_zeros =
    record {
      registers = zeros 8;
      kept = zeros 8;
      copies = zeros 4;
      entries = record { targets = zeros 8; olds = zeros 8; news = zeros 8; inits = zeros 8; overlapped = zeros 8 };
      blocks = record { touched = 0; slots = zeros 16; remembered = zeros 16 };
      counts = zeros 8;
    }

-- past the end
abbrev pub no_entry : Entry
no_entry = record { target = 0; old = 0; new = 0; overlapped = 0; init = 0 }

abbrev pub no_block : Block
no_block = record { slot = 0; remembered = 0 }

-- no record: nothing is in it
abbrev pub no_task : Task
no_task =
    record {
      registers = [];
      kept = [];
      copies = [];
      entries = [];
      blocks = [];
      counts = [];
      touched = 0;
    }

abbrev pub no_own : Own
no_own = own no_task
