-- A task's record keeps its sizes when one part is given another list of that part's size.
use Prim.Native.Nat.{ℕ}
use mathlib.Core.Path.{◌≡◌, ◌∙◌}
use mathlib.Core.List.{List}
use lib.ListN.{length}
use Rattle.model.proofs.Lists.{length-replace}
use Rattle.state.specs.State.{Entries, Blocks, Own, with_registers, with_kept, with_copies, with_entries, with_blocks, set_register}
use Rattle.jobs.specs.Jobs.{counted}
use Rattle.state.specs.Sized.{OwnSized}

pub record EntriesSized (e : Entries) : Type 0 where
  pub targets : length e.targets ≡ 8
  pub olds : length e.olds ≡ 8
  pub news : length e.news ≡ 8
  pub inits : length e.inits ≡ 8
  pub overlapped : length e.overlapped ≡ 8

pub record BlocksSized (x : Blocks) : Type 0 where
  pub slots : length x.slots ≡ 16
  pub remembered : length x.remembered ≡ 16

all : {u : Own} → length u.registers ≡ 8 → length u.kept ≡ 8 → length u.copies ≡ 4 → EntriesSized u.entries → BlocksSized u.blocks
    → length u.counts ≡ 8 → OwnSized u
all r k c e b n =
    record {
      registers = r;
      kept = k;
      copies = c;
      targets = e.targets;
      olds = e.olds;
      news = e.news;
      inits = e.inits;
      overlapped = e.overlapped;
      slots = b.slots;
      remembered = b.remembered;
      counts = n;
    }

module _ {t : Own} (s : OwnSized t) where
  abbrev pub entries_sized : EntriesSized t.entries
  entries_sized = record { targets = s.targets; olds = s.olds; news = s.news; inits = s.inits; overlapped = s.overlapped }

  abbrev pub blocks_sized : BlocksSized t.blocks
  blocks_sized = record { slots = s.slots; remembered = s.remembered }

  pub registers-sized : (l : List ℕ) → length l ≡ 8 → OwnSized (with_registers t l)
  registers-sized l e = all e s.kept s.copies entries_sized blocks_sized s.counts

  pub kept-sized : (l : List ℕ) → length l ≡ 8 → OwnSized (with_kept t l)
  kept-sized l e = all s.registers e s.copies entries_sized blocks_sized s.counts

  pub copies-sized : (l : List ℕ) → length l ≡ 4 → OwnSized (with_copies t l)
  copies-sized l e = all s.registers s.kept e entries_sized blocks_sized s.counts

  pub entries-sized : (e : Entries) → EntriesSized e → OwnSized (with_entries t e)
  entries-sized e z = all s.registers s.kept s.copies z blocks_sized s.counts

  pub blocks-sized : (b : Blocks) → BlocksSized b → OwnSized (with_blocks t b)
  blocks-sized b z = all s.registers s.kept s.copies entries_sized z s.counts

  pub register_sized : (r v : ℕ) → OwnSized (set_register t r v)
  register_sized r v = registers-sized _ (length-replace t.registers r v ∙ s.registers)

  pub counted-sized : (n : ℕ) → OwnSized (counted t n)
  unfolding counted
  counted-sized n = all s.registers s.kept s.copies entries_sized blocks_sized (length-replace t.counts n _ ∙ s.counts)
