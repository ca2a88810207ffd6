-- What an accepted sheet's numbers of words, blocks and tasks say, and what is known of one of its blocks.
use Prim.Native.Nat.{ℕ, ◌+◌, ◌*◌, ◌<◌, ◌≤◌}
use mathlib.Core.Path.{◌≡◌, ap, ◌∙◌}
use mathlib.Core.List.{List}
use native.Mathlib.Omega.{arith}
use lib.ListN.{length, get_or}
use Rattle.model.specs.Lists.{at}
use Rattle.model.specs.Command.{Block, no_block}
use Rattle.model.specs.Word.{fresh_word}
use Rattle.model.proofs.Fit.Sheet.{SheetFit}
use Rattle.model.proofs.Fit.Accepted.{accepted_fit}
use Rattle.sheet.specs.Indexed.{IsBlock}
use Rattle.state.specs.Packed.{unpack}
use Rattle.state.specs.State.{Shared, set_cell}
use Rattle.start.specs.Start.{SharedStarts}
use Rattle.start.specs.Declaring.{sheet_in, declaring, NextBlock, Before, Stored}
use Rattle.start.specs.declared.counts.Counts.{Counts}
use Rattle.start.proofs.Declaring.{cell-sized, block_set, all_set}

abbrev block_of : Counts → ℕ → Block
block_of n b = get_or (sheet_in n).blocks b no_block

module _ (n : Counts) where
  pub fit : SheetFit (sheet_in n)
  fit = accepted_fit n.sheet.bytes.now n.sheet.sound

  pub all-declared : {m : Shared} → SharedStarts (declaring (sheet_in n) n.words n.blocks) m → SharedStarts (sheet_in n) m
  all-declared h = all_set fit (rw (n.all_words, n.all_blocks) at h)

module _ (n : Counts) {m : Shared} {b : ℕ} (h : NextBlock n m b) where
  declared : b < length (sheet_in n).blocks
  declared = rw n.all_blocks at h.declared

  pub is_block : IsBlock n.sheet.bytes.now n.words b
  is_block = record { before = n.all_words; declared = declared }

  pub store_range : 4 * n.tasks + b < 48
  store_range = omega (arith, n.all_tasks, (fit n).bodies, (fit n).blocks, declared)

  pub block_range : b < 16
  block_range = omega (arith, (fit n).blocks, declared)

  pub version-range : (block_of n b).version ≤ 16777215
  unfolding at
  version-range = (fit n).version b declared

  eight-values : length (block_of n b).values ≡ 8
  unfolding at
  eight-values = (fit n).values b declared

  pub store-ready : {r : Shared} {values : List ℕ} (x : ℕ) → r ≡ set_cell m (32 + b) x → values ≡ (block_of n b).values
      → Before r (4 * n.tasks + b) values
  store-ready x e f = record { sized = rw e (cell-sized (32 + b) x h.before.sized); some = store_range; eight = ap length f ∙ eight-values }

  pub block_done : {r : Shared} (x : ℕ) → unpack x ≡ fresh_word ((block_of n b).version * 256 + (4 * n.tasks + b))
      → Stored (set_cell m (32 + b) x) (4 * n.tasks + b) (block_of n b).values r → SharedStarts (declaring (sheet_in n) n.words (b + 1)) r
  block_done x e stored =
      let tasks = n.all_tasks in
      block_set (fit n) n.words b x h.before (omega (arith, n.all_words)) declared (rw tasks at e) (rw tasks at stored)
