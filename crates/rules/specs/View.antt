-- The model's values that the crate's types stand for.
use Rattle.std.specs.Prelude.{ℕ, List, take, Option, None, Some}
use Rattle.std.proofs.Math.Option.{none, some}
use Rattle.std.proofs.Math.Option as M
use Rattle.model.specs.Refusal as R
use Rattle.model.specs.Fault as F
use Rattle.commands.specs.View.{view_refusal, view_release}
use Rattle.rules.specs.declared.known.Section.{Section}
use Rattle.rules.specs.declared.known.Section.TheVariants.{Words, Blocks, Bodies, Releases}
use Rattle.rules.specs.declared.known.SheetCounts.{SheetCounts}
use Rattle.rules.specs.declared.known.Numbers.{Numbers}
use Rattle.rules.specs.declared.known.Task.{Task}
use Rattle.rules.specs.declared.known.Known.{Known}
use Rattle.commands.specs.declared.Refusal.{Refusal}

-- WHAT IS KNOWN
abbrev pub view_section : Section → F.Section
view_section Words = F.word_section
view_section Blocks = F.block_section
view_section Bodies = F.body_section
view_section Releases = F.release_section

abbrev pub view_counts : SheetCounts → F.SheetCounts
view_counts n = record { words = n.words; blocks = n.blocks; tasks = n.tasks; commands = n.commands; releases = n.releases }

abbrev pub view_numbers : Numbers → List ℕ
view_numbers n = take n.count n.values

abbrev pub view_body : Task → F.Body
view_body b =
    record {
      empty = b.empty;
      pairs = view_numbers b.pairs;
      inside = b.inside;
      touched = view_numbers b.touched;
      puts = view_numbers b.puts;
    }

abbrev pub view_known : Known → F.Known
view_known k =
    record { section = view_section k.section; counts = view_counts k.counts; body = view_body k.body; last = view_release k.last }

-- the first rule that a command breaks
abbrev pub view_fault : Option Refusal → M.Option R.Refusal
view_fault None = none
view_fault (Some f) = some (view_refusal f)
