-- The run of the flat machine: how it starts, that it ends, and the text that is read off its records then.
use Rattle.std.specs.Prelude.{ℕ, ◌≡◌, List}
use Rattle.model.specs.Sheet.{sheet_of}
use Rattle.commands.specs.declared.BodyCommand.{BodyCommand}
use Rattle.sheet.specs.Indexed.{Indexed}
use Rattle.sheet.specs.declared.index.Sheet.{Sheet}
use Rattle.state.specs.State.{Shared, Own}
use Rattle.program.specs.Program.{Programmed}
use Rattle.start.specs.Start.{SharedStarts, TasksStart}
use Rattle.machine.specs.Flat.{Ends, flat_in, paused_at}
use Rattle.machine.specs.declared.run.Paused.{Paused}
use Rattle.report.specs.Text.{report_text, Reported}
use Rattle.report.specs.declared.Totals.{Totals}

abbrev pub totals : Sheet → Paused → Totals
totals x q = record { words = x.words; blocks = x.blocks; tasks = x.tasks; now = q.ticks }

pub record FlatRun (s : List ℕ) (limit : ℕ) (text : List ℕ) : Type 0 where
  pub index : Sheet
  pub indexed : Indexed s index
  pub program : List BodyCommand
  pub bounds : List ℕ
  pub programmed : Programmed s program bounds
  pub memory : Shared
  pub memory_start : SharedStarts (sheet_of s) memory
  pub tasks : List Own
  pub tasks_start : TasksStart tasks
  pub last_memory : Shared
  pub last_tasks : List Own
  pub paused : Paused
  pub ends : Ends s program bounds limit (flat_in memory tasks (paused_at index.released)) (flat_in last_memory last_tasks paused)
  pub text-is : text ≡ report_text last_memory last_tasks (totals index paused)

-- what the run leaves in the buffer
pub record Ran (s : List ℕ) (limit : ℕ) (before after : List ℕ) (answer : ℕ) : Type 0 where
  pub text : List ℕ
  pub run : FlatRun s limit text
  pub reported : Reported text before after answer
