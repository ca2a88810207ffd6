-- The calls of a run, one after another, are a run of the flat machine.
use Prim.Native.Nat.{ℕ}
use mathlib.Core.Path.{◌≡◌, refl}
use mathlib.Core.List.{List}
use Rattle.model.specs.Sheet.{sheet_of}
use Rattle.commands.specs.declared.BodyCommand.{BodyCommand}
use Rattle.sheet.specs.Indexed.{Indexed}
use Rattle.sheet.specs.declared.index.Sheet.{Sheet}
use Rattle.state.specs.State.{Shared, Own}
use Rattle.program.specs.Program.{Programmed}
use Rattle.start.specs.Start.{SharedStarts, TasksStart}
use Rattle.machine.specs.Flat.{Ends, flat_in, paused_at}
use Rattle.machine.specs.declared.run.Paused.{Paused}
use Rattle.report.specs.Text.{report_text, Reported}
use Rattle.engine.specs.Flat.{totals, Ran}

pub ran_by :
    {s : List ℕ} {limit : ℕ} {before after : List ℕ} {n : ℕ} {x : Sheet} {program : List BodyCommand} {bounds : List ℕ} {m m' : Shared}
    {ts ts' : List Own} {from q : Paused}
    → Indexed s x → SharedStarts (sheet_of s) m → TasksStart ts → Programmed s program bounds → from ≡ paused_at x.released
    → Ends s program bounds limit (flat_in m ts from) (flat_in m' ts' q)
    → Reported (report_text m' ts' (totals x q)) before after n
    → Ran s limit before after n
ran_by {x = x} {program} {bounds} {m} {m'} {ts} {ts'} {from} {q} indexed memory tasks programmed start ends reported =
    record {
      text = _;
      run =
          record {
            index = x;
            indexed = indexed;
            program = program;
            bounds = bounds;
            programmed = programmed;
            memory = m;
            memory_start = memory;
            tasks = ts;
            tasks_start = tasks;
            last_memory = m';
            last_tasks = ts';
            paused = q;
            ends = rw start at ends;
            text-is = refl;
          };
      reported = reported;
    }
