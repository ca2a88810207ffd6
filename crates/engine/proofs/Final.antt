-- The text that the flat machine's run ends with is the model's report.
use Prim.Native.Nat.{ℕ, ◌<◌, ◌≤◌}
use mathlib.Core.Path.{◌≡◌, refl, sym, ap, ◌∙◌}
use mathlib.Core.List.{List, [], ◌∷◌}
use lib.ListN.{length, get_or}
use Rattle.model.specs.Command.{Release, Command, WORD, BLOCK, TASK, RELEASE, END, body}
use Rattle.model.specs.Sheet.{declared, commands_from, sheet_of, verdict, accepted, commands_at, declared_at}
use Rattle.model.specs.Machine.{Machine, run}
use Rattle.model.specs.Start.{start_machine}
use Rattle.model.specs.Report.{report}
use Rattle.model.specs.Answer.{report_of}
use Rattle.model.proofs.Fit.Accepted.{accepted_fit}
use Rattle.sheet.specs.Indexed.{OnlyReleases, Indexed}
use Rattle.sheet.specs.declared.index.Sheet.{Sheet}
use Rattle.refinement.proofs.Releases.{leading, releases_from}
use Rattle.refinement.proofs.Final as refinement
use Rattle.report.specs.Text.{Holds, Within}
use Rattle.report.proofs.Model.{same-report}
use Rattle.engine.specs.Flat.{FlatRun, totals}

-- where only releases stand, the leading ones are all that is declared
leading_declared : (l : List Command) → OnlyReleases l → leading l ≡ (declared l).sheet.releases
unfolding declared
leading_declared [] h = refl
leading_declared (RELEASE r ∷ l) h = ap (λ (k : List Release). r ∷ k) (leading_declared l h)
leading_declared (END ∷ l) h = refl
leading_declared (WORD v ∷ l) h = absurd h
leading_declared (BLOCK b ∷ l) h = absurd h
leading_declared (TASK ∷ l) h = absurd h
leading_declared (body c ∷ l) h = absurd h

-- the place of an index is that of the model's releases
releases-start : {s : List ℕ} {x : Sheet} → Indexed s x → releases_from s x.released ≡ (sheet_of s).releases
unfolding releases_from declared_at commands_at
releases-start {s} {x} h = leading_declared (commands_from (length s) s x.released) h.released.only ∙ sym h.released.all

module _ {s : List ℕ} (small : (i : ℕ) → get_or s i 0 < 256) (good : verdict s ≡ accepted) (limit : ℕ) (most : limit ≤ 65535) {text : List ℕ}
    (r : FlatRun s limit text) where
  abbrev last-machine : Machine
  last-machine = run limit (start_machine (sheet_of s))

  ended : refinement.Holds (sheet_of s) last-machine r.last_memory r.last_tasks r.paused
  ended =
      refinement.final s small good limit most r.program r.bounds r.programmed r.index.released (releases-start r.indexed) r.memory
      r.memory_start r.tasks r.tasks_start r.last_memory r.last_tasks r.paused r.ends

  held : Holds (sheet_of s) last-machine r.last_memory r.last_tasks (totals r.index r.paused)
  held =
      record {
        words = r.indexed.words;
        blocks = r.indexed.blocks;
        tasks = r.indexed.tasks;
        memory = ended.memory;
        registers = ended.registers;
        counts = ended.counts;
        now = ended.now;
      }

  within : Within (sheet_of s)
  within = let c = accepted_fit s good in record { words = c.words; blocks = c.blocks; bodies = c.bodies }

  report-of : report_of s limit ≡ report (sheet_of s) last-machine
  unfolding report_of
  report-of = refl

  pub same_text : text ≡ report_of s limit
  same_text = r.text-is ∙ same-report held within ∙ sym report-of
