-- A sheet is accepted exactly when it is well formed.
use Prim.Native.Nat.{ℕ}
use mathlib.Core.Path.{◌≡◌, refl, ap, ◌∙◌}
use mathlib.Core.Logic.{◌↔◌}
use mathlib.Core.List.{List, [], ◌∷◌, ◌++◌}
use mathlib.Core.Option.{none}
use Rattle.model.specs.Command.{Command, END}
use Rattle.model.specs.Fault.{Known, fault_of}
use Rattle.model.specs.Sheet.{accepted, verdict, commands_at}
use Rattle.model.specs.Encoding.{encode_all, ValuesFit}
use Rattle.model.specs.WellFormed.{WellFormed}
use Rattle.model.proofs.Fit.Reading.{Good, ending, going, good}
use Rattle.model.proofs.Encoding.Numbers.{Bytes}
use Rattle.model.proofs.Encoding.Commands.{found_fits}
use Rattle.model.proofs.Encoding.Ranges.{Bounded, nothing_bounded, after_bounded, faultless_fits}
use Rattle.model.proofs.Encoding.Reading.{Passes, nothing, first}
use Rattle.model.proofs.Encoding.Verdict.{accepted-sheet}
use Rattle.model.proofs.Encoding.Sheets.{sheet-bytes, fits_values}
use Rattle.model.proofs.WellFormed.Written.{good-written}
use Rattle.model.proofs.WellFormed.Sections.{rules-good}

-- good commands are passed up to END
record UpToEnd (k : Known) (l : List Command) : Type 0 where
  commands : List Command
  known : Known
  passes : Passes k commands known
  good : fault_of known END ≡ none
  all : l ≡ commands ++ (END ∷ [])

up_to_end : {k : Known} {l : List Command} → Good ValuesFit k l → Bounded k.counts → UpToEnd k l
up_to_end {k} (ending q) h = record { commands = []; known = k; passes = nothing; good = q; all = refl }
up_to_end {k} (going {c = c} q e v g) h =
    let r = up_to_end g (after_bounded k c q h) in
    record {
      commands = c ∷ r.commands;
      known = r.known;
      passes = first q e (faultless_fits k h c q v) r.passes;
      good = r.good;
      all = ap (λ (z : List Command). c ∷ z) r.all;
    }

to_well_formed : (s : List ℕ) → Bytes s → verdict s ≡ accepted → WellFormed s
unfolding commands_at
to_well_formed s small e =
    let w = good-written (commands_at s 0) (good s ValuesFit (λ place c next f. fits_values c (found_fits s small place next c f)) e) in
    record { sheet = w.sheet; encoded = sheet-bytes s small e ∙ ap encode_all w.commands; rules = w.rules }

from_well_formed : (s : List ℕ) → WellFormed s → verdict s ≡ accepted
from_well_formed s w =
    let r = up_to_end (rules-good w.sheet w.rules) nothing_bounded in
    rw (w.encoded, r.all) (accepted-sheet r.passes r.good)

pub accepted_when_well_formed : (s : List ℕ) → Bytes s → verdict s ≡ accepted ↔ WellFormed s
accepted_when_well_formed s small = (to_well_formed s small, from_well_formed s)
