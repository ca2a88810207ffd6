-- The command that is decoded at a place is the one found there, and the place after it is nearer to the sheet's end.
use Prim.Native.Nat.{ℕ, ◌-◌, ◌<◌}
use mathlib.Core.Path.{◌≡◌, sym}
use mathlib.Core.List.{List}
use native.Mathlib.Omega.{arith}
use lib.ListN.{length}
use Rattle.std.specs.Prelude.{Result, Ok, Err}
use Rattle.model.specs.Command as M
use Rattle.commands.specs.View.{view_refusal, view_command, view_decoded}
use Rattle.commands.specs.declared.Command.{Command}
use Rattle.commands.specs.declared.Fault.{Fault}
use Rattle.sheet.proofs.Reading.{next-after}

module _ (s : List ℕ) (place : ℕ) (r : Result (Command × ℕ) Fault) (vs : List ℕ) (e : view_decoded vs r ≡ M.command_at s place) where
  pub found-is : {c d : Command} {next : ℕ} → r ≡ Ok (c, next) → c ≡ d → M.command_at s place ≡ M.found (view_command vs d) next
  found-is g h = sym (rw (g, h) at e)

  pub refused-is : {f : Fault} → r ≡ Err f → M.command_at s place ≡ M.refused (view_refusal f.refusal) f.place
  refused-is g = sym (rw g at e)

  pub nearer : {c : Command} {next : ℕ} → r ≡ Ok (c, next) → length s - next < length s - place
  nearer {c} {next} g =
      let f : M.command_at s place ≡ M.found (view_command vs c) next = sym (rw g at e) in
      omega (arith, (next-after s place f).0, (next-after s place f).1)
