-- The model's refusals and commands that the crate's types stand for.
use Rattle.std.specs.Prelude.{ℕ, List, ◌++◌, Result, Ok, Err, codes}
use Rattle.std.specs.Fmt.{decimal}
use Rattle.model.specs.Refusal as R
use Rattle.model.specs.Command as M
use Rattle.commands.specs.declared.Refusal.{Refusal}
use Rattle.commands.specs.declared.Refusal.TheVariants.{NoCommand, CutShort, ByteAfterEnd, Misplaced, CeilingPassed}
use Rattle.commands.specs.declared.Refusal.TheVariants.{OutOfRange, WordRepeated, ReleasesNotRising, LimitTooHigh}
use Rattle.commands.specs.declared.Refusal.TheVariants.{BufferTooShort, BufferFull}
use Rattle.commands.specs.declared.Release.{Release}
use Rattle.commands.specs.declared.Access.{Access}
use Rattle.commands.specs.declared.Access.TheVariants.{Get, Put}
use Rattle.commands.specs.declared.Outside.{Outside}
use Rattle.commands.specs.declared.Outside.TheVariants.{Read, Pair, Swap, Begin}
use Rattle.commands.specs.declared.Inside.{Inside}
use Rattle.commands.specs.declared.Inside.TheVariants as I
use Rattle.commands.specs.declared.BodyCommand.{BodyCommand}
use Rattle.commands.specs.declared.BodyCommand.TheVariants as B
use Rattle.commands.specs.declared.Command.{Command}
use Rattle.commands.specs.declared.Command.TheVariants as C
use Rattle.commands.specs.declared.Fault.{Fault}

abbrev pub view_refusal : Refusal → R.Refusal
view_refusal NoCommand = R.no_command
view_refusal CutShort = R.cut_short
view_refusal ByteAfterEnd = R.byte_after_end
view_refusal Misplaced = R.misplaced
view_refusal CeilingPassed = R.ceiling_passed
view_refusal OutOfRange = R.out_of_range
view_refusal WordRepeated = R.word_repeated
view_refusal ReleasesNotRising = R.releases_not_rising
view_refusal LimitTooHigh = R.limit_too_high
view_refusal BufferTooShort = R.buffer_too_short
view_refusal BufferFull = R.buffer_full

-- number and place of a fault, in decimal
abbrev pub fault_text : Fault → List ℕ
fault_text f = decimal (R.number (view_refusal f.refusal)) ++ codes " " ++ decimal f.place

abbrev pub view_release : Release → M.Release
view_release r = record { tick = r.tick; task = r.task }

abbrev pub view_access : Access → M.Access
view_access (Get r b o) = M.GET r b o
view_access (Put b o r) = M.PUT b o r

abbrev pub view_outside : Outside → M.Outside
view_outside (Read r w) = M.READ r w
view_outside (Pair w o n) = M.PAIR w o n
view_outside (Swap r) = M.SWAP r
view_outside Begin = M.BEGIN

abbrev pub view_inside : Inside → M.Inside
view_inside (I.Access a) = M.access (view_access a)
view_inside I.Commit = M.COMMIT

abbrev pub view_body_command : BodyCommand → M.BodyCommand
view_body_command (B.Load r v) = M.LOAD r v
view_body_command (B.Add r q) = M.ADD r q
view_body_command (B.Outside c) = M.outside (view_outside c)
view_body_command (B.Inside c) = M.inside (view_inside c)

-- a command, with the eight values that lie beside a BLOCK
abbrev pub view_command : List ℕ → Command → M.Command
view_command vs (C.Word v) = M.WORD v
view_command vs (C.Block version) = M.BLOCK (record { version = version; values = vs })
view_command vs C.Task = M.TASK
view_command vs (C.Release r) = M.RELEASE (view_release r)
view_command vs C.End = M.END
view_command vs (C.Body c) = M.body (view_body_command c)

abbrev pub view_decoded : List ℕ → Result (Command × ℕ) Fault → M.Found
view_decoded vs (Ok r) = M.found (view_command vs r.0) r.1
view_decoded vs (Err f) = M.refused (view_refusal f.refusal) f.place
