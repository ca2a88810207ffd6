-- Each command found at the place keeps what is filled (Filling), and leaves less of the sheet.
use mathlib.Core.Logic.{inl, inr}
use Rattle.model.specs.Lists.{replace}
use Rattle.program.proofs.Decoded.{found-is, refused-is, nearer}
use Rattle.program.proofs.Filling.{begin, not-refused, one_word, one_block, one-task}
use Rattle.program.proofs.Filling.{one-command, room_for_command, at-release, at-end}
use Rattle.program.proofs.program.Goals as goal

pub loop-command-init : goal.loop-command-init
loop-command-init c = begin _ _ c.bytes-sheet.ensures.sound

pub loop-command-smaller-in-Word : goal.loop-command-smaller-in-Word
loop-command-smaller-in-Word c = nearer _ _ _ _ c.decode.ensures c.in-Ok.is

pub loop-command-preserved-in-Word : goal.loop-command-preserved-in-Word
loop-command-preserved-in-Word c =
    let l = c.loop-command.invariant in
    elim c.in-Word.is [
      | inl word ↦ one_word l (found-is _ _ _ _ c.decode.ensures c.in-Ok.is word.1)
      | inr block ↦ one_block l (found-is _ _ _ _ c.decode.ensures c.in-Ok.is block.1)
    ]

pub loop-command-smaller-in-Task : goal.loop-command-smaller-in-Task
loop-command-smaller-in-Task c = nearer _ _ _ _ c.decode.ensures c.in-Ok.is

pub loop-command-preserved-in-Task : goal.loop-command-preserved-in-Task
unfolding replace
loop-command-preserved-in-Task c =
    one-task c.loop-command.invariant (found-is _ _ _ _ c.decode.ensures c.in-Ok.is c.in-Task.is)

pub returns-in-Release : goal.returns-in-Release
unfolding replace
returns-in-Release c =
    let l = c.loop-command.invariant in
    rw (← c.bytes-sheet.ensures.same) (elim c.in-Release.is [
      | inl release ↦ at-release l _ (found-is _ _ _ _ c.decode.ensures c.in-Ok.is release.1)
      | inr end ↦ at-end l (found-is _ _ _ _ c.decode.ensures c.in-Ok.is end)
    ])

pub bounds-program-lines : goal.bounds-program-lines
bounds-program-lines c =
    room_for_command c.loop-command.invariant (found-is _ _ _ _ c.decode.ensures c.in-Ok.is c.in-Body.is)

pub loop-command-smaller : goal.loop-command-smaller
loop-command-smaller c = nearer _ _ _ _ c.decode.ensures c.in-Ok.is

pub loop-command-preserved : goal.loop-command-preserved
loop-command-preserved c =
    one-command c.loop-command.invariant _ (found-is _ _ _ _ c.decode.ensures c.in-Ok.is c.in-Body.is)

pub returns-in_default : goal.returns-in_default
returns-in_default c = not-refused c.loop-command.invariant (refused-is _ _ _ _ c.decode.ensures c.in_default.is)
