-- `command_of` meets its contract.
use Rattle.model.specs.Command.{row_of, table}
use Rattle.commands.proofs.Decoding.{begin-command, block_command, commit-command, end_command, get_command}
use Rattle.commands.proofs.Decoding.{load-command, no-command, pair_command, put_command, read-command}
use Rattle.commands.proofs.Decoding.{release-command, sum_command, swap-command, task-command, word-command}
use borrow.Author.Tests.{ne_eqb}
use mathlib.Core.Path.{sym}
use native.Mathlib.Omega.{arith}
use Rattle.commands.proofs.command_of.Goals as goal

pub returns-in-1 : goal.returns-in-1
returns-in-1 c = rw (c.in-1.is, word-command) (cc)

pub returns-in-2 : goal.returns-in-2
returns-in-2 c = rw (c.in-2.is, block_command) (cc)

pub returns-in-3 : goal.returns-in-3
returns-in-3 c = rw (c.in-3.is, task-command)

pub returns-in-4 : goal.returns-in-4
returns-in-4 c = rw (c.in-4.is, release-command) (cc)

pub returns-in-5 : goal.returns-in-5
returns-in-5 c = rw (c.in-5.is, end_command)

pub returns-in-16 : goal.returns-in-16
returns-in-16 c = rw (c.in-16.is, load-command) (cc)

pub returns-in-17 : goal.returns-in-17
returns-in-17 c = rw (c.in-17.is, sum_command) (cc)

pub returns-in-18 : goal.returns-in-18
returns-in-18 c = rw (c.in-18.is, read-command) (cc)

pub returns-in-19 : goal.returns-in-19
returns-in-19 c = rw (c.in-19.is, pair_command) (cc)

pub returns-in-20 : goal.returns-in-20
returns-in-20 c = rw (c.in-20.is, swap-command) (cc)

pub returns-in-32 : goal.returns-in-32
returns-in-32 c = rw (c.in-32.is, begin-command)

pub returns-in-33 : goal.returns-in-33
returns-in-33 c = rw (c.in-33.is, get_command) (cc)

pub returns-in-34 : goal.returns-in-34
returns-in-34 c = rw (c.in-34.is, put_command) (cc)

pub returns-in-35 : goal.returns-in-35
returns-in-35 c = rw (c.in-35.is, commit-command)

pub returns-in_default : goal.returns-in_default
unfolding row_of table
returns-in_default c =
    let b = c.args.b in
    sym (no-command _ _ b (simp (
      ne_eqb b 1 (λ e. omega arith),
      ne_eqb b 2 (λ e. omega arith),
      ne_eqb b 3 (λ e. omega arith),
      ne_eqb b 4 (λ e. omega arith),
      ne_eqb b 5 (λ e. omega arith),
      ne_eqb b 16 (λ e. omega arith),
      ne_eqb b 17 (λ e. omega arith),
      ne_eqb b 18 (λ e. omega arith),
      ne_eqb b 19 (λ e. omega arith),
      ne_eqb b 20 (λ e. omega arith),
      ne_eqb b 32 (λ e. omega arith),
      ne_eqb b 33 (λ e. omega arith),
      ne_eqb b 34 (λ e. omega arith),
      ne_eqb b 35 (λ e. omega arith),
    )))
