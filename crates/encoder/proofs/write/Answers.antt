-- The command's byte, and its operands behind it.
use Rattle.std.proofs.Common.{◌≡◌, ℕ, length, rules, arith}
use Rattle.std.proofs.lemmas.List.{length-take, length-drop}
use Rattle.commands.specs.View.{view_command}
use Rattle.model.proofs.Encoding.Verdict.{encode-some}
use Rattle.encoder.proofs.Commands.{operands_size, all-written}
use Rattle.encoder.proofs.write.Goals as goal

pub put-requires : goal.put-requires
put-requires c =
    omega (arith, c.requires, encode-some (view_command c.args.values c.args.c), length-take {A = ℕ}, length-drop {A = ℕ})

pub operands-requires : goal.operands-requires
operands-requires c =
    let a = c.args in
    let eight : length a.values ≡ 8 = search rules in
    omega (arith, c.requires, operands_size a.values eight a.c, length-take {A = ℕ}, length-drop {A = ℕ}, c.put.auto.buffer)

pub returns : goal.returns
returns c =
    let a = c.args in
    let eight : length a.values ≡ 8 = search rules in
    all-written a.values eight a.c a.buffer.now c.put.new.buffer c.operands.new.buffer a.at (rw c.byte_of.ensures at c.put.ensures)
    c.operands.ensures
