-- The table has an entry for the byte of each command, and the command's bytes are as many as that entry says.
use Rattle.std.proofs.Common.{◌≡◌, [], length, rules, arith, Some}
use Rattle.model.specs.Command.{total}
use Rattle.model.specs.Encoding.{byte_of, widths_of}
use Rattle.commands.specs.Table.{entry_of}
use Rattle.commands.specs.View.{view_command}
use Rattle.encoder.proofs.Commands.{entry-is, encode-size}
use Rattle.encoder.proofs.size.Goals as goal

pub returns-in_default : goal.returns-in_default
returns-in_default c = let some = entry-is (view_command [] c.args.c) in cc

pub returns : goal.returns
returns c =
    let some = entry-is (view_command [] c.args.c) in
    let by : entry_of (byte_of (view_command [] c.args.c)) ≡ Some c.in-Some.e = cc in
    let width : c.in-Some.e.width ≡ total (widths_of (view_command [] c.args.c)) = cc in
    let eight : length c.args.values ≡ 8 = search rules in
    omega (arith, width, encode-size c.args.values eight c.args.c)
