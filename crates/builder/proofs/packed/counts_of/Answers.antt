-- `counts_of` meets its contract.
use Rattle.std.proofs.Common.{◌≡◌, refl, arith}
use Rattle.model.specs.Command.{big_endian}
use Rattle.builder.specs.Packed.{counts_of}
use Rattle.builder.proofs.packed.counts_of.Goals as goal

pub returns : goal.returns
unfolding counts_of big_endian
returns c =
    let commands : c.from_be_bytes.result ≡ big_endian c.args.row 4 2 = omega (arith, c.from_be_bytes.ensures) in
    let releases : c.from_be_bytes-2.result ≡ big_endian c.args.row 6 2 = omega (arith, c.from_be_bytes-2.ensures) in
    rw (commands, releases) refl
