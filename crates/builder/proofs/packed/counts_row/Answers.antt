-- `counts_row` meets its contract.
use Rattle.std.proofs.Common.{◌<◌, ◌^◌, refl, ◌≡◌, rules}
use Rattle.rules.specs.View.{view_section}
use Rattle.rules.specs.declared.known.Section.{Section}
use Rattle.rules.specs.declared.known.Section.TheVariants.{Words, Blocks, Bodies, Releases}
use Rattle.rules.specs.contracts.known.Section.{the_type}
use denote.Enum.Declared.{tag_of}
use Rattle.model.specs.Command.{big_endian}
use Rattle.builder.specs.Packed.{section_of, counts_of}
use Rattle.builder.proofs.StateBytes.{two_back}
use Rattle.builder.proofs.packed.counts_row.Goals as goal

tagged : (s : Section) → section_of (tag_of the_type s) ≡ view_section s
tagged Words = refl
tagged Blocks = refl
tagged Bodies = refl
tagged Releases = refl

pub returns : goal.returns
unfolding counts_of big_endian
returns c =
    let commands : c.args.n.commands < 2 ^ 16 = search rules in
    let releases : c.args.n.releases < 2 ^ 16 = search rules in
    (tagged c.args.section, rw (c.to_be_bytes.ensures, c.to_be_bytes-2.ensures, two_back _ commands, two_back _ releases) refl)
