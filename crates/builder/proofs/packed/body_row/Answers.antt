-- `body_row` meets its contract.
use Rattle.std.proofs.Common.{refl, ◌∙◌, ap}
use Rattle.builder.specs.Packed.{some?}
use Rattle.builder.proofs.StateBytes.{flagged, body_back}
use Rattle.builder.proofs.packed.body_row.Goals as goal

pub returns : goal.returns
returns c =
    let b = c.args.b in (
      body_back b.pairs.values b.touched.values b.puts.values _ _ _ b.empty b.inside _ _ _ _ _ _ _ _ (ap some? c.from.ensures ∙ flagged _)
          c.count_byte.ensures (ap some? c.from-2.ensures ∙ flagged _) c.count_byte-2.ensures c.count_byte-3.ensures,
      refl,
      ap some? c.from-3.ensures ∙ flagged _,
    )
