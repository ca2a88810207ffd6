-- `top` meets its contract.
use Rattle.std.proofs.Common.{◌<◌, sym, ap, ◌∙◌, arith}
use Rattle.machine.specs.Flat.{top_of}
use Rattle.machine.proofs.Mask.{top-of, top_none, top_past}
use Rattle.machine.proofs.run.top.Goals as goal

pub returns-then-mask-eq0-clause-highest : goal.returns-then-mask-eq0-clause-highest
returns-then-mask-eq0-clause-highest c = sym (ap (top_of 8) c.if-mask-eq0.true ∙ top_none)

pub returns-then-mask-gt255-clause-highest : goal.returns-then-mask-gt255-clause-highest
returns-then-mask-gt255-clause-highest c = sym (top_past _ c.if-mask-gt255.true)

pub returns-else-mask-gt255-clause-highest : goal.returns-else-mask-gt255-clause-highest
returns-else-mask-gt255-clause-highest c =
    let ne = c.if-mask-eq0.false in
    let le = c.if-mask-gt255.false in
    let pos : 0 < c.args.mask = omega arith in
    (top-of c.args.mask pos (omega arith)).2

pub returns-else-mask-gt255-clause-in_range : goal.returns-else-mask-gt255-clause-in_range
returns-else-mask-gt255-clause-in_range c =
    let ne = c.if-mask-eq0.false in
    let le = c.if-mask-gt255.false in
    let pos : 0 < c.args.mask = omega arith in
    (top-of c.args.mask pos (omega arith)).1
