-- A slice's test for a number is the model's membership.
use Rattle.std.proofs.Common.{◌∙◌, ap}
use Rattle.model.specs.Fault.{among}
use Rattle.rules.proofs.Membership.{any_among}
use Rattle.rules.proofs.known.Numbers.has.Goals as goal

pub returns : goal.returns
returns c = c.contains.ensures.value ∙ any_among c.args.x _ ∙ ap (among c.args.x) c.as_slice.ensures
