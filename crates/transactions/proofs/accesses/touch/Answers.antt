-- `touch` meets its contract.
use Rattle.transactions.proofs.accesses.touch.Goals as goal

pub returns : goal.returns
returns c = rw (c.set_touched.ensures, c.bit.ensures, c.touched.ensures, c.set_remembered.ensures, c.set_slot.ensures)
