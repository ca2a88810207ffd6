-- `set_words` meets its contract.
use Rattle.std.proofs.Common.{ap, ◌∙◌}
use Rattle.model.specs.Word.{fresh_word}
use Rattle.start.proofs.Numbers.{fit}
use Rattle.start.proofs.Declaring.{word_set}
use Rattle.start.proofs.set_words.Goals as goal

pub loop-w-preserved : goal.loop-w-preserved
loop-w-preserved c =
    let n = c.args.n.now in
    let value = c.fresh_cell.ensures ∙ ap fresh_word c.word.ensures in
    rw c.set_cell.ensures (word_set (fit n) _ _ c.loop-w.invariant (rw n.all_words at c.loop-w-test.true) value)
