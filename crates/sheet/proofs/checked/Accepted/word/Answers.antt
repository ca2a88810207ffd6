-- `word` meets its contract: the words stand first, five bytes each.
use Prim.Native.Nat.{ℕ}
use Rattle.model.specs.Command.{big_endian}
use Rattle.sheet.proofs.Declared.{fits, word_of}
use mathlib.Core.Path.{◌∙◌, ap, sym}
use native.Mathlib.Omega.{arith}
use Rattle.sheet.proofs.checked.Accepted.word.Goals as goal

pub overflow_mul-i : goal.overflow_mul-i
overflow_mul-i c = omega (arith, fits _ c.args.self.sound, c.requires)

pub overflow_add-i : goal.overflow_add-i
overflow_add-i c = omega (arith, fits _ c.args.self.sound, c.requires)

pub value-requires-clause-place : goal.value-requires-clause-place
value-requires-clause-place c = rw c.bytes.ensures.same (omega (arith, fits _ c.args.self.sound, c.requires))

pub returns : goal.returns
returns c =
    let s = c.args.self.bytes.now in
    rw c.bytes.ensures.same at c.value.ensures ∙ ap (λ (p : ℕ). big_endian s p 4) (omega arith)
    ∙ sym (word_of s c.args.self.sound c.args.i c.requires)
