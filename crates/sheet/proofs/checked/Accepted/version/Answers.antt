-- `version` meets its contract: the blocks stand behind the words, 37 bytes each.
use Prim.Native.Nat.{ℕ}
use Rattle.model.specs.Command.{Block, big_endian, no_block}
use Rattle.sheet.proofs.Declared.{block_of, fits}
use mathlib.Core.Path.{◌∙◌, ap, sym}
use native.Mathlib.Omega.{arith}
use Rattle.sheet.proofs.checked.Accepted.version.Goals as goal

pub overflow_mul-words : goal.overflow_mul-words
overflow_mul-words c = omega (arith, fits _ c.args.self.sound, c.requires, c.requires.declared)

pub overflow_mul-i : goal.overflow_mul-i
overflow_mul-i c = omega (arith, fits _ c.args.self.sound, c.requires, c.requires.declared)

pub overflow_add-words : goal.overflow_add-words
overflow_add-words c = omega (arith, fits _ c.args.self.sound, c.requires, c.requires.declared)

pub overflow_add-words-2 : goal.overflow_add-words-2
overflow_add-words-2 c = omega (arith, fits _ c.args.self.sound, c.requires, c.requires.declared)

pub value-requires-clause-place : goal.value-requires-clause-place
value-requires-clause-place c = rw c.bytes.ensures.same (omega (arith, fits _ c.args.self.sound, c.requires, c.requires.declared))

pub returns : goal.returns
returns c =
    let s = c.args.self.bytes.now in
    rw c.bytes.ensures.same at c.value.ensures ∙ ap (λ (p : ℕ). big_endian s p 4) (omega (arith, c.requires))
    ∙ sym (ap (λ (b : Block). b.version)
    (block_of s c.args.self.sound c.args.i no_block c.requires.declared))
