-- What the commands of a good sheet declare from a place on, by what is known there: the facts that the walk collects.
use Prim.Native.Nat.{ℕ, zero, suc, ◌+◌, ◌<◌, ◌≤◌}
use mathlib.Core.Path.{◌≡◌, refl}
use mathlib.Core.Bool.{true, ◌&&◌, false≢true}
use mathlib.Core.List.{List, [], ◌∷◌}
use native.Mathlib.Omega.{arith}
use lib.Dec.{eqb, ltb}
use lib.ListN.{length}
use borrow.Author.Tests.{ltb-true, eqb-true}
use Rattle.model.specs.Lists.{at}
use Rattle.model.specs.Command.{Release, Block, Command, WORD, BLOCK, TASK, RELEASE, END, body}
use Rattle.model.specs.Fault.{Section, word_section, block_section, body_section, release_section, Known, words?, blocks?, body?, releases?, before}
use Rattle.model.specs.Sheet.{Declared}
use Rattle.model.proofs.Fit.Elements.{and_left, and_right, or_cases}
use Rattle.model.proofs.Fit.Body.{Faultless}
use Rattle.model.proofs.Fit.Sheet.{BodyFit, release_at, Rises, block_at, command_count}

-- a BLOCK has eight values
abbrev pub EightValues : Command → Type 0
EightValues (BLOCK b) = length b.values ≡ 8
EightValues (WORD v) = Unit {0}
EightValues TASK = Unit {0}
EightValues (RELEASE r) = Unit {0}
EightValues END = Unit {0}
EightValues (body c) = Unit {0}

-- by section: what may still come, and the rest of an open body
pub record InWords (d : Declared) : Type 0 where
  pub some_body : 1 ≤ length d.sheet.bodies

pub record InBlocks (d : Declared) : Type 0 where
  pub no_words : d.sheet.words ≡ []
  pub some_body : 1 ≤ length d.sheet.bodies

pub record InBodies (k : Known) (d : Declared) : Type 0 where
  pub no_words : d.sheet.words ≡ []
  pub no_blocks : d.sheet.blocks ≡ []
  pub others : Faultless k d.body

pub record InReleases (d : Declared) : Type 0 where
  pub no_words : d.sheet.words ≡ []
  pub no_blocks : d.sheet.blocks ≡ []
  pub no_bodies : d.sheet.bodies ≡ []

abbrev pub InSection : Section → Known → Declared → Type 0
InSection word_section k d = InWords d
InSection block_section k d = InBlocks d
InSection body_section k d = InBodies k d
InSection release_section k d = InReleases d

pub record ReleasesDeclared (tasks : ℕ) (last : Release) (before : ℕ) (rs : List Release) : Type 0 where
  pub task : (i : ℕ) → i < length rs → (release_at rs i).task < tasks
  pub rising : (i j : ℕ) → i < j → j < length rs → Rises (release_at rs i) (release_at rs j)
  pub after_last : 0 < before → (i : ℕ) → i < length rs → Rises last (release_at rs i)

pub record BlockFit (b : Block) : Type 0 where
  pub version : b.version ≤ 16777215
  pub values : length b.values ≡ 8

-- the whole sheet's numbers are those known and those still declared
pub record DeclaredHere (k : Known) (d : Declared) : Type 0 where
  pub words : k.counts.words ≤ 32 → k.counts.words + length d.sheet.words ≤ 32
  pub blocks : k.counts.blocks ≤ 16 → k.counts.blocks + length d.sheet.blocks ≤ 16
  pub bodies : k.counts.tasks ≤ 8 → k.counts.tasks + length d.sheet.bodies ≤ 8
  pub commands : k.counts.commands ≤ 512 → k.counts.commands + length d.body + command_count d.sheet.bodies ≤ 512
  pub releases : k.counts.releases ≤ 256 → k.counts.releases + length d.sheet.releases ≤ 256
  pub block : (b : ℕ) → b < length d.sheet.blocks → BlockFit (block_at d.sheet.blocks b)
  pub body : (p : ℕ) → p < length d.sheet.bodies
      → BodyFit (k.counts.words + length d.sheet.words) (k.counts.blocks + length d.sheet.blocks) (at [] d.sheet.bodies p)
  pub released : ReleasesDeclared (k.counts.tasks + length d.sheet.bodies) k.last k.counts.releases d.sheet.releases
  pub section : InSection k.section k d

-- SECTIONS BY THEIR TESTS
pub in_words : (s : Section) → words? s ≡ true → s ≡ word_section
in_words word_section e = refl
in_words block_section e = absurd (false≢true e)
in_words body_section e = absurd (false≢true e)
in_words release_section e = absurd (false≢true e)

pub in_blocks : (s : Section) → blocks? s ≡ true → s ≡ block_section
in_blocks block_section e = refl
in_blocks word_section e = absurd (false≢true e)
in_blocks body_section e = absurd (false≢true e)
in_blocks release_section e = absurd (false≢true e)

pub in-body : (s : Section) → body? s ≡ true → s ≡ body_section
in-body body_section e = refl
in-body word_section e = absurd (false≢true e)
in-body block_section e = absurd (false≢true e)
in-body release_section e = absurd (false≢true e)

pub in_releases : (s : Section) → releases? s ≡ true → s ≡ release_section
in_releases release_section e = refl
in_releases word_section e = absurd (false≢true e)
in_releases block_section e = absurd (false≢true e)
in_releases body_section e = absurd (false≢true e)

-- RELEASES
pub rises : (a b : Release) → before a b ≡ true → Rises a b
rises a b e =
    or_cases (ltb a.tick b.tick) (eqb a.tick b.tick && ltb a.task b.task) e
    (λ l. let h = ltb-true a.tick b.tick l in record { tick = omega arith; task = λ s. absurd (omega arith) })
    (λ r. let s = eqb-true a.tick b.tick (and_left (eqb a.tick b.tick) (ltb a.task b.task) r) in
    record { tick = omega arith; task = λ q. ltb-true a.task b.task (and_right (eqb a.tick b.tick) (ltb a.task b.task) r) })

pub rises_trans : {a b c : Release} → Rises a b → Rises b c → Rises a c
rises_trans {a} {b} {c} f g =
    record {
      tick = omega (arith, f.tick, g.tick);
      task = λ e.
          let p : a.tick ≡ b.tick = omega (arith, f.tick, g.tick) in
          let q : b.tick ≡ c.tick = omega arith in
          omega (arith, f.task p, g.task q);
    }

pub no_releases : (tasks before : ℕ) (last : Release) → ReleasesDeclared tasks last before []
no_releases tasks before last = record {
  task = λ i (h : i < 0). absurd (omega arith);
  rising = λ i j l (h : j < 0). absurd (omega arith);
  after_last = λ p i (h : i < 0). absurd (omega arith);
}

-- one more in front, which rises from the last one known
pub release-first : {tasks before : ℕ} {last r : Release} {rs : List Release} → r.task < tasks → (0 < before → Rises last r)
    → ReleasesDeclared tasks r (suc before) rs → ReleasesDeclared tasks last before (r ∷ rs)
unfolding at
release-first {tasks} {before} {last} {r} {rs} t up f = record { task = task; rising = rising; after_last = after_last }
  where
    task : (i : ℕ) → i < suc (length rs) → (release_at (r ∷ rs) i).task < tasks
    task zero h = t
    task (suc i) h = f.task i (omega arith)

    rising : (i j : ℕ) → i < j → j < suc (length rs) → Rises (release_at (r ∷ rs) i) (release_at (r ∷ rs) j)
    rising i zero l h = absurd (omega arith)
    rising zero (suc j) l h = f.after_last (omega arith) j (omega arith)
    rising (suc i) (suc j) l h = f.rising i j (omega arith) (omega arith)

    after_last : 0 < before → (i : ℕ) → i < suc (length rs) → Rises last (release_at (r ∷ rs) i)
    after_last p zero h = up p
    after_last p (suc i) h = rises_trans (up p) (f.after_last (omega arith) i (omega arith))
