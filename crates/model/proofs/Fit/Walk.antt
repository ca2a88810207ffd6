-- The walk over a good sheet's commands: each command's step, and the sheet that they declare.
use Prim.Native.Nat.{ℕ, suc, ◌+◌, ◌<◌}
use mathlib.Core.Path.{◌≡◌, refl, sym, ap, subst}
use mathlib.Core.Bool.{true, false, not, ◌&&◌, ◌||◌, true≢false}
use mathlib.Core.List.{List, []}
use mathlib.Core.Option.{none}
use native.Mathlib.Omega.{arith}
use lib.Dec.{eqb, ltb, leb}
use lib.ListN.{length}
use borrow.Author.Tests.{ltb-true, leb-true, eqb-true}
use Rattle.model.specs.Command.{Block, Release, BodyCommand, LOAD, ADD, outside, inside}
use Rattle.model.specs.Command.{Command, WORD, BLOCK, TASK, RELEASE, END, body, no_block}
use Rattle.model.specs.Fault.{Section, Known, words?, blocks?, body?, releases?, may_end, bodies_over, before, in_place}
use Rattle.model.specs.Fault.{under_ceiling, in_range, rising, fault_of, outside_transaction, in_place_outside, in_place_body, under_ceiling_body}
use Rattle.model.specs.Sheet.{Declared, declares, in_open_body, declare, declared, after, end?}
use Rattle.model.proofs.Fit.Elements.{and_left, and_right, or_cases, first-each}
use Rattle.model.proofs.Fit.Body.{passed_of}
use Rattle.model.proofs.Fit.Sheet.{BodyFit, Rises}
use Rattle.model.proofs.Fit.Reading.{Good, ending, going}
use Rattle.model.proofs.Fit.Declared.{EightValues, InSection, BlockFit, DeclaredHere, in_words}
use Rattle.model.proofs.Fit.Declared.{in_blocks, in-body, in_releases, rises, no_releases, release-first}

-- where the section is known
at-section : (k : Known) (d : Declared) {s : Section} → k.section ≡ s → InSection s k d → InSection k.section k d
at-section k d e f = subst (λ (z : Section). InSection z k d) (sym e) f

-- WORD AND BLOCK
word-step : (k : Known) (v : ℕ) (d : Declared) → fault_of k (WORD v) ≡ none → DeclaredHere (after k (WORD v)) d → DeclaredHere k (declare (WORD v) d)
unfolding after declare in_place under_ceiling
word-step k v d q f =
    let p = passed_of k (WORD v) q in
    let n : ℕ = length d.sheet.words in
    let room = ltb-true k.counts.words 32 p.under_ceiling in
    let same : suc k.counts.words + n ≡ k.counts.words + suc n = omega arith in
    record {
      words = λ h. omega (arith, f.words room);
      blocks = f.blocks;
      bodies = f.bodies;
      commands = λ h. omega (arith, f.commands h);
      releases = f.releases;
      block = f.block;
      body = λ i h. rw same at (f.body i h);
      released = f.released;
      section = at-section k (declare (WORD v) d) (in_words k.section p.in_place) (record { some_body = f.section.some_body });
    }

block_step : (k : Known) (b : Block) (d : Declared) → fault_of k (BLOCK b) ≡ none → length b.values ≡ 8 → DeclaredHere (after k (BLOCK b)) d
    → DeclaredHere k (declare (BLOCK b) d)
unfolding after declare in_place under_ceiling in_range
block_step k b d q v f =
    let p = passed_of k (BLOCK b) q in
    let n : ℕ = length d.sheet.blocks in
    let room = ltb-true k.counts.blocks 16 p.under_ceiling in
    let same : suc k.counts.blocks + n ≡ k.counts.blocks + suc n = omega arith in
    let none : length d.sheet.words ≡ 0 = ap length f.section.no_words in
    record {
      words = f.words;
      blocks = λ h. omega (arith, f.blocks room);
      bodies = f.bodies;
      commands = λ h. omega (arith, f.commands h);
      releases = f.releases;
      block =
          first-each no_block BlockFit b d.sheet.blocks (record { version = leb-true b.version 16777215 p.in_range; values = v }) f.block;
      body = λ i h. rw same at (f.body i h);
      released = f.released;
      section = or_cases (words? k.section) (blocks? k.section) p.in_place
          (λ e. at-section k (declare (BLOCK b) d) (in_words k.section e) (record { some_body = f.section.some_body }))
          (λ e. at-section k (declare (BLOCK b) d) (in_blocks k.section e)
          (record { no_words = f.section.no_words; some_body = f.section.some_body }));
    }

-- BODIES
-- a command of an open body
pub body-section : (k : Known) (c : BodyCommand) → in_place_body k c ≡ true → body? k.section ≡ true
unfolding in_place_body
body-section k (LOAD r v) e = e
body-section k (ADD r q) e = e
body-section k (outside c) e = and_left (body? k.section) (not k.body.inside) (and_left (outside_transaction k) (in_place_outside k.body c) e)
body-section k (inside c) e = and_left (body? k.section) k.body.inside e

body-step : (k : Known) (c : BodyCommand) (d : Declared) → fault_of k (body c) ≡ none → DeclaredHere (after k (body c)) d
    → DeclaredHere k (declare (body c) d)
unfolding after declare in_place under_ceiling
body-step k c d q f =
    let p = passed_of k (body c) q in
    let here = in-body k.section (body-section k c p.in_place) in
    let room = and_left (ltb k.counts.commands 512) (under_ceiling_body k.body c) p.under_ceiling in
    let g = subst (λ (z : Section). InSection z (after k (body c)) d) here f.section in
    record {
      words = f.words;
      blocks = f.blocks;
      bodies = f.bodies;
      commands = λ h. omega (arith, f.commands (ltb-true k.counts.commands 512 room));
      releases = f.releases;
      block = f.block;
      body = f.body;
      released = f.released;
      section =
          at-section k (in_open_body c d) here
          (record { no_words = g.no_words; no_blocks = g.no_blocks; others = record { faultless = q; others = g.others } });
    }

task-step : (k : Known) (d : Declared) → fault_of k TASK ≡ none → DeclaredHere (after k TASK) d → DeclaredHere k (declare TASK d)
unfolding after declare in_place under_ceiling
task-step k d q f =
    let p = passed_of k TASK q in
    let n : ℕ = length d.sheet.bodies in
    let room = ltb-true k.counts.tasks 8 p.under_ceiling in
    let same : suc k.counts.tasks + n ≡ k.counts.tasks + suc n = omega arith in
    let g = f.section in
    let no_words : length d.sheet.words ≡ 0 = ap length g.no_words in
    let no_blocks : length d.sheet.blocks ≡ 0 = ap length g.no_blocks in
    record {
      words = f.words;
      blocks = f.blocks;
      bodies = λ h. omega (arith, f.bodies room);
      commands = λ h. omega (arith, f.commands h);
      releases = f.releases;
      block = f.block;
      body =
          first-each []
          (λ (l : List BodyCommand). BodyFit (k.counts.words + length d.sheet.words) (k.counts.blocks + length d.sheet.blocks) l)
          d.body d.sheet.bodies (record {
            known = after k TASK;
            opened = record { section = refl; word_count = omega arith; block_count = omega arith };
            start = refl;
            faultless = g.others;
          }) f.body;
      released = rw same at f.released;
      section = or_cases (words? k.section || blocks? k.section) (body? k.section && may_end k.body) p.in_place
          (λ o. or_cases (words? k.section) (blocks? k.section) o
          (λ e. at-section k (declare TASK d) (in_words k.section e) (record { some_body = omega arith }))
          (λ e. at-section k (declare TASK d) (in_blocks k.section e) (record { no_words = g.no_words; some_body = omega arith })))
          (λ e. at-section k (declare TASK d) (in-body k.section (and_left (body? k.section) (may_end k.body) e))
          (record { no_words = g.no_words; no_blocks = g.no_blocks; others = and_right (body? k.section) (may_end k.body) e }));
    }

-- RELEASE AND END: the bodies are over, or the open one may end
over-section : (k : Known) (d : Declared) → bodies_over k ≡ true → d.body ≡ [] → d.sheet.words ≡ [] → d.sheet.blocks ≡ [] → d.sheet.bodies ≡ []
    → InSection k.section k d
over-section k d e o w b t =
    or_cases (releases? k.section) (body? k.section && may_end k.body) e
    (λ r. at-section k d (in_releases k.section r) (record { no_words = w; no_blocks = b; no_bodies = t }))
    (λ r. at-section k d (in-body k.section (and_left (body? k.section) (may_end k.body) r))
    (record { no_words = w; no_blocks = b; others = rw o (and_right (body? k.section) (may_end k.body) r) }))

-- the first of all releases, or after the last one
after_last : (k : Known) (r : Release) → rising k (RELEASE r) ≡ true → 0 < k.counts.releases → Rises k.last r
unfolding rising
after_last k r e h =
    or_cases (eqb k.counts.releases 0) (before k.last r) e
    (λ z. let n = eqb-true k.counts.releases 0 z in absurd (omega arith))
    (λ b. rises k.last r b)

release-step : (k : Known) (r : Release) (d : Declared) → fault_of k (RELEASE r) ≡ none → DeclaredHere (after k (RELEASE r)) d
    → DeclaredHere k (declare (RELEASE r) d)
unfolding after declare in_place under_ceiling in_range
release-step k r d q f =
    let p = passed_of k (RELEASE r) q in
    let room = ltb-true k.counts.releases 256 p.under_ceiling in
    let known = ltb-true r.task k.counts.tasks (and_right (leb r.tick 65535) _ p.in_range) in
    let g = f.section in
    record {
      words = f.words;
      blocks = f.blocks;
      bodies = f.bodies;
      commands = λ h. omega (arith, f.commands h);
      releases = λ h. omega (arith, f.releases room);
      block = f.block;
      body = f.body;
      released = release-first (omega arith) (after_last k r p.rising) f.released;
      section = over-section k (declare (RELEASE r) d) p.in_place refl g.no_words g.no_blocks g.no_bodies;
    }

end_step : (k : Known) (d : Declared) → fault_of k END ≡ none → DeclaredHere k (declare END d)
unfolding declare in_place
end_step k d q =
    let p = passed_of k END q in
    record {
      words = λ h. omega arith;
      blocks = λ h. omega arith;
      bodies = λ h. omega arith;
      commands = λ h. omega arith;
      releases = λ h. omega arith;
      block = λ i (h : i < 0). absurd (omega arith);
      body = λ i (h : i < 0). absurd (omega arith);
      released = no_releases (k.counts.tasks + 0) k.counts.releases k.last;
      section = over-section k (declare END d) p.in_place refl refl refl refl;
    }

-- ALL COMMANDS
step : (k : Known) (c : Command) (d : Declared) → end? c ≡ false → EightValues c → fault_of k c ≡ none → DeclaredHere (after k c) d
    → DeclaredHere k (declare c d)
unfolding after declare in_place under_ceiling
step k (WORD v) d e w q f = word-step k v d q f
step k (BLOCK b) d e w q f = block_step k b d q w f
step k TASK d e w q f = task-step k d q f
step k (RELEASE r) d e w q f = release-step k r d q f
step k END d e w q f = absurd (true≢false e)
step k (body c) d e w q f = body-step k c d q f

pub walk : {P : Command → Type 0} → ((c : Command) → P c → EightValues c) → {k : Known} {l : List Command} → Good P k l → DeclaredHere k (declared l)
unfolding declared
walk eight (ending {k} q) = end_step k (declares [] [] [] [] []) q
walk eight (going {k} {c} {l} q e w g) = step k c (declared l) e (eight c w) q (walk eight g)
