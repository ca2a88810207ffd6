-- The commands of a good sheet are those of a well-formed one: of the sheet that they declare.
use Prim.Native.Nat.{ℕ, suc, ◌+◌, ◌<◌}
use mathlib.Core.Path.{◌≡◌, refl, sym, ◌∙◌, ap, subst}
use mathlib.Core.Bool.{Bool, true, false, ◌&&◌, true≢false}
use mathlib.Core.List.{List, [], ◌∷◌, ◌++◌, map}
use mathlib.Core.Option.{none}
use native.Mathlib.Omega.{arith}
use lib.Dec.{eqb, ltb}
use lib.ListN.{length}
use borrow.Author.Tests.{lt-ltb, eq-eqb}
use Rattle.model.specs.Lists.{at}
use Rattle.model.specs.Command.{Release, BodyCommand, Command, WORD, BLOCK, TASK, RELEASE, END, body, total}
use Rattle.model.specs.Fault.{Section, SheetCounts, Known, nothing_known, body?, before, in_place, in_range, fault_of}
use Rattle.model.specs.Sheet.{Sheet, Declared, declare, declared, after, end?}
use Rattle.model.specs.Encoding.{ValuesFit}
use Rattle.model.specs.WellFormed.{tasks_of, commands_of, Each, GoodBody, Rising, counts_of, Rules}
use Rattle.model.proofs.Fit.Elements.{or_left, or_right, below?}
use Rattle.model.proofs.Fit.Body.{passed_of}
use Rattle.model.proofs.Fit.Sheet.{release_at, Rises, command_count}
use Rattle.model.proofs.Fit.Reading.{Good, ending, going}
use Rattle.model.proofs.Fit.Declared.{EightValues, InSection, InBodies, DeclaredHere, in-body}
use Rattle.model.proofs.Fit.Walk.{body-section, walk}
use Rattle.model.proofs.WellFormed.Facts.{range-body}
use Rattle.model.proofs.WellFormed.Closes.{good-body}

pub record Written (l : List Command) : Type 0 where
  pub sheet : Sheet
  pub commands : l ≡ commands_of sheet
  pub rules : Rules sheet

eight : (c : Command) → ValuesFit c → EightValues c
eight (BLOCK b) v = v.0
eight (WORD w) v = tt
eight TASK v = tt
eight (RELEASE r) v = tt
eight END v = tt
eight (body c) v = tt

-- THE COMMANDS IN THEIR ORDER
-- no body is open outside the section of bodies
first_body : (k : Known) (c : Command) (d : Declared) → fault_of k c ≡ none → body? k.section ≡ false → (declare c d).body ≡ []
unfolding declare in_place
first_body k (WORD v) d q e = refl
first_body k (BLOCK b) d q e = refl
first_body k TASK d q e = refl
first_body k (RELEASE r) d q e = refl
first_body k END d q e = refl
first_body k (body c) d q e = absurd (true≢false (sym (body-section k c (passed_of k (body c) q).in_place) ∙ e))

no_body : {P : Command → Type 0} {k : Known} {l : List Command} → Good P k l → body? k.section ≡ false → (declared l).body ≡ []
unfolding declared
no_body (ending {k} q) e = first_body k END (declared []) q e
no_body (going {k} {c} {l} q n p g) e = first_body k c (declared l) q e

-- a command of a body stands in one
in_bodies : (k : Known) (c : BodyCommand) (d : Declared) → fault_of k (body c) ≡ none → DeclaredHere (after k (body c)) d
    → InBodies (after k (body c)) d
unfolding after in_place
in_bodies k c d q f =
    subst (λ (s : Section). InSection s (after k (body c)) d) (in-body k.section (body-section k c (passed_of k (body c) q).in_place)) f.section

-- first what is left of an open body
abbrev layout : Declared → List Command
layout d =
    map WORD d.sheet.words ++ map BLOCK d.sheet.blocks ++ (map body d.body ++ tasks_of d.sheet.bodies) ++ map RELEASE d.sheet.releases
    ++ (END ∷ [])

layout_step : (k : Known) (c : Command) (d : Declared) {l : List Command} → end? c ≡ false → fault_of k c ≡ none → DeclaredHere (after k c) d
    → (body? (after k c).section ≡ false → d.body ≡ []) → l ≡ layout d → c ∷ l ≡ layout (declare c d)
unfolding after declare tasks_of
layout_step k (WORD v) d e q f o h = ap (λ (z : List Command). WORD v ∷ z) (rw (o refl) at h)
layout_step k (BLOCK b) d e q f o h = rw f.section.no_words (ap (λ (z : List Command). BLOCK b ∷ z) (rw (o refl, f.section.no_words) at h))
layout_step k TASK d e q f o h =
    let g = f.section in
    rw (g.no_words, g.no_blocks) (ap (λ (z : List Command). TASK ∷ z) (rw (g.no_words, g.no_blocks) at h))
layout_step k (RELEASE r) d e q f o h =
    let g = f.section in
    rw (g.no_words, g.no_blocks, g.no_bodies)
    (ap (λ (z : List Command). RELEASE r ∷ z) (rw (o refl, g.no_words, g.no_blocks, g.no_bodies) at h))
layout_step k END d e q f o h = absurd (true≢false e)
layout_step k (body c) d e q f o h =
    let g = in_bodies k c d q f in
    rw (g.no_words, g.no_blocks) (ap (λ (z : List Command). body c ∷ z) (rw (g.no_words, g.no_blocks) at h))

in_layout : {k : Known} {l : List Command} → Good ValuesFit k l → l ≡ layout (declared l)
unfolding declared declare tasks_of
in_layout (ending q) = refl
in_layout (going {k} {c} {l} q e v g) = layout_step k c (declared l) e q (walk eight g) (no_body g) (in_layout g)

-- RANGES AND VALUES
-- the counts of the whole sheet: those known and those still declared
record Final (n : SheetCounts) (k : Known) (d : Declared) : Type 0 where
  words : n.words ≡ k.counts.words + length d.sheet.words
  blocks : n.blocks ≡ k.counts.blocks + length d.sheet.blocks
  tasks : n.tasks ≡ k.counts.tasks + length d.sheet.bodies

final_step : (n : SheetCounts) (k : Known) (c : Command) (d : Declared) → end? c ≡ false → Final n k (declare c d) → Final n (after k c) d
unfolding after declare
final_step n k (WORD v) d e f = record { words = omega arith; blocks = f.blocks; tasks = f.tasks }
final_step n k (BLOCK b) d e f = record { words = f.words; blocks = omega arith; tasks = f.tasks }
final_step n k TASK d e f = record { words = f.words; blocks = f.blocks; tasks = omega arith }
final_step n k (RELEASE r) d e f = record { words = f.words; blocks = f.blocks; tasks = f.tasks }
final_step n k END d e f = absurd (true≢false e)
final_step n k (body c) d e f = record { words = f.words; blocks = f.blocks; tasks = f.tasks }

range-step : (n : SheetCounts) (k : Known) (c : Command) (d : Declared) → fault_of k c ≡ none → DeclaredHere (after k c) d → Final n (after k c) d
    → in_range n c ≡ true
unfolding after in_range
range-step n k (WORD v) d q f m = refl
range-step n k (BLOCK b) d q f m = (passed_of k (BLOCK b) q).in_range
range-step n k TASK d q f m = refl
range-step n k (RELEASE r) d q f m =
    let none : length d.sheet.bodies ≡ 0 = ap length f.section.no_bodies in
    let same : n.tasks ≡ k.counts.tasks = omega arith in
    rw same (passed_of k (RELEASE r) q).in_range
range-step n k END d q f m = refl
range-step n k (body c) d q f m =
    let g = in_bodies k c d q f in
    let w : length d.sheet.words ≡ 0 = ap length g.no_words in
    let b : length d.sheet.blocks ≡ 0 = ap length g.no_blocks in
    range-body n k.counts c (omega arith) (omega arith) ∙ (passed_of k (body c) q).in_range

in_ranges : (n : SheetCounts) {k : Known} {l : List Command} → Good ValuesFit k l → Final n k (declared l) → Each (λ c. in_range n c ≡ true) l
unfolding declared in_range
in_ranges n (ending q) m = (refl, tt)
in_ranges n (going {k} {c} {l} q e v g) m =
    let on = final_step n k c (declared l) e m in
    (range-step n k c (declared l) q (walk eight g) on, in_ranges n g on)

values_fit : {k : Known} {l : List Command} → Good ValuesFit k l → Each ValuesFit l
values_fit (ending q) = (tt, tt)
values_fit (going q e v g) = (v, values_fit g)

-- BODIES AND RELEASES
each_at : {A : Type 0} (d : A) (P : A → Type 0) (l : List A) → ((i : ℕ) → i < length l → P (at d l i)) → Each P l
unfolding at
each_at d P [] f = tt
each_at d P (a ∷ l) f = (f 0 (omega arith), each_at d P l (λ i h. f (suc i) (omega arith)))

all-commands : (ls : List (List BodyCommand)) → total (map length ls) ≡ command_count ls
unfolding total
all-commands [] = refl
all-commands (l ∷ ls) = ap (λ (n : ℕ). length l + n) (all-commands ls)

rises_before : (a b : Release) → Rises a b → before a b ≡ true
rises_before a b f =
    let earlier : Bool = ltb a.tick b.tick in
    let later : Bool = eqb a.tick b.tick && ltb a.task b.task in
    below? a.tick b.tick
    (λ h. or_left earlier later (lt-ltb a.tick b.tick h))
    (λ h.
    let same : a.tick ≡ b.tick = omega (arith, f.tick) in
    or_right earlier later (rw (eq-eqb a.tick b.tick same, lt-ltb a.task b.task (f.task same)) refl))

all-rising : (rs : List Release) → ((i j : ℕ) → i < j → j < length rs → Rises (release_at rs i) (release_at rs j)) → Rising rs
unfolding at
all-rising [] f = tt
all-rising (r ∷ []) f = tt
all-rising (r ∷ q ∷ l) f =
    (rises_before r q (f 0 1 (omega arith) (omega arith)), all-rising (q ∷ l) (λ i j h m. f (suc i) (suc j) (omega arith) (omega arith)))

-- THE SHEET
pub good-written : (l : List Command) → Good ValuesFit nothing_known l → Written l
unfolding commands_of
good-written l g =
    let f = walk eight g in
    let s : Sheet = (declared l).sheet in
    let e : l ≡ commands_of s = rw (no_body g refl) at (in_layout g) in
    let ranges = in_ranges (counts_of s) g (record { words = omega arith; blocks = omega arith; tasks = omega arith }) in
    record {
      sheet = s;
      commands = e;
      rules = record {
        some_task = f.section.some_body;
        bodies = each_at [] GoodBody s.bodies (λ i h. good-body (f.body i h));
        words = omega (arith, f.words (omega arith));
        blocks = omega (arith, f.blocks (omega arith));
        tasks = omega (arith, f.bodies (omega arith));
        commands = omega (arith, f.commands (omega arith), all-commands s.bodies);
        releases = omega (arith, f.releases (omega arith));
        ranges = subst (λ (z : List Command). Each (λ c. in_range (counts_of s) c ≡ true) z) e ranges;
        values = subst (λ (z : List Command). Each ValuesFit z) e (values_fit g);
        rising = all-rising s.releases f.released.rising;
      };
    }
