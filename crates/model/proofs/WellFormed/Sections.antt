-- Words, blocks, tasks and releases: the commands of a well-formed sheet are read without fault, END the last.
use Prim.Native.Nat.{ℕ, suc, ◌+◌, ◌<◌, ◌≤◌}
use mathlib.Core.Path.{◌≡◌, refl}
use mathlib.Core.Bool.{true, ◌&&◌, ◌||◌}
use mathlib.Core.List.{List, [], ◌∷◌, ◌++◌, map, append_assoc}
use native.Mathlib.Omega.{arith}
use lib.Dec.{eqb}
use lib.ListN.{length}
use borrow.Author.Tests.{lt-ltb}
use Rattle.model.specs.Ceilings.{max_words, max_blocks, max_tasks, max_commands, max_releases}
use Rattle.model.specs.Command.{Release, Block, BodyCommand, Command, WORD, BLOCK, TASK, RELEASE, END, body, total}
use Rattle.model.specs.Fault.{Section, word_section, block_section, body_section, release_section, SheetCounts, Body, nothing_known, empty_body}
use Rattle.model.specs.Fault.{words?, blocks?, body?, releases?, may_end, before, in_place, under_ceiling, in_range, new_word, rising}
use Rattle.model.specs.Sheet.{Sheet, known, counted, after}
use Rattle.model.specs.Encoding.{ValuesFit}
use Rattle.model.specs.WellFormed.{tasks_of, commands_of, Each, GoodBody, Rising, counts_of, Rules}
use Rattle.model.proofs.Fit.Elements.{or_right}
use Rattle.model.proofs.Fit.Sheet.{no_release}
use Rattle.model.proofs.Fit.Reading.{Good, ending, going}
use Rattle.model.proofs.WellFormed.Facts.{each_left, each_right, each_map}
use Rattle.model.proofs.WellFormed.Bodies.{no_fault, Fine, known_at, open_pairs, body-good}

fines : (n : SheetCounts) (l : List Command) → Each (λ c. in_range n c ≡ true) l → Each ValuesFit l → Each (Fine n) l
fines n [] r v = tt
fines n (c ∷ l) r v = (record { range = r.0; value = v.0 }, fines n l r.1 v.1)

module _ (n : SheetCounts) (l : List Command) where
  -- WORDS AND BLOCKS
  words-good : (vs : List ℕ) (m : ℕ) → Each (Fine n) (map WORD vs) → m + length vs ≡ n.words → n.words ≤ max_words
      → Good ValuesFit (known word_section (counted n.words 0 0 0 0) empty_body no_release) l
      → Good ValuesFit (known word_section (counted m 0 0 0 0) empty_body no_release) (map WORD vs ++ l)
  unfolding after in_place under_ceiling in_range new_word rising
  words-good [] m f s h g = let same : n.words ≡ m = omega arith in rw same at g
  words-good (v ∷ vs) m f s h g =
      going (no_fault (known word_section (counted m 0 0 0 0) empty_body no_release) (WORD v) refl (lt-ltb m max_words (omega arith)) refl refl refl) refl
      f.0.value (words-good vs (suc m) f.1 (omega arith) h g)

  blocks-good : (bs : List Block) (s : Section) (m : ℕ) → (words? s || blocks? s) ≡ true → Each (Fine n) (map BLOCK bs) → m + length bs ≡ n.blocks
      → n.blocks ≤ max_blocks
      → ((z : Section) → (words? z || blocks? z) ≡ true → Good ValuesFit (known z (counted n.words n.blocks 0 0 0) empty_body no_release) l)
      → Good ValuesFit (known s (counted n.words m 0 0 0) empty_body no_release) (map BLOCK bs ++ l)
  unfolding after in_place under_ceiling in_range new_word rising
  blocks-good [] s m p f e h g = let same : n.blocks ≡ m = omega arith in rw same at (g s p)
  blocks-good (b ∷ bs) s m p f e h g =
      going
      (no_fault (known s (counted n.words m 0 0 0) empty_body no_release) (BLOCK b) p (lt-ltb m max_blocks (omega arith)) f.0.range refl refl)
      refl f.0.value (blocks-good bs block_section (suc m) refl f.1 (omega arith) h g)

-- TASKS
task-good : (n : SheetCounts) (cs : List BodyCommand) (l : List Command) (s : Section) (b : Body) (t m : ℕ)
    → (words? s || blocks? s || body? s && may_end b) ≡ true → GoodBody cs → Each (Fine n) (map body cs) → t < max_tasks → m + length cs ≤ max_commands
    → Good ValuesFit (known_at n (suc t) no_release (m + length cs) (open_pairs [])) l
    → Good ValuesFit (known s (counted n.words n.blocks t m 0) b no_release) (TASK ∷ (map body cs ++ l))
unfolding after in_place under_ceiling in_range new_word rising
task-good n cs l s b t m p q f h c g =
    going (no_fault (known s (counted n.words n.blocks t m 0) b no_release) TASK p (lt-ltb t max_tasks h) refl refl refl) refl tt
    (body-good n (suc t) no_release cs m (m + length cs) l q (each_map (Fine n) body cs f) refl c g)

tasks-good : (n : SheetCounts) (cs : List BodyCommand) (ls : List (List BodyCommand)) (l : List Command) (s : Section) (b : Body) (t m : ℕ)
    → (words? s || blocks? s || body? s && may_end b) ≡ true → GoodBody cs → Each GoodBody ls → Each (Fine n) (tasks_of (cs ∷ ls))
    → t + suc (length ls) ≡ n.tasks → n.tasks ≤ max_tasks → m + length cs + total (map length ls) ≡ n.commands → n.commands ≤ max_commands
    → Good ValuesFit (known_at n n.tasks no_release n.commands (open_pairs [])) l
    → Good ValuesFit (known s (counted n.words n.blocks t m 0) b no_release) (tasks_of (cs ∷ ls) ++ l)
unfolding tasks_of total
tasks-good n cs [] l s b t m p q qs f te th me mh g =
    let tasks : n.tasks ≡ suc t = omega arith in
    let commands : n.commands ≡ m + length cs = omega arith in
    rw (append_assoc (map body cs) [] l)
    (task-good n cs l s b t m p q (each_left (Fine n) (map body cs) [] f.1) (omega arith) (omega arith) (rw (tasks, commands) at g))
tasks-good n cs (ds ∷ ls) l s b t m p q qs f te th me mh g =
    rw (append_assoc (map body cs) (tasks_of (ds ∷ ls)) l)
    (task-good n cs (tasks_of (ds ∷ ls) ++ l) s b t m p q (each_left (Fine n) (map body cs) (tasks_of (ds ∷ ls)) f.1) (omega arith) (omega arith)
    (tasks-good n ds ls l body_section (open_pairs []) (suc t) (m + length cs) refl qs.0 qs.1
    (each_right (Fine n) (map body cs) (tasks_of (ds ∷ ls)) f.1) (omega arith) th (omega arith) mh g))

-- RELEASES
-- the first release rises from the last one known, if there was one
abbrev Follows : ℕ → Release → List Release → Type 0
Follows m last [] = Unit {0}
Follows m last (r ∷ rs) = (eqb m 0 || before last r) ≡ true

follows : (m : ℕ) (r : Release) (rs : List Release) → Rising (r ∷ rs) → Follows m r rs
follows m r [] h = tt
follows m r (q ∷ rs) h = or_right (eqb m 0) (before r q) h.0

later-rising : (r : Release) (rs : List Release) → Rising (r ∷ rs) → Rising rs
later-rising r [] h = tt
later-rising r (q ∷ rs) h = h.1

releases-good : (n : SheetCounts) (rs : List Release) (s : Section) (b : Body) (last : Release) (m : ℕ)
    → (releases? s || body? s && may_end b) ≡ true → Each (Fine n) (map RELEASE rs) → m + length rs ≤ max_releases → Follows m last rs → Rising rs
    → Good ValuesFit (known s (counted n.words n.blocks n.tasks n.commands m) b last) (map RELEASE rs ++ (END ∷ []))
unfolding after in_place under_ceiling in_range new_word rising
releases-good n [] s b last m p f h w u =
    ending (no_fault (known s (counted n.words n.blocks n.tasks n.commands m) b last) END p refl refl refl refl)
releases-good n (r ∷ rs) s b last m p f h w u =
    going
    (no_fault (known s (counted n.words n.blocks n.tasks n.commands m) b last) (RELEASE r) p (lt-ltb m max_releases (omega arith))
    f.0.range refl w)
    refl tt (releases-good n rs release_section b r (suc m) refl f.1 (omega arith) (follows (suc m) r rs u) (later-rising r rs u))

-- THE SHEET
all-tasks : (n : SheetCounts) (ls : List (List BodyCommand)) (l : List Command) (s : Section) → (words? s || blocks? s) ≡ true → 1 ≤ length ls
    → Each GoodBody ls → Each (Fine n) (tasks_of ls) → length ls ≡ n.tasks → n.tasks ≤ max_tasks → total (map length ls) ≡ n.commands
    → n.commands ≤ max_commands → Good ValuesFit (known_at n n.tasks no_release n.commands (open_pairs [])) l
    → Good ValuesFit (known s (counted n.words n.blocks 0 0 0) empty_body no_release) (tasks_of ls ++ l)
unfolding total
all-tasks n [] l s p h qs f te th me mh g = absurd (omega arith)
all-tasks n (cs ∷ ls) l s p h qs f te th me mh g =
    tasks-good n cs ls l s empty_body 0 0 (rw p refl) qs.0 qs.1 f (omega arith) th (omega arith) mh g

in_order : (s : Sheet)
    → commands_of s ≡ map WORD s.words ++ (map BLOCK s.blocks ++ (tasks_of s.bodies ++ (map RELEASE s.releases ++ (END ∷ []))))
unfolding commands_of
in_order s = simp append_assoc

follows_none : (rs : List Release) → Follows 0 no_release rs
follows_none [] = tt
follows_none (r ∷ rs) = refl

pub rules-good : (s : Sheet) → Rules s → Good ValuesFit nothing_known (commands_of s)
rules-good s r =
    let n : SheetCounts = counts_of s in
    let ends : List Command = END ∷ [] in
    let releases : List Command = map RELEASE s.releases in
    let tasks : List Command = tasks_of s.bodies in
    let blocks : List Command = map BLOCK s.blocks in
    let words : List Command = map WORD s.words in
    let f : Each (Fine n) (words ++ (blocks ++ (tasks ++ (releases ++ ends)))) = rw (in_order s) at (fines n (commands_of s) r.ranges r.values) in
    let fb = each_right (Fine n) words (blocks ++ (tasks ++ (releases ++ ends))) f in
    let ft = each_right (Fine n) blocks (tasks ++ (releases ++ ends)) fb in
    let fr = each_right (Fine n) tasks (releases ++ ends) ft in
    rw (in_order s)
    (words-good n (blocks ++ (tasks ++ (releases ++ ends))) s.words 0 (each_left (Fine n) words _ f) (omega arith) r.words
    (blocks-good n (tasks ++ (releases ++ ends)) s.blocks word_section 0 refl (each_left (Fine n) blocks _ fb) (omega arith) r.blocks
    (λ z p. all-tasks n s.bodies (releases ++ ends) z p r.some_task r.bodies (each_left (Fine n) tasks _ ft) refl r.tasks refl r.commands
    (releases-good n s.releases body_section (open_pairs []) no_release 0 refl (each_left (Fine n) releases _ fr) (omega (arith, r.releases))
    (follows_none s.releases) r.rising))))
