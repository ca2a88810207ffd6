-- The index of an accepted sheet, command by command: what it has counted, and what the commands to come declare.
use Prim.Native.Nat.{ℕ, ◌+◌, ◌<◌}
use mathlib.Core.Path.{◌≡◌, refl, sym, ◌∙◌, ap, subst}
use mathlib.Core.Bool.{Bool, true, false}
use mathlib.Core.List.{List, [], ◌∷◌, ◌++◌}
use native.Mathlib.Omega.{arith}
use borrow.Author.Tests.{eqb-true, eqb-false, ltb-true}
use lib.Dec.{eqb}
use lib.ListN.{length, get_or, set, length-set}
use lib.Seq.{get_or-set_same, get_or-set_other}
use Rattle.model.specs.Refusal.{Refusal}
use Rattle.model.specs.Command.{Block, Release, BodyCommand, Command, WORD, BLOCK, TASK, RELEASE, END, body, found, refused, command_at}
use Rattle.model.specs.Fault.{SheetCounts, Known, nothing_known, under_ceiling}
use Rattle.model.specs.Sheet as M
use Rattle.model.specs.Sheet.{Declared, after, declared, verdict, accepted, sheet_of, declared_at, body_at, releases_at, commands_at}
use Rattle.sheet.specs.ReadToEnd.{Stand, nothing, first, Faultless, unread, good, ReadToEnd}
use Rattle.sheet.specs.Indexed.{OnlyReleases, ReleasesStand, Indexed, empty_index, place_or, counted, Room}
use Rattle.sheet.specs.declared.index.Sheet.{Sheet}
use Rattle.commands.proofs.Decoding.{past_the_end, cases}
use Rattle.sheet.proofs.Accepted.{accepted_when_read}
use Rattle.rules.proofs.Faults.{keeps}
use Rattle.sheet.proofs.Reading.{next-after}
use Rattle.sheet.proofs.Passing.{Passed, passed-all, passed_here, passed-one, none_passed}
use Rattle.sheet.proofs.Places.{declared-is, commands-found, commands-refused, commands-stand}
use Rattle.sheet.proofs.Sections.{rank, Kind, is_word, is_block, is_task, is_release, is_body, kind}
use Rattle.sheet.proofs.Declared.{whole, whole-sheet}

-- WHAT IS COUNTED
pub record Left (all : M.Sheet) (x : Sheet) (rest : M.Sheet) : Type 0 where
  pub words : Passed all.words x.words rest.words
  pub blocks : Passed all.blocks x.blocks rest.blocks
  pub bodies : Passed all.bodies x.tasks rest.bodies
  pub releases : Passed all.releases x.releases rest.releases

pub record Match (x : Sheet) (n : SheetCounts) : Type 0 where
  pub words : x.words ≡ n.words
  pub blocks : x.blocks ≡ n.blocks
  pub tasks : x.tasks ≡ n.tasks
  pub releases : x.releases ≡ n.releases

-- the index at a place from which commands without a fault stand up to END
pub record Going (s : List ℕ) (x : Sheet) (at : ℕ) : Type 0 where
  pub known : Known
  pub rest : List Command
  pub after : Known
  pub place : ℕ
  pub stand : Stand s at rest place
  pub faultless : Faultless known rest after
  pub last : command_at s place ≡ found END (length s)
  pub left : Left (sheet_of s) x (whole rest)
  pub match : Match x known.counts
  pub full : length x.bodies ≡ 8
  pub bodies : (p : ℕ) → p < x.tasks → get_or (sheet_of s).bodies p [] ≡ body_at s (get_or x.bodies p 0)
  pub released : 0 < x.releases → ReleasesStand s x.released

-- the index at a place, or at the sheet's end
pub data Walk (s : List ℕ) (x : Sheet) : ℕ → Type 0 where
  going : {at : ℕ} → Going s x at → Walk s x at
  over : Indexed s x → Walk s x (length s)

pub begin : (s : List ℕ) (x : Sheet) → x ≡ empty_index → verdict s ≡ accepted → Walk s x 0
begin s x is e =
    let w : ReadToEnd s = (accepted_when_read s).0 e in
    let all : sheet_of s ≡ whole w.read.commands = whole-sheet w in
    subst (λ (y : Sheet). Walk s y 0) (sym is)
    (going
    (record {
      known = nothing_known;
      rest = w.read.commands;
      after = w.known;
      place = w.place;
      stand = w.read.stand;
      faultless = w.read.faultless;
      last = w.last;
      left =
          record {
            words = none_passed _ _ (ap (λ (y : M.Sheet). y.words) all);
            blocks = none_passed _ _ (ap (λ (y : M.Sheet). y.blocks) all);
            bodies = none_passed _ _ (ap (λ (y : M.Sheet). y.bodies) all);
            releases = none_passed _ _ (ap (λ (y : M.Sheet). y.releases) all);
          };
      match = record { words = refl; blocks = refl; tasks = refl; releases = refl };
      full = refl;
      bodies = λ p h. absurd (omega arith);
      released = λ h. absurd (omega arith);
    }))

-- what the commands from a place on declare
rest-declared : {s : List ℕ} {at place : ℕ} {l : List Command} → Stand s at l place → command_at s place ≡ found END (length s)
    → declared_at s at ≡ declared (l ++ (END ∷ []))
rest-declared {s} {at} {place} {l} r last =
    let end : commands_at s place ≡ END ∷ [] =
    commands-found s place last ∙ ap (λ (q : List Command). END ∷ q) (commands-refused s (length s) (past_the_end s (length s) (omega arith))) in
    declared-is s at ∙ ap declared (commands-stand r ∙ ap (λ (q : List Command). l ++ q) end)

rest-commands : {s : List ℕ} {at place : ℕ} {l : List Command} → Stand s at l place → command_at s place ≡ found END (length s)
    → commands_at s at ≡ l ++ (END ∷ [])
rest-commands {s} {at} {place} {l} r last =
    commands-stand r
    ∙ ap (λ (q : List Command). l ++ q)
    (commands-found s place last ∙ ap (λ (q : List Command). END ∷ q) (commands-refused s (length s) (past_the_end s (length s) (omega arith))))

-- after a release only releases come
only-by : (k : Known) (l : List Command) (c : Command) → Kind k c → rank k.section ≡ 3
    → (rank (after k c).section ≡ 3 → OnlyReleases (l ++ (END ∷ []))) → OnlyReleases (c ∷ l ++ (END ∷ []))
unfolding after
only-by k l c (is_word e) h go = absurd (omega arith)
only-by k l c (is_block e) h go = absurd (omega arith)
only-by k l c (is_task e) h go = absurd (omega arith)
only-by k l c (is_release e) h go = go refl
only-by k l c (is_body e) h go = absurd (omega arith)

only-releases : {k m : Known} {l : List Command} → Faultless k l m → rank k.section ≡ 3 → OnlyReleases (l ++ (END ∷ []))
only-releases unread h = refl
only-releases {k} (good {c = c} {l = l} f e r) h = only-by k l c (kind k c (keeps k c f).place e) h (only-releases r)

-- the place of the first release is that of all of them
first-release :
    (s : List ℕ) (at n q : ℕ) (rest : List Release) → Passed (sheet_of s).releases n rest → rest ≡ releases_at s at → OnlyReleases (commands_at s at)
    → (0 < n → ReleasesStand s q) → (b : Bool) → eqb n 0 ≡ b → ReleasesStand s (place_or b at q)
first-release s at n q rest p e only before true h = record { all = (rw (eqb-true n 0 h) at p.left) ∙ e; only = only }
first-release s at n q rest p e only before false h = before (omega (arith, eqb-false n 0 h))

-- there is room for a command that passes no ceiling
pub room_for : (k : Known) (x : Sheet) (c : Command) → Match x k.counts → under_ceiling k c ≡ true → Room x c
unfolding under_ceiling
room_for k x (WORD v) m h = rw m.words (ltb-true _ _ h)
room_for k x (BLOCK b) m h = rw m.blocks (ltb-true _ _ h)
room_for k x TASK m h = rw m.tasks (ltb-true _ _ h)
room_for k x (RELEASE r) m h = rw m.releases (ltb-true _ _ h)
room_for k x END m h = omega arith
room_for k x (body c) m h = omega arith

-- ONE MORE COMMAND
module _
    (s : List ℕ) (x : Sheet) (at : ℕ) (k m : Known) (place : ℕ)
    (last : command_at s place ≡ found END (length s)) (match : Match x k.counts) (full : length x.bodies ≡ 8)
    (bodies : (p : ℕ) → p < x.tasks → get_or (sheet_of s).bodies p [] ≡ body_at s (get_or x.bodies p 0))
    (released : 0 < x.releases → ReleasesStand s x.released) where
  ended : command_at s at ≡ found END (length s) → Left (sheet_of s) x (whole []) → Indexed s (counted x END at (length s))
  unfolding counted declared
  ended e left =
      record {
        words = passed-all left.words;
        blocks = passed-all left.blocks;
        tasks = passed-all left.bodies;
        releases = passed-all left.releases;
        bodies = bodies;
        released =
            first-release s at x.releases x.released [] left.releases
            (sym (ap (λ (d : Declared). d.sheet.releases) (rest-declared nothing e))) (subst OnlyReleases (sym (rest-commands nothing e)) refl)
            released (eqb x.releases 0) refl;
      }

  module _ (l : List Command) (next : ℕ) (stand : Stand s next l place) where
    abbrev More : Command → Type 0
    More c =
        command_at s at ≡ found c next → Faultless (after k c) l m → Left (sheet_of s) x (whole (c ∷ l)) → Room x c → Going s (counted x c at next) next

    one_word : (v : ℕ) → More (WORD v)
    unfolding counted declared after
    one_word v e faultless left room =
        record {
          known = _;
          rest = l;
          after = m;
          place = place;
          stand = stand;
          faultless = faultless;
          last = last;
          left = record { words = passed-one left.words; blocks = left.blocks; bodies = left.bodies; releases = left.releases };
          match = record { words = omega (arith, match.words); blocks = match.blocks; tasks = match.tasks; releases = match.releases };
          full = full;
          bodies = bodies;
          released = released;
        }

    one_block : (b : Block) → More (BLOCK b)
    unfolding counted declared after
    one_block b e faultless left room =
        record {
          known = _;
          rest = l;
          after = m;
          place = place;
          stand = stand;
          faultless = faultless;
          last = last;
          left = record { words = left.words; blocks = passed-one left.blocks; bodies = left.bodies; releases = left.releases };
          match = record { words = match.words; blocks = omega (arith, match.blocks); tasks = match.tasks; releases = match.releases };
          full = full;
          bodies = bodies;
          released = released;
        }

    -- the body that TASK opens stands from the next place on
    opened :
        (b : List BodyCommand) (rest : List (List BodyCommand)) → Passed (sheet_of s).bodies x.tasks (b ∷ rest) → body_at s next ≡ b → x.tasks < 8
        → (p : ℕ) → p < x.tasks + 1 → get_or (sheet_of s).bodies p [] ≡ body_at s (get_or (set x.bodies x.tasks next) p 0)
    opened b rest passed is room p h =
        cases (eqb p x.tasks)
        (λ e. rw (eqb-true p x.tasks e, get_or-set_same x.bodies x.tasks next 0 (omega arith)) (passed_here passed [] ∙ sym is))
        (λ e. let ne : p ≡ x.tasks → ⊥ = eqb-false p x.tasks e in rw (get_or-set_other x.bodies x.tasks p next 0 ne) (bodies p (omega arith)))

    one-task : More TASK
    unfolding counted declared after
    one-task e faultless left room =
        record {
          known = _;
          rest = l;
          after = m;
          place = place;
          stand = stand;
          faultless = faultless;
          last = last;
          left = record { words = left.words; blocks = left.blocks; bodies = passed-one left.bodies; releases = left.releases };
          match = record { words = match.words; blocks = match.blocks; tasks = omega (arith, match.tasks); releases = match.releases };
          full = length-set x.bodies x.tasks next ∙ full;
          bodies = opened _ _ left.bodies (ap (λ (d : Declared). d.body) (rest-declared stand last)) room;
          released = released;
        }

    one-release : (r : Release) → More (RELEASE r)
    unfolding counted declared after
    one-release r e faultless left room =
        record {
          known = _;
          rest = l;
          after = m;
          place = place;
          stand = stand;
          faultless = faultless;
          last = last;
          left = record { words = left.words; blocks = left.blocks; bodies = left.bodies; releases = passed-one left.releases };
          match = record { words = match.words; blocks = match.blocks; tasks = match.tasks; releases = omega (arith, match.releases) };
          full = full;
          bodies = bodies;
          released = λ h.
              first-release s at x.releases x.released _ left.releases
              (sym (ap (λ (d : Declared). d.sheet.releases) (rest-declared (first e stand) last)))
              (subst OnlyReleases (sym (rest-commands (first e stand) last)) (only-releases faultless refl)) released (eqb x.releases 0) refl;
        }

    one_of_body : (c : BodyCommand) → More (body c)
    unfolding counted declared after
    one_of_body c e faultless left room =
        record {
          known = _;
          rest = l;
          after = m;
          place = place;
          stand = stand;
          faultless = faultless;
          last = last;
          left = record { words = left.words; blocks = left.blocks; bodies = left.bodies; releases = left.releases };
          match = record { words = match.words; blocks = match.blocks; tasks = match.tasks; releases = match.releases };
          full = full;
          bodies = bodies;
          released = released;
        }

    one_more : (c : Command) → Kind k c → More c
    one_more c (is_word {v = v} h) = one_word v
    one_more c (is_block {b = b} h) = one_block b
    one_more c (is_task h) = one-task
    one_more c (is_release {r = r} h) = one-release r
    one_more c (is_body {c = b} h) = one_of_body b

-- A command is found at each place of the walk, there is room for it, and the walk goes on behind it.
pub record Here (s : List ℕ) (x : Sheet) (at : ℕ) : Type 0 where
  pub command : Command
  pub next : ℕ
  pub found_here : command_at s at ≡ found command next
  pub room : Room x command
  pub on : Walk s (counted x command at next) next

here_by :
    (s : List ℕ) (x : Sheet) {at place : ℕ} {k m : Known} {rest : List Command} → Stand s at rest place → Faultless k rest m
    → command_at s place ≡ found END (length s) → Left (sheet_of s) x (whole rest) → Match x k.counts → length x.bodies ≡ 8
    → ((p : ℕ) → p < x.tasks → get_or (sheet_of s).bodies p [] ≡ body_at s (get_or x.bodies p 0))
    → (0 < x.releases → ReleasesStand s x.released) → Here s x at
here_by s x {at} {k = k} {m = m} nothing unread last left match full bodies released =
    record {
      command = END;
      next = length s;
      found_here = last;
      room = omega arith;
      on = over (ended s x at k m at last match full bodies released last left);
    }
here_by s x {at} {place} {k} {m} (first {next = next} {c = c} {l = l} f r) (good g h q) last left match full bodies released =
    let room : Room x c = room_for k x c match (keeps k c g).under in
    record {
      command = c;
      next = next;
      found_here = f;
      room = room;
      on = going (one_more s x at k m place last match full bodies released l next r c (kind k c (keeps k c g).place h) f q left room);
    }

here_going : {s : List ℕ} {x : Sheet} {at : ℕ} → Going s x at → Here s x at
here_going {s} {x} g = here_by s x g.stand g.faultless g.last g.left g.match g.full g.bodies g.released

pub here : {s : List ℕ} {x : Sheet} {at : ℕ} {c : Command} {next : ℕ} → Walk s x at → command_at s at ≡ found c next → Here s x at
here (going g) e = here_going g
here {at = at} (over d) e = absurd (omega (arith, (next-after _ at e).0, (next-after _ at e).1))

-- the command that is decoded at a place of the walk
module _ {s : List ℕ} {x : Sheet} {at : ℕ} (h : Here s x at) where
  pub is_found : {c : Command} {next : ℕ} → command_at s at ≡ found c next → (Room x c) × (Walk s (counted x c at next) next)
  is_found {c} {next} e =
      let a : command_at s at ≡ found h.command h.next = h.found_here in
      let b : h.command ≡ c = cc in
      let d : h.next ≡ next = cc in
      (rw (← b) h.room, rw (← b, ← d) h.on)

  pub not-refused : {A : Type 0} {f : Refusal} {q : ℕ} → command_at s at ≡ refused f q → A
  not-refused e =
      let a : command_at s at ≡ found h.command h.next = h.found_here in
      let z : ◌≡◌ {A = ℕ} 0 1 = cc in
      absurd (omega arith)

-- no command is found where the walk is over
pub finished : {s : List ℕ} {x : Sheet} {at : ℕ} {f : Refusal} {q : ℕ} → Walk s x at → command_at s at ≡ refused f q → Indexed s x
finished (going g) e = not-refused (here_going g) e
finished (over d) e = d
