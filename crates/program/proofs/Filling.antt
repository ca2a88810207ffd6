-- The filling of a program, command by command: the bodies closed so far, the open one, and those to come.
use Prim.Native.Nat.{ℕ, zero, suc, ◌+◌, ◌<◌, ◌≤◌}
use mathlib.Core.Path.{◌≡◌, refl, sym, ◌∙◌, ap}
use mathlib.Core.Bool.{true, false}
use mathlib.Core.List.{List, [], ◌∷◌, ◌++◌, append-nil, append_assoc}
use mathlib.Core.Option.{none}
use native.Mathlib.Omega.{arith}
use borrow.Author.Tests.{ltb-true}
use lib.Dec.{ltb}
use lib.ListN.{length, set, replicate, length-set, length-replicate}
use Rattle.model.specs.Lists.{at, replace}
use Rattle.model.specs.Refusal.{Refusal}
use Rattle.model.specs.Command as M
use Rattle.model.specs.Command.{Command, WORD, BLOCK, TASK, RELEASE, END, body, Block, Release, found, refused, command_at}
use Rattle.model.specs.Fault.{Known, nothing_known, fault_of, under_ceiling}
use Rattle.model.specs.Sheet.{Declared, verdict, accepted, end?, after, declare, declared, commands_at, declared_at, body_at, sheet_of}
use Rattle.model.proofs.Lists.{impossible, same?, replace-same, replace-other, length-replace}
use Rattle.model.proofs.Fit.Elements.{and_left}
use Rattle.model.proofs.Fit.Body.{passed_of}
use Rattle.model.proofs.Fit.Reading as R
use Rattle.model.proofs.Fit.Reading.{Good}
use Rattle.model.proofs.Fit.Declared.{EightValues, DeclaredHere}
use Rattle.model.proofs.Fit.Walk.{walk}
use Rattle.model.proofs.Fit.Accepted.{eight}
use Rattle.sheet.proofs.Places.{commands-found, commands-refused, declared-is, sheet-is}
use Rattle.sheet.proofs.Passing.{Passed, passed-all, passed_here, passed-one, none_passed}
use Rattle.sheet.proofs.Sections.{rank, Kind, is_word, is_block, kind}
use Rattle.commands.specs.View.{view_body_command}
use Rattle.commands.specs.declared.BodyCommand.{BodyCommand}
use Rattle.program.specs.Program.{commands_in, body_in, Programmed}
use Rattle.program.proofs.Lines.{no_lines, lines_stay, one-line_more}

-- The reading has come to a place: k TASKs have come, n lines are filled. All bodies but the last that has opened are closed.
pub record Filled (s : List ℕ) (program : List BodyCommand) (bounds : List ℕ) (place k n : ℕ) : Type 0 where
  pub known : Known
  pub good : Good EightValues known (commands_at s place)
  pub tasks : k ≡ known.counts.tasks
  pub commands : n ≡ known.counts.commands
  pub opened : 0 < k → 2 ≤ rank known.section
  pub most_tasks : k ≤ 8
  pub most_commands : n ≤ 512
  pub size : length program ≡ 512
  pub bounded : length bounds ≡ 9
  pub rest : Passed (sheet_of s).bodies k (declared_at s place).sheet.bodies
  pub below : (p : ℕ) → p < k → at 0 bounds p ≤ n
  pub closed : (p : ℕ) → suc p < k → body_in program bounds p ≡ at [] (sheet_of s).bodies p
  pub current : (p : ℕ) → suc p ≡ k → commands_in program (at 0 bounds p) n ++ body_at s place ≡ at [] (sheet_of s).bodies p

-- AT THE SHEET'S START
commands-good : (s : List ℕ) → verdict s ≡ accepted → Good EightValues nothing_known (commands_at s 0)
unfolding commands_at
commands-good s e = R.good s EightValues (eight s) e

pub begin : (s : List ℕ) (c : BodyCommand) → verdict s ≡ accepted → Filled s (replicate 512 c) (replicate 9 0) 0 0 0
begin s c e =
    record {
      known = nothing_known;
      good = commands-good s e;
      tasks = refl;
      commands = refl;
      opened = λ h. absurd (omega arith);
      most_tasks = omega arith;
      most_commands = omega arith;
      size = length-replicate 512 c;
      bounded = length-replicate {A = ℕ} 9 0;
      rest = none_passed _ _ (ap (λ z. z.bodies) (sheet-is s));
      below = λ p h. absurd (omega arith);
      closed = λ p h. absurd (omega arith);
      current = λ p h. absurd (omega arith);
    }

-- ONE COMMAND
-- it is without fault, and so are those after it
record Next (k : Known) (c : Command) (l : List Command) : Type 0 where
  faultless : fault_of k c ≡ none
  on : Good EightValues (after k c) l

next-of : {k : Known} {l m : List Command} {c : Command} → Good EightValues k l → l ≡ c ∷ m → end? c ≡ false → Next k c m
next-of {c = c} (R.ending q) e f =
    let z : END ≡ c = cc in
    let t : true ≡ false = ap end? z ∙ f in
    impossible (cc)
next-of {k} {m = m} {c = c} (R.going {c = d} {l = l} q h p g) e f =
    let a : d ≡ c = cc in
    let b : l ≡ m = cc in
    record { faultless = rw (← a) q; on = rw (← a, ← b) g }

-- the first body to come
body_of : {A : Type 0} {all m : List (List A)} {l : List A} {k : ℕ} → Passed all k (l ∷ m) → at [] all k ≡ l
unfolding at
body_of r = passed_here r []

module _ {s : List ℕ} {program : List BodyCommand} {bounds : List ℕ} {place k n : ℕ} (f : Filled s program bounds place k n) where
  pub not-refused : {A : Type 0} {r : Refusal} {q : ℕ} → command_at s place ≡ refused r q → A
  not-refused e = go f.good (commands-refused s place e)
    where
      go : {A : Type 0} {k : Known} {l : List Command} → Good EightValues k l → l ≡ [] → A
      go (R.ending q) h = impossible (cc)
      go (R.going q e p g) h = impossible (cc)

  -- the command found at the place
  module _ {c : Command} {next : ℕ} (e : command_at s place ≡ found c next) where
    next_here : end? c ≡ false → Next f.known c (commands_at s next)
    next_here h = next-of f.good (commands-found s place e) h

    declared_here : declared_at s place ≡ declare c (declared_at s next)
    unfolding declared
    declared_here = declared-is s place ∙ ap declared (commands-found s place e) ∙ ap (declare c) (sym (declared-is s next))

    kind_here : end? c ≡ false → Kind f.known c
    kind_here h = kind f.known c (passed_of f.known c (next_here h).faultless).in_place h

  -- WORD AND BLOCK come before all bodies
  none_opened : rank f.known.section ≤ 1 → k ≡ 0
  none_opened h = go k f.opened
    where
      go : (m : ℕ) → (0 < m → 2 ≤ rank f.known.section) → m ≡ 0
      go zero o = refl
      go (suc m) o = absurd (omega (arith, h, o (omega arith)))

  skipped : {c : Command} {next : ℕ} → command_at s place ≡ found c next → end? c ≡ false → k ≡ 0
      → (after f.known c).counts.tasks ≡ f.known.counts.tasks → (after f.known c).counts.commands ≡ f.known.counts.commands
      → (declare c (declared_at s next)).sheet.bodies ≡ (declared_at s next).sheet.bodies → Filled s program bounds next k n
  skipped {c} {next} e h none_yet t m d =
      record {
        known = after f.known c;
        good = (next_here e h).on;
        tasks = f.tasks ∙ sym t;
        commands = f.commands ∙ sym m;
        opened = λ q. absurd (omega arith);
        most_tasks = f.most_tasks;
        most_commands = f.most_commands;
        size = f.size;
        bounded = f.bounded;
        rest = rw d at (rw (declared_here e) at f.rest);
        below = f.below;
        closed = f.closed;
        current = λ p q. absurd (omega arith);
      }

  pub one_word : {v next : ℕ} → command_at s place ≡ found (WORD v) next → Filled s program bounds next k n
  unfolding after declare
  one_word {v} e = skipped e refl (early (kind_here e refl)) refl refl refl
    where
      early : {v : ℕ} → Kind f.known (WORD v) → k ≡ 0
      early (is_word h) = none_opened (omega arith)

  pub one_block : {b : Block} {next : ℕ} → command_at s place ≡ found (BLOCK b) next → Filled s program bounds next k n
  unfolding after declare
  one_block e = skipped e refl (early (kind_here e refl)) refl refl refl
    where
      early : {b : Block} → Kind f.known (BLOCK b) → k ≡ 0
      early (is_block h) = none_opened h

  -- where no command of a body comes, the open body is whole: its end is the next line
  module _ (ends : body_at s place ≡ []) where
    abbrev Bounds : List ℕ
    Bounds = replace bounds k n

    bound_here : at 0 Bounds k ≡ n
    bound_here = replace-same 0 bounds k n (omega (arith, f.most_tasks, f.bounded))

    bound_before : (p : ℕ) → p < k → at 0 Bounds p ≡ at 0 bounds p
    bound_before p h = replace-other 0 bounds k p n (omega arith)

    bound_below : (p : ℕ) → p < suc k → at 0 Bounds p ≤ n
    bound_below p h =
        same? p k (λ e. rw (e, bound_here) (omega arith)) (λ ne. rw (bound_before p (omega arith)) (f.below p (omega arith)))

    whole : (p : ℕ) → p < k → body_in program Bounds p ≡ at [] (sheet_of s).bodies p
    whole p h =
        same? (suc p) k
        (λ e.
        ap (commands_in program (at 0 Bounds p)) (ap (at 0 Bounds) e ∙ bound_here)
        ∙ ap (λ (q : ℕ). commands_in program q n) (bound_before p h)
        ∙ sym (append-nil (commands_in program (at 0 bounds p) n))
        ∙ rw ends at (f.current p e))
        (λ ne. rw (bound_before p h, bound_before (suc p) (omega arith)) (f.closed p (omega arith)))

    -- a body that opens here has no line yet
    opens : {l : List M.BodyCommand} {m : List (List M.BodyCommand)} → Passed (sheet_of s).bodies k (l ∷ m)
        → commands_in program (at 0 Bounds k) n ++ l ≡ at [] (sheet_of s).bodies k
    opens {l} r =
        ap (λ (q : List M.BodyCommand). q ++ l) (ap (λ (q : ℕ). commands_in program q n) bound_here ∙ no_lines program n) ∙ sym (body_of r)

    -- the bodies are over
    finished : (declared_at s place).sheet.bodies ≡ [] → Programmed s program Bounds
    finished over =
        let all : k ≡ length (sheet_of s).bodies = passed-all (rw over at f.rest) in
        record {
          size = f.size;
          within = λ p h. omega (arith, bound_below (suc p) (omega arith), f.most_commands);
          bodies = λ p h. whole p (omega arith);
        }

  -- TASK
  pub room_for_task : {next : ℕ} → command_at s place ≡ found TASK next → k < 8
  unfolding under_ceiling
  room_for_task e =
      omega (arith, f.tasks, ltb-true f.known.counts.tasks 8 (passed_of f.known TASK (next_here e refl).faultless).under_ceiling)

  pub one-task : {next : ℕ} → command_at s place ≡ found TASK next → Filled s program (replace bounds k n) next (k + 1) n
  unfolding after declare
  one-task {next} e =
      let m = next_here e refl in
      let d = declared_here e in
      let ends : body_at s place ≡ [] = ap (λ (q : Declared). q.body) d in
      let rest : Passed (sheet_of s).bodies k (body_at s next ∷ (declared_at s next).sheet.bodies) = rw d at f.rest in
      record {
        known = _;
        good = m.on;
        tasks = omega (arith, f.tasks);
        commands = f.commands;
        opened = λ h. omega arith;
        most_tasks = omega (arith, room_for_task e);
        most_commands = f.most_commands;
        size = f.size;
        bounded = length-replace bounds k n ∙ f.bounded;
        rest = passed-one rest;
        below = λ p h. bound_below ends p (omega arith);
        closed = λ p h. whole ends p (omega arith);
        current = λ p h. let is : p ≡ k = omega arith in rw is (opens ends rest);
      }

  -- A COMMAND OF A BODY
  pub room_for_command : {c : M.BodyCommand} {next : ℕ} → command_at s place ≡ found (body c) next → n < 512
  unfolding under_ceiling
  room_for_command {c} e =
      omega (
        arith,
        f.commands,
        ltb-true f.known.counts.commands 512
            (and_left (ltb f.known.counts.commands 512) _ (passed_of f.known (body c) (next_here e refl).faultless).under_ceiling),
      )

  pub one-command : (c : BodyCommand) {next : ℕ} → command_at s place ≡ found (body (view_body_command c)) next
      → Filled s (set program n c) bounds next k (n + 1)
  unfolding after declare
  one-command c {next} e =
      let m = next_here e refl in
      let d = declared_here e in
      let starts : body_at s place ≡ view_body_command c ∷ body_at s next = ap (λ (q : Declared). q.body) d in
      let room : n < 512 = room_for_command e in
      record {
        known = _;
        good = m.on;
        tasks = f.tasks;
        commands = omega (arith, f.commands);
        opened = f.opened;
        most_tasks = f.most_tasks;
        most_commands = omega arith;
        size = length-set program n c ∙ f.size;
        bounded = f.bounded;
        rest = rw d at f.rest;
        below = λ p h. omega (arith, f.below p h);
        closed = λ p h.
            lines_stay program n c (at 0 bounds p) (at 0 bounds (suc p)) (f.below p (omega arith)) (f.below (suc p) h) ∙ f.closed p h;
        current = λ p h.
            ap (λ (l : List M.BodyCommand). l ++ body_at s next)
            (one-line_more program n c (at 0 bounds p) (f.below p (omega arith)) (omega (arith, f.size)))
            ∙ append_assoc (commands_in program (at 0 bounds p) n) (view_body_command c ∷ []) (body_at s next)
            ∙ rw starts at (f.current p h);
      }

  -- RELEASE AND END: no body comes after
  pub at-release : (r : Release) {next : ℕ} → command_at s place ≡ found (RELEASE r) next → Programmed s program (replace bounds k n)
  unfolding after declare
  at-release r {next} e =
      let d = declared_here e in
      let w : DeclaredHere (after f.known (RELEASE r)) (declared (commands_at s next)) = walk (λ c w. w) (next_here e refl).on in
      finished (ap (λ (q : Declared). q.body) d)
      (ap (λ (q : Declared). q.sheet.bodies) d ∙ ap (λ (q : Declared). q.sheet.bodies) (declared-is s next) ∙ w.section.no_bodies)

  pub at-end : {next : ℕ} → command_at s place ≡ found END next → Programmed s program (replace bounds k n)
  unfolding declare
  at-end e = let d = declared_here e in finished (ap (λ (q : Declared). q.body) d) (ap (λ (q : Declared). q.sheet.bodies) d)
