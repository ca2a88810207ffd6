-- Statements outside a transaction: plain commands with the waiting PAIRs, READ and SWAP.
use Prim.Native.Nat.{ℕ, zero, suc, ◌<◌, ◌≤◌, zero-le}
use mathlib.Core.Path.{◌≡◌, refl, sym, ◌∙◌, ap, subst}
use mathlib.Core.Bool.{true, false, not, true≢false, false≢true, ◌&&◌}
use mathlib.Core.List.{List, [], ◌∷◌, ◌++◌, map, map-append}
use native.Mathlib.Omega.{arith}
use lib.Dec.{eqb}
use lib.ListN.{length, length-append, length-map}
use lib.Seq.{get_or-append_seam}
use borrow.Author.Tests.{eq-eqb}
use Rattle.model.specs.Lists.{at, replace}
use Rattle.model.specs.Fault.{among, Body, Known, may_end, none?}
use Rattle.model.specs.Word.{Memory, Read, reads, gives, fresh_word}
use Rattle.model.specs.Exchange.{Entry, entry, Exchanged, goes, ends, Exchange}
use Rattle.model.specs.Command.{READ, PAIR, SWAP, BodyCommand, LOAD, ADD, outside, body}
use Rattle.model.specs.Sheet.{after, in_body, waiting, after_body, after_outside}
use Rattle.model.specs.Job.{Phase, reading, exchanging, Task, Turn, turn, rest, done, done_by, in_phase, Deed}
use Rattle.model.specs.Machine.{answer, read_by, swap_by, beginning, unfinished}
use Rattle.model.specs.Arguments.{Arguments}
use Rattle.model.proofs.Lists.{at_append, same?, length-replace}
use Rattle.model.proofs.Fit.Elements.{or_left, or_right, and_left, and_right, append_all}
use Rattle.model.proofs.Fit.Exchange.{entry_of, EntriesFit, Unloaded, ExchangedFit}
use Rattle.model.proofs.Fit.Machine.{word_of, OutsideFit, ReadingFit, PhaseFit}
use Rattle.model.proofs.Fit.Body.{Faultless, Open, CommandFits, command_fits}
use Rattle.model.proofs.Fit.Memory.{MemoryFit}
use Rattle.model.proofs.Fit.Counts.{CountsFit, same-counts, finished-counts}

-- THE WAITING PAIRS
pub no_entries : (low high : ℕ) → EntriesFit low high []
no_entries low high =
    record {
      most = omega arith;
      from = λ i (h : i < 0). absurd (omega arith);
      below = λ i (h : i < 0). absurd (omega arith);
      different = λ i j (h : i < 0) k e. absurd (omega arith);
    }

pub no_unloaded : Unloaded []
unfolding at
no_unloaded = record { init = λ i. refl; overlapped = λ i. refl }

at_last : (ps : List Entry) (e : Entry) → entry_of (ps ++ (e ∷ [])) (length ps) ≡ e
unfolding at
at_last ps e = get_or-append_seam ps e [] (entry 0 0 0)

among-words : (ps : List Entry) (i : ℕ) → i < length ps → among (entry_of ps i).cell (map word_of ps) ≡ true
unfolding at among
among-words [] i h = absurd (omega arith)
among-words (e ∷ ps) zero h = or_left (eqb e.cell e.cell) (among e.cell (map word_of ps)) (eq-eqb e.cell e.cell refl)
among-words (e ∷ ps) (suc i) h =
    or_right (eqb (entry_of ps i).cell e.cell) (among (entry_of ps i).cell (map word_of ps)) (among-words ps i (omega arith))

module _ {low high : ℕ} {ps : List Entry} (f : EntriesFit low high ps) (c o n : ℕ) (more : length ps < 8) (least : low ≤ c) (most : c < high)
    (new : among c (map word_of ps) ≡ false) where
  size : length (ps ++ (entry c o n ∷ [])) ≡ suc (length ps)
  size = omega (arith, length-append ps (entry c o n ∷ []))

  -- an entry by its number: one of the old ones, or the last
  by_number : {P : Type 0} (i : ℕ) → i < length (ps ++ (entry c o n ∷ [])) → (i < length ps → entry_of (ps ++ (entry c o n ∷ [])) i ≡ entry_of ps i → P)
      → (i ≡ length ps → entry_of (ps ++ (entry c o n ∷ [])) i ≡ entry c o n → P) → P
  by_number i h old last =
      same? i (length ps)
      (λ e. last e (rw e (at_last ps (entry c o n))))
      (λ d. let l : i < length ps = omega (arith, size) in old l (at_append (entry 0 0 0) ps (entry c o n ∷ []) i l))

  not_new : (i : ℕ) → i < length ps → (entry_of ps i).cell ≡ c → ⊥
  not_new i h e = true≢false (sym (among-words ps i h) ∙ ap (λ (z : ℕ). among z (map word_of ps)) e ∙ new)

  pub entries_more : EntriesFit low high (ps ++ (entry c o n ∷ []))
  entries_more =
      record {
        most = omega (arith, size);
        from = λ i h. by_number i h (λ l e. rw e (f.from i l)) (λ l e. rw e least);
        below = λ i h. by_number i h (λ l e. rw e (f.below i l)) (λ l e. rw e most);
        different = λ i j hi hj q.
            by_number i hi
            (λ li ei. by_number j hj
            (λ lj ej. f.different i j li lj (rw (ei, ej) at q))
            (λ lj ej. absurd (not_new i li (rw (ei, ej) at q))))
            (λ li ei. by_number j hj
            (λ lj ej. absurd (not_new j lj (sym (rw (ei, ej) at q))))
            (λ lj ej. li ∙ sym lj));
      }

pub unloaded_more : {ps : List Entry} → Unloaded ps → (c o n : ℕ) → Unloaded (ps ++ (entry c o n ∷ []))
unloaded_more {ps} u c o n =
    record {
      init = append_all (entry 0 0 0) (λ (e : Entry). e.init ≡ fresh_word 0) ps (entry c o n) refl refl u.init;
      overlapped = append_all (entry 0 0 0) (λ (e : Entry). e.overlapped ≡ false) ps (entry c o n) refl refl u.overlapped;
    }

-- WHAT A STATEMENT LEAVES
-- a statement of task t leaves this turn
pub record TurnFit (words blocks : ℕ) (t : Task) (u : Turn) : Type 0 where
  pub memory : MemoryFit u.memory
  pub body : u.task.body ≡ t.body
  pub registers : length u.task.job.registers ≡ 8
  pub copies : length u.task.copies ≡ 4
  pub counts : CountsFit t u.task
  pub phase : PhaseFit words blocks u.task.copies u.task.job.commands u.task.job.pairs u.task.job.phase

-- the same turn as the first of an operation
pub first-turn_fit : {words blocks : ℕ} {t : Task} {u : Turn} {a : Arguments} → TurnFit words blocks t u → TurnFit words blocks t (beginning a u)
first-turn_fit f =
    record { memory = f.memory; body = f.body; registers = f.registers; copies = f.copies; counts = f.counts; phase = f.phase }

-- the task as it was, in another phase of its job
pub phase_fit : {words blocks : ℕ} {m : Memory} {d : Deed} (t : Task) (f : Phase) → unfinished f ≡ true → MemoryFit m
    → length t.job.registers ≡ 8 → length t.copies ≡ 4
    → PhaseFit words blocks t.copies t.job.commands t.job.pairs f → TurnFit words blocks t (turn m (in_phase t f) d)
phase_fit t f u g rs cs p = record { memory = g; body = refl; registers = rs; copies = cs; counts = same-counts u refl; phase = p }

-- no PAIR waits where a body may end
none-waiting : (ps : List Entry) (b : Body) → b.pairs ≡ map word_of ps → may_end b ≡ true → ps ≡ []
none-waiting [] b e q = refl
none-waiting (x ∷ ps) b e q =
    let z = and_right (not b.empty) (none? b.pairs) (and_left (not b.empty && none? b.pairs) (not b.inside) q) in
    absurd (false≢true (rw e at z))

-- the command is done, and the job is outside a transaction
pub done_fit : {words blocks : ℕ} {m : Memory} {d : Deed} (t : Task) (l : List BodyCommand) (rs : List ℕ) (ps : List Entry) (cs : List ℕ)
    → rest t.job.commands ≡ l
    → MemoryFit m → length rs ≡ 8 → length cs ≡ 4 → OutsideFit words blocks l ps → TurnFit words blocks t (turn m (done t rs ps cs) d)
unfolding done_by
done_fit {words} {blocks} {m} {d} t l rs ps cs e g hr hc o =
    subst (λ (z : List BodyCommand). TurnFit words blocks t (turn m (done_by z t rs ps cs) d)) (sym e) (go l o)
  where
    go : (l : List BodyCommand) → OutsideFit words blocks l ps → TurnFit words blocks t (turn m (done_by l t rs ps cs) d)
    go [] o = record {
      memory = g;
      body = refl;
      registers = hr;
      copies = hc;
      counts = finished-counts refl refl;
      phase = record { commands = refl; no_pairs = none-waiting ps o.known.body o.waiting o.faultless };
    }
    go (c ∷ l) o = record {
      memory = g;
      body = refl;
      registers = hr;
      copies = hc;
      counts = same-counts refl refl;
      phase = record { command = c; others = l; commands = refl; outside = o };
    }

-- THE TEXT AFTER A COMMAND
pub open_next : {words blocks : ℕ} {k : Known} (b : Body) → Open words blocks k → Open words blocks (in_body k b)
open_next b o = record { section = o.section; word_count = o.word_count; block_count = o.block_count }

module _ {words blocks : ℕ} {ps : List Entry} where
  -- what the check says of the first command
  pub first_fits : {c : BodyCommand} {l : List BodyCommand} (o : OutsideFit words blocks (c ∷ l) ps) → CommandFits words blocks o.known.body c
  first_fits {c} o = command_fits o.known words blocks o.opened c o.faultless.faultless

  -- after a command that leaves the waiting PAIRs as they are
  pub keeps_pairs : {c : BodyCommand} {l : List BodyCommand} (o : OutsideFit words blocks (c ∷ l) ps)
      → after o.known (body c) ≡ in_body o.known (waiting o.known.body.pairs o.known.body) → OutsideFit words blocks l ps
  keeps_pairs {c} {l} o e =
      record {
        known = in_body o.known (waiting o.known.body.pairs o.known.body);
        opened = open_next (waiting o.known.body.pairs o.known.body) o.opened;
        outside = o.outside;
        waiting = o.waiting;
        faultless = subst (λ (k : Known). Faultless k l) e o.faultless.others;
        pairs = o.pairs;
        unloaded = o.unloaded;
      }

  pub after-load : {r v : ℕ} {l : List BodyCommand} → OutsideFit words blocks (LOAD r v ∷ l) ps → OutsideFit words blocks l ps
  unfolding after after_body after_outside
  after-load o = keeps_pairs o refl

  pub after_add : {r q : ℕ} {l : List BodyCommand} → OutsideFit words blocks (ADD r q ∷ l) ps → OutsideFit words blocks l ps
  unfolding after after_body after_outside
  after_add o = keeps_pairs o refl

  pub after_read : {r w : ℕ} {l : List BodyCommand} → OutsideFit words blocks (outside (READ r w) ∷ l) ps → OutsideFit words blocks l ps
  unfolding after after_body after_outside
  after_read o = keeps_pairs o refl

  pub after_pair : {w old new : ℕ} {l : List BodyCommand} (a b : ℕ) → OutsideFit words blocks (outside (PAIR w old new) ∷ l) ps
      → OutsideFit words blocks l (ps ++ (entry w a b ∷ []))
  unfolding after after_body after_outside
  after_pair {w} a b o =
      let f = (first_fits o).fits in
      let words : List ℕ = o.known.body.pairs ++ (w ∷ []) in
      let room : length ps < 8 = omega (arith, f.room, ap length o.waiting, length-map ps word_of) in
      record {
        known = in_body o.known (waiting words o.known.body);
        opened = open_next (waiting words o.known.body) o.opened;
        outside = o.outside;
        waiting = ap (λ (z : List ℕ). z ++ (w ∷ [])) o.waiting ∙ sym (map-append word_of ps (entry w a b ∷ []));
        faultless = o.faultless.others;
        pairs = entries_more o.pairs w a b room (zero-le) f.word (ap (among w) (sym o.waiting) ∙ f.not_yet);
        unloaded = unloaded_more o.unloaded w a b;
      }

  -- no PAIR waits after a SWAP
  pub after-swap : {r : ℕ} {l : List BodyCommand} → OutsideFit words blocks (outside (SWAP r) ∷ l) ps → OutsideFit words blocks l []
  unfolding after after_body after_outside
  after-swap o =
      record {
        known = in_body o.known (waiting [] o.known.body);
        opened = open_next (waiting [] o.known.body) o.opened;
        outside = o.outside;
        waiting = refl;
        faultless = o.faultless.others;
        pairs = no_entries 0 words;
        unloaded = no_unloaded;
      }

pub some_pairs : (ps : List Entry) (b : Body) → b.pairs ≡ map word_of ps → none? b.pairs ≡ false → 1 ≤ length ps
some_pairs ps b e q = go ps (rw e at q)
  where
    go : (l : List Entry) → none? (map word_of l) ≡ false → 1 ≤ length l
    go [] q = absurd (true≢false q)
    go (x ∷ l) q = omega arith

-- READ AND SWAP AT WORK
pub read_fit : {words blocks : ℕ} {m : Memory} → MemoryFit m → (t : Task) → length t.job.registers ≡ 8 → length t.copies ≡ 4 → (r w : ℕ)
    → ReadingFit words blocks t.job.commands t.job.pairs r w → (o : Read) → TurnFit words blocks t (read_by m t r w o)
unfolding read_by
read_fit g t hr hc r w f (reads s) = phase_fit t (reading r w s) refl g hr hc f
read_fit {words} {blocks} g t hr hc r w f (gives v) =
    done_fit t f.others (replace t.job.registers r v) t.job.pairs t.copies (ap rest f.commands) g
    (length-replace t.job.registers r v ∙ hr) hc
    (after_read (subst (λ (z : List BodyCommand). OutsideFit words blocks z t.job.pairs) f.commands f.outside))

-- what an exchange needs of its task, besides the exchange itself
pub record SwapAt (words blocks : ℕ) (l : List BodyCommand) (ps : List Entry) (r : ℕ) : Type 0 where
  pub others : List BodyCommand
  pub commands : l ≡ outside (SWAP r) ∷ others
  pub register : r < 8
  pub outside : OutsideFit words blocks l ps

pub swap_fit : {words blocks : ℕ} (t : Task) (hr : length t.job.registers ≡ 8) (hc : length t.copies ≡ 4) (r : ℕ)
    → SwapAt words blocks t.job.commands t.job.pairs r
    → (x : Exchange) (o : Exchanged) → ExchangedFit 0 words t.job.pairs o → TurnFit words blocks t (swap_by t r x o)
unfolding swap_by
swap_fit t hr hc r f y (goes m x) e =
    phase_fit t (exchanging r x) refl e.memory hr hc
    (record { others = f.others; commands = f.commands; register = f.register; exchange = e.exchange; outside = f.outside })
swap_fit {words} {blocks} t hr hc r f y (ends m yes?) e =
    done_fit t f.others (replace t.job.registers r (answer yes?)) [] t.copies (ap rest f.commands) e
    (length-replace t.job.registers r (answer yes?) ∙ hr) hc
    (after-swap (subst (λ (z : List BodyCommand). OutsideFit words blocks z t.job.pairs) f.commands f.outside))
