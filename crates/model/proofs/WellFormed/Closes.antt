-- A body without fault is a good body: what is left of it closes what is open.
use Prim.Native.Nat.{ℕ, ◌+◌, ◌<◌, ◌≤◌}
use mathlib.Core.Path.{◌≡◌, refl, sym, ◌∙◌, ap, subst}
use mathlib.Core.Bool.{Bool, true, false, not, ◌&&◌, true≢false, false≢true}
use mathlib.Core.List.{List, [], ◌∷◌, ◌++◌, append-nil, append_assoc}
use native.Mathlib.Omega.{arith}
use lib.ListN.{length, length-append}
use Rattle.model.specs.Ceilings.{max_pairs, max_touched, max_puts}
use Rattle.model.specs.Command.{GET, PUT, READ, PAIR, SWAP, BEGIN, access, COMMIT}
use Rattle.model.specs.Command.{BodyCommand, LOAD, ADD, outside, inside, body}
use Rattle.model.specs.Fault.{body_section, Body, Known, empty_body, among, include_by, none?, may_end}
use Rattle.model.specs.Sheet.{after_outside, after_inside, after_body, after}
use Rattle.model.specs.WellFormed.{Each, BeforeSwap, BeforeCommit, different_from, pair_words, named_blocks, put_blocks}
use Rattle.model.specs.WellFormed.{Closed, ends, alone, exchange, transaction, GoodBody}
use Rattle.model.proofs.Lists.{impossible}
use Rattle.model.proofs.Fit.Elements.{and_left, and_right, include-size}
use Rattle.model.proofs.Fit.Body.{CommandFits, Faultless, command_fits}
use Rattle.model.proofs.Fit.Sheet.{BodyFit}
use Rattle.model.proofs.WellFormed.Facts.{include-new}

-- WHAT IS LEFT OF A BODY
-- where PAIRs wait for their SWAP, with words ws
record Swaps (ws : List ℕ) (l : List BodyCommand) : Type 0 where
  pairs : List BodyCommand
  register : ℕ
  others : List BodyCommand
  split : l ≡ pairs ++ outside (SWAP register) ∷ others
  each : Each BeforeSwap pairs
  most : length ws ≤ max_pairs → length ws + length (pair_words pairs) ≤ max_pairs
  once : different_from ws (pair_words pairs) ≡ ws ++ pair_words pairs
  closed : Closed others

-- in a transaction that has named blocks ts and PUT us
record Commits (ts us : List ℕ) (l : List BodyCommand) : Type 0 where
  commands : List BodyCommand
  others : List BodyCommand
  split : l ≡ commands ++ inside COMMIT ∷ others
  each : Each BeforeCommit commands
  blocks : length ts ≤ max_touched → length (different_from ts (named_blocks commands)) ≤ max_touched
  puts : length us ≤ max_puts → length (different_from us (put_blocks commands)) ≤ max_puts
  closed : Closed others

-- by whether a transaction is open and which PAIRs wait; never both
abbrev RestBy : Bool → List ℕ → List ℕ → List ℕ → List BodyCommand → Type 0
RestBy false [] ts us l = Closed l
RestBy false (w ∷ ws) ts us l = Swaps (w ∷ ws) l
RestBy true [] ts us l = Commits ts us l
RestBy true (w ∷ ws) ts us l = Unit {0}

abbrev Rest : Body → List BodyCommand → Type 0
Rest b l = RestBy b.inside b.pairs b.touched b.puts l

-- ONE COMMAND MORE IN FRONT
swaps_more : {ws : List ℕ} {l : List BodyCommand} (c : BodyCommand) (s : Swaps ws l) → BeforeSwap c → pair_words (c ∷ s.pairs) ≡ pair_words s.pairs
    → Swaps ws (c ∷ l)
swaps_more c s b e =
    record {
      pairs = c ∷ s.pairs;
      register = s.register;
      others = s.others;
      split = ap (λ (l : List BodyCommand). c ∷ l) s.split;
      each = (b, s.each);
      most = rw e s.most;
      once = rw e s.once;
      closed = s.closed;
    }

swaps_pair : {ws : List ℕ} {l : List BodyCommand} (w o n : ℕ) → among w ws ≡ false → length ws < max_pairs → Swaps (ws ++ (w ∷ [])) l
    → Swaps ws (outside (PAIR w o n) ∷ l)
unfolding different_from
swaps_pair {ws} w o n new below s =
    let one = length-append ws (w ∷ []) in
    record {
      pairs = outside (PAIR w o n) ∷ s.pairs;
      register = s.register;
      others = s.others;
      split = ap (λ (l : List BodyCommand). outside (PAIR w o n) ∷ l) s.split;
      each = (tt, s.each);
      most = λ h. omega (arith, s.most (omega arith));
      once =
          ap (λ (z : List ℕ). different_from z (pair_words s.pairs)) (include-new w ws new) ∙ s.once
          ∙ append_assoc ws (w ∷ []) (pair_words s.pairs);
      closed = s.closed;
    }

swaps_close : {ws : List ℕ} {l : List BodyCommand} (r : ℕ) → Closed l → Swaps ws (outside (SWAP r) ∷ l)
unfolding different_from
swaps_close {ws} {l} r c =
    record {
      pairs = [];
      register = r;
      others = l;
      split = refl;
      each = tt;
      most = λ h. omega arith;
      once = sym (append-nil ws);
      closed = c;
    }

commits_more : {ts us ts' us' : List ℕ} {l : List BodyCommand} (c : BodyCommand) (s : Commits ts' us' l) → BeforeCommit c
    → (length ts ≤ max_touched → length ts' ≤ max_touched)
    → different_from ts (named_blocks (c ∷ s.commands)) ≡ different_from ts' (named_blocks s.commands)
    → (length us ≤ max_puts → length us' ≤ max_puts)
    → different_from us (put_blocks (c ∷ s.commands)) ≡ different_from us' (put_blocks s.commands)
    → Commits ts us (c ∷ l)
commits_more c s b t e u f =
    record {
      commands = c ∷ s.commands;
      others = s.others;
      split = ap (λ (l : List BodyCommand). c ∷ l) s.split;
      each = (b, s.each);
      blocks = λ h. rw e (s.blocks (t h));
      puts = λ h. rw f (s.puts (u h));
      closed = s.closed;
    }

-- EVERY COMMAND, by what is open before it
abbrev open_body : Bool → Bool → List ℕ → List ℕ → List ℕ → Body
open_body e ins ws ts us = record { empty = e; pairs = ws; inside = ins; touched = ts; puts = us }

module _ (words blocks : ℕ) (e : Bool) (ts us : List ℕ) (l : List BodyCommand) where
  idle-step : (c : BodyCommand) → CommandFits words blocks (open_body e false [] ts us) c → Rest (after_body (open_body e false [] ts us) c) l
      → Closed (c ∷ l)
  unfolding after_body after_outside different_from among include_by
  idle-step (LOAD r v) f g = alone tt g
  idle-step (ADD r q) f g = alone tt g
  idle-step (outside (READ r w)) f g = alone tt g
  idle-step (outside (PAIR w o n)) f g =
      subst Closed (sym (ap (λ (z : List BodyCommand). outside (PAIR w o n) ∷ z) g.split))
      (exchange (outside (PAIR w o n) ∷ g.pairs) g.register g.others
      (record { each = (tt, g.each); some = omega arith; most = omega (arith, g.most (omega arith)); once = g.once }) g.closed)
  idle-step (outside (SWAP r)) f g = absurd (true≢false f.fits.some)
  idle-step (outside BEGIN) f g =
      subst Closed (sym (ap (λ (z : List BodyCommand). outside BEGIN ∷ z) g.split))
      (transaction g.commands g.others
      (record { each = g.each; blocks = g.blocks (omega arith); puts = g.puts (omega arith) }) g.closed)
  idle-step (inside c) f g = absurd (false≢true f.place)

  pairs-step : (x : ℕ) (ws : List ℕ) (c : BodyCommand) → CommandFits words blocks (open_body e false (x ∷ ws) ts us) c
      → Rest (after_body (open_body e false (x ∷ ws) ts us) c) l → Swaps (x ∷ ws) (c ∷ l)
  unfolding after_body after_outside
  pairs-step x ws (LOAD r v) f g = swaps_more (LOAD r v) g tt refl
  pairs-step x ws (ADD r q) f g = swaps_more (ADD r q) g tt refl
  pairs-step x ws (outside (READ r w)) f g = swaps_more (outside (READ r w)) g tt refl
  pairs-step x ws (outside (PAIR w o n)) f g = swaps_pair w o n f.fits.not_yet f.fits.room g
  pairs-step x ws (outside (SWAP r)) f g = swaps_close r g
  pairs-step x ws (outside BEGIN) f g = let none : x ∷ ws ≡ [] = f.fits in impossible (cc)
  pairs-step x ws (inside c) f g = absurd (false≢true f.place)

  inside-step : (c : BodyCommand) → CommandFits words blocks (open_body e true [] ts us) c → Rest (after_body (open_body e true [] ts us) c) l
      → Commits ts us (c ∷ l)
  unfolding after_body after_inside different_from
  inside-step (LOAD r v) f g = commits_more (LOAD r v) g tt (λ h. h) refl (λ h. h) refl
  inside-step (ADD r q) f g = commits_more (ADD r q) g tt (λ h. h) refl (λ h. h) refl
  inside-step (outside c) f g = absurd (true≢false f.place)
  inside-step (inside (access (GET r n o))) f g =
      commits_more (inside (access (GET r n o))) g tt (λ h. include-size max_touched n ts h f.fits.room_touched) refl (λ h. h) refl
  inside-step (inside (access (PUT n o r))) f g =
      commits_more (inside (access (PUT n o r))) g tt (λ h. include-size max_touched n ts h f.fits.room_touched) refl
      (λ h. include-size max_puts n us h f.fits.room_puts) refl
  inside-step (inside COMMIT) f g =
      record { commands = []; others = l; split = refl; each = tt; blocks = λ h. h; puts = λ h. h; closed = g }

  step : (ins : Bool) (ws : List ℕ) (c : BodyCommand) → CommandFits words blocks (open_body e ins ws ts us) c
      → Rest (after_body (open_body e ins ws ts us) c) l → RestBy ins ws ts us (c ∷ l)
  step false [] c f g = idle-step c f g
  step false (x ∷ ws) c f g = pairs-step x ws c f g
  step true [] c f g = inside-step c f g
  step true (x ∷ ws) c f g = tt

-- A WHOLE BODY
rest-none : (ins : Bool) (ws ts us : List ℕ) → none? ws ≡ true → not ins ≡ true → RestBy ins ws ts us []
rest-none false [] ts us p q = ends
rest-none false (w ∷ ws) ts us p q = absurd (false≢true p)
rest-none true [] ts us p q = absurd (false≢true q)
rest-none true (w ∷ ws) ts us p q = tt

closes : (l : List BodyCommand) (k : Known) → k.section ≡ body_section → Faultless k l → Rest k.body l
unfolding after
closes [] k s f =
    let b : Body = k.body in
    let both = and_left (not b.empty && none? b.pairs) (not b.inside) f in
    rest-none b.inside b.pairs b.touched b.puts (and_right (not b.empty) (none? b.pairs) both)
    (and_right (not b.empty && none? b.pairs) (not b.inside) f)
closes (c ∷ l) k s f =
    let b : Body = k.body in
    let w : ℕ = k.counts.words in
    let n : ℕ = k.counts.blocks in
    step w n b.empty b.touched b.puts l b.inside b.pairs c
    (command_fits k w n (record { section = s; word_count = refl; block_count = refl }) c f.faultless)
    (closes l (after k (body c)) s f.others)

not-empty : (l : List BodyCommand) (k : Known) → k.body ≡ empty_body → Faultless k l → 1 ≤ length l
not-empty [] k e f = let may : may_end empty_body ≡ true = rw e at f in absurd (false≢true may)
not-empty (c ∷ l) k e f = omega arith

pub good-body : {words blocks : ℕ} {l : List BodyCommand} → BodyFit words blocks l → GoodBody l
good-body {l} f =
    record {
      some = not-empty l f.known f.start f.faultless;
      closed = subst (λ (b : Body). Rest b l) f.start (closes l f.known f.opened.section f.faultless);
    }
