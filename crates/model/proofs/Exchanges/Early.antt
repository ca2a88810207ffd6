-- How an exchange goes on before Commit: what it has to show so that contents and knowledge are kept.
use Prim.Native.Nat.{ℕ, ◌<◌, ◌≤◌}
use mathlib.Core.Bool.{Bool, true, not, true≢false}
use mathlib.Core.Path.{◌≡◌, refl, sym, ◌∙◌, ap, subst}
use mathlib.Core.Logic.{◌≢◌}
use mathlib.Core.List.{List}
use native.Mathlib.Omega.{arith}
use lib.ListN.{length}
use borrow.Author.Tests.{not-true}
use Rattle.model.specs.Lists.{replace}
use Rattle.model.specs.Word.{Word, Memory, status_of, saved}
use Rattle.model.specs.Exchange.{Entry, entry, Step, Exchange, entry_at, installed, to, onward, with_init, init_loaded}
use Rattle.model.proofs.Lists.{replace-same, replace-other, length-replace, at_below, same?, impossible}
use Rattle.model.proofs.Exchanges.Act.{Act, free, exchanging, working, stage, undecided, uncleaned, undecided_all, here, stage_of}
use Rattle.model.proofs.Exchanges.Invariant.{Held, ValidOrHeld, valid, held, Anyone, Loaded, AtStep}
use Rattle.model.proofs.Exchanges.Invariant.{InExchange, Knows, Rank, itself, idle, lower, Situation}
use Rattle.model.proofs.Exchanges.Words.{own-valid, not_own}
use Rattle.model.proofs.Exchanges.Frame.{Frame, frame-none, settled_frame, Moved, below_clear}

-- the exchange goes on: the same pairs, and below i the same entries
pub record Follows (x x' : Exchange) : Type 0 where
  pub size : length x'.entries ≡ length x.entries
  pub cell : (e : ℕ) → (entry_at x' e).cell ≡ (entry_at x e).cell
  pub old : (e : ℕ) → (entry_at x' e).old ≡ (entry_at x e).old
  pub new : (e : ℕ) → (entry_at x' e).new ≡ (entry_at x e).new
  pub done : (e : ℕ) → e < x.i → entry_at x' e ≡ entry_at x e

pub follows_to : (x : Exchange) (s : Step) → Follows x (to x s)
follows_to x s = record { size = refl; cell = λ e. refl; old = λ e. refl; new = λ e. refl; done = λ e h. refl }

pub follows_onward : (x : Exchange) (s : Step) → Follows x (onward x s)
follows_onward x s = record { size = refl; cell = λ e. refl; old = λ e. refl; new = λ e. refl; done = λ e h. refl }

module _ (x : Exchange) (w : Word) (o : Bool) (s : Step) (l : x.i < length x.entries) where
  pub noted_here : here (init_loaded x w o s) ≡ with_init (here x) w o
  noted_here = replace-same (entry 0 0 0) x.entries x.i (with_init (here x) w o) l

  pub noted_other : (e : ℕ) → e ≢ x.i → entry_at (init_loaded x w o s) e ≡ entry_at x e
  noted_other e ne = replace-other (entry 0 0 0) x.entries x.i e (with_init (here x) w o) ne

  noted_pair : (f : Entry → ℕ) → f (with_init (here x) w o) ≡ f (here x) → (e : ℕ) → f (entry_at (init_loaded x w o s) e) ≡ f (entry_at x e)
  noted_pair f h e = same? e x.i (λ k. rw k (ap f noted_here ∙ h)) (λ ne. ap f (noted_other e ne))

  pub follows_noted : Follows x (init_loaded x w o s)
  follows_noted =
      record {
        size = length-replace x.entries x.i (with_init (here x) w o);
        cell = noted_pair (λ (n : Entry). n.cell) refl;
        old = noted_pair (λ (n : Entry). n.old) refl;
        new = noted_pair (λ (n : Entry). n.new) refl;
        done = λ e h. noted_other e (omega arith);
      }

pub from_zero : {l : ℕ} → l ≡ 0 → (e : ℕ) → l ≤ e
from_zero h e = omega arith

module _ {below : ℕ → ℕ → Type 0} {m : Memory} {acts : List Act} {p : ℕ} {x : Exchange} (S : Situation below m acts p (exchanging x)) where
  pub mine : InExchange (λ r. below r p) m.status m.saves acts p x
  mine = subst (λ (v : Act). Knows (λ r. below r p) m.status m.saves acts p v) S.act (S.invariant.knows p)

  -- the exchange stands at entry i
  pub inside : (s : Step) → x.step ≡ s → stage_of s ≡ working → x.i < length x.entries
  inside s e w = mine.at_entry (rw e w)

  pub at-step_as : (s : Step) → x.step ≡ s → AtStep (λ r. below r p) m.status m.saves acts p x s
  at-step_as s e = subst (λ (z : Step). AtStep (λ r. below r p) m.status m.saves acts p x z) e mine.at-step

  -- CONTENTS
  -- a content stays well formed, if p's own entry, should it stand for one, is kept
  pub keep_content : (v : Act) {c : ℕ} {w : Word}
      → ((e : ℕ) → uncleaned (stage x) ≤ e → e < x.i → (entry_at x e).cell ≡ c → w ≡ installed p (entry_at x e) e
      → Held (replace acts p v) c (installed p (entry_at x e) e))
      → ValidOrHeld Anyone acts c w → ValidOrHeld Anyone (replace acts p v) c w
  keep_content v keep (valid h) = valid h
  keep_content v {w = w} keep (held o H) = same? w.task p
      (λ e.
      let y : H.exchange ≡ x = cc S.act in
      let i : w ≡ installed p (entry_at x w.count) w.count = rw (← y, ← e) H.is in
      held tt (rw i (keep w.count (rw (← y) H.low) (rw (← y) H.high) (rw (← y) H.cell) i)))
      (λ ne. held tt (record {
        exchange = H.exchange;
        at-work = replace-other free acts p w.task v ne ∙ H.at-work;
        low = H.low;
        high = H.high;
        cell = H.cell;
        is = H.is;
      }))

  pub held_on : {c : ℕ} (x' : Exchange) → Follows x x' → (e : ℕ) → uncleaned (stage x') ≤ e → e < x'.i → (entry_at x e).cell ≡ c
      → Held (replace acts p (exchanging x')) c (installed p (entry_at x e) e)
  held_on x' f e l h d =
      record { exchange = x'; at-work = replace-same free acts p (exchanging x') S.task; low = l; high = h; cell = f.cell e ∙ d; is = rw (f.new e) }

  -- nobody above p has put a content there, and p has not either: its own entries are at other cells
  pub loaded_content : x.i < length x.entries → {w : Word} → ValidOrHeld Anyone acts (here x).cell w
      → ValidOrHeld (λ r. below r p) acts (here x).cell w
  loaded_content l (valid h) = valid h
  loaded_content l {w} (held o H) = go (S.rank w.task)
    where
      go : Rank below acts p w.task → ValidOrHeld (λ r. below r p) acts (here x).cell w
      go (lower b) = held b H
      go (idle i) = impossible (cc H.at-work)
      go (itself e) =
          let y : H.exchange ≡ x = cc (H.at-work, S.act) in
          let h : w.count < x.i = rw (← y) H.high in
          let d : (entry_at x w.count).cell ≡ (here x).cell = rw y at H.cell in
          absurd (omega (arith, mine.distinct w.count x.i (omega arith) l d))

  -- the task whose content an overlapped entry replaces: it is in an exchange, and its status is not 2
  pub replaced_held : {n : Entry} → Loaded (λ r. below r p) m.status acts n → n.overlapped ≡ true
      → below n.init.task p × Held acts n.cell n.init
  replaced_held {n} L o = go L.valid_or_held
    where
      go : ValidOrHeld (λ r. below r p) acts n.cell n.init → below n.init.task p × Held acts n.cell n.init
      go (valid h) = absurd (true≢false (sym o ∙ L.looked ∙ ap not (own-valid m.status n.init h)))
      go (held b H) = (b, H)

  pub replaced_status : {n : Entry} → Loaded (λ r. below r p) m.status acts n → n.overlapped ≡ true
      → (n.init.task < length m.status) × (status_of m n.init.task ≢ 2)
  replaced_status {n} L o =
      let H = (replaced_held L o).1 in
      let l : n.init.task < length acts = at_below free acts n.init.task (λ f. impossible (cc H.at-work)) in
      (rw S.sizes l, (not_own m.status n.init (not-true _ (sym L.looked ∙ o))).1)

  -- a statement before Commit's answer that leaves the cells alone
  pub early_moved : {n : Memory} (x' : Exchange) → Follows x x' → x'.i ≡ x.i → undecided (stage x) ≡ true → undecided (stage x') ≡ true
      → n.cells ≡ m.cells → Frame p m n → ((e : ℕ) → e < x.i → saved n.saves p e ≡ saved m.saves p e) → status_of n p ≢ 2
      → (stage x' ≡ working → x.i < length x.entries)
      → AtStep (λ r. below r p) n.status n.saves (replace acts p (exchanging x')) p x' x'.step
      → Moved below m n acts p (exchanging x')
  early_moved {n} x' f ei u u' ec F sv n2 w s =
      record {
        frame = F;
        contents = λ c.
            rw ec (keep_content (exchanging x') (λ e l h d i. held_on x' f e (from_zero (undecided_all (stage x') u').0 e) (rw ei h) d)
            (S.invariant.contents c));
        knows = record {
          within = rw (ei, f.size) mine.within;
          at_entry = λ k. rw (ei, f.size) (w k);
          distinct = λ e g le lg d. mine.distinct e g (rw f.size at le) (rw f.size at lg) (sym (f.cell e) ∙ d ∙ f.cell g);
          settled = λ e l h.
              let h' : e < x.i = rw ei at h in
              rw (f.done e h')
              (settled_frame F (exchanging x') acts (below_clear S) (sv e h') (mine.settled e (from_zero (undecided_all (stage x) u).1 e) h'));
          not_yet = λ _. n2;
          at-step = s;
        };
      }

  -- one that changes nothing shared
  pub early_quiet : (x' : Exchange) → Follows x x' → x'.i ≡ x.i → undecided (stage x) ≡ true → undecided (stage x') ≡ true
      → (stage x' ≡ working → x.i < length x.entries)
      → AtStep (λ r. below r p) m.status m.saves (replace acts p (exchanging x')) p x' x'.step
      → Moved below m m acts p (exchanging x')
  early_quiet x' f ei u u' w s = early_moved x' f ei u u' refl (frame-none p m) (λ e h. refl) (mine.not_yet u) w s
