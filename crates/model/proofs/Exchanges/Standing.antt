-- Standing: what is asked of a statement so that all that the tasks have installed goes on to stand or to be covered.
use Prim.Native.Nat.{ℕ, ◌<◌}
use mathlib.Core.Bool.{true, false, true≢false}
use mathlib.Core.Path.{◌≡◌, refl, sym, ◌∙◌, ap, subst}
use mathlib.Core.Logic.{◌≢◌}
use mathlib.Core.List.{List}
use Rattle.model.specs.Lists.{at, replace}
use Rattle.model.specs.Word.{Word, Memory, cell_of, status_of, fresh_word}
use Rattle.model.specs.Exchange.{Exchange, entry_at, installed}
use Rattle.model.proofs.Lists.{replace-same, replace-other, same?}
use Rattle.model.proofs.Exchanges.Act.{Act, free, reading, exchanging, act_at, stage, hopeful}
use Rattle.model.proofs.Exchanges.Invariant.{ValidOrHeld, valid, held, Knows, Covers, CoveredBy, Stands, stands}
use Rattle.model.proofs.Exchanges.Invariant.{covered, Standing, Invariant, Rank, itself, idle, lower, Situation}
use Rattle.model.proofs.Exchanges.Frame.{kept-zero, nobody_above, Moved, assemble}

-- after the statement a content is in its cell, or covered by p
pub data Keeps (n : Memory) (v : Act) (c : ℕ) (u : Word) : Type 0 where
  stays : cell_of n c ≡ u → Keeps n v c u
  taken : CoveredBy v u → Keeps n v c u

-- a content of a task below p that is not marked
pub record Lower (below : ℕ → ℕ → Type 0) (n : Memory) (p : ℕ) (u : Word) : Type 0 where
  pub task : below u.task p
  pub not_valid : u.valid ≡ false
  pub unmarked : status_of n u.task ≡ 0

-- what p covered before, it gives back or goes on covering
abbrev pub GivesBack : Act → Memory → Act → Word → Type 0
GivesBack free n v u = Unit {0}
GivesBack (reading c r) n v u = Unit {0}
GivesBack (exchanging x) n v u = (C : Covers x u) → Keeps n v (entry_at x C.number).cell u

-- nobody is above p: while it may still say yes, all that it has installed is in the cells
abbrev pub AllInstalled : List Word → List ℕ → ℕ → Act → Type 0
AllInstalled cells status p free = Unit {0}
AllInstalled cells status p (reading c r) = Unit {0}
AllInstalled cells status p (exchanging x) =
    hopeful (stage x) ≡ true → at 0 status p ≡ 0 → (e : ℕ) → e < x.i → at (fresh_word 0) cells (entry_at x e).cell ≡ installed p (entry_at x e) e

-- what is asked of a statement of p that leads from the memory m and act v₀ to n and v
pub record Upholds (below : ℕ → ℕ → Type 0) (m n : Memory) (p : ℕ) (v₀ v : Act) : Type 0 where
  pub content : (c : ℕ) (u : Word) → Lower below n p u → cell_of m c ≡ u → Keeps n v c u
  pub cover : (u : Word) → Lower below n p u → GivesBack v₀ n v u
  pub own : AllInstalled n.cells n.status p v

-- the cell of a content that stands for entry e of task r
held_cell : {of : ℕ → Type 0} {acts : List Act} {c : ℕ} {u : Word} (r e : ℕ) (z : Exchange) → u ≡ installed r (entry_at z e) e
    → act_at acts r ≡ exchanging z → ValidOrHeld of acts c u → (entry_at z e).cell ≡ c
held_cell r e z i az (valid h) = absurd (true≢false (sym h ∙ ap (λ (w : Word). w.valid) i))
held_cell {u = u} r e z i az (held o H) =
    let et : u.task ≡ r = ap (λ (w : Word). w.task) i in
    let ec : u.count ≡ e = ap (λ (w : Word). w.count) i in
    let y : H.exchange ≡ z = cc H.at-work in
    rw (y, ec) at H.cell

module _ {below : ℕ → ℕ → Type 0} {m : Memory} {acts : List Act} {p : ℕ} {v₀ : Act} (S : Situation below m acts p v₀) {n : Memory} {v : Act}
    (M : Moved below m n acts p v) (U : Upholds below m n p v₀ v) where
  -- p covered what r has installed: it is at the cell of r's entry
  gives_back : (r e : ℕ) (z : Exchange) → act_at acts r ≡ exchanging z → (y : Act) → Knows (λ r. below r p) m.status m.saves acts p y
      → GivesBack y n v (installed r (entry_at z e) e) → CoveredBy y (installed r (entry_at z e) e)
      → Keeps n v (entry_at z e).cell (installed r (entry_at z e) e)
  gives_back r e z az free K g C = absurd C
  gives_back r e z az (reading c s) K g C = absurd C
  gives_back r e z az (exchanging y) K g C =
      rw (held_cell r e z C.init az (K.settled C.number C.low C.high).found.loaded.valid_or_held) (g C)

  where_now : (r c : ℕ) (u : Word) → below r p → Keeps n v c u → Stands below n.cells (replace acts p v) r c u
  where_now r c u b (stays h) = stands h
  where_now r c u b (taken C) = covered p b (rw (replace-same free acts p v S.task) C)

  lower_stands : (r e : ℕ) (z : Exchange) → act_at acts r ≡ exchanging z → below r p → status_of n r ≡ 0
      → Stands below m.cells acts r (entry_at z e).cell (installed r (entry_at z e) e)
      → Stands below n.cells (replace acts p v) r (entry_at z e).cell (installed r (entry_at z e) e)
  lower_stands r e z az b st (stands h) =
      where_now r _ _ b (U.content (entry_at z e).cell (installed r (entry_at z e) e) (record { task = b; not_valid = refl; unmarked = st }) h)
  lower_stands r e z az b st (covered q bq C) = same? q p
      (λ k. where_now r _ _ b
      (gives_back r e z az v₀ (rw S.act at (S.invariant.knows p))
      (U.cover (installed r (entry_at z e) e) (record { task = b; not_valid = refl; unmarked = st })) (rw (k, S.act) at C)))
      (λ ne. covered q bq (rw (replace-other free acts p q v ne) C))

  lower_standing : (r : ℕ) (u : Act) → act_at acts r ≡ u → r ≢ p → below r p → Standing below m.cells m.status acts r u
      → Standing below n.cells n.status (replace acts p v) r u
  lower_standing r free ar ne b h = tt
  lower_standing r (reading c s) ar ne b h = tt
  lower_standing r (exchanging z) ar ne b h = λ k st e l. lower_stands r e z ar b st (h k (kept-zero (M.frame.status r ne) st) e l)

  own_standing : (u : Act) → AllInstalled n.cells n.status p u → Standing below n.cells n.status (replace acts p v) p u
  own_standing free h = tt
  own_standing (reading c s) h = tt
  own_standing (exchanging z) h = λ k st e l. stands (h k st e l)

  all_standing : (r : ℕ) → Standing below n.cells n.status (replace acts p v) r (act_at (replace acts p v) r)
  all_standing r = same? r p
      (λ k. rw (k, replace-same free acts p v S.task) (own_standing v U.own))
      (λ ne. rw (replace-other free acts p r v ne) (go ne (S.rank r)))
    where
      go : r ≢ p → Rank below acts p r → Standing below n.cells n.status (replace acts p v) r (act_at acts r)
      go ne (itself e) = absurd (ne e)
      go ne (idle i) = rw i tt
      go ne (lower b) = lower_standing r (act_at acts r) refl ne b (S.invariant.standing r)

  pub invariant_after : Invariant below n (replace acts p v)
  invariant_after = record { contents = M.contents; knows = assemble S M; standing = all_standing }

module _ {below : ℕ → ℕ → Type 0} {m : Memory} {acts : List Act} {p : ℕ} {x : Exchange} (S : Situation below m acts p (exchanging x)) where
  -- nobody is above the running task: all that it has installed is in the cells
  pub all_in_cells : hopeful (stage x) ≡ true → status_of m p ≡ 0 → (e : ℕ) → e < x.i → cell_of m (entry_at x e).cell ≡ installed p (entry_at x e) e
  all_in_cells k st e l = go (subst (λ (v : Act). Standing below m.cells m.status acts p v) S.act (S.invariant.standing p) k st e l)
    where
      go : {c : ℕ} {u : Word} → Stands below m.cells acts p c u → cell_of m c ≡ u
      go (stands h) = h
      go (covered q b C) = absurd (rw (nobody_above S q b) at C)
