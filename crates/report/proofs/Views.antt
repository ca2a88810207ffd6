-- The records as the model sees them: the current value of a cell, a block store, a task's record.
use Prim.Native.Nat.{ℕ, ◌+◌, ◌-◌, ◌*◌, ◌≤◌, ◌<◌}
use mathlib.Core.Path.{◌≡◌, refl, sym, ap, ◌∙◌}
use mathlib.Core.Bool.{Bool, true, false}
use mathlib.Core.List.{List, [], ◌∷◌, map}
use native.Mathlib.Nat.{add-zero}
use native.Mathlib.Omega.{arith}
use lib.ListN.{length, get_or, take, get_or-map}
use Rattle.std.proofs.Common.{Option, Some, None, Bor, inl, inr}
use Rattle.std.specs.Slice.{IsGetRangeResult}
use Rattle.std.specs.Option.{UnwrapsOrElse}
use Rattle.model.specs.Lists.{at}
use Rattle.model.specs.Word.{Memory, current_by, current, current_of}
use Rattle.model.specs.Transaction.{bank, version_of, store_of}
use Rattle.model.specs.Report.{line, word_line, block_line}
use Rattle.state.specs.Packed.{unpack, value_of}
use Rattle.state.specs.Rows.{row, rows}
use Rattle.state.specs.State.{Shared, Own, own, no_task}
use Rattle.state.specs.declared.task.Task.{Task}
use Rattle.state.specs.Held.{memory_of}
use Rattle.state.specs.Sized.{SharedSized}
use Rattle.state.proofs.Rows.{at_rows}
use Rattle.state.proofs.Held.{cell_at, past-rows}
use Rattle.exchanges.specs.Places.{if}
use Rattle.exchanges.specs.Reading.{owned, saved_for, current_in}
use Rattle.exchanges.proofs.Reading.{own-unpack, saved-for}
use Rattle.report.specs.Text.{shown, lines_of_task, task_lines_of, task_most}
use Rattle.report.specs.Writing.{Wrote}
use Rattle.report.specs.declared.text.Writer.{Writer}
use Rattle.report.proofs.Writing.{then, as_text}

module _ {m : Shared} (s : SharedSized m) where
  current-by : (w : ℕ) (b : Bool) → if b (value_of w) (saved_for m w) ≡ current_by b (rows 8 8 m.saves) (unpack w)
  unfolding current_by unpack
  current-by w true = refl
  current-by w false = sym (saved-for m w s.saves)

  -- the rule of the code is the model's
  pub current-in : (c : ℕ) → c < 48 → current_in m c ≡ current_of (memory_of m) c
  unfolding current_in current
  current-in c h =
      let w = at 0 m.cells c in
      rw (cell_at m.cells c (omega (arith, s.cells)), own-unpack m w) (current-by w (owned m w))

-- a W line and a B line with the current value found
pub word-text : (m : Memory) (w : ℕ) {v : ℕ} → v ≡ current_of m w → line 0x57 (w ∷ v ∷ []) ≡ word_line m w
word-text m w e = ap (λ (x : ℕ). line 0x57 (w ∷ x ∷ [])) e

pub block_text : (m : Memory) (b : ℕ) {v : ℕ} → v ≡ current_of m (bank b)
    → line 0x42 (b ∷ version_of v ∷ at [] m.stores (store_of v)) ≡ block_line m b
block_text m b e = ap (λ (x : ℕ). line 0x42 (b ∷ version_of x ∷ at [] m.stores (store_of x))) e

-- the values of a block store: a store that there is not has none
pub got_values : (stores : List ℕ) (s : ℕ) {l : List ℕ} {k : ℕ} → k ≡ 8 * s + 0 → l ≡ stores → length l ≡ 384 → (r : Option (Bor (List ℕ)))
    → IsGetRangeResult l k (k + 8) r → (v : Bor (List ℕ)) → UnwrapsOrElse r (λ x. x.now ≡ []) v → v.now ≡ at [] (rows 8 48 stores) s
unfolding row
got_values stores s {k = k} e f n (Some x) got v u =
    let size : k + 8 - k ≡ 8 = omega arith in
    let inside : s < 48 = omega (arith, got.1, e, n) in
    ap (λ (b : Bor (List ℕ)). b.now) u ∙ got.0.2 ∙ rw (size, e, f, add-zero, at_rows 8 48 s stores inside)
got_values stores s e f n None got v u =
    u ∙ sym (past-rows 8 48 s stores (elim got.0 [ inl h ↦ omega arith | inr h ↦ omega (arith, n) ]))

-- the T line and the R line with the counts and registers found
pub task_text : (ts : List Task) (p : ℕ) {t : Task} → t ≡ get_or ts p no_task
    → lines_of_task p (own t) ≡ task_lines_of (map own ts) p
unfolding own
task_text ts p e = ap (λ (t : Task). lines_of_task p (own t)) e ∙ ap (lines_of_task p) (sym (get_or-map own ts p no_task))

pub task_lines : {m : ℕ} (p : ℕ) (t : Own) {counts registers : List ℕ} {u v w : Writer}
    → counts ≡ t.counts → registers ≡ t.registers → length registers ≡ 8
    → Wrote m (line 0x54 (p ∷ take shown counts)) u v → Wrote (11 * (1 + length registers) + 2) (line 0x52 (p ∷ registers)) v w
    → m ≤ 68 → Wrote task_most (lines_of_task p t) u w
task_lines p t e f whole a b small =
    rw (← e, ← f) (as_text refl (omega arith) (then a b))
