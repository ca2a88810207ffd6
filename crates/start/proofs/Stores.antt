-- A store that takes its values one after another.
use Prim.Native.Nat.{ℕ, ◌+◌, ◌*◌, ◌<◌}
use mathlib.Core.Path.{◌≡◌, sym, ap, ◌∙◌}
use mathlib.Core.List.{List, []}
use native.Mathlib.Omega.{arith}
use lib.ListN.{length}
use lib.Seq.{set-get_or, set-set, paste, paste-zero}
use Rattle.model.specs.Lists.{at, replace}
use Rattle.model.specs.Word.{Memory, memory}
use Rattle.model.proofs.Lists.{length-replace, replace-same}
use Rattle.state.specs.Rows.{row, rows}
use Rattle.state.specs.State.{Shared, set_value}
use Rattle.state.specs.Held.{memory_of}
use Rattle.state.proofs.Rows.{length-row, length-rows, at_rows, rows-replace}
use Rattle.start.specs.Declaring.{Before, Stored}
use Rattle.start.proofs.Lists.{paste-next, paste-whole}

abbrev rest : Shared → List (List ℕ) → Memory
rest m l = memory (memory_of m).cells (memory_of m).status (memory_of m).saves l

-- the first k values are in place
abbrev pub placed : Shared → ℕ → List ℕ → ℕ → List ℕ
placed m store values k = paste (row 8 store m.stores) 0 values k

module _ {m : Shared} {store : ℕ} {values : List ℕ} (h : Before m store values) where
  rows-size : length (rows 8 48 m.stores) ≡ 48
  rows-size = length-rows 8 48 m.stores

  row-size : length (row 8 store m.stores) ≡ 8
  row-size = length-row 8 store m.stores (omega (arith, h.sized.stores, h.some))

  pub none-stored : Stored m store (placed m store values 0) m
  unfolding at replace
  none-stored =
      let old : List ℕ = row 8 store m.stores in
      let same : placed m store values 0 ≡ at [] (rows 8 48 m.stores) store =
      sym (paste-zero old 0 values) ∙ sym (at_rows 8 48 store m.stores h.some) in
      record {
        memory = ap (rest m) (sym (ap (replace (rows 8 48 m.stores) store) same ∙ set-get_or (rows 8 48 m.stores) store []));
        sized = h.sized;
      }

  pub one-stored : {r : Shared} (k x : ℕ) → Stored m store (placed m store values k) r → k < 8 → x ≡ at 0 values k
      → Stored m store (placed m store values (k + 1)) (set_value r (8 * store + k) x)
  unfolding replace
  one-stored {r} k x stored less e =
      let held = stored.memory in
      let before : List (List ℕ) = rows 8 48 m.stores in
      let now : List ℕ = placed m store values k in
      let rows-now : rows 8 48 r.stores ≡ replace before store now = ap (λ (z : Memory). z.stores) held in
      let row_now : row 8 store r.stores ≡ now =
      sym (at_rows 8 48 store r.stores h.some)
      ∙ ap (λ (l : List (List ℕ)). at [] l store) rows-now
      ∙ replace-same [] before store now (omega (arith, rows-size, h.some)) in
      record {
        memory = ap (λ (z : Memory). memory z.cells z.status z.saves (rows 8 48 (replace r.stores (8 * store + k) x))) held
            ∙ ap (rest m)
            (rows-replace 8 48 store k r.stores x less
            ∙ rw (rows-now, row_now) (set-set before store now (replace now k x))
            ∙ ap (replace before store) (paste-next (row 8 store m.stores) values k 0 x (omega (arith, row-size)) (omega (arith, h.eight)) e));
        sized =
            record {
              cells = stored.sized.cells;
              status = stored.sized.status;
              saves = stored.sized.saves;
              stores = length-replace r.stores (8 * store + k) x ∙ stored.sized.stores;
            };
      }

  pub all-stored : {r : Shared} → Stored m store (placed m store values 8) r → Stored m store values r
  all-stored {r} stored = rw (paste-whole (row 8 store m.stores) values 8 row-size h.eight) at stored
