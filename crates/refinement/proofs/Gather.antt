-- COMMIT's gathering, block by block: the entries are the model's.
use Prim.Native.Nat.{ℕ, zero, suc, ◌+◌, ◌*◌, ◌-◌, ◌/◌, ◌%◌, ◌<◌, ◌≤◌}
use mathlib.Core.Path.{◌≡◌, refl, sym, ap, ◌∙◌}
use mathlib.Core.Bool.{Bool, true, false}
use mathlib.Core.List.{List, [], ◌∷◌, ◌++◌}
use native.Mathlib.Omega.{arith}
use lib.ListN.{length}
use Rattle.model.specs.Lists.{at, replace}
use Rattle.model.specs.Exchange.{Entry, entry}
use Rattle.model.specs.Job.{Touched, untouched, remembered, copied}
use Rattle.model.specs.Transaction.{store_of, bank, bank_value, version_of, touched_count, gather, taken_back}
use Rattle.model.proofs.Lists.{length-replace}
use Rattle.state.specs.State.{Own}
use Rattle.state.specs.Held.{touched_in, touched_of, blocks_from, blocks_of}
use Rattle.exchanges.specs.Places.{if}
use Rattle.jobs.specs.Jobs.{entered_in}
use Rattle.transactions.specs.Blocks.{bank_of, slot_at, remembered_at, touched_from, Gathering, gathering, gathered_one, gathered_over, gathered_all}
use Rattle.transactions.proofs.Walks.{copied_slot}
use Rattle.refinement.proofs.View.{entries_of}
use Rattle.refinement.proofs.Sized.{EntriesSized}
use Rattle.refinement.proofs.Entered.{no_entries, entered-sized, entered-entries}

-- OLD STORES TAKEN BACK: as many copy slots as before
pub taken-size : (copies : List ℕ) (l : List Touched) → length (taken_back copies l) ≡ length copies
unfolding taken_back
taken-size copies [] = refl
taken-size copies (untouched ∷ l) = taken-size copies l
taken-size copies (remembered v ∷ l) = taken-size copies l
taken-size copies (copied v k ∷ l) = taken-size (replace copies k (store_of v)) l ∙ length-replace copies k _

-- THE TOUCHED BANK WORDS GATHERED
pub gathered_sized : (t : Own) (l : List ℕ) (g : Gathering) → EntriesSized g.entries → EntriesSized (gathered_over t l g).entries
unfolding gathered_over gathered_one
gathered_sized t [] g s = s
gathered_sized t (b ∷ l) g s = gathered_sized t l (gathered_one t b g) (entered-sized g.entries g.count _ _ _ s)

none_more : (l : List Entry) → l ++ [] ≡ l
none_more [] = refl
none_more (a ∷ l) = ap (λ (r : List Entry). a ∷ r) (none_more l)

one_more : (l : List Entry) (e : Entry) (r : List Entry) → (l ++ (e ∷ [])) ++ r ≡ l ++ (e ∷ r)
one_more [] e r = refl
one_more (a ∷ l) e r = ap (λ (r : List Entry). a ∷ r) (one_more l e r)

next-version : (v c : ℕ) → v < 16777215 → c < 256 → ((v * 256 + 256) % 4294967296 + c) % 4294967296 ≡ suc v * 256 + c
next-version v c h g = omega arith

module _ (t : Own)
    (version : (b k : ℕ) → b < 16 → touched_in t.blocks.touched b ≡ true → slot_at t b ≡ suc k → remembered_at t b / 256 < 16777215)
    (copy : (k : ℕ) → at 0 t.copies k < 256) where
  -- the entries after those blocks, and with one block more
  abbrev after : List ℕ → Gathering → List Entry
  after l g = entries_of (gathered_over t l g).count (gathered_over t l g).entries

  abbrev with_entry : Gathering → ℕ → ℕ → ℕ → Gathering
  with_entry g b old new = gathering (g.count + 1) (entered_in g.entries g.count (bank_of b) old new)

  abbrev Gathers : ℕ → ℕ → Type 0
  Gathers n b =
      (g : Gathering) → EntriesSized g.entries → g.count + touched_count (blocks_from n t.blocks b) ≤ 8
      → after (touched_from n t.blocks.touched b) g
      ≡ entries_of g.count g.entries ++ gather t.copies b (blocks_from n t.blocks b)

  -- one entry more, for a touched block
  gathered_entry : (n b old new : ℕ) → Gathers n (suc b) → (g : Gathering) → EntriesSized g.entries
      → g.count + suc (touched_count (blocks_from n t.blocks (suc b))) ≤ 8
      → after (touched_from n t.blocks.touched (suc b)) (with_entry g b old new)
      ≡ entries_of g.count g.entries ++ (entry (bank b) old new ∷ gather t.copies (suc b) (blocks_from n t.blocks (suc b)))
  gathered_entry n b old new rest g s room =
      let more : g.count + 1 ≡ suc g.count = omega arith in
      let entered : entries_of (g.count + 1) (entered_in g.entries g.count (bank_of b) old new)
      ≡ entries_of g.count g.entries ++ (entry (bank b) old new ∷ []) =
      rw more (entered-entries g.entries g.count (bank_of b) old new s (omega arith)) in
      rest (with_entry g b old new) (entered-sized g.entries g.count (bank_of b) old new s) (omega arith)
      ∙ ap (λ (l : List Entry). l ++ gather t.copies (suc b) (blocks_from n t.blocks (suc b))) entered
      ∙ one_more (entries_of g.count g.entries) (entry (bank b) old new) _

  gathered_from : (n b : ℕ) → b + n ≤ 16 → Gathers n b
  unfolding gathered_over gathered_one touched_from blocks_from gather touched_count
  gathered_from zero b h g s room = sym (none_more (entries_of g.count g.entries))
  gathered_from (suc n) b h g s room =
      go (touched_in t.blocks.touched b) refl (slot_at t b) refl (gathered_from n (suc b) (omega arith)) room
    where
      go : (z : Bool) → touched_in t.blocks.touched b ≡ z → (k : ℕ) → slot_at t b ≡ k → Gathers n (suc b)
          → g.count + touched_count (touched_of z k (remembered_at t b) ∷ blocks_from n t.blocks (suc b)) ≤ 8
          → after (if z (b ∷ touched_from n t.blocks.touched (suc b)) (touched_from n t.blocks.touched (suc b))) g
          ≡ entries_of g.count g.entries ++ gather t.copies b (touched_of z k (remembered_at t b) ∷ blocks_from n t.blocks (suc b))
      go false i k e rest room = rest g s room
      go true i zero e rest room =
          let old : ℕ = remembered_at t b in
          let one : gathered_one t b g ≡ with_entry g b old old = rw e in
          ap (after (touched_from n t.blocks.touched (suc b))) one ∙ gathered_entry n b old old rest g s room
      go true i (suc k) e rest room =
          let old : ℕ = remembered_at t b in
          let new : ℕ = bank_value (suc (version_of old)) (at 0 t.copies k) in
          let less : suc k - 1 ≡ k = omega arith in
          let one : gathered_one t b g ≡ with_entry g b old new =
          rw (e, copied_slot k, less, next-version (old / 256) (at 0 t.copies k) (version b k (omega arith) i e) (copy k)) in
          ap (after (touched_from n t.blocks.touched (suc b))) one ∙ gathered_entry n b old new rest g s room

  pub gathered_same : EntriesSized t.entries → touched_count (blocks_of t.blocks) ≤ 8
      → entries_of (gathered_all t).count (gathered_all t).entries ≡ gather t.copies 0 (blocks_of t.blocks)
  gathered_same s most =
      gathered_from 16 0 (omega arith) (gathering 0 t.entries) s (omega arith)
      ∙ ap (λ (l : List Entry). l ++ gather t.copies 0 (blocks_of t.blocks)) (no_entries t.entries)
