-- One field of an entry or a block set: its list has the new value, and the lists of the other fields are as before.
use Rattle.std.proofs.Common.{◌≡◌, ℕ, List, map, refl, sym, ap, ◌∙◌}
use lib.Seq.{set-get_or}
use Rattle.model.specs.Lists.{at, replace}
use Rattle.model.proofs.Lists.{at_map, map-replace}
use Rattle.state.specs.State.{entries_of, blocks_by, no_entry, no_block}
use Rattle.state.specs.declared.task.Entry.{Entry}
use Rattle.state.specs.declared.task.Block.{Block}

module _ {A : Type 0} (f : A → ℕ) (d : A) (l : List A) (i : ℕ) (x : A) where
  -- a field that stays
  same : f x ≡ f (at d l i) → map f (replace l i x) ≡ map f l
  unfolding at replace
  same e = map-replace f l i x ∙ ap (λ (v : ℕ). replace (map f l) i v) (e ∙ sym (at_map f d l i)) ∙ set-get_or (map f l) i (f d)

-- an entry with one field given
module _ (l : List Entry) (i v : ℕ) where
  pub target_set : {e : Entry} {m : List Entry} → e ≡ at no_entry l i → m ≡ replace l i (record e { target = v })
      → entries_of m ≡ record { targets = replace (map (λ (e : Entry). e.target) l) i v; olds = map (λ (e : Entry). e.old) l; news = map (λ (e : Entry). e.new) l; inits = map (λ (e : Entry). e.init) l; overlapped = map (λ (e : Entry). e.overlapped) l }
  target_set p q = rw (q, p) (rw (map-replace (λ (e : Entry). e.target) l i (record (at no_entry l i) { target = v }), same (λ (e : Entry). e.old) no_entry l i (record (at no_entry l i) { target = v }) refl, same (λ (e : Entry). e.new) no_entry l i (record (at no_entry l i) { target = v }) refl, same (λ (e : Entry). e.overlapped) no_entry l i (record (at no_entry l i) { target = v }) refl, same (λ (e : Entry). e.init) no_entry l i (record (at no_entry l i) { target = v }) refl))

  pub old_set : {e : Entry} {m : List Entry} → e ≡ at no_entry l i → m ≡ replace l i (record e { old = v })
      → entries_of m ≡ record { targets = map (λ (e : Entry). e.target) l; olds = replace (map (λ (e : Entry). e.old) l) i v; news = map (λ (e : Entry). e.new) l; inits = map (λ (e : Entry). e.init) l; overlapped = map (λ (e : Entry). e.overlapped) l }
  old_set p q = rw (q, p) (rw (same (λ (e : Entry). e.target) no_entry l i (record (at no_entry l i) { old = v }) refl, map-replace (λ (e : Entry). e.old) l i (record (at no_entry l i) { old = v }), same (λ (e : Entry). e.new) no_entry l i (record (at no_entry l i) { old = v }) refl, same (λ (e : Entry). e.overlapped) no_entry l i (record (at no_entry l i) { old = v }) refl, same (λ (e : Entry). e.init) no_entry l i (record (at no_entry l i) { old = v }) refl))

  pub new_set : {e : Entry} {m : List Entry} → e ≡ at no_entry l i → m ≡ replace l i (record e { new = v })
      → entries_of m ≡ record { targets = map (λ (e : Entry). e.target) l; olds = map (λ (e : Entry). e.old) l; news = replace (map (λ (e : Entry). e.new) l) i v; inits = map (λ (e : Entry). e.init) l; overlapped = map (λ (e : Entry). e.overlapped) l }
  new_set p q = rw (q, p) (rw (same (λ (e : Entry). e.target) no_entry l i (record (at no_entry l i) { new = v }) refl, same (λ (e : Entry). e.old) no_entry l i (record (at no_entry l i) { new = v }) refl, map-replace (λ (e : Entry). e.new) l i (record (at no_entry l i) { new = v }), same (λ (e : Entry). e.overlapped) no_entry l i (record (at no_entry l i) { new = v }) refl, same (λ (e : Entry). e.init) no_entry l i (record (at no_entry l i) { new = v }) refl))

  pub overlapped_set : {e : Entry} {m : List Entry} → e ≡ at no_entry l i → m ≡ replace l i (record e { overlapped = v })
      → entries_of m ≡ record { targets = map (λ (e : Entry). e.target) l; olds = map (λ (e : Entry). e.old) l; news = map (λ (e : Entry). e.new) l; inits = map (λ (e : Entry). e.init) l; overlapped = replace (map (λ (e : Entry). e.overlapped) l) i v }
  overlapped_set p q = rw (q, p) (rw (same (λ (e : Entry). e.target) no_entry l i (record (at no_entry l i) { overlapped = v }) refl, same (λ (e : Entry). e.old) no_entry l i (record (at no_entry l i) { overlapped = v }) refl, same (λ (e : Entry). e.new) no_entry l i (record (at no_entry l i) { overlapped = v }) refl, map-replace (λ (e : Entry). e.overlapped) l i (record (at no_entry l i) { overlapped = v }), same (λ (e : Entry). e.init) no_entry l i (record (at no_entry l i) { overlapped = v }) refl))

  pub init_set : {e : Entry} {m : List Entry} → e ≡ at no_entry l i → m ≡ replace l i (record e { init = v })
      → entries_of m ≡ record { targets = map (λ (e : Entry). e.target) l; olds = map (λ (e : Entry). e.old) l; news = map (λ (e : Entry). e.new) l; inits = replace (map (λ (e : Entry). e.init) l) i v; overlapped = map (λ (e : Entry). e.overlapped) l }
  init_set p q = rw (q, p) (rw (same (λ (e : Entry). e.target) no_entry l i (record (at no_entry l i) { init = v }) refl, same (λ (e : Entry). e.old) no_entry l i (record (at no_entry l i) { init = v }) refl, same (λ (e : Entry). e.new) no_entry l i (record (at no_entry l i) { init = v }) refl, same (λ (e : Entry). e.overlapped) no_entry l i (record (at no_entry l i) { init = v }) refl, map-replace (λ (e : Entry). e.init) l i (record (at no_entry l i) { init = v })))

-- and a block
module _ (mask : ℕ) (l : List Block) (i v : ℕ) where
  pub slot_set : {e : Block} {m : List Block} → e ≡ at no_block l i → m ≡ replace l i (record e { slot = v })
      → blocks_by mask m ≡ record { touched = mask; slots = replace (map (λ (e : Block). e.slot) l) i v; remembered = map (λ (e : Block). e.remembered) l }
  slot_set p q = rw (q, p) (rw (map-replace (λ (e : Block). e.slot) l i (record (at no_block l i) { slot = v }), same (λ (e : Block). e.remembered) no_block l i (record (at no_block l i) { slot = v }) refl))

  pub remembered_set : {e : Block} {m : List Block} → e ≡ at no_block l i → m ≡ replace l i (record e { remembered = v })
      → blocks_by mask m ≡ record { touched = mask; slots = map (λ (e : Block). e.slot) l; remembered = replace (map (λ (e : Block). e.remembered) l) i v }
  remembered_set p q = rw (q, p) (rw (same (λ (e : Block). e.slot) no_block l i (record (at no_block l i) { remembered = v }) refl, map-replace (λ (e : Block). e.remembered) l i (record (at no_block l i) { remembered = v })))
