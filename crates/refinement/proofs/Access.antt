-- GET and PUT: the first reading, the copy, the own copy, the second reading and the stale restart.
use Prim.Native.Nat.{ℕ, zero, suc, ◌+◌, ◌*◌, ◌-◌, ◌/◌, ◌%◌, ◌<◌, ◌≤◌}
use mathlib.Core.Path.{◌≡◌, refl, sym, ap, ◌∙◌, subst}
use mathlib.Core.Bool.{Bool, true, false}
use mathlib.Core.List.{List, []}
use native.Mathlib.Nat.{mod-eq_of_lt}
use native.Mathlib.Omega.{arith}
use lib.Dec.{eqb}
use lib.ListN.{length}
use Rattle.model.specs.Lists.{at, replace}
use Rattle.model.specs.Command as C
use Rattle.model.specs.Word as W
use Rattle.model.specs.Job as J
use Rattle.model.specs.Transaction as T
use Rattle.model.proofs.Lists.{length-replace}
use Rattle.model.proofs.Fit.Transaction.{touched?, offset_of, put?}
use Rattle.commands.specs.View.{view_access}
use Rattle.commands.specs.declared.Access.{Access}
use Rattle.commands.specs.declared.Access.TheVariants.{Get, Put}
use Rattle.commands.specs.declared.BodyCommand.{BodyCommand}
use Rattle.state.specs.State.{Shared, Own, with_registers, set_value}
use Rattle.state.specs.Held.{memory_of, touched_in, touched_of}
use Rattle.exchanges.specs.Places.{if, next_of, Left, left}
use Rattle.exchanges.specs.Reading.{after_reading}
use Rattle.jobs.specs.Jobs.{lost}
use Rattle.transactions.specs.Blocks.{bank_of, named_block, slot_at, remembered_at}
use Rattle.transactions.proofs.Walks.{copied_slot}
use Rattle.transactions.specs.Accesses.{goes_on, first_read, store_for, got_by, copy_by, after_copy, after_put}
use Rattle.transactions.specs.Accesses.{on_task, on_memory, access_tick, loses_attempt, checked_by, again_read}
use Rattle.machine.specs.Flat.{closed}
use Rattle.program.specs.Program.{commands_in}
use Rattle.exchanges.specs.declared.read.Reading.TheVariants.{Load}
use Rattle.exchanges.specs.declared.read.Read.{Read}
use Rattle.exchanges.specs.declared.read.Read.TheVariants.{Reads, Gives}
use Rattle.jobs.specs.declared.Job.{Job}
use Rattle.refinement.proofs.View.{read_of, counts_of, transaction_of}
use Rattle.state.specs.Sized.{SharedSized, OwnSized}
use Rattle.refinement.proofs.Shape.{InsideShape, Refines}
use Rattle.refinement.proofs.Sized.{registers-sized, blocks-sized}
use Rattle.refinement.proofs.Lines.{next-line, lines_next}
use Rattle.state.proofs.Held.{rows_at}
use Rattle.refinement.proofs.Memory.{rows_written}
use Rattle.refinement.proofs.Reading.{read-tick}
use Rattle.refinement.proofs.Blocks.{at-blocks, blocks-touched, blocks-copied, touched-in, value-remembered}
use Rattle.refinement.proofs.Lost.{lost_refines}

-- the task in a transaction, at command j
abbrev pub inside : List BodyCommand → ℕ → List C.BodyCommand → Job → Own → J.Inner → J.Task
inside program end body j t i =
    J.task body t.copies (counts_of t)
    (J.job (J.transacting (transaction_of program end j t) i) (commands_in program j.at end) t.registers [])

pub named-block : (c : Access) → T.block_of (view_access c) ≡ named_block c
named-block (Get r b o) = refl
named-block (Put b o r) = refl

-- what the check says of an access
pub record AccessFits (c : Access) : Type 0 where
  pub block : named_block c < 16
  pub offset : offset_of (view_access c) < 8

module _ (program : List BodyCommand) (size : length program ≡ 512) (end : ℕ) (bound : end ≤ 512) (body : List C.BodyCommand)
    (m : Shared) (t : Own) (j : Job) (i : J.Inner) (shared : SharedSized m) (own : OwnSized t) (in_body : j.at < end) (begun : j.begin ≤ end) where
  abbrev z : J.Task
  z = inside program end body j t i

  abbrev x : J.Transaction
  x = transaction_of program end j t

  abbrev Goal : Left Job → J.Turn → Type 0
  Goal u v = Refines program end body u.memory (closed end u.task u.next) v

  -- the job still stands at its command
  here : (f : Job) → f.at ≡ j.at → f.begin ≡ j.begin → InsideShape end f
  here f a b = record { in_body = omega arith; begun = omega arith }

  -- THE FIRST READING
  abbrev FirstRead : Access → Read → Type 0
  FirstRead c o = Goal (on_task m (first_read t j c o)) (T.first_read (memory_of m) z x (view_access c) (read_of o))

  pub first_read_lem : (c : Access) → named_block c < 16 → (o : Read) → FirstRead c o
  unfolding T.first_read first_read
  first_read_lem c h (Reads r) = record { same = refl; shared_sized = shared; own_sized = own; shape = here _ refl refl }
  first_read_lem c h (Gives v) =
      record {
        same = rw (named-block c, blocks-touched t own (named_block c) h v);
        shared_sized = shared;
        own_sized = blocks-sized own _ (record {
          slots = length-replace t.blocks.slots (named_block c) 0 ∙ own.slots;
          remembered = length-replace t.blocks.remembered (named_block c) v ∙ own.remembered;
        });
        shape = here _ refl refl;
      }

  -- THE COPY
  stored_at : (s n : ℕ) → n < 8 → W.stored (memory_of m).stores s n ≡ at 0 m.stores (8 * s + n)
  stored_at s n h = rows_at 8 48 s n m.stores shared.stores h

  stored-now : (s n v : ℕ) → n < 8 → W.set_stored (memory_of m) s n v ≡ memory_of (set_value m (8 * s + n) v)
  stored-now s n v h = rw (rows_written 8 48 s n v m.stores h)

  stored-sized : (s v : ℕ) → SharedSized (set_value m s v)
  stored-sized s v =
      record {
        cells = shared.cells;
        status = shared.status;
        saves = shared.saves;
        stores = length-replace m.stores s v ∙ shared.stores;
      }

  value-at : (b : ℕ) → b < 16 → touched? (T.touched_of x b) ≡ true → T.remembered_of (T.touched_of x b) ≡ remembered_at t b
  value-at b h g =
      let e = at-blocks t.blocks b h in
      ap T.remembered_of e ∙ value-remembered (touched_in t.blocks.touched b) (slot_at t b) (remembered_at t b) (ap touched? (sym e) ∙ g)

  copy-if : (u : Shared) → SharedSized u → (c : Access) (n : ℕ) → n < 8 → (b : Bool)
      → Goal (left (copy_by b j c n) u t) (T.copy_by b (memory_of u) z x (view_access c) n)
  unfolding T.copy_by
  copy-if u s c n h true = record { same = refl; shared_sized = s; own_sized = own; shape = here _ refl refl }
  copy-if u s c n h false =
      let more : next_of n ≡ suc n = omega arith in
      record { same = rw more; shared_sized = s; own_sized = own; shape = here _ refl refl }

  pub copy-tick : (c : Access) → named_block c < 16 → touched? (T.touched_of x (named_block c)) ≡ true → (n : ℕ) → n < 8
      → Goal (on_memory t (after_copy m t j c n)) (T.copy_tick (memory_of m) z x (view_access c) n)
  unfolding T.copy_tick after_copy
  copy-tick c h g n k =
      let more : next_of n ≡ suc n = omega arith in
      let from : ℕ = remembered_at t (named_block c) % 256 in
      rw (
        named-block c,
        value-at (named_block c) h g,
        stored_at from n k,
        more,
        stored-now (at 0 t.copies j.used) n (at 0 m.stores (8 * from + n)) k,
      )
      (copy-if _ (stored-sized _ _) c n k (eqb (suc n) 8))

  -- BY WHAT THE BLOCK IS SO FAR
  store-copied : (b k : ℕ) → slot_at t b ≡ suc k → store_for t b ≡ at 0 t.copies k
  store-copied b k e =
      let less : suc k - 1 ≡ k = omega arith in
      rw (e, copied_slot k, less)

  store-remembered : (b : ℕ) → slot_at t b ≡ 0 → store_for t b ≡ remembered_at t b % 256
  store-remembered b e = rw e

  got_at : {d : J.Deed} (r b o s : ℕ) → o < 8 → store_for t b ≡ s
      → Goal (left (got_by m t j (Get r b o) b o) m t)
      (J.turn (memory_of m) (T.stays z x (J.again (C.GET r b o) (W.stored (memory_of m).stores s o) W.loading)) d)
  unfolding got_by
  got_at r b o s h e = record { same = rw (e, stored_at s o h); shared_sized = shared; own_sized = own; shape = here _ refl refl }

  -- the next command is at work, with those registers
  pub goes_on_lem : {d : J.Deed} (n : Shared) → SharedSized n → (rs : List ℕ) → length rs ≡ 8
      → Goal (left (goes_on j) n (with_registers t rs)) (J.turn (memory_of n) (T.goes_on z rs x) d)
  goes_on_lem n s rs e =
      record {
        same = rw (lines_next program size end bound j (omega arith));
        shared_sized = s;
        own_sized = registers-sized own rs e;
        shape = record { in_body = omega (arith, next-line j (omega arith)); begun = begun };
      }

  put_at : {d : J.Deed} (b o r s : ℕ) → o < 8 → store_for t b ≡ s
      → Goal (on_memory t (after_put m t j b o r))
      (J.turn (W.set_stored (memory_of m) s o (at 0 t.registers r)) (T.goes_on z t.registers x) d)
  unfolding after_put
  put_at b o r s h e = rw (e, stored-now s o (at 0 t.registers r) h) (goes_on_lem _ (stored-sized _ _) t.registers own.registers)

  first-access : (c : Access) → named_block c < 16 → touched_in t.blocks.touched (named_block c) ≡ false
      → Goal (access_tick m t j c) (T.access_tick (memory_of m) z x (view_access c) J.untouched)
  unfolding T.access_tick access_tick
  first-access c h e =
      rw (mod-eq_of_lt h, e)
      (subst (λ (o : W.Read). Goal (on_task m (first_read t j c (after_reading m (bank_of (named_block c)) Load)))
      (T.first_read (memory_of m) z x (view_access c) o))
      (sym (ap (λ (b : ℕ). W.read_tick (memory_of m) (T.bank b) W.loading) (named-block c)
      ∙ read-tick m (bank_of (named_block c)) (omega (arith, shared.cells)) shared.saves Load))
      (first_read_lem c h _))

  access-by : (c : Access) → AccessFits c → (i : Bool) → touched_in t.blocks.touched (named_block c) ≡ i
      → (k : ℕ) → slot_at t (named_block c) ≡ k
      → Goal (access_tick m t j c) (T.access_tick (memory_of m) z x (view_access c) (touched_of i k (remembered_at t (named_block c))))
  unfolding T.access_tick access_tick
  access-by c f false i k e = first-access c f.block i
  access-by (Get r b o) f true i zero e = rw (mod-eq_of_lt f.block, i) (got_at r b o _ f.offset (store-remembered b e))
  access-by (Put b o r) f true i zero e =
      rw (mod-eq_of_lt f.block, i, e)
      (copy-tick (Put b o r) f.block
      (ap touched? (at-blocks t.blocks b f.block) ∙ rw (i, e)) 0
      (omega arith))
  access-by (Get r b o) f true i (suc k) e =
      rw (mod-eq_of_lt f.block, i) (got_at r b o (at 0 t.copies k) f.offset (store-copied b k e))
  access-by (Put b o r) f true i (suc k) e =
      rw (mod-eq_of_lt f.block, i, e, copied_slot k) (put_at b o r (at 0 t.copies k) f.offset (store-copied b k e))

  pub access-tick : (c : Access) → AccessFits c
      → Goal (access_tick m t j c) (T.access_tick (memory_of m) z x (view_access c) (T.touched_of x (T.block_of (view_access c))))
  access-tick c f = rw (named-block c, at-blocks t.blocks (named_block c) f.block) (access-by c f _ refl _ refl)

  -- THE SECOND READING
  abbrev Checks : Access → ℕ → Bool → Type 0
  Checks c v b = Goal (on_task m (if b (checked_by t j c v) (loses_attempt t j))) (T.check_by b (memory_of m) z x (view_access c) v)

  check-by : (c : Access) → AccessFits c → touched? (T.touched_of x (named_block c)) ≡ true → (put? (view_access c) ≡ true → j.used < 4)
      → at 0 t.counts lost < 4294967295 → (v : ℕ) (b : Bool) → Checks c v b
  unfolding T.check_by checked_by
  check-by c f g u few v false = lost_refines program end body m t j z.job shared own begun few
  check-by (Get r b o) f g u few v true =
      goes_on_lem m shared (replace t.registers r v) (length-replace t.registers r v ∙ own.registers)
  check-by (Put b o r) f g u few v true =
      let room = u refl in
      let slot : j.used + 1 ≡ suc j.used = omega arith in
      let e = at-blocks t.blocks b f.block in
      let in-mask = touched-in (touched_in t.blocks.touched b) (slot_at t b) (remembered_at t b) (ap touched? (sym e) ∙ g) in
      let more : next_of j.used ≡ suc j.used = omega arith in
      record {
        same = rw (
          value-at b f.block g,
          more,
          slot,
          blocks-copied t own b f.block j.used in-mask,
        );
        shared_sized = shared;
        own_sized = blocks-sized own _ (record {
          slots = length-replace t.blocks.slots b _ ∙ own.slots;
          remembered = own.remembered;
        });
        shape = here _ refl refl;
      }

  pub again-read : (c : Access) → AccessFits c → touched? (T.touched_of x (named_block c)) ≡ true
      → (put? (view_access c) ≡ true → j.used < 4) → at 0 t.counts lost < 4294967295 → (v : ℕ) (o : Read)
      → Goal (on_task m (again_read t j c v o)) (T.again_read (memory_of m) z x (view_access c) v (read_of o))
  unfolding T.again_read again_read
  again-read c f g u few v (Reads r) = record { same = refl; shared_sized = shared; own_sized = own; shape = here _ refl refl }
  again-read c f g u few v (Gives o) =
      rw (named-block c, value-at (named_block c) f.block g) (check-by c f g u few v (eqb (o / 256) (remembered_at t (named_block c) / 256)))
