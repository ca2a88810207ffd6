-- Owners: each block and each copy slot has a store of its own. The yes of an exchange renames the owners; no other statement moves one.
use Prim.Native.Nat.{ℕ, suc, ◌<◌}
use mathlib.Core.Bool.{Bool, true, false}
use mathlib.Core.Path.{◌≡◌, refl, sym, ◌∙◌, ap}
use mathlib.Core.Logic.{◌≢◌}
use mathlib.Core.List.{List}
use native.Mathlib.Omega.{arith}
use lib.Dec.{eqb}
use lib.ListN.{length}
use borrow.Author.Tests.{eqb-true, eqb-false, eq-eqb}
use Rattle.model.specs.Lists.{at}
use Rattle.model.specs.Word.{Memory}
use Rattle.model.specs.Job.{Touched, untouched, remembered, copied}
use Rattle.model.specs.Transaction.{bank_value, version_of, store_of, taken_back}
use Rattle.model.proofs.Lists.{test?, impossible}
use Rattle.model.proofs.Transactions.Facts.{bank_in, Owner, block, slot, OwnerDeclared, place, Owners}
use Rattle.model.proofs.Transactions.Versions.{store-bank}
use Rattle.model.proofs.Transactions.Frame.{Blocks}
use Rattle.model.proofs.Transactions.Steps.{SlotsApart}
use Rattle.model.proofs.Transactions.Gather.{Holder, has, nobody, holder, slot_stays, slot_takes}
use Rattle.model.proofs.Transactions.Commit.{Committed}

module _ {blocks tasks : ℕ} {banks banks' : ℕ → ℕ} {slots slots' : ℕ → List ℕ} where
  -- what an owner has now, another owner had before, and no two the same one
  pub renamed : (f : Owner → Owner) → ((o : Owner) → OwnerDeclared blocks tasks o → OwnerDeclared blocks tasks (f o))
      → ((o : Owner) → OwnerDeclared blocks tasks o → place banks' slots' o ≡ place banks slots (f o))
      → ((o : Owner) → f (f o) ≡ o) → Owners blocks tasks banks slots → Owners blocks tasks banks' slots'
  renamed f d p twice D =
      record {
        different = λ o u io iu e. sym (twice o) ∙ ap f (D.different (f o) (f u) (d o io) (d u iu) (sym (p o io) ∙ e ∙ p u iu)) ∙ twice u;
        below = λ o io. rw (p o io) (D.below (f o) (d o io));
      }

  pub owners_stay : ((b : ℕ) → banks' b ≡ banks b) → ((p : ℕ) → slots' p ≡ slots p) → Owners blocks tasks banks slots
      → Owners blocks tasks banks' slots'
  owners_stay eb es D = renamed (λ o. o) (λ o i. i) same (λ o. refl) D
    where
      same : (o : Owner) → OwnerDeclared blocks tasks o → place banks' slots' o ≡ place banks slots o
      same (block b) i = rw (eb b)
      same (slot p k) i = rw (es p)

-- the owners as task p needs them
pub slots_apart : {blocks tasks : ℕ} {m : Memory} {slots : ℕ → List ℕ} (p : ℕ) (copies : List ℕ) → p < tasks → slots p ≡ copies
    → Owners blocks tasks (bank_in m) slots → SlotsApart blocks m copies
slots_apart p copies lt e D =
    record {
      from_blocks = λ b k bl kl q. impossible (cc (D.different (block b) (slot p k) bl (lt, kl) (rw e q)));
      different = λ k j kl jl q. let z : slot p k ≡ slot p j = D.different (slot p k) (slot p j) (lt, kl) (lt, jl) (rw e q) in cc;
      below = λ k kl. rw e at (D.below (slot p k) (lt, kl));
      block_below = λ b bl. D.below (block b) bl;
    }

-- THE RENAMING at the yes of task p: a copied block and its slot change places
abbrev block_owner : ℕ → ℕ → Touched → Owner
block_owner p b untouched = block b
block_owner p b (remembered v) = block b
block_owner p b (copied v k) = slot p k

abbrev slot_owner : {ts : List Touched} {k : ℕ} → ℕ → Holder ts k → Owner
slot_owner p (has b v e) = block b
slot_owner {k = k} p (nobody n) = slot p k

abbrev slot_owner_by : {ts : List Touched} {k : ℕ} → Bool → ℕ → Holder ts k → Owner
slot_owner_by true q h = slot_owner q h
slot_owner_by {k = k} false q h = slot q k

abbrev exchanged : ℕ → List Touched → Owner → Owner
exchanged p ts (block b) = block_owner p b (at untouched ts b)
exchanged p ts (slot q k) = slot_owner_by (eqb q p) q (holder ts k)

module _ {blocks tasks : ℕ} {m n : Memory} {slots slots' : ℕ → List ℕ} (p : ℕ) (declared : p < tasks) {copies : List ℕ} {ts : List Touched} {used : ℕ}
    (B : Blocks blocks used ts)
    (C : Committed m n copies ts) (size : length copies ≡ 4) (before : slots p ≡ copies) (after : slots' p ≡ taken_back copies ts)
    (others : (q : ℕ) → q ≢ p → slots' q ≡ slots q)
    (D : Owners blocks tasks (bank_in m) slots) where
  at_most : (b v k : ℕ) → at untouched ts b ≡ copied v k → k < 4
  at_most b v k e = omega (arith, B.slot b v k e, B.most)

  stays-declared : (o : Owner) → OwnerDeclared blocks tasks o → OwnerDeclared blocks tasks (exchanged p ts o)
  stays-declared (block b) i = go (at untouched ts b) refl
    where
      go : (t : Touched) → at untouched ts b ≡ t → OwnerDeclared blocks tasks (block_owner p b t)
      go untouched e = i
      go (remembered v) e = i
      go (copied v k) e = (declared, at_most b v k e)
  stays-declared (slot q k) i = go (eqb q p) (holder ts k)
    where
      go : (z : Bool) (h : Holder ts k) → OwnerDeclared blocks tasks (slot_owner_by z q h)
      go true (has b v e) = B.below b (rw e)
      go true (nobody f) = i
      go false h = i

  twice : (o : Owner) → exchanged p ts (exchanged p ts o) ≡ o
  twice (block b) = go (at untouched ts b) refl
    where
      back : (v k : ℕ) → at untouched ts b ≡ copied v k → (h : Holder ts k) → slot_owner p h ≡ block b
      back v k e (has c w f) = ap block (B.different c b w v k f e)
      back v k e (nobody f) = absurd (f b v e)

      go : (t : Touched) → at untouched ts b ≡ t → exchanged p ts (block_owner p b t) ≡ block b
      go untouched e = rw e
      go (remembered v) e = rw e
      go (copied v k) e = rw (eq-eqb p p refl) (back v k e (holder ts k))
  twice (slot q k) = test? (eqb q p) (λ e. rw e (go (eqb-true q p e) (holder ts k) refl)) (λ e. rw (e, e))
    where
      go : q ≡ p → (h : Holder ts k) → holder ts k ≡ h → exchanged p ts (slot_owner q h) ≡ slot q k
      go e (has b v f) eh = rw (f, e)
      go e (nobody f) eh = rw (e, eq-eqb p p refl, eh)

  same_place : (o : Owner) → OwnerDeclared blocks tasks o → place (bank_in n) slots' o ≡ place (bank_in m) slots (exchanged p ts o)
  same_place (block b) i = go (at untouched ts b) refl
    where
      go : (t : Touched) → at untouched ts b ≡ t → store_of (bank_in n b) ≡ place (bank_in m) slots (block_owner p b t)
      go untouched e = rw (C.others b (rw e))
      go (remembered v) e =
          let was : bank_in m b ≡ v = rw e at (C.was b (rw e)) in
          let now : bank_in n b ≡ v = rw e at (C.now b (rw e)) in
          rw (was, now)
      go (copied v k) e =
          let now : bank_in n b ≡ bank_value (suc (version_of v)) (at 0 copies k) = rw e at (C.now b (rw e)) in
          let small : at 0 copies k < 48 = rw before at (D.below (slot p k) (declared, at_most b v k e)) in
          rw (now, store-bank (suc (version_of v)) (at 0 copies k) (omega arith), before)
  same_place (slot q k) i = test? (eqb q p)
      (λ e. rw e (mine (eqb-true q p e) (holder ts k)))
      (λ e. rw (e, others q (eqb-false q p e)))
    where
      mine : q ≡ p → (h : Holder ts k) → at 0 (slots' q) k ≡ place (bank_in m) slots (slot_owner q h)
      mine e (has b v f) =
          let was : bank_in m b ≡ v = rw f at (C.was b (rw f)) in
          rw (e, after, was) (slot_takes copies ts b v k f (λ c w g. B.different c b w v k g f) (rw size (at_most b v k f)))
      mine e (nobody f) = rw (e, after, before) (slot_stays copies ts k f)

  pub owners_exchanged : Owners blocks tasks (bank_in n) slots'
  owners_exchanged = renamed (λ o. exchanged p ts o) stays-declared same_place twice D
