-- The exchange that COMMIT gathers names every touched bank word and no other cell; and what the old stores do to the copy slots.
use Prim.Native.Nat.{ℕ, zero, suc, ◌+◌, ◌<◌}
use mathlib.Core.Bool.{true, true≢false}
use mathlib.Core.Path.{◌≡◌, refl, sym, ◌∙◌, ap}
use mathlib.Core.Logic.{◌≢◌}
use mathlib.Core.List.{List, [], ◌∷◌}
use native.Mathlib.Omega.{arith}
use lib.ListN.{length}
use Rattle.model.specs.Lists.{at, replace}
use Rattle.model.specs.Exchange.{Entry, entry}
use Rattle.model.specs.Job.{Touched, untouched, remembered, copied}
use Rattle.model.specs.Transaction.{bank, bank_value, version_of, store_of, remembered_of, nothing?, gather, taken_back}
use Rattle.model.proofs.Lists.{replace-same, replace-other, length-replace, same?, impossible}
use Rattle.model.proofs.Fit.Exchange.{entry_of}
use Rattle.model.proofs.Fit.Transaction.{touched?}

-- what the exchange makes of a touched bank word
abbrev pub new_value : List ℕ → Touched → ℕ
new_value copies untouched = 0
new_value copies (remembered v) = v
new_value copies (copied v k) = bank_value (suc (version_of v)) (at 0 copies k)

-- the pair of block b
pub record PairOf (copies : List ℕ) (es : List Entry) (b : ℕ) (t : Touched) : Type 0 where
  pub number : ℕ
  pub below : number < length es
  pub is : entry_of es number ≡ entry (bank b) (remembered_of t) (new_value copies t)

-- a cell is the bank word of a touched block, the blocks being numbered from `first` on
pub record Bank (first : ℕ) (ts : List Touched) (c : ℕ) : Type 0 where
  pub number : ℕ
  pub touched : touched? (at untouched ts number) ≡ true
  pub cell : c ≡ bank (first + number)

one_later : {copies : List ℕ} {es : List Entry} {b : ℕ} {t : Touched} (e : Entry) → PairOf copies es b t → PairOf copies (e ∷ es) b t
unfolding at
one_later e P = record { number = suc P.number; below = omega (arith, P.below); is = P.is }

pub gathered : (copies : List ℕ) (first : ℕ) (ts : List Touched) (n b : ℕ) → b ≡ first + n → touched? (at untouched ts n) ≡ true
    → PairOf copies (gather copies first ts) b (at untouched ts n)
unfolding at gather
gathered copies first [] n b q t = absurd (true≢false (sym t))
gathered copies first (untouched ∷ l) zero b q t = absurd (true≢false (sym t))
gathered copies first (remembered v ∷ l) zero b q t = let e : b ≡ first = omega arith in record { number = 0; below = omega arith; is = rw e }
gathered copies first (copied v k ∷ l) zero b q t = let e : b ≡ first = omega arith in record { number = 0; below = omega arith; is = rw e }
gathered copies first (untouched ∷ l) (suc n) b q t = gathered copies (suc first) l n b (omega arith) t
gathered copies first (remembered v ∷ l) (suc n) b q t = one_later _ (gathered copies (suc first) l n b (omega arith) t)
gathered copies first (copied v k ∷ l) (suc n) b q t = one_later _ (gathered copies (suc first) l n b (omega arith) t)

block_later : {first : ℕ} {ts : List Touched} {c : ℕ} (t : Touched) → Bank (suc first) ts c → Bank first (t ∷ ts) c
unfolding at
block_later t B = record { number = suc B.number; touched = B.touched; cell = B.cell ∙ omega arith }

pub only-touched : (copies : List ℕ) (first : ℕ) (ts : List Touched) (i : ℕ) → i < length (gather copies first ts)
    → Bank first ts (entry_of (gather copies first ts) i).cell
unfolding at gather
only-touched copies first [] i lt = absurd (omega arith)
only-touched copies first (untouched ∷ l) i lt = block_later untouched (only-touched copies (suc first) l i lt)
only-touched copies first (remembered v ∷ l) zero lt = record { number = 0; touched = refl; cell = omega arith }
only-touched copies first (copied v k ∷ l) zero lt = record { number = 0; touched = refl; cell = omega arith }
only-touched copies first (remembered v ∷ l) (suc i) lt = block_later (remembered v) (only-touched copies (suc first) l i (omega arith))
only-touched copies first (copied v k ∷ l) (suc i) lt = block_later (copied v k) (only-touched copies (suc first) l i (omega arith))

-- nothing touched
pub nothing-touched : (ts : List Touched) → nothing? ts ≡ true → (b : ℕ) → at untouched ts b ≡ untouched
unfolding at nothing?
nothing-touched [] e b = refl
nothing-touched (untouched ∷ l) e zero = refl
nothing-touched (untouched ∷ l) e (suc b) = nothing-touched l e b
nothing-touched (remembered v ∷ l) e b = absurd (true≢false (sym e))
nothing-touched (copied v k ∷ l) e b = absurd (true≢false (sym e))

-- THE COPY SLOTS AFTERWARDS
-- copy slot k is a block's, or no block's
pub data Holder (ts : List Touched) (k : ℕ) : Type 0 where
  has : (b v : ℕ) → at untouched ts b ≡ copied v k → Holder ts k
  nobody : ((b v : ℕ) → at untouched ts b ≢ copied v k) → Holder ts k

holder_later : {ts : List Touched} {k : ℕ} (t : Touched) → ((v : ℕ) → t ≢ copied v k) → Holder ts k → Holder (t ∷ ts) k
unfolding at
holder_later t n (has b v e) = has (suc b) v e
holder_later {ts} {k} t n (nobody f) = nobody go
  where
    go : (b v : ℕ) → at untouched (t ∷ ts) b ≢ copied v k
    go zero v e = n v e
    go (suc b) v e = f b v e

pub holder : (ts : List Touched) (k : ℕ) → Holder ts k
unfolding at
holder [] k = nobody (λ b v (e : untouched ≡ copied v k). impossible (cc))
holder (untouched ∷ l) k = holder_later untouched (λ v e. impossible (cc)) (holder l k)
holder (remembered w ∷ l) k = holder_later (remembered w) (λ v e. impossible (cc)) (holder l k)
holder (copied w j ∷ l) k = same? j k
    (λ q. has 0 w (ap (λ (i : ℕ). copied w i) q))
    (λ ne. holder_later (copied w j) (λ v e. let z : j ≡ k = cc in ne z) (holder l k))

-- a slot that no block has stays
pub slot_stays : (copies : List ℕ) (ts : List Touched) (k : ℕ) → ((b v : ℕ) → at untouched ts b ≢ copied v k)
    → at 0 (taken_back copies ts) k ≡ at 0 copies k
unfolding at taken_back
slot_stays copies [] k n = refl
slot_stays copies (untouched ∷ l) k n = slot_stays copies l k (λ b v. n (suc b) v)
slot_stays copies (remembered w ∷ l) k n = slot_stays copies l k (λ b v. n (suc b) v)
slot_stays copies (copied w j ∷ l) k n =
    slot_stays (replace copies j (store_of w)) l k (λ b v. n (suc b) v)
    ∙ replace-other 0 copies j k (store_of w) (λ e. n 0 w (ap (λ (i : ℕ). copied w i) (sym e)))

-- a block's slot takes the block's old store
pub slot_takes : (copies : List ℕ) (ts : List Touched) (b v k : ℕ) → at untouched ts b ≡ copied v k
    → ((c w : ℕ) → at untouched ts c ≡ copied w k → c ≡ b) → k < length copies → at 0 (taken_back copies ts) k ≡ store_of v
unfolding at taken_back
slot_takes copies [] b v k e u lt = impossible (cc)
slot_takes copies (untouched ∷ l) zero v k e u lt = impossible (cc)
slot_takes copies (remembered w ∷ l) zero v k e u lt = impossible (cc)
slot_takes copies (copied w j ∷ l) zero v k e u lt =
    let ej : j ≡ k = cc in
    let ew : w ≡ v = cc in
    slot_stays (replace copies j (store_of w)) l k (λ c z y. omega (arith, u (suc c) z y)) ∙ rw (ej, ew) (replace-same 0 copies k (store_of v) lt)
slot_takes copies (untouched ∷ l) (suc b) v k e u lt = slot_takes copies l b v k e (λ c w y. omega (arith, u (suc c) w y)) lt
slot_takes copies (remembered z ∷ l) (suc b) v k e u lt = slot_takes copies l b v k e (λ c w y. omega (arith, u (suc c) w y)) lt
slot_takes copies (copied z j ∷ l) (suc b) v k e u lt =
    slot_takes (replace copies j (store_of z)) l b v k e (λ c w y. omega (arith, u (suc c) w y)) (rw length-replace lt)
