-- The blocks of a transaction: how many are touched, read and copied, and the entries that COMMIT gathers for them.
use Prim.Native.Nat.{ℕ, zero, suc, ◌+◌, ◌<◌, ◌≤◌}
use mathlib.Core.Path.{◌≡◌, refl, sym, ◌∙◌, ap}
use mathlib.Core.Logic.{◌≢◌}
use mathlib.Core.Bool.{Bool, true, false, ◌||◌, true≢false, false≢true}
use mathlib.Core.List.{List, [], ◌∷◌}
use native.Mathlib.Omega.{arith}
use lib.Dec.{eqb}
use lib.ListN.{length, replicate}
use borrow.Author.Tests.{eqb-true}
use Rattle.model.specs.Lists.{at, replace}
use Rattle.model.specs.Fault.{among, Body}
use Rattle.model.specs.Job.{Touched, untouched, remembered, copied}
use Rattle.model.specs.Exchange.{Entry, entry}
use Rattle.model.specs.Transaction.{bank, bank_value, version_of, nothing?, touched_count, gather}
use Rattle.model.proofs.Lists.{same?, replace-same, replace-other, length-replace, at_default, impossible}
use Rattle.model.proofs.Fit.Elements.{or_cases, or_left, or_right}
use Rattle.model.proofs.Fit.Transaction.{count_by, count, touched?, copied?, BlocksFit}
use Rattle.model.proofs.Fit.Exchange.{entry_of, EntriesFit}

-- A LIST WITHOUT A NUMBER
remove_by : Bool → ℕ → List ℕ → List ℕ
remove_by true y l = l
remove_by false y l = y ∷ l

remove : ℕ → List ℕ → List ℕ
unfolding remove_by
remove x [] = []
remove x (y ∷ l) = remove_by (eqb x y) y (remove x l)

remove_other : (x z : ℕ) (l : List ℕ) → z ≢ x → among z l ≡ true → among z (remove x l) ≡ true
unfolding remove among
remove_other x z [] n m = m
remove_other x z (y ∷ l) n m = go (eqb x y) refl (remove_other x z l n)
  where
    go : (b : Bool) → eqb x y ≡ b → (among z l ≡ true → among z (remove x l) ≡ true) → among z (remove_by b y (remove x l)) ≡ true
    go true e left = or_cases (eqb z y) (among z l) m (λ s. absurd (n (eqb-true z y s ∙ sym (eqb-true x y e)))) left
    go false e left =
        or_cases (eqb z y) (among z l) m
        (λ s. or_left (eqb z y) (among z (remove x l)) s)
        (λ o. or_right (eqb z y) (among z (remove x l)) (left o))

remove_most : (x : ℕ) (l : List ℕ) → length (remove x l) ≤ length l
unfolding remove
remove_most x [] = omega arith
remove_most x (y ∷ l) = go (eqb x y) (remove_most x l)
  where
    go : (b : Bool) → length (remove x l) ≤ length l → length (remove_by b y (remove x l)) ≤ suc (length l)
    go true h = omega arith
    go false h = omega arith

remove_fewer : (x : ℕ) (l : List ℕ) → among x l ≡ true → length (remove x l) < length l
unfolding remove among
remove_fewer x [] m = absurd (false≢true m)
remove_fewer x (y ∷ l) m = go (eqb x y) m (remove_fewer x l)
  where
    go : (b : Bool) → (b || among x l) ≡ true → (among x l ≡ true → length (remove x l) < length l)
        → length (remove_by b y (remove x l)) < suc (length l)
    go true m h = omega (arith, remove_most x l)
    go false m h = omega (arith, h m)

-- COUNTS
module _ (test : Touched → Bool) where
  -- each of them is in the list, so they are no more than the list is long
  count-from : (ts : List Touched) (from : ℕ) (l : List ℕ) → ((n : ℕ) → test (at untouched ts n) ≡ true → among (from + n) l ≡ true)
      → count test ts ≤ length l
  unfolding count at
  count-from [] from l h = omega arith
  count-from (t ∷ ts) from l h = go (test t) refl (count-from ts (suc from))
    where
      next : (n : ℕ) → test (at untouched ts n) ≡ true → among (suc from + n) l ≡ true
      next n e = let s : from + suc n ≡ suc from + n = omega arith in rw s at (h (suc n) e)

      go : (b : Bool) → test t ≡ b
          → ((l : List ℕ) → ((n : ℕ) → test (at untouched ts n) ≡ true → among (suc from + n) l ≡ true) → count test ts ≤ length l)
          → count_by b (count test ts) ≤ length l
      go true e others =
          let z : from + 0 ≡ from = omega arith in
          let fewer = remove_fewer from l (rw z at (h 0 e)) in
          let most = others (remove from l) (λ n q. remove_other from (suc from + n) l (omega arith) (next n q)) in
          omega arith
      go false e others = others l next

  pub count_most : (ts : List Touched) (l : List ℕ) → ((n : ℕ) → test (at untouched ts n) ≡ true → among n l ≡ true) → count test ts ≤ length l
  count_most ts l h = count-from ts 0 l (λ n e. let z : 0 + n ≡ n = omega arith in rw z (h n e))

  -- and fewer where the list has one of which the test does not hold
  pub count_fewer : (ts : List Touched) (l : List ℕ) (x : ℕ) → ((n : ℕ) → test (at untouched ts n) ≡ true → among n l ≡ true) → among x l ≡ true
      → test (at untouched ts x) ≡ false → count test ts < length l
  count_fewer ts l x h m f =
      let fewer = remove_fewer x l m in
      let most =
      count_most ts (remove x l) (λ n e. remove_other x n l (λ q. true≢false (sym e ∙ ap (λ (z : ℕ). test (at untouched ts z)) q ∙ f)) (h n e)) in
      omega arith

  count_by_lem : (b : Bool) (n : ℕ) → count_by b n ≡ n + count_by b 0
  count_by_lem true n = omega arith
  count_by_lem false n = omega arith

  -- one block replaced
  pub count-replace : (ts : List Touched) (n : ℕ) (t : Touched) → n < length ts
      → count test (replace ts n t) + count_by (test (at untouched ts n)) 0 ≡ count test ts + count_by (test t) 0
  unfolding count at replace
  count-replace [] n t h = absurd (omega arith)
  count-replace (s ∷ ts) zero t h = omega (arith, count_by_lem (test t) (count test ts), count_by_lem (test s) (count test ts))
  count-replace (s ∷ ts) (suc n) t h =
      let e = count-replace ts n t (omega arith) in
      omega (arith, count_by_lem (test s) (count test ts), count_by_lem (test s) (count test (replace ts n t)))

-- THE BLOCKS AGAINST THE TEXT
not-touched : {P : Type 0} {t : Touched} → t ≡ untouched → touched? t ≡ true → P
not-touched e h = absurd (false≢true (rw e at h))

not-copied : {P : Type 0} {t : Touched} {v k : ℕ} → t ≡ untouched → t ≡ copied v k → P
not-copied e h = impossible (cc)

copied-touched : (t : Touched) → copied? t ≡ true → touched? t ≡ true
copied-touched untouched e = e
copied-touched (remembered v) e = refl
copied-touched (copied v k) e = e

pub blocks-none : (blocks : ℕ) (b : Body) → BlocksFit blocks b (replicate 16 untouched) 0
unfolding count
blocks-none blocks b =
    record {
      size = refl;
      below = λ n h. not-touched (at_default untouched 16 n) h;
      touched = λ n h. not-touched (at_default untouched 16 n) h;
      put = λ n h. not-touched (at_default untouched 16 n) (copied-touched (at untouched (replicate 16 untouched) n) h);
      slots = refl;
      slot = λ n v k h. not-copied (at_default untouched 16 n) h;
      different = λ n q v w k h g. not-copied (at_default untouched 16 n) h;
    }

-- more blocks named in the text
pub blocks-named : {blocks : ℕ} {b c : Body} {ts : List Touched} {used : ℕ} → ((n : ℕ) → among n b.touched ≡ true → among n c.touched ≡ true)
    → ((n : ℕ) → among n b.puts ≡ true → among n c.puts ≡ true) → BlocksFit blocks b ts used → BlocksFit blocks c ts used
blocks-named f g h = record {
  size = h.size;
  below = h.below;
  touched = λ n e. f n (h.touched n e);
  put = λ n e. g n (h.put n e);
  slots = h.slots;
  slot = h.slot;
  different = h.different;
}

module _ {blocks : ℕ} {b : Body} {ts : List Touched} {used : ℕ} (f : BlocksFit blocks b ts used) (most : blocks ≤ 16) (n : ℕ) (below : n < blocks)
    (named : among n b.touched ≡ true) where
  -- a block by its number: the one replaced, or another
  by_block : {P : Type 0} (t : Touched) (q : ℕ) → (q ≡ n → at untouched (replace ts n t) q ≡ t → P)
      → (at untouched (replace ts n t) q ≡ at untouched ts q → P) → P
  by_block t q here other =
      same? q n
      (λ e. here e (rw e (replace-same untouched ts n t (omega (arith, f.size)))))
      (λ d. other (replace-other untouched ts n q t d))

  count-new : (t : Touched) → count copied? (replace ts n t) + count_by (copied? (at untouched ts n)) 0 ≡ count copied? ts + count_by (copied? t) 0
  count-new t = count-replace copied? ts n t (omega (arith, f.size))

  not-counted : copied? (at untouched ts n) ≡ false → count_by (copied? (at untouched ts n)) 0 ≡ 0
  not-counted e = rw e

  -- its bank word was read
  pub blocks-read : (v : ℕ) → at untouched ts n ≡ untouched → BlocksFit blocks b (replace ts n (remembered v)) used
  blocks-read v e =
      record {
        size = length-replace ts n (remembered v) ∙ f.size;
        below = λ q h. by_block (remembered v) q (λ s r. rw s below) (λ r. f.below q (rw r at h));
        touched = λ q h. by_block (remembered v) q (λ s r. rw s named) (λ r. f.touched q (rw r at h));
        put = λ q h. by_block (remembered v) q (λ s r. absurd (false≢true (rw r at h))) (λ r. f.put q (rw r at h));
        slots = omega (arith, f.slots, count-new (remembered v), not-counted (rw e));
        slot = λ q w k h. by_block (remembered v) q (λ s r. impossible (cc)) (λ r. f.slot q w k (rw r at h));
        different = λ p q u w k h g.
            by_block (remembered v) p
            (λ s r. impossible (cc))
            (λ r. by_block (remembered v) q
            (λ s o. impossible (cc))
            (λ o. f.different p q u w k (rw r at h) (rw o at g)));
      }

  -- it was copied into the next copy slot
  pub blocks-copied : (v : ℕ) → at untouched ts n ≡ remembered v → among n b.puts ≡ true
      → BlocksFit blocks b (replace ts n (copied v used)) (suc used)
  blocks-copied v e put =
      record {
        size = length-replace ts n (copied v used) ∙ f.size;
        below = λ q h. by_block (copied v used) q (λ s r. rw s below) (λ r. f.below q (rw r at h));
        touched = λ q h. by_block (copied v used) q (λ s r. rw s named) (λ r. f.touched q (rw r at h));
        put = λ q h. by_block (copied v used) q (λ s r. rw s put) (λ r. f.put q (rw r at h));
        slots = omega (arith, f.slots, count-new (copied v used), not-counted (rw e));
        slot = λ q w k h.
            by_block (copied v used) q
            (λ s r. let z : k ≡ used = cc in omega arith)
            (λ r. let l = f.slot q w k (rw r at h) in omega arith);
        different = λ p q u w k h g.
            by_block (copied v used) p
            (λ s r. by_block (copied v used) q
            (λ t o. s ∙ sym t)
            (λ o. let z : k ≡ used = cc in let l = f.slot q w k (rw o at g) in absurd (omega arith)))
            (λ r. by_block (copied v used) q
            (λ t o. let z : k ≡ used = cc in let l = f.slot p u k (rw r at h) in absurd (omega arith))
            (λ o. f.different p q u w k (rw r at h) (rw o at g)));
      }

touched-counted : (ts : List Touched) → touched_count ts ≡ count touched? ts
unfolding touched_count count
touched-counted [] = refl
touched-counted (untouched ∷ ts) = touched-counted ts
touched-counted (remembered v ∷ ts) = ap suc (touched-counted ts)
touched-counted (copied v k ∷ ts) = ap suc (touched-counted ts)

-- no more are touched than were named
pub touched-most : (ts : List Touched) (l : List ℕ) → ((n : ℕ) → touched? (at untouched ts n) ≡ true → among n l ≡ true)
    → touched_count ts ≤ length l
touched-most ts l h = rw (touched-counted ts) (count_most touched? ts l h)

-- THE ENTRIES THAT COMMIT GATHERS: one for each touched block, by rising number, for its bank word
-- as many entries as touched blocks
pub gather-size : (copies : List ℕ) (b : ℕ) (ts : List Touched) → length (gather copies b ts) ≡ touched_count ts
unfolding gather touched_count
gather-size copies b [] = refl
gather-size copies b (untouched ∷ ts) = gather-size copies (suc b) ts
gather-size copies b (remembered v ∷ ts) = ap suc (gather-size copies (suc b) ts)
gather-size copies b (copied v k ∷ ts) = ap suc (gather-size copies (suc b) ts)

-- something is gathered where something is touched
pub gather-some : (copies : List ℕ) (b : ℕ) (ts : List Touched) → nothing? ts ≡ false → 1 ≤ length (gather copies b ts)
unfolding gather nothing?
gather-some copies b [] e = absurd (true≢false e)
gather-some copies b (untouched ∷ ts) e = gather-some copies (suc b) ts e
gather-some copies b (remembered v ∷ ts) e = omega arith
gather-some copies b (copied v k ∷ ts) e = omega arith

-- different cells from `low` on and below `high`
record Cells (low high : ℕ) (es : List Entry) : Type 0 where
  from : (i : ℕ) → i < length es → low ≤ (entry_of es i).cell
  below : (i : ℕ) → i < length es → (entry_of es i).cell < high
  different : (i j : ℕ) → i < length es → j < length es → (entry_of es i).cell ≡ (entry_of es j).cell → i ≡ j

cells_skip : {low high : ℕ} {es : List Entry} → Cells (suc low) high es → Cells low high es
cells_skip c = record { from = λ i h. let l = c.from i h in omega arith; below = c.below; different = c.different }

cells-join : {low high : ℕ} {es : List Entry} (e : Entry) → e.cell ≡ low → low < high → Cells (suc low) high es → Cells low high (e ∷ es)
unfolding at
cells-join {low} {high} {es} e q most c = record { from = from; below = below; different = different }
  where
    from : (i : ℕ) → i < suc (length es) → low ≤ (entry_of (e ∷ es) i).cell
    from zero h = omega arith
    from (suc i) h = let l = c.from i (omega arith) in omega arith

    below : (i : ℕ) → i < suc (length es) → (entry_of (e ∷ es) i).cell < high
    below zero h = omega arith
    below (suc i) h = c.below i (omega arith)

    different : (i j : ℕ) → i < suc (length es) → j < suc (length es) → (entry_of (e ∷ es) i).cell ≡ (entry_of (e ∷ es) j).cell → i ≡ j
    different zero zero hi hj s = refl
    different zero (suc j) hi hj s = let l = c.from j (omega arith) in absurd (omega arith)
    different (suc i) zero hi hj s = let l = c.from i (omega arith) in absurd (omega arith)
    different (suc i) (suc j) hi hj s = ap suc (c.different i j (omega arith) (omega arith) s)

gather-cells : (copies : List ℕ) (blocks b : ℕ) (ts : List Touched) → ((n : ℕ) → touched? (at untouched ts n) ≡ true → b + n < blocks)
    → Cells (32 + b) (32 + blocks) (gather copies b ts)
unfolding gather at
gather-cells copies blocks b [] h = record {
  from = λ i (l : i < 0). absurd (omega arith);
  below = λ i (l : i < 0). absurd (omega arith);
  different = λ i j (l : i < 0) k e. absurd (omega arith);
}
gather-cells copies blocks b (t ∷ ts) h =
    let same : suc (32 + b) ≡ 32 + suc b = omega arith in
    go t (h 0) (rw same (gather-cells copies blocks (suc b) ts (λ n e. let l = h (suc n) e in omega arith)))
  where
    go : (t : Touched) → (touched? t ≡ true → b + 0 < blocks) → Cells (suc (32 + b)) (32 + blocks) (gather copies (suc b) ts)
        → Cells (32 + b) (32 + blocks) (gather copies b (t ∷ ts))
    go untouched f c = cells_skip c
    go (remembered v) f c = let l = f refl in cells-join (entry (bank b) v v) refl (omega arith) c
    go (copied v k) f c = let l = f refl in cells-join (entry (bank b) v (bank_value (suc (version_of v)) (at 0 copies k))) refl (omega arith) c

pub gather-entries : {blocks : ℕ} {b : Body} {ts : List Touched} {used : ℕ} (copies : List ℕ) → BlocksFit blocks b ts used → touched_count ts ≤ 8
    → EntriesFit 32 (32 + blocks) (gather copies 0 ts)
gather-entries {blocks} {b} {ts} copies f most =
    let c = gather-cells copies blocks 0 ts (λ n e. let l = f.below n e in omega arith) in
    record { most = rw (gather-size copies 0 ts) most; from = λ i h. let l = c.from i h in omega arith; below = c.below; different = c.different }
