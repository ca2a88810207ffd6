-- The mask of unfinished jobs, and the highest task that it has.
use Prim.Native.Nat.{ℕ, zero, suc, ◌+◌, ◌/◌, ◌^◌, ◌<◌, ◌≤◌}
use mathlib.Core.Path.{◌≡◌, refl, sym, ap}
use mathlib.Core.Logic.{◌≢◌}
use mathlib.Core.Bool.{Bool, true, false}
use mathlib.Core.List.{List}
use native.Mathlib.Nat.{pow-suc, div-eq_of_lt-le, div-eq_of_lt}
use native.Mathlib.Omega.{arith}
use lib.ListN.{length, get_or, set}
use lib.Seq.{get_or-set_same, get_or-set_other}
use Rattle.model.proofs.Lists.{same?}
use Rattle.arrivals.specs.Releases.{unfinished?}
use Rattle.machine.specs.Flat.{top_of, no_job}
use Rattle.jobs.specs.declared.Job.{Job}

abbrev pub busy : List Job → ℕ → Bool
busy js p = unfinished? (get_or js p no_job).phase

abbrev pub bit_of : Bool → ℕ → ℕ
bit_of true n = n
bit_of false n = 0

-- the bits of the tasks below k
unfoldable pub mask_of : ℕ → List Job → ℕ
mask_of zero js = 0
mask_of (suc k) js = mask_of k js + bit_of (busy js k) (2 ^ k)

pub mask_below : (k : ℕ) (js : List Job) → mask_of k js < 2 ^ k
unfolding mask_of
mask_below zero js = omega arith
mask_below (suc k) js = go (busy js k) (mask_below k js)
  where
    go : (b : Bool) → mask_of k js < 2 ^ k → mask_of k js + bit_of b (2 ^ k) < 2 ^ suc k
    go true h = omega (arith, pow-suc 2 k)
    go false h = omega (arith, pow-suc 2 k)

-- the highest of the tasks below k with an unfinished job, if there is one
pub record TopTask (k : ℕ) (js : List Job) (p : ℕ) : Type 0 where
  pub below : p < k
  pub unfinished : busy js p ≡ true
  pub above : (q : ℕ) → p < q → q < k → busy js q ≡ false

pub data Top (k : ℕ) (js : List Job) (m : ℕ) : Type 0 where
  none : m ≡ 0 → ((q : ℕ) → q < k → busy js q ≡ false) → Top k js m
  some : 0 < m → TopTask k js (top_of k m) → Top k js m

module _ (js : List Job) where
  top_more : (k : ℕ) → busy js k ≡ false → mask_of k js < 2 ^ k → Top k js (mask_of k js) → Top (suc k) js (mask_of k js + 0)
  unfolding top_of
  top_more k b h t =
      let same : mask_of k js + 0 ≡ mask_of k js = omega arith in
      rw same (go t)
    where
      go : Top k js (mask_of k js) → Top (suc k) js (mask_of k js)
      go (none e f) = none e (λ q l. same? q k (λ s. rw s b) (λ d. f q (omega arith)))
      go (some l f) =
          let z : mask_of k js / 2 ^ k ≡ 0 = div-eq_of_lt h in
          some l (rw z
          (record {
            below = omega (arith, f.below);
            unfinished = f.unfinished;
            above = λ q g i. same? q k (λ s. rw s b) (λ d. f.above q g (omega arith));
          }))

  top_here : (k : ℕ) → busy js k ≡ true → mask_of k js < 2 ^ k → Top (suc k) js (mask_of k js + 2 ^ k)
  unfolding top_of
  top_here k b h =
      let z : (mask_of k js + 2 ^ k) / 2 ^ k ≡ 1 = div-eq_of_lt-le {k = 1} (2 ^ k) (omega arith) (omega arith) in
      some (omega arith) (rw z (record { below = omega arith; unfinished = b; above = λ q g i. absurd (omega arith) }))

  pub top : (k : ℕ) → Top k js (mask_of k js)
  unfolding mask_of
  top zero = none refl (λ q (h : q < 0). absurd (omega arith))
  top (suc k) = go (busy js k) refl (top k)
    where
      go : (b : Bool) → busy js k ≡ b → Top k js (mask_of k js) → Top (suc k) js (mask_of k js + bit_of b (2 ^ k))
      go true b t = top_here k b (mask_below k js)
      go false b t = top_more k b (mask_below k js) t

-- one job changes
module _ (js : List Job) (p : ℕ) (j : Job) (here : p < length js) where
  busy_same : busy (set js p j) p ≡ unfinished? j.phase
  busy_same = ap (λ (x : Job). unfinished? x.phase) (get_or-set_same js p j no_job here)

  busy_other : (q : ℕ) → q ≢ p → busy (set js p j) q ≡ busy js q
  busy_other q d = ap (λ (x : Job). unfinished? x.phase) (get_or-set_other js p q j no_job d)

  mask_above : (k : ℕ) → k ≤ p → mask_of k (set js p j) ≡ mask_of k js
  unfolding mask_of
  mask_above zero h = refl
  mask_above (suc k) h = rw (mask_above k (omega arith), busy_other k (λ e. omega arith))

  pub mask-set : (k : ℕ) → p < k → mask_of k (set js p j) + bit_of (busy js p) (2 ^ p) ≡ mask_of k js + bit_of (unfinished? j.phase) (2 ^ p)
  unfolding mask_of
  mask-set zero h = absurd (omega arith)
  mask-set (suc k) h =
      same? p k
      (λ e. rw (sym e, mask_above p (omega arith), busy_same) (swapped (mask_of p js) _ _))
      (λ d. rw (busy_other k (λ e. d (sym e))) (moved _ _ _ _ (bit_of (busy js k) (2 ^ k)) (mask-set k (omega arith))))
    where
      swapped : (m a b : ℕ) → m + a + b ≡ m + b + a
      swapped m a b = omega arith

      moved : (m n a b c : ℕ) → m + a ≡ n + b → m + c + a ≡ n + c + b
      moved m n a b c e = omega arith
