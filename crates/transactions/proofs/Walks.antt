-- The walk over the touched blocks is seen in the model's blocks: how many are touched, whether one is spent, the old stores taken back.
use Rattle.std.proofs.Common.{◌≡◌, ℕ, zero, suc, ◌-◌, ◌%◌, ◌<◌, ◌≤◌, Bool, true, false, ◌||◌, eqb, List, [], ◌∷◌, length, refl, ap, ◌∙◌, arith, ne_eqb}
use Rattle.model.specs.Lists.{at, replace}
use Rattle.model.specs.Job.{Touched}
use Rattle.model.specs.Transaction.{nothing?, touched_count, spent?, taken_back}
use Rattle.state.specs.State.{Blocks}
use Rattle.state.specs.Held.{touched_in, touched_of, blocks_from, blocks_of}
use Rattle.exchanges.specs.Places.{if}
use Rattle.transactions.specs.Blocks.{touched_from, is_spent, taken_one}
use Rattle.transactions.proofs.Mask.{lowest-first}

pub copied_slot : (k : ℕ) → eqb (suc k) 0 ≡ false
copied_slot k = ne_eqb (suc k) 0 (λ z. omega arith)

-- no more than there are
pub touched_few : (n m b : ℕ) → length (touched_from n m b) ≤ n
unfolding touched_from
touched_few zero m b = omega arith
touched_few (suc n) m b = go (touched_in m b) (touched_few n m (suc b))
  where
    go : (z : Bool) → length (touched_from n m (suc b)) ≤ n
        → length (if z (b ∷ touched_from n m (suc b)) (touched_from n m (suc b))) ≤ suc n
    go true h = omega arith
    go false h = omega arith

module _ (x : Blocks) where
  -- how many
  count-one : (z : Bool) (k v b : ℕ) (l : List Touched) (r : List ℕ) → touched_count l ≡ length r
      → touched_count (touched_of z k v ∷ l) ≡ length (if z (b ∷ r) r)
  unfolding touched_count
  count-one false k v b l r e = e
  count-one true zero v b l r e = ap suc e
  count-one true (suc k) v b l r e = ap suc e

  pub counted : (n b : ℕ) → touched_count (blocks_from n x b) ≡ length (touched_from n x.touched b)
  unfolding blocks_from touched_count touched_from
  counted zero b = refl
  counted (suc n) b = count-one (touched_in x.touched b) (at 0 x.slots b) (at 0 x.remembered b) b
      (blocks_from n x (suc b)) (touched_from n x.touched (suc b)) (counted n (suc b))

  -- whether none
  abbrev none? : List ℕ → Bool
  none? [] = true
  none? (b ∷ r) = false

  nothing-one : (z : Bool) (k v b : ℕ) (l : List Touched) (r : List ℕ) → nothing? l ≡ none? r
      → nothing? (touched_of z k v ∷ l) ≡ none? (if z (b ∷ r) r)
  unfolding nothing?
  nothing-one false k v b l r e = e
  nothing-one true zero v b l r e = refl
  nothing-one true (suc k) v b l r e = refl

  nothing-over : (n b : ℕ) → nothing? (blocks_from n x b) ≡ none? (touched_from n x.touched b)
  unfolding blocks_from nothing? touched_from
  nothing-over zero b = refl
  nothing-over (suc n) b =
      nothing-one (touched_in x.touched b) (at 0 x.slots b) (at 0 x.remembered b) b
      (blocks_from n x (suc b)) (touched_from n x.touched (suc b)) (nothing-over n (suc b))

  pub nothing-touched : x.touched ≡ 0 → nothing? (blocks_of x) ≡ true
  unfolding touched_from
  nothing-touched e = nothing-over 16 0 ∙ ap (λ (m : ℕ). none? (touched_from 16 m 0)) e

  pub something_touched : 0 < x.touched → x.touched < 65536 → nothing? (blocks_of x) ≡ false
  something_touched p l = nothing-over 16 0 ∙ ap none? (lowest-first x.touched p l)

  -- whether one is spent
  unfoldable pub spent_over : List ℕ → Bool
  spent_over [] = false
  spent_over (b ∷ r) = is_spent (at 0 x.slots b) (at 0 x.remembered b) || spent_over r

  spent-one : (z : Bool) (b k : ℕ) → at 0 x.slots b ≡ k → (l : List Touched) (r : List ℕ) → spent? l ≡ spent_over r
      → spent? (touched_of z k (at 0 x.remembered b) ∷ l) ≡ spent_over (if z (b ∷ r) r)
  unfolding spent? spent_over
  spent-one false b k s l r e = e
  spent-one true b zero s l r e = e ∙ rw s
  spent-one true b (suc k) s l r e = rw (e, s, copied_slot k)

  pub spent-over : (n b : ℕ) → spent? (blocks_from n x b) ≡ spent_over (touched_from n x.touched b)
  unfolding blocks_from spent? spent_over touched_from
  spent-over zero b = refl
  spent-over (suc n) b = spent-one (touched_in x.touched b) b (at 0 x.slots b) refl
      (blocks_from n x (suc b)) (touched_from n x.touched (suc b)) (spent-over n (suc b))

  -- the old stores taken back
  unfoldable pub taken_over : List ℕ → List ℕ → List ℕ
  taken_over [] copies = copies
  taken_over (b ∷ r) copies = taken_over r (taken_one x b copies)

  taken-one : (z : Bool) (b k : ℕ) → at 0 x.slots b ≡ k → (l : List Touched) (r copies : List ℕ)
      → ((c : List ℕ) → taken_back c l ≡ taken_over r c)
      → taken_back copies (touched_of z k (at 0 x.remembered b) ∷ l) ≡ taken_over (if z (b ∷ r) r) copies
  unfolding taken_back taken_over taken_one
  taken-one false b k s l r copies e = e copies
  taken-one true b zero s l r copies e =
      let same : copies ≡ taken_one x b copies = rw s in
      e copies ∙ ap (taken_over r) same
  taken-one true b (suc k) s l r copies e =
      let less : suc k - 1 ≡ k = omega arith in
      let same : replace copies k (at 0 x.remembered b % 256) ≡ taken_one x b copies = rw (s, copied_slot k, less) in
      e (replace copies k (at 0 x.remembered b % 256)) ∙ ap (taken_over r) same

  pub taken-over : (n b : ℕ) (copies : List ℕ) → taken_back copies (blocks_from n x b) ≡ taken_over (touched_from n x.touched b) copies
  unfolding blocks_from taken_back taken_over touched_from
  taken-over zero b copies = refl
  taken-over (suc n) b copies = taken-one (touched_in x.touched b) b (at 0 x.slots b) refl
      (blocks_from n x (suc b)) (touched_from n x.touched (suc b)) copies (taken-over n (suc b))
