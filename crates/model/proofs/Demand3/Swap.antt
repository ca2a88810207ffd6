-- The Commit of a SWAP is the plain machine's SWAP: every named word was old, every named word becomes new, and nothing else changes.
use Prim.Native.Nat.{ℕ, zero, suc, ◌<◌}
use mathlib.Core.Bool.{true}
use mathlib.Core.Path.{◌≡◌, refl, sym, ◌∙◌, ap}
use mathlib.Core.Logic.{◌≢◌, ◌⊎◌, inl, inr}
use mathlib.Core.List.{List, [], ◌∷◌, map}
use native.Mathlib.Omega.{arith}
use lib.ListN.{length}
use borrow.Author.Tests.{eq-eqb}
use Rattle.model.specs.Lists.{at, replace}
use Rattle.model.specs.Sheet.{Sheet}
use Rattle.model.specs.Word.{Memory, current_of}
use Rattle.model.specs.Exchange.{Entry}
use Rattle.model.specs.Plain.{Contents, result, all_old, all_new, plainly, plain_swap_by}
use Rattle.model.specs.Claim.{contents_of}
use Rattle.model.specs.Arguments.{Pair, swap_of}
use Rattle.model.specs.Machine.{pair_of}
use Rattle.model.proofs.Lists.{same?, replace-same, replace-other, length-replace}
use Rattle.model.proofs.Fit.Exchange.{entry_of}
use Rattle.model.proofs.Exchanges.Act.{Distinct}
use Rattle.model.proofs.Transactions.Given.{Swapped}
use Rattle.model.proofs.Transactions.Contents.{ext_at, length-each, at_each}

entry_first : (a : Entry) (es : List Entry) → entry_of (a ∷ es) 0 ≡ a
unfolding at
entry_first a es = refl

entry_next : (a : Entry) (es : List Entry) (e : ℕ) → entry_of (a ∷ es) (suc e) ≡ entry_of es e
unfolding at
entry_next a es e = refl

-- THE PLAIN SWAP on a list of words
all_old_lem : (words : List ℕ) (es : List Entry) → ((e : ℕ) → e < length es → at 0 words (entry_of es e).cell ≡ (entry_of es e).old)
    → all_old words (map pair_of es) ≡ true
unfolding all_old
all_old_lem words [] h = refl
all_old_lem words (a ∷ es) h =
    let first : at 0 words a.cell ≡ a.old = rw (entry_first a es) at (h 0 (omega arith)) in
    rw (eq-eqb (at 0 words a.cell) a.old first, all_old_lem words es (λ e l. rw (entry_next a es e) at (h (suc e) (omega arith)))) refl

new-size : (words : List ℕ) (es : List Entry) → length (all_new words (map pair_of es)) ≡ length words
unfolding all_new
new-size words [] = refl
new-size words (a ∷ es) = new-size (replace words a.cell a.new) es ∙ length-replace words a.cell a.new

new-other : (words : List ℕ) (es : List Entry) (c : ℕ) → ((e : ℕ) → e < length es → (entry_of es e).cell ≢ c)
    → at 0 (all_new words (map pair_of es)) c ≡ at 0 words c
unfolding all_new
new-other words [] c h = refl
new-other words (a ∷ es) c h =
    let first : a.cell ≢ c = rw (entry_first a es) at (h 0 (omega arith)) in
    new-other (replace words a.cell a.new) es c (λ e l. rw (entry_next a es e) at (h (suc e) (omega arith)))
    ∙ replace-other 0 words a.cell c a.new (λ e. first (sym e))

distinct_behind : (a : Entry) (es : List Entry) → Distinct (a ∷ es) → Distinct es
distinct_behind a es d e f l k q = let z = d (suc e) (suc f) (omega arith) (omega arith) (rw (entry_next a es e, entry_next a es f) q) in omega arith

new-at : (words : List ℕ) (es : List Entry) → Distinct es → (e : ℕ) → e < length es → (entry_of es e).cell < length words
    → at 0 (all_new words (map pair_of es)) (entry_of es e).cell ≡ (entry_of es e).new
unfolding all_new
new-at words [] d e l k = absurd (omega arith)
new-at words (a ∷ es) d zero l k =
    let first : a.cell < length words = rw (entry_first a es) at k in
    rw (entry_first a es)
    (new-other (replace words a.cell a.new) es a.cell
    (λ e l q. let z = d (suc e) 0 (omega arith) (omega arith) (rw (entry_next a es e, entry_first a es) q) in omega arith)
    ∙ replace-same 0 words a.cell a.new first)
new-at words (a ∷ es) d (suc e) l k =
    let behind : (entry_of es e).cell < length words = rw (entry_next a es e) at k in
    rw (entry_next a es e)
    (new-at (replace words a.cell a.new) es (distinct_behind a es d) e (omega arith) (rw (length-replace words a.cell a.new) behind))

-- a cell is named or not
pub record Named (es : List Entry) (c : ℕ) : Type 0 where
  pub number : ℕ
  pub below : number < length es
  pub cell : (entry_of es number).cell ≡ c

named? : (es : List Entry) (c : ℕ) → Named es c ⊎ ((e : ℕ) → e < length es → (entry_of es e).cell ≢ c)
named? [] c = inr (λ e l. absurd (omega arith))
named? (a ∷ es) c = same? a.cell c
    (λ k. inl (record { number = 0; below = omega arith; cell = rw (entry_first a es) k }))
    (λ ne. go ne (named? es c))
  where
    other : a.cell ≢ c → ((e : ℕ) → e < length es → (entry_of es e).cell ≢ c) → (e : ℕ) → e < suc (length es) → (entry_of (a ∷ es) e).cell ≢ c
    other ne h zero l = rw (entry_first a es) ne
    other ne h (suc e) l = rw (entry_next a es e) (h e (omega arith))

    go : a.cell ≢ c → Named es c ⊎ ((e : ℕ) → e < length es → (entry_of es e).cell ≢ c)
        → Named (a ∷ es) c ⊎ ((e : ℕ) → e < suc (length es) → (entry_of (a ∷ es) e).cell ≢ c)
    go ne (inl n) = inl (record { number = suc n.number; below = omega (arith, n.below); cell = rw (entry_next a es n.number) n.cell })
    go ne (inr h) = inr (other ne h)

-- THE CONTENTS
pub word_at : (s : Sheet) (m : Memory) (c : ℕ) → c < length s.words → at 0 (contents_of s m).words c ≡ current_of m c
word_at s m c l = at_each 0 (length s.words) 0 (current_of m) c l ∙ ap (current_of m) (omega arith)

plain-swap : (ps : List Pair) (c : Contents) → all_old c.words ps ≡ true
    → plainly (swap_of ps) c ≡ result (record { words = all_new c.words ps; blocks = c.blocks }) (1 ∷ [])
unfolding plainly plain_swap_by
plain-swap ps c e = rw e refl

module _ (s : Sheet) {m n : Memory} (es : List Entry) (x : Swapped m n es) (below : (e : ℕ) → e < length es → (entry_of es e).cell < length s.words)
    (d : Distinct es) where
  words-after : all_new (contents_of s m).words (map pair_of es) ≡ (contents_of s n).words
  words-after =
      let size = length-each (length s.words) 0 (current_of m) in
      ext_at 0 _ _ (new-size (contents_of s m).words es ∙ size ∙ sym (length-each (length s.words) 0 (current_of n)))
      (λ c l. go c (rw (new-size (contents_of s m).words es, size) at l) (named? es c))
    where
      go : (c : ℕ) → c < length s.words → Named es c ⊎ ((e : ℕ) → e < length es → (entry_of es e).cell ≢ c)
          → at 0 (all_new (contents_of s m).words (map pair_of es)) c ≡ at 0 (contents_of s n).words c
      go c l (inl k) =
          let e = k.number in
          let into : (entry_of es e).cell < length (contents_of s m).words =
          rw (length-each (length s.words) 0 (current_of m)) (below e k.below) in
          rw (← k.cell) (new-at (contents_of s m).words es d e k.below into ∙ sym (x.new e k.below)
          ∙ sym (word_at s n (entry_of es e).cell (below e k.below)))
      go c l (inr h) = new-other (contents_of s m).words es c h ∙ word_at s m c l ∙ sym (x.others c h) ∙ sym (word_at s n c l)

  pub swap_replays : (contents_of s n).blocks ≡ (contents_of s m).blocks
      → plainly (swap_of (map pair_of es)) (contents_of s m) ≡ result (contents_of s n) (1 ∷ [])
  swap_replays e =
      plain-swap (map pair_of es) (contents_of s m)
      (all_old_lem (contents_of s m).words es (λ e l. word_at s m (entry_of es e).cell (below e l) ∙ x.old e l))
      ∙ rw (words-after, e) refl
