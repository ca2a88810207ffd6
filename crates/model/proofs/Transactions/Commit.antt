-- The commit lemma: where the exchange says yes, the plain transaction takes the contents before to the contents after, with the answers of the pass.
use Prim.Native.Nat.{ℕ, suc, ◌+◌, ◌<◌, ◌≤◌}
use mathlib.Core.Bool.{true, false, true≢false}
use mathlib.Core.Path.{◌≡◌, refl, sym, ◌∙◌, ap, subst}
use mathlib.Core.List.{List, []}
use mathlib.Core.Option.{Option, none, some}
use native.Mathlib.Omega.{arith}
use lib.ListN.{length}
use Rattle.model.specs.Lists.{at}
use Rattle.model.specs.Command.{Block, BodyCommand, no_block}
use Rattle.model.specs.Sheet.{Sheet}
use Rattle.model.specs.Word.{Memory, current_of}
use Rattle.model.specs.Exchange.{Entry}
use Rattle.model.specs.Job.{Touched, untouched, remembered, copied, Transaction, Inner}
use Rattle.model.specs.Transaction.{bank, version_of, store_of, remembered_of, touched_of, gather, block_in}
use Rattle.model.specs.Plain.{Contents, Pass, passed, pass_of, commit_blocks, commits, result, plainly}
use Rattle.model.specs.Claim.{contents_of}
use Rattle.model.specs.Arguments.{transaction_of, until_commit}
use Rattle.model.proofs.Lists.{impossible}
use Rattle.model.proofs.Fit.Exchange.{entry_of, SamePairs}
use Rattle.model.proofs.Fit.Transaction.{touched?, copied?}
use Rattle.model.proofs.Transactions.Facts.{bank_in, Change, unchanged, version_raised, PutAtWork, SameCopy, Beside, Agrees, PassFacts}
use Rattle.model.proofs.Transactions.Given.{Swapped}
use Rattle.model.proofs.Transactions.Versions.{version-bank, store-bank}
use Rattle.model.proofs.Transactions.Contents.{ext_at, length-each, at_each, each_same, commit_block, length-commit, at-commit}
use Rattle.model.proofs.Transactions.Frame.{Blocks}
use Rattle.model.proofs.Transactions.Gather.{new_value, Bank, gathered, only-touched}

-- what the exchange of a transaction does to the cells: touched bank words had the remembered value and have the new one
pub record Committed (m n : Memory) (copies : List ℕ) (ts : List Touched) : Type 0 where
  pub was : (b : ℕ) → touched? (at untouched ts b) ≡ true → bank_in m b ≡ remembered_of (at untouched ts b)
  pub now : (b : ℕ) → touched? (at untouched ts b) ≡ true → bank_in n b ≡ new_value copies (at untouched ts b)
  pub others : (b : ℕ) → touched? (at untouched ts b) ≡ false → bank_in n b ≡ bank_in m b
  pub words : (c : ℕ) → c < 32 → current_of n c ≡ current_of m c
  pub stores : n.stores ≡ m.stores

pub committed : {m n : Memory} (copies : List ℕ) (ts : List Touched) {es : List Entry} → SamePairs es (gather copies 0 ts) → Swapped m n es
    → n.stores ≡ m.stores → Committed m n copies ts
committed {m} {n} copies ts {es} S X st =
    record {
      was = λ b t.
          let g = gathered copies 0 ts b b (omega arith) t in
          rw (S.cell g.number, S.old g.number, g.is) at (X.old g.number (rw S.size g.below));
      now = λ b t.
          let g = gathered copies 0 ts b b (omega arith) t in
          rw (S.cell g.number, S.new g.number, g.is) at (X.new g.number (rw S.size g.below));
      others = λ b t. X.others (bank b) (λ e lt q.
          let g = named e lt in
          let y : g.number ≡ b = omega (arith, g.cell, S.cell e) in
          true≢false (sym g.touched ∙ ap (λ (c : ℕ). touched? (at untouched ts c)) y ∙ t));
      words = λ c lt. X.others c (λ e le q. let g = named e le in omega (arith, g.cell, S.cell e));
      stores = st;
    }
  where
    named : (e : ℕ) → e < length es → Bank 0 ts (entry_of (gather copies 0 ts) e).cell
    named e lt = only-touched copies 0 ts e (rw S.size at lt)

-- COMMIT with nothing touched
pub committed-nothing : (m : Memory) (copies : List ℕ) (ts : List Touched) → ((b : ℕ) → at untouched ts b ≡ untouched) → Committed m m copies ts
committed-nothing m copies ts u =
    record {
      was = λ b t. absurd (true≢false (sym (rw (u b) at t)));
      now = λ b t. absurd (true≢false (sym (rw (u b) at t)));
      others = λ b t. refl;
      words = λ c l. refl;
      stores = refl;
    }

module _ {m n : Memory} {copies : List ℕ} {ts : List Touched} (C : Committed m n copies ts)
    (small : (b v k : ℕ) → at untouched ts b ≡ copied v k → at 0 copies k < 256) where
  module _ (b : ℕ) where
    was_at : (t : Touched) → at untouched ts b ≡ t → touched? t ≡ true → bank_in m b ≡ remembered_of t
    was_at t e h = rw e at (C.was b (rw e h))

    now-at : (t : Touched) → at untouched ts b ≡ t → touched? t ≡ true → bank_in n b ≡ new_value copies t
    now-at t e h = rw e at (C.now b (rw e h))

  -- versions: the version of a PUT block rises by one, every other bank word stays
  pub committed-raised : (b v k : ℕ) → at untouched ts b ≡ copied v k → version_of (bank_in n b) ≡ suc (version_of (bank_in m b))
  committed-raised b v k e =
      rw (now-at b (copied v k) e refl, was_at b (copied v k) e refl) (version-bank (suc (version_of v)) (at 0 copies k) (small b v k e))

  committed-stays : (b : ℕ) → copied? (at untouched ts b) ≡ false → bank_in n b ≡ bank_in m b
  committed-stays b h = go (at untouched ts b) refl h
    where
      go : (t : Touched) → at untouched ts b ≡ t → copied? t ≡ false → bank_in n b ≡ bank_in m b
      go untouched e h = C.others b (rw e)
      go (remembered v) e h = now-at b (remembered v) e refl ∙ sym (was_at b (remembered v) e refl)
      go (copied v k) e h = absurd (true≢false h)

  pub committed_change : (b : ℕ) → Change (bank_in m b) (bank_in n b)
  committed_change b = go (at untouched ts b) refl
    where
      go : (t : Touched) → at untouched ts b ≡ t → Change (bank_in m b) (bank_in n b)
      go untouched e = unchanged (committed-stays b (rw e))
      go (remembered v) e = unchanged (committed-stays b (rw e))
      go (copied v k) e = version_raised (committed-raised b v k e)

  -- a block after the exchange
  block_after : (b : ℕ) (t : Touched) (c : Option (List ℕ)) {l : List BodyCommand} → (PutAtWork b l → ⊥) → at untouched ts b ≡ t
      → SameCopy m.stores copies (block_in m b).values b l t c → commit_block c (block_in m b) ≡ block_in n b
  block_after b untouched none np e h = rw (C.others b (rw e), C.stores)
  block_after b untouched (some vs) np e h = absurd h
  block_after b (remembered v) none np e h = rw (now-at b (remembered v) e refl, was_at b (remembered v) e refl, C.stores)
  block_after b (remembered v) (some vs) np e h = absurd h
  block_after b (copied v k) none np e h = absurd (np h.1)
  block_after b (copied v k) (some vs) np e h =
      rw (
        now-at b (copied v k) e refl,
        was_at b (copied v k) e refl,
        version-bank (suc (version_of v)) (at 0 copies k) (small b v k e),
        store-bank (suc (version_of v)) (at 0 copies k) (small b v k e),
        C.stores,
        h,
      )

plain-transaction : (rs : List ℕ) (l : List BodyCommand) (c : Contents) → plainly (transaction_of rs l) c ≡ commits c (pass_of c.blocks rs l)
unfolding plainly
plain-transaction rs l c = refl

-- no command is left, so no PUT is at work
none_left : {b : ℕ} {l : List BodyCommand} → until_commit l ≡ [] → PutAtWork b l → ⊥
unfolding until_commit
none_left u p = impossible (cc (rw p.commands at u))

module _ (s : Sheet) (fits : length s.words ≤ 32) {m n : Memory} {copies registers answers : List ℕ} {l : List BodyCommand} {x : Transaction}
    {i : Inner}
    (B : Blocks (length s.blocks) x.used x.blocks) (P : PassFacts (length s.blocks) m copies registers l x i answers)
    (left : until_commit l ≡ [])
    (C : Committed m n copies x.blocks) (small : (b v k : ℕ) → touched_of x b ≡ copied v k → at 0 copies k < 256) where
  block_at : (k : Memory) (b : ℕ) → b < length s.blocks → at no_block (contents_of s k).blocks b ≡ block_in k b
  block_at k b lt = at_each no_block (length s.blocks) 0 (block_in k) b lt ∙ ap (block_in k) (omega arith)

  agrees : Agrees (length s.blocks) (bank_in m) m.stores x.blocks (contents_of s m).blocks
  agrees =
      record {
        size = length-each (length s.blocks) 0 (block_in m);
        still = C.was;
        values = λ b t. ap (λ (y : Block). y.values) (block_at m b (B.below b t)) ∙ ap (λ (v : ℕ). at [] m.stores (store_of v)) (C.was b t);
      }

  module _ (q : Pass) (S : Beside m.stores copies registers answers x.blocks l (contents_of s m).blocks q) where
    blocks-after : commit_blocks (contents_of s m).blocks q.copies ≡ (contents_of s n).blocks
    blocks-after =
        let size = length-each (length s.blocks) 0 (block_in m) in
        ext_at no_block _ _ (length-commit (contents_of s m).blocks q.copies ∙ size ∙ sym (length-each (length s.blocks) 0 (block_in n)))
        (λ b lt.
        let l₁ : b < length (contents_of s m).blocks = rw (length-commit (contents_of s m).blocks q.copies) at lt in
        let l₂ : b < length s.blocks = rw size at l₁ in
        let y : at no_block (contents_of s m).blocks b ≡ block_in m b = block_at m b l₂ in
        at-commit (contents_of s m).blocks q.copies b l₁
        ∙ ap (λ (z : Block). commit_block (at none q.copies b) z) y
        ∙ block_after C small b (touched_of x b) (at none q.copies b) (none_left left) refl
        (subst (λ (z : Block). SameCopy m.stores copies z.values b l (touched_of x b) (at none q.copies b)) y (S.same_copies b))
        ∙ sym (block_at n b l₂))

    words-after : (contents_of s m).words ≡ (contents_of s n).words
    words-after = each_same (length s.words) 0 (current_of m) (current_of n) (λ j lt. sym (C.words (0 + j) (omega arith)))

    after : commits (contents_of s m) q ≡ result (contents_of s n) answers
    after = rw (blocks-after, words-after, S.same_answers)

  -- THE COMMIT LEMMA
  pub commits-whole : plainly (transaction_of x.kept (until_commit x.commands)) (contents_of s m) ≡ result (contents_of s n) answers
  unfolding passed
  commits-whole =
      let w = P.way (contents_of s m).blocks agrees in
      let e : pass_of (contents_of s m).blocks x.kept (until_commit x.commands) ≡ w.pass = sym (rw left at w.leads) in
      plain-transaction x.kept (until_commit x.commands) (contents_of s m) ∙ ap (λ (q : Pass). commits (contents_of s m) q) e
      ∙ after w.pass w.beside
