-- What a pass knows stays while other tasks move, and while stores change that it does not look at.
use Prim.Native.Nat.{ℕ, ◌<◌, ◌≤◌}
use mathlib.Core.Bool.{true}
use mathlib.Core.Path.{◌≡◌, refl, sym, ◌∙◌, ap, subst}
use mathlib.Core.List.{List, []}
use mathlib.Core.Option.{Option, none, some}
use native.Mathlib.Omega.{arith}
use lib.ListN.{length}
use Rattle.model.specs.Lists.{at}
use Rattle.model.specs.Command.{GET, PUT, Block, BodyCommand, no_block}
use Rattle.model.specs.Word.{Word, Memory, Reading, loading, looking, fetching}
use Rattle.model.specs.Exchange.{Entry}
use Rattle.model.specs.Job.{Touched, untouched, remembered, copied, Transaction, Inner, between, first, copying, again, committing}
use Rattle.model.specs.Transaction.{store_of, block_of, remembered_of, touched_of}
use Rattle.model.specs.Plain.{Pass}
use Rattle.model.proofs.Fit.Transaction.{touched?, TransactionFit}
use Rattle.model.proofs.Transactions.Facts.{bank_in, Past, Change, SameCopy, Beside, Agrees, Way}
use Rattle.model.proofs.Transactions.Facts.{InReading, CopiedTo, Fetched, AtInner, PassFacts}
use Rattle.model.proofs.Transactions.Given.{loaded_by, inner_reading, SameContent}
use Rattle.model.proofs.Transactions.Versions.{past_change, still_before}

-- memory goes from m to n: the stores of blocks stay, and those in the copy slots below `upto`
pub record Apart (blocks upto : ℕ) (m n : Memory) (copies : List ℕ) : Type 0 where
  pub banks : (b : ℕ) → Change (bank_in m b) (bank_in n b)
  pub block_stores : (b : ℕ) → b < blocks → at [] n.stores (store_of (bank_in m b)) ≡ at [] m.stores (store_of (bank_in m b))
  pub slot_stores : (k : ℕ) → k < upto → at [] n.stores (at 0 copies k) ≡ at [] m.stores (at 0 copies k)

-- of what Fit says of a transaction's blocks, the part that is used here
pub record Blocks (blocks used : ℕ) (ts : List Touched) : Type 0 where
  pub size : length ts ≡ 16
  pub below : (b : ℕ) → touched? (at untouched ts b) ≡ true → b < blocks
  pub slot : (b v k : ℕ) → at untouched ts b ≡ copied v k → k < used
  pub different : (b c v w k : ℕ) → at untouched ts b ≡ copied v k → at untouched ts c ≡ copied w k → b ≡ c
  pub most : used ≤ 4

pub blocks-fit : {words blocks : ℕ} {copies : List ℕ} {l : List BodyCommand} {ps : List Entry} {x : Transaction} {s : Inner}
    → TransactionFit words blocks copies l ps x s → Blocks blocks x.used x.blocks
blocks-fit F =
    record { size = F.touched.size; below = F.touched.below; slot = F.touched.slot; different = F.touched.different; most = F.most_used }

pub same_copy : (stores stores' : List (List ℕ)) (copies values : List ℕ) (b : ℕ) (l : List BodyCommand) (t : Touched) (c : Option (List ℕ))
    → ((v k : ℕ) → t ≡ copied v k → at [] stores' (at 0 copies k) ≡ at [] stores (at 0 copies k)) → SameCopy stores copies values b l t c
    → SameCopy stores' copies values b l t c
same_copy stores stores' copies values b l untouched none f h = tt
same_copy stores stores' copies values b l untouched (some vs) f h = h
same_copy stores stores' copies values b l (remembered v) none f h = tt
same_copy stores stores' copies values b l (remembered v) (some vs) f h = h
same_copy stores stores' copies values b l (copied v k) none f h = (h.0 ∙ sym (f v k refl), h.1)
same_copy stores stores' copies values b l (copied v k) (some vs) f h = h ∙ sym (f v k refl)

module _ {blocks upto : ℕ} {m n : Memory} {copies : List ℕ} (A : Apart blocks upto m n copies) {used : ℕ} {ts : List Touched}
    (B : Blocks blocks used ts) where
  pub beside_apart : used ≤ upto → {registers answers : List ℕ} {l : List BodyCommand} {bs : List Block} {q : Pass}
      → Beside m.stores copies registers answers ts l bs q → Beside n.stores copies registers answers ts l bs q
  beside_apart le {l = l} {bs = bs} {q = q} S =
      record {
        same_registers = S.same_registers;
        same_answers = S.same_answers;
        size = S.size;
        same_copies = λ b.
            same_copy m.stores n.stores copies (at no_block bs b).values b l (at untouched ts b) (at none q.copies b)
            (λ v k e. A.slot_stores k (omega (arith, B.slot b v k e))) (S.same_copies b);
      }

  module _ (past : (b : ℕ) → touched? (at untouched ts b) ≡ true → Past (bank_in m b) (remembered_of (at untouched ts b))) where
    -- a remembered value that stands now stood before, and its store is the same
    pub stood : (b : ℕ) → touched? (at untouched ts b) ≡ true → bank_in n b ≡ remembered_of (at untouched ts b)
        → bank_in m b ≡ remembered_of (at untouched ts b)
    stood b t e = still_before (past b t) (A.banks b) e

    pub same_store : (b : ℕ) → touched? (at untouched ts b) ≡ true → bank_in n b ≡ remembered_of (at untouched ts b)
        → at [] n.stores (store_of (remembered_of (at untouched ts b))) ≡ at [] m.stores (store_of (remembered_of (at untouched ts b)))
    same_store b t e =
        subst (λ (v : ℕ). at [] n.stores (store_of v) ≡ at [] m.stores (store_of v)) (stood b t e) (A.block_stores b (B.below b t))

    pub agreed : {bs : List Block} → Agrees blocks (bank_in n) n.stores ts bs → Agrees blocks (bank_in m) m.stores ts bs
    agreed G = record { size = G.size; still = λ b t. stood b t (G.still b t); values = λ b t. G.values b t ∙ same_store b t (G.still b t) }

    pub past_apart : (b : ℕ) → touched? (at untouched ts b) ≡ true → Past (bank_in n b) (remembered_of (at untouched ts b))
    past_apart b t = past_change (past b t) (A.banks b)

    pub way_apart : used ≤ upto → {registers answers kept : List ℕ} {l begun : List BodyCommand}
        → ((bs : List Block) → Agrees blocks (bank_in m) m.stores ts bs → Way m.stores copies registers answers ts l kept begun bs)
        → (bs : List Block) → Agrees blocks (bank_in n) n.stores ts bs → Way n.stores copies registers answers ts l kept begun bs
    way_apart le w bs G = let y = w bs (agreed G) in record { pass = y.pass; beside = beside_apart le y.beside; leads = y.leads }

-- a transaction that does not move
module _ {blocks : ℕ} {m n : Memory} {copies : List ℕ} (A : Apart blocks 4 m n copies) (x : Transaction)
    (past : (b : ℕ) → touched? (touched_of x b) ≡ true → Past (bank_in m b) (remembered_of (touched_of x b))) where
  module _ (B : Blocks blocks x.used x.blocks) where
    copied_apart : (b k : ℕ) → touched? (touched_of x b) ≡ true → x.used < 4 → CopiedTo m copies x b k → CopiedTo n copies x b k
    copied_apart b k t left h e o lt =
        ap (λ (vs : List ℕ). at 0 vs o) (A.slot_stores x.used left) ∙ h (stood A B past b t e) o lt
        ∙ sym (ap (λ (vs : List ℕ). at 0 vs o) (same_store A B past b t e))

    fetched_apart : (b o v : ℕ) (t : Touched) → touched_of x b ≡ t → Fetched m copies b o v t → Fetched n copies b o v t
    fetched_apart b o v untouched et h = h
    fetched_apart b o v (remembered w) et h = λ e.
        let t : touched? (touched_of x b) ≡ true = rw et in
        let r : remembered_of (touched_of x b) ≡ w = rw et in
        let s : bank_in m b ≡ w = stood A B past b t (e ∙ sym r) ∙ r in
        let y : at [] n.stores (store_of w) ≡ at [] m.stores (store_of w) = rw r at (same_store A B past b t (e ∙ sym r)) in
        h s ∙ sym (ap (λ (vs : List ℕ). at 0 vs o) y)
    fetched_apart b o v (copied w k) et h = h ∙ sym (ap (λ (vs : List ℕ). at 0 vs o) (A.slot_stores k (omega (arith, B.slot b w k et, B.most))))

  reading_apart : (b : ℕ) (r : Reading) → ((w : Word) → loaded_by r ≡ some w → SameContent m n w) → InReading m b r → InReading n b r
  reading_apart b loading f h = tt
  reading_apart b (looking w) f h = rw (f w refl).value (past_change h (A.banks b))
  reading_apart b (fetching w) f h = (rw (f w refl).value (past_change h.0 (A.banks b)), (f w refl).counts ∙ h.1)

  inner_apart : {words : ℕ} {l : List BodyCommand} {ps : List Entry} (s : Inner) → TransactionFit words blocks copies l ps x s
      → ((w : Word) → loaded_by (inner_reading s) ≡ some w → SameContent m n w) → AtInner m copies x s → AtInner n copies x s
  inner_apart between F f h = tt
  inner_apart (first a r) F f h = reading_apart (block_of a) r f h
  inner_apart (copying a k) F f h = let t = F.inner.first in copied_apart (blocks-fit F) (block_of a) k (rw t.read) t.left h
  inner_apart (again (GET r b o) v s) F f h = fetched_apart (blocks-fit F) b o v (touched_of x b) refl h
  inner_apart (again (PUT b o r) v s) F f h = let t = F.inner.again in copied_apart (blocks-fit F) b 8 (rw t.read) t.left h
  inner_apart (committing e) F f h = tt

  pub pass_apart : {words : ℕ} {l : List BodyCommand} {ps : List Entry} {registers answers : List ℕ} (s : Inner)
      → TransactionFit words blocks copies l ps x s → ((w : Word) → loaded_by (inner_reading s) ≡ some w → SameContent m n w)
      → PassFacts blocks m copies registers l x s answers → PassFacts blocks n copies registers l x s answers
  pass_apart s F f P =
      record {
        past = past_apart A (blocks-fit F) past;
        way = way_apart A (blocks-fit F) past F.most_used P.way;
        inner = inner_apart s F f P.inner;
      }
