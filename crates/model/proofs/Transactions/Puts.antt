-- The statements of a pass that change what it has touched: a bank word remembered, a block copied, a copy written.
use Prim.Native.Nat.{ℕ, suc, ◌<◌}
use mathlib.Core.Bool.{true, true≢false}
use mathlib.Core.Path.{◌≡◌, refl, sym, ◌∙◌, subst}
use mathlib.Core.Logic.{◌≢◌}
use mathlib.Core.List.{List, [], ◌∷◌}
use mathlib.Core.Option.{Option, none, some}
use native.Mathlib.Omega.{arith}
use lib.ListN.{length}
use Rattle.model.specs.Lists.{at, replace}
use Rattle.model.specs.Command.{PUT, Block, access, BodyCommand, inside, no_block}
use Rattle.model.specs.Word.{Memory, stored, set_stored}
use Rattle.model.specs.Job.{Touched, untouched, remembered, copied, Transaction, Inner, between}
use Rattle.model.specs.Transaction.{store_of, remembered_of, touched_of, touch}
use Rattle.model.specs.Plain.{Pass, values_of, puts, pass_by, passed}
use Rattle.model.specs.Arguments.{until_commit}
use Rattle.model.proofs.Lists.{replace-same, replace-other, length-replace, same?}
use Rattle.model.proofs.Fit.Memory.{MemoryFit}
use Rattle.model.proofs.Fit.Transaction.{touched?}
use Rattle.model.proofs.Transactions.Facts.{bank_in, Past, unchanged, PutAtWork, SameCopy, Beside, CopiedTo, AtInner, PassFacts}
use Rattle.model.proofs.Transactions.Frame.{Apart, Blocks, same_copy, beside_apart, same_store, agreed}
use Rattle.model.proofs.Transactions.Contents.{ext_at}
use Rattle.model.proofs.Transactions.Steps.{SlotsApart, copy-onward, held}

-- a copy slot is written: blocks keep their stores, and so do the slots below it
written_apart : {blocks : ℕ} {m : Memory} {copies : List ℕ} → SlotsApart blocks m copies → (k : ℕ) → k < 4 → (o v : ℕ)
    → Apart blocks k m (set_stored m (at 0 copies k) o v) copies
written_apart {m = m} {copies = copies} D k lt o v =
    record {
      banks = λ b. unchanged refl;
      block_stores = λ b l. replace-other [] m.stores (at 0 copies k) (store_of (bank_in m b)) _ (D.from_blocks b k l lt);
      slot_stores = λ j l. replace-other [] m.stores (at 0 copies k) (at 0 copies j) _ (λ e. omega (arith, D.different j k (omega arith) lt e));
    }

-- store i has the first n values of store j; one more is copied
one_more : (stores : List (List ℕ)) (i j n : ℕ) → i < length stores → n < length (at [] stores i)
    → ((o : ℕ) → o < n → stored stores i o ≡ stored stores j o)
    → at [] (replace stores i (replace (at [] stores i) n (stored stores j n))) j ≡ at [] stores j
    → (o : ℕ) → o < suc n
    → stored (replace stores i (replace (at [] stores i) n (stored stores j n))) i o
    ≡ stored (replace stores i (replace (at [] stores i) n (stored stores j n))) j o
one_more stores i j n li ln h e o lt = rw (e, replace-same [] stores i (replace (at [] stores i) n (stored stores j n)) li) (same? o n
    (λ q. rw (q, replace-same 0 (at [] stores i) n (stored stores j n) ln))
    (λ ne. replace-other 0 (at [] stores i) n o (stored stores j n) ne ∙ h o (omega arith)))

only-read : (stores : List (List ℕ)) (copies values : List ℕ) (b v : ℕ) (l : List BodyCommand) (c : Option (List ℕ))
    → SameCopy stores copies values b l untouched c → SameCopy stores copies values b l (remembered v) c
only-read stores copies values b v l none h = tt
only-read stores copies values b v l (some vs) h = h

module _ {blocks : ℕ} {m : Memory} {copies registers answers : List ℕ} {l : List BodyCommand} {x : Transaction} {s : Inner} (b : ℕ)
    (size : b < length x.blocks) (P : PassFacts blocks m copies registers l x s answers) where
  module _ (t : Touched) where
    here : at untouched (replace x.blocks b t) b ≡ t
    here = replace-same untouched x.blocks b t size

    other : (c : ℕ) → c ≢ b → at untouched (replace x.blocks b t) c ≡ touched_of x c
    other c ne = replace-other untouched x.blocks b c t ne

  -- the reading of a bank word has ended
  pub remembers : (v : ℕ) → touched_of x b ≡ untouched → Past (bank_in m b) v
      → PassFacts blocks m copies registers l (touch x b (remembered v) x.used) between answers
  remembers v u h =
      let here = here (remembered v) in
      let other = other (remembered v) in
      record {
        past = λ c t. same? c b (λ q. rw (q, here) h) (λ ne. rw (other c ne) (P.past c (rw (other c ne) at t)));
        way = λ bs G.
            let w = P.way bs (record {
              size = G.size;
              still = λ c t. same? c b (λ q. absurd (true≢false (sym (rw (q, u) at t)))) (λ ne. rw (other c ne) at (G.still c (rw (other c ne) t)));
              values =
                  λ c t. same? c b (λ q. absurd (true≢false (sym (rw (q, u) at t)))) (λ ne. rw (other c ne) at (G.values c (rw (other c ne) t)));
            }) in
            record { pass = w.pass; beside = read bs w.pass w.beside; leads = w.leads };
        inner = tt;
      }
    where
      read : (bs : List Block) (q : Pass) → Beside m.stores copies registers answers x.blocks l bs q
          → Beside m.stores copies registers answers (replace x.blocks b (remembered v)) l bs q
      read bs q S =
          record {
            same_registers = S.same_registers;
            same_answers = S.same_answers;
            size = S.size;
            same_copies = λ c. same? c b
                (λ e. rw (e, here (remembered v))
                (only-read m.stores copies (at no_block bs b).values b v l (at none q.copies b)
                (subst (λ (z : Touched). SameCopy m.stores copies (at no_block bs b).values b l z (at none q.copies b)) u (S.same_copies b))))
                (λ ne. rw (other (remembered v) c ne) (S.same_copies c));
          }

  -- the block has been copied: the slot is the block's, and the plain machine has no copy yet
  pub copies-all : MemoryFit m → SlotsApart blocks m copies → (v : ℕ) → touched_of x b ≡ remembered v → b < blocks → x.used < 4
      → CopiedTo m copies x b 8 → PutAtWork b l
      → PassFacts blocks m copies registers l (touch x b (copied v x.used) (suc x.used)) between answers
  copies-all M D v u lt left h p =
      let here = here (copied v x.used) in
      let other = other (copied v x.used) in
      let past : Past (bank_in m b) v = subst (λ (z : Touched). Past (bank_in m b) (remembered_of z)) u (P.past b (rw u)) in
      record {
        past = λ c t. same? c b (λ q. rw (q, here) past) (λ ne. rw (other c ne) (P.past c (rw (other c ne) at t)));
        way = λ bs G.
            let still : bank_in m b ≡ v = rw here at (G.still b (rw here)) in
            let values : (at no_block bs b).values ≡ at [] m.stores (store_of v) = rw here at (G.values b (rw here)) in
            let w = P.way bs (record {
              size = G.size;
              still = λ c t. same? c b (λ q. rw (q, u) still) (λ ne. rw (other c ne) at (G.still c (rw (other c ne) t)));
              values = λ c t. same? c b (λ q. rw (q, u) values) (λ ne. rw (other c ne) at (G.values c (rw (other c ne) t)));
            }) in
            record { pass = w.pass; beside = copied_too bs w.pass (values ∙ sym (same still)) w.beside; leads = w.leads };
        inner = tt;
      }
    where
      -- all eight values are the same
      same : bank_in m b ≡ v → at [] m.stores (at 0 copies x.used) ≡ at [] m.stores (store_of v)
      same still =
          let ls : length (at [] m.stores (at 0 copies x.used)) ≡ 8 = M.store (at 0 copies x.used) (D.below x.used left) in
          let lv : length (at [] m.stores (store_of v)) ≡ 8 = M.store (store_of v) (rw still at (D.block_below b lt)) in
          let r : remembered_of (touched_of x b) ≡ v = rw u in
          ext_at 0 _ _ (ls ∙ sym lv) (λ o k. rw r at (h (still ∙ sym r) o (omega arith)))

      mine : (values : List ℕ) (c : Option (List ℕ)) → values ≡ at [] m.stores (at 0 copies x.used)
          → SameCopy m.stores copies values b l (remembered v) c → SameCopy m.stores copies values b l (copied v x.used) c
      mine values none e y = (e, p)
      mine values (some vs) e y = absurd y

      copied_too : (bs : List Block) (q : Pass) → (at no_block bs b).values ≡ at [] m.stores (at 0 copies x.used)
          → Beside m.stores copies registers answers x.blocks l bs q
          → Beside m.stores copies registers answers (replace x.blocks b (copied v x.used)) l bs q
      copied_too bs q e S =
          record {
            same_registers = S.same_registers;
            same_answers = S.same_answers;
            size = S.size;
            same_copies = λ c. same? c b
                (λ y. rw (y, here (copied v x.used))
                (mine (at no_block bs b).values (at none q.copies b) e
                (subst (λ (z : Touched). SameCopy m.stores copies (at no_block bs b).values b l z (at none q.copies b)) u (S.same_copies b))))
                (λ ne. rw (other (copied v x.used) c ne) (S.same_copies c));
          }

module _ {blocks : ℕ} {m : Memory} {copies registers answers : List ℕ} (x : Transaction) (M : MemoryFit m) (D : SlotsApart blocks m copies)
    (B : Blocks blocks x.used x.blocks) where
  -- one more value is copied
  pub copies-one : {l : List BodyCommand} {s : Inner} (b n : ℕ) (s' : Inner) → touched? (touched_of x b) ≡ true → x.used < 4 → n < 8
      → CopiedTo m copies x b n
      → (CopiedTo (set_stored m (at 0 copies x.used) n (stored m.stores (store_of (remembered_of (touched_of x b))) n)) copies x b (suc n)
      → AtInner (set_stored m (at 0 copies x.used) n (stored m.stores (store_of (remembered_of (touched_of x b))) n)) copies x s')
      → PassFacts blocks m copies registers l x s answers
      → PassFacts blocks (set_stored m (at 0 copies x.used) n (stored m.stores (store_of (remembered_of (touched_of x b))) n)) copies registers l x
      s' answers
  copies-one b n s' t left lt h f P =
      let A = written_apart D x.used left n (stored m.stores (store_of (remembered_of (touched_of x b))) n) in
      record {
        past = P.past;
        way = λ bs G.
            let w = P.way bs (agreed A B P.past G) in
            record { pass = w.pass; beside = beside_apart A B (omega arith) w.beside; leads = w.leads };
        inner =
            f (λ e. one_more m.stores (at 0 copies x.used) (store_of (remembered_of (touched_of x b))) n (rw M.stores (D.below x.used left))
            (rw (M.store (at 0 copies x.used) (D.below x.used left)) lt) (h e) (same_store A B P.past b t e));
      }

  -- a PUT writes into its block's copy
  module _ {l : List BodyCommand} (b o r v k : ℕ) (u : touched_of x b ≡ copied v k) (k4 : k < 4) where
    put : (bs : List Block) (q : Pass) → b < length bs
        → Beside m.stores copies registers answers x.blocks (inside (access (PUT b o r)) ∷ l) bs q
        → Beside (replace m.stores (at 0 copies k) (replace (at [] m.stores (at 0 copies k)) o (at 0 registers r))) copies registers answers
        x.blocks l bs (puts q b (replace (values_of bs q b) o (at 0 q.registers r)))
    put bs q size S =
        let vs : List ℕ = replace (values_of bs q b) o (at 0 q.registers r) in
        record {
          same_registers = S.same_registers;
          same_answers = S.same_answers;
          size = length-replace q.copies b (some vs) ∙ S.size;
          same_copies = λ c. same? c b
              (λ e. rw (e, u, replace-same none q.copies b (some vs) (rw S.size size)) mine)
              (λ ne. rw (replace-other none q.copies b c (some vs) ne) (theirs c ne));
        }
      where
        mine : replace (values_of bs q b) o (at 0 q.registers r)
            ≡ at [] (replace m.stores (at 0 copies k) (replace (at [] m.stores (at 0 copies k)) o (at 0 registers r))) (at 0 copies k)
        mine =
            let e : values_of bs q b ≡ at [] m.stores (at 0 copies k) = held m.stores copies (inside (access (PUT b o r)) ∷ l) (at no_block bs b)
            b v k (at none q.copies b)
            (subst
            (λ (z : Touched). SameCopy m.stores copies (at no_block bs b).values b (inside (access (PUT b o r)) ∷ l) z (at none q.copies b)) u
            (S.same_copies b)) in
            rw (
              replace-same [] m.stores (at 0 copies k) (replace (at [] m.stores (at 0 copies k)) o (at 0 registers r))
                  (rw M.stores (D.below k k4)),
              e,
              S.same_registers,
            )

        theirs : (c : ℕ) → c ≢ b
            → SameCopy (replace m.stores (at 0 copies k) (replace (at [] m.stores (at 0 copies k)) o (at 0 registers r))) copies
            (at no_block bs c).values c l (at untouched x.blocks c) (at none q.copies c)
        theirs c ne =
            same_copy m.stores _ copies (at no_block bs c).values c l (at untouched x.blocks c) (at none q.copies c)
            (λ w j e. replace-other [] m.stores (at 0 copies k) (at 0 copies j) _ (λ z.
            let y : j ≡ k = D.different j k (omega (arith, B.slot c w j e, B.most)) k4 z in
            ne (B.different c b w v k (rw y at e) u)))
            (copy-onward m.stores copies (at no_block bs c).values c (inside (access (PUT b o r)) ∷ l) l (at untouched x.blocks c)
            (at none q.copies c) (λ p. ne (let y : b ≡ c = cc p.commands in sym y)) (S.same_copies c))

  pub writes : {l : List BodyCommand} {s : Inner} (b o r v k : ℕ) → b < blocks → touched_of x b ≡ copied v k
      → PassFacts blocks m copies registers (inside (access (PUT b o r)) ∷ l) x s answers
      → PassFacts blocks (set_stored m (at 0 copies k) o (at 0 registers r)) copies registers l x between answers
  unfolding passed pass_by until_commit
  writes {l} b o r v k lt u P =
      let k4 : k < 4 = omega (arith, B.slot b v k u, B.most) in
      let A = written_apart D k k4 o (at 0 registers r) in
      record {
        past = P.past;
        way = λ bs G.
            let w = P.way bs (agreed A B P.past G) in record {
              pass = pass_by bs w.pass (inside (access (PUT b o r)));
              beside = put b o r v k u k4 bs w.pass (rw G.size lt) w.beside;
              leads = w.leads;
            };
        inner = tt;
      }
