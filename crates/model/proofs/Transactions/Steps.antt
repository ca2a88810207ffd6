-- The statements of a pass up to its COMMIT, each with the plain machine: a command done is one step of it, a restart starts it again.
use Prim.Native.Nat.{ℕ, ◌<◌}
use mathlib.Core.Bool.{true, true≢false}
use mathlib.Core.Path.{◌≡◌, refl, sym, ◌∙◌, ap}
use mathlib.Core.Logic.{◌≢◌}
use mathlib.Core.List.{List, [], ◌∷◌, ◌++◌}
use mathlib.Core.Option.{Option, none, some}
use lib.ListN.{length, length-replicate}
use Rattle.model.specs.Lists.{at, replace}
use Rattle.model.specs.Command.{GET, Block, access, BodyCommand, inside, no_block}
use Rattle.model.specs.Word.{Memory}
use Rattle.model.specs.Job.{Touched, untouched, remembered, copied, Transaction, Inner, between}
use Rattle.model.specs.Transaction.{store_of, remembered_of, touched_of, fresh_transaction}
use Rattle.model.specs.Plain.{Pass, no_copies, values_by, values_of, computes, pass_by, passed}
use Rattle.model.specs.Arguments.{until_commit}
use Rattle.model.proofs.Lists.{at_default, impossible}
use Rattle.model.proofs.Fit.Transaction.{touched?}
use Rattle.model.proofs.Transactions.Facts.{bank_in, PutAtWork, SameCopy, Fetched, AtInner, PassFacts}

-- the owners as one task needs them: its slots are apart from the blocks' stores and from each other
pub record SlotsApart (blocks : ℕ) (m : Memory) (copies : List ℕ) : Type 0 where
  pub from_blocks : (b k : ℕ) → b < blocks → k < 4 → store_of (bank_in m b) ≢ at 0 copies k
  pub different : (k j : ℕ) → k < 4 → j < 4 → at 0 copies k ≡ at 0 copies j → k ≡ j
  pub below : (k : ℕ) → k < 4 → at 0 copies k < 48
  pub block_below : (b : ℕ) → b < blocks → store_of (bank_in m b) < 48

-- A PASS BEGINS
pub begins : (blocks : ℕ) (m : Memory) (copies kept : List ℕ) (begun : List BodyCommand)
    → PassFacts blocks m copies kept begun (fresh_transaction kept begun) between []
begins blocks m copies kept begun =
    record {
      past = λ b t. absurd (true≢false (sym (rw (at_default untouched 16 b) at t)));
      way = λ bs G. record {
        pass = record { registers = kept; copies = no_copies bs; answers = [] };
        beside = record {
          same_registers = refl;
          same_answers = refl;
          size = length-replicate (length bs) none;
          same_copies = λ b. rw (at_default untouched 16 b, at_default {A = Option (List ℕ)} none (length bs) b) tt;
        };
        leads = refl;
      };
      inner = tt;
    }

-- the next command is no PUT: every copied block has its plain copy
pub copy-onward : (stores : List (List ℕ)) (copies values : List ℕ) (b : ℕ) (l l' : List BodyCommand) (t : Touched) (c : Option (List ℕ))
    → (PutAtWork b l → ⊥) → SameCopy stores copies values b l t c → SameCopy stores copies values b l' t c
copy-onward stores copies values b l l' untouched none f h = tt
copy-onward stores copies values b l l' untouched (some vs) f h = h
copy-onward stores copies values b l l' (remembered v) none f h = tt
copy-onward stores copies values b l l' (remembered v) (some vs) f h = h
copy-onward stores copies values b l l' (copied v k) none f h = absurd (f h.1)
copy-onward stores copies values b l l' (copied v k) (some vs) f h = h

-- what the plain machine's GET gives
got : (m : Memory) (copies : List ℕ) {l : List BodyCommand} (y : Block) (b o v : ℕ) (t : Touched) (c : Option (List ℕ))
    → (touched? t ≡ true → bank_in m b ≡ remembered_of t) → (touched? t ≡ true → y.values ≡ at [] m.stores (store_of (remembered_of t)))
    → (PutAtWork b l → ⊥) → Fetched m copies b o v t → SameCopy m.stores copies y.values b l t c → at 0 (values_by c y) o ≡ v
got m copies y b o v untouched c s e f g h = absurd g
got m copies y b o v (remembered w) none s e f g h = ap (λ (vs : List ℕ). at 0 vs o) (e refl) ∙ sym (g (s refl))
got m copies y b o v (remembered w) (some vs) s e f g h = absurd h
got m copies y b o v (copied w k) none s e f g h = absurd (f h.1)
got m copies y b o v (copied w k) (some vs) s e f g h = ap (λ (us : List ℕ). at 0 us o) h ∙ sym g

-- what the plain machine's PUT copies
pub held : (stores : List (List ℕ)) (copies : List ℕ) (l : List BodyCommand) (y : Block) (b v k : ℕ) (c : Option (List ℕ))
    → SameCopy stores copies y.values b l (copied v k) c → values_by c y ≡ at [] stores (at 0 copies k)
held stores copies l y b v k none h = h.0
held stores copies l y b v k (some vs) h = h

module _ {blocks : ℕ} {m : Memory} {copies registers answers : List ℕ} {x : Transaction} where
  -- another inner step of the same command
  pub inner-step : {l : List BodyCommand} {s : Inner} (s' : Inner) → AtInner m copies x s' → PassFacts blocks m copies registers l x s answers
      → PassFacts blocks m copies registers l x s' answers
  inner-step s' h P = record { past = P.past; way = P.way; inner = h }

  -- LOAD and ADD
  pub computed : {s : Inner} (c : BodyCommand) (l : List BodyCommand) (rs : List ℕ) → ((b : ℕ) → PutAtWork b (c ∷ l) → ⊥)
      → until_commit (c ∷ l) ≡ c ∷ until_commit l
      → ((bs : List Block) (q : Pass) → q.registers ≡ registers → pass_by bs q c ≡ computes q rs)
      → PassFacts blocks m copies registers (c ∷ l) x s answers → PassFacts blocks m copies rs l x between answers
  unfolding passed
  computed c l rs np u f P =
      record {
        past = P.past;
        way = λ bs G.
            let w = P.way bs G in
            let q = w.pass in
            record {
              pass = computes q rs;
              beside = record {
                same_registers = refl;
                same_answers = w.beside.same_answers;
                size = w.beside.size;
                same_copies = λ b.
                    copy-onward m.stores copies (at no_block bs b).values b (c ∷ l) l (at untouched x.blocks b) (at none q.copies b) (np b)
                    (w.beside.same_copies b);
              };
              leads =
                  ap (λ (z : Pass). passed bs z (until_commit l)) (sym (f bs q w.beside.same_registers))
                  ∙ ap (λ (z : List BodyCommand). passed bs q z) (sym u) ∙ w.leads;
            };
        inner = tt;
      }

  -- GET writes its register
  pub got_done : {s : Inner} (r b o v : ℕ) (l : List BodyCommand) → Fetched m copies b o v (touched_of x b)
      → PassFacts blocks m copies registers (inside (access (GET r b o)) ∷ l) x s answers
      → PassFacts blocks m copies (replace registers r v) l x between (answers ++ (v ∷ []))
  unfolding passed pass_by until_commit
  got_done r b o v l g P =
      let np : (c : ℕ) → PutAtWork c (inside (access (GET r b o)) ∷ l) → ⊥ = λ c w. impossible (cc w.commands) in
      record {
        past = P.past;
        way = λ bs G.
            let w = P.way bs G in
            let q = w.pass in
            let e : at 0 (values_of bs q b) o ≡ v = got m copies (at no_block bs b) b o v (touched_of x b) (at none q.copies b) (G.still b)
            (G.values b) (np b) g (w.beside.same_copies b) in
            record {
              pass = pass_by bs q (inside (access (GET r b o)));
              beside = record {
                same_registers = rw (e, w.beside.same_registers);
                same_answers = rw (e, w.beside.same_answers);
                size = w.beside.size;
                same_copies = λ c.
                    copy-onward m.stores copies (at no_block bs c).values c (inside (access (GET r b o)) ∷ l) l (at untouched x.blocks c)
                    (at none q.copies c) (np c) (w.beside.same_copies c);
              };
              leads = w.leads;
            };
        inner = tt;
      }
