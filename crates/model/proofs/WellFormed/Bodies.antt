-- A good body is read without fault, whatever is read without fault after it.
use Prim.Native.Nat.{ℕ, suc, ◌+◌, ◌<◌, ◌≤◌}
use mathlib.Core.Path.{◌≡◌, refl, ◌∙◌, ap}
use mathlib.Core.Bool.{true, false}
use mathlib.Core.List.{List, [], ◌∷◌, ◌++◌, map, append-nil, append_assoc}
use mathlib.Core.Option.{none}
use native.Mathlib.Omega.{arith}
use lib.ListN.{length, length-append}
use borrow.Author.Tests.{lt-ltb}
use Rattle.model.specs.Ceilings.{max_commands, max_pairs, max_touched, max_puts}
use Rattle.model.specs.Command.{GET, PUT, READ, PAIR, SWAP, BEGIN, access, COMMIT, LOAD, ADD, outside, inside}
use Rattle.model.specs.Command.{Release, BodyCommand, Command, body}
use Rattle.model.specs.Fault.{body_section, SheetCounts, Body, Known, empty_body, among, include, room, none?}
use Rattle.model.specs.Fault.{in_place_outside, in_place_body, in_place, under_ceiling_outside, under_ceiling_inside, under_ceiling_body, under_ceiling}
use Rattle.model.specs.Fault.{in_range, new_word_outside, new_word_body, new_word, rising, lowest, fault_of}
use Rattle.model.specs.Sheet.{known, counted, after_outside, after_inside, after_body, after}
use Rattle.model.specs.Encoding.{ValuesFit}
use Rattle.model.specs.WellFormed.{Each, Alone, BeforeSwap, BeforeCommit, different_from, pair_words, named_blocks, put_blocks}
use Rattle.model.specs.WellFormed.{GoodPairs, GoodTransaction, Closed, ends, alone, exchange, transaction, GoodBody}
use Rattle.model.proofs.Lists.{impossible, test?}
use Rattle.model.proofs.Fit.Elements.{or_left, or_right}
use Rattle.model.proofs.Fit.Reading.{Good, going}
use Rattle.model.proofs.WellFormed.Facts.{each_left, each_right, include-new, different_least, different-new, different-rest, range-body}

pub no_fault : (k : Known) (c : Command) → in_place k c ≡ true → under_ceiling k c ≡ true → in_range k.counts c ≡ true → new_word k.body c ≡ true
    → rising k c ≡ true → fault_of k c ≡ none
unfolding fault_of lowest
no_fault k c p u r w s = rw (p, u, r, w, s) refl

-- a command whose operands are in the ranges of a sheet with those counts
pub record Fine (n : SheetCounts) (c : Command) : Type 0 where
  pub range : in_range n c ≡ true
  pub value : ValuesFit c

-- WHAT IS KNOWN IN A BODY: t tasks so far, m commands so far
abbrev pub known_at : SheetCounts → ℕ → Release → ℕ → Body → Known
known_at n t last m b = known body_section (counted n.words n.blocks t m 0) b last

-- PAIRs wait, or none do; or a transaction is open
abbrev pub open_pairs : List ℕ → Body
open_pairs ws = record { empty = false; pairs = ws; inside = false; touched = []; puts = [] }

abbrev open_transaction : List ℕ → List ℕ → Body
open_transaction ts us = record { empty = false; pairs = []; inside = true; touched = ts; puts = us }

-- there is room for one more of the numbers that in the end are under the ceiling
has_room : (most x : ℕ) (seen l : List ℕ) → length (different_from seen (x ∷ l)) ≤ most → room most x seen ≡ true
unfolding different_from
has_room most x seen l h =
    test? (among x seen)
    (λ e. or_left (among x seen) _ e)
    (λ e.
    let one : length (include x seen) ≡ length seen + 1 = ap length (include-new x seen e) ∙ length-append seen (x ∷ []) in
    or_right (among x seen) _ (lt-ltb (length seen) most (omega (arith, different_least (include x seen) l))))

-- some PAIR waits
some_pair : (ws : List ℕ) → 1 ≤ length ws → none? ws ≡ false
some_pair [] h = absurd (omega arith)
some_pair (w ∷ ws) h = refl

-- the commands of two parts of a body, one after the other
parts : (a b : List BodyCommand) (l : List Command) → map body (a ++ b) ++ l ≡ map body a ++ (map body b ++ l)
parts [] b l = refl
parts (c ∷ a) b l = ap (λ (z : List Command). body c ∷ z) (parts a b l)

abbrev FineBody : SheetCounts → BodyCommand → Type 0
FineBody n c = Fine n (body c)

module _ (n : SheetCounts) (t : ℕ) (last : Release) where
  abbrev GoodAt : ℕ → Body → List Command → Type 0
  GoodAt m b l = Good ValuesFit (known_at n t last m b) l

  body_going : (m : ℕ) (b : Body) (c : BodyCommand) (l : List Command) → m < max_commands → in_place_body (known_at n t last m b) c ≡ true
      → under_ceiling_body b c ≡ true → new_word_body b c ≡ true → FineBody n c → GoodAt (suc m) (after_body b c) l → GoodAt m b (body c ∷ l)
  unfolding after in_place under_ceiling in_range new_word rising
  body_going m b c l h p u w f g =
      going
      (no_fault (known_at n t last m b) (body c) p (rw (lt-ltb m max_commands h, u) refl)
      (range-body (known_at n t last m b).counts n c refl refl ∙ f.range) w refl)
      refl f.value g

  -- LOAD, ADD or READ outside a transaction
  alone-good : (c : BodyCommand) (m : ℕ) (ws : List ℕ) (l : List Command) → Alone c → FineBody n c → m < max_commands → GoodAt (suc m) (open_pairs ws) l
      → GoodAt m (open_pairs ws) (body c ∷ l)
  unfolding after_body after_outside in_place_body in_place_outside under_ceiling_body under_ceiling_outside new_word_body new_word_outside
  alone-good (LOAD r v) m ws l a f h g = body_going m (open_pairs ws) (LOAD r v) l h refl refl refl f g
  alone-good (ADD r q) m ws l a f h g = body_going m (open_pairs ws) (ADD r q) l h refl refl refl f g
  alone-good (outside (READ r w)) m ws l a f h g = body_going m (open_pairs ws) (outside (READ r w)) l h refl refl refl f g
  alone-good (outside (PAIR w o q)) m ws l a f h g = absurd a
  alone-good (outside (SWAP r)) m ws l a f h g = absurd a
  alone-good (outside BEGIN) m ws l a f h g = absurd a
  alone-good (inside c) m ws l a f h g = absurd a

  -- AN EXCHANGE
  pairs-good : (cs : List BodyCommand) (m e : ℕ) (ws : List ℕ) (l : List Command) → Each BeforeSwap cs → Each (FineBody n) cs → m + length cs ≡ e
      → e ≤ max_commands → length ws + length (pair_words cs) ≤ max_pairs → different_from ws (pair_words cs) ≡ ws ++ pair_words cs
      → GoodAt e (open_pairs (ws ++ pair_words cs)) l → GoodAt m (open_pairs ws) (map body cs ++ l)
  unfolding after_body after_outside in_place_body in_place_outside under_ceiling_body under_ceiling_outside new_word_body new_word_outside
  pairs-good [] m e ws l b f s h most once g =
      let same : e ≡ m = omega arith in
      rw (append-nil ws, same) at g
  pairs-good (LOAD r v ∷ cs) m e ws l b f s h most once g =
      alone-good (LOAD r v) m ws (map body cs ++ l) tt f.0 (omega arith)
      (pairs-good cs (suc m) e ws l b.1 f.1 (omega arith) h most once g)
  pairs-good (ADD r q ∷ cs) m e ws l b f s h most once g =
      alone-good (ADD r q) m ws (map body cs ++ l) tt f.0 (omega arith)
      (pairs-good cs (suc m) e ws l b.1 f.1 (omega arith) h most once g)
  pairs-good (outside (READ r w) ∷ cs) m e ws l b f s h most once g =
      alone-good (outside (READ r w)) m ws (map body cs ++ l) tt f.0 (omega arith)
      (pairs-good cs (suc m) e ws l b.1 f.1 (omega arith) h most once g)
  pairs-good (outside (PAIR w o q) ∷ cs) m e ws l b f s h most once g =
      let one = length-append ws (w ∷ []) in
      body_going m (open_pairs ws) (outside (PAIR w o q)) (map body cs ++ l) (omega arith) refl (lt-ltb (length ws) max_pairs (omega arith))
      (rw (different-new w ws (pair_words cs) once) refl) f.0
      (pairs-good cs (suc m) e (ws ++ (w ∷ [])) l b.1 f.1 (omega arith) h (omega arith) (different-rest w ws (pair_words cs) once)
      (rw (append_assoc ws (w ∷ []) (pair_words cs)) g))
  pairs-good (outside (SWAP r) ∷ cs) m e ws l b f s h most once g = absurd b.0
  pairs-good (outside BEGIN ∷ cs) m e ws l b f s h most once g = absurd b.0
  pairs-good (inside c ∷ cs) m e ws l b f s h most once g = absurd b.0

  exchange-good : (cs : List BodyCommand) (r m : ℕ) (l : List Command) → GoodPairs cs → Each (FineBody n) cs → FineBody n (outside (SWAP r))
      → m + length cs < max_commands → GoodAt (suc (m + length cs)) (open_pairs []) l
      → GoodAt m (open_pairs []) (map body cs ++ body (outside (SWAP r)) ∷ l)
  unfolding after_body after_outside in_place_body in_place_outside under_ceiling_body under_ceiling_outside new_word_body new_word_outside
  exchange-good cs r m l p f x h g =
      pairs-good cs m (m + length cs) [] (body (outside (SWAP r)) ∷ l) p.each f refl (omega arith) (omega (arith, p.most)) p.once
      (body_going (m + length cs) (open_pairs (pair_words cs)) (outside (SWAP r)) l h (rw (some_pair (pair_words cs) p.some) refl) refl refl x g)

  -- A TRANSACTION
  accesses-good : (cs : List BodyCommand) (m e : ℕ) (ts us : List ℕ) (l : List Command) → Each BeforeCommit cs → Each (FineBody n) cs
      → m + length cs ≡ e → e ≤ max_commands → length (different_from ts (named_blocks cs)) ≤ max_touched
      → length (different_from us (put_blocks cs)) ≤ max_puts
      → GoodAt e (open_transaction (different_from ts (named_blocks cs)) (different_from us (put_blocks cs))) l
      → GoodAt m (open_transaction ts us) (map body cs ++ l)
  unfolding after_body after_inside in_place_body under_ceiling_body under_ceiling_inside new_word_body different_from
  accesses-good [] m e ts us l b f s h tm um g =
      let same : e ≡ m = omega arith in
      rw same at g
  accesses-good (LOAD r v ∷ cs) m e ts us l b f s h tm um g =
      body_going m (open_transaction ts us) (LOAD r v) (map body cs ++ l) (omega arith) refl refl refl f.0
      (accesses-good cs (suc m) e ts us l b.1 f.1 (omega arith) h tm um g)
  accesses-good (ADD r q ∷ cs) m e ts us l b f s h tm um g =
      body_going m (open_transaction ts us) (ADD r q) (map body cs ++ l) (omega arith) refl refl refl f.0
      (accesses-good cs (suc m) e ts us l b.1 f.1 (omega arith) h tm um g)
  accesses-good (outside c ∷ cs) m e ts us l b f s h tm um g = absurd b.0
  accesses-good (inside (access (GET r x o)) ∷ cs) m e ts us l b f s h tm um g =
      body_going m (open_transaction ts us) (inside (access (GET r x o))) (map body cs ++ l) (omega arith) refl
      (has_room max_touched x ts (named_blocks cs) tm) refl f.0
      (accesses-good cs (suc m) e (include x ts) us l b.1 f.1 (omega arith) h tm um g)
  accesses-good (inside (access (PUT x o r)) ∷ cs) m e ts us l b f s h tm um g =
      body_going m (open_transaction ts us) (inside (access (PUT x o r))) (map body cs ++ l) (omega arith) refl
      (rw (has_room max_touched x ts (named_blocks cs) tm, has_room max_puts x us (put_blocks cs) um) refl) refl f.0
      (accesses-good cs (suc m) e (include x ts) (include x us) l b.1 f.1 (omega arith) h tm um g)
  accesses-good (inside COMMIT ∷ cs) m e ts us l b f s h tm um g = absurd b.0

  transaction-good : (cs : List BodyCommand) (m : ℕ) (l : List Command) → GoodTransaction cs → FineBody n (outside BEGIN) → Each (FineBody n) cs
      → FineBody n (inside COMMIT) → suc (m + length cs) < max_commands → GoodAt (suc (suc (m + length cs))) (open_pairs []) l
      → GoodAt m (open_pairs []) (body (outside BEGIN) ∷ map body cs ++ body (inside COMMIT) ∷ l)
  unfolding after_body after_outside after_inside in_place_body in_place_outside under_ceiling_body under_ceiling_outside under_ceiling_inside new_word_body new_word_outside
  transaction-good cs m l p x f y h g =
      let touched : List ℕ = different_from [] (named_blocks cs) in
      let puts : List ℕ = different_from [] (put_blocks cs) in
      body_going m (open_pairs []) (outside BEGIN) (map body cs ++ body (inside COMMIT) ∷ l) (omega arith) refl refl refl x
      (accesses-good cs (suc m) (suc (m + length cs)) [] [] (body (inside COMMIT) ∷ l) p.each f (omega arith) (omega arith) p.blocks p.puts
      (body_going (suc (m + length cs)) (open_transaction touched puts) (inside COMMIT) l h refl refl refl y g))

  -- A BODY
  closed-good : {cs : List BodyCommand} → Closed cs → (m e : ℕ) (l : List Command) → Each (FineBody n) cs → m + length cs ≡ e → e ≤ max_commands
      → GoodAt e (open_pairs []) l → GoodAt m (open_pairs []) (map body cs ++ l)
  closed-good ends m e l f s h g = let same : e ≡ m = omega arith in rw same at g
  closed-good (alone {c} {l = cs} a p) m e l f s h g =
      alone-good c m [] (map body cs ++ l) a f.0 (omega arith) (closed-good p (suc m) e l f.1 (omega arith) h g)
  closed-good (exchange pairs r cs q p) m e l f s h g =
      let both = length-append pairs (outside (SWAP r) ∷ cs) in
      let fine = each_right (FineBody n) pairs (outside (SWAP r) ∷ cs) f in
      rw (parts pairs (outside (SWAP r) ∷ cs) l)
      (exchange-good pairs r m (map body cs ++ l) q (each_left (FineBody n) pairs (outside (SWAP r) ∷ cs) f) fine.0 (omega arith)
      (closed-good p (suc (m + length pairs)) e l fine.1 (omega arith) h g))
  closed-good (transaction commands cs q p) m e l f s h g =
      let both = length-append commands (inside COMMIT ∷ cs) in
      let fine = each_right (FineBody n) commands (inside COMMIT ∷ cs) f.1 in
      rw (parts commands (inside COMMIT ∷ cs) l)
      (transaction-good commands m (map body cs ++ l) q f.0 (each_left (FineBody n) commands (inside COMMIT ∷ cs) f.1) fine.0 (omega arith)
      (closed-good p (suc (suc (m + length commands))) e l fine.1 (omega arith) h g))

  -- the first command of a body
  first_good : (c : BodyCommand) (m : ℕ) (l : List Command) → GoodAt m (open_pairs []) (body c ∷ l) → GoodAt m empty_body (body c ∷ l)
  unfolding fault_of in_place in_place_body under_ceiling under_ceiling_body new_word new_word_body rising after after_body after_outside after_inside
  first_good (LOAD r v) m l (going q e p g) = going q e p g
  first_good (ADD r s) m l (going q e p g) = going q e p g
  first_good (outside (READ r w)) m l (going q e p g) = going q e p g
  first_good (outside (PAIR w o s)) m l (going q e p g) = going q e p g
  first_good (outside (SWAP r)) m l (going q e p g) = going q e p g
  first_good (outside BEGIN) m l (going q e p g) = going q e p g
  first_good (inside c) m l (going q e p g) = impossible (cc)

  pub body-good : (cs : List BodyCommand) (m e : ℕ) (l : List Command) → GoodBody cs → Each (FineBody n) cs → m + length cs ≡ e → e ≤ max_commands
      → GoodAt e (open_pairs []) l → GoodAt m empty_body (map body cs ++ l)
  body-good [] m e l b f s h g = absurd (omega (arith, b.some))
  body-good (c ∷ cs) m e l b f s h g = first_good c m (map body cs ++ l) (closed-good b.closed m e l f s h g)
