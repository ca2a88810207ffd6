-- The tests of WholeCases say what they should: equal contents, what ended before, and the free answer.
use Prim.Native.Nat.{ℕ, zero, suc, ◌+◌}
use mathlib.Core.Bool.{Bool, true, false, not, ◌&&◌, true≢false, false≢true}
use mathlib.Core.Path.{◌≡◌, refl, sym, ◌∙◌, ap, subst}
use mathlib.Core.Logic.{◌≢◌, inl, inr}
use mathlib.Core.List.{List, [], ◌∷◌}
use mathlib.Core.Option.{Option, none, some}
use native.Mathlib.Omega.{arith}
use lib.Dec.{eqb, ltb}
use borrow.Author.Tests.{eqb-true, eqb-false, eq-eqb, ne_eqb, ltb-true, lt-ltb, not-true}
use Rattle.model.specs.Lists.{at, In}
use Rattle.model.specs.Command.{Block}
use Rattle.model.specs.Plain.{Contents}
use Rattle.model.specs.History.{Operation, History, operation_at}
use Rattle.model.specs.Claim.{Interfered, EndedBefore}
use Rattle.model.specs.Arguments.{Pair, Arguments, read_of, swap_of, transaction_of}
use Rattle.model.proofs.Fit.Elements.{and_left, and_right, or_cases, or_left, or_right}
use Rattle.model.proofs.WholeCases.{same_numbers, same_blocks, same_contents, last_before, ended_before, timely}
use Rattle.model.proofs.WholeCases.{names, changes_named, pairs_of, interferes, interfered_from, interfered}

pub both : (a b : Bool) → a ≡ true → b ≡ true → (a && b) ≡ true
both a b e f = rw (e, f) refl

-- EQUAL NUMBERS AND CONTENTS
pub numbers_equal : (l m : List ℕ) → same_numbers l m ≡ true → l ≡ m
unfolding same_numbers
numbers_equal [] [] e = refl
numbers_equal [] (b ∷ m) e = absurd (false≢true e)
numbers_equal (a ∷ l) [] e = absurd (false≢true e)
numbers_equal (a ∷ l) (b ∷ m) e = let x = eqb-true a b (and_left _ _ e) in let y = numbers_equal l m (and_right (eqb a b) _ e) in cc

pub numbers_same : (l : List ℕ) → same_numbers l l ≡ true
unfolding same_numbers
numbers_same [] = refl
numbers_same (a ∷ l) = both _ _ (eq-eqb a a refl) (numbers_same l)

block_equal : (a b : Block) → a.version ≡ b.version → a.values ≡ b.values → a ≡ b
block_equal a b e f =
    ap (λ (v : ℕ). record { version = v; values = a.values }) e ∙ ap (λ (l : List ℕ). record { version = b.version; values = l }) f

blocks_equal : (l m : List Block) → same_blocks l m ≡ true → l ≡ m
unfolding same_blocks
blocks_equal [] [] e = refl
blocks_equal [] (b ∷ m) e = absurd (false≢true e)
blocks_equal (a ∷ l) [] e = absurd (false≢true e)
blocks_equal (a ∷ l) (b ∷ m) e =
    let v = eqb-true a.version b.version (and_left _ _ (and_left _ _ e)) in
    let x = block_equal a b v (numbers_equal a.values b.values (and_right (eqb a.version b.version) _ (and_left _ _ e))) in
    let y = blocks_equal l m (and_right (eqb a.version b.version && same_numbers a.values b.values) _ e) in
    cc

blocks-same : (l : List Block) → same_blocks l l ≡ true
unfolding same_blocks
blocks-same [] = refl
blocks-same (a ∷ l) = both _ _ (both _ _ (eq-eqb a.version a.version refl) (numbers_same a.values)) (blocks-same l)

pub contents_equal : (c d : Contents) → same_contents c d ≡ true → c ≡ d
unfolding same_contents
contents_equal c d e =
    ap (λ (w : List ℕ). record { words = w; blocks = c.blocks }) (numbers_equal c.words d.words (and_left _ _ e))
    ∙ ap (λ (b : List Block). record { words = d.words; blocks = b })
    (blocks_equal c.blocks d.blocks (and_right (same_numbers c.words d.words) _ e))

pub contents-same : (c : Contents) → same_contents c c ≡ true
unfolding same_contents
contents-same c = both _ _ (numbers_same c.words) (blocks-same c.blocks)

-- TIME
module _ (h : History) (a : ℕ) where
  ended_told : (b : ℕ) (o : Option Operation) → operation_at h b ≡ o → ended_before a o ≡ true → EndedBefore h b a
  unfolding ended_before last_before
  ended_told b none e t = absurd (false≢true t)
  ended_told b (some o) e t = go o.last refl t
    where
      go : (z : Option ℕ) → o.last ≡ z → last_before a z ≡ true → EndedBefore h b a
      go none f t = absurd (false≢true t)
      go (some z) f t = record { operation = o; is = e; last = z; lasts = f; before = ltb-true z a t }

  ended_seen : (b : ℕ) → EndedBefore h b a → ended_before a (operation_at h b) ≡ true
  unfolding ended_before last_before
  ended_seen b e = rw (e.is, e.lasts) (lt-ltb e.last a e.before)

  pub timely_told : (l : List ℕ) → timely h a l ≡ true → (b : ℕ) → In b l → EndedBefore h b a → ⊥
  unfolding timely
  timely_told [] t b x3 f = elim x3 [ ]
  timely_told (c ∷ l) t b (inl e) f =
      true≢false (sym (ended_seen b f) ∙ ap (λ (x : ℕ). ended_before a (operation_at h x)) e
      ∙ not-true _ (and_left (not (ended_before a (operation_at h c))) (timely h a l) t))
  timely_told (c ∷ l) t b (inr i) f = timely_told l (and_right (not (ended_before a (operation_at h c))) _ t) b i f

  pub timely-found : (l : List ℕ) → ((b : ℕ) → In b l → EndedBefore h b a → ⊥) → timely h a l ≡ true
  unfolding timely
  timely-found [] f = refl
  timely-found (c ∷ l) f = both _ _ (go (ended_before a (operation_at h c)) refl) (timely-found l (λ b i. f b (inr i)))
    where
      go : (t : Bool) → ended_before a (operation_at h c) ≡ t → not (ended_before a (operation_at h c)) ≡ true
      go true e = absurd (f c (inl refl) (ended_told c (operation_at h c) refl e))
      go false e = rw e refl

-- THE FREE ANSWER
record Named (w : ℕ) (l : List Pair) : Type 0 where
  pub named : Pair
  pub among : In named l
  pub on : w ≡ named.word

names_told : (w : ℕ) (l : List Pair) → names w l ≡ true → Named w l
unfolding names
names_told w [] e = absurd (false≢true e)
names_told w (p ∷ l) e =
    or_cases (eqb w p.word) (names w l) e (λ t. record { named = p; among = inl refl; on = eqb-true w p.word t })
    (λ t. let n = names_told w l t in record { named = n.named; among = inr n.among; on = n.on })

names-found : (w : ℕ) (l : List Pair) (p : Pair) → In p l → w ≡ p.word → names w l ≡ true
unfolding names
names-found w [] p x'' f = elim x'' [ ]
names-found w (q ∷ l) p (inl e) f = or_left _ _ (eq-eqb w q.word (f ∙ ap (λ (x : Pair). x.word) e))
names-found w (q ∷ l) p (inr i) f = or_right (eqb w q.word) _ (names-found w l p i f)

record Changing (ps qs : List Pair) : Type 0 where
  pub changing : Pair
  pub among : In changing qs
  pub differs : changing.old ≢ changing.new
  pub on : Named changing.word ps

changes_told : (ps qs : List Pair) → changes_named ps qs ≡ true → Changing ps qs
unfolding changes_named
changes_told ps [] e = absurd (false≢true e)
changes_told ps (q ∷ l) e =
    or_cases (not (eqb q.old q.new) && names q.word ps) (changes_named ps l) e
    (λ t. record {
      changing = q;
      among = inl refl;
      differs = eqb-false _ _ (not-true _ (and_left _ _ t));
      on = names_told q.word ps (and_right (not (eqb q.old q.new)) _ t);
    })
    (λ t. let c = changes_told ps l t in record { changing = c.changing; among = inr c.among; differs = c.differs; on = c.on })

changes-found : (ps qs : List Pair) (q : Pair) → In q qs → q.old ≢ q.new → names q.word ps ≡ true → changes_named ps qs ≡ true
unfolding changes_named
changes-found ps [] q x3 n t = elim x3 [ ]
changes-found ps (c ∷ l) q (inl e) n t =
    rw (sym e) (or_left (not (eqb q.old q.new) && names q.word ps) _ (rw (ne_eqb q.old q.new n) t))
changes-found ps (c ∷ l) q (inr i) n t = or_right (not (eqb c.old c.new) && names c.word ps) _ (changes-found ps l q i n t)

swap-pairs : (g : Arguments) (p : Pair) → In p (pairs_of g) → g ≡ swap_of (pairs_of g)
swap-pairs (read_of _) p i = elim i [ ]
swap-pairs (transaction_of _ _) p i = elim i [ ]
swap-pairs (swap_of ps) p i = refl

module _ (h : History) (a : ℕ) (o : Operation) (z : ℕ) where
  interferes_told : o.last ≡ some z → (b : ℕ) (q : Option Operation) → operation_at h b ≡ q → interferes a z o b q ≡ true → Interfered h a o
  unfolding interferes
  interferes_told f b none e t = absurd (false≢true t)
  interferes_told f b (some q) e t =
      let c = changes_told (pairs_of o.arguments) (pairs_of q.arguments) (and_right (ltb a b && ltb b z && ltb o.task q.task) _ t) in
      let u : (ltb a b && ltb b z && ltb o.task q.task) ≡ true =
      and_left _ (changes_named (pairs_of o.arguments) (pairs_of q.arguments)) t in
      record {
        pairs = pairs_of o.arguments;
        is = swap-pairs o.arguments c.on.named c.on.among;
        named = c.on.named;
        names = c.on.among;
        last = z;
        lasts = f;
        by = b;
        other = q;
        began = e;
        higher = ltb-true o.task q.task (and_right (ltb a b && ltb b z) _ u);
        after = ltb-true a b (and_left (ltb a b) (ltb b z) (and_left (ltb a b && ltb b z) (ltb o.task q.task) u));
        before = ltb-true b z (and_right (ltb a b) (ltb b z) (and_left (ltb a b && ltb b z) (ltb o.task q.task) u));
        other_pairs = pairs_of q.arguments;
        other_is = swap-pairs q.arguments c.changing c.among;
        changing = c.changing;
        changes = c.among;
        on = c.on.on;
        differs = c.differs;
      }

  interfered-from : o.last ≡ some z → (b : ℕ) (l : List (Option Operation)) → ((i j : ℕ) → b + i ≡ j → operation_at h j ≡ at none l i)
      → interfered_from a z o b l ≡ true → Interfered h a o
  unfolding interfered_from at
  interfered-from f b [] s e = absurd (false≢true e)
  interfered-from f b (q ∷ l) s e =
      or_cases (interferes a z o b q) (interfered_from a z o (suc b) l) e
      (interferes_told f b q (s 0 b (omega arith)))
      (interfered-from f (suc b) l (λ i j k. s (suc i) j (omega arith)))

  from_found : (b : ℕ) (l : List (Option Operation)) (i j : ℕ) → b + i ≡ j → interferes a z o j (at none l i) ≡ true → interfered_from a z o b l ≡ true
  unfolding interfered_from interferes at
  from_found b [] i j k e = absurd (false≢true e)
  from_found b (q ∷ l) zero j k e = or_left _ _ (subst (λ (n : ℕ). interferes a z o n q ≡ true) (omega arith) e)
  from_found b (q ∷ l) (suc i) j k e = or_right (interferes a z o b q) _ (from_found (suc b) l i j (omega arith) e)

pub interfered_told : (h : History) (a : ℕ) (o : Operation) (z : Option ℕ) → o.last ≡ z → interfered h a o z ≡ true → Interfered h a o
unfolding interfered
interfered_told h a o none f e = absurd (false≢true e)
interfered_told h a o (some z) f e = interfered-from h a o z f 0 h.began (λ i j k. ap (λ (n : ℕ). operation_at h n) (omega arith)) e

pub interfered_found : (h : History) (a : ℕ) (o : Operation) → Interfered h a o → interfered h a o o.last ≡ true
unfolding interfered interferes
interfered_found h a o i =
    subst (λ (z : Option ℕ). interfered h a o z ≡ true) (sym i.lasts)
    (from_found h a o i.last 0 h.began i.by i.by (omega arith)
    (rw i.began
    (both (ltb a i.by && ltb i.by i.last && ltb o.task i.other.task) _
    (both (ltb a i.by && ltb i.by i.last) _ (both _ _ (lt-ltb a i.by i.after) (lt-ltb i.by i.last i.before))
    (lt-ltb o.task i.other.task i.higher))
    (changes-found (pairs_of o.arguments) (pairs_of i.other.arguments) i.changing
    (rw i.other_is i.changes) i.differs
    (names-found i.changing.word (pairs_of o.arguments) i.named (rw i.is i.names) i.on)))))
