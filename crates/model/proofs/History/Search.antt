-- The search of WholeCases decides the claim: it finds an order exactly where there is one.
use Prim.Native.Nat.{ℕ, zero, suc}
use mathlib.Core.Bool.{Bool, true, ◌&&◌, false≢true}
use mathlib.Core.Path.{◌≡◌, refl, sym, ◌∙◌, ap, subst}
use mathlib.Core.Logic.{◌⊎◌, inl, inr}
use mathlib.Core.List.{List, [], ◌∷◌, ◌++◌, append_assoc}
use mathlib.Core.Option.{Option, none, some}
use native.Mathlib.Omega.{arith}
use lib.ListN.{length, length-append}
use Rattle.model.specs.Lists.{In}
use Rattle.model.specs.Plain.{Contents, result, plainly}
use Rattle.model.specs.History.{Operation, History, operation_at}
use Rattle.model.specs.Claim.{Replays, exactly, freely, Sequence, no_more, then, Once, EndedBefore, RespectsTime, WholeOperations}
use Rattle.model.proofs.Fit.Elements.{and_left, and_right, or_cases, or_left, or_right}
use Rattle.model.proofs.WholeCases.{same_numbers, counted_from, timely, interfered, fed, next, ordered, ordered_all, whole}
use Rattle.model.proofs.History.Ordered.{Ordered, whole_operations}
use Rattle.model.proofs.History.Counted.{counted-once, in_counted, counted-counts}
use Rattle.model.proofs.History.Tests.{both, numbers_equal, numbers_same, contents_equal, contents-same}
use Rattle.model.proofs.History.Tests.{timely_told, timely-found, interfered_told, interfered_found}

-- A LIST WITH AN ELEMENT PUT IN
module _ (a : ℕ) (l : List ℕ) where
  in_this : (r : List ℕ) → In a (r ++ (a ∷ l))
  in_this [] = inl refl
  in_this (b ∷ r) = inr (in_this r)

  in_with : (r : List ℕ) (b : ℕ) → In b (r ++ l) → In b (r ++ (a ∷ l))
  in_with [] b i = inr i
  in_with (x ∷ r) b (inl e) = inl e
  in_with (x ∷ r) b (inr i) = inr (in_with r b i)

  in_without : (r : List ℕ) (b : ℕ) → In b (r ++ (a ∷ l)) → (b ≡ a) ⊎ In b (r ++ l)
  in_without [] b (inl e) = inl e
  in_without [] b (inr i) = inr i
  in_without (x ∷ r) b (inl e) = inr (inl e)
  in_without (x ∷ r) b (inr i) = go (in_without r b i)
    where
      go : (b ≡ a) ⊎ In b (r ++ l) → (b ≡ a) ⊎ In b (x ∷ (r ++ l))
      go (inl e) = inl e
      go (inr j) = inr (inr j)

  once_without : (r : List ℕ) → Once (r ++ (a ∷ l)) → Once (r ++ l)
  once_without [] (n, o) = o
  once_without (x ∷ r) (n, o) = (λ i. n (in_with r x i), once_without r o)

  not_twice : (r : List ℕ) → Once (r ++ (a ∷ l)) → In a (r ++ l) → ⊥
  not_twice [] (n, o) i = n i
  not_twice (x ∷ r) (n, o) (inl e) = n (rw (sym e) (in_this r))
  not_twice (x ∷ r) (n, o) (inr i) = not_twice r o i

-- AN OPERATION FED
pub record Fed (go : Contents → Bool) (h : History) (a : ℕ) (c : Contents) : Type 0 where
  pub leaves : Contents
  pub replays : Replays h a c leaves
  pub follow : go leaves ≡ true

module _ (go : Contents → Bool) (h : History) (a : ℕ) (c : Contents) where
  pub fed_told : (o : Option Operation) → operation_at h a ≡ o → fed go h a o c ≡ true → Fed go h a c
  unfolding fed
  fed_told none e t = absurd (false≢true t)
  fed_told (some o) e t =
      or_cases (same_numbers (plainly o.arguments c).answers o.answers && go (plainly o.arguments c).contents)
      (same_numbers o.answers (0 ∷ []) && interfered h a o o.last && go c) t
      (λ u. record {
        leaves = (plainly o.arguments c).contents;
        replays =
            exactly o e (ap (λ (vs : List ℕ). result (plainly o.arguments c).contents vs)
            (numbers_equal _ _
            (and_left (same_numbers (plainly o.arguments c).answers o.answers) (go (plainly o.arguments c).contents) u)));
        follow = and_right (same_numbers (plainly o.arguments c).answers o.answers) _ u;
      })
      (λ u.
      let v : (same_numbers o.answers (0 ∷ []) && interfered h a o o.last) ≡ true =
      and_left (same_numbers o.answers (0 ∷ []) && interfered h a o o.last) (go c) u in
      record {
        leaves = c;
        replays =
            freely o e (numbers_equal _ _ (and_left _ (interfered h a o o.last) v))
            (interfered_told h a o o.last refl (and_right (same_numbers o.answers (0 ∷ [])) _ v)) refl;
        follow = and_right (same_numbers o.answers (0 ∷ []) && interfered h a o o.last) _ u;
      })

  pub fed_found : (c' : Contents) → Replays h a c c' → go c' ≡ true → fed go h a (operation_at h a) c ≡ true
  unfolding fed
  fed_found c' (exactly o e f) t =
      rw e
      (or_left (same_numbers (plainly o.arguments c).answers o.answers && go (plainly o.arguments c).contents) _
      (rw f (both (same_numbers o.answers o.answers) _ (numbers_same o.answers) t)))
  fed_found c' (freely o e f i g) t =
      rw e
      (or_right (same_numbers (plainly o.arguments c).answers o.answers && go (plainly o.arguments c).contents) _
      (both (same_numbers o.answers (0 ∷ []) && interfered h a o o.last) _
      (both (same_numbers o.answers (0 ∷ [])) _ (rw f refl) (interfered_found h a o i)) (rw g t)))

-- THE SEARCH: an order of the operations l that takes the contents c to d
module _ (h : History) (d : Contents) where
  pub record OrderFound (l : List ℕ) (c : Contents) : Type 0 where
    pub order : List ℕ
    pub once : Once l → Once order
    pub all : (b : ℕ) → In b l → In b order
    pub only : (b : ℕ) → In b order → In b l
    pub timely : RespectsTime h order
    pub replay : Sequence h order c d

  module _ (n : ℕ) (go : List ℕ → Contents → Bool) (told : (l : List ℕ) (c : Contents) → length l ≡ n → go l c ≡ true → OrderFound l c) where
    next_told : (r l : List ℕ) (c : Contents) → length (r ++ l) ≡ suc n → next go h r l c ≡ true → OrderFound (r ++ l) c
    unfolding next
    next_told r [] c k e = absurd (false≢true e)
    next_told r (a ∷ l) c k e =
        or_cases (timely h a (r ++ l) && fed (go (r ++ l)) h a (operation_at h a) c) (next go h (r ++ (a ∷ [])) l c) e
        (λ t. first (timely_told h a (r ++ l) (and_left (timely h a (r ++ l)) (fed (go (r ++ l)) h a (operation_at h a) c) t))
        (fed_told (go (r ++ l)) h a c (operation_at h a) refl (and_right (timely h a (r ++ l)) _ t)))
        (λ t. subst (λ (x : List ℕ). OrderFound x c) (append_assoc r (a ∷ []) l) (next_told (r ++ (a ∷ [])) l c (rw (append_assoc r (a ∷ []) l) k) t))
      where
        shorter : length (r ++ l) ≡ n
        shorter = let x = length-append r l in let y = length-append r (a ∷ l) in omega arith

        first : ((b : ℕ) → In b (r ++ l) → EndedBefore h b a → ⊥) → Fed (go (r ++ l)) h a c → OrderFound (r ++ (a ∷ l)) c
        first t f =
            let w = told (r ++ l) f.leaves shorter f.follow in
            record {
              order = a ∷ w.order;
              once = λ o. (λ i. not_twice a l r o (w.only a i), w.once (once_without a l r o));
              all = λ b i. all w b (in_without a l r b i);
              only = only w;
              timely = (λ b i. t b (w.only b i), w.timely);
              replay = then f.replays w.replay;
            }
          where
            all : (w : OrderFound (r ++ l) f.leaves) (b : ℕ) → (b ≡ a) ⊎ In b (r ++ l) → In b (a ∷ w.order)
            all w b (inl e) = inl e
            all w b (inr i) = inr (w.all b i)

            only : (w : OrderFound (r ++ l) f.leaves) (b : ℕ) → In b (a ∷ w.order) → In b (r ++ (a ∷ l))
            only w b (inl e) = rw e (in_this a l r)
            only w b (inr i) = in_with a l r b (w.only b i)

  ordered_told : (n : ℕ) (l : List ℕ) (c : Contents) → length l ≡ n → ordered n h d l c ≡ true → OrderFound l c
  unfolding ordered
  ordered_told zero [] c k e =
      record { order = []; once = λ o. tt; all = λ b i. i; only = λ b i. i; timely = tt; replay = rw (contents_equal c d e) no_more }
  ordered_told zero (a ∷ l) c k e = absurd (omega arith)
  ordered_told (suc n) l c k e = next_told n (ordered n h d) (ordered_told n) [] l c k e

  next-found : (go : List ℕ → Contents → Bool) (a : ℕ) (c : Contents) (r l : List ℕ) → In a l
      → ((x y : List ℕ) → x ++ (a ∷ y) ≡ r ++ l → (timely h a (x ++ y) && fed (go (x ++ y)) h a (operation_at h a) c) ≡ true) → next go h r l c ≡ true
  unfolding next
  next-found go a c r [] x'' k = elim x'' [ ]
  next-found go a c r (b ∷ l) (inl e) k =
      rw (sym e) (or_left (timely h a (r ++ l) && fed (go (r ++ l)) h a (operation_at h a) c) _ (k r l (rw e refl)))
  next-found go a c r (b ∷ l) (inr i) k =
      or_right (timely h b (r ++ l) && fed (go (r ++ l)) h b (operation_at h b) c) _
      (next-found go a c (r ++ (b ∷ [])) l i (λ x y q. k x y (q ∙ append_assoc r (b ∷ []) l)))

  ordered_found : (n : ℕ) (l s : List ℕ) (c : Contents) → length l ≡ n → Once l → Once s → ((b : ℕ) → In b l → In b s) → ((b : ℕ) → In b s → In b l)
      → RespectsTime h s → Sequence h s c d → ordered n h d l c ≡ true
  unfolding ordered
  ordered_found zero l [] c k ol os into from t no_more = contents-same c
  ordered_found zero [] (a ∷ s) c k ol os into from t q = absurd (from a (inl refl))
  ordered_found zero (b ∷ l) (a ∷ s) c k ol os into from t q = absurd (omega arith)
  ordered_found (suc n) [] [] c k ol os into from t q = absurd (omega arith)
  ordered_found (suc n) (b ∷ l) [] c k ol os into from t q = absurd (into b (inl refl))
  ordered_found (suc n) l (a ∷ s) c k ol (na, os) into from (ta, t) (then {c' = c'} p q) =
      next-found (ordered n h d) a c [] l (from a (inl refl))
      (λ x y e. both (timely h a (x ++ y)) _ (timely-found h a (x ++ y) (λ b i. ta b (left x y e b i)))
      (fed_found (ordered n h d (x ++ y)) h a c c' p
      (ordered_found n (x ++ y) s c' (shorter x y e) (once_without a y x (subst Once (sym e) ol)) os (left x y e) (right x y e) t q)))
    where
      shorter : (x y : List ℕ) → x ++ (a ∷ y) ≡ l → length (x ++ y) ≡ n
      shorter x y e =
          let u = length-append x y in
          let v = length-append x (a ∷ y) in
          let w : length (x ++ (a ∷ y)) ≡ length l = ap (λ (z : List ℕ). length z) e in
          omega arith

      left : (x y : List ℕ) → x ++ (a ∷ y) ≡ l → (b : ℕ) → In b (x ++ y) → In b s
      left x y e b i = go (into b (subst (λ (z : List ℕ). In b z) e (in_with a y x b i)))
        where
          go : In b (a ∷ s) → In b s
          go (inl f) = absurd (not_twice a y x (subst Once (sym e) ol) (rw f at i))
          go (inr j) = j

      right : (x y : List ℕ) → x ++ (a ∷ y) ≡ l → (b : ℕ) → In b s → In b (x ++ y)
      right x y e b i = go (in_without a y x b (subst (λ (z : List ℕ). In b z) (sym e) (from b (inr i))))
        where
          go : (b ≡ a) ⊎ In b (x ++ y) → In b (x ++ y)
          go (inl f) = absurd (na (rw f at i))
          go (inr j) = j

-- THE SEARCH DECIDES THE CLAIM
module _ (h : History) (c d : Contents) where
  pub search_told : ordered_all h d (counted_from 0 h.began) c ≡ true → Ordered h c d
  unfolding ordered_all
  search_told e =
      let w = ordered_told h d (length (counted_from 0 h.began)) (counted_from 0 h.began) c refl e in
      record {
        order = w.order;
        once = w.once (counted-once 0 h.began);
        all = λ a k. w.all a (in_counted 0 h.began a a (omega arith) k);
        only = λ a i. counted-counts 0 h.began a a (omega arith) (w.only a i);
        timely = w.timely;
        replay = w.replay;
      }

  pub search_found : Ordered h c d → ordered_all h d (counted_from 0 h.began) c ≡ true
  unfolding ordered_all
  search_found w =
      ordered_found h d (length (counted_from 0 h.began)) (counted_from 0 h.began) w.order c refl (counted-once 0 h.began) w.once
      (λ b i. w.all b (counted-counts 0 h.began b b (omega arith) i)) (λ b i. in_counted 0 h.began b b (omega arith) (w.only b i)) w.timely
      w.replay

-- a run that passes the test has the claim, and a run that has the claim passes the test
module _ (sheet : List ℕ) (limit : ℕ) where
  pub passed_claimed : whole sheet limit ≡ true → WholeOperations sheet limit
  unfolding whole
  passed_claimed e = whole_operations sheet limit refl refl refl (search_told _ _ _ e)

  pub claimed_passed : WholeOperations sheet limit → whole sheet limit ≡ true
  unfolding whole
  claimed_passed w =
      search_found _ _ _ (record { order = w.order; once = w.once; all = w.all; only = w.only; timely = w.timely; replay = w.replay })
