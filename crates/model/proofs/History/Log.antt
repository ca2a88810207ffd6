-- The log: each operation of an order at one tick, the contents before and after it those of the run. `contents t` are those after t ticks.
use Prim.Native.Nat.{ℕ, suc, ◌≤◌}
use mathlib.Core.Path.{◌≡◌, refl, sym, ap, subst}
use mathlib.Core.Logic.{◌⊎◌, inl, inr}
use mathlib.Core.List.{List, [], ◌∷◌, ◌++◌}
use mathlib.Core.Option.{some}
use native.Mathlib.Omega.{arith}
use Rattle.model.specs.Plain.{Contents}
use Rattle.model.specs.History.{Operation, History, operation_at}
use Rattle.model.specs.Claim.{Replays, Sequence, no_more, then, Once, RespectsTime}
use Rattle.model.specs.Lists.{In}
use Rattle.model.proofs.Lists.{same?}

-- the list l' holds a besides what l holds
pub record More (a : ℕ) (l l' : List ℕ) : Type 0 where
  pub new : In a l'
  pub old : (b : ℕ) → In b l → In b l'
  pub only : (b : ℕ) → In b l' → (b ≡ a) ⊎ In b l
  pub once : (In a l → ⊥) → Once l → Once l'

more_first : (a : ℕ) (l : List ℕ) → More a l (a ∷ l)
more_first a l = record { new = inl refl; old = λ b i. inr i; only = λ b i. i; once = λ f o. (f, o) }

more_behind : {a d : ℕ} {l l' : List ℕ} → More a l l' → More a (d ∷ l) (d ∷ l')
more_behind {a} {d} {l} {l'} m = record {
  new = inr m.new;
  old = λ b i. old i;
  only = λ b i. only i;
  once = λ f o. (λ i. first f o (m.only d i), m.once (λ i. f (inr i)) o.1);
}
  where
    old : {b : ℕ} → In b (d ∷ l) → In b (d ∷ l')
    old (inl e) = inl e
    old (inr i) = inr (m.old _ i)

    behind : {b : ℕ} → (b ≡ a) ⊎ In b l → (b ≡ a) ⊎ In b (d ∷ l)
    behind (inl e) = inl e
    behind (inr i) = inr (inr i)

    only : {b : ℕ} → In b (d ∷ l') → (b ≡ a) ⊎ In b (d ∷ l)
    only (inl e) = inr (inl e)
    only (inr i) = behind (m.only _ i)

    first : (In a (d ∷ l) → ⊥) → Once (d ∷ l) → (d ≡ a) ⊎ In d l → ⊥
    first f o (inl e) = f (inl (sym e))
    first f o (inr i) = o.0 i

pub more_last : (a : ℕ) (l : List ℕ) → More a l (l ++ (a ∷ []))
more_last a [] = more_first a []
more_last a (d ∷ l) = more_behind (more_last a l)

-- operation a may stand at tick s, inside it, and takes c to c'
pub record Stands (h : History) (s a : ℕ) (c c' : Contents) : Type 0 where
  pub begun : a ≤ s
  pub unended : {o : Operation} {l : ℕ} → operation_at h a ≡ some o → o.last ≡ some l → s ≤ l
  pub replays : Replays h a c c'

module _ (contents : ℕ → Contents) where
  -- from tick t on, u ticks done: a tick changes nothing, an operation that changes nothing stands before tick t, or one commits in it
  pub data Log (h : History) (u : ℕ) : ℕ → List ℕ → Type 0 where
    stop : {t : ℕ} → t ≡ u → Log h u t []
    passes : {t : ℕ} {l : List ℕ} → contents t ≡ contents (suc t) → Log h u (suc t) l → Log h u t l
    finds : {t a : ℕ} {l : List ℕ} → Stands h t a (contents t) (contents t) → Log h u t l → Log h u t (a ∷ l)
    commits : {t a : ℕ} {l : List ℕ} → Stands h t a (contents t) (contents (suc t)) → Log h u (suc t) l → Log h u t (a ∷ l)

  pub until : {h : History} {u t : ℕ} {l : List ℕ} → Log h u t l → t ≤ u
  until (stop e) = omega arith
  until (passes e g) = omega (arith, until g)
  until (finds s g) = until g
  until (commits s g) = omega (arith, until g)

  -- the history may be another, as far as the operations of the log stand in it
  pub log_in : {h h' : History} {u t : ℕ} {l : List ℕ} → ((s a : ℕ) (c c' : Contents) → s ≤ u → In a l → Stands h s a c c' → Stands h' s a c c')
      → Log h u t l → Log h' u t l
  log_in f (stop e) = stop e
  log_in f (passes e g) = passes e (log_in f g)
  log_in f (finds s g) = finds (f _ _ _ _ (until g) (inl refl) s) (log_in (λ s a c c' l i. f s a c c' l (inr i)) g)
  log_in f (commits s g) = let m = until g in commits (f _ _ _ _ (omega arith) (inl refl) s) (log_in (λ s a c c' l i. f s a c c' l (inr i)) g)

  -- one tick more, in which nothing changes
  pub log_passes : {h : History} {u t : ℕ} {l : List ℕ} → contents u ≡ contents (suc u) → Log h u t l → Log h (suc u) t l
  log_passes {t = t} q (stop e) = passes {t = t} (rw e q) (stop (ap suc e))
  log_passes q (passes e g) = passes e (log_passes q g)
  log_passes q (finds s g) = finds s (log_passes q g)
  log_passes q (commits s g) = commits s (log_passes q g)

  -- one tick more, in which operation a commits
  pub log_commits : {h : History} {u t a : ℕ} {l : List ℕ} → Stands h u a (contents u) (contents (suc u)) → Log h u t l
      → Log h (suc u) t (l ++ (a ∷ []))
  log_commits {h} {u} {a = a} s (stop e) = subst (λ (z : ℕ). Log h (suc u) z (a ∷ [])) (sym e) (commits s (stop refl))
  log_commits s (passes e g) = passes e (log_commits s g)
  log_commits s (finds r g) = finds r (log_commits s g)
  log_commits s (commits r g) = commits r (log_commits s g)

  pub record Placed (h : History) (u t a : ℕ) (l : List ℕ) : Type 0 where
    pub order : List ℕ
    pub log : Log h u t order
    pub more : More a l order

  -- an operation that changes nothing, at a tick of the past
  pub place : {h : History} {u t : ℕ} {l : List ℕ} (s a : ℕ) → t ≤ s → s ≤ u → Stands h s a (contents s) (contents s) → Log h u t l → Placed h u t a l
  place {u = u} {t} s a ts su r (stop e) =
      let q : s ≡ t = omega arith in record { order = a ∷ []; log = finds (rw q at r) (stop e); more = more_first a [] }
  place {t = t} s a ts su r (passes e g) = same? s t
      (λ k. record { order = _; log = finds (rw k at r) (passes e g); more = more_first a _ })
      (λ ne. let p = place s a (omega arith) su r g in record { order = p.order; log = passes e p.log; more = p.more })
  place s a ts su r (finds f g) = let p = place s a ts su r g in record { order = _; log = finds f p.log; more = more_behind p.more }
  place {t = t} s a ts su r (commits f g) = same? s t
      (λ k. record { order = _; log = finds (rw k at r) (commits f g); more = more_first a _ })
      (λ ne. let p = place s a (omega arith) su r g in record { order = _; log = commits f p.log; more = more_behind p.more })

  -- WHAT A LOG SAYS OF ITS ORDER
  pub replayed : {h : History} {u t : ℕ} {l : List ℕ} → Log h u t l → Sequence h l (contents t) (contents u)
  replayed (stop e) = rw e no_more
  replayed (passes e g) = rw e (replayed g)
  replayed (finds s g) = then s.replays (replayed g)
  replayed (commits s g) = then s.replays (replayed g)

  -- what stands from tick t on does not end before it
  ends-from : {h : History} {u t : ℕ} {l : List ℕ} {o : Operation} {last : ℕ} → Log h u t l → (b : ℕ) → In b l → operation_at h b ≡ some o
      → o.last ≡ some last → t ≤ last
  ends-from (stop e) b i is lasts = absurd i
  ends-from (passes e g) b i is lasts = omega (arith, ends-from g b i is lasts)
  ends-from (finds s g) b (inl e) is lasts = s.unended (rw e at is) lasts
  ends-from (finds s g) b (inr i) is lasts = ends-from g b i is lasts
  ends-from (commits s g) b (inl e) is lasts = s.unended (rw e at is) lasts
  ends-from (commits s g) b (inr i) is lasts = omega (arith, ends-from g b i is lasts)

  pub timely : {h : History} {u t : ℕ} {l : List ℕ} → Log h u t l → RespectsTime h l
  timely (stop e) = tt
  timely (passes e g) = timely g
  timely (finds s g) = (λ b i e. let f = s.begun in omega (arith, ends-from g b i e.is e.lasts), timely g)
  timely (commits s g) = (λ b i e. let f = s.begun in omega (arith, ends-from g b i e.is e.lasts), timely g)
