-- What a tick does to the history: nothing, an operation begins, or an open one is amended. What an operation has said stays said.
use Prim.Native.Nat.{ℕ, ◌<◌}
use mathlib.Core.Bool.{true, false}
use mathlib.Core.Path.{◌≡◌, refl, ◌∙◌}
use mathlib.Core.Logic.{◌≢◌, ◌⊎◌}
use mathlib.Core.Option.{Option, none, some}
use Rattle.model.specs.Plain.{Contents}
use Rattle.model.specs.History.{Operation, History, operation_at}
use Rattle.model.specs.Claim.{counted_by, Counted, Interfered, Replays, exactly, freely}
use Rattle.model.proofs.Lists.{same?, impossible}

-- o, open before tick u, is o' after it; one that counts goes on counting with the same answers
pub record Amended (u : ℕ) (o o' : Operation) : Type 0 where
  pub unended : o.last ≡ none
  pub task : o'.task ≡ o.task
  pub arguments : o'.arguments ≡ o.arguments
  pub last : (o'.last ≡ none) ⊎ (o'.last ≡ some u)
  pub counts : counted_by (some o) ≡ true → counted_by (some o') ≡ true
  pub answers : counted_by (some o) ≡ true → o'.answers ≡ o.answers

-- h' is h but for operation a, which is o there
pub record Changed (h h' : History) (a : ℕ) (o : Operation) : Type 0 where
  pub here : operation_at h' a ≡ some o
  pub else : (b : ℕ) → b ≢ a → operation_at h' b ≡ operation_at h b

pub record Begun (u : ℕ) (h h' : History) : Type 0 where
  pub operation : Operation
  pub free : operation_at h u ≡ none
  pub changed : Changed h h' u operation
  pub uncounted : counted_by (some operation) ≡ false

pub record AmendedAt (u : ℕ) (h h' : History) : Type 0 where
  pub number : ℕ
  pub before : Operation
  pub after : Operation
  pub earlier : number < u
  pub was : operation_at h number ≡ some before
  pub changed : Changed h h' number after
  pub amended : Amended u before after

pub data Advance (u : ℕ) (h h' : History) : Type 0 where
  same : ((b : ℕ) → operation_at h' b ≡ operation_at h b) → Advance u h h'
  begins : Begun u h h' → Advance u h h'
  amends : AmendedAt u h h' → Advance u h h'

-- one that counts is there
pub counted-some : (x : Option Operation) → counted_by x ≡ true → (o : Operation) × (x ≡ some o)
counted-some none e = impossible (cc)
counted-some (some o) e = (o, refl)

-- operation b is in h' what it is in h, or has been amended
pub data Carried (u : ℕ) (h' : History) (b : ℕ) (o : Operation) : Type 0 where
  kept : operation_at h' b ≡ some o → Carried u h' b o
  amended : (o' : Operation) → operation_at h' b ≡ some o' → Amended u o o' → Carried u h' b o

module _ {u : ℕ} {h h' : History} (step : Advance u h h') where
  pub carried : {o : Operation} (b : ℕ) → operation_at h b ≡ some o → Carried u h' b o
  carried {o} b is = go step
    where
      go : Advance u h h' → Carried u h' b o
      go (same e) = kept (e b ∙ is)
      go (begins n) = same? b u
          (λ e. let f = n.free in let g : operation_at h u ≡ some o = rw e at is in impossible (cc))
          (λ ne. kept (n.changed.else b ne ∙ is))
      go (amends m) = same? b m.number
          (λ e.
          let f = m.was in
          let g : operation_at h m.number ≡ some o = rw e at is in
          let same_operation : m.before ≡ o = cc in
          amended m.after (rw e m.changed.here) (rw same_operation at m.amended))
          (λ ne. kept (m.changed.else b ne ∙ is))

  -- one that counts goes on counting
  pub counts-kept : (b : ℕ) → Counted h b → Counted h' b
  counts-kept b n = let o = counted-some (operation_at h b) n in go o.0 (rw o.1 at n) (carried b o.1)
    where
      go : (o : Operation) → counted_by (some o) ≡ true → Carried u h' b o → Counted h' b
      go o n (kept e) = rw e n
      go o n (amended o' e m) = rw e (m.counts n)

  -- an ended operation is never amended
  pub ended-kept : {o : Operation} {t : ℕ} (b : ℕ) → operation_at h b ≡ some o → o.last ≡ some t → operation_at h' b ≡ some o
  ended-kept {o} {t} b is lasts = go (carried b is)
    where
      go : Carried u h' b o → operation_at h' b ≡ some o
      go (kept e) = e
      go (amended o' e m) = let f = m.unended in impossible (cc)

  -- no operation begins twice, so the free answer's ground stays
  pub interfered_kept : {a : ℕ} {o : Operation} → Interfered h a o → Interfered h' a o
  interfered_kept {a} {o} i = go (carried i.by i.began)
    where
      with_other : (other : Operation) → operation_at h' i.by ≡ some other → other.task ≡ i.other.task → other.arguments ≡ i.other.arguments
          → Interfered h' a o
      with_other other is t g = record {
        pairs = i.pairs;
        is = i.is;
        named = i.named;
        names = i.names;
        last = i.last;
        lasts = i.lasts;
        by = i.by;
        other = other;
        began = is;
        higher = rw t i.higher;
        after = i.after;
        before = i.before;
        other_pairs = i.other_pairs;
        other_is = g ∙ i.other_is;
        changing = i.changing;
        changes = i.changes;
        on = i.on;
        differs = i.differs;
      }

      go : Carried u h' i.by i.other → Interfered h' a o
      go (kept e) = with_other i.other e refl refl
      go (amended o' e m) = with_other o' e m.task m.arguments

  -- an operation that counts goes on replaying
  pub replays_kept : {c c' : Contents} (a : ℕ) → Counted h a → Replays h a c c' → Replays h' a c c'
  replays_kept {c} {c'} a n (exactly o is e) = go (carried a is)
    where
      go : Carried u h' a o → Replays h' a c c'
      go (kept is') = exactly o is' e
      go (amended o' is' m) = exactly o' is' (rw (m.arguments, m.answers (rw is at n)) e)
  replays_kept a n (freely o is e i same-contents) = freely o (ended-kept a is i.lasts) e (interfered_kept i) same-contents
