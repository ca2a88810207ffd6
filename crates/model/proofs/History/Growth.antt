-- The order grows with the run: if each tick says where the operation that it settles stands, then after any number of ticks the history is in order.
use Prim.Native.Nat.{ℕ, zero, suc, ◌≤◌}
use mathlib.Core.Bool.{false, true≢false}
use mathlib.Core.Path.{◌≡◌, refl, sym, ◌∙◌, ap}
use mathlib.Core.Logic.{◌≢◌, ◌⊎◌, inl, inr}
use mathlib.Core.List.{List, []}
use mathlib.Core.Option.{none, some}
use native.Mathlib.Omega.{arith}
use Rattle.model.specs.Plain.{Contents}
use Rattle.model.specs.History.{Operation, History, operation_at}
use Rattle.model.specs.Claim.{counted_by, Counted, Replays, Once}
use Rattle.model.specs.Lists.{In}
use Rattle.model.proofs.Lists.{same?, test?, impossible}
use Rattle.model.proofs.History.Ordered.{Ordered}
use Rattle.model.proofs.History.Log.{More, more_last, Stands, Log, stop, log_in, log_passes, log_commits, place, replayed, timely}
use Rattle.model.proofs.History.Advance.{AmendedAt, Advance, same, begins, amends, Carried, kept, amended, counted-some, carried, replays_kept}

module _ (contents : ℕ → Contents) where
  -- Where operation a, which counts from tick u on, stands: in tick u, which it takes from contents to contents,
  -- or, changing nothing, at a tick s inside it.
  pub data Settled (u : ℕ) (h' : History) (a : ℕ) : Type 0 where
    commits : Replays h' a (contents u) (contents (suc u)) → Settled u h' a
    finds : (s : ℕ) → a ≤ s → s ≤ u → Replays h' a (contents s) (contents s) → contents u ≡ contents (suc u) → Settled u h' a

  -- what has to be known of tick u, with the history before and after it
  pub record Settles (u : ℕ) (h h' : History) : Type 0 where
    pub settled : (a : ℕ) → counted_by (operation_at h a) ≡ false → Counted h' a → Settled u h' a
    pub still : ((a : ℕ) → counted_by (operation_at h' a) ≡ counted_by (operation_at h a)) → contents u ≡ contents (suc u)

  -- the history after u ticks with its order
  pub record Logged (u : ℕ) (h : History) : Type 0 where
    pub order : List ℕ
    pub log : Log contents h u 0 order
    pub once : Once order
    pub all : (a : ℕ) → Counted h a → In a order
    pub only : (a : ℕ) → In a order → Counted h a

  pub ordered : {u : ℕ} {h : History} → Logged u h → Ordered h (contents 0) (contents u)
  ordered t = record { order = t.order; once = t.once; all = t.all; only = t.only; timely = timely contents t.log; replay = replayed contents t.log }

  module _ {u : ℕ} {h h' : History} (step : Advance u h h') (tick : Settles u h h') (log : Logged u h) where
    -- an operation of the order stands where it stood; a last tick that it gets now is this one
    stands_kept : (s a : ℕ) (c c' : Contents) → s ≤ u → In a log.order → Stands h s a c c' → Stands h' s a c c'
    stands_kept s a c c' su i r = record {
      begun = r.begun;
      unended = λ is' lasts. let o = counted-some (operation_at h a) (log.only a i) in at_last o.0 o.1 (carried step a o.1) _ _ is' lasts;
      replays = replays_kept step a (log.only a i) r.replays;
    }
      where
        at_last : (o : Operation) → operation_at h a ≡ some o → Carried u h' a o → (o' : Operation) (l : ℕ) → operation_at h' a ≡ some o'
            → o'.last ≡ some l → s ≤ l
        at_last o is (kept e) o' l is' lasts = let same_operation : o ≡ o' = cc in r.unended (rw same_operation at is) lasts
        at_last o is (amended o'' e m) o' l is' lasts = go m.last
          where
            go : (o''.last ≡ none) ⊎ (o''.last ≡ some u) → s ≤ l
            go (inl n) = impossible (cc)
            go (inr n) = let z : u ≡ l = cc in omega arith

    old_log : Log contents h' u 0 log.order
    old_log = log_in contents stands_kept log.log

    -- no operation counts that did not count before
    unchanged : ((a : ℕ) → counted_by (operation_at h' a) ≡ counted_by (operation_at h a)) → Logged (suc u) h'
    unchanged e = record {
      order = log.order;
      log = log_passes contents (tick.still e) old_log;
      once = log.once;
      all = λ a n. log.all a (sym (e a) ∙ n);
      only = λ a i. e a ∙ log.only a i;
    }

    -- operation a is one more that counts
    one_more : (a : ℕ) {l : List ℕ} → counted_by (operation_at h a) ≡ false → Counted h' a → ((b : ℕ) → b ≢ a → operation_at h' b ≡ operation_at h b)
        → More a log.order l → Log contents h' (suc u) 0 l → Logged (suc u) h'
    one_more a {l} was now else m g = record {
      order = l;
      log = g;
      once = m.once (λ i. true≢false (sym (log.only a i) ∙ was)) log.once;
      all = λ b n. same? b a (λ e. rw e m.new) (λ ne. m.old b (log.all b (rw (else b ne) at n)));
      only = λ b i. only b (m.only b i);
    }
      where
        only : (b : ℕ) → (b ≡ a) ⊎ In b log.order → Counted h' b
        only b (inl e) = rw e now
        only b (inr i) = same? b a (λ e. rw e now) (λ ne. rw (else b ne) (log.only b i))

    -- it is open, or this is its last tick
    settle : (a : ℕ) → counted_by (operation_at h a) ≡ false → Counted h' a → ((b : ℕ) → b ≢ a → operation_at h' b ≡ operation_at h b) → a ≤ u
        → ((o : Operation) (l : ℕ) → operation_at h' a ≡ some o → o.last ≡ some l → u ≤ l) → Settled u h' a → Logged (suc u) h'
    settle a was now else begun unended (commits r) =
        one_more a was now else (more_last a log.order)
        (log_commits contents (record { begun = begun; unended = λ is lasts. unended _ _ is lasts; replays = r }) old_log)
    settle a was now else begun unended (finds s from to r q) =
        let stands : Stands h' s a (contents s) (contents s) =
        record { begun = from; unended = λ is lasts. omega (arith, unended _ _ is lasts); replays = r } in
        let p = place contents s a (omega arith) to stands old_log in
        one_more a was now else p.more (log_passes contents q p.log)

    -- an operation amended in tick u does not end before it
    ends_now : (m : AmendedAt u h h') (o : Operation) (l : ℕ) → operation_at h' m.number ≡ some o → o.last ≡ some l → u ≤ l
    ends_now m o l is lasts = let now = m.changed.here in go m.amended.last
      where
        go : (m.after.last ≡ none) ⊎ (m.after.last ≡ some u) → u ≤ l
        go (inl n) = impossible (cc)
        go (inr n) = let z : u ≡ l = cc in omega arith

    pub logged_next : Logged (suc u) h'
    logged_next = go step
      where
        go : Advance u h h' → Logged (suc u) h'
        go (same e) = unchanged (λ a. ap counted_by (e a))
        go (begins n) =
            unchanged (λ a. same? a u (λ e. rw (e, n.changed.here, n.free) n.uncounted) (λ ne. ap counted_by (n.changed.else a ne)))
        go (amends m) = test? (counted_by (some m.before))
            (λ t. unchanged (λ a. same? a m.number (λ e. rw (e, m.changed.here, m.was) (m.amended.counts t ∙ sym t))
            (λ ne. ap counted_by (m.changed.else a ne))))
            (λ f. test? (counted_by (some m.after))
            (λ t. settle m.number (rw m.was f) (rw m.changed.here t) m.changed.else (omega (arith, m.earlier)) (ends_now m)
            (tick.settled m.number (rw m.was f) (rw m.changed.here t)))
            (λ g. unchanged (λ a. same? a m.number (λ e. rw (e, m.changed.here, m.was) (g ∙ sym f)) (λ ne. ap counted_by (m.changed.else a ne)))))

  -- THE ABSTRACT THEOREM: a run with its histories, from one without operations on
  pub record Course (history : ℕ → History) : Type 0 where
    pub empty : (a : ℕ) → operation_at (history 0) a ≡ none
    pub advance : (u : ℕ) → Advance u (history u) (history (suc u))
    pub settles : (u : ℕ) → Settles u (history u) (history (suc u))

  logged : {history : ℕ → History} → Course history → (t : ℕ) → Logged t (history t)
  logged r zero = record {
    order = [];
    log = stop refl;
    once = tt;
    all = λ a n. let e = r.empty a in impossible (cc);
    only = λ a i. absurd i;
  }
  logged r (suc t) = logged_next (r.advance t) (r.settles t) (logged r t)

  pub course_ordered : {history : ℕ → History} → Course history → (t : ℕ) → Ordered (history t) (contents 0) (contents t)
  course_ordered r t = ordered (logged r t)
