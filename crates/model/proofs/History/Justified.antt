-- What justifies that which a tick settles. All that exchanges and transactions have to prove for the claim stands here.
use Prim.Native.Nat.{ℕ, suc, ◌<◌, ◌≤◌}
use mathlib.Core.Bool.{Bool, true, false, ◌&&◌, true≢false}
use mathlib.Core.Path.{◌≡◌, refl, sym, ◌∙◌}
use mathlib.Core.Logic.{◌≢◌, ◌⊎◌, inl, inr}
use mathlib.Core.List.{List, [], ◌∷◌}
use mathlib.Core.Option.{Option, some}
use native.Mathlib.Omega.{arith}
use lib.Dec.{eqb}
use lib.ListN.{length}
use borrow.Author.Tests.{ne_eqb}
use Rattle.model.specs.Lists.{at, In}
use Rattle.model.specs.Job.{Deed}
use Rattle.model.specs.Plain.{Contents, result, all_old, plainly, plain_swap_by}
use Rattle.model.specs.History.{Operation, History, operation_at, nothing, begins, amends, answering, ending, event_of, noted}
use Rattle.model.specs.Claim.{counted_by, Counted, Interfered, exactly, freely}
use Rattle.model.specs.Arguments.{Pair, Arguments, read_of, swap_of, transaction_of}
use Rattle.model.proofs.Lists.{same?}
use Rattle.model.proofs.History.Advance.{Changed}
use Rattle.model.proofs.History.Growth.{Settled, commits, finds, Settles}
use Rattle.model.proofs.History.Moves.{Settling, settles_nothing, settles_read, settles_yes, settles_no, settles_transaction, Moves, stays_outside}
use Rattle.model.proofs.History.Moves.{begun, goes_on, gets, loses, read_ends, swap_commits, swap_ends, swap_commits_and_ends, swap_rejected}
use Rattle.model.proofs.History.Moves.{transaction_commits, transaction_ends, transaction_commits_and_ends, nothing_touched, ends_spent}
use Rattle.model.proofs.History.Noted.{latest_of, number_below, noted_nothing, noted-begins, noted-amends}
use Rattle.model.proofs.History.Linked.{Open, OpenBy, open_uncounted, open_counted}
use Rattle.model.proofs.History.Hit.{Hit}

module _ (contents : ℕ → Contents) where
  -- the value v stood in word w at a tick from a to u
  pub record Stood (a u w v : ℕ) : Type 0 where
    pub tick : ℕ
    pub from : a ≤ tick
    pub to : tick ≤ u
    pub value : at 0 (contents tick).words w ≡ v

  -- a no's ground: a named word differed from its old value then, or the operation is hit on it
  pub data Ground (u p : ℕ) (h : History) (ps : List Pair) : Type 0 where
    differed : (named : Pair) {v : ℕ} → In named ps → Stood (latest_of h p) u named.word v → v ≢ named.old → Ground u p h ps
    hit : (named : Pair) → In named ps → Hit h p named.word → Ground u p h ps

  pub record JustifiedRead (u p : ℕ) (h : History) (w v : ℕ) : Type 0 where
    pub still : contents u ≡ contents (suc u)
    pub found : Stood (latest_of h p) u w v

  pub record JustifiedNo (u p : ℕ) (h : History) (ps : List Pair) : Type 0 where
    pub still : contents u ≡ contents (suc u)
    pub ground : Ground u p h ps

  -- for tick u of task p, with the history before it
  abbrev pub Justified : ℕ → ℕ → History → Settling → Type 0
  Justified u p h settles_nothing = contents u ≡ contents (suc u)
  Justified u p h (settles_read w v) = JustifiedRead u p h w v
  Justified u p h (settles_yes ps) = plainly (swap_of ps) (contents u) ≡ result (contents (suc u)) (1 ∷ [])
  Justified u p h (settles_no ps) = JustifiedNo u p h ps
  Justified u p h (settles_transaction rs l) =
      (o : Operation) → operation_at h (latest_of h p) ≡ some o → plainly (transaction_of rs l) (contents u) ≡ result (contents (suc u)) o.answers

  -- a named word that differs makes the exactly machine say no
  not-old : (words : List ℕ) (ps : List Pair) (named : Pair) → In named ps → at 0 words named.word ≢ named.old → all_old words ps ≡ false
  unfolding all_old
  not-old words [] named i ne = absurd i
  not-old words (q ∷ ps) named (inl e) ne = rw (ne_eqb (at 0 words q.word) q.old (rw e at ne)) refl
  not-old words (q ∷ ps) named (inr i) ne = and_false (eqb (at 0 words q.word) q.old) (not-old words ps named i ne)
    where
      and_false : (b : Bool) {c : Bool} → c ≡ false → (b && c) ≡ false
      and_false true e = e
      and_false false e = refl

  says_no : (c : Contents) (ps : List Pair) (named : Pair) → In named ps → at 0 c.words named.word ≢ named.old
      → plainly (swap_of ps) c ≡ result c (0 ∷ [])
  unfolding plainly plain_swap_by
  says_no c ps named i ne = rw (not-old c.words ps named i ne) refl

  gives-value : (c : Contents) (w v : ℕ) → at 0 c.words w ≡ v → plainly (read_of w) c ≡ result c (v ∷ [])
  unfolding plainly
  gives-value c w v e = rw e refl

  -- NOTHING IS SETTLED
  quiet : {u : ℕ} {h h' : History} → ((a : ℕ) → Counted h' a → Counted h a) → contents u ≡ contents (suc u) → Settles contents u h h'
  quiet f e = record { settled = λ a was now. absurd (true≢false (sym (f a now) ∙ was)); still = λ s. e }

  -- ONE OPERATION IS SETTLED
  one : {u a : ℕ} {h h' : History} {o o' : Operation} → operation_at h a ≡ some o → counted_by (some o) ≡ false → Changed h h' a o'
      → counted_by (some o') ≡ true → Settled contents u h' a → Settles contents u h h'
  one {u} {a} {h} {h'} is was c now s = record {
    settled = λ b wasb nowb. same? b a (λ e. rw e s) (λ ne. absurd (true≢false (sym (rw (c.else b ne) at nowb) ∙ wasb)));
    still = λ e. absurd (true≢false (sym now ∙ (rw (c.here, is) at (e a)) ∙ was));
  }

  module _ (u p : ℕ) (h : History) (size : length h.began ≡ u) where
    nothing_settles : contents u ≡ contents (suc u) → Settles contents u h (noted u p nothing h)
    nothing_settles e = quiet (λ a n. rw (noted_nothing u p h size a) at n) e

    begins_settles : (a : Arguments) → contents u ≡ contents (suc u) → Settles contents u h (noted u p (begins a) h)
    begins_settles a e = let c = noted-begins u p h size a in
        quiet (λ b n. same? b u (λ k. absurd (true≢false (sym (rw (k, c.here) at n)))) (λ ne. rw (c.else b ne) at n)) e

    module _ {a : Arguments} {yes? : Bool} (o : Open h p a yes?) where
      -- an amendment that settles nothing: the operation does not count after it, or counted before
      quiet_amends : (f : Operation → Operation) → (counted_by (some (f o.operation)) ≡ false) ⊎ (counted_by (some o.operation) ≡ true)
          → contents u ≡ contents (suc u) → Settles contents u h (noted u p (amends f) h)
      quiet_amends f k e = quiet (λ b n. same? b (latest_of h p) (λ z. rw (z, o.is) (go k (rw (z, c.here) at n))) (λ ne. rw (c.else b ne) at n)) e
        where
          c : Changed h (noted u p (amends f) h) (latest_of h p) (f o.operation)
          c = noted-amends u p h size f o.is

          go : (counted_by (some (f o.operation)) ≡ false) ⊎ (counted_by (some o.operation) ≡ true) → counted_by (some (f o.operation)) ≡ true
              → counted_by (some o.operation) ≡ true
          go (inl z) n = absurd (true≢false (sym n ∙ z))
          go (inr z) n = z

      -- latest_of h p is a number of a tick done
      latest-before : latest_of h p < u
      latest-before = omega (arith, number_below h (latest_of h p) o.is)

    module _ {a : Arguments} (o : Open h p a false) where
      settles_now : (f : Operation → Operation) → counted_by (some (f o.operation)) ≡ true → (f o.operation).arguments ≡ o.operation.arguments
          → plainly a (contents u) ≡ result (contents (suc u)) (f o.operation).answers → Settles contents u h (noted u p (amends f) h)
      settles_now f n g e = let c = noted-amends u p h size f o.is in
          one o.is (open_uncounted o) c n (commits (exactly (f o.operation) c.here (rw (g ∙ o.arguments) e)))

      settles-read : (w v : ℕ) → a ≡ read_of w → JustifiedRead u p h w v
          → Settles contents u h (noted u p (amends (λ o. ending u (answering (v ∷ []) o))) h)
      settles-read w v is w' = let c = noted-amends u p h size (λ o. ending u (answering (v ∷ []) o)) o.is in
          let f = w'.found in
          one o.is (open_uncounted o) c (rw o.unspent refl)
          (finds f.tick f.from f.to (exactly _ c.here (rw (o.arguments, is) (gives-value (contents f.tick) w v f.value)))
          w'.still)

      settles-no : (ps : List Pair) → a ≡ swap_of ps → JustifiedNo u p h ps
          → Settles contents u h (noted u p (amends (λ o. ending u (answering (0 ∷ []) o))) h)
      settles-no ps is w = one o.is (open_uncounted o) c (rw o.unspent refl) (go w.ground)
        where
          c : Changed h (noted u p (amends (λ o. ending u (answering (0 ∷ []) o))) h) (latest_of h p) (ending u (answering (0 ∷ []) o.operation))
          c = noted-amends u p h size (λ o. ending u (answering (0 ∷ []) o)) o.is

          interfered : (named : Pair) → In named ps → Hit h p named.word
              → Interfered (noted u p (amends (λ o. ending u (answering (0 ∷ []) o))) h) (latest_of h p) (ending u (answering (0 ∷ []) o.operation))
          interfered named i k = record {
            pairs = ps;
            is = o.arguments ∙ is;
            named = named;
            names = i;
            last = u;
            lasts = refl;
            by = k.by;
            other = k.other;
            began = c.else k.by (λ e. omega (arith, k.after)) ∙ k.began;
            higher = rw o.task k.higher;
            after = k.after;
            before = omega (arith, number_below h k.by k.began);
            other_pairs = k.pairs;
            other_is = k.is;
            changing = k.changing;
            changes = k.changes;
            on = k.on;
            differs = k.differs;
          }

          go : Ground u p h ps → Settled contents u (noted u p (amends (λ o. ending u (answering (0 ∷ []) o))) h) (latest_of h p)
          go (differed named i f ne) =
              finds f.tick f.from f.to
              (exactly _ c.here (rw (o.arguments, is) (says_no (contents f.tick) ps named i (rw f.value ne)))) w.still
          go (hit named i k) =
              let b = latest-before o in finds u (omega arith) (omega arith) (freely _ c.here refl (interfered named i k) refl) w.still

    -- EVERY TICK SETTLES WHAT IT OWES
    pub settles : {g g' : Option Arguments} {b b' : Bool} {d : Deed} {s : Settling} → Moves g b d s g' b' → OpenBy h p g b → Justified u p h s
        → Settles contents u h (noted u p (event_of u d) h)
    unfolding event_of
    settles stays_outside o w = nothing_settles w
    settles (begun {a = a}) o w = begins_settles a w
    settles goes_on o w = nothing_settles w
    settles (gets v) o w = quiet_amends o _ (inl (rw (o.unended, o.committed) refl)) w
    settles loses o w = quiet_amends o _ (inl (rw (o.unended, o.committed) refl)) w
    settles (read_ends {w = w} v) o d = settles-read o w v refl d
    settles swap_commits o w = settles_now o _ (rw (o.unended, o.unspent) refl) refl w
    settles swap_ends o w = quiet_amends o _ (inr (open_counted o)) w
    settles swap_commits_and_ends o w = settles_now o _ (rw o.unspent refl) refl w
    settles (swap_rejected {ps}) o w = settles-no o ps refl w
    settles transaction_commits o w = settles_now o _ (rw (o.unended, o.unspent) refl) refl (w o.operation o.is)
    settles transaction_ends o w = quiet_amends o _ (inr (open_counted o)) w
    settles transaction_commits_and_ends o w = settles_now o _ (rw o.unspent refl) refl (w o.operation o.is)
    settles nothing_touched o w = settles_now o _ (rw o.unspent refl) refl (w o.operation o.is)
    settles ends_spent o w = quiet_amends o _ (inl refl) w
