-- History and machine: a task inside an operation is inside its latest one, which is open and has that task and those arguments;
-- no two of these operations began in one tick, and the later begun is a higher task's.
use Prim.Native.Nat.{ℕ, suc, ◌<◌, ◌≤◌}
use mathlib.Core.Bool.{Bool, true, false, true≢false}
use mathlib.Core.Path.{◌≡◌, refl, sym, ◌∙◌}
use mathlib.Core.Logic.{◌≢◌, ◌⊎◌, inl, inr}
use mathlib.Core.List.{List, [], ◌∷◌}
use mathlib.Core.Option.{Option, none, some}
use native.Mathlib.Omega.{arith}
use lib.ListN.{length}
use Rattle.model.specs.History.{Operation, History, operation_at, nothing, begins, amends, answering, ending, event_of, noted}
use Rattle.model.specs.Claim.{counted_by}
use Rattle.model.specs.Job.{Task, Deed}
use Rattle.model.specs.Machine.{task_at}
use Rattle.model.specs.Arguments.{Pair, Arguments, swap_of}
use Rattle.model.proofs.Lists.{at-past, impossible}
use Rattle.model.proofs.History.Advance.{Amended, Changed, Advance}
use Rattle.model.proofs.History.Advance.{same as advance_same, begins as advance_begins, amends as advance_amends}
use Rattle.model.proofs.History.Moves.{given, has_committed, Settling, Moves, stays_outside, begun, goes_on, gets, loses, read_ends}
use Rattle.model.proofs.History.Moves.{swap_commits, swap_ends, swap_commits_and_ends, swap_rejected, transaction_commits}
use Rattle.model.proofs.History.Moves.{transaction_ends, transaction_commits_and_ends, nothing_touched, ends_spent}
use Rattle.model.proofs.History.Noted.{latest_of, new_operation, number_below, noted_nothing, size-nothing, latest-nothing, noted-begins}
use Rattle.model.proofs.History.Noted.{size-begins, latest-begins, latest-begins_else, noted-amends, size-amends, latest-amends, latest-size}

-- task p's latest operation is open, has these arguments, and has committed or not
pub record Open (h : History) (p : ℕ) (a : Arguments) (yes? : Bool) : Type 0 where
  pub operation : Operation
  pub is : operation_at h (latest_of h p) ≡ some operation
  pub task : operation.task ≡ p
  pub arguments : operation.arguments ≡ a
  pub unended : operation.last ≡ none
  pub committed : operation.committed ≡ yes?
  pub unspent : operation.spent ≡ false
  -- a committed exchange has answered
  pub said : (ps : List Pair) → a ≡ swap_of ps → yes? ≡ true → operation.answers ≡ 1 ∷ []

abbrev pub OpenBy : History → ℕ → Option Arguments → Bool → Type 0
OpenBy h p none yes? = Unit {0}
OpenBy h p (some a) yes? = Open h p a yes?

abbrev pub InOperation : Option Arguments → Type 0
InOperation none = ⊥
InOperation (some a) = Unit {0}

abbrev pub given_to : List Task → ℕ → Option Arguments
given_to ts p = given (task_at ts p).job.phase

-- after u ticks
pub record Linked (u : ℕ) (ts : List Task) (h : History) : Type 0 where
  pub size : length h.began ≡ u
  pub latest : length h.latest ≡ 8
  pub past : (p : ℕ) → latest_of h p ≤ u
  pub opened : (p : ℕ) → OpenBy h p (given_to ts p) (has_committed (task_at ts p).job.phase)
  pub apart : (p q : ℕ) → p ≢ q → InOperation (given_to ts p) → InOperation (given_to ts q) → latest_of h p ≢ latest_of h q
  pub rising : (p q : ℕ) → InOperation (given_to ts p) → InOperation (given_to ts q) → latest_of h p < latest_of h q → p < q

-- AN OPEN OPERATION AMENDED
module _ {h : History} {p : ℕ} {a : Arguments} where
  pub open_uncounted : (o : Open h p a false) → counted_by (some o.operation) ≡ false
  open_uncounted o = rw (o.unended, o.committed) refl

  pub open_counted : (o : Open h p a true) → counted_by (some o.operation) ≡ true
  open_counted o = rw (o.unended, o.committed, o.unspent) refl

  -- one that does not count yet
  uncommitted : (u : ℕ) (o : Open h p a false) (o' : Operation) → o'.task ≡ o.operation.task → o'.arguments ≡ o.operation.arguments
      → (o'.last ≡ none) ⊎ (o'.last ≡ some u) → Amended u o.operation o'
  uncommitted u o o' t g l = record {
    unended = o.unended;
    task = t;
    arguments = g;
    last = l;
    counts = λ c. absurd (true≢false (sym c ∙ open_uncounted o));
    answers = λ c. absurd (true≢false (sym c ∙ open_uncounted o));
  }

  -- one that counts ends
  committed-ends : (u : ℕ) (o : Open h p a true) (vs : List ℕ) → vs ≡ o.operation.answers
      → Amended u o.operation (ending u (answering vs o.operation))
  committed-ends u o vs e =
      record { unended = o.unended; task = refl; arguments = refl; last = inr refl; counts = λ c. rw o.unspent refl; answers = λ c. e }

-- WHAT A TICK OF TASK p LEAVES, the task being given g before and g' after it
pub record Next (u p : ℕ) (h h' : History) (g g' : Option Arguments) (yes? : Bool) : Type 0 where
  pub advance : Advance u h h'
  pub size : length h'.began ≡ suc u
  pub latest : length h'.latest ≡ 8
  pub mine : OpenBy h' p g' yes?
  pub other : (q : ℕ) → q ≢ p → latest_of h' q ≡ latest_of h q
  pub own : (latest_of h' p ≡ latest_of h p) ⊎ (latest_of h' p ≡ u)
  pub stays : InOperation g → latest_of h' p ≡ latest_of h p
  pub since : InOperation g' → InOperation g ⊎ (latest_of h' p ≡ u)
  pub none-begun : InOperation g → operation_at h' u ≡ none
  pub else : (b : ℕ) → b ≢ u → (InOperation g → b ≢ latest_of h p) → operation_at h' b ≡ operation_at h b

module _ (u p : ℕ) (h : History) (size : length h.began ≡ u) (latest : length h.latest ≡ 8) (below : p < 8) where
  -- nothing is noted
  nothing-next : (g : Option Arguments) (yes? : Bool) → OpenBy h p g yes? → Next u p h (noted u p nothing h) g g yes?
  nothing-next g yes? o = record {
    advance = advance_same (noted_nothing u p h size);
    size = size-nothing u p h size;
    latest = latest-size u p h size nothing ∙ latest;
    mine = mine g o;
    other = λ q ne. latest-nothing u p h size q;
    own = inl (latest-nothing u p h size p);
    stays = λ i. latest-nothing u p h size p;
    since = λ i. inl i;
    none-begun = λ i. noted_nothing u p h size u ∙ at-past none h.began u (omega arith);
    else = λ b ne na. noted_nothing u p h size b;
  }
    where
      mine : (g : Option Arguments) → OpenBy h p g yes? → OpenBy (noted u p nothing h) p g yes?
      mine none o = tt
      mine (some a) o = record {
        operation = o.operation;
        is = rw (latest-nothing u p h size p) (noted_nothing u p h size (latest_of h p) ∙ o.is);
        task = o.task;
        arguments = o.arguments;
        unended = o.unended;
        committed = o.committed;
        unspent = o.unspent;
        said = o.said;
      }

  -- an operation begins
  begins-next : (a : Arguments) → Next u p h (noted u p (begins a) h) none (some a) false
  begins-next a =
      let c = noted-begins u p h size a in
      let l : p < length h.latest = omega arith in
      let since = latest-begins u p h size a l in
      record {
        advance =
            advance_begins (record { operation = new_operation p a; free = at-past none h.began u (omega arith); changed = c; uncounted = refl });
        size = size-begins u p h size a;
        latest = latest-size u p h size (begins a) ∙ latest;
        mine = record {
          operation = new_operation p a;
          is = rw since c.here;
          task = refl;
          arguments = refl;
          unended = refl;
          committed = refl;
          unspent = refl;
          said = λ ps e y. absurd (true≢false (sym y));
        };
        other = latest-begins_else u p h size a;
        own = inr since;
        stays = λ i. absurd i;
        since = λ i. inr since;
        none-begun = λ i. absurd i;
        else = λ b ne na. c.else b ne;
      }

  -- the open operation is amended
  module _ {a : Arguments} {yes? : Bool} (o : Open h p a yes?) where
    amends-next : (f : Operation → Operation) (g' : Option Arguments) (yes?' : Bool) → Amended u o.operation (f o.operation)
        → (Changed h (noted u p (amends f) h) (latest_of h p) (f o.operation) → OpenBy (noted u p (amends f) h) p g' yes?')
        → Next u p h (noted u p (amends f) h) (some a) g' yes?'
    amends-next f g' yes?' m mine =
        let c = noted-amends u p h size f o.is in
        record {
          advance = advance_amends (record {
            number = latest_of h p;
            before = o.operation;
            after = f o.operation;
            earlier = omega (arith, number_below h (latest_of h p) o.is);
            was = o.is;
            changed = c;
            amended = m;
          });
          size = size-amends u p h size f;
          latest = latest-size u p h size (amends f) ∙ latest;
          mine = mine c;
          other = λ q ne. latest-amends u p h size f q;
          own = inl (latest-amends u p h size f p);
          stays = λ i. latest-amends u p h size f p;
          since = λ i. inl tt;
          none-begun = λ i. let b = number_below h (latest_of h p) o.is in c.else u (omega arith) ∙ at-past none h.began u (omega arith);
          else = λ b ne na. c.else b (na tt);
        }

    -- it stays open, by what it is then
    stays : (f : Operation → Operation) (yes?' : Bool) → Changed h (noted u p (amends f) h) (latest_of h p) (f o.operation)
        → (f o.operation).task ≡ o.operation.task → (f o.operation).arguments ≡ o.operation.arguments → (f o.operation).last ≡ none
        → (f o.operation).committed ≡ yes?' → (f o.operation).spent ≡ o.operation.spent
        → ((ps : List Pair) → a ≡ swap_of ps → yes?' ≡ true → (f o.operation).answers ≡ 1 ∷ []) → Open (noted u p (amends f) h) p a yes?'
    stays f yes?' c t g l y s said = record {
      operation = f o.operation;
      is = rw (latest-amends u p h size f p) c.here;
      task = t ∙ o.task;
      arguments = g ∙ o.arguments;
      unended = l;
      committed = y;
      unspent = s ∙ o.unspent;
      said = said;
    }

  pub next : {g g' : Option Arguments} {b b' : Bool} {d : Deed} {s : Settling} → Moves g b d s g' b' → OpenBy h p g b
      → Next u p h (noted u p (event_of u d) h) g g' b'
  unfolding event_of
  next {b = b} stays_outside o = nothing-next none _ tt
  next (begun {a = a}) o = begins-next a
  next (goes_on {b} {a}) o = nothing-next (some a) b o
  next (gets v) o =
      amends-next o _ _ _ (uncommitted u o _ refl refl (inl o.unended))
      (λ c. stays o _ false c refl refl o.unended o.committed refl (λ ps e y. absurd (true≢false (sym y))))
  next loses o =
      amends-next o _ _ _ (uncommitted u o _ refl refl (inl o.unended))
      (λ c. stays o _ false c refl refl o.unended o.committed refl (λ ps e y. absurd (true≢false (sym y))))
  next (read_ends v) o = amends-next o _ none _ (uncommitted u o _ refl refl (inr refl)) (λ c. tt)
  next swap_commits o =
      amends-next o _ _ _ (uncommitted u o _ refl refl (inl o.unended)) (λ c. stays o _ true c refl refl o.unended refl refl (λ ps e y. refl))
  next (swap_ends {ps}) o = amends-next o _ none _ (committed-ends u o _ (sym (o.said ps refl refl))) (λ c. tt)
  next swap_commits_and_ends o = amends-next o _ none _ (uncommitted u o _ refl refl (inr refl)) (λ c. tt)
  next swap_rejected o = amends-next o _ none _ (uncommitted u o _ refl refl (inr refl)) (λ c. tt)
  next transaction_commits o =
      amends-next o _ _ _ (uncommitted u o _ refl refl (inl o.unended))
      (λ c. stays o _ true c refl refl o.unended refl refl (λ ps e y. impossible (cc)))
  next transaction_ends o = amends-next o _ none _ (committed-ends u o _ refl) (λ c. tt)
  next transaction_commits_and_ends o = amends-next o _ none _ (uncommitted u o _ refl refl (inr refl)) (λ c. tt)
  next nothing_touched o = amends-next o _ none _ (uncommitted u o _ refl refl (inr refl)) (λ c. tt)
  next ends_spent o = amends-next o _ none _ (uncommitted u o _ refl refl (inr refl)) (λ c. tt)
