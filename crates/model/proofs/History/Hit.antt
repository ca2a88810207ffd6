-- The free answer's ground while the operation is still open: a higher task's exchange with a changing pair on a word began after it.
use Prim.Native.Nat.{ℕ, ◌<◌}
use mathlib.Core.Bool.{Bool}
use mathlib.Core.Path.{◌≡◌, refl, ◌∙◌}
use mathlib.Core.Logic.{◌≢◌}
use mathlib.Core.List.{List}
use mathlib.Core.Option.{some}
use native.Mathlib.Omega.{arith}
use Rattle.model.specs.Job.{Task}
use Rattle.model.specs.History.{Operation, History, operation_at}
use Rattle.model.specs.Arguments.{Pair, swap_of}
use Rattle.model.specs.Lists.{In}
use Rattle.model.proofs.History.Advance.{Advance, Carried, kept, amended, carried}
use Rattle.model.proofs.History.Noted.{latest_of}
use Rattle.model.proofs.History.Linked.{Open, InOperation, given_to, Linked}

-- the latest operation of task p is hit on that word
pub record Hit (h : History) (p word : ℕ) : Type 0 where
  pub by : ℕ
  pub other : Operation
  pub began : operation_at h by ≡ some other
  pub higher : p < other.task
  pub after : latest_of h p < by
  pub pairs : List Pair
  pub is : other.arguments ≡ swap_of pairs
  pub changing : Pair
  pub changes : In changing pairs
  pub on : changing.word ≡ word
  pub differs : changing.old ≢ changing.new

-- it stays hit, as long as no other operation of its task begins
pub hit_kept : {u : ℕ} {h h' : History} {p word : ℕ} → Advance u h h' → latest_of h' p ≡ latest_of h p → Hit h p word → Hit h' p word
hit_kept {u} {h} {h'} {p} {word} step e i = go (carried step i.by i.began)
  where
    with_other : (other : Operation) → operation_at h' i.by ≡ some other → other.task ≡ i.other.task → other.arguments ≡ i.other.arguments
        → Hit h' p word
    with_other other is t g = record {
      by = i.by;
      other = other;
      began = is;
      higher = rw t i.higher;
      after = rw e i.after;
      pairs = i.pairs;
      is = g ∙ i.is;
      changing = i.changing;
      changes = i.changes;
      on = i.on;
      differs = i.differs;
    }

    go : Carried u h' i.by i.other → Hit h' p word
    go (kept is) = with_other i.other is refl refl
    go (amended other is m) = with_other other is m.task m.arguments

module _ {u : ℕ} {ts : List Task} {h : History} (l : Linked u ts h) (p q : ℕ) (later : latest_of h p < latest_of h q)
    (inside : InOperation (given_to ts p)) (above : InOperation (given_to ts q)) where
  -- what hits a task's operation hits an open one that began before it
  pub hit_lower : (word : ℕ) → Hit h q word → Hit h p word
  hit_lower word i = record {
    by = i.by;
    other = i.other;
    began = i.began;
    higher = omega (arith, i.higher, l.rising p q inside above later);
    after = omega (arith, i.after);
    pairs = i.pairs;
    is = i.is;
    changing = i.changing;
    changes = i.changes;
    on = i.on;
    differs = i.differs;
  }

  -- an open exchange hits the open operations that began before it, on the words that it changes
  pub hit_by : {ps : List Pair} {yes? : Bool} → Open h q (swap_of ps) yes? → (changing : Pair) → In changing ps → changing.old ≢ changing.new
      → Hit h p changing.word
  hit_by {ps} o changing i ne = record {
    by = latest_of h q;
    other = o.operation;
    began = o.is;
    higher = rw o.task (l.rising p q inside above later);
    after = later;
    pairs = ps;
    is = o.arguments;
    changing = changing;
    changes = i;
    on = refl;
    differs = ne;
  }
