-- Idle ticks in one go: with no job unfinished and none ended with a release waiting, the ticks before the next release pass.
use Prim.Native.Nat.{ℕ, zero, suc, ◌+◌, ◌-◌, ◌<◌, ◌≤◌}
use mathlib.Core.Path.{◌≡◌, refl, sym, ap, ◌∙◌, subst}
use mathlib.Core.Bool.{Bool, true, false}
use mathlib.Core.List.{List}
use native.Mathlib.Omega.{arith}
use borrow.Author.Tests.{eq-eqb, ltb-true}
use lib.Dec.{eqb, ltb}
use Rattle.std.specs.Prelude.{Option, Some, None}
use Rattle.model.specs.Command.{command_at}
use Rattle.commands.specs.declared.BodyCommand.{BodyCommand}
use Rattle.state.specs.State.{Shared, Own}
use Rattle.jobs.specs.declared.Job.{Job}
use Rattle.arrivals.specs.Releases.{pending_at, due_by, coming_by, stops_by, until_of, idled_by}
use Rattle.arrivals.specs.declared.releases.Pending.{Pending}
use Rattle.arrivals.specs.declared.releases.Coming.{Coming}
use Rattle.arrivals.specs.declared.releases.Coming.TheVariants.{Due}
use Rattle.machine.specs.Flat.{FlatMachine, flat, ticked, Ends}
use Rattle.machine.proofs.Runs.{after-tick, until_limit, until_due, none-ready}

-- the tick after idle ones is a later one
pub idled_later : (q : Option Pending) (t limit : ℕ) {r : ℕ} → r ≡ idled_by q t limit → t < r
idled_later q t limit {r} e = by (ltb t (until_of q limit)) refl
  where
    by : (b : Bool) → ltb t (until_of q limit) ≡ b → t < r
    by true f = rw (e, f) (ltb-true t (until_of q limit) f)
    by false f = rw (e, f) (omega arith)

pass_turn : (program : List BodyCommand) (bounds : List ℕ) (m : Shared) (ts : List Own) (jobs : List Job) (n : ℕ) (ws : List ℕ) (y : Option ℕ) (r t : ℕ)
    → n ≡ 0
    → flat m ts jobs n ws y r (t + 1) ≡ ticked program bounds (flat m ts jobs n ws y r t)
unfolding ticked
pass_turn program bounds m ts jobs n ws y r t e = rw (eq-eqb n 0 e)

-- a release to come keeps the run from stopping
due-on : (b : Bool) (task next n : ℕ) → stops_by (due_by b task next) n ≡ false
due-on true task next n = refl
due-on false task next n = refl

still-on : (q : Option Pending) (r n t v : ℕ) → stops_by (coming_by None r q t) n ≡ false → stops_by (coming_by None r q v) n ≡ false
still-on (Some q) r n t v e = due-on (eqb q.tick v) q.task q.after n
still-on None r n t v e = e

module _ (sheet : List ℕ) (program : List BodyCommand) (bounds : List ℕ) (limit : ℕ) (m : Shared) (ts : List Own) (jobs : List Job) (n : ℕ)
    (ws : List ℕ) (y : Option ℕ) (r : ℕ) (q : Option Pending) (next : q ≡ pending_at (command_at sheet r)) (idle : n ≡ 0) (u : FlatMachine) where
  -- the run goes on from this machine at that tick
  abbrev Goes : ℕ → Type 0
  Goes t = Ends sheet program bounds limit (flat m ts jobs n ws y r t) u

  one : (t : ℕ) → t < limit → ((task after : ℕ) → coming_by y r q t ≡ Due task after → ⊥) → stops_by (coming_by y r q t) n ≡ false → Goes (t + 1)
      → Goes t
  one t lt due on e =
      after-tick sheet program bounds limit _ q next _ lt due on
      (pass_turn program bounds m ts jobs n ws y r t idle) u e

  -- k ticks before the next release
  all : (k t : ℕ) → y ≡ None → ((v : ℕ) → stops_by (coming_by y r q v) n ≡ false) → t + k ≤ until_of q limit → Goes (t + k) → Goes t
  all zero t none on le e = subst Goes (omega arith) e
  all (suc k) t none on le e =
      let lt : t < until_of q limit = omega arith in
      one t (until_limit limit t q lt) (until_due limit t q r none lt) (on t)
      (all k (t + 1) none on (omega arith) (subst Goes (omega arith) e))

  pub idled_ticks : (t : ℕ) {c : Coming} {v : ℕ} → t < limit → c ≡ coming_by y r q t → ((task after : ℕ) → c ≡ Due task after → ⊥)
      → stops_by c n ≡ false → v ≡ idled_by q t limit → Goes v
      → Goes t
  idled_ticks t {v = v} lt e1 other stops e2 e = by (ltb t (until_of q limit)) refl
    where
      due : (task after : ℕ) → coming_by y r q t ≡ Due task after → ⊥
      due task after h = other task after (e1 ∙ h)

      on : stops_by (coming_by y r q t) n ≡ false
      on = sym (ap (λ (x : Coming). stops_by x n) e1) ∙ stops

      by : (b : Bool) → ltb t (until_of q limit) ≡ b → Goes t
      by true f =
          let less : t < until_of q limit = ltb-true t (until_of q limit) f in
          let none = none-ready y r q t due in
          let same : v ≡ until_of q limit = e2 ∙ rw f in
          all (until_of q limit - t) t none (λ v. rw none (still-on q r n t v (rw none at on))) (omega arith) (subst Goes (omega arith) e)
      by false f = let same : v ≡ t + 1 = e2 ∙ rw f in one t lt due on (subst Goes same e)
