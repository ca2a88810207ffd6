-- What a statement does to its task's counts: one of finished, spent and lost may rise, and a job that ends is counted.
use Prim.Native.Nat.{suc, ◌+◌, ◌≤◌}
use mathlib.Core.Bool.{true, false}
use mathlib.Core.Path.{◌≡◌, refl}
use native.Mathlib.Omega.{arith}
use Rattle.model.specs.Job.{Task, lost, finished, spent, raised}
use Rattle.model.specs.Machine.{unfinished}
use Rattle.model.specs.Drops.{jobs_of}

pub record CountsFit (t t' : Task) : Type 0 where
  pub most : t'.counts.finished + t'.counts.spent + t'.counts.lost ≤ suc (t.counts.finished + t.counts.spent + t.counts.lost)
  pub ticks : t'.counts.ticks ≡ t.counts.ticks
  pub dropped : t'.counts.dropped ≡ t.counts.dropped
  pub jobs : unfinished t.job.phase ≡ true → jobs_of t' ≡ jobs_of t

module _ {t t' : Task} where
  -- the job goes on, and an attempt may have been lost
  module _ (u : unfinished t'.job.phase ≡ true) where
    pub same-counts : t'.counts ≡ t.counts → CountsFit t t'
    same-counts e = record { most = rw e (omega arith); ticks = rw e refl; dropped = rw e refl; jobs = λ h. rw (e, u, h) refl }

    pub lost-counts : t'.counts ≡ raised lost t.counts → CountsFit t t'
    lost-counts e = record { most = rw e (omega arith); ticks = rw e refl; dropped = rw e refl; jobs = λ h. rw (e, u, h) refl }

  -- it ends, finished or spent
  module _ (u : unfinished t'.job.phase ≡ false) where
    pub finished-counts : t'.counts ≡ raised finished t.counts → CountsFit t t'
    finished-counts e = record { most = rw e (omega arith); ticks = rw e refl; dropped = rw e refl; jobs = λ h. rw (e, u, h) (omega arith) }

    pub spent-counts : t'.counts ≡ raised spent t.counts → CountsFit t t'
    spent-counts e = record { most = rw e (omega arith); ticks = rw e refl; dropped = rw e refl; jobs = λ h. rw (e, u, h) (omega arith) }
