-- A mark is on another task: the word that an exchange found overlapped is held by a task that runs after its own.
use Prim.Native.Nat.{ℕ}
use mathlib.Core.Path.{◌≡◌, refl, subst}
use mathlib.Core.List.{List}
use native.Mathlib.Omega.{arith}
use Rattle.model.specs.Word.{Memory}
use Rattle.model.specs.Exchange.{Step, start, test, load, look, fetch, fail, mark, install, commit, save, clean, clean_mark, Exchange, entry_at}
use Rattle.model.proofs.Exchanges.Act.{Act, exchanging, act_of, started?, here}
use Rattle.model.proofs.Exchanges.Invariant.{Situation}
use Rattle.model.proofs.Exchanges.Frame.{below_clear}
use Rattle.model.proofs.Exchanges.Early.{mine, at-step_as, replaced_held}
use Rattle.model.proofs.Exchanges.Rates.{MarksOther}

module _ {below : ℕ → ℕ → Type 0} {m : Memory} {acts : List Act} {p : ℕ} where
  marks_working : (x : Exchange) → Situation below m acts p (exchanging x) → MarksOther p x x.step
  marks_working x S = go x.step refl
    where
      go : (s : Step) → x.step ≡ s → MarksOther p x s
      go start s = tt
      go test s = tt
      go load s = tt
      go look s = tt
      go fetch s = tt
      go (save v) s = tt
      go fail s = tt
      go mark s = let k = at-step_as S mark s in below_clear S (here x).init.task (replaced_held S k.0.loaded k.1).0
      go install s = tt
      go commit s = tt
      go (clean j yes?) s = tt
      go (clean_mark j yes?) s =
          let k = at-step_as S (clean_mark j yes?) s in
          below_clear S (entry_at x j).init.task (replaced_held S ((mine S).settled j (rw s (omega arith)) k.0).found.loaded k.2).0

  -- also before its Start
  pub marks-other : (x : Exchange) → Situation below m acts p (act_of x) → MarksOther p x x.step
  marks-other x S = started? x (λ s. rw s tt) (λ e. marks_working x (subst (λ (v : Act). Situation below m acts p v) e S))
