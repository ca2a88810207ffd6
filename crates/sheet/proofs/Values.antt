-- The values that lie beside a BLOCK play no part in the rules, in what is known after a command, and in the end of the reading.
use Prim.Native.Nat.{ℕ}
use mathlib.Core.Path.{◌≡◌, refl, sym, ◌∙◌, ap, subst}
use mathlib.Core.Bool.{Bool, true, false}
use mathlib.Core.Option.{Option, none, some}
use mathlib.Core.List.{List, []}
use Rattle.model.specs.Fault.{Known, fault_of}
use Rattle.model.specs.Refusal.{Refusal}
use Rattle.model.specs.Command.{found, command_at}
use Rattle.model.specs.Command as M
use Rattle.model.specs.Sheet.{Verdict, after, end?, judge_end, judge_fault, verdict}
use Rattle.sheet.specs.Indexed.{counted, Room}
use Rattle.sheet.specs.declared.index.Sheet.{Sheet}
use Rattle.sheet.proofs.Reading.{Reached, is_judged, next_reached}
use Rattle.commands.specs.View.{view_command}
use Rattle.commands.specs.declared.Command.{Command}
use Rattle.commands.specs.declared.Command.TheVariants.{Word, Block, Task, Release, End, Body}

module _ (vs : List ℕ) where
  pub fault_values : (k : Known) (c : Command) → fault_of k (view_command vs c) ≡ fault_of k (view_command [] c)
  unfolding fault_of
  fault_values k (Word v) = refl
  fault_values k (Block v) = refl
  fault_values k Task = refl
  fault_values k (Release r) = refl
  fault_values k End = refl
  fault_values k (Body c) = refl

  pub after-values : (k : Known) (c : Command) → after k (view_command vs c) ≡ after k (view_command [] c)
  unfolding after
  after-values k (Word v) = refl
  after-values k (Block v) = refl
  after-values k Task = refl
  after-values k (Release r) = refl
  after-values k End = refl
  after-values k (Body c) = refl

  pub end_values : (c : Command) → end? (view_command vs c) ≡ end? (view_command [] c)
  end_values (Word v) = refl
  end_values (Block v) = refl
  end_values Task = refl
  end_values (Release r) = refl
  end_values End = refl
  end_values (Body c) = refl

-- a command that leaves the same known, and ends the reading where the other does, is judged as the other is
module _ (go : ℕ → Known → Verdict) (s : List ℕ) (at : ℕ) (k : Known) (c d : M.Command) (next : ℕ) (same : after k c ≡ after k d) where
  same_end : (b : Bool) → judge_end go s k c next b ≡ judge_end go s k d next b
  unfolding judge_end
  same_end true = refl
  same_end false = ap (go next) same

  same_judged : end? c ≡ end? d → (o : Option Refusal) → judge_fault go s at k c next o ≡ judge_fault go s at k d next o
  unfolding judge_fault
  same_judged e (some f) = refl
  same_judged e none = rw e (same_end (end? d))

pub judge-values :
    (vs : List ℕ) (go : ℕ → Known → Verdict) (s : List ℕ) (at : ℕ) (k : Known) (c : Command) (next : ℕ)
    → judge_fault go s at k (view_command vs c) next (fault_of k (view_command vs c))
    ≡ judge_fault go s at k (view_command [] c) next (fault_of k (view_command [] c))
judge-values vs go s at k c next =
    same_judged go s at k (view_command vs c) (view_command [] c) next (after-values vs k c) (end_values vs c) (fault_of k (view_command vs c))
    ∙ ap (judge_fault go s at k (view_command [] c) next) (fault_values vs k c)

-- THE READING
module _ (s : List ℕ) (at : ℕ) (k : Known) (r : Reached s at k) (vs : List ℕ) (c : Command) {next : ℕ}
    (e : command_at s at ≡ found (view_command vs c) next) where
  pub stopped : {v : Verdict} → ((go : ℕ → Known → Verdict) → judge_fault go s at k (view_command [] c) next (fault_of k (view_command [] c)) ≡ v)
      → v ≡ verdict s
  stopped stops = is_judged s at k r e (λ go. judge-values vs go s at k c next ∙ stops go)

  pub went_on : {q : Known} → (fault_of k (view_command [] c) ≡ none) × (end? (view_command [] c) ≡ false) → q ≡ after k (view_command [] c)
      → Reached s next q
  went_on {q} says is =
      subst (λ (q : Known). Reached s next q) (after-values vs k c ∙ sym is)
      (next_reached s at k r e (fault_values vs k c ∙ says.0) (end_values vs c ∙ says.1))

-- THE INDEX
module _ (vs : List ℕ) (x : Sheet) where
  pub room-values : (c : Command) → Room x (view_command vs c) → Room x (view_command [] c)
  room-values (Word v) h = h
  room-values (Block v) h = h
  room-values Task h = h
  room-values (Release r) h = h
  room-values End h = h
  room-values (Body c) h = h

  pub counted-values : (c : Command) (at next : ℕ) → counted x (view_command vs c) at next ≡ counted x (view_command [] c) at next
  unfolding counted
  counted-values (Word v) at next = refl
  counted-values (Block v) at next = refl
  counted-values Task at next = refl
  counted-values (Release r) at next = refl
  counted-values End at next = refl
  counted-values (Body c) at next = refl
