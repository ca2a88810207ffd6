-- What each outcome of the judgement at a place says of the whole sheet's verdict, over what the reader handed out there.
use Prim.Native.Nat.{ℕ, suc, ◌-◌, ◌<◌}
use mathlib.Core.Path.{◌≡◌, sym, ap, subst, ◌∙◌}
use mathlib.Core.List.{List, []}
use native.Mathlib.Omega.{arith}
use lib.ListN.{length}
use Rattle.std.specs.Prelude.{Ok, Err, Some, None}
use Rattle.model.specs.Fault.{Known, nothing_known}
use Rattle.model.specs.Sheet.{verdict}
use Rattle.model.specs.Sheet as whole
use Rattle.commands.specs.View.{view_command}
use Rattle.commands.specs.Stages.{values_from}
use Rattle.commands.specs.declared.Fault.{Fault}
use Rattle.commands.specs.declared.Command.{Command}
use Rattle.sheet.specs.View.{Outcome, view_verdict}
use Rattle.sheet.specs.Judgement.{JudgedSays}
use Rattle.sheet.proofs.Reading as sheet
use Rattle.sheet.proofs.Reading.{is-refused, next-after}
use Rattle.sheet.proofs.Values.{stopped, went_on}
use Rattle.reader.specs.Handed.{HandsOut, after, moved}
use Rattle.reader.specs.declared.Reader.{Reader}
use Rattle.sheet_check.specs.Read.{Reached}

-- the same, as the sheet's own theorems have it
abbrev come : {s : List ℕ} {at : ℕ} {k : Known} → Reached s at k → sheet.Reached s at k
come r = record { left = r.left; enough = r.enough; same = r.same }

abbrev gone : {s : List ℕ} {at : ℕ} {k : Known} → sheet.Reached s at k → Reached s at k
gone r = record { left = r.left; enough = r.enough; same = r.same }

pub begins : (s : List ℕ) (k : Known) → k ≡ nothing_known → Reached s 0 k
begins s k e = gone (sheet.start s k e)

-- at what a reader over the sheet has handed out at its offset
module _ (s : List ℕ) (r : Reader) (k : Known) (over : r.sheet.now ≡ s) (reached : Reached s r.at k) where
  pub at_fault : (f : Fault) → HandsOut r.sheet.now r.at (Err f) → view_verdict (Err f) ≡ verdict s
  at_fault f e = is-refused s r.at k (come reached) (sym (rw over at e))

  module _ (c : Command) (next : ℕ) (e : HandsOut r.sheet.now r.at (Ok (c, next))) where
    there : HandsOut s r.at (Ok (c, next))
    there = subst (λ (x : List ℕ). HandsOut x r.at (Ok (c, next))) over e

    pub at-stop : (v : Outcome) → JudgedSays s r.at k (view_command [] c) next (Some v) → view_verdict v ≡ verdict s
    at-stop v says = stopped s r.at k (come reached) (values_from s (suc r.at)) c (sym there) says

    -- a good command leads to the next place
    module _ (q : Reader) (moves : q ≡ moved r) where
      pub over_sheet : q.sheet.now ≡ s
      over_sheet = ap (λ (x : Reader). x.sheet.now) moves ∙ over

      at-next : q.at ≡ next
      at-next = ap (λ (x : Reader). x.at) moves ∙ ap (after r.at) (sym e)

      pub at-command : (l : Known) → JudgedSays s r.at k (view_command [] c) next None → l ≡ whole.after k (view_command [] c) → Reached s q.at l
      at-command l says known = rw at-next (gone (went_on s r.at k (come reached) (values_from s (suc r.at)) c (sym there) says known))

      pub less-left : length s - q.at < length s - r.at
      less-left = let h = next-after s r.at (sym there) in omega (arith, at-next, h.0, h.1)
