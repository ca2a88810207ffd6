-- The releases from a place on, and which of them is due.
use Prim.Native.Nat.{ℕ, zero, suc, ◌+◌, ◌≤◌}
use mathlib.Core.Path.{◌≡◌, refl, sym, ap, ◌∙◌}
use mathlib.Core.Bool.{Bool, true, false}
use mathlib.Core.List.{List, [], ◌∷◌}
use native.Mathlib.Omega.{arith}
use lib.Dec.{eqb}
use lib.ListN.{length}
use borrow.Author.Tests.{eqb-true, le-ltb}
use Rattle.model.specs.Refusal.{Refusal}
use Rattle.model.specs.Command.{Release, Command, WORD, BLOCK, TASK, RELEASE, END, body, Found, found, refused, found_byte, command_at}
use Rattle.model.specs.Sheet.{listed, commands_from}
use Rattle.model.proofs.Fit.Reading.{found_at}
use Rattle.arrivals.specs.Releases.{pending_at, due_by, coming_of}
use Rattle.arrivals.specs.declared.releases.Coming.{Coming}
use Rattle.arrivals.specs.declared.releases.Coming.TheVariants.{Nothing, Later, Due}

-- nothing is found past the end
none-past : (sheet : List ℕ) (n place : ℕ) → length sheet ≤ place → commands_from n sheet place ≡ []
unfolding commands_from listed command_at found_byte
none-past sheet zero place h = refl
none-past sheet (suc n) place h = rw (le-ltb place (length sheet) h) refl

-- as many commands as there are bytes left are enough
module _ (sheet : List ℕ) where
  abbrev Enough : ℕ → ℕ → Type 0
  Enough n m = (place : ℕ) → length sheet ≤ place + n → length sheet ≤ place + m → commands_from n sheet place ≡ commands_from m sheet place

  enough-found : (n m place : ℕ) → Enough n m → length sheet ≤ suc place + n → length sheet ≤ suc place + m → (f : Found) → command_at sheet place ≡ f
      → listed (commands_from n sheet) f ≡ listed (commands_from m sheet) f
  unfolding listed
  enough-found n m place e hn hm (refused r q) c = refl
  enough-found n m place e hn hm (found c next) q =
      let w = found_at sheet place q in
      ap (λ (l : List Command). c ∷ l) (e next (omega (arith, w.onward)) (omega (arith, w.onward)))

  enough : (n m : ℕ) → Enough n m
  unfolding commands_from
  enough zero m place hn hm = sym (none-past sheet m place (omega arith))
  enough (suc n) zero place hn hm = none-past sheet (suc n) place (omega arith)
  enough (suc n) (suc m) place hn hm = enough-found n m place (enough n m) (omega arith) (omega arith) (command_at sheet place) refl

-- the releases with which commands begin
abbrev pub leading : List Command → List Release
leading [] = []
leading (RELEASE r ∷ l) = r ∷ leading l
leading (WORD v ∷ l) = []
leading (BLOCK b ∷ l) = []
leading (TASK ∷ l) = []
leading (END ∷ l) = []
leading (body c ∷ l) = []

unfoldable pub releases_from : List ℕ → ℕ → List Release
releases_from sheet place = leading (commands_from (length sheet) sheet place)

module _ (sheet : List ℕ) (place : ℕ) where
  releases-at : releases_from sheet place ≡ leading (listed (commands_from (length sheet) sheet) (command_at sheet place))
  unfolding releases_from commands_from
  releases-at = ap leading (enough sheet (length sheet) (suc (length sheet)) place (omega arith) (omega arith))

  release-found : (r : Release) (next : ℕ) → command_at sheet place ≡ found (RELEASE r) next → releases_from sheet place ≡ r ∷ releases_from sheet next
  unfolding releases_from listed
  release-found r next e = releases-at ∙ ap (λ (f : Found). leading (listed (commands_from (length sheet) sheet) f)) e

  -- a release of the sheet due at that tick
  pub record DueAt (tick task next : ℕ) : Type 0 where
    pub release : Release
    pub releases : releases_from sheet place ≡ release ∷ releases_from sheet next
    pub now : release.tick ≡ tick
    pub to : release.task ≡ task

  -- a later release, or none
  pub record LaterAt (tick : ℕ) : Type 0 where
    pub release : Release
    pub others : List Release
    pub releases : releases_from sheet place ≡ release ∷ others
    pub later : eqb release.tick tick ≡ false

  abbrev pub ComingAt : ℕ → Coming → Type 0
  ComingAt tick Nothing = releases_from sheet place ≡ []
  ComingAt tick Later = LaterAt tick
  ComingAt tick (Due task next) = DueAt tick task next

  none_found : (c : Command) (next : ℕ) → command_at sheet place ≡ found c next → leading (c ∷ commands_from (length sheet) sheet next) ≡ []
      → releases_from sheet place ≡ []
  unfolding listed
  none_found c next e q = releases-at ∙ ap (λ (f : Found). leading (listed (commands_from (length sheet) sheet) f)) e ∙ q

  none-refused : (f : Refusal) (n : ℕ) → command_at sheet place ≡ refused f n → releases_from sheet place ≡ []
  unfolding listed
  none-refused f n e = releases-at ∙ ap (λ (f : Found). leading (listed (commands_from (length sheet) sheet) f)) e

  pub coming-at : (tick : ℕ) → ComingAt tick (coming_of (pending_at (command_at sheet place)) tick)
  coming-at tick = go (command_at sheet place) refl
    where
      due : (r : Release) (next : ℕ) → command_at sheet place ≡ found (RELEASE r) next → (b : Bool) → eqb r.tick tick ≡ b
          → ComingAt tick (due_by b r.task next)
      due r next e true q = record { release = r; releases = release-found r next e; now = eqb-true _ _ q; to = refl }
      due r next e false q = record { release = r; others = releases_from sheet next; releases = release-found r next e; later = q }

      go : (f : Found) → command_at sheet place ≡ f → ComingAt tick (coming_of (pending_at f) tick)
      go (refused f n) e = none-refused f n e
      go (found (RELEASE r) n) e = due r n e (eqb r.tick tick) refl
      go (found (WORD v) n) e = none_found _ n e refl
      go (found (BLOCK b) n) e = none_found _ n e refl
      go (found TASK n) e = none_found _ n e refl
      go (found END n) e = none_found _ n e refl
      go (found (body c) n) e = none_found _ n e refl
