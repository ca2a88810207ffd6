-- Small states worked out by hand: what one statement of an exchange or of READ leaves of them. Each line is computed.
use Rattle.std.proofs.Common.{◌≡◌, ℕ, true, false, List, [], ◌∷◌, refl}
use Rattle.model.specs.Lists.{at, replace}
use Rattle.state.specs.Packed.{packed}
use Rattle.state.specs.State.{Shared, Own}
use Rattle.exchanges.specs.Places.{went, left}
use Rattle.exchanges.specs.Reading.{owned, after_look, after_reading}
use Rattle.exchanges.specs.Exchange.{after_start}
use Rattle.exchanges.specs.Exchange.{after_save, after_install, after_commit, after_clean, after_exchange}
use Rattle.exchanges.specs.declared.read.Reading.TheVariants as reading
use Rattle.exchanges.specs.declared.read.Read.TheVariants.{Reads, Gives}
use Rattle.exchanges.specs.declared.exchange.Step.TheVariants.{Test, Fail, Mark, Install, Clean, CleanMark, Start}
use Rattle.exchanges.specs.declared.exchange.Exchanged.TheVariants.{Goes, Ends}

-- two cells; tasks 0 and 1; task 0 has saved 5 for its first pair
abbrev shared : List ℕ → List ℕ → Shared
shared cells status = record { cells = cells; status = status; saves = 5 ∷ 0 ∷ 0 ∷ 0 ∷ 0 ∷ 0 ∷ 0 ∷ 0 ∷ 0 ∷ []; stores = [] }

-- a task with one pair: cell 0 from 5 to that value, loaded as that word, overlapped or not
abbrev exchanging : ℕ → ℕ → ℕ → Own
exchanging new init overlapped =
    record {
      registers = [];
      kept = [];
      copies = [];
      entries = record { targets = 0 ∷ []; olds = 5 ∷ []; news = new ∷ []; inits = init ∷ []; overlapped = overlapped ∷ [] };
      blocks = record { touched = 0; slots = []; remembered = [] };
      counts = [];
    }

-- the plain word 5, and the word that task 0 has installed for 5 to 6, and task 1
abbrev plain : ℕ
plain = packed 5 0 true 0

abbrev installed : ℕ → ℕ → ℕ
installed v p = packed v 0 false p

-- READ loads, then looks; the installed word of an undecided exchange is not its own value, so the save place is fetched
read-loads : after_reading (shared (installed 6 0 ∷ []) (0 ∷ 0 ∷ [])) 0 reading.Load ≡ Reads (reading.Look (installed 6 0))
unfolding after_reading at packed
read-loads = refl

read_looks : after_reading (shared (installed 6 0 ∷ []) (0 ∷ 0 ∷ [])) 0 (reading.Look (installed 6 0)) ≡ Reads (reading.Fetch (installed 6 0))
unfolding after_reading after_look owned at packed
read_looks = refl

read-fetches : after_reading (shared (installed 6 0 ∷ []) (0 ∷ 0 ∷ [])) 0 (reading.Fetch (installed 6 0)) ≡ Gives 5
unfolding after_reading at packed
read-fetches = refl

-- a decided one's is
read_decided : after_reading (shared (installed 6 0 ∷ []) (2 ∷ 0 ∷ [])) 0 (reading.Look (installed 6 0)) ≡ Gives 6
unfolding after_reading after_look owned at packed
read_decided = refl

-- the first tick of an exchange only starts it
starts : after_exchange (shared (plain ∷ []) (2 ∷ 2 ∷ [])) (exchanging 6 0 0) 1 1 0 Start
    ≡ left (Goes (Test 0)) (shared (plain ∷ []) (2 ∷ 0 ∷ [])) (exchanging 6 0 0)
unfolding after_exchange after_start replace
starts = refl

-- Save: the value found is old; Mark only if the word was overlapped and is changed, Fail only if it is not old
saves-plain : (after_save (shared (plain ∷ []) (2 ∷ 0 ∷ [])) (exchanging 6 plain 0) 1 0 5).next ≡ Install 0
unfolding after_save at
saves-plain = refl

saves-overlapped : (after_save (shared (plain ∷ []) (0 ∷ 0 ∷ [])) (exchanging 6 plain 1) 1 0 5).next ≡ Mark 0
unfolding after_save at
saves-overlapped = refl

saves_unchanged : (after_save (shared (plain ∷ []) (0 ∷ 0 ∷ [])) (exchanging 5 plain 1) 1 0 5).next ≡ Install 0
unfolding after_save at
saves_unchanged = refl

saves_another : (after_save (shared (plain ∷ []) (2 ∷ 0 ∷ [])) (exchanging 6 plain 0) 1 0 7).next ≡ Fail 0
unfolding after_save at
saves_another = refl

-- Install: the same value with another count is not the word that was loaded
installs : after_install (shared (plain ∷ []) (2 ∷ 0 ∷ [])) (exchanging 6 plain 0) 1 0 ≡ went (Test 1) (shared (installed 6 1 ∷ []) (2 ∷ 0 ∷ []))
unfolding after_install at replace packed
installs = refl

installs_not : after_install (shared (packed 5 3 true 0 ∷ []) (2 ∷ 0 ∷ [])) (exchanging 6 plain 0) 1 0
    ≡ went (Fail 1) (shared (packed 5 3 true 0 ∷ []) (2 ∷ 0 ∷ []))
unfolding after_install at packed
installs_not = refl

-- Commit: status 0 says yes, 1 says no
commits : after_commit (shared (installed 6 1 ∷ []) (2 ∷ 0 ∷ [])) 1 1 ≡ went (Goes (Clean 1 0 true)) (shared (installed 6 1 ∷ []) (2 ∷ 2 ∷ []))
unfolding after_commit at replace
commits = refl

commits-not : after_commit (shared (installed 6 1 ∷ []) (2 ∷ 1 ∷ [])) 1 1 ≡ went (Goes (Clean 1 0 false)) (shared (installed 6 1 ∷ []) (2 ∷ 1 ∷ []))
unfolding after_commit at
commits-not = refl

-- Clean: on yes the word as new, on no as it was loaded; taken over by another and overlapped, its task is marked in a tick more
cleans : after_clean (shared (installed 6 1 ∷ []) (2 ∷ 2 ∷ [])) (exchanging 6 plain 0) 1 1 0 true
    ≡ went (Ends true) (shared (packed 6 0 true 1 ∷ []) (2 ∷ 2 ∷ []))
unfolding after_clean at replace packed
cleans = refl

cleans_back : after_clean (shared (installed 6 1 ∷ []) (2 ∷ 1 ∷ [])) (exchanging 6 plain 0) 1 1 0 false
    ≡ went (Ends false) (shared (plain ∷ []) (2 ∷ 1 ∷ []))
unfolding after_clean at replace packed
cleans_back = refl

cleans_marking : after_clean (shared (packed 7 0 true 0 ∷ []) (2 ∷ 1 ∷ [])) (exchanging 6 (installed 5 0) 1) 1 1 0 false
    ≡ went (Goes (CleanMark 1 0 false)) (shared (packed 7 0 true 0 ∷ []) (2 ∷ 1 ∷ []))
unfolding after_clean at packed
cleans_marking = refl
