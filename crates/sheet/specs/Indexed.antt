-- The index of an accepted sheet: the numbers of what it declares, and the places where its bodies and its releases start.
use Rattle.std.specs.Prelude.{ℕ, ◌+◌, ◌<◌, ◌≤◌, ◌≡◌, Bool, true, false, List, [], ◌∷◌, eqb, length, get_or, set, replicate}
use Rattle.model.specs.Ceilings.{max_words, max_blocks, max_tasks, max_releases}
use Rattle.model.specs.Command.{Command, WORD, BLOCK, TASK, RELEASE, END, body}
use Rattle.model.specs.Sheet.{sheet_of, body_at, releases_at, commands_at}
use Rattle.sheet.specs.declared.index.Sheet.{Sheet}

-- releases up to END, and nothing else
abbrev pub OnlyReleases : List Command → Type 0
OnlyReleases [] = Unit {0}
OnlyReleases (RELEASE r ∷ l) = OnlyReleases l
OnlyReleases (END ∷ l) = l ≡ []
OnlyReleases (WORD v ∷ l) = ⊥
OnlyReleases (BLOCK b ∷ l) = ⊥
OnlyReleases (TASK ∷ l) = ⊥
OnlyReleases (body c ∷ l) = ⊥

-- all releases of the sheet stand from a place on, and only they
pub record ReleasesStand (s : List ℕ) (place : ℕ) : Type 0 where
  pub all : (sheet_of s).releases ≡ releases_at s place
  pub only : OnlyReleases (commands_at s place)

pub record Indexed (s : List ℕ) (x : Sheet) : Type 0 where
  pub words : x.words ≡ length (sheet_of s).words
  pub blocks : x.blocks ≡ length (sheet_of s).blocks
  pub tasks : x.tasks ≡ length (sheet_of s).bodies
  pub releases : x.releases ≡ length (sheet_of s).releases
  -- the body of each task is what stands from its place on
  pub bodies : (p : ℕ) → p < x.tasks → get_or (sheet_of s).bodies p [] ≡ body_at s (get_or x.bodies p 0)
  -- the releases are those from their place on
  pub released : ReleasesStand s x.released

abbrev pub index : ℕ → ℕ → ℕ → ℕ → List ℕ → ℕ → Sheet
index w b t r bs q = record { words = w; blocks = b; tasks = t; releases = r; bodies = bs; released = q }

abbrev pub empty_index : Sheet
empty_index = index 0 0 0 0 (replicate max_tasks 0) 0

-- the place of the first release: this one, if there was none before
abbrev pub place_or : Bool → ℕ → ℕ → ℕ
place_or true place before = place
place_or false place before = before

-- the index after one more command, which stands at a place, the next one after it
unfoldable pub counted : Sheet → Command → ℕ → ℕ → Sheet
counted x (WORD v) at next = index (x.words + 1) x.blocks x.tasks x.releases x.bodies x.released
counted x (BLOCK b) at next = index x.words (x.blocks + 1) x.tasks x.releases x.bodies x.released
counted x TASK at next = index x.words x.blocks (x.tasks + 1) x.releases (set x.bodies x.tasks next) x.released
counted x (RELEASE r) at next =
    index x.words x.blocks x.tasks (x.releases + 1) x.bodies (place_or (eqb x.releases 0) at x.released)
counted x END at next = index x.words x.blocks x.tasks x.releases x.bodies (place_or (eqb x.releases 0) at x.released)
counted x (body c) at next = x

-- there is room for one more command
abbrev pub Room : Sheet → Command → Type 0
Room x (WORD v) = x.words < max_words
Room x (BLOCK b) = x.blocks < max_blocks
Room x TASK = x.tasks < max_tasks
Room x (RELEASE r) = x.releases < max_releases
Room x END = 0 ≤ 0
Room x (body c) = 0 ≤ 0

-- a block of the sheet, behind its words
pub record IsBlock (s : List ℕ) (words i : ℕ) : Type 0 where
  pub before : words ≡ length (sheet_of s).words
  pub declared : i < length (sheet_of s).blocks
