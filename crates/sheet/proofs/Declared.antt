-- Where the words and blocks of an accepted sheet stand: the words first, five bytes each, then the blocks, 37 bytes each.
use Prim.Native.Nat.{ℕ, zero, suc, ◌+◌, ◌*◌, ◌<◌, ◌≤◌}
use mathlib.Core.Path.{◌≡◌, refl, ◌∙◌, ap}
use mathlib.Core.List.{List, [], ◌∷◌, ◌++◌}
use native.Mathlib.Omega.{arith}
use lib.ListN.{length, get_or}
use Rattle.model.specs.Command.{Block, Command, END, big_endian, found, command_at}
use Rattle.model.specs.Fault.{Known}
use Rattle.model.specs.Sheet.{Sheet, Declared, after, declared, verdict, accepted, sheet_of, commands_at}
use Rattle.commands.specs.Stages.{values_from}
use Rattle.sheet.specs.ReadToEnd.{Stand, nothing, first, Faultless, unread, good, ReadToEnd}
use Rattle.commands.proofs.Decoding.{past_the_end}
use Rattle.rules.proofs.Faults.{keeps}
use Rattle.sheet.proofs.Reading.{next-after}
use Rattle.sheet.proofs.Places.{commands-found, commands-refused, commands-stand, declared-is, sheet-is}
use Rattle.sheet.proofs.Sections.{rank, Kind, is_word, is_block, is_task, is_release, is_body, kind, word_at, block_at}
use Rattle.sheet.proofs.Accepted.{accepted_when_read}

-- what commands declare that END follows
abbrev pub whole : List Command → Sheet
whole l = (declared (l ++ (END ∷ []))).sheet

-- NO WORDS after the word section, NO BLOCKS after the block section
module _ (k : Known) (l : List Command) where
  words-none-by : (c : Command) → Kind k c → 0 < rank k.section → (0 < rank (after k c).section → (whole l).words ≡ []) → (whole (c ∷ l)).words ≡ []
  unfolding declared after
  words-none-by c (is_word e) h go = absurd (omega arith)
  words-none-by c (is_block e) h go = go (omega arith)
  words-none-by c (is_task e) h go = go (omega arith)
  words-none-by c (is_release e) h go = go (omega arith)
  words-none-by c (is_body e) h go = go h

words-none : {k m : Known} {l : List Command} → Faultless k l m → 0 < rank k.section → (whole l).words ≡ []
unfolding declared
words-none unread h = refl
words-none {k} (good {c = c} {l = l} f e r) h = words-none-by k l c (kind k c (keeps k c f).place e) h (words-none r)

module _ (k : Known) (l : List Command) where
  blocks-none-by : (c : Command) → Kind k c → 1 < rank k.section → (1 < rank (after k c).section → (whole l).blocks ≡ [])
      → (whole (c ∷ l)).blocks ≡ []
  unfolding declared after
  blocks-none-by c (is_word e) h go = absurd (omega arith)
  blocks-none-by c (is_block e) h go = absurd (omega arith)
  blocks-none-by c (is_task e) h go = go (omega arith)
  blocks-none-by c (is_release e) h go = go (omega arith)
  blocks-none-by c (is_body e) h go = go h

blocks-none : {k m : Known} {l : List Command} → Faultless k l m → 1 < rank k.section → (whole l).blocks ≡ []
unfolding declared
blocks-none unread h = refl
blocks-none {k} (good {c = c} {l = l} f e r) h = blocks-none-by k l c (kind k c (keeps k c f).place e) h (blocks-none r)

-- nothing is below the length of an empty list
empty : {A : Type 0} {B : Type 0} {l : List A} {i : ℕ} → l ≡ [] → i < length l → B
empty e h = absurd (omega (arith, rw e at h))

-- THE WORDS
module _ (s : List ℕ) (o : ℕ) (k : Known) (l : List Command) (next : ℕ) where
  abbrev WordsAt : ℕ → List ℕ → Type 0
  WordsAt p ws = (i : ℕ) → i < length ws → get_or ws i 0 ≡ big_endian s (suc (p + 5 * i)) 4

  words-by :
      (c : Command) → Kind k c → command_at s o ≡ found c next → rank k.section ≡ 0
      → (rank (after k c).section ≡ 0 → WordsAt next (whole l).words) → (0 < rank (after k c).section → (whole l).words ≡ [])
      → WordsAt o (whole (c ∷ l)).words
  unfolding declared after
  words-by c (is_word e) f h go ends zero less = (word_at s o f).0 ∙ ap (λ (p : ℕ). big_endian s (suc p) 4) (omega arith)
  words-by c (is_word e) f h go ends (suc i) less = go refl i (omega arith) ∙ ap (λ (p : ℕ). big_endian s (suc p) 4) (omega (arith, (word_at s o f).1))
  words-by c (is_block e) f h go ends i less = empty (ends (omega arith)) less
  words-by c (is_task e) f h go ends i less = empty (ends (omega arith)) less
  words-by c (is_release e) f h go ends i less = absurd (omega arith)
  words-by c (is_body e) f h go ends i less = absurd (omega arith)

words-from :
    {s : List ℕ} {o p : ℕ} {k m : Known} {l : List Command} → Stand s o l p → Faultless k l m → rank k.section ≡ 0
    → (i : ℕ) → i < length (whole l).words → get_or (whole l).words i 0 ≡ big_endian s (suc (o + 5 * i)) 4
unfolding declared
words-from nothing unread h i less = absurd (omega arith)
words-from {s} {o} {k = k} (first {next = next} {c = c} {l = l} f r) (good g e q) h i less =
    words-by s o k l next c (kind k c (keeps k c g).place e) f h (words-from r q) (words-none q) i less

-- THE BLOCKS
-- the block whose command stands at a place
abbrev pub read_block : List ℕ → ℕ → Block
read_block s p = record { version = big_endian s (suc p) 4; values = values_from s (suc p) }

module _ (s : List ℕ) (o : ℕ) (k : Known) (l : List Command) (next : ℕ) (d : Block) where
  abbrev BlocksAt : ℕ → Sheet → Type 0
  BlocksAt p x = (i : ℕ) → i < length x.blocks → get_or x.blocks i d ≡ read_block s (p + 5 * length x.words + 37 * i)

  blocks-by :
      (c : Command) → Kind k c → command_at s o ≡ found c next → rank k.section ≤ 1
      → (rank (after k c).section ≤ 1 → BlocksAt next (whole l))
      → (0 < rank (after k c).section → (whole l).words ≡ []) → (1 < rank (after k c).section → (whole l).blocks ≡ [])
      → BlocksAt o (whole (c ∷ l))
  unfolding declared after
  blocks-by c (is_word e) f h go words blocks i less =
      go (omega arith) i less ∙ ap (read_block s) (omega (arith, (word_at s o f).1))
  blocks-by c (is_block e) f h go words blocks zero less =
      (block_at s o f).0 ∙ ap (read_block s) (omega (arith, ap length (words (omega arith))))
  blocks-by c (is_block e) f h go words blocks (suc i) less =
      go (omega arith) i (omega arith) ∙ ap (read_block s) (omega (arith, (block_at s o f).1))
  blocks-by c (is_task e) f h go words blocks i less = empty (blocks (omega arith)) less
  blocks-by c (is_release e) f h go words blocks i less = absurd (omega arith)
  blocks-by c (is_body e) f h go words blocks i less = absurd (omega arith)

blocks_from :
    {s : List ℕ} {o p : ℕ} {k m : Known} {l : List Command} (d : Block) → Stand s o l p → Faultless k l m → rank k.section ≤ 1
    → (i : ℕ) → i < length (whole l).blocks → get_or (whole l).blocks i d ≡ read_block s (o + 5 * length (whole l).words + 37 * i)
unfolding declared
blocks_from d nothing unread h i less = absurd (omega arith)
blocks_from {s} {o} {k = k} d (first {next = next} {c = c} {l = l} f r) (good g e q) h i less =
    blocks-by s o k l next d c (kind k c (keeps k c g).place e) f h (blocks_from d r q) (words-none q) (blocks-none q) i less

-- AN ACCEPTED SHEET
pub whole-sheet : {s : List ℕ} (w : ReadToEnd s) → sheet_of s ≡ whole w.read.commands
whole-sheet {s} w =
    let last : commands_at s w.place ≡ END ∷ [] = commands-found s w.place w.last
    ∙ ap (λ (l : List Command). END ∷ l) (commands-refused s (length s) (past_the_end s (length s) (omega arith))) in
    sheet-is s
    ∙ ap (λ (d : Declared). d.sheet)
    (declared-is s 0 ∙ ap declared (commands-stand w.read.stand ∙ ap (λ (l : List Command). w.read.commands ++ l) last))

module _ (s : List ℕ) (e : verdict s ≡ accepted) (i : ℕ) where
  pub word_of : i < length (sheet_of s).words → get_or (sheet_of s).words i 0 ≡ big_endian s (suc (5 * i)) 4
  word_of h =
      let w : ReadToEnd s = (accepted_when_read s).0 e in
      rw (whole-sheet w)
      (words-from w.read.stand w.read.faultless refl i (rw (whole-sheet w) at h) ∙ ap (λ (p : ℕ). big_endian s (suc p) 4) (omega arith))

  pub block_of : (d : Block) → i < length (sheet_of s).blocks → get_or (sheet_of s).blocks i d ≡ read_block s (5 * length (sheet_of s).words + 37 * i)
  block_of d h =
      let w : ReadToEnd s = (accepted_when_read s).0 e in
      rw (whole-sheet w)
      (blocks_from d w.read.stand w.read.faultless (omega arith) i (rw (whole-sheet w) at h) ∙ ap (read_block s) (omega arith))

-- ROOM: the words and blocks lie within the sheet
module _ (s : List ℕ) (o place : ℕ) (k : Known) (l : List Command) (next : ℕ) where
  abbrev Fits : ℕ → Sheet → Type 0
  Fits p x = p + 5 * length x.words + 37 * length x.blocks ≤ place

  fits_by : (c : Command) → Kind k c → command_at s o ≡ found c next → Fits next (whole l) → Fits o (whole (c ∷ l))
  unfolding declared
  fits_by c (is_word e) f h = omega (arith, (word_at s o f).1)
  fits_by c (is_block e) f h = omega (arith, (block_at s o f).1)
  fits_by c (is_task e) f h = omega (arith, (next-after s o f).0)
  fits_by c (is_release e) f h = omega (arith, (next-after s o f).0)
  fits_by c (is_body e) f h = omega (arith, (next-after s o f).0)

fits_from :
    {s : List ℕ} {o p : ℕ} {k m : Known} {l : List Command} → Stand s o l p → Faultless k l m
    → o + 5 * length (whole l).words + 37 * length (whole l).blocks ≤ p
unfolding declared
fits_from nothing unread = omega arith
fits_from {s} {o} {p} {k} (first {next = next} {c = c} {l = l} f r) (good g e q) =
    fits_by s o p k l next c (kind k c (keeps k c g).place e) f (fits_from r q)

pub fits : (s : List ℕ) → verdict s ≡ accepted → 5 * length (sheet_of s).words + 37 * length (sheet_of s).blocks < length s
fits s e =
    let w : ReadToEnd s = (accepted_when_read s).0 e in
    rw (whole-sheet w) (omega (arith, fits_from w.read.stand w.read.faultless, (next-after s w.place w.last).0))
