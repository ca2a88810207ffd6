-- The builder's state in eight rows of eight bytes.
use Rattle.std.specs.Prelude.{ℕ, zero, suc, Bool, true, false, not, List, [], get_or, take}
use Rattle.model.specs.Command.{big_endian}
use Rattle.model.specs.Fault.{Section, word_section, block_section, body_section, release_section, SheetCounts, Body}
use Rattle.model.specs.Builder.{BuilderState}

abbrev pub section_of : ℕ → Section
section_of zero = word_section
section_of (suc zero) = block_section
section_of (suc (suc zero)) = body_section
section_of (suc (suc (suc n))) = release_section

abbrev pub some? : ℕ → Bool
some? zero = false
some? (suc n) = true

-- row 0: the section, and how many there are of each
unfoldable pub counts_of : List ℕ → SheetCounts
unfolding big_endian
counts_of r =
    record { words = get_or r 1 0; blocks = get_or r 2 0; tasks = get_or r 3 0; commands = big_endian r 4 2; releases = big_endian r 6 2 }

-- row 1: whether the body has commands, whether a transaction is open, how many of each list; rows 4, 5 and 6: the lists
unfoldable pub body_of : List ℕ → List ℕ → List ℕ → List ℕ → Body
body_of r pairs touched puts =
    record {
      empty = not (some? (get_or r 0 0));
      pairs = take (get_or r 1 0) pairs;
      inside = some? (get_or r 2 0);
      touched = take (get_or r 3 0) touched;
      puts = take (get_or r 4 0) puts;
    }

abbrev pub row : List (List ℕ) → ℕ → List ℕ
row s n = get_or s n []

-- row 2: the tick of the last release; row 3: the filled length; the rest of row 1: the task of the last release, and whether END is taken
unfoldable pub state_of : List (List ℕ) → BuilderState
unfolding big_endian counts_of body_of
state_of s =
    record {
      known =
          record {
            section = section_of (get_or (row s 0) 0 0);
            counts = counts_of (row s 0);
            body = body_of (row s 1) (row s 4) (row s 5) (row s 6);
            last = record { tick = big_endian (row s 2) 0 4; task = get_or (row s 1) 5 0 };
          };
      filled = big_endian (row s 3) 0 8;
      ended = some? (get_or (row s 1) 6 0);
    }
