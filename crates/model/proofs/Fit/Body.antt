-- A body without fault, command by command, and what the check lets a reader of one command know.
use Prim.Native.Nat.{ℕ, ◌<◌}
use mathlib.Core.Path.{◌≡◌, refl}
use mathlib.Core.Bool.{Bool, true, false, not, ◌&&◌, false≢true}
use mathlib.Core.List.{List, [], ◌∷◌}
use mathlib.Core.Option.{none}
use native.Mathlib.Omega.{arith}
use lib.ListN.{length}
use lib.Dec.{ltb, leb}
use borrow.Author.Tests.{ltb-true, leb-true, not-true}
use Rattle.model.specs.Command.{GET, PUT, Outside, READ, PAIR, SWAP, BEGIN, Inside, access}
use Rattle.model.specs.Command.{COMMIT, BodyCommand, LOAD, ADD, outside, inside, Command, body}
use Rattle.model.specs.Fault.{body_section, Body, Known, may_end, among, none?, room, fault_of, outside_transaction, body?, lowest}
use Rattle.model.specs.Fault.{in_place_outside, in_place_body, in_place, under_ceiling_outside, under_ceiling_inside, under_ceiling_body, under_ceiling}
use Rattle.model.specs.Fault.{in_range_outside, in_range_inside, in_range_body, in_range, new_word_outside, new_word_body, new_word, rising}
use Rattle.model.specs.Sheet.{after}
use Rattle.model.proofs.Lists.{impossible}
use Rattle.model.proofs.Fit.Elements.{and_left, and_right}

pub record First (k : Known) (c : BodyCommand) (Others : Type 0) : Type 0 where
  pub faultless : fault_of k (body c) ≡ none
  pub others : Others

-- each command in turn is without fault, and at the end the body may end
abbrev pub Faultless : Known → List BodyCommand → Type 0
Faultless k [] = may_end k.body ≡ true
Faultless k (c ∷ l) = First k c (Faultless (after k (body c)) l)

-- a body is open in a sheet with that many words and blocks
pub record Open (words blocks : ℕ) (k : Known) : Type 0 where
  pub section : k.section ≡ body_section
  pub word_count : k.counts.words ≡ words
  pub block_count : k.counts.blocks ≡ blocks

-- WHAT THE CHECK SAYS OF ONE COMMAND OF AN OPEN BODY
pub record AddFits (r q : ℕ) : Type 0 where
  pub register : r < 8
  pub other : q < 8

pub record ReadFits (words r w : ℕ) : Type 0 where
  pub register : r < 8
  pub word : w < words

pub record PairFits (words : ℕ) (b : Body) (w o n : ℕ) : Type 0 where
  pub word : w < words
  pub old : o < 8
  pub new : n < 8
  pub room : length b.pairs < 8
  pub not_yet : among w b.pairs ≡ false

pub record SwapFits (b : Body) (r : ℕ) : Type 0 where
  pub register : r < 8
  pub some : none? b.pairs ≡ false

-- room: the block is named already, or fewer than the ceiling are
pub record GetFits (blocks : ℕ) (b : Body) (r n o : ℕ) : Type 0 where
  pub register : r < 8
  pub block : n < blocks
  pub offset : o < 8
  pub room_touched : room 8 n b.touched ≡ true

pub record PutFits (blocks : ℕ) (b : Body) (n o r : ℕ) : Type 0 where
  pub block : n < blocks
  pub offset : o < 8
  pub register : r < 8
  pub room_touched : room 8 n b.touched ≡ true
  pub room_puts : room 4 n b.puts ≡ true

abbrev pub OutsideFits : ℕ → Body → Outside → Type 0
OutsideFits words b (READ r w) = ReadFits words r w
OutsideFits words b (PAIR w o n) = PairFits words b w o n
OutsideFits words b (SWAP r) = SwapFits b r
OutsideFits words b BEGIN = b.pairs ≡ []

abbrev pub InsideFits : ℕ → Body → Inside → Type 0
InsideFits blocks b (access (GET r n o)) = GetFits blocks b r n o
InsideFits blocks b (access (PUT n o r)) = PutFits blocks b n o r
InsideFits blocks b COMMIT = Unit {0}

-- in its place, with operands that fit
pub record Placed (b : Body) (is_open : Bool) (Fits : Type 0) : Type 0 where
  pub place : b.inside ≡ is_open
  pub fits : Fits

abbrev pub CommandFits : ℕ → ℕ → Body → BodyCommand → Type 0
CommandFits words blocks b (LOAD r v) = r < 8
CommandFits words blocks b (ADD r q) = AddFits r q
CommandFits words blocks b (outside c) = Placed b false (OutsideFits words b c)
CommandFits words blocks b (inside c) = Placed b true (InsideFits blocks b c)

-- READ OUT OF THE ANSWER OF THE CHECK
-- each of the five tests was passed
pub record Passed (place ceiling range word rise : Bool) : Type 0 where
  pub in_place : place ≡ true
  pub under_ceiling : ceiling ≡ true
  pub in_range : range ≡ true
  pub new_word : word ≡ true
  pub rising : rise ≡ true

pub passed : (a b c d e : Bool) → lowest a b c d e ≡ none → Passed a b c d e
unfolding lowest
passed false b c d e q = impossible (cc)
passed true false c d e q = impossible (cc)
passed true true false d e q = impossible (cc)
passed true true true false e q = impossible (cc)
passed true true true true false q = impossible (cc)
passed true true true true true q = record { in_place = refl; under_ceiling = refl; in_range = refl; new_word = refl; rising = refl }

pub passed_of : (k : Known) (c : Command) → fault_of k c ≡ none
    → Passed (in_place k c) (under_ceiling k c) (in_range k.counts c) (new_word k.body c) (rising k c)
unfolding fault_of
passed_of k c q = passed (in_place k c) (under_ceiling k c) (in_range k.counts c) (new_word k.body c) (rising k c) q

-- a last register or offset of 7
seven : (r : ℕ) → leb r 7 ≡ true → r < 8
seven r e = omega (arith, leb-true r 7 e)

outside-place : (k : Known) → outside_transaction k ≡ true → k.body.inside ≡ false
outside-place k e = not-true k.body.inside (and_right (body? k.section) (not k.body.inside) e)

no_pairs : (l : List ℕ) → none? l ≡ true → l ≡ []
no_pairs [] e = refl
no_pairs (x ∷ l) e = absurd (false≢true e)

module _ (k : Known) (words blocks : ℕ) (o : Open words blocks k) where
  declared-word : (w : ℕ) → ltb w k.counts.words ≡ true → w < words
  declared-word w e = rw o.word_count at (ltb-true w k.counts.words e)

  declared_block : (b : ℕ) → ltb b k.counts.blocks ≡ true → b < blocks
  declared_block b e = rw o.block_count at (ltb-true b k.counts.blocks e)

  -- the tests of a body command, past those that all body commands share
  outside_fits : (c : Outside) → in_place_outside k.body c ≡ true → under_ceiling_outside k.body c ≡ true → in_range_outside k.counts c ≡ true
      → new_word_outside k.body c ≡ true → OutsideFits words k.body c
  unfolding in_place_outside under_ceiling_outside in_range_outside new_word_outside
  outside_fits (READ r w) p u i n = record { register = seven r (and_left _ _ i); word = declared-word w (and_right (leb r 7) _ i) }
  outside_fits (PAIR w old new) p u i n =
      let range = and_left (ltb w k.counts.words && leb old 7) (leb new 7) i in
      record {
        word = declared-word w (and_left _ (leb old 7) range);
        old = seven old (and_right (ltb w k.counts.words) _ range);
        new = seven new (and_right (ltb w k.counts.words && leb old 7) _ i);
        room = ltb-true _ 8 u;
        not_yet = not-true _ n;
      }
  outside_fits (SWAP r) p u i n = record { register = seven r i; some = not-true _ p }
  outside_fits BEGIN p u i n = no_pairs _ p

  inside_fits : (c : Inside) → under_ceiling_inside k.body c ≡ true → in_range_inside k.counts c ≡ true → InsideFits blocks k.body c
  unfolding under_ceiling_inside in_range_inside
  inside_fits (access (GET r n s)) u i =
      let range = and_left (leb r 7 && ltb n k.counts.blocks) (leb s 7) i in
      record {
        register = seven r (and_left _ (ltb n k.counts.blocks) range);
        block = declared_block n (and_right (leb r 7) _ range);
        offset = seven s (and_right (leb r 7 && ltb n k.counts.blocks) _ i);
        room_touched = u;
      }
  inside_fits (access (PUT n s r)) u i =
      let range = and_left (ltb n k.counts.blocks && leb s 7) (leb r 7) i in
      record {
        block = declared_block n (and_left _ (leb s 7) range);
        offset = seven s (and_right (ltb n k.counts.blocks) _ range);
        register = seven r (and_right (ltb n k.counts.blocks && leb s 7) _ i);
        room_touched = and_left _ (room 4 n k.body.puts) u;
        room_puts = and_right (room 8 n k.body.touched) _ u;
      }
  inside_fits COMMIT u i = tt

  pub command_fits : (c : BodyCommand) → fault_of k (body c) ≡ none → CommandFits words blocks k.body c
  unfolding in_place in_place_body under_ceiling under_ceiling_body in_range in_range_body new_word new_word_body
  command_fits (LOAD r v) q = seven r (passed_of k (body (LOAD r v)) q).in_range
  command_fits (ADD r s) q =
      let p = passed_of k (body (ADD r s)) q in
      record { register = seven r (and_left _ _ p.in_range); other = seven s (and_right (leb r 7) _ p.in_range) }
  command_fits (outside c) q =
      let p = passed_of k (body (outside c)) q in
      record {
        place = outside-place k (and_left (outside_transaction k) _ p.in_place);
        fits =
            outside_fits c (and_right (outside_transaction k) _ p.in_place) (and_right (ltb k.counts.commands 512) _ p.under_ceiling)
            p.in_range p.new_word;
      }
  command_fits (inside c) q =
      let p = passed_of k (body (inside c)) q in
      record {
        place = and_right (body? k.section) _ p.in_place;
        fits = inside_fits c (and_right (ltb k.counts.commands 512) _ p.under_ceiling) p.in_range;
      }
