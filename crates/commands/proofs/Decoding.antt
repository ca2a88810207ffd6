-- The code's table against the model's, and the cases of `commandAt`.
use Prim.Native.Nat.{ℕ, suc, ◌+◌, ◌<◌, ◌≤◌}
use mathlib.Core.Path.{◌≡◌, refl, sym, ◌∙◌}
use mathlib.Core.Bool.{Bool, true, false}
use mathlib.Core.List.{List, [], ◌∷◌}
use mathlib.Core.Option.{none, some}
use native.Mathlib.Omega.{arith}
use native.Mathlib.Nat.{add-zero, zero-add, add_assoc}
use borrow.Author.Tests.{eqb-true, lt-ltb, le-ltb, le-leb, lt-leb}
use lib.Dec.{eqb}
use Rattle.std.specs.Prelude.{Option, Some, None, Ok}
use lib.ListN.{length, get_or}
use Rattle.model.specs.Refusal.{cut_short, no_command}
use Rattle.model.specs.Command.{GET, PUT, READ, PAIR, SWAP, BEGIN, access, COMMIT, LOAD, ADD, outside, inside, WORD, BLOCK, TASK, RELEASE, END, body}
use Rattle.model.specs.Command.{Row, table, row_of, total, big_endian, refused, command_at}
use Rattle.commands.specs.Stages.{values_from, width_of, command_of, ByteSays, EntrySays}
use Rattle.commands.specs.Table.{entries_from, entry_in, entry_of}
use Rattle.commands.specs.declared.table.Entry.{Entry}

-- THE TABLE
-- the byte has a row among these, and its operands take that many bytes
pub record RowIn (b : ℕ) (l : List Row) (width : ℕ) : Type 0 where
  pub row : Row
  pub is : row_of b l ≡ some row
  pub takes : total row.widths ≡ width

abbrev pub RowOf : ℕ → ℕ → Type 0
RowOf b width = RowIn b table width

-- what the code's entries of these rows say of the byte
abbrev NamedIn : ℕ → List Row → Option Entry → Type 0
NamedIn b l None = row_of b l ≡ none
NamedIn b l (Some e) = RowIn b l e.width × (e.byte ≡ b)

abbrev pub NamedSays : ℕ → Option Entry → Type 0
NamedSays b n = NamedIn b table n

-- a test, with what it said in each case
pub cases : {A : Type 0} (t : Bool) → (t ≡ true → A) → (t ≡ false → A) → A
cases true f g = f refl
cases false f g = g refl

module _ (b : ℕ) where
  same_row : (l m : List Row) → row_of b m ≡ row_of b l → (n : Option Entry) → NamedIn b l n → NamedIn b m n
  same_row l m e None says = e ∙ says
  same_row l m e (Some x) says = (record { row = says.0.row; is = e ∙ says.0.is; takes = says.0.takes }, says.1)

  named_in : (l : List Row) → NamedIn b l (entry_in b (entries_from l))
  unfolding row_of entry_in entries_from
  named_in [] = refl
  named_in (r ∷ l) =
      cases (eqb b r.byte)
      (λ t. rw t (record { row = r; is = rw t; takes = refl }, sym (eqb-true b r.byte t)))
      (λ t. rw t (same_row l (r ∷ l) (rw t) (entry_in b (entries_from l)) (named_in l)))

  pub named-says : NamedSays b (entry_of b)
  unfolding entry_of
  named-says = named_in table

pub width_row : {b w : ℕ} → RowOf b w → width_of b ≡ w
unfolding width_of
width_row r = rw r.is r.takes

pub width_none : (b : ℕ) → row_of b table ≡ none → width_of b ≡ 0
unfolding width_of
width_none b e = rw e

-- THE COMMAND AT A PLACE
module _ (s : List ℕ) (at : ℕ) where
  pub past_the_end : length s ≤ at → command_at s at ≡ refused cut_short (length s)
  unfolding command_at
  past_the_end h = simp (le-ltb at (length s) h)

  pub no-row : at < length s → row_of (get_or s at 0) table ≡ none → command_at s at ≡ refused no_command at
  unfolding command_at
  no-row h e = simp (lt-ltb at (length s) h, e)

  pub cut : {w : ℕ} → at < length s → RowOf (get_or s at 0) w → length s < suc at + w → command_at s at ≡ refused cut_short at
  unfolding command_at
  cut h r l =
      let past : length s < suc at + total r.row.widths = omega (arith, r.takes) in
      simp (lt-ltb at (length s) h, r.is) (simp (lt-leb (suc at + total r.row.widths) (length s) past))

  pub whole : {w : ℕ} → at < length s → RowOf (get_or s at 0) w → suc at + w ≤ length s → ByteSays s at (get_or s at 0)
  unfolding command_at command_of width_of
  whole h r l =
      let within : suc at + total r.row.widths ≤ length s = omega (arith, r.takes) in
      (rw r.is within, simp (lt-ltb at (length s) h, r.is) (simp (le-leb (suc at + total r.row.widths) (length s) within)))

  pub by-entry : (e : Entry) → at < length s → NamedSays (get_or s at 0) (Some e) → suc at + e.width ≤ length s → EntrySays s at (Ok e)
  by-entry e h says l = rw says.1 (sym (width_row says.0), whole h says.0 l)

-- THE COMMAND OF EACH ROW
module _ (s : List ℕ) (p : ℕ) where
  pub block-values :
      values_from s p
      ≡ (big_endian s (p + 4) 4 ∷ big_endian s (p + 8) 4 ∷ big_endian s (p + 12) 4 ∷ big_endian s (p + 16) 4
      ∷ big_endian s (p + 20) 4 ∷ big_endian s (p + 24) 4 ∷ big_endian s (p + 28) 4 ∷ big_endian s (p + 32) 4 ∷ [])
  unfolding values_from
  block-values = simp add_assoc

  pub word-command : command_of s p 0x01 ≡ WORD (big_endian s p 4)
  unfolding command_of
  word-command = refl

  pub block_command : command_of s p 0x02 ≡ BLOCK (record { version = big_endian s p 4; values = values_from s p })
  unfolding command_of values_from
  block_command = refl

  pub task-command : command_of s p 0x03 ≡ TASK
  unfolding command_of
  task-command = refl

  pub release-command : command_of s p 0x04 ≡ RELEASE (record { tick = big_endian s p 2; task = get_or s (p + 2) 0 })
  unfolding command_of
  release-command = simp (add-zero, zero-add)

  pub end_command : command_of s p 0x05 ≡ END
  unfolding command_of
  end_command = refl

  pub load-command : command_of s p 0x10 ≡ body (LOAD (get_or s p 0) (big_endian s (p + 1) 4))
  unfolding command_of
  load-command = simp (add-zero, zero-add)

  pub sum_command : command_of s p 0x11 ≡ body (ADD (get_or s p 0) (get_or s (p + 1) 0))
  unfolding command_of
  sum_command = simp (add-zero, zero-add)

  pub read-command : command_of s p 0x12 ≡ body (outside (READ (get_or s p 0) (get_or s (p + 1) 0)))
  unfolding command_of
  read-command = simp (add-zero, zero-add)

  pub pair_command : command_of s p 0x13 ≡ body (outside (PAIR (get_or s p 0) (get_or s (p + 1) 0) (get_or s (p + 2) 0)))
  unfolding command_of
  pair_command = simp (add-zero, zero-add, add_assoc)

  pub swap-command : command_of s p 0x14 ≡ body (outside (SWAP (get_or s p 0)))
  unfolding command_of
  swap-command = simp (add-zero, zero-add)

  pub begin-command : command_of s p 0x20 ≡ body (outside BEGIN)
  unfolding command_of
  begin-command = refl

  pub get_command : command_of s p 0x21 ≡ body (inside (access (GET (get_or s p 0) (get_or s (p + 1) 0) (get_or s (p + 2) 0))))
  unfolding command_of
  get_command = simp (add-zero, zero-add, add_assoc)

  pub put_command : command_of s p 0x22 ≡ body (inside (access (PUT (get_or s p 0) (get_or s (p + 1) 0) (get_or s (p + 2) 0))))
  unfolding command_of
  put_command = simp (add-zero, zero-add, add_assoc)

  pub commit-command : command_of s p 0x23 ≡ body (inside COMMIT)
  unfolding command_of
  commit-command = refl

  pub no-command : (b : ℕ) → row_of b table ≡ none → command_of s p b ≡ END
  unfolding command_of
  no-command b e = simp e
