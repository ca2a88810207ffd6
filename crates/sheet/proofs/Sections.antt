-- The byte and operands of a command that is found at a place, and the sections that each command may stand in.
use Prim.Native.Nat.{ℕ, suc, ◌+◌, ◌≤◌}
use mathlib.Core.Path.{◌≡◌, refl, sym, ◌∙◌, subst}
use mathlib.Core.Bool.{Bool, true, false, ◌&&◌, ◌||◌, false≢true}
use mathlib.Core.List.{List, [], ◌∷◌}
use mathlib.Core.Option.{Option, none, some}
use native.Mathlib.Omega.{arith}
use borrow.Author.Tests.{eqb-true}
use lib.Dec.{eqb, ltb, leb}
use lib.ListN.{length, get_or}
use Rattle.model.specs.Command.{Block, Release, BodyCommand, LOAD, ADD, outside, inside, Command, WORD, BLOCK, TASK, RELEASE, END, body}
use Rattle.model.specs.Command.{Row, table, row_by, row_of, total, operand, big_endian, found, found_whole, found_row, found_byte, command_at}
use Rattle.model.specs.Fault.{Section, word_section, block_section, body_section, release_section}
use Rattle.model.specs.Fault.{words?, blocks?, body?, releases?, Known, in_place_body, in_place}
use Rattle.model.specs.Sheet.{end?}
use Rattle.commands.specs.Stages.{values_from, command_from, width_from, command_of, width_of}
use Rattle.commands.proofs.Decoding.{word-command, block_command}

-- THE BYTE OF A WORD AND OF A BLOCK
abbrev Byte : ℕ → Command → Type 0
Byte b (WORD v) = b ≡ 0x01
Byte b (BLOCK x) = b ≡ 0x02
Byte b TASK = 0 ≤ 0
Byte b (RELEASE r) = 0 ≤ 0
Byte b END = 0 ≤ 0
Byte b (body c) = 0 ≤ 0

-- each row makes a command of its own byte
abbrev Right : List Row → Type 0
Right [] = 0 ≤ 0
Right (r ∷ l) = ((o : ℕ → ℕ) → Byte r.byte (r.command o)) × Right l

right : Right table
unfolding table
right =
    let any : 0 ≤ 0 = omega arith in (
      λ o. refl,
      (
        λ o. refl,
        (
          λ o. any,
          (λ o. any, (λ o. any, (λ o. any, (λ o. any, (λ o. any, (λ o. any, (λ o. any, (λ o. any, (λ o. any, (λ o. any, (λ o. any, any))))))))))),
        ),
      ),
    )

module _ (b : ℕ) (o : ℕ → ℕ) {r : Row} where
  picked :
      (x : Row) (other : Option Row) → Byte x.byte (x.command o) → (other ≡ some r → Byte b (r.command o))
      → (t : Bool) → eqb b x.byte ≡ t → row_by t x other ≡ some r → Byte b (r.command o)
  unfolding row_by
  picked x other h go true q f = let is : x ≡ r = cc in rw (← is, eqb-true b x.byte q) h
  picked x other h go false q f = go f

  row-byte : (l : List Row) → Right l → row_of b l ≡ some r → Byte b (r.command o)
  unfolding row_of
  row-byte [] h e = let z : ◌≡◌ {A = ℕ} 0 1 = cc in absurd (omega arith)
  row-byte (x ∷ l) h e = picked x (row_of b l) (h.0 o) (row-byte l h.1) (eqb b x.byte) refl e

-- a command found at a place is the one of the byte there with the operands behind it; a WORD and a BLOCK have their byte there
pub record At (s : List ℕ) (p : ℕ) (c : Command) (next : ℕ) : Type 0 where
  pub byte : Byte (get_or s p 0) c
  pub command : command_of s (suc p) (get_or s p 0) ≡ c
  pub after : suc p + width_of (get_or s p 0) ≡ next

module _ (s : List ℕ) (p : ℕ) {c : Command} {next : ℕ} where
  whole_row : (r : Row) → row_of (get_or s p 0) table ≡ some r → (b : Bool) → found_whole b s p r ≡ found c next
      → Byte (get_or s p 0) c × (command_from s (suc p) (some r) ≡ c) × (suc p + width_from (some r) ≡ next)
  unfolding found_whole command_from width_from
  whole_row r e true f =
      let is : r.command (λ n. operand s (suc p) r.widths n) ≡ c = cc in
      (subst (Byte (get_or s p 0)) is (row-byte (get_or s p 0) (λ n. operand s (suc p) r.widths n) table right e), is, cc)
  whole_row r e false f = let z : ◌≡◌ {A = ℕ} 0 1 = cc in absurd (omega arith)

  whole_option : (o : Option Row) → row_of (get_or s p 0) table ≡ o → found_row s p o ≡ found c next
      → Byte (get_or s p 0) c × (command_from s (suc p) o ≡ c) × (suc p + width_from o ≡ next)
  unfolding found_row
  whole_option none e f = let z : ◌≡◌ {A = ℕ} 0 1 = cc in absurd (omega arith)
  whole_option (some r) e f = whole_row r e (leb (suc p + total r.widths) (length s)) f

  whole-byte : (b : Bool) → found_byte b s p ≡ found c next
      → Byte (get_or s p 0) c × (command_from s (suc p) (row_of (get_or s p 0) table) ≡ c) × (suc p + width_from (row_of (get_or s p 0) table) ≡ next)
  unfolding found_byte
  whole-byte true f = whole_option (row_of (get_or s p 0) table) refl f
  whole-byte false f = let z : ◌≡◌ {A = ℕ} 0 1 = cc in absurd (omega arith)

  pub found_at : command_at s p ≡ found c next → At s p c next
  unfolding command_at command_of width_of
  found_at e = let w = whole-byte (ltb p (length s)) e in record { byte = w.0; command = w.1; after = w.2 }

module _ (s : List ℕ) (p : ℕ) where
  pub word_at : {v next : ℕ} → command_at s p ≡ found (WORD v) next → (v ≡ big_endian s (suc p) 4) × (next ≡ suc p + 4)
  unfolding width_of
  word_at {v} {next} e =
      let a = found_at s p e in
      let f : WORD v ≡ WORD (big_endian s (suc p) 4) = sym (rw a.byte at a.command) ∙ word-command s (suc p) in
      (cc, sym (rw a.byte at a.after))

  pub block_at : {b : Block} {next : ℕ} → command_at s p ≡ found (BLOCK b) next
      → (b ≡ record { version = big_endian s (suc p) 4; values = values_from s (suc p) }) × (next ≡ suc p + 36)
  unfolding width_of
  block_at {b} {next} e =
      let a = found_at s p e in
      let f : BLOCK b ≡ BLOCK (record { version = big_endian s (suc p) 4; values = values_from s (suc p) }) =
      sym (rw a.byte at a.command) ∙ block_command s (suc p) in
      (cc, sym (rw a.byte at a.after))

-- THE ORDER OF SECTIONS
abbrev pub rank : Section → ℕ
rank word_section = 0
rank block_section = 1
rank body_section = 2
rank release_section = 3

-- where each command may stand
pub data Kind (k : Known) : Command → Type 0 where
  is_word : {v : ℕ} → rank k.section ≡ 0 → Kind k (WORD v)
  is_block : {b : Block} → rank k.section ≤ 1 → Kind k (BLOCK b)
  is_task : rank k.section ≤ 2 → Kind k TASK
  is_release : {r : Release} → 2 ≤ rank k.section → Kind k (RELEASE r)
  is_body : {c : BodyCommand} → rank k.section ≡ 2 → Kind k (body c)

for_word : (s : Section) → words? s ≡ true → rank s ≡ 0
for_word word_section e = refl
for_word block_section e = absurd (false≢true e)
for_word body_section e = absurd (false≢true e)
for_word release_section e = absurd (false≢true e)

for_block : (s : Section) → words? s || blocks? s ≡ true → rank s ≤ 1
for_block word_section e = omega arith
for_block block_section e = omega arith
for_block body_section e = absurd (false≢true e)
for_block release_section e = absurd (false≢true e)

for_task : (s : Section) (b : Bool) → words? s || blocks? s || body? s && b ≡ true → rank s ≤ 2
for_task word_section b e = omega arith
for_task block_section b e = omega arith
for_task body_section b e = omega arith
for_task release_section b e = absurd (false≢true e)

for_release : (s : Section) (b : Bool) → releases? s || body? s && b ≡ true → 2 ≤ rank s
for_release word_section b e = absurd (false≢true e)
for_release block_section b e = absurd (false≢true e)
for_release body_section b e = omega arith
for_release release_section b e = omega arith

for_body : (s : Section) → body? s ≡ true → rank s ≡ 2
for_body word_section e = absurd (false≢true e)
for_body block_section e = absurd (false≢true e)
for_body body_section e = refl
for_body release_section e = absurd (false≢true e)

left-of : (a b : Bool) → a && b ≡ true → a ≡ true
left-of true b e = refl
left-of false b e = e

in-body : (k : Known) (c : BodyCommand) → in_place_body k c ≡ true → body? k.section ≡ true
unfolding in_place_body
in-body k (LOAD r v) p = p
in-body k (ADD r q) p = p
in-body k (outside c) p = left-of _ _ (left-of _ _ p)
in-body k (inside c) p = left-of _ _ p

pub kind : (k : Known) (c : Command) → in_place k c ≡ true → end? c ≡ false → Kind k c
unfolding in_place
kind k (WORD v) p e = is_word (for_word k.section p)
kind k (BLOCK b) p e = is_block (for_block k.section p)
kind k TASK p e = is_task (for_task k.section _ p)
kind k (RELEASE r) p e = is_release (for_release k.section _ p)
kind k END p e = absurd (false≢true (sym e))
kind k (body c) p e = is_body (for_body k.section (in-body k c p))
