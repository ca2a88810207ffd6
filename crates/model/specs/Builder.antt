-- The sheet builder: commands are handed over one after another, and each is judged as the reader would judge it at that place.
use Rattle.std.specs.Prelude.{ℕ, zero, suc, ◌+◌, min, ◌<◌, ◌≤◌, ◌≡◌, ◌↔◌, Bool, true, false, leb}
use Rattle.std.specs.Prelude.{List, [], ◌∷◌, ◌++◌, length, get_or, take, drop}
use Rattle.std.proofs.Math.Option.{Option, none, some}
use Rattle.model.specs.Refusal.{Refusal, no_command, byte_after_end, buffer_full, number}
use Rattle.model.specs.Command.{Command, Row, table, row_of}
use Rattle.model.specs.Fault.{Known, nothing_known, fault_of}
use Rattle.model.specs.Sheet.{after, end?, accepted, turned_down, verdict, commands_at}
use Rattle.model.specs.Encoding.{encode, encode_all, ValuesFit, OperandsFit}

-- what the last call left beside the buffer: what the reader knows after the filled part, its length, and whether END is taken
pub record BuilderState : Type 0 where
  pub known : Known
  pub filled : ℕ
  pub ended : Bool

abbrev pub nothing_filled : BuilderState
nothing_filled = record { known = nothing_known; filled = 0; ended = false }

-- THE ANSWER. A command that is taken has number 0, and its place is the length that is then filled.
pub record Composed : Type 0 where
  pub number : ℕ
  pub place : ℕ
  pub state : BuilderState
  pub buffer : List ℕ

-- a refusal, at the filled length, changes neither state nor buffer
abbrev pub declined : Refusal → BuilderState → List ℕ → Composed
declined f s b = record { number = number f; place = s.filled; state = s; buffer = b }

-- the bytes of the buffer from a place on are these, the others as before
unfoldable pub overwrite : List ℕ → ℕ → List ℕ → List ℕ
overwrite b place bytes = take place b ++ bytes ++ drop (place + length bytes) b

unfoldable pub taken : BuilderState → List ℕ → Command → Composed
unfolding encode after overwrite
taken s b c =
    let next : ℕ = s.filled + length (encode c) in
    record {
      number = 0;
      place = next;
      state = record { known = after s.known c; filled = next; ended = end? c };
      buffer = overwrite b s.filled (encode c);
    }

-- by: END is taken already, the reader's fault, as many bytes are free as the command has
unfoldable pub compose_by : Bool → Option Refusal → Bool → BuilderState → List ℕ → Command → Composed
unfolding taken
compose_by true fault free s b c = declined byte_after_end s b
compose_by false (some f) free s b c = declined f s b
compose_by false none false s b c = declined buffer_full s b
compose_by false none true s b c = taken s b c

-- one more command
unfoldable pub compose : BuilderState → List ℕ → Command → Composed
unfolding compose_by fault_of encode
compose s b c = compose_by s.ended (fault_of s.known c) (leb (s.filled + length (encode c)) (length b)) s b c

-- A COMMAND HANDED OVER by its byte and nine operands. One of a single byte that is above 255 counts as 255: no register, word,
-- block, offset or task has that number either.
abbrev pub narrowed : ℕ → ℕ → ℕ
narrowed zero v = v
narrowed (suc zero) v = min v 255
narrowed (suc (suc w)) v = v

unfoldable pub handed_by : Option Row → List ℕ → Option Command
handed_by none operands = none
handed_by (some r) operands = some (r.command (λ n. narrowed (get_or r.widths n 0) (get_or operands n 0)))

unfoldable pub handed : ℕ → List ℕ → Option Command
unfolding handed_by row_of table
handed byte operands = handed_by (row_of byte table) operands

-- the same with the operands as they are given
unfoldable pub given_by : Option Row → List ℕ → Option Command
given_by none operands = none
given_by (some r) operands = some (r.command (λ n. get_or operands n 0))

unfoldable pub given : ℕ → List ℕ → Option Command
unfolding given_by row_of table
given byte operands = given_by (row_of byte table) operands

-- 1: the byte names no command; after END it is 3, as for every other
unfoldable pub compose_unnamed : Bool → BuilderState → List ℕ → Composed
compose_unnamed true s b = declined byte_after_end s b
compose_unnamed false s b = declined no_command s b

unfoldable pub compose_handed : BuilderState → List ℕ → Option Command → Composed
unfolding compose compose_unnamed
compose_handed s b none = compose_unnamed s.ended s b
compose_handed s b (some c) = compose s b c

-- THE STORY of calls from nothing filled: the commands taken so far, the state and the buffer that is left
pub data Calls (b : List ℕ) : List Command → BuilderState → List ℕ → Type 0 where
  start : Calls b [] nothing_filled b
  takes : {l : List Command} {s : BuilderState} {x : List ℕ} (c : Command) → Calls b l s x → ValuesFit c
      → (compose s x c).number ≡ 0
      → Calls b (l ++ (c ∷ [])) (compose s x c).state (compose s x c).buffer
  declines : {l : List Command} {s : BuilderState} {x : List ℕ} {n : ℕ} (c : Command) → Calls b l s x
      → (compose s x c).number ≡ suc n
      → Calls b l (compose s x c).state (compose s x c).buffer

-- the filled part
abbrev pub filled_part : BuilderState → List ℕ → List ℕ
filled_part s x = take s.filled x

-- a whole sheet is composed by these commands
pub record ComposedBy (b : List ℕ) (l : List Command) (sheet : List ℕ) : Type 0 where
  pub state : BuilderState
  pub buffer : List ℕ
  pub calls : Calls b l state buffer
  pub ended : state.ended ≡ true
  pub filled : filled_part state buffer ≡ sheet

pub record Story : Type 0 where
  -- the filled part is the bytes of the commands taken, what lies past it is as it was
  pub filled : {b x : List ℕ} {l : List Command} {s : BuilderState} → Calls b l s x → filled_part s x ≡ encode_all l
  pub past : {b x : List ℕ} {l : List Command} {s : BuilderState} → Calls b l s x → drop s.filled x ≡ drop s.filled b
  -- a command whose operands fit is turned down with the reader's number and place, whatever would follow it
  pub reader : {b x : List ℕ} {l : List Command} {s : BuilderState} → Calls b l s x → (c : Command) → OperandsFit c
      → (f : Refusal) → number f < 11 → (rest : List ℕ)
      → (compose s x c).number ≡ number f ↔ verdict (filled_part s x ++ encode c ++ rest) ≡ turned_down f s.filled
  -- what is taken by its byte and operands has the operands as they were given
  pub exact : {b x : List ℕ} {l : List Command} {s : BuilderState} → Calls b l s x → (byte : ℕ) (operands : List ℕ) (c : Command)
      → handed byte operands ≡ some c → (compose s x c).number ≡ 0 → given byte operands ≡ some c
  -- after END the filled part is a sheet that the reader accepts and hands out again as the same commands
  pub sheet : {b x : List ℕ} {l : List Command} {s : BuilderState} → Calls b l s x → s.ended ≡ true
      → (verdict (filled_part s x) ≡ accepted) × (commands_at (filled_part s x) 0 ≡ l)
  -- every accepted sheet that fits the buffer is composed by the commands that the reader hands out
  pub every : (b sheet : List ℕ) → ((i : ℕ) → get_or sheet i 0 < 256) → verdict sheet ≡ accepted → length sheet ≤ length b
      → ComposedBy b (commands_at sheet 0) sheet
  -- equal bytes come from equal commands
  pub once : {b x b' x' : List ℕ} {l l' : List Command} {s s' : BuilderState} → Calls b l s x → Calls b' l' s' x'
      → filled_part s x ≡ filled_part s' x' → l ≡ l'
