-- The contracts of the sheet builder: number, place, state and buffer, each by an equation with the model's answer, and the
-- story of all calls.
use Rattle.std.specs.Prelude.{ℕ, ◌≤◌, ◌≡◌, List, replicate, Result}
use Rattle.model.specs.Command.{Command}
use Rattle.model.specs.Builder as M
use Rattle.commands.specs.declared.Fault.{Fault}
use Rattle.composing.specs.Composes.{answered}
use Rattle.composing.specs.declared.BuilderState.{BuilderState}
use Rattle.builder.specs.Packed.{state_of}

-- ONE CALL; `a` is the model's answer
pub record ComposesFor (a : M.Composed) (n p : ℕ) (s : M.BuilderState) (after : List ℕ) : Type 0 where
  pub number : n ≡ a.number
  pub place : p ≡ a.place
  pub state : s ≡ a.state
  pub buffer : after ≡ a.buffer
  -- what holds of every list of calls from nothing filled
  pub story : M.Story

-- the number, place and state that an outcome stands for
abbrev pub Composes : M.BuilderState → List ℕ → Command → Result BuilderState Fault → List ℕ → Type 0
Composes s before c r after =
    ComposesFor (M.compose s before c) (answered s r after).number (answered s r after).place (answered s r after).state after

-- the same by a byte and nine operands, the state in 64 bytes: any bytes are some state, all zero is nothing filled, a refusal
-- changes none
pub record ComposesBytes (bytes : List (List ℕ)) (before : List ℕ) (byte : ℕ) (operands : List ℕ) (n p : ℕ)
    (bytes' : List (List ℕ)) (after : List ℕ) : Type 0 where
  pub answer : ComposesFor (M.compose_handed (state_of bytes) before (M.handed byte operands)) n p (state_of bytes') after
  pub start : state_of (replicate 8 (replicate 8 0)) ≡ M.nothing_filled
  pub kept : 1 ≤ n → bytes' ≡ bytes
