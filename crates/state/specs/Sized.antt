-- How many numbers each part of the two records has.
use Rattle.std.specs.Prelude.{◌≡◌, length}
use Rattle.state.specs.State.{Shared, Own}

pub record SharedSized (m : Shared) : Type 0 where
  pub cells : length m.cells ≡ 48
  pub status : length m.status ≡ 8
  pub saves : length m.saves ≡ 64
  pub stores : length m.stores ≡ 384

pub record OwnSized (t : Own) : Type 0 where
  pub registers : length t.registers ≡ 8
  pub kept : length t.kept ≡ 8
  pub copies : length t.copies ≡ 4
  pub targets : length t.entries.targets ≡ 8
  pub olds : length t.entries.olds ≡ 8
  pub news : length t.entries.news ≡ 8
  pub inits : length t.entries.inits ≡ 8
  pub overlapped : length t.entries.overlapped ≡ 8
  pub slots : length t.blocks.slots ≡ 16
  pub remembered : length t.blocks.remembered ≡ 16
  pub counts : length t.counts ≡ 8
