-- Document 01's ceilings and operand ranges.
use Rattle.std.specs.Prelude.{ℕ}

abbrev pub max_words : ℕ
max_words = 32

abbrev pub max_blocks : ℕ
max_blocks = 16

abbrev pub max_tasks : ℕ
max_tasks = 8

-- body commands in all
abbrev pub max_commands : ℕ
max_commands = 512

abbrev pub max_releases : ℕ
max_releases = 256

-- releases that wait behind one job
abbrev pub max_waiting : ℕ
max_waiting = 4

-- PAIRs for a SWAP
abbrev pub max_pairs : ℕ
max_pairs = 8

-- different blocks in one transaction, and those of them that it PUTs
abbrev pub max_touched : ℕ
max_touched = 8

abbrev pub max_puts : ℕ
max_puts = 4

-- each task has eight registers and eight save places, each block eight values
abbrev pub registers : ℕ
registers = 8

abbrev pub save_places : ℕ
save_places = 8

abbrev pub block_values : ℕ
block_values = 8

abbrev pub last_register : ℕ
last_register = 7

abbrev pub last_offset : ℕ
last_offset = 7

abbrev pub last_version : ℕ
last_version = 16777215

abbrev pub last_tick : ℕ
last_tick = 65535

-- values are 32-bit unsigned
abbrev pub value_range : ℕ
value_range = 4294967296

abbrev pub max_limit : ℕ
max_limit = 65535
