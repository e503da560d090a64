-- What a line has room for: times of at most five digits. Every time that a well-formed state prints is one (`ShortLaws`).
use Rattle.std.specs.Prelude.{ℕ, ◌<◌, List, get_or}
use Rattle.words.specs.declared.Pair.{Pair}
use Rattle.words.specs.Stamps.{start_pair}
use Rattle.replica.specs.declared.Replica.{Replica}
use Rattle.tables.specs.declared.Row.{Row}
use Rattle.tables.specs.Tables.{empty_row}
use Rattle.state.specs.declared.Bench.{Bench}
use Rattle.state.specs.State.{fresh_replica}

abbrev pub Short : ℕ → Type 0
Short time = time < 100000

abbrev pub ShortRow : Row → Type 0
ShortRow r = Short r.invoked.0 × (Short r.answered.0 × Short r.stamp.time.0)

-- the first `count` rows
abbrev pub ShortRows : ℕ → List Row → Type 0
ShortRows count rows = (i : ℕ) → i < count → ShortRow (get_or rows i empty_row)

-- the pairs of registers 1..m
abbrev pub ShortPairs : ℕ → List Pair → Type 0
ShortPairs m pairs = (x : ℕ) → x < m → Short (get_or pairs x start_pair).stamp.time.0

-- the clocks of processes 1..n, and the pairs that they have stored
abbrev pub ShortClocks : ℕ → List Replica → Type 0
ShortClocks n replicas = (p : ℕ) → p < n → Short (get_or replicas p fresh_replica).clock.0

abbrev pub ShortStores : ℕ → ℕ → List Replica → Type 0
ShortStores n m replicas = (p : ℕ) → p < n → ShortPairs m (get_or replicas p fresh_replica).pairs

abbrev pub ShortBench : Bench → Type 0
ShortBench b = ShortClocks b.n b.replicas × ShortStores b.n b.m b.replicas
