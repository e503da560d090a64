-- What `sized` tests, as facts: a file that has its length, its version and its two counts, with no byte left over.
use Rattle.std.specs.Prelude.{ℕ, ◌+◌, ◌-◌, ◌*◌, ◌≤◌, ◌≡◌, List, length}
use Rattle.verdicts.specs.Verdict.{byte_at, word_at, row_count, order_at, order_count}

pub record Sized (bytes : List ℕ) : Type 0 where
  pub long : 9 ≤ length bytes
  pub counted : word_at bytes 0 ≡ length bytes - 4
  pub version : byte_at bytes 4 ≡ 1
  pub few : row_count bytes ≤ 1024
  pub room : order_at bytes + 2 ≤ length bytes
  pub short : order_count bytes ≤ 1024
  pub whole : order_at bytes + 2 + 2 * order_count bytes ≡ length bytes
