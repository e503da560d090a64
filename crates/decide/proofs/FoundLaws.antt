-- The place of a message that was found is one of the table's.
use Rattle.std.specs.Prelude.{ℕ, ◌<◌, ◌≡◌, List, take, Some}
use Rattle.std.proofs.Common.{sym}
use Rattle.words.specs.declared.Message.{Message}
use Rattle.tables.specs.Tables.{seek}
use Rattle.tables.specs.TableLaws.{seek-at}

pub found_within : (k n i : ℕ) (xs : List Message) → seek k 0 (take n xs) ≡ Some i → i < n
found_within k n i xs e = (seek-at k n i xs (sym e)).0
