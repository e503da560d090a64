-- What a function that writes onto a page promises: the text stands behind what was used, and the page is still of the same buffer.
use Rattle.std.specs.Prelude.{ℕ, ◌+◌, ◌≤◌, ◌≡◌, List, length}
use Rattle.text.specs.declared.page.Page.{Page}
use Rattle.text.specs.Written.{Wrote}

-- there is room for so many bytes
abbrev pub Room : ℕ → Page → Type 0
Room most page = page.used + most ≤ length page.bytes.now

-- a text of at most so many bytes was written
pub record Adds (text : List ℕ) (most : ℕ) (old new : Page) : Type 0 where
  pub wrote : Wrote old.used text most old.bytes.now new.bytes.now new.used
  pub long : length new.bytes.now ≡ length old.bytes.now
  pub same : new.bytes.ghost_name ≡ old.bytes.ghost_name
