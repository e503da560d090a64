-- Laws of what was added to a page: nothing is a text, and two texts one after another are one text.
use Rattle.std.specs.Prelude.{ℕ, ◌+◌, ◌≤◌, ◌≡◌, List, [], ◌++◌, length}
use Rattle.std.proofs.Common.{refl, ◌∙◌}
use Rattle.text.specs.declared.page.Page.{Page}
use Rattle.text.specs.Paged.{Adds}
use Rattle.text.specs.WrittenLaws.{and_next, nothing, as_text}

-- two texts one after another
pub adds_next : {p q r : Page} {j k : ℕ} {a b : List ℕ} → Adds a j p q → Adds b k q r → Adds (a ++ b) (j + k) p r
adds_next v w = record { wrote = and_next v.wrote w.wrote; long = w.long ∙ v.long; same = w.same ∙ v.same }

-- nothing was added
pub adds_nothing : (p : Page) → p.used ≤ length p.bytes.now → Adds [] 0 p p
adds_nothing p fits = record { wrote = nothing p.used p.bytes.now fits; long = refl; same = refl }

-- the same text, and a greater bound
pub adds_text : {p q : Page} {j k : ℕ} {a b : List ℕ} → a ≡ b → j ≤ k → Adds a j p q → Adds b k p q
adds_text e le w = record { wrote = as_text e le w.wrote; long = w.long; same = w.same }
