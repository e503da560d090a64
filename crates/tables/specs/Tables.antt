-- The two lent tables as lists: document 01, "State". Messages in flight lie in rising number without gaps; the places after the last hold the
-- empty message (a query, all fields 0). Unused rows are all 0, their kind read.
use Rattle.std.specs.Prelude.{ℕ, zero, suc, ◌+◌, cond, List, [], ◌∷◌, ◌++◌, eqb, pos, length, take, drop, Option, Some, None}
use Rattle.words.specs.declared.Message.{Message}
pub use Rattle.words.specs.Messages.{empty_message}
use Rattle.words.specs.Stamps.{start_stamp}
use Rattle.tables.specs.declared.Replied.{Replied}
use Rattle.tables.specs.declared.Row.{Row}
use Rattle.tables.specs.declared.Kind.TheVariants.{Read}

-- no phase has ended: nobody replied to one that has
abbrev pub nobody : Replied
nobody = record { query = 0; update = 0 }

abbrev pub empty_row : Row
empty_row =
    record {
      process = record { 0 = 0 };
      kind = Read;
      register = 0;
      invoked = record { 0 = 0 };
      answered = record { 0 = 0 };
      stamp = start_stamp;
      value = pos 0;
      replied = nobody;
    }

-- the place of the first message with the number k, counted from i
abbrev pub seek : ℕ → ℕ → List Message → Option ℕ
seek k i [] = None
seek k i (m ∷ ms) = cond (eqb m.number k) (Some i) (seek k (suc i) ms)

-- the list without its element at a place
abbrev pub removed : {A : Type 0} → ℕ → List A → List A
removed i [] = []
removed zero (a ∷ rest) = rest
removed (suc i) (a ∷ rest) = a ∷ removed i rest

-- one message more, to the next process, with the next number
abbrev pub following : Message → Message
following m =
    record {
      number = m.number + 1;
      from = m.from;
      to = record { 0 = m.to.0 + 1 };
      time = m.time;
      rid = m.rid;
      body = m.body;
    }

-- as many copies of a message, numbered and addressed one after another
abbrev pub copies : Message → ℕ → List Message
copies m zero = []
copies m (suc count) = m ∷ copies (following m) count

-- xs with ys laid over it from a place on
abbrev pub laid_at : {A : Type 0} → ℕ → List A → List A → List A
laid_at at ys xs = take at xs ++ (ys ++ drop (at + length ys) xs)
