-- A case of the list: a fact by its number and sentence in document 01, and what it says of the definitions. A list of cases holds if each of them does.
use Prim.Native.String.{String}
use Rattle.std.specs.Prelude.{List, [], ◌∷◌}

pub record Case : Type 1 where
  pub fact : String
  pub says : Type 0

abbrev pub Hold : List Case → Type 0
Hold [] = Unit {0}
Hold (c ∷ rest) = c.says × Hold rest

-- a case with its proof, and those behind it
infixr 5 ◌by◌also◌
abbrev pub ◌by◌also◌ : {Rest : Type 0} (c : Case) → c.says → Rest → c.says × Rest
◌by◌also◌ c holds rest = (holds, rest)
