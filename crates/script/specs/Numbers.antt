-- A word as a number: digits, with no zero in front of others. A value may have a minus sign in front, and is then not 0. So each number is written in one way only.
use Rattle.std.specs.Prelude.{ℕ, ◌+◌, ◌-◌, ◌*◌, Bool, true, false, cond, not, ◌&&◌, ◌||◌, List, [], ◌∷◌, eqb, leb, ℤ, pos, negsuc, Result, Ok, Err}
use Rattle.script.specs.declared.Fault.{Fault}
use Rattle.script.specs.declared.Fault.TheVariants.{NotANumber, TooLarge}

abbrev pub is_digit : ℕ → Bool
is_digit b = leb 48 b && leb b 57

abbrev pub digits_only : List ℕ → Bool
digits_only [] = true
digits_only (b ∷ rest) = is_digit b && digits_only rest

abbrev pub is_empty : List ℕ → Bool
is_empty [] = true
is_empty (b ∷ rest) = false

-- a first digit, and no zero in front of others
abbrev pub leads : List ℕ → Bool
leads [] = false
leads (b ∷ rest) = is_empty rest || not (eqb b 48)

abbrev pub is_number : List ℕ → Bool
is_number [] = false
is_number (b ∷ rest) = digits_only (b ∷ rest) && leads (b ∷ rest)

-- the number that digits make, behind one that was made before
abbrev pub value : ℕ → List ℕ → ℕ
value n [] = n
value n (b ∷ rest) = value (10 * n + (b - 48)) rest

-- what is past every field is counted as one number
abbrev pub capped : ℕ → ℕ
capped n = cond (leb n 9223372036854775808) n 9223372036854775809

-- a number of at most so much
unfoldable pub figure_of : ℕ → List ℕ → Result ℕ Fault
figure_of most w = cond (is_number w) (cond (leb (value 0 w) most) (Ok (value 0 w)) (Err TooLarge)) (Err NotANumber)

-- a value of 64 bits
abbrev pub positive_of : List ℕ → Result ℤ Fault
positive_of w = cond (is_number w) (cond (leb (value 0 w) 9223372036854775807) (Ok (pos (value 0 w))) (Err TooLarge)) (Err NotANumber)

abbrev pub negative_of : List ℕ → Result ℤ Fault
negative_of w =
    cond (is_number w && not (eqb (value 0 w) 0)) (cond (leb (value 0 w) 9223372036854775808) (Ok (negsuc (value 0 w - 1))) (Err TooLarge))
    (Err NotANumber)

unfoldable pub amount_of : List ℕ → Result ℤ Fault
amount_of [] = Err NotANumber
amount_of (b ∷ rest) = cond (eqb b 45) (negative_of rest) (positive_of (b ∷ rest))
