-- The digits of a number as they are counted and written: how many there are, and the last so many.
use Rattle.std.specs.Prelude.{ℕ, zero, suc, ◌+◌, ◌/◌, ◌%◌, cond, List, [], ◌∷◌, ◌++◌, ltb, ℤ, pos, negsuc}

-- how many digits a number has, but no more than are left
unfoldable pub places : ℕ → ℕ → ℕ
places zero n = 0
places (suc left) n = cond (ltb n 10) 1 (suc (places left (n / 10)))

-- its last k digits
unfoldable pub last_digits : ℕ → ℕ → List ℕ
last_digits zero n = []
last_digits (suc k) n = last_digits k (n / 10) ++ ((48 + n % 10) ∷ [])

-- what stands before the digits of a value: `-` where it is negative
abbrev pub sign_text : ℤ → List ℕ
sign_text (pos n) = []
sign_text (negsuc n) = 45 ∷ []

-- the digits of a number below 100, the first also where it is 0
abbrev pub two_digits : ℕ → List ℕ
two_digits n = (48 + n / 10) ∷ ((48 + n % 10) ∷ [])
