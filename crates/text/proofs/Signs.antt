-- How a value is printed, by what a test of its sign says.
use Rattle.std.proofs.Common.{ℕ, ◌≡◌, ap, ◌∷◌, ◌++◌, nat_abs, ℤ, pos, negsuc}
use Rattle.text.specs.Digits.{sign_text}
use Rattle.text.specs.Printed.{decimal, signed}

-- the sign, and the digits without it
pub signed-is : (v : ℤ) (n : ℕ) → n ≡ nat_abs v → sign_text v ++ decimal n ≡ signed v
unfolding signed
signed-is (pos k) n e = ap decimal e
signed-is (negsuc k) n e = ap (λ (i : ℕ). 45 ∷ decimal i) e
