-- Numbers in decimal, and words that are numbers: each number is written in one way, and read from it.
use Rattle.std.specs.Prelude.{ℕ, zero, suc, ◌+◌, ◌-◌, ◌*◌, ◌/◌, ◌%◌, ◌≤◌, ◌<◌, ◌≡◌, refl, Bool, true, false, cond, not, ◌&&◌, ◌||◌, List, [], ◌∷◌, ◌++◌, eqb, ltb, leb}
use Rattle.std.proofs.Common.{sym, ap, subst, ◌∙◌, true≢false, append_assoc, append-nil, arith, ltb-true, ltb-false, lt-ltb, le-ltb, le-leb, ne_eqb, eqb-true}
use Rattle.std.proofs.lemmas.Bool.{eqb-false, not-true}
use Rattle.words.specs.RangeLaws.{and_left, and_right}
use Rattle.text.specs.Printed.{digits, decimal}
use Rattle.text.specs.DigitLaws.{tens}
use Rattle.script.specs.Numbers.{is_digit, digits_only, is_empty, is_number, value}
use Rattle.script.specs.NumberLaws.{digit-least, digit-most, value_grows}

-- ---- reading what was written

-- the digits of a number make it, whatever follows them
digits_value : (left n : ℕ) (rest : List ℕ) → n < tens left → value 0 (digits left n rest) ≡ value n rest
digits_value zero n rest l = let none : 0 ≡ n = omega (arith, l) in ap (λ (k : ℕ). value k rest) none
digits_value (suc left) n rest l = go (ltb n 10) refl (λ (less : n / 10 < tens left). digits_value left (n / 10) ((48 + n % 10) ∷ rest) less)
  where
    go : (t : Bool) → ltb n 10 ≡ t → (n / 10 < tens left → value 0 (digits left (n / 10) ((48 + n % 10) ∷ rest)) ≡ value (n / 10) ((48 + n % 10) ∷ rest))
        → value 0 (cond t ((48 + n) ∷ rest) (digits left (n / 10) ((48 + n % 10) ∷ rest))) ≡ value n rest
    go true e later = let same : 10 * 0 + (48 + n - 48) ≡ n = omega arith in ap (λ (k : ℕ). value k rest) same
    go false e later =
        let less : n / 10 < tens left = omega (arith, l) in
        let same : 10 * (n / 10) + (48 + n % 10 - 48) ≡ n = omega arith in
        later less ∙ ap (λ (k : ℕ). value k rest) same

pub decimal-value : (n : ℕ) → n < tens 20 → value 0 (decimal n) ≡ n
unfolding decimal
decimal-value n l = digits_value 20 n [] l

-- a digit that is not 0 comes first, and digits follow
record Leads (w : List ℕ) : Type 0 where
  first : ℕ
  rest : List ℕ
  is : w ≡ first ∷ rest
  some : first ≡ 48 → ⊥
  digits : digits_only w ≡ true

digit-is : (n : ℕ) → n < 10 → is_digit (48 + n) ≡ true
digit-is n l = ap (λ (t : Bool). t && leb (48 + n) 57) (le-leb 48 (48 + n) (omega arith)) ∙ le-leb (48 + n) 57 (omega (arith, l))

digits-lead : (left n : ℕ) (rest : List ℕ) → 1 ≤ n → n < tens left → digits_only rest ≡ true → Leads (digits left n rest)
digits-lead zero n rest some l only = absurd (omega (arith, some, l))
digits-lead (suc left) n rest some l only =
    go (ltb n 10) refl
    (λ (more : 1 ≤ n / 10) (less : n / 10 < tens left) (low : n % 10 < 10). digits-lead left (n / 10) ((48 + n % 10) ∷ rest) more less (ap (λ (t : Bool). t && digits_only rest) (digit-is (n % 10) low) ∙ only))
  where
    go : (t : Bool) → ltb n 10 ≡ t → (1 ≤ n / 10 → n / 10 < tens left → n % 10 < 10 → Leads (digits left (n / 10) ((48 + n % 10) ∷ rest)))
        → Leads (cond t ((48 + n) ∷ rest) (digits left (n / 10) ((48 + n % 10) ∷ rest)))
    go true e later =
        record {
          first = 48 + n;
          rest = rest;
          is = refl;
          some = λ (z : 48 + n ≡ 48). omega (arith, z, some);
          digits = ap (λ (t : Bool). t && digits_only rest) (digit-is n (ltb-true n 10 e)) ∙ only;
        }
    go false e later = let big : 10 ≤ n = ltb-false n 10 e in later (omega (arith, big)) (omega (arith, l)) (omega arith)

lead-number : (w : List ℕ) → Leads w → is_number w ≡ true
lead-number w x = ap is_number x.is ∙ go (digits_only (x.first ∷ x.rest)) (is_empty x.rest) (sym (ap digits_only x.is) ∙ x.digits)
  where
    go : (t e : Bool) → t ≡ true → (t && (e || not (eqb x.first 48))) ≡ true
    go t true q = ap (λ (b : Bool). b && true) q
    go t false q = ap (λ (b : Bool). b && not (eqb x.first 48)) q ∙ ap not (ne_eqb x.first 48 x.some)

pub decimal-number : (n : ℕ) → n < tens 20 → is_number (decimal n) ≡ true
unfolding decimal
decimal-number zero l = refl
decimal-number (suc n) l = lead-number (digits 20 (suc n) []) (digits-lead 20 (suc n) [] (omega arith) l refl)

pub decimal-digits : (n : ℕ) → n < tens 20 → digits_only (decimal n) ≡ true
unfolding decimal
decimal-digits zero l = refl
decimal-digits (suc n) l = (digits-lead 20 (suc n) [] (omega arith) l refl).digits

-- ---- writing what was read

value-both : (n : ℕ) (a b : List ℕ) → value n (a ++ b) ≡ value (value n a) b
value-both n [] b = refl
value-both n (c ∷ rest) b = value-both (10 * n + (c - 48)) rest b

only-front : (a b : List ℕ) → digits_only (a ++ b) ≡ true → digits_only a ≡ true
only-front [] b e = refl
only-front (c ∷ rest) b e = ap (λ (t : Bool). t && digits_only rest) (and_left (is_digit c) (digits_only (rest ++ b)) e) ∙ only-front rest b (and_right (is_digit c) (digits_only (rest ++ b)) e)

only-back : (a b : List ℕ) → digits_only (a ++ b) ≡ true → digits_only b ≡ true
only-back [] b e = e
only-back (c ∷ rest) b e = only-back rest b (and_right (is_digit c) (digits_only (rest ++ b)) e)

-- all but the last, and the last
record Last (w : List ℕ) : Type 0 where
  front : List ℕ
  last : ℕ
  is : w ≡ front ++ (last ∷ [])

last_of : (b : ℕ) (rest : List ℕ) → Last (b ∷ rest)
last_of b [] = record { front = []; last = b; is = refl }
last_of b (c ∷ rest) = let l = last_of c rest in record { front = b ∷ l.front; last = l.last; is = ap (λ (r : List ℕ). b ∷ r) l.is }

lead-value : (first : ℕ) (rest : List ℕ) → is_digit first ≡ true → (first ≡ 48 → ⊥) → 1 ≤ value 0 (first ∷ rest)
lead-value first rest d some = omega (arith, value_grows (10 * 0 + (first - 48)) rest, digit-least first d, more first (digit-least first d) some)
  where
    more : (k : ℕ) → 48 ≤ k → (k ≡ 48 → ⊥) → 49 ≤ k
    more k l q = go (eqb k 48) refl
      where
        go : (t : Bool) → eqb k 48 ≡ t → 49 ≤ k
        go true e = absurd (q (eqb-true k 48 e))
        go false e = let apart : k ≡ 48 → ⊥ = eqb-false k 48 e in omega (arith, l, apart)

-- digits with none that is 0 in front
abbrev Back : ℕ → Type 0
Back left = (w rest : List ℕ) → Leads w → value 0 w < tens left → digits left (value 0 w) rest ≡ w ++ rest

module _ (left : ℕ) (later : Back left) (rest : List ℕ) (last : ℕ) (digit : is_digit last ≡ true) where
  low : last - 48 < 10
  low = omega (arith, digit-least last digit, digit-most last digit)

  digit-back : 48 + (last - 48) ≡ last
  digit-back = omega (arith, digit-least last digit)

  -- one digit alone
  one-back : (n : ℕ) → n ≡ last - 48 → digits (suc left) n rest ≡ last ∷ rest
  one-back n e = ap (λ (t : Bool). cond t ((48 + n) ∷ rest) (digits left (n / 10) ((48 + n % 10) ∷ rest))) (lt-ltb n 10 (omega (arith, e, low))) ∙ ap (λ (d : ℕ). d ∷ rest) same
    where
      same : 48 + n ≡ last
      same = omega (arith, e, digit-back)

  -- a digit behind others
  more-back : (front : List ℕ) → Leads front → (n : ℕ) → n ≡ 10 * value 0 front + (last - 48) → 1 ≤ value 0 front → n < tens (suc left) → digits (suc left) n rest ≡ front ++ (last ∷ rest)
  more-back front lead n e some l =
      ap (λ (t : Bool). cond t ((48 + n) ∷ rest) (digits left (n / 10) ((48 + n % 10) ∷ rest))) (le-ltb n 10 (omega (arith, e, some)))
      ∙ ap (λ (k : ℕ). digits left k ((48 + n % 10) ∷ rest)) tenth ∙ ap (λ (d : ℕ). digits left (value 0 front) (d ∷ rest)) unit ∙ later front (last ∷ rest) lead (omega (arith, l, tenth))
    where
      tenth : n / 10 ≡ value 0 front
      tenth = omega (arith, e, low)

      unit : 48 + n % 10 ≡ last
      unit = omega (arith, e, low, digit-back)

-- all but the last of a word that leads, leads
front-leads : (b : ℕ) (rest : List ℕ) (last : ℕ) → Leads ((b ∷ rest) ++ (last ∷ [])) → Leads (b ∷ rest)
front-leads b rest last x = record { first = b; rest = rest; is = refl; some = λ (z : b ≡ 48). x.some (sym (heads x.is) ∙ z); digits = only-front (b ∷ rest) (last ∷ []) x.digits }
  where
    first_of : List ℕ → ℕ
    first_of [] = 0
    first_of (c ∷ cs) = c

    heads : (b ∷ rest) ++ (last ∷ []) ≡ x.first ∷ x.rest → b ≡ x.first
    heads e = ap first_of e

lead-one : (w : List ℕ) → Leads w → 1 ≤ value 0 w
lead-one w x =
    subst (λ (l : List ℕ). 1 ≤ value 0 l) (sym x.is)
    (lead-value x.first x.rest (and_left (is_digit x.first) (digits_only x.rest) (sym (ap digits_only x.is) ∙ x.digits)) x.some)

-- by the last digit
back_by : (left : ℕ) → Back left → (rest front : List ℕ) (last : ℕ) → Leads (front ++ (last ∷ [])) → value 0 (front ++ (last ∷ [])) < tens (suc left)
    → digits (suc left) (value 0 (front ++ (last ∷ []))) rest ≡ (front ++ (last ∷ [])) ++ rest
back_by left later rest [] last x l =
    let same : 10 * 0 + (last - 48) ≡ last - 48 = omega arith in
    one-back left later rest last (and_left (is_digit last) true x.digits) (value 0 (last ∷ [])) same
back_by left later rest (b ∷ front) last x l =
    let lead = front-leads b front last x in
    let digit = and_left (is_digit last) true (only-back (b ∷ front) (last ∷ []) x.digits) in
    more-back left later rest last digit (b ∷ front) lead (value 0 ((b ∷ front) ++ (last ∷ []))) (value-both 0 (b ∷ front) (last ∷ [])) (lead-one (b ∷ front) lead) l
    ∙ sym (append_assoc (b ∷ front) (last ∷ []) rest)

digits-back : (left : ℕ) → Back left
digits-back zero w rest x l = absurd (omega (arith, l, lead-one w x))
digits-back (suc left) w rest x l = go (digits-back left) (last_of x.first x.rest)
  where
    go : Back left → Last (x.first ∷ x.rest) → digits (suc left) (value 0 w) rest ≡ w ++ rest
    go later y =
        let is : w ≡ y.front ++ (y.last ∷ []) = x.is ∙ y.is in
        ap (λ (v : List ℕ). digits (suc left) (value 0 v) rest) is
        ∙ back_by left later rest y.front y.last (subst Leads is x) (subst (λ (v : List ℕ). value 0 v < tens (suc left)) is l)
        ∙ sym (ap (λ (v : List ℕ). v ++ rest) is)

pub decimal-back : (w : List ℕ) → is_number w ≡ true → value 0 w < tens 20 → decimal (value 0 w) ≡ w
unfolding decimal
decimal-back [] e l = absurd (true≢false (sym e))
decimal-back (b ∷ []) e l =
    let digit = and_left (is_digit b) true (and_left (digits_only (b ∷ [])) true e) in
    let same : 10 * 0 + (b - 48) ≡ b - 48 = omega arith in
    one-back 19 (digits-back 19) [] b digit (value 0 (b ∷ [])) same
decimal-back (b ∷ (c ∷ rest)) e l = digits-back 20 (b ∷ (c ∷ rest)) [] leads l ∙ append-nil (b ∷ (c ∷ rest))
  where
    leads : Leads (b ∷ (c ∷ rest))
    leads =
        record {
          first = b;
          rest = c ∷ rest;
          is = refl;
          some = λ (z : b ≡ 48). eqb-false b 48 (not-true (eqb b 48) (and_right (digits_only (b ∷ (c ∷ rest))) (not (eqb b 48)) e)) z;
          digits = and_left (digits_only (b ∷ (c ∷ rest))) (not (eqb b 48)) e;
        }
