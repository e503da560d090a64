-- Laws of what was written: two texts one after another are one text, nothing and one byte are texts, and a word is written byte by byte.
use Rattle.std.specs.Prelude.{ℕ, ◌+◌, ◌≤◌, ◌<◌, ◌≡◌, List, [], ◌∷◌, ◌++◌, length, take, get_or, set}
use Rattle.std.proofs.Common.{sym, ap, ◌∙◌, arith, add-one, length-append, take-suc}
use Rattle.tables.specs.Tables.{laid_at}
use Rattle.tables.specs.TableLaws.{laid_none}
use Rattle.text.specs.LaidLaws.{laid-length, laid-twice, laid_one}
use Rattle.text.specs.Written.{Wrote}

-- two texts one after another
pub and_next : {at r s j k : ℕ} {a b xs ys zs : List ℕ} → Wrote at a j xs ys r → Wrote r b k ys zs s → Wrote at (a ++ b) (j + k) xs zs s
and_next {at} {r} {s} {j} {k} {a} {b} {xs} {ys} {zs} v w =
    record {
      ends = omega (arith, length-append a b, v.ends, w.ends);
      lays = w.lays ∙ ap (λ (n : ℕ). laid_at n b ys) v.ends ∙ ap (laid_at (at + length a) b) v.lays ∙ laid-twice at a b xs (omega (arith, v.room));
      short = omega (arith, length-append a b, v.short, w.short);
      room = omega (arith, length-append a b, v.ends, v.room, w.room, ap length v.lays, laid-length at a xs v.room);
    }

-- nothing was written
pub nothing : (at : ℕ) (xs : List ℕ) → at ≤ length xs → Wrote at [] 0 xs xs at
nothing at xs fits = record { ends = omega arith; lays = sym (laid_none at xs); short = omega arith; room = omega arith }

-- the same text, and a greater bound
pub as_text : {at r j k : ℕ} {a b xs ys : List ℕ} → a ≡ b → j ≤ k → Wrote at a j xs ys r → Wrote at b k xs ys r
as_text {at} {r} {j} {k} {a} {b} {xs} {ys} e le w =
    let same : length a ≡ length b = ap length e in
    record {
      ends = omega (arith, w.ends);
      lays = w.lays ∙ ap (λ (t : List ℕ). laid_at at t xs) e;
      short = omega (arith, w.short);
      room = omega (arith, w.room);
    }

-- one byte was stored
pub byte_wrote : (at d : ℕ) (xs : List ℕ) → at < length xs → Wrote at (d ∷ []) 1 xs (set xs at d) (at + 1)
byte_wrote at d xs fits = record { ends = omega arith; lays = laid_one at d xs fits; short = omega arith; room = omega arith }

-- the same end
pub ends_at : {at r s k : ℕ} {a xs ys : List ℕ} → r ≡ s → Wrote at a k xs ys r → Wrote at a k xs ys s
ends_at {at} {r} {s} {k} {a} {xs} {ys} e w = record { ends = omega (arith, w.ends); lays = w.lays; short = w.short; room = w.room }

-- one more byte of a word
pub next_wrote : (at j : ℕ) (word xs ys : List ℕ) → j < length word → at + length word ≤ length xs
    → Wrote at (take j word) j xs ys (at + j) → Wrote at (take (j + 1) word) (j + 1) xs (set ys (at + j) (get_or word j 0)) (at + (j + 1))
next_wrote at j word xs ys more fits w =
    let long : length ys ≡ length xs = ap length w.lays ∙ laid-length at (take j word) xs w.room in
    let next = and_next w (byte_wrote (at + j) (get_or word j 0) ys (omega arith)) in
    let right : at + j + 1 ≡ at + (j + 1) = omega arith in
    as_text (sym (ap (λ (n : ℕ). take n word) (add-one j) ∙ take-suc word j 0 more)) (omega arith) (ends_at right next)
