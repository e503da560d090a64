-- 27: the pass with what each register holds tells whether a completed read has another value.
use Rattle.std.specs.Prelude.{ℕ, ◌≤◌, ◌<◌, ◌≡◌, refl, Bool, true, false, cond, not, ◌&&◌, ◌||◌, ◌⊎◌, eqb, length, get_or, set}
use Rattle.std.proofs.Common.{sym, ap, ◌∙◌, true≢false, inl, inr, arith, length-set, get_or-set_same, get_or-set_other, eqb-true, eq-eqb, ne_eqb}
use mathlib.Core.List.{List, [], ◌∷◌, ◌++◌, nil≢cons, head-eq_of_cons-eq, tail-eq_of_cons-eq}
use Rattle.std.proofs.Math.Option.{Option, some}
use Rattle.std.proofs.lemmas.Bool.{eqb-false}
use Rattle.words.specs.RangeLaws.{and_left, and_right}
use Rattle.placing.specs.Sequential.{times}
use Rattle.verdicts.specs.Explains.{Row, IsRead, IsWrite, Completed, Unfinished, row_at, wrote, holds}
use Rattle.verdicts.specs.File.{Formed}
use Rattle.verdicts.specs.Refusals.{ReadNamed, ReadWrong}
use Rattle.verdicts.specs.Verdict.{named, reads_own, holding, reading, zeros}
use Rattle.verdicts.specs.Tells.{Tells, telling}
use Rattle.verdicts.proofs.RowLaws.{row-is-named}
use Rattle.verdicts.specs.TimesLaws.{stands-in}
use Rattle.verdicts.proofs.NumberLaws.{zeros-length, zeros-at}
use Rattle.verdicts.proofs.NamedLaws.{Known}
use Rattle.verdicts.proofs.SequenceLaws.{known-rest, known-first}

-- the table after a row is what the registers hold after it
holding-at : (b : Row) (held : List ℕ) (x : ℕ) → b.register < length held → get_or (holding b held) x 0 ≡ wrote x (some b) (get_or held x 0)
holding-at b held x room = go (eqb b.kind 2) refl (eqb b.register x) refl
  where
    go : (s : Bool) → eqb b.kind 2 ≡ s → (t : Bool) → eqb b.register x ≡ t
        → get_or (cond (eqb b.kind 2) (set held b.register b.value) held) x 0 ≡ cond (eqb b.kind 2 && eqb b.register x) b.value (get_or held x 0)
    go true p true q = rw (p, q) (ap (λ (y : ℕ). get_or (set held b.register b.value) y 0) (sym (eqb-true b.register x q)) ∙ get_or-set_same held b.register b.value 0 room)
    go true p false q = rw (p, q) (get_or-set_other held b.register x b.value 0 (λ e. eqb-false b.register x q (sym e)))
    go false p t q = rw p refl

module _ (rows : List Row) where
  abbrev Placed : List ℕ → Type 0
  Placed held = (i : ℕ) (a : Row) → row_at rows i ≡ some a → a.register < length held

  holding-placed : (b : Row) (held : List ℕ) → Placed held → Placed (holding b held)
  holding-placed b held placed i a h = go (eqb b.kind 2)
    where
      go : (t : Bool) → a.register < length (cond t (set held b.register b.value) held)
      go true = omega (arith, placed i a h, length-set held b.register b.value)
      go false = placed i a h

  module _ (held : List ℕ) (k : ℕ) (here : row_at rows k ≡ some (named rows k)) (placed : Placed held) where
    -- what a register holds behind row k, by the table and by the rows
    holding-next : (x : ℕ) → get_or (holding (named rows k) held) x 0 ≡ wrote x (row_at rows k) (get_or held x 0)
    holding-next x = holding-at (named rows k) held x (placed k (named rows k) here) ∙ ap (λ (o : Option Row). wrote x o (get_or held x 0)) (sym here)

    holds-next : (x : ℕ) (front : List ℕ) → holds rows x (get_or (holding (named rows k) held) x 0) front ≡ holds rows x (get_or held x 0) (k ∷ front)
    holds-next x front = ap (λ (h : ℕ). holds rows x h front) (holding-next x)

  -- ---- every read has its value

  abbrev Right : List ℕ → List ℕ → Type 0
  Right held order =
      (front back : List ℕ) (i : ℕ) (a : Row)
      → order ≡ front ++ (i ∷ back)
      → row_at rows i ≡ some a
      → IsRead a
      → a.value ≡ holds rows a.register (get_or held a.register 0) front

  own : (b : Row) (held : List ℕ) → reads_own b held ≡ true → IsRead b → b.value ≡ get_or held b.register 0
  own b held e r =
      let f : (false || eqb b.value (get_or held b.register 0)) ≡ true = sym (ap (λ (t : Bool). t || eqb b.value (get_or held b.register 0)) (ne_eqb b.kind 2 (λ q. omega (arith, r, q)))) ∙ e in
      eqb-true b.value (get_or held b.register 0) f

  module _ (held order : List ℕ) (k : ℕ) (here : row_at rows k ≡ some (named rows k)) (placed : Placed held) (first : reads_own (named rows k) held ≡ true)
      (rest : Right (holding (named rows k) held) order) where
    right-more : Right held (k ∷ order)
    right-more [] back i a e ha r =
        let is : named rows k ≡ a = row-is-named rows k a (ap (row_at rows) (head-eq_of_cons-eq e) ∙ ha) in
        own a held (sym (ap (λ (b : Row). reads_own b held) is) ∙ first) r
    right-more (f ∷ front) back i a e ha r =
        rest front back i a (tail-eq_of_cons-eq e) ha r ∙ holds-next held k here placed a.register front
        ∙ ap (λ (j : ℕ). holds rows a.register (get_or held a.register 0) (j ∷ front)) (head-eq_of_cons-eq e)

  right-none : (held : List ℕ) → Right held []
  right-none held [] back i a s = absurd (nil≢cons s)
  right-none held (f ∷ front) back i a s = absurd (nil≢cons s)

  reading-true : (held order : List ℕ) → Known rows order → Placed held → reading rows held order ≡ true → Right held order
  reading-true held [] known placed e = right-none held
  reading-true held (k ∷ order) known placed e =
      right-more held order k (known-first rows k order known) placed (and_left (reads_own (named rows k) held) _ e)
      (reading-true (holding (named rows k) held) order (known-rest rows k order known) (holding-placed (named rows k) held placed) (and_right (reads_own (named rows k) held) _ e))

  -- ---- a read has another value

  record Wrong (held order : List ℕ) : Type 0 where
    front : List ℕ
    back : List ℕ
    i : ℕ
    a : Row
    stand : order ≡ front ++ (i ∷ back)
    here : row_at rows i ≡ some a
    no_write : IsWrite a → ⊥
    other : a.value ≡ holds rows a.register (get_or held a.register 0) front → ⊥

  wrong_first : (held order : List ℕ) (k : ℕ) → row_at rows k ≡ some (named rows k) → reads_own (named rows k) held ≡ false → Wrong held (k ∷ order)
  wrong_first held order k here e =
      record {
        front = [];
        back = order;
        i = k;
        a = named rows k;
        stand = refl;
        here = here;
        no_write = λ w. true≢false (sym (ap (λ (t : Bool). t || eqb (named rows k).value (get_or held (named rows k).register 0)) (eq-eqb (named rows k).kind 2 w)) ∙ e);
        other = λ z. differs z (eqb (named rows k).kind 2) e;
      }
    where
      differs : (named rows k).value ≡ get_or held (named rows k).register 0 → (t : Bool) → (t || eqb (named rows k).value (get_or held (named rows k).register 0)) ≡ false → ⊥
      differs z true f = true≢false f
      differs z false f = eqb-false (named rows k).value (get_or held (named rows k).register 0) f z

  wrong-more : (held order : List ℕ) (k : ℕ) → row_at rows k ≡ some (named rows k) → Placed held → Wrong (holding (named rows k) held) order → Wrong held (k ∷ order)
  wrong-more held order k here placed w =
      record {
        front = k ∷ w.front;
        back = w.back;
        i = w.i;
        a = w.a;
        stand = ap (λ (l : List ℕ). k ∷ l) w.stand;
        here = w.here;
        no_write = w.no_write;
        other = λ z. w.other (z ∙ sym (holds-next held k here placed w.a.register w.front));
      }

  reading-false : (held order : List ℕ) → Known rows order → Placed held → reading rows held order ≡ false → Wrong held order
  reading-false held [] known placed e = absurd (true≢false e)
  reading-false held (k ∷ order) known placed e =
      go (reads_own (named rows k) held) refl
      (reading-false (holding (named rows k) held) order (known-rest rows k order known) (holding-placed (named rows k) held placed))
    where
      here : row_at rows k ≡ some (named rows k)
      here = known-first rows k order known

      go : (t : Bool) → reads_own (named rows k) held ≡ t
          → (reading rows (holding (named rows k) held) order ≡ false → Wrong (holding (named rows k) held) order) → Wrong held (k ∷ order)
      go false q rest = wrong_first held order k here q
      go true q rest = wrong-more held order k here placed (rest (sym (ap (λ (t : Bool). t && reading rows (holding (named rows k) held) order) q) ∙ e))

  -- ---- what it tells

  pub reading-test : (order : List ℕ) → Known rows order → ((i : ℕ) (a : Row) → row_at rows i ≡ some a → Formed a) → (ReadNamed rows order → ⊥)
      → Tells (not (reading rows (zeros 256) order)) (ReadWrong rows order)
  reading-test order known formed unnamed =
      telling (reading rows (zeros 256) order) (λ e. wrong (reading-false (zeros 256) order known placed e))
      (λ e w. w.other (reading-true (zeros 256) order known placed e w.front w.back w.i w.a w.stand w.here w.read ∙ from-nought w.a.register w.front))
    where
      placed : Placed (zeros 256)
      placed i a h = omega (arith, (formed i a h).register, zeros-length 256)

      from-nought : (x : ℕ) (front : List ℕ) → holds rows x (get_or (zeros 256) x 0) front ≡ holds rows x 0 front
      from-nought x front = ap (λ (h : ℕ). holds rows x h front) (zeros-at 256 x)

      a_read : (a : Row) → (IsWrite a → ⊥) → IsRead a ⊎ IsWrite a → IsRead a
      a_read a n (inl r) = r
      a_read a n (inr w) = absurd (n w)

      a-whole : (i : ℕ) (a : Row) → row_at rows i ≡ some a → 1 ≤ times i order → IsRead a → Completed a ⊎ Unfinished a → Completed a
      a-whole i a h on r (inl c) = c
      a-whole i a h on r (inr u) = absurd (unnamed (record { i = i; a = a; here = h; unfinished = u; read = r; named = on }))

      wrong : Wrong (zeros 256) order → ReadWrong rows order
      wrong w =
          let r = a_read w.a w.no_write (formed w.i w.a w.here).kind in
          record {
            front = w.front;
            back = w.back;
            i = w.i;
            a = w.a;
            stand = w.stand;
            here = w.here;
            complete = a-whole w.i w.a w.here (stands-in w.i order w.front w.back w.stand) r (formed w.i w.a w.here).complete;
            read = r;
            other = λ z. w.other (z ∙ sym (from-nought w.a.register w.front));
          }
