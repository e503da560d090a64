-- Laws of the test of an exchange: what it says of a message, how many copies of a broadcast pass it, and who is counted.
use Rattle.std.specs.Prelude.{ℕ, zero, suc, ◌+◌, ◌≤◌, ◌<◌, ◌≡◌, refl, ◌≢◌, Bool, true, false, eqb}
use Rattle.std.proofs.Common.{sym, ◌∙◌, inl, inr, arith, eqb-true, eq-eqb}
use Rattle.std.proofs.Math.Decide.{ℕ_discrete}
use Rattle.words.specs.declared.Message.{Message}
use Rattle.words.specs.Quorum.{member, joined}
use Rattle.words.specs.QuorumLaws.{joined_keeps, joined-only, inside-members, inside-empty}
use Rattle.words.specs.RangeLaws.{and_left, and_right}
use Rattle.tables.specs.Tables.{following, copies}
use Rattle.moves.specs.Lists.{one, count_if}
use Rattle.moves.specs.Stages.{is_reply, asker, asked}
use Rattle.moves.specs.RequestNumbers.{is_of}

pub is_false : (b : Bool) → (b ≡ true → ⊥) → b ≡ false
is_false true n = absurd (n refl)
is_false false n = refl

-- ---- one message

module _ (p j rid : ℕ) (m : Message) where
  module _ (e : is_of p j rid m ≡ true) where
    pub of-asker : asker m ≡ p
    of-asker = eqb-true _ _ (and_left (eqb (asker m) p) _ e)

    pub of-asked : asked m ≡ j
    of-asked = eqb-true _ _ (and_left (eqb (asked m) j) (eqb m.rid.0 rid) (and_right (eqb (asker m) p) _ e))

    pub of-rid : m.rid.0 ≡ rid
    of-rid = eqb-true _ _ (and_right (eqb (asked m) j) (eqb m.rid.0 rid) (and_right (eqb (asker m) p) _ e))

  pub of_none : (is_of p j rid m ≡ true → ⊥) → is_of p j rid m ≡ false
  of_none = is_false (is_of p j rid m)

  pub of-all : asker m ≡ p → asked m ≡ j → m.rid.0 ≡ rid → is_of p j rid m ≡ true
  of-all a b c = rw (eq-eqb _ _ a, eq-eqb _ _ b, eq-eqb _ _ c) refl

pub request-asker : (m : Message) → is_reply m.body ≡ false → asker m ≡ m.from.0
request-asker m e = rw e refl

pub request-asked : (m : Message) → is_reply m.body ≡ false → asked m ≡ m.to.0
request-asked m e = rw e refl

pub reply-asker : (m : Message) → is_reply m.body ≡ true → asker m ≡ m.to.0
reply-asker m e = rw e refl

pub reply-asked : (m : Message) → is_reply m.body ≡ true → asked m ≡ m.from.0
reply-asked m e = rw e refl

-- ---- a broadcast of requests: one to each process that it goes to, none to another, and none of another asker

module _ (p j rid : ℕ) where
  pub copies-other : (m : Message) (count : ℕ) → is_reply m.body ≡ false → (m.from.0 ≢ p) → count_if (is_of p j rid) (copies m count) ≡ 0
  copies-other m zero e n = refl
  copies-other m (suc count) e n =
      let rest = copies-other (following m) count e n in
      rw (of_none p j rid m λ o. n (sym (request-asker m e) ∙ of-asker p j rid m o)) (omega arith)

  copies-miss : (m : Message) → is_reply m.body ≡ false → (m.to.0 ≢ j) → is_of p j rid m ≡ false
  copies-miss m e n = of_none p j rid m λ o. n (sym (request-asked m e) ∙ of-asked p j rid m o)

  copies-later : (m : Message) (count : ℕ) → is_reply m.body ≡ false → j < m.to.0 → count_if (is_of p j rid) (copies m count) ≡ 0
  copies-later m zero e l = refl
  copies-later m (suc count) e l =
      let rest = copies-later (following m) count e (omega arith) in
      rw (copies-miss m e (λ f. omega arith)) (omega arith)

  pub copies-once : (m : Message) (count : ℕ) → is_reply m.body ≡ false → count_if (is_of p j rid) (copies m count) ≤ 1
  copies-once m zero e = omega arith
  copies-once m (suc count) e =
      elim (ℕ_discrete m.to.0 j) [
        | yes f ↦
            let none = copies-later (following m) count e (omega arith) in
            let most = one-most (is_of p j rid m) in
            omega arith
        | no n ↦ let rest = copies-once (following m) count e in rw (copies-miss m e n) (omega arith)
      ]
    where
      one-most : (b : Bool) → one b ≤ 1
      one-most true = omega arith
      one-most false = omega arith

  pub copies-own : (m : Message) (count : ℕ) → is_reply m.body ≡ false → m.from.0 ≡ p → m.rid.0 ≡ rid → m.to.0 ≤ j → j < m.to.0 + count
      → count_if (is_of p j rid) (copies m count) ≡ 1
  copies-own m zero e f g l h = absurd (omega arith)
  copies-own m (suc count) e f g l h =
      elim (ℕ_discrete m.to.0 j) [
        | yes i ↦
            let none = copies-later (following m) count e (omega arith) in
            rw (of-all p j rid m (request-asker m e ∙ f) (request-asked m e ∙ i) g) (omega arith)
        | no n ↦
            let rest = copies-own (following m) count e f g (omega arith) (omega arith) in
            rw (copies-miss m e n) (omega arith)
      ]

-- ---- members of a set that one process has joined, and of the empty one

pub joined-other : (s p q : ℕ) → p ≢ q → member (joined s p) q ≡ member s q
joined-other s p q n = go (member s q) refl (member (joined s p) q) refl
  where
    go : (a : Bool) → member s q ≡ a → (b : Bool) → member (joined s p) q ≡ b → b ≡ a
    go true e true f = refl
    go true e false f = sym f ∙ joined_keeps s p q e
    go false e true f = elim (joined-only s p q f) [ inl h ↦ absurd (n h) | inr h ↦ sym h ∙ e ]
    go false e false f = refl

pub member-empty : (q : ℕ) → member 0 q ≡ false
member-empty q = is_false (member 0 q) λ e. let h = inside-members 0 0 (inside-empty 0) q e in omega arith
