-- Why demand 2 stands beside demand 3: a bench that refuses everything, one whose events do nothing, and one that does the first event honestly and
-- merely counts the rest all have a sequentially consistent history, since next to nothing ever happens in it. Each is refuted by demand 2.
use Rattle.std.specs.Prelude.{◌≡◌, refl, Bool, true, false, cond, ◌⊎◌, List, map, ◌+◌, eqb, pos}
use Rattle.std.proofs.Common.{subst, inl, inr, arith, eqb-true}
use Rattle.std.proofs.lemmas.Bool.{eqb-false}
use Rattle.placing.specs.Sequential.{Sequential}
use Rattle.state.specs.declared.Event.{Event}
use Rattle.state.specs.State.{State}
use Rattle.state.specs.Reached.{Reached, start as fresh_start, next as honest-next}
use Rattle.state.specs.Step.{step}
use Rattle.tables.specs.declared.Row.{Row}
use Rattle.placing.specs.OneOrder.{one_order}
use Rattle.sc_abd.specs.Demand2.{ReachedBy, start, next}
use Rattle.sc_abd.proofs.Impostors.{refuses_all, does_nothing, first_honest, counted_only}
use Rattle.consistency.specs.Demand3.{Demand3}
use Rattle.consistency.proofs.Demand3Laws.{sequential}
use Rattle.order.specs.Operations.{operation_of}
use Rattle.consistency.specs.Operations.{operations_of, order_of}

pub refuses_all-alone : Demand3 refuses_all
unfolding refuses_all
refuses_all-alone s (start n m a b) = sequential _ (fresh_start n m a b)
refuses_all-alone s (next t e r z) = absurd (eqb-false 1 0 refl z)

pub does_nothing-alone : Demand3 does_nothing
unfolding does_nothing
does_nothing-alone s (start n m a b) = sequential _ (fresh_start n m a b)
does_nothing-alone s (next t e r z) = does_nothing-alone t r

-- a state that was only counted on keeps the rows of one that was reached honestly
Behind : State → Type 0
Behind s = Reached s ⊎ ((s.accepted ≡ 0 → ⊥) × ((t : State) × Reached t × (t.rows ≡ s.rows)))

behind-next : (s : State) (e : Event) (first : Bool) → eqb s.accepted 0 ≡ first → Behind s
    → (cond first (step s e) (record { refusal = 0; state = counted_only s })).refusal ≡ 0
    → Behind (cond first (step s e) (record { refusal = 0; state = counted_only s })).state
unfolding Behind
behind-next s e true f (inl r) z = inl (honest-next s e r z)
behind-next s e true f (inr b) z = absurd (b.0 (eqb-true _ _ f))
behind-next s e false f (inl r) z = inr (λ (q : s.accepted + 1 ≡ 0). omega arith, (s, r, refl))
behind-next s e false f (inr b) z = inr (λ (q : s.accepted + 1 ≡ 0). omega arith, b.1)

behind : (s : State) → ReachedBy first_honest s → Behind s
unfolding Behind first_honest
behind s (start n m a b) = inl (fresh_start n m a b)
behind s (next t e r z) = behind-next t e (eqb t.accepted 0) refl (behind t r) z

pub first_honest-alone : Demand3 first_honest
unfolding Behind
first_honest-alone s r = tell (behind s r)
  where
    tell : Behind s → Sequential (pos 0) (operations_of s) (order_of s)
    tell (inl r) = sequential s r
    tell (inr b) =
        subst (λ (rows : List Row). Sequential (pos 0) (map operation_of rows) (one_order (map operation_of rows))) b.1.2
        (sequential b.1.0 b.1.1)
