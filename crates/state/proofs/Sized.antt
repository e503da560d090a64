-- The tables hold every state reached: at most 512 messages in flight and at most 1,024 rows, which every accepted event keeps.
use Rattle.std.specs.Prelude.{ℕ, ◌+◌, ◌-◌, ◌≤◌, ◌≡◌, refl, List, [], ◌∷◌, ◌++◌, ℤ, length, get_or}
use Rattle.std.proofs.Common.{sym, subst, arith, length-append, length-set}
use Rattle.words.specs.declared.Message.{Message}
use Rattle.replica.specs.Answer.{Answer}
use Rattle.replica.specs.declared.Ended.{Ended}
use Rattle.replica.specs.declared.Ended.TheVariants.{Pending, Query, At}
use Rattle.replica.specs.Handlers.{read_rule, write_rule, crash_rule}
use Rattle.replica.specs.Numbers.{sent_by, pointed}
use Rattle.tables.specs.declared.Row.{Row}
use Rattle.tables.specs.Tables.{empty_row, removed}
use Rattle.state.specs.declared.Event.{Event}
use Rattle.state.specs.declared.Event.TheVariants.{Read, Write, Deliver, Crash, Lose}
use Rattle.state.specs.State.{State, replica_of}
use Rattle.state.specs.Step.{posted, read_row, write_row, completed, queried_row, answered_rows, moved, without_message, step}
use Rattle.state.specs.Reached.{Reached, start, next}
use Rattle.state.specs.Accepted.{read_next, write_next, crash_next, deliver_next, plain, message_at, recipient_at}
use Rattle.state.proofs.AcceptedLaws.{Invoked, InFlight, Deliverable}
use Rattle.state.proofs.AcceptedLaws.{read-accepted, write-accepted, crash-accepted, deliver-accepted, lose-accepted}
use Rattle.state.proofs.EveryLaws.{length_removed}
use Rattle.state.proofs.KeepsMoved.{posted-length}

pub record Sized (s : State) : Type 0 where
  pub flight : length s.flight ≤ 512
  pub rows : length s.rows ≤ 1024

moved-sized : (s : State) (p : ℕ) (answer : Answer) (flight : List Message) (delivered : ℕ) (rows : List Row)
    → length flight + sent_by s.n answer.sends ≤ 512 → length rows ≤ 1024 → Sized (moved s p answer flight delivered rows)
moved-sized s p answer flight delivered rows l h =
    record {
      flight = omega (arith, length-append flight (posted s p answer.sends), posted-length s p answer.sends);
      rows = h;
    }

-- an invocation sends to all, and adds a row
invoked-sized : (s : State) (p x : ℕ) → Invoked s p x → (answer : Answer) (row : Row) → sent_by s.n answer.sends ≡ s.n
    → Sized (moved s p answer s.flight s.delivered (s.rows ++ (row ∷ [])))
invoked-sized s p x i answer row e =
    moved-sized s p answer s.flight s.delivered (s.rows ++ (row ∷ [])) (omega (arith, i.flight))
    (omega (arith, i.rows, length-append s.rows (row ∷ [])))

read-sized : (s : State) (p x : ℕ) → Invoked s p x → Sized (read_next s p x)
unfolding read_rule
read-sized s p x i =
    let answer : Answer = read_rule (replica_of s p) x (length s.rows + 1) in
    invoked-sized s p x i answer (read_row p x answer.replica.clock.0) refl

write-sized : (s : State) (p x : ℕ) (value : ℤ) → Invoked s p x → Sized (write_next s p x value)
unfolding write_rule
write-sized s p x value i =
    let answer : Answer = write_rule (replica_of s p) (record { 0 = p }) x value (length s.rows + 1) in
    invoked-sized s p x i answer (write_row p x value answer.replica.clock.0) refl

crash-sized : (s : State) (p : ℕ) → Sized s → Sized (crash_next s p)
unfolding crash_rule
crash-sized s p z = moved-sized s p (crash_rule (replica_of s p)) s.flight s.delivered s.rows (omega (arith, z.flight)) z.rows

pub answered-length : (rows : List Row) (number : ℕ) (ended : Ended) → length (answered_rows rows number ended) ≡ length rows
answered-length rows number Pending = refl
answered-length rows number (Query who) = length-set rows (number - 1) (queried_row (get_or rows (number - 1) empty_row) who)
answered-length rows number (At time pair who) = length-set rows (number - 1) (completed (get_or rows (number - 1) empty_row) time pair who)

deliver-sized : (s : State) (k i : ℕ) → Deliverable s k i → Sized s → Sized (deliver_next s i)
deliver-sized s k i d z =
    let answer : Answer = plain s (recipient_at s i) (message_at s i) in
    let number : ℕ = pointed (recipient_at s i).phase in
    moved-sized s (message_at s i).to.0 answer (removed i s.flight) (s.delivered + 1) (answered_rows s.rows number answer.ended)
    (omega (arith, d.flight, length_removed i s.flight d.found.inside))
    (omega (arith, z.rows, answered-length s.rows number answer.ended))

lose-sized : (s : State) (k i : ℕ) → InFlight s k i → Sized s → Sized (without_message s i)
lose-sized s k i f z = record { flight = omega (arith, z.flight, length_removed i s.flight f.inside); rows = z.rows }

pub keeps-sized : (s : State) (e : Event) → Sized s → (step s e).refusal ≡ 0 → Sized (step s e).state
unfolding step
keeps-sized s (Read p x) z e = let a = read-accepted s p.0 x e in subst Sized (sym a.1) (read-sized s p.0 x a.0)
keeps-sized s (Write p x value) z e = let a = write-accepted s p.0 x value e in subst Sized (sym a.1) (write-sized s p.0 x value a.0)
keeps-sized s (Deliver k) z e = let a = deliver-accepted s k e in subst Sized (sym a.2) (deliver-sized s k a.0 a.1 z)
keeps-sized s (Crash p) z e = let a = crash-accepted s p.0 e in subst Sized (sym a.1) (crash-sized s p.0 z)
keeps-sized s (Lose k) z e = let a = lose-accepted s k e in subst Sized (sym a.2) (lose-sized s k a.0 a.1.found z)

pub reached-sized : (s : State) → Reached s → Sized s
reached-sized _ (start n m e f) = record { flight = omega arith; rows = omega arith }
reached-sized _ (next s e r z) = keeps-sized s e (reached-sized s r) z
