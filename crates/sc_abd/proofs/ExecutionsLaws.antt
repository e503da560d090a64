-- A bench that meets demand 2 performs every execution of Algorithm 1 within the limits, and is the same as the algorithm at its end; one that also
-- keeps the limits performs no others. Ours does both: its runs are these executions.
use Rattle.std.specs.Prelude.{ℕ, ◌+◌, ◌-◌, ◌≤◌, ◌<◌, ◌≡◌, refl, true, List, [], ◌∷◌, length, Some}
use Rattle.std.proofs.Common.{sym, ap, subst, ◌∙◌, arith}
use Rattle.words.specs.Ranges.{within}
use Rattle.tables.specs.Tables.{seek}
use Rattle.state.specs.declared.Event.{Event}
use Rattle.state.specs.State.{State, fresh}
use Rattle.state.specs.Step.{Outcome, step, step_deliver}
use Rattle.state.proofs.AcceptedLaws.{Invoked, read-accepted, write-accepted, deliver-accepted, crash-accepted, lose-accepted}
use Rattle.state.specs.Counting.{Moment, RunBy}
use Rattle.state.proofs.PairLaws.{ok-within}
use Rattle.state.proofs.Sized.{reached-sized}
use Rattle.sc_abd.specs.System.{Call, System, Action, Enabled, taken, on_arrival}
use Rattle.sc_abd.specs.Same.{Same}
use Rattle.sc_abd.specs.Demand2.{Names, register_of, WithinLimits, ReachedBy, Demand2}
use Rattle.sc_abd.specs.Executions.{after, RoomFor, Execution, Performed, KeepsLimits}
use Rattle.sc_abd.proofs.Along.{names-one}
use Rattle.sc_abd.proofs.Complete.{sends-alike}
use Rattle.sc_abd.proofs.AsMany.{as-many-messages, as-many-rows}
use Rattle.sc_abd.specs.Numbering.{found-place}
use Rattle.moves.proofs.RequestNumberLaws.{reached-numbered}
use Rattle.sc_abd.proofs.Theorem.{reached, reached-well, step-meets-demand2}

-- ---- the limits that a bench reads are those of the system that it is the same as

module _ (s : State) (a : System) (same : Same s a) where
  room_within : (action : Action) → s.accepted < 12000 → RoomFor s.m a action → WithinLimits s a action
  room_within (Action.invoke i call) few room =
      (few, (room.0, omega (arith, room.1, as-many-rows s a same), omega (arith, room.2, as-many-messages s a same, same.size)))
  room_within (Action.receive place) few room = (few, omega (arith, room, as-many-messages s a same))
  room_within (Action.crash i) few room = (few, tt)
  room_within (Action.lose place) few room = (few, tt)

  within-room : (action : Action) → WithinLimits s a action → RoomFor s.m a action
  within-room (Action.invoke i call) limits =
      (limits.1.0, omega (arith, limits.1.1, as-many-rows s a same), omega (arith, limits.1.2, as-many-messages s a same, same.size))
  within-room (Action.receive place) limits = omega (arith, limits.1, as-many-messages s a same)
  within-room (Action.crash i) limits = tt
  within-room (Action.lose place) limits = tt

-- ---- a bench f that meets demand 2

module _ (f : State → Event → Outcome) (d : Demand2 f) (n m : ℕ) (processes : within n 7 ≡ true) (registers : within m 16 ≡ true) where
  pub performed-reached : {steps : List Action} {s : State} → Performed f n m steps s → ReachedBy f s
  performed-reached Performed.start = ReachedBy.start n m processes registers
  performed-reached (Performed.next steps s action e p names z) = ReachedBy.next s e (performed-reached p) z

  pub performed-counted : {steps : List Action} {s : State} → Performed f n m steps s → (s.accepted ≡ length steps) × (s.m ≡ m)
  performed-counted Performed.start = (refl, refl)
  performed-counted (Performed.next steps s action e p names z) =
      let so_far = performed-counted p in
      let one_more = d.counted s e (performed-reached p) z in
      (omega (arith, so_far.0, one_more.0), one_more.1 ∙ so_far.1)

  -- an accepted event is the step that it names
  step-taken : (s : State) (a : System) (e : Event) (action : Action) → ReachedBy f s → Same s a → Names s e action → (f s e).refusal ≡ 0
      → Enabled a action × Same (f s e).state (taken a action)
  step-taken s a e action r same names z =
      let (one, named, on, then) = d.sound s a e r same z in
      subst (λ x. Enabled a x × Same (f s e).state (taken a x)) (names-one named ∙ sym (names-one names)) (on, then)

  -- whatever it has performed, it is the same as the algorithm after those steps
  pub performed-same : {steps : List Action} {s : State} → Performed f n m steps s → Same s (after n steps)
  performed-same Performed.start = d.starts n m processes registers
  performed-same (Performed.next steps s action e p names z) =
      (step-taken s (after n steps) e action (performed-reached p) (performed-same p) names z).1

  -- every execution within the limits: accepted event by event, in the end the same, and each step counted
  pub execution-performed : {steps : List Action} → Execution n m steps
      → (s : State) × Performed f n m steps s × Same s (after n steps) × (s.accepted ≡ length steps)
  execution-performed Execution.start = (fresh n m, Performed.start, d.starts n m processes registers, refl)
  execution-performed (Execution.next steps action x few on room) =
      let (s, p, same, count) = execution-performed x in
      let m-stays = (performed-counted p).1 in
      let limits = room_within s (after n steps) same action (omega (arith, few, count))
      (subst (λ k. RoomFor k (after n steps) action) (sym m-stays) room) in
      let (e, names, z, then) = d.complete s (after n steps) action (performed-reached p) same on limits in
      let longer = Performed.next steps s action e p names z in
      ((f s e).state, longer, then, (performed-counted longer).0)

  -- and no other, where it keeps the limits
  pub performed-execution : KeepsLimits f → {steps : List Action} {s : State} → Performed f n m steps s → Execution n m steps
  performed-execution keeps Performed.start = Execution.start
  performed-execution keeps (Performed.next steps s action e p names z) =
      let r = performed-reached p in
      let same = performed-same p in
      let c = performed-counted p in
      let limits = keeps s (after n steps) e action r same names z in
      Execution.next steps action (performed-execution keeps p) (omega (arith, limits.0, c.0))
      (step-taken s (after n steps) e action r same names z).0
      (subst (λ k. RoomFor k (after n steps) action) c.1 (within-room s (after n steps) same action limits))

-- every run of it has performed some steps
pub run-performed : (f : State → Event → Outcome) → Demand2 f → {s : State} {run : List Moment} → RunBy f s run
    → (n m : ℕ) × (within n 7 ≡ true) × (within m 16 ≡ true) × ((steps : List Action) × Performed f n m steps s)
run-performed f d (RunBy.begun n m g h) = (n, m, g, h, ([], Performed.start))
run-performed f d (RunBy.then s e run r z) =
    let (n, m, g, h, (steps, p)) = run-performed f d r in
    let (action, names, on, then) = d.sound s (after n steps) e (performed-reached f d n m g h p) (performed-same f d n m g h p) z in
    (n, m, g, h, (action ∷ steps, Performed.next steps s action e p names z))

-- ---- ours keeps the limits

module _ (s : State) (a : System) (r : ReachedBy step s) (same : Same s a) where
  invoked-limits : (p x : ℕ) (call : Call) → register_of call ≡ x → Invoked s p x → WithinLimits s a (Action.invoke p call)
  invoked-limits p x call f i = (i.room, (ap (λ y. within y s.m) f ∙ ok-within i.register, i.rows, i.flight))

  delivered-limits : (k place : ℕ) → seek k 0 s.flight ≡ Some place → (step_deliver s k).refusal ≡ 0 → WithinLimits s a (Action.receive place)
  delivered-limits k place found z =
      let (i, c, next) = deliver-accepted s k z in
      let there : seek k 0 s.flight ≡ Some i = found-place s (reached-well r) k i c.found in
      let here : i ≡ place = cc in
      let alike = sends-alike s (reached-well r) (reached-numbered s (reached r)) (reached-sized s (reached r)).rows a same i
      (omega (arith, c.found.inside, as-many-messages s a same)) in
      (c.found.room, subst (λ j. length s.flight - 1 + length (on_arrival a j).sends ≤ 512) here (omega (arith, c.flight, alike)))

pub step-keeps-limits : KeepsLimits step
unfolding step
step-keeps-limits s a e action r same (Names.read p x) z = invoked-limits s a r same p.0 x (Call.READ x) refl (read-accepted s p.0 x z).0
step-keeps-limits s a e action r same (Names.write p x v) z =
    invoked-limits s a r same p.0 x (Call.WRITE x v) refl (write-accepted s p.0 x v z).0
step-keeps-limits s a e action r same (Names.deliver k place found) z = delivered-limits s a r same k place found z
step-keeps-limits s a e action r same (Names.crash p) z = ((crash-accepted s p.0 z).0.room, tt)
step-keeps-limits s a e action r same (Names.lose k place found) z = ((lose-accepted s k z).1.found.room, tt)

-- ---- so of ours: it performs the executions within the limits, and nothing else

module _ (n m : ℕ) (processes : within n 7 ≡ true) (registers : within m 16 ≡ true) where
  pub step-performs : {steps : List Action} → Execution n m steps
      → (s : State) × Performed step n m steps s × Same s (after n steps) × (s.accepted ≡ length steps)
  step-performs = execution-performed step step-meets-demand2 n m processes registers

  pub step-performs-only : {steps : List Action} {s : State} → Performed step n m steps s → Execution n m steps
  step-performs-only = performed-execution step step-meets-demand2 n m processes registers step-keeps-limits
