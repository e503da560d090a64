-- Complete: a step of Algorithm 1 within the limits is accepted, by an event that names it, and bench and system are the same again.
use Rattle.std.specs.Prelude.{ℕ, ◌≤◌, ◌<◌, ◌≡◌, not, ◌||◌, ◌++◌, map, length}
use Rattle.std.proofs.Common.{sym, ap, ap₂, subst, ◌∙◌, arith, length-append}
use Rattle.std.proofs.lemmas.List.{length-map}
use Rattle.std.proofs.lemmas.Bool.{not-false}
use Rattle.words.specs.declared.Pid.{Pid}
use Rattle.replica.specs.Handlers.{is_idle}
use Rattle.replica.specs.Numbers.{sent_by}
use Rattle.tables.specs.Tables.{removed}
use Rattle.state.specs.declared.Event.{Event}
use Rattle.state.specs.declared.Event.TheVariants.{Read, Write, Deliver, Crash, Lose}
use Rattle.state.specs.State.{State, replica_of}
use Rattle.state.specs.Step.{Outcome, posted, step}
use Rattle.state.specs.Accepted.{message_at, recipient_at, plain}
use Rattle.state.proofs.AcceptedLaws.{Invoked}
use Rattle.state.proofs.KeepsMoved.{posted-length}
use Rattle.state.specs.Within.{Within}
use Rattle.state.proofs.PairLaws.{within-ok}
use Rattle.state.proofs.WellLaws.{Well}
use Rattle.sc_abd.specs.System.{Call, System, Action, Enabled, without, on_arrival, outstanding, taken}
use Rattle.sc_abd.specs.Same.{packet_of, operation_of, Same}
use Rattle.sc_abd.specs.Demand2.{Names, register_of, WithinLimits as Limited}
use Rattle.sc_abd.specs.Allowed.{done, read-allowed, write_allowed, deliver-allowed, crash-allowed, lose-allowed}
use Rattle.sc_abd.proofs.AsMany.{as-many-messages}
use Rattle.sc_abd.proofs.Idle.{idle-outstanding}
use Rattle.sc_abd.specs.Numbering.{seek-place}
use Rattle.sc_abd.proofs.Packets.{packets-without}
use Rattle.moves.specs.RequestNumbers.{Numbered}
use Rattle.sc_abd.proofs.SameFailure.{same-crash, same-lose}
use Rattle.sc_abd.proofs.SameInvocation.{same_read, same_write}
use Rattle.sc_abd.proofs.SameReceipt.{same-receive}
use Rattle.sc_abd.proofs.Sound.{sender-down, recipient-down}

module _ (s : State) (w : Well s) (n : Numbered s) (short : length s.rows ≤ 1024) (a : System) (same : Same s a) where
  abbrev Complete : Action → Type 0
  Complete action = (e : Event) × Names s e action × ((step s e).refusal ≡ 0) × Same (step s e).state (taken a action)

  -- an event whose outcome is known
  by-outcome : (e : Event) (action : Action) (next : State) → Names s e action → step s e ≡ done next → Same next (taken a action) → Complete action
  by-outcome e action next names is then =
      (e, names, ap (λ (o : Outcome). o.refusal) is, subst (λ t. Same t (taken a action)) (sym (ap (λ (o : Outcome). o.state) is)) then)

  -- ---- an invocation

  may-invoke : (p : ℕ) (call : Call) → Enabled a (Action.invoke p call) → Limited s a (Action.invoke p call) → Invoked s p (register_of call)
  may-invoke p call on limits =
      record {
        room = limits.0;
        actor = actor;
        register = within-ok (register_of call) s.m limits.1.0;
        up = same.down p on.0 actor.most ∙ on.2;
        idle = not-false _ (sym none-pending ∙ ap (outstanding p) same.history ∙ on.3);
        rows = limits.1.1;
        flight = limits.1.2;
      }
    where
      actor : Within p s.n
      actor = record { least = on.0; most = omega (arith, on.1, same.size) }

      none-pending : outstanding p (map operation_of s.rows) ≡ not (is_idle (replica_of s p).phase)
      none-pending = idle-outstanding s p (replica_of s p).phase (replica_of s p).repliers (w.replica p actor).phase

  -- ---- a message

  module _ (i : ℕ) (inside : i < length a.transit) where
    in-flight : i < length s.flight
    in-flight = omega (arith, as-many-messages s a same)

    -- as many messages are sent as the algorithm sends
    pub sends-alike : sent_by s.n (plain s (recipient_at s i) (message_at s i)).sends ≡ length (on_arrival a i).sends
    sends-alike =
        let sent = posted s (message_at s i).to.0 (plain s (recipient_at s i) (message_at s i)).sends in
        let left = removed i s.flight in
        let all : length (map packet_of (left ++ sent)) ≡ length (without i a.transit ++ (on_arrival a i).sends) =
        ap length (same-receive s w n a same i in-flight).flight in
        let rest : length (map packet_of left) ≡ length (without i a.transit) = ap length (packets-without i s.flight ∙ ap (without i) same.flight) in
        omega (
          arith,
          length-map (left ++ sent) packet_of,
          length-append left sent,
          length-map left packet_of,
          length-append (without i a.transit) (on_arrival a i).sends,
          posted-length s (message_at s i).to.0 (plain s (recipient_at s i) (message_at s i)).sends,
        )

  -- ---- the steps

  pub step-complete : (action : Action) → Enabled a action → Limited s a action → Complete action
  unfolding step
  step-complete (Action.invoke p (Call.READ x)) on limits =
      let i = may-invoke p (Call.READ x) on limits in
      let me : Pid = record { 0 = p } in
      by-outcome (Read me x) _ _ (Names.read me x) (read-allowed s w p x i) (same_read s w a same p x i)
  step-complete (Action.invoke p (Call.WRITE x v)) on limits =
      let i = may-invoke p (Call.WRITE x v) on limits in
      let me : Pid = record { 0 = p } in
      by-outcome (Write me x v) _ _ (Names.write me x v) (write_allowed s w p x i v) (same_write s w a same p x i v)
  step-complete (Action.receive i) on limits =
      let l = in-flight i on.0 in
      let k = (message_at s i).number in
      let found = seek-place s w i l in
      by-outcome (Deliver k) _ _ (Names.deliver k i found)
      (deliver-allowed s w limits.0 k i found short l (recipient-down s w a same i l ∙ on.1) (omega (arith, limits.1, sends-alike i on.0)))
      (same-receive s w n a same i l)
  step-complete (Action.crash p) on limits =
      let actor : Within p s.n = record { least = on.0; most = omega (arith, on.1, same.size) } in
      let me : Pid = record { 0 = p } in
      by-outcome (Crash me) _ _ (Names.crash me)
      (crash-allowed s w short p (record { room = limits.0; actor = actor; up = same.down p on.0 actor.most ∙ on.2 }))
      (same-crash s w a same p actor)
  step-complete (Action.lose i) on limits =
      let l = in-flight i on.0 in
      let k = (message_at s i).number in
      let found = seek-place s w i l in
      by-outcome (Lose k) _ _ (Names.lose k i found)
      (lose-allowed s w limits.0 k i found (ap₂ (λ x y. x || y) (sender-down s w a same i l) (recipient-down s w a same i l) ∙ on.1))
      (same-lose s w a same i)
