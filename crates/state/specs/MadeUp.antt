-- A bench with a made-up message count: it does what `step` does, and says of every state that one message more was sent. Before the next event it
-- takes that one off again. Document 01 says that the counting rule excludes it.
use Rattle.std.specs.Prelude.{ℕ, ◌+◌, ◌-◌, cond, eqb}
use Rattle.state.specs.declared.Event.{Event}
use Rattle.state.specs.State.{State}
use Rattle.state.specs.Step.{Outcome, step}

-- the state, said to have sent so many messages
abbrev pub said_sent : ℕ → State → State
said_sent sent s =
    record {
      n = s.n;
      m = s.m;
      accepted = s.accepted;
      sent = sent;
      delivered = s.delivered;
      lost = s.lost;
      replicas = s.replicas;
      flight = s.flight;
      rows = s.rows;
    }

abbrev pub one_more : State → State
one_more s = said_sent (s.sent + 1) s

abbrev pub one_fewer : State → State
one_fewer s = said_sent (s.sent - 1) s

unfoldable pub made_up : State → Event → Outcome
made_up s e =
    let honest = step (one_fewer s) e in
    record { refusal = honest.refusal; state = cond (eqb honest.refusal 0) (one_more honest.state) s }
