-- Of a bench and two lent tables that hold a state that was reached: a table of 1,024 places is not refused, and what `order` lays in it explains the history.
use Rattle.std.specs.Prelude.{ℕ, ◌≡◌, true, List, length}
use Rattle.std.proofs.Math.Path.{refl}
use Rattle.std.proofs.Common.{sym, subst}
use Rattle.words.specs.declared.Message.{Message}
use Rattle.tables.specs.declared.Row.{Row}
use Rattle.state.specs.declared.Bench.{Bench}
use Rattle.state.specs.State.{State, view}
use Rattle.state.specs.Tabled.{tabled}
use Rattle.state.proofs.Keeps.{reached-well-formed}
use Rattle.state.proofs.Sized.{reached-sized}
use Rattle.state.specs.Reached.{Reached}
use Rattle.advance.proofs.TabledLaws.{Holds, holds-tabled, holds-view}
use Rattle.order.specs.Operations.{order_of}
use Rattle.bench.specs.Listing.{list_reply, list_left}
use Rattle.consistency.proofs.Demand3Laws.{sequential, real_time}
use Rattle.promised.specs.Lent.{history, Explained}

pub record Tells (b : Bench) (messages : List Message) (rows : List Row) : Type 0 where
  pub reached : Reached (view b messages rows)
  pub formed : tabled b messages rows ≡ true

pub tells : (s : State) (b : Bench) (messages : List Message) (rows : List Row) → Reached s → Holds s b messages rows → Tells b messages rows
tells s b messages rows r h =
    record {
      reached = subst Reached (sym (holds-view s b messages rows h)) r;
      formed = holds-tabled s b messages rows h (reached-well-formed s r) (reached-sized s r);
    }

pub explained : (b : Bench) (messages : List Message) (rows : List Row) (out : List ℕ) → Tells b messages rows → length out ≡ 1024 → Explained b messages rows out
unfolding list_reply list_left
explained b messages rows out told long =
    record {
      numbers = order_of (history b messages rows);
      reply = rw (told.formed, long) refl;
      laid = rw (told.formed, long) refl;
      consistent = sequential (view b messages rows) told.reached;
      in-time = real_time (view b messages rows) told.reached;
    }
