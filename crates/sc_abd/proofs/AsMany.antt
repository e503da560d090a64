-- A bench and a system that are the same have as many messages on the way, and as many operations.
use Rattle.std.specs.Prelude.{◌≡◌, length}
use Rattle.std.proofs.Common.{sym, ap, ◌∙◌}
use Rattle.std.proofs.lemmas.List.{length-map}
use Rattle.state.specs.State.{State}
use Rattle.sc_abd.specs.System.{System}
use Rattle.sc_abd.specs.Same.{packet_of, operation_of, Same}

pub as-many-messages : (s : State) (a : System) → Same s a → length s.flight ≡ length a.transit
as-many-messages s a same = sym (length-map s.flight packet_of) ∙ ap length same.flight

pub as-many-rows : (s : State) (a : System) → Same s a → length s.rows ≡ length a.history
as-many-rows s a same = sym (length-map s.rows operation_of) ∙ ap length same.history
