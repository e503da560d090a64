-- Every time that a well-formed state prints has at most five digits: none passes the accepted events, and these stop at 12,000.
use Rattle.std.specs.Prelude.{ℕ, ◌+◌, ◌-◌, ◌<◌, ◌≡◌, length, get_or}
use Rattle.std.proofs.Common.{subst, arith}
use Rattle.words.specs.Stamps.{start_pair}
use Rattle.replica.specs.Handlers.{stored}
use Rattle.tables.specs.declared.Row.{Row}
use Rattle.tables.specs.Tables.{empty_row}
use Rattle.state.specs.Within.{Within}
use Rattle.state.specs.State.{State, fresh_replica, replica_of}
use Rattle.state.proofs.WellLaws.{Well, row-at, stored_at}
use Rattle.text.specs.LengthLaws.{fits-time}
use Rattle.text.specs.Short.{Short, ShortRows, ShortPairs, ShortClocks, ShortStores}

module _ (s : State) (w : Well s) where
  pub short-rows : ShortRows (length s.rows) s.rows
  short-rows i l =
      let k = row-at s w i l in
      let r : Row = get_or s.rows i empty_row in
      let time = fits-time s.accepted s.n (record { stamp = r.stamp; value = r.value }) k.pair in
      (omega (arith, k.invoked, w.events), (omega (arith, k.answered, w.events), omega (arith, time, w.events)))

  -- process p + 1 is at place p
  process : (p : ℕ) → p < s.n → Within (p + 1) s.n
  process p l = record { least = omega arith; most = omega arith }

  place : (p : ℕ) → p + 1 - 1 ≡ p
  place p = omega arith

  pub short-clocks : ShortClocks s.n s.replicas
  short-clocks p l =
      subst (λ (i : ℕ). Short (get_or s.replicas i fresh_replica).clock.0) (place p) (omega (arith, (w.replica (p + 1) (process p l)).clock, w.events))

  stored_short : (p : ℕ) → p < s.n → ShortPairs s.m (replica_of s (p + 1)).pairs
  stored_short p l x m =
      subst (λ (i : ℕ). Short (get_or (replica_of s (p + 1)).pairs i start_pair).stamp.time.0) (place x)
      (omega (arith, fits-time s.accepted s.n (stored (replica_of s (p + 1)) (x + 1)) (stored_at s w (p + 1) (x + 1) (process p l) (record { least = omega arith; most = omega arith })), w.events))

  pub short-stores : ShortStores s.n s.m s.replicas
  short-stores p l = subst (λ (i : ℕ). ShortPairs s.m (get_or s.replicas i fresh_replica).pairs) (place p) (stored_short p l)
