-- A process and its place: what the replicas are after one of them was replaced, and after a start.
use Rattle.std.specs.Prelude.{ℕ, ◌-◌, ◌≤◌, ◌≡◌, ◌≢◌, length, get_or, set}
use Rattle.std.proofs.Common.{arith, get_or-set_same, get_or-set_other}
use Rattle.replica.specs.declared.Replica.{Replica}
use Rattle.state.specs.State.{State, fresh, fresh_replica, replica_of}
use Rattle.state.proofs.EveryLaws.{get_or-empty}

pub fresh-replica : (n m p : ℕ) → replica_of (fresh n m) p ≡ fresh_replica
fresh-replica n m p = get_or-empty 7 (p - 1) fresh_replica

module _ (s : State) (seven : length s.replicas ≡ 7) (p : ℕ) (least : 1 ≤ p) (most : p ≤ 7) (r : Replica) where
  pub own-after : get_or (set s.replicas (p - 1) r) (p - 1) fresh_replica ≡ r
  own-after = get_or-set_same s.replicas (p - 1) r fresh_replica (omega arith)

  pub other_after : (q : ℕ) → 1 ≤ q → q ≢ p → get_or (set s.replicas (p - 1) r) (q - 1) fresh_replica ≡ replica_of s q
  other_after q l n = get_or-set_other s.replicas (p - 1) (q - 1) r fresh_replica (λ e. n (omega arith))
