-- The status of each process: document 01, "Status".
use Rattle.std.specs.Prelude.{ℕ, Result, Ok, Err, zero, suc, ◌+◌, ◌-◌, Bool, cond, List, [], ◌∷◌, map, leb, ltb, get_or, replicate}
use Rattle.std.specs.List.{range_with_len}
use Rattle.words.specs.declared.refusal.Refusal.{Refusal}
use Rattle.words.specs.Refusals.{number}
use Rattle.words.specs.Quorum.{majority_of}
use Rattle.replica.specs.declared.Replica.{Replica}
use Rattle.replica.specs.Handlers.{is_idle}
use Rattle.state.specs.declared.Bench.{Bench}
use Rattle.state.specs.State.{State, fresh_replica, replica_of}
use Rattle.standing.specs.declared.Status.{Status}
use Rattle.standing.specs.declared.Status.TheVariants.{Down, Idle, Waiting, Stuck}

-- document 01 names them in this order
abbrev pub status_number : Status → ℕ
status_number Down = 0
status_number Idle = 1
status_number Waiting = 2
status_number Stuck = 3

-- down if crashed; a pending operation of a live process is stuck when fewer than a majority are up, otherwise waiting
abbrev pub status_of : Replica → Bool → Status
status_of r enough = cond r.crashed Down (cond (is_idle r.phase) Idle (cond enough Waiting Stuck))

-- how many of the processes p, p + 1 .. are up, as many as are left
abbrev pub up_from : State → ℕ → ℕ → ℕ
up_from s p zero = 0
up_from s p (suc left) = cond (replica_of s p).crashed 0 1 + up_from s (suc p) left

abbrev pub enough : State → Bool
enough s = leb (majority_of s.n) (up_from s 1 s.n)

-- what a bench replies: its number of refusal, and the status of each process in the order of their numbers
pub record Statuses : Type 0 where
  pub refusal : ℕ
  pub of : List Status

-- places behind N read down
abbrev pub standings : State → ℕ → ℕ → List Status
standings s p zero = []
standings s p (suc left) = cond (leb p s.n) (status_of (replica_of s p) (enough s)) Down ∷ standings s (suc p) left

unfoldable pub statuses : State → Statuses
statuses s = record { refusal = 0; of = standings s 1 7 }

-- a refused status reads down everywhere
unfoldable pub downs : ℕ → Statuses
downs refusal = record { refusal = refusal; of = replicate 7 Down }

-- what a result of the code stands for
abbrev pub told : Result (List Status) Refusal → Statuses
told (Ok of) = record { refusal = 0; of = of }
told (Err e) = downs (number e)

-- ---- the same of a bench, as the code finds it; `StatusLaws` says that it is the same

abbrev pub up_at : Bench → ℕ → ℕ
up_at b p = cond (leb p b.n) (cond (get_or b.replicas (p - 1) fresh_replica).crashed 0 1) 0

abbrev pub enough_up : Bench → Bool
enough_up b = leb (majority_of b.n) (up_at b 1 + up_at b 2 + up_at b 3 + up_at b 4 + up_at b 5 + up_at b 6 + up_at b 7)

-- places behind N read down
abbrev pub standing_of : Replica → Bool → Bool → Status
standing_of r is_used enough = cond is_used (status_of r enough) Down

-- the process at a place, counted from 0
abbrev pub standing_at : Bench → Bool → ℕ → Status
standing_at b enough at = standing_of (get_or b.replicas at fresh_replica) (ltb at b.n) enough

abbrev pub standings_of : Bench → List Status
standings_of b = map (standing_at b (enough_up b)) (range_with_len 0 7)
