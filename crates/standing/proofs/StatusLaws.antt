-- The statuses by their numbers; and what the code finds of a bench, place by place, is the status of the state that it holds, whatever the tables.
use Rattle.std.specs.Prelude.{ℕ, zero, suc, ◌+◌, ◌-◌, ◌≤◌, ◌≡◌, refl, List, [], ◌∷◌, map, Bool, true, false, cond, not, leb, length, count_by, get_or, take, drop, replicate}
use Rattle.std.proofs.Common.{ap, ap₂, ◌∙◌, sym, arith, inl, inr, le-leb}
use Rattle.std.proofs.Math.Seq.{drop-cons}
use Rattle.std.proofs.lemmas.Bool.{cases_lt}
use Rattle.std.proofs.lemmas.List.{take_all}
use Rattle.std.proofs.lemmas.List.Sums.{sum_by-cons}
use Rattle.words.specs.Quorum.{majority_of}
use Rattle.words.specs.declared.Message.{Message}
use Rattle.tables.specs.declared.Row.{Row}
use Rattle.replica.specs.declared.Replica.{Replica}
use Rattle.state.specs.declared.Bench.{Bench}
use Rattle.state.specs.State.{State, view, fresh_replica, replica_of}
use Rattle.replica.specs.Handlers.{is_idle}
use Rattle.standing.specs.declared.Status.TheVariants.{Down, Idle, Waiting, Stuck}
use Rattle.standing.specs.Status.{Statuses, status_number, statuses, downs, standings, standings_of, enough, up_at, enough_up, up_from}

-- ---- 0 is down, 1 idle, 2 waiting, 3 stuck

abbrev pub numbers_of : Statuses → List ℕ
numbers_of t = map status_number t.of

-- the number of process p: 0 if it crashed or stands behind N; 1 if it has no operation pending; 2 if it has and a majority is up, otherwise 3
abbrev pub number_at : State → ℕ → ℕ
number_at s p = cond (leb p s.n) (cond (replica_of s p).crashed 0 (cond (is_idle (replica_of s p).phase) 1 (cond (enough s) 2 3))) 0

number-place : (inside crashed idle up : Bool)
    → status_number (cond inside (cond crashed Down (cond idle Idle (cond up Waiting Stuck))) Down) ≡ cond inside (cond crashed 0 (cond idle 1 (cond up 2 3))) 0
number-place true true idle up = refl
number-place true false true up = refl
number-place true false false true = refl
number-place true false false false = refl
number-place false crashed idle up = refl

pub statuses-numbered : (s : State) → numbers_of (statuses s) ≡ map (number_at s) (1 ∷ 2 ∷ 3 ∷ 4 ∷ 5 ∷ 6 ∷ 7 ∷ [])
unfolding statuses
statuses-numbered s = numbered 1 7
  where
    -- p, p + 1 .., as many as are left
    from : ℕ → ℕ → List ℕ
    from p zero = []
    from p (suc left) = p ∷ from (suc p) left

    numbered : (p left : ℕ) → map status_number (standings s p left) ≡ map (number_at s) (from p left)
    numbered p zero = refl
    numbered p (suc left) =
        let r = replica_of s p in
        ap₂ ◌∷◌ (number-place (leb p s.n) r.crashed (is_idle r.phase) (enough s)) (numbered (suc p) left)

-- a refused status reads down
pub downs-numbered : (refusal : ℕ) → numbers_of (downs refusal) ≡ replicate 7 0
unfolding downs
downs-numbered refusal = refl

-- ---- what the code finds

-- those up among 1..n, place by place up to 7
up_sum : State → ℕ → ℕ → ℕ
up_sum s n p = cond (leb p n) (cond (replica_of s p).crashed 0 1) 0

up-sum : (s : State) (n : ℕ) → n ≤ 7 → up_from s 1 n ≡ up_sum s n 1 + up_sum s n 2 + up_sum s n 3 + up_sum s n 4 + up_sum s n 5 + up_sum s n 6 + up_sum s n 7
unfolding up_sum
up-sum s zero h = omega arith
up-sum s (suc zero) h = omega arith
up-sum s (suc (suc zero)) h = omega arith
up-sum s (suc (suc (suc zero))) h = omega arith
up-sum s (suc (suc (suc (suc zero)))) h = omega arith
up-sum s (suc (suc (suc (suc (suc zero))))) h = omega arith
up-sum s (suc (suc (suc (suc (suc (suc zero)))))) h = omega arith
up-sum s (suc (suc (suc (suc (suc (suc (suc zero))))))) h = omega arith
up-sum s (suc (suc (suc (suc (suc (suc (suc (suc n)))))))) h = absurd (omega arith)

enough-same : (b : Bench) (messages : List Message) (rows : List Row) → b.n ≤ 7 → enough (view b messages rows) ≡ enough_up b
unfolding up_sum
enough-same b messages rows h = ap (leb (majority_of b.n)) (up-sum (view b messages rows) b.n h)

pub statuses-same : (b : Bench) (messages : List Message) (rows : List Row) → b.n ≤ 7 → statuses (view b messages rows) ≡ record { refusal = 0; of = standings_of b }
unfolding statuses
statuses-same b messages rows h = rw (enough-same b messages rows h)

-- ---- the code counts them in the list of the replicas

-- those up among the processes behind p, as many as are left
abbrev pub up : Replica → Bool
up r = not r.crashed

one-up : (crashed : Bool) (k : ℕ) → cond crashed 0 1 + k ≡ cond (not crashed) 1 0 + k
one-up true k = refl
one-up false k = refl

pub up-same : (s : State) (p left : ℕ) → p + left ≤ length s.replicas → up_from s (suc p) left ≡ count_by up (take left (drop p s.replicas))
up-same s p zero h = refl
up-same s p (suc left) h =
    let r = get_or s.replicas p fresh_replica in
    let last : suc p - 1 ≡ p = omega arith in
    one-up (replica_of s (suc p)).crashed (up_from s (suc (suc p)) left)
    ∙ ap (λ k. cond (up (get_or s.replicas k fresh_replica)) 1 0 + up_from s (suc (suc p)) left) last
    ∙ ap (λ k. cond (up r) 1 0 + k) (up-same s (suc p) left (omega (arith, h)))
    ∙ sym (sum_by-cons (λ x. cond (up x) 1 0) r (take left (drop (suc p) s.replicas)))
    ∙ sym (ap (λ rs. count_by up (take (suc left) rs)) (drop-cons s.replicas p fresh_replica (omega (arith, h))))

-- one process of the N, and all seven where N is above 7
up-one : (s : State) (n p : ℕ) → p ≤ n → cond (replica_of s p).crashed 0 1 ≡ up_sum s n p
unfolding up_sum
up-one s n p h = sym (ap (λ (t : Bool). cond t (cond (replica_of s p).crashed 0 1) 0) (le-leb p n h))

up-all : (s : State) (n : ℕ) → 7 ≤ n → up_from s 1 7 ≡ up_sum s n 1 + up_sum s n 2 + up_sum s n 3 + up_sum s n 4 + up_sum s n 5 + up_sum s n 6 + up_sum s n 7
up-all s n h =
    let up = λ (p : ℕ) (k : p ≤ 7). up-one s n p (omega (arith, h, k)) in
    omega (arith, up 1 (omega arith), up 2 (omega arith), up 3 (omega arith), up 4 (omega arith), up 5 (omega arith), up 6 (omega arith), up 7 (omega arith))

pub counted-up : (b : Bench) → length b.replicas ≡ 7
    → count_by up (take b.n b.replicas) ≡ up_at b 1 + up_at b 2 + up_at b 3 + up_at b 4 + up_at b 5 + up_at b 6 + up_at b 7
unfolding up_sum
counted-up b l =
    let s = view b [] [] in
    elim (cases_lt 7 b.n) [
      | inl p ↦
          ap (count_by up) (take_all b.n b.replicas (omega (arith, l, p)) ∙ sym (take_all 7 b.replicas (omega (arith, l)))) ∙ sym (up-same s 0 7 (omega (arith, l)))
          ∙ up-all s b.n (omega (arith, p))
      | inr p ↦ sym (up-same s 0 b.n (omega (arith, p, l))) ∙ up-sum s b.n p
    ]
