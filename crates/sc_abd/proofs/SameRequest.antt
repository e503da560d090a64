-- A request is received: the reply is the algorithm's, lines 6 and 7 of a query and 21 to 23 of an update, and so is what is stored.
use Rattle.std.specs.Prelude.{ℕ, ◌+◌, ◌-◌, ◌≤◌, max, ◌≡◌, Bool, true, false, cond, not, ◌&&◌, List, [], ◌∷◌, map, get_or, set}
use Rattle.std.proofs.Math.Path.{refl}
use Rattle.std.proofs.Common.{sym, ap, ap₂, ◌∙◌, arith, get_or-set_same, get_or-set_other, eq-eqb, ne_eqb}
use Rattle.std.proofs.Math.Decide.{ℕ_discrete}
use Rattle.words.specs.declared.Message.{Message}
use Rattle.words.specs.declared.Pair.{Pair}
use Rattle.words.specs.Stamps.{start_pair, below, newer}
use Rattle.replica.specs.Answer.{Answer}
use Rattle.replica.specs.declared.Phase.{Phase}
use Rattle.replica.specs.declared.Phase.TheVariants.{Idle, Querying, Updating}
use Rattle.replica.specs.Handlers.{stored, query_rule, update_rule}
use Rattle.tables.specs.Tables.{removed}
use Rattle.state.specs.State.{State, replica_of}
use Rattle.state.specs.Step.{moved, posted}
use Rattle.state.specs.Within.{Within}
use Rattle.state.proofs.WellLaws.{Well}
use Rattle.sc_abd.specs.Algorithm1.{Tsv, Content, Process, Done, Return, max_tsv, assigned, on_query, on_update}
use Rattle.sc_abd.specs.System.{Operation, System, is_open, without, changing, returned_by, gone_on, asks_after, history_after, doing}
use Rattle.sc_abd.specs.Same.{tsv_of, packet_of, SamePhase, SameProcess, Same}
use Rattle.sc_abd.proofs.Packets.{packets-without}
use Rattle.sc_abd.proofs.SameMove.{rows-kept, process-moved, same-moved}

-- ---- the newer of two pairs is the max of the two

tsv-pick : (b : Bool) (x y : Pair) → tsv_of (cond b x y) ≡ cond b (tsv_of x) (tsv_of y)
tsv-pick true x y = refl
tsv-pick false x y = refl

pub tsv-newer : (x y : Pair) → tsv_of (newer x y) ≡ max_tsv (tsv_of x) (tsv_of y)
unfolding newer below
tsv-newer x y = tsv-pick (below x.stamp y.stamp) y x

-- ---- the phase is told by neither the clock nor the store

phase-at : (s : State) (phase : Phase) (q : Process) (asks : Bool) (lt : ℕ) (tvps : ℕ → Tsv) → SamePhase s phase q asks
    → SamePhase s phase
    (record { lt = lt; reading = q.reading; rreg = q.rreg; rid = q.rid; tsv = q.tsv; rval = q.rval; tvps = tvps; responses = q.responses })
    asks
phase-at s Idle q asks lt tvps h = h
phase-at s (Querying row gathered) q asks lt tvps h =
    record { asking = h.asking; reading = h.reading; register = h.register; best-so-far = h.best-so-far }
phase-at s (Updating row sent) q asks lt tvps h =
    record { asking = h.asking; reading = h.reading; pair-sent = h.pair-sent; gives = h.gives; written = h.written }

-- ---- the message at place i is received by p

-- the bench with what p answers, and the system with what p does
abbrev pub bench : State → ℕ → ℕ → Answer → State
bench s i p answer = moved s p answer (removed i s.flight) (s.delivered + 1) s.rows

-- once these have replied
abbrev pub system : System → ℕ → ℕ → List ℕ → Done → System
system a i p had done = doing a p done (without i a.transit) (history_after p (a.asking p) had done a.history)

-- what is asked for stays, and nothing is RETURNed: so does the history
asks-still : (b : Bool) → (b && not b) ≡ false
asks-still true = refl
asks-still false = refl

pub history-stays : (p : ℕ) (asks : Bool) (had : List ℕ) (done : Done) (history : List Operation) → done.return ≡ Return.none
    → asks_after asks done.sends ≡ asks → history_after p asks had done history ≡ history
history-stays p asks had done history none still =
    ap (λ r. cond (is_open r) (goes_on (asks && not (asks_after asks done.sends))) (changing p (returned_by had done) history)) none
    ∙ ap (λ b. goes_on (asks && not b)) still ∙ ap goes_on (asks-still asks)
  where
    goes_on : Bool → List Operation
    goes_on b = cond b (changing p (gone_on had) history) history

-- a query is followed by an update: the outstanding operation goes on
pub history-goes-on : (p : ℕ) (asks : Bool) (had : List ℕ) (done : Done) (history : List Operation) → done.return ≡ Return.none → asks ≡ true
    → asks_after asks done.sends ≡ false → history_after p asks had done history ≡ changing p (gone_on had) history
history-goes-on p asks had done history none asked tells = rw (none, tells, asked) refl

-- something is RETURNed: it is
pub history-returns : (p : ℕ) (asks : Bool) (had : List ℕ) (done : Done) (history : List Operation) → is_open done.return ≡ false
    → history_after p asks had done history ≡ changing p (returned_by had done) history
history-returns p asks had done history some = rw some refl

module _ (s : State) (w : Well s) (a : System) (same : Same s a) (i p : ℕ) (actor : Within p s.n) where
  pub own : SameProcess s p (replica_of s p) (a.processes p) (a.asking p)
  own = same.processes p actor.least actor.most

  pub left : map packet_of (removed i s.flight) ≡ without i a.transit
  left = packets-without i s.flight ∙ ap (without i) same.flight

  -- what is the same of p alone is the same of all, where no operation goes on or is RETURNed
  pub same_received : (answer : Answer) (done : Done) → answer.replica.crashed ≡ (replica_of s p).crashed
      → SameProcess (bench s i p answer) p answer.replica done.process (asks_after (a.asking p) done.sends)
      → map packet_of (posted s p answer.sends) ≡ done.sends → done.return ≡ Return.none → asks_after (a.asking p) done.sends ≡ a.asking p
      → (had : List ℕ) → Same (bench s i p answer) (system a i p had done)
  same_received answer done up now sent none asks had =
      same-moved s w a same p actor answer (removed i s.flight) (s.delivered + 1) s.rows done (without i a.transit)
      (history_after p (a.asking p) had done a.history) up (λ q n. rows-kept s q) now left sent
      (same.history ∙ sym (history-stays p (a.asking p) had done a.history none asks))

  -- p's phase is as it was
  pub still : (answer : Answer) → SameProcess (bench s i p answer) p (replica_of s p) (a.processes p) (a.asking p)
  still answer =
      process-moved s p answer (removed i s.flight) (s.delivered + 1) s.rows p (rows-kept s p) (replica_of s p) (a.processes p) (a.asking p) own

  module _ (m : Message) where
    pub clock-after : max (replica_of s p).clock.0 m.time.0 + 1 ≡ max (a.processes p).lt m.time.0 + 1
    clock-after = ap (λ t. max t m.time.0 + 1) own.clock

    pub same-query : (x : ℕ) → Within x s.m → (had : List ℕ)
        → Same (bench s i p (query_rule (replica_of s p) m.from m.time m.rid x))
        (system a i p had (on_query p (a.processes p) m.from.0 m.time.0 m.rid.0 x))
    unfolding query_rule
    same-query x l had =
        let answer = query_rule (replica_of s p) m.from m.time m.rid x in
        same_received answer (on_query p (a.processes p) m.from.0 m.time.0 m.rid.0 x) refl
        (record {
          clock = clock-after;
          number = own.number;
          store = own.store;
          replies = own.replies;
          waits = own.waits;
          phase = phase-at (bench s i p answer) (replica_of s p).phase (a.processes p) (a.asking p) _ _ (still answer).phase;
        })
        (ap₂ (λ t v. record { from = p; to = m.from.0; content = Content.response t m.rid.0 v } ∷ []) clock-after (own.store x l.least l.most))
        refl refl had

    pub same_update : (x : ℕ) (pair : Pair) → Within x s.m → (had : List ℕ)
        → Same (bench s i p (update_rule (replica_of s p) m.from m.time m.rid x pair))
        (system a i p had (on_update p (a.processes p) m.from.0 m.time.0 m.rid.0 x (tsv_of pair)))
    unfolding update_rule
    same_update x pair l had =
        let answer = update_rule (replica_of s p) m.from m.time m.rid x pair in
        same_received answer (on_update p (a.processes p) m.from.0 m.time.0 m.rid.0 x (tsv_of pair)) refl
        (record {
          clock = clock-after;
          number = own.number;
          store = stores;
          replies = own.replies;
          waits = own.waits;
          phase = phase-at (bench s i p answer) (replica_of s p).phase (a.processes p) (a.asking p) _ _ (still answer).phase;
        })
        (ap (λ t. record { from = p; to = m.from.0; content = Content.ack t m.rid.0 } ∷ []) clock-after)
        refl refl had
      where
        new : Pair
        new = newer (stored (replica_of s p) x) pair

        newest : tsv_of new ≡ max_tsv ((a.processes p).tvps x) (tsv_of pair)
        newest = tsv-newer (stored (replica_of s p) x) pair ∙ ap (λ v. max_tsv v (tsv_of pair)) (own.store x l.least l.most)

        stores : (y : ℕ) → 1 ≤ y → y ≤ s.m → tsv_of (get_or (set (replica_of s p).pairs (x - 1) new) (y - 1) start_pair)
            ≡ assigned (a.processes p).tvps x (max_tsv ((a.processes p).tvps x) (tsv_of pair)) y
        stores y least most =
            elim (ℕ_discrete y x) [
              | yes e ↦
                  rw (
                    e,
                    eq-eqb x x refl,
                    get_or-set_same (replica_of s p).pairs (x - 1) new start_pair
                        (omega (arith, l.least, l.most, w.registers.most, (w.replica p actor).sixteen)),
                  ) newest
              | no n ↦
                  rw (ne_eqb y x n, get_or-set_other (replica_of s p).pairs (x - 1) (y - 1) new start_pair (λ e. n (omega (arith, l.least))))
                  (own.store y least most)
            ]
