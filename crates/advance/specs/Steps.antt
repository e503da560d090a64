-- A plan that is carried out on a state that is laid out in a bench and its two tables gives what `step` says: first for a refusal and for each
-- kind of acceptance, by what the plan says; then event by event.
use Rattle.std.specs.Prelude.{ℕ, ◌+◌, ◌-◌, ◌<◌, ◌≤◌, ◌≡◌, refl, Bool, true, false, cond, List, ◌++◌, eqb, length, set, replicate, Option, Some, None, Result, Ok, Err}
use Rattle.std.proofs.Common.{arith, sym, ap, ◌∙◌, length-append, eqb-true}
use Rattle.std.proofs.lemmas.List.{length-replicate}
use Rattle.std.proofs.Math.Seq.{set_out}
use Rattle.words.specs.declared.Message.{Message}
use Rattle.words.specs.declared.Pid.{Pid}
use Rattle.replica.specs.Answer.{Answer}
use Rattle.replica.specs.declared.Replica.{Replica}
use Rattle.replica.specs.declared.Sends.{Sends}
use Rattle.replica.specs.declared.Sends.TheVariants.{Nothing, Reply, Broadcast}
use Rattle.replica.specs.Numbers.{sent_by}
use Rattle.tables.specs.declared.Row.{Row}
use Rattle.tables.specs.Tables.{empty_message, empty_row, removed, laid_at}
use Rattle.tables.specs.TableLaws.{laid_none}
use Rattle.state.specs.declared.Bench.{Bench}
use Rattle.state.specs.declared.Event.{Event}
use Rattle.state.specs.declared.Event.TheVariants.{Deliver, Lose}
use Rattle.state.specs.State.{State, laid_messages, laid_rows}
use Rattle.state.specs.Step.{Outcome, outcome, posted, moved, without_message}
use Rattle.state.specs.Tabled.{bench_of}
use Rattle.state.proofs.KeepsMoved.{posted-length}
use Rattle.decide.specs.declared.Plan.{Plan}
use Rattle.decide.specs.Plan.{accepted_plan, posted_by, settled}
use Rattle.advance.specs.Good.{Good}
use Rattle.advance.specs.ListLaws.{laid, laid_more, laid-less, length-less}
use Rattle.advance.specs.Parts.{carried_bench, carried_messages, carried_rows, count_of, left_of, posted_at, taken_off, Takes, Posts}

-- the plan of an event can be carried out on the state, and gives the next one
pub record Carried (plan : Plan) (event : Event) (s next : State) : Type 0 where
  pub bench : carried_bench plan event (bench_of s) ≡ bench_of next
  pub messages : carried_messages plan (length s.flight) (laid_messages s) ≡ laid_messages next
  pub rows : carried_rows plan.row (laid_rows s) ≡ laid_rows next
  pub takes : Takes plan.taken (length s.flight)
  pub posts : Posts (left_of plan.taken (length s.flight)) plan.posted 512

-- so it does, or it is refused by the number of this outcome, which leaves the state as it was
abbrev pub Done : Result Plan ℕ → Event → State → Outcome → Type 0
Done (Ok plan) event s o = (o.refusal ≡ 0) × Carried plan event s o.state
Done (Err number) event s o = (o.refusal ≡ number) × (o.state ≡ s)

-- an event is refused, or it is not
pub by_number : (s : State) (event : Event) (number : ℕ) (plan : Plan) (next : State) → (number ≡ 0 → Carried plan event s next) → Done (settled number plan) event s (outcome s number next)
by_number s event number plan next accepts = go (eqb number 0) refl
  where
    go : (u : Bool) → eqb number 0 ≡ u → Done (cond u (Ok plan) (Err number)) event s (record { refusal = number; state = cond u next s })
    go true e = let z : number ≡ 0 = eqb-true number 0 e in (z, accepts z)
    go false e = (refl, refl)

-- nothing is written past the end
pub past-rows : (s : State) → Good s → (row : Row) → set (laid_rows s) 1024 row ≡ laid_rows s
past-rows s g row = set_out (laid_rows s) 1024 row (omega (arith, length-append s.rows (replicate (1024 - length s.rows) empty_row), length-replicate (1024 - length s.rows) empty_row, g.rows))

-- ---- what is sent

-- a message is sent only to a process
abbrev pub Mild : Sends → Type 0
Mild Nothing = Unit {0}
Mild (Reply to letter) = to.0 ≤ 7
Mild (Broadcast letter) = Unit {0}

count_is : (s : State) (p : Pid) (sends : Sends) → count_of (posted_by s p sends) ≡ sent_by s.n sends
count_is s p Nothing = refl
count_is s p (Reply to letter) = refl
count_is s p (Broadcast letter) = refl

posted_is : (s : State) (p : Pid) (from : ℕ) (sends : Sends) (messages : List Message) → posted_at from (posted_by s p sends) messages ≡ laid_at from (posted s p.0 sends) messages
posted_is s p from Nothing messages = sym (laid_none from messages)
posted_is s p from (Reply to letter) messages = refl
posted_is s p from (Broadcast letter) messages = refl

posts_is : (s : State) → Good s → (p : Pid) (from : ℕ) (sends : Sends) → Mild sends → from + sent_by s.n sends ≤ 512 → Posts from (posted_by s p sends) 512
posts_is s g p from Nothing mild room = tt
posts_is s g p from (Reply to letter) mild room = (room, omega (arith, g.sent), omega (arith, mild))
posts_is s g p from (Broadcast letter) mild room = (room, omega (arith, g.sent, g.few), omega (arith, g.few))

-- ---- an acceptance

-- the bench after an accepted event, by its counts
abbrev pub after : State → ℕ → ℕ → ℕ → ℕ → ℕ → List Replica → Bench
after s sent delivered lost flight rows replicas =
    record {
      n = s.n;
      m = s.m;
      accepted = s.accepted + 1;
      sent = sent;
      delivered = delivered;
      lost = lost;
      flight = flight;
      rows = rows;
      replicas = replicas;
    }

after_is : (s : State) (sent sent' delivered lost flight flight' rows rows' : ℕ) (replicas : List Replica)
    → sent ≡ sent' → flight ≡ flight' → rows ≡ rows' → after s sent delivered lost flight rows replicas ≡ after s sent' delivered lost flight' rows' replicas
after_is s sent sent' delivered lost flight flight' rows rows' replicas a b c = rw (a, b, c)

-- the message at i is taken off
off-is : (s : State) → Good s → (i : ℕ) → i < length s.flight → (ys : List Message)
    → laid_at (length s.flight - 1) ys (taken_off (Some i) (length s.flight) (laid_messages s)) ≡ laid 512 empty_message (removed i s.flight ++ ys)
off-is s g i l ys =
    ap (λ (xs : List Message). laid_at (length s.flight - 1) ys xs) (laid-less 512 empty_message s.flight i l g.flight)
    ∙ ap (λ (n : ℕ). laid_at n ys (laid 512 empty_message (removed i s.flight))) (sym (length-less i s.flight l))
    ∙ laid_more 512 empty_message (removed i s.flight) ys

module _ (s : State) (g : Good s) (p : Pid) (answer : Answer) (mild : Mild answer.sends) (row : Option (ℕ × Row)) (rows : List Row)
    (laid-rows : carried_rows row (laid_rows s) ≡ laid 1024 empty_row rows) where
  abbrev plan : Option ℕ → Plan
  plan taken = accepted_plan s p taken answer row

  -- no message is taken off
  pub kept-done : (event : Event) → length s.flight + sent_by s.n answer.sends ≤ 512 → (count : ℕ) → count ≡ length rows
      → carried_bench (plan None) event (bench_of s) ≡ after s (s.sent + count_of (posted_by s p answer.sends)) s.delivered s.lost (length s.flight + count_of (posted_by s p answer.sends)) count (set s.replicas (p.0 - 1) answer.replica)
      → Carried (plan None) event s (moved s p.0 answer s.flight s.delivered rows)
  kept-done event room count counts tally =
      record {
        bench =
            tally ∙ after_is s (s.sent + count_of (posted_by s p answer.sends)) (s.sent + sent_by s.n answer.sends) s.delivered s.lost
            (length s.flight + count_of (posted_by s p answer.sends)) (length (s.flight ++ posted s p.0 answer.sends)) count (length rows) (set s.replicas (p.0 - 1) answer.replica)
            (ap (λ (k : ℕ). s.sent + k) (count_is s p answer.sends))
            (omega (arith, count_is s p answer.sends, length-append s.flight (posted s p.0 answer.sends), posted-length s p.0 answer.sends)) counts;
        messages = posted_is s p (length s.flight) answer.sends (laid_messages s) ∙ laid_more 512 empty_message s.flight (posted s p.0 answer.sends);
        rows = laid-rows;
        takes = tt;
        posts = posts_is s g p (length s.flight) answer.sends mild room;
      }

  -- the message at i is taken off
  pub taken-done : (k i : ℕ) → i < length s.flight → length s.flight - 1 + sent_by s.n answer.sends ≤ 512 → length rows ≡ length s.rows
      → Carried (plan (Some i)) (Deliver k) s (moved s p.0 answer (removed i s.flight) (s.delivered + 1) rows)
  taken-done k i l room counts =
      record {
        bench =
            after_is s (s.sent + count_of (posted_by s p answer.sends)) (s.sent + sent_by s.n answer.sends) (s.delivered + 1) s.lost
            (length s.flight - 1 + count_of (posted_by s p answer.sends)) (length (removed i s.flight ++ posted s p.0 answer.sends)) (length s.rows) (length rows) (set s.replicas (p.0 - 1) answer.replica)
            (ap (λ (k : ℕ). s.sent + k) (count_is s p answer.sends))
            (omega (arith, count_is s p answer.sends, length-append (removed i s.flight) (posted s p.0 answer.sends), length-less i s.flight l, posted-length s p.0 answer.sends)) (sym counts);
        messages = posted_is s p (length s.flight - 1) answer.sends (taken_off (Some i) (length s.flight) (laid_messages s)) ∙ off-is s g i l (posted s p.0 answer.sends);
        rows = laid-rows;
        takes = l;
        posts = posts_is s g p (length s.flight - 1) answer.sends mild room;
      }

-- a message is lost
pub lost-done : (s : State) → Good s → (k i : ℕ) → i < length s.flight → Carried (record { replica = None; taken = Some i; posted = None; row = None }) (Lose k) s (without_message s i)
lost-done s g k i l =
    record {
      bench = after_is s (s.sent + 0) s.sent s.delivered (s.lost + 1) (length s.flight - 1 + 0) (length (removed i s.flight)) (length s.rows) (length s.rows) s.replicas (omega arith) (omega (arith, length-less i s.flight l)) refl;
      messages = laid-less 512 empty_message s.flight i l g.flight;
      rows = refl;
      takes = l;
      posts = tt;
    }
