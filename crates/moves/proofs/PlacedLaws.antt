-- Every move keeps what is placed, so every state reached has it, the limit of events set aside or not; and every well-formed state has it.
use Rattle.std.specs.Prelude.{ℕ, zero, suc, ◌+◌, ◌-◌, ◌≤◌, ◌<◌, ◌≡◌, refl, true, List, [], ◌∷◌, length, Some}
use Rattle.std.proofs.Common.{sym, ap, subst, ◌∙◌, arith, length-set}
use Rattle.std.proofs.Math.Decide.{ℕ_discrete}
use Rattle.std.proofs.Math.Seq.{take-length}
use Rattle.words.specs.declared.Body.{Body}
use Rattle.words.specs.declared.Body.TheVariants.{Response, Ack}
use Rattle.words.specs.declared.Message.{Message}
use Rattle.words.specs.Quorum.{counted}
use Rattle.words.specs.QuorumLaws.{Inside, inside-empty, joined-inside}
use Rattle.words.specs.Ranges.{within}
use Rattle.words.specs.RangeLaws.{and_left, and_right}
use Rattle.words.specs.Stamps.{newer}
use Rattle.replica.specs.declared.Ended.TheVariants.{Pending}
use Rattle.replica.specs.declared.Phase.{Phase}
use Rattle.replica.specs.declared.Phase.TheVariants.{Idle}
use Rattle.replica.specs.declared.Replica.{Replica}
use Rattle.replica.specs.declared.Sends.{Sends}
use Rattle.replica.specs.declared.Sends.TheVariants.{Nothing, Reply, Broadcast}
use Rattle.replica.specs.Handlers.{stored}
use Rattle.replica.specs.Answer.{accepted}
use Rattle.tables.specs.declared.Row.{Row}
use Rattle.tables.specs.Tables.{empty_message, seek, removed, copies, following}
use Rattle.tables.specs.TableLaws.{seek-at}
use Rattle.state.specs.declared.Event.{Event}
use Rattle.state.specs.State.{State, replica_of, row_of, fresh, fresh_replica}
use Rattle.state.specs.Step.{moved, posted}
use Rattle.state.specs.Accepted.{message_at, recipient_at}
use Rattle.state.specs.Within.{Within}
use Rattle.state.proofs.PairLaws.{within-ok}
use Rattle.state.proofs.WellLaws.{Well, PhaseOk, ReplicaOk, message-ok}
use Rattle.state.specs.WellFormed.{every, message_fits}
use Rattle.moves.specs.Lists.{All, all_append, all-removed, all-at}
use Rattle.moves.specs.Places.{own-after, other_after, fresh-replica}
use Rattle.state.specs.Needed.{needed}
use Rattle.state.proofs.NeededLaws.{empty-few, needed-same}
use Rattle.moves.specs.Move.{Begins, beginning, asking, begun, Delivers, repliers_then, replying, telling, arrived, down_now, Move}
use Rattle.moves.specs.Move.Move.{reads, writes, responds, stores, discards, counts, chooses, gathers, completes, crashes, loses}
use Rattle.moves.specs.Free.{FreelyReached}
use Rattle.moves.proofs.FreeLaws.{freely-kept}
use Rattle.moves.specs.Placed.{Ends, SetFits, Placed}

-- ---- a message that was found

pub found_inside : (s : State) (k i : ℕ) → seek k 0 s.flight ≡ Some i → i < length s.flight
found_inside s k i f = (seek-at k (length s.flight) i s.flight (sym (ap (seek k 0) (take-length s.flight) ∙ f))).0

pub ends_at : (s : State) → Placed s → (k i : ℕ) → seek k 0 s.flight ≡ Some i → Ends s.n (message_at s i)
ends_at s w k i f = all-at (Ends s.n) s.flight empty_message i (found_inside s k i f) w.messages

-- ---- what is sent

abbrev Addressed : ℕ → Sends → Type 0
Addressed n Nothing = Unit {0}
Addressed n (Reply to letter) = Within to.0 n
Addressed n (Broadcast letter) = Unit {0}

copies-ends : (n : ℕ) (m : Message) (count : ℕ) → Within m.from.0 n → 1 ≤ m.to.0 → m.to.0 + count ≤ n + 1 → All (Ends n) (copies m count)
copies-ends n m zero a l h = tt
copies-ends n m (suc count) a l h =
    (record { sender = a; recipient = record { least = l; most = omega arith } }, copies-ends n (following m) count a (omega arith) (omega arith))

posted-ends : (s : State) (p : ℕ) → Within p s.n → (sends : Sends) → Addressed s.n sends → All (Ends s.n) (posted s p sends)
posted-ends s p a Nothing h = tt
posted-ends s p a (Reply to letter) h = (record { sender = a; recipient = h }, tt)
posted-ends s p a (Broadcast letter) h = copies-ends s.n _ s.n a (omega arith) (omega arith)

-- ---- sets

-- an empty set, of a process that waits or is idle
none-fits : (s : State) (r : Replica) → r.repliers ≡ 0 → SetFits s r
none-fits s r e =
    record {
      inside = rw e (inside-empty s.n);
      few = empty-few s r.phase r.repliers e;
      empty = λ f. e;
    }

-- in another state of the run
fits-same : (s t : State) → t.n ≡ s.n → (r : Replica) → SetFits s r → SetFits t r
fits-same s t e r f =
    record {
      inside = subst (λ n. Inside n r.repliers) (sym e) f.inside;
      few = rw (needed-same s t e r.phase) f.few;
      empty = f.empty;
    }

-- ---- one turn

module _ (s : State) (w : Placed s) (p : ℕ) (actor : Within p s.n) (r : Replica) (sends : Sends) (flight : List Message) (delivered : ℕ) (rows : List Row) where
  turned : Addressed s.n sends → All (Ends s.n) flight → SetFits s r → Placed (moved s p (accepted r sends Pending) flight delivered rows)
  turned to left set =
      record {
        processes = w.processes;
        seven = length-set s.replicas (p - 1) r ∙ w.seven;
        messages = all_append (Ends s.n) flight (posted s p sends) left (posted-ends s p actor sends to);
        sets = λ q a. elim (ℕ_discrete q p) [
          | yes e ↦ rw (e, own-after s w.seven p actor.least (omega (arith, actor.most, w.processes.most)) r) (fits-same s _ refl r set)
          | no n ↦
              rw (other_after s w.seven p actor.least (omega (arith, actor.most, w.processes.most)) r q a.least n)
              (fits-same s _ refl (replica_of s q) (w.sets q a))
        ];
      }

-- ---- every move

begun-placed : (s : State) → Placed s → (p x : ℕ) → Begins s p x → (phase : Phase) (request : Body) (row : Row) → Placed (begun s p phase request row)
begun-placed s w p x b phase request row =
    turned s w p b.actor (beginning s p phase) (asking s p request) s.flight s.delivered _ tt w.messages
    (none-fits s (beginning s p phase) ((w.sets p b.actor).empty b.idle))

module _ (s : State) (w : Placed s) (k i count : ℕ) (d : Delivers s k i count) where
  ends : Ends s.n (message_at s i)
  ends = ends_at s w k i d.found

  received-placed : (r : Replica) (sends : Sends) (rows : List Row) → Addressed s.n sends → SetFits s r → Placed (arrived s i r sends rows)
  received-placed r sends rows to set =
      turned s w (message_at s i).to.0 ends.recipient r sends (removed i s.flight) (s.delivered + 1) rows to
      (all-removed (Ends s.n) i s.flight w.messages) set

  -- its set is as it was, and its phase
  same-fits : (r : Replica) → r.repliers ≡ (recipient_at s i).repliers → r.phase ≡ (recipient_at s i).phase → SetFits s r
  same-fits r e f =
      let old = w.sets (message_at s i).to.0 ends.recipient in
      record { inside = rw e old.inside; few = rw (e, f) old.few; empty = λ g. e ∙ old.empty (sym f ∙ g) }

  -- the sender is counted, and more are needed
  counted-fits : (r : Replica) → r.repliers ≡ repliers_then s i → counted (repliers_then s i) < needed s r.phase → (r.phase ≡ Idle → ⊥) → SetFits s r
  counted-fits r e l n =
      let old = w.sets (message_at s i).to.0 ends.recipient in
      record {
        inside =
            rw e
            (joined-inside s.n (recipient_at s i).repliers (message_at s i).from.0 ends.sender.least ends.sender.most
            w.processes.most old.inside);
        few = rw e l;
        empty = λ f. absurd (n f);
      }

pub move-placed : {s t : State} {e : Event} → Placed s → Move s e t → Placed t
move-placed {s} w (reads p x b) = begun-placed s w p.0 x b _ _ _
move-placed {s} w (writes p x value b) = begun-placed s w p.0 x b _ _ _
move-placed {s} w (responds k i x d e) =
    received-placed s w k i 1 d _ (replying s i (Response (stored (recipient_at s i) x))) _ (ends s w k i 1 d).sender (same-fits s w k i 1 d _ refl refl)
move-placed {s} w (stores k i x pair d e) = received-placed s w k i 1 d _ (replying s i Ack) _ (ends s w k i 1 d).sender (same-fits s w k i 1 d _ refl refl)
move-placed {s} w (discards k i d c) = received-placed s w k i 0 d _ Nothing _ tt (same-fits s w k i 0 d _ refl refl)
move-placed {s} w (counts k i row gathered pair d c l) =
    received-placed s w k i 0 d _ Nothing _ tt (counted-fits s w k i 0 d _ refl l (λ f. let z : ◌≡◌ {A = ℕ} 0 1 = cc in omega arith))
move-placed {s} w (chooses k i row gathered pair d c l) = received-placed s w k i s.n d _ (telling s i (row_of s row).register (newer gathered.best pair)) _ tt (none-fits s _ refl)
move-placed {s} w (gathers k i row sent d c l) =
    received-placed s w k i 0 d _ Nothing _ tt (counted-fits s w k i 0 d _ refl l (λ f. let z : ◌≡◌ {A = ℕ} 0 1 = cc in omega arith))
move-placed {s} w (completes k i row sent d c l) = received-placed s w k i 0 d _ Nothing _ tt (none-fits s _ refl)
move-placed {s} w (crashes p a up) =
    let old = w.sets p.0 a in
    turned s w p.0 a (down_now (replica_of s p.0)) Nothing s.flight s.delivered s.rows tt w.messages
    (record { inside = old.inside; few = old.few; empty = old.empty })
move-placed {s} w (loses k i f down) =
    record {
      processes = w.processes;
      seven = w.seven;
      messages = all-removed (Ends s.n) i s.flight w.messages;
      sets = λ q a. fits-same s _ refl (replica_of s q) (w.sets q a);
    }

-- ---- the states reached

fresh-placed : (n m : ℕ) → within n 7 ≡ true → Placed (fresh n m)
fresh-placed n m e =
    record {
      processes = within-ok n 7 e;
      seven = refl;
      messages = tt;
      sets = λ p a. rw (fresh-replica n m p) (none-fits (fresh n m) fresh_replica refl);
    }

pub freely-placed : {s : State} → FreelyReached s → Placed s
freely-placed = freely-kept Placed (λ n m e f. fresh-placed n m e) (λ s e t r w move. move-placed w move)

-- ---- a well-formed state

pub well-placed : (s : State) → Well s → Placed s
well-placed s w =
    record {
      processes = w.processes;
      seven = w.seven;
      messages = all-ends s.flight w.messages;
      sets = λ p a. fits (replica_of s p) (w.replica p a);
    }
  where
    all-ends : (xs : List Message) → every (message_fits s) xs ≡ true → All (Ends s.n) xs
    all-ends [] e = tt
    all-ends (m ∷ xs) e =
        let ok = message-ok s m (and_left (message_fits s m) (every (message_fits s) xs) e) in
        (record { sender = ok.sender; recipient = ok.recipient }, all-ends xs (and_right (message_fits s m) (every (message_fits s) xs) e))

    fits : {p : ℕ} (r : Replica) → ReplicaOk s p r → SetFits s r
    fits {p} r o =
        record { inside = o.inside; few = o.few; empty = λ f. (subst (λ phase. PhaseOk s p phase r.repliers) f o.phase).1 }
