-- One turn of one process, as the exchanges see it: it goes on to its next number, or stays at its number and phase.
use Rattle.std.specs.Prelude.{ℕ, ◌+◌, ◌≤◌, ◌≡◌, refl, ◌≢◌, false, List}
use Rattle.std.proofs.Common.{sym, ap, subst, ◌∙◌, arith}
use Rattle.std.proofs.Math.Decide.{ℕ_discrete}
use Rattle.words.specs.declared.Message.{Message}
use Rattle.words.specs.Quorum.{member}
use Rattle.replica.specs.declared.Ended.TheVariants.{Pending}
use Rattle.replica.specs.declared.Letter.{Letter}
use Rattle.replica.specs.declared.Phase.TheVariants.{Idle}
use Rattle.replica.specs.declared.Replica.{Replica}
use Rattle.replica.specs.declared.Sends.{Sends}
use Rattle.replica.specs.declared.Sends.TheVariants.{Nothing, Reply, Broadcast}
use Rattle.replica.specs.Answer.{accepted}
use Rattle.tables.specs.declared.Row.{Row}
use Rattle.tables.specs.Tables.{copies}
use Rattle.state.specs.State.{State, replica_of}
use Rattle.state.specs.Step.{moved, posted, message_of}
use Rattle.state.specs.Within.{Within}
use Rattle.moves.specs.Effect.{GoesOn, Effect, After}
use Rattle.moves.specs.Effect.Effect.{kept, asked, ended}
use Rattle.moves.specs.Lists.{one, All, all_map, all_append, all-copies, count_if, count-append, count_none}
use Rattle.moves.specs.OfLaws.{of-asker, of-rid, of_none, request-asker, copies-other, copies-once, copies-own, member-empty}
use Rattle.moves.specs.Placed.{Placed}
use Rattle.moves.specs.Places.{own-after, other_after}
use Rattle.moves.specs.RequestNumbers.{Timely, is_of, exchanged, Known}
use Rattle.moves.specs.Stages.{is_reply, asker, stage_of, stage_for}

-- the messages that a turn leaves in flight: all of them, or all but one that was for the process itself
pub record Left (s : State) (a : ℕ) (flight : List Message) : Type 0 where
  pub known : All (Known s) flight
  pub others : (q j k : ℕ) → q ≢ a → count_if (is_of q j k) flight ≡ count_if (is_of q j k) s.flight

-- what a process sends that goes on to its next number: nothing, and is idle, or a request of that number and phase to all
abbrev pub Next : Replica → Sends → Type 0
Next r Nothing = r.phase ≡ Idle
Next r (Reply to letter) = ⊥
Next r (Broadcast letter) = (is_reply letter.body ≡ false) × (letter.rid.0 ≡ r.rid.0) × (stage_of r.phase ≡ stage_for letter.body)

module _ (s : State) (w : Placed s) (a : ℕ) (actor : Within a s.n) (r : Replica) (sends : Sends) (flight : List Message) (delivered : ℕ) (rows : List Row) where
  abbrev pub turned : State
  turned = moved s a (accepted r sends Pending) flight delivered rows

  own : replica_of turned a ≡ r
  own = own-after s w.seven a actor.least (omega (arith, actor.most, w.processes.most)) r

  other : (q : ℕ) → 1 ≤ q → q ≢ a → replica_of turned q ≡ replica_of s q
  other q l n = other_after s w.seven a actor.least (omega (arith, actor.most, w.processes.most)) r q l n

  -- nobody comes back up
  down : (r.crashed ≡ false → (replica_of s a).crashed ≡ false) → (p : ℕ) → 1 ≤ p → (replica_of turned p).crashed ≡ false → (replica_of s p).crashed ≡ false
  down f p l e =
      elim (ℕ_discrete p a) [
        | yes g ↦ rw g (f (ap (λ (r : Replica). r.crashed) (sym own) ∙ rw g at e))
        | no n ↦ ap (λ (r : Replica). r.crashed) (sym (other p l n)) ∙ e
      ]

  -- ---- messages

  known-after : ((m : Message) → Timely (replica_of s a) m → Timely r m) → (m : Message) → Known s m → Known turned m
  known-after goes m h =
      elim (ℕ_discrete (asker m) a) [
        | yes e ↦ (h.0, subst (λ q. Timely (replica_of turned q) m) (sym e) (rw own (goes m (rw e at h.1))))
        | no n ↦ (h.0, rw (other (asker m) h.0 n) h.1)
      ]

  -- a request of a's own number and phase
  abbrev Request : Message → Type 0
  Request m = (is_reply m.body ≡ false) × (m.from.0 ≡ a) × (m.rid.0 ≡ r.rid.0) × (stage_of r.phase ≡ stage_for m.body)

  request-known : (m : Message) → Request m → Known turned m
  request-known m h =
      let mine : asker m ≡ a = request-asker m h.0 ∙ h.1 in
      let timely : Timely r m = record { reached = omega (arith, h.2); present = λ e. h.3 } in
      (omega (arith, actor.least), subst (λ q. Timely (replica_of turned q) m) (sym mine) (rw own timely))

  -- ---- an exchange that is as it was

  same : (q j : ℕ) (r' : Replica) → replica_of turned q ≡ r' → r'.rid.0 ≡ (replica_of s q).rid.0 → stage_of r'.phase ≡ stage_of (replica_of s q).phase
      → count_if (is_of q j (replica_of s q).rid.0) flight + count_if (is_of q j (replica_of s q).rid.0) (posted s a sends) + one (member r'.repliers j)
      ≡ exchanged s q j
      → Effect s turned q j
  same q j r' e f g h = kept (ap (λ (r : Replica). r.rid.0) e ∙ f, ap (λ (r : Replica). stage_of r.phase) e ∙ g) (rw (e, f, count-append) h)

  -- the turn touches no exchange of another process
  abbrev Apart : Type 0
  Apart = (q j k : ℕ) → q ≢ a → count_if (is_of q j k) flight + count_if (is_of q j k) (posted s a sends) ≡ count_if (is_of q j k) s.flight

  each : ((j : ℕ) → Effect s turned a j) → Apart → (p j : ℕ) → 1 ≤ p → Effect s turned p j
  each f g p j l =
      elim (ℕ_discrete p a) [
        | yes e ↦ subst (λ q. Effect s turned q j) (sym e) (f j)
        | no n ↦ same p j (replica_of s p) (other p l n) refl refl (omega (arith, g p j (replica_of s p).rid.0 n))
      ]

  -- ---- a goes on to its next number, with an empty set

  module _ (left : Left s a flight) (next : r.rid.0 ≡ (replica_of s a).rid.0 + 1) (empty : r.repliers ≡ 0) where
    advances : (m : Message) → Timely (replica_of s a) m → Timely r m
    advances m h = record { reached = omega (arith, h.reached); present = λ g. absurd (omega (arith, h.reached)) }

    -- no message in flight has the next number yet
    none_yet : (j : ℕ) → count_if (is_of a j r.rid.0) flight ≡ 0
    none_yet j = count_none _ flight (all_map (Known s) _ unborn flight left.known)
      where
        unborn : (m : Message) → Known s m → is_of a j r.rid.0 m ≡ false
        unborn m h =
            of_none a j _ m λ o.
            let mine : Timely (replica_of s a) m = rw (of-asker a j _ m o) at h.1 in
            omega (arith, mine.reached, of-rid a j _ m o)

    -- so only what is sent counts
    own-next : (j : ℕ) → exchanged turned a j ≡ count_if (is_of a j r.rid.0) (posted s a sends)
    own-next j =
        let none = none_yet j in
        let out : one (member 0 j) ≡ 0 = ap one (member-empty j) in
        rw (own, count-append, empty) (omega arith)

    pub goes_on : (r.crashed ≡ false → (replica_of s a).crashed ≡ false) → Next r sends → After s turned
    goes_on up ok =
        record {
          processes = refl;
          down = down up;
          timely = all_append _ flight (posted s a sends) (all_map _ _ (known-after advances) flight left.known) (sent sends ok);
          effect = each
              (λ j. effect sends ok (own-next j))
              (λ q j k n. let x = left.others q j k n in let y = of_others sends ok q j k n in omega arith);
        }
      where
        on : GoesOn s turned a
        on = ap (λ (r : Replica). r.rid.0) own ∙ next

        first : Letter → Message
        first letter = message_of (s.sent + 1) a 1 letter

        sent : (sends : Sends) → Next r sends → All (Known turned) (posted s a sends)
        sent Nothing ok = tt
        sent (Reply to letter) ok = absurd ok
        sent (Broadcast letter) ok =
            all_map Request (Known turned) request-known (copies (first letter) s.n)
            (all-copies Request (λ m h. h) (first letter) s.n (ok.0, refl, ok.1, ok.2))

        of_others : (sends : Sends) → Next r sends → (q j k : ℕ) → q ≢ a → count_if (is_of q j k) (posted s a sends) ≡ 0
        of_others Nothing ok q j k n = refl
        of_others (Reply to letter) ok q j k n = absurd ok
        of_others (Broadcast letter) ok q j k n = copies-other q j k (first letter) s.n ok.0 (λ e. n (sym e))

        effect : {j : ℕ} (sends : Sends) → Next r sends → exchanged turned a j ≡ count_if (is_of a j r.rid.0) (posted s a sends) → Effect s turned a j
        effect Nothing ok e = ended on (ap (λ (r : Replica). r.phase) own ∙ ok) e
        effect (Reply to letter) ok e = absurd ok
        effect {j} (Broadcast letter) ok e =
            asked on
            (let x = copies-once a j r.rid.0 (first letter) s.n ok.0 in omega arith)
            (λ h. e ∙ copies-own a j r.rid.0 (first letter) s.n ok.0 refl ok.1 h.least (omega (arith, h.most)))

  -- ---- a stays at its number and phase

  module _ (number : r.rid.0 ≡ (replica_of s a).rid.0) (stage : stage_of r.phase ≡ stage_of (replica_of s a).phase) where
    stays : (m : Message) → Timely (replica_of s a) m → Timely r m
    stays m h = record { reached = omega (arith, h.reached); present = λ g. stage ∙ h.present (g ∙ number) }

    pub stays_on : (r.crashed ≡ false → (replica_of s a).crashed ≡ false) → All (Known s) flight
        → (((m : Message) → Known s m → Known turned m) → All (Known turned) (posted s a sends))
        → ((j : ℕ) → count_if (is_of a j (replica_of s a).rid.0) flight + count_if (is_of a j (replica_of s a).rid.0) (posted s a sends)
        + one (member r.repliers j) ≡ exchanged s a j)
        → Apart → After s turned
    stays_on up old new mine theirs =
        record {
          processes = refl;
          down = down up;
          timely = all_append _ flight (posted s a sends) (all_map _ _ (known-after stays) flight old) (new (known-after stays));
          effect = each (λ j. same a j r own number stage (mine j)) theirs;
        }
