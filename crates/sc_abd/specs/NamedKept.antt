-- What every event keeps of who was counted: whoever was counted for a row in a phase is named by the row, or is in the set of a process that waits for the
-- row in that phase; and nobody else is. Here, by what becomes of the process that takes its step, and of the rows.
use Rattle.std.specs.Prelude.{ℕ, ◌+◌, ◌-◌, ◌≤◌, ◌<◌, ◌≡◌, refl, ◌≢◌, ◌⊎◌, Bool, true, false, List, [], ◌∷◌, ◌++◌, length, get_or, set, Some}
use Rattle.std.proofs.Common.{sym, ap, subst, ◌∙◌, inl, inr, arith, length-append, get_or-set_same, get_or-set_other}
use Rattle.std.proofs.lemmas.Bool.{false≢true}
use Rattle.std.proofs.Math.Decide.{ℕ_discrete, dec_lt}
use Rattle.std.proofs.Math.ListN.{get_or-append, get_or-eq_default}
use Rattle.std.proofs.Math.Seq.{get_or-append_seam}
use Rattle.words.specs.declared.Message.{Message}
use Rattle.words.specs.Quorum.{member}
use Rattle.words.specs.QuorumLaws.{joined-has, joined_keeps, joined-only}
use Rattle.replica.specs.Answer.{Answer}
use Rattle.replica.specs.declared.Phase.TheVariants.{Idle}
use Rattle.replica.specs.declared.Replica.{Replica}
use Rattle.replica.specs.Numbers.{pointed}
use Rattle.tables.specs.declared.Row.{Row}
use Rattle.tables.specs.Tables.{empty_row, seek, removed}
use Rattle.state.specs.declared.Event.{Event}
use Rattle.state.specs.declared.Event.TheVariants.{Read, Write, Deliver, Crash, Lose}
use Rattle.state.specs.State.{State, replica_of, row_of}
use Rattle.state.specs.Step.{moved}
use Rattle.state.specs.Accepted.{message_at, recipient_at}
use Rattle.state.specs.Within.{Within}
use Rattle.moves.specs.Move.{repliers_then}
use Rattle.moves.specs.OfLaws.{member-empty}
use Rattle.moves.specs.Places.{own-after, other_after}
use Rattle.moves.specs.Stages.{Stage, is_reply, stage_of, stage_for}
use Rattle.sc_abd.specs.Named.{CountsFor, named}

-- ---- what is kept

-- a replica that waits for this row in this phase, and has counted j
pub record Waiting (r : Replica) (row j : ℕ) (stage : Stage) : Type 0 where
  pub row_is : pointed r.phase ≡ row
  pub stage_is : stage_of r.phase ≡ stage
  pub counted : member r.repliers j ≡ true

-- that of some process
pub record Waited (s : State) (row j : ℕ) (stage : Stage) : Type 0 where
  pub process : ℕ
  pub within-n : Within process s.n
  pub waiting : Waiting (replica_of s process) row j stage

-- j is known to have replied: the row names it, or a process has counted it
abbrev pub Known : State → ℕ → ℕ → Stage → Type 0
Known s row j stage = (member (named (row_of s row) stage) j ≡ true) ⊎ Waited s row j stage

abbrev pub Counts : State → Event → ℕ → ℕ → Stage → Type 0
Counts s e row j stage = CountsFor row j stage (record { before = s; event = e })

-- an event makes known those whom it counts
pub record Learns (s : State) (e : Event) (t : State) : Type 0 where
  pub old : (row j : ℕ) (stage : Stage) → 1 ≤ row → Known s row j stage → Known t row j stage
  pub new : (row j : ℕ) (stage : Stage) → 1 ≤ row → Counts s e row j stage → Known t row j stage
  pub only : (row j : ℕ) (stage : Stage) → 1 ≤ row → Known t row j stage → Known s row j stage ⊎ Counts s e row j stage

pub none_in : {A : Type 0} (set j : ℕ) → set ≡ 0 → member set j ≡ true → A
none_in set j e h = absurd (false≢true (sym (member-empty j) ∙ ap (λ x. member x j) (sym e) ∙ h))

-- nothing is counted where nothing is delivered
abbrev pub is_delivery : Event → Bool
is_delivery (Read p x) = false
is_delivery (Write p x value) = false
is_delivery (Deliver k) = true
is_delivery (Crash p) = false
is_delivery (Lose k) = false

pub not-delivered : (s : State) (e : Event) → is_delivery e ≡ false → (row j : ℕ) (stage : Stage) → Counts s e row j stage → ⊥
not-delivered s e other row j stage c = false≢true (sym other ∙ ap is_delivery c.event)

-- the message that is counted is the one that is delivered
pub counts-place : (s : State) (k i row j : ℕ) (stage : Stage) → seek k 0 s.flight ≡ Some i → (c : Counts s (Deliver k) row j stage) → c.place ≡ i
counts-place s k i row j stage found c =
    let event = c.event in
    let same : k ≡ c.number = cc in
    let here : seek k 0 s.flight ≡ Some c.place = ap (λ x. seek x 0 s.flight) same ∙ c.found in
    cc

-- ---- process p becomes another replica, and these are the rows

module _ (s : State) (seven : length s.replicas ≡ 7) (few : s.n ≤ 7) (e : Event) (p : ℕ) (actor : Within p s.n) (answer : Answer)
    (flight : List Message) (delivered : ℕ) (rows : List Row) where
  abbrev next : State
  next = moved s p answer flight delivered rows

  own : replica_of next p ≡ answer.replica
  own = own-after s seven p actor.least (omega (arith, actor.most)) answer.replica

  other : (q : ℕ) → Within q s.n → q ≢ p → replica_of next q ≡ replica_of s q
  other q l n = other_after s seven p actor.least (omega (arith, actor.most)) answer.replica q l.least n

  own-known : (row j : ℕ) (stage : Stage) → Waiting answer.replica row j stage → Known next row j stage
  own-known row j stage w = inr (record { process = p; within-n = actor; waiting = subst (λ r. Waiting r row j stage) (sym own) w })

  moved-learns : ((row j : ℕ) (stage : Stage) → 1 ≤ row → member (named (row_of s row) stage) j ≡ true → Known next row j stage)
      → ((row j : ℕ) (stage : Stage) → 1 ≤ row → Waiting (replica_of s p) row j stage → Known next row j stage)
      → ((row j : ℕ) (stage : Stage) → 1 ≤ row → Counts s e row j stage → Known next row j stage)
      → ((row j : ℕ) (stage : Stage) → 1 ≤ row → member (named (row_of next row) stage) j ≡ true → Known s row j stage ⊎ Counts s e row j stage)
      → ((row j : ℕ) (stage : Stage) → 1 ≤ row → Waiting answer.replica row j stage → Known s row j stage ⊎ Counts s e row j stage)
      → Learns s e next
  moved-learns rows-old own_old new rows-only own-only = record { old = old-known; new = new; only = known_only }
    where
      old-known : (row j : ℕ) (stage : Stage) → 1 ≤ row → Known s row j stage → Known next row j stage
      old-known row j stage l (inl h) = rows-old row j stage l h
      old-known row j stage l (inr h) =
          elim (ℕ_discrete h.process p) [
            | yes f ↦ own_old row j stage l (subst (λ q. Waiting (replica_of s q) row j stage) f h.waiting)
            | no n ↦
                inr (record {
                  process = h.process;
                  within-n = h.within-n;
                  waiting = subst (λ r. Waiting r row j stage) (sym (other h.process h.within-n n)) h.waiting;
                })
          ]

      known_only : (row j : ℕ) (stage : Stage) → 1 ≤ row → Known next row j stage → Known s row j stage ⊎ Counts s e row j stage
      known_only row j stage l (inl h) = rows-only row j stage l h
      known_only row j stage l (inr h) =
          elim (ℕ_discrete h.process p) [
            | yes f ↦
                own-only row j stage l
                (subst (λ r. Waiting r row j stage) own (subst (λ q. Waiting (replica_of next q) row j stage) f h.waiting))
            | no n ↦
                inl (inr (record {
                  process = h.process;
                  within-n = h.within-n;
                  waiting = subst (λ r. Waiting r row j stage) (other h.process h.within-n n) h.waiting;
                }))
          ]

  -- what p knew it knows, and the other way round
  waits-still : answer.replica.phase ≡ (replica_of s p).phase → answer.replica.repliers ≡ (replica_of s p).repliers
      → (row j : ℕ) (stage : Stage) → Waiting (replica_of s p) row j stage → Waiting answer.replica row j stage
  waits-still phase set row j stage h =
      record {
        row_is = ap pointed phase ∙ h.row_is;
        stage_is = ap stage_of phase ∙ h.stage_is;
        counted = ap (λ x. member x j) set ∙ h.counted;
      }

  waited-still : answer.replica.phase ≡ (replica_of s p).phase → answer.replica.repliers ≡ (replica_of s p).repliers
      → (row j : ℕ) (stage : Stage) → Waiting answer.replica row j stage → Waited s row j stage
  waited-still phase set row j stage h =
      record {
        process = p;
        within-n = actor;
        waiting =
            record {
              row_is = sym (ap pointed phase) ∙ h.row_is;
              stage_is = sym (ap stage_of phase) ∙ h.stage_is;
              counted = sym (ap (λ x. member x j) set) ∙ h.counted;
            };
      }

-- p waits as it did, the rows are as they were, and nothing is counted
pub still-learns : (s : State) → length s.replicas ≡ 7 → s.n ≤ 7 → (e : Event) (p : ℕ) → Within p s.n → (answer : Answer) (flight : List Message)
    (delivered : ℕ) → answer.replica.phase ≡ (replica_of s p).phase → answer.replica.repliers ≡ (replica_of s p).repliers
    → ((row j : ℕ) (stage : Stage) → Counts s e row j stage → ⊥) → Learns s e (moved s p answer flight delivered s.rows)
still-learns s seven few e p actor answer flight delivered phase set none =
    moved-learns s seven few e p actor answer flight delivered s.rows
    (λ row j stage l h. inl h)
    (λ row j stage l h.
    own-known s seven few e p actor answer flight delivered s.rows row j stage
    (waits-still s seven few e p actor answer flight delivered s.rows phase set row j stage h))
    (λ row j stage l c. absurd (none row j stage c))
    (λ row j stage l h. inl (inl h))
    (λ row j stage l h. inl (inr (waited-still s seven few e p actor answer flight delivered s.rows phase set row j stage h)))

-- ---- a row that is begun names nobody

pub named-empty : (stage : Stage) → named empty_row stage ≡ 0
named-empty Stage.idle = refl
named-empty Stage.querying = refl
named-empty Stage.updating = refl

pub begun-learns : (s : State) → length s.replicas ≡ 7 → s.n ≤ 7 → (e : Event) (p : ℕ) → Within p s.n → (answer : Answer) (row₀ : Row)
    → (replica_of s p).phase ≡ Idle → answer.replica.repliers ≡ 0 → ((stage : Stage) → named row₀ stage ≡ 0)
    → ((row j : ℕ) (stage : Stage) → Counts s e row j stage → ⊥)
    → Learns s e (moved s p answer s.flight s.delivered (s.rows ++ (row₀ ∷ [])))
begun-learns s seven few e p actor answer row₀ idle empty nobody none =
    moved-learns s seven few e p actor answer s.flight s.delivered (s.rows ++ (row₀ ∷ []))
    (λ row j stage l h. inl (ap (λ (r : Row). member (named r stage) j) (there row (inside row j stage h)) ∙ h))
    (λ row j stage l h. absurd (omega (arith, l, sym (ap pointed idle) ∙ h.row_is)))
    (λ row j stage l c. absurd (none row j stage c))
    (λ row j stage l h. inl (inl (was row j stage h)))
    (λ row j stage l h. none_in answer.replica.repliers j empty h.counted)
  where
    there : (row : ℕ) → row - 1 < length s.rows → get_or (s.rows ++ (row₀ ∷ [])) (row - 1) empty_row ≡ row_of s row
    there row l = get_or-append s.rows (row₀ ∷ []) empty_row (row - 1) l

    inside : (row j : ℕ) (stage : Stage) → member (named (row_of s row) stage) j ≡ true → row - 1 < length s.rows
    inside row j stage h =
        elim (dec_lt (row - 1) (length s.rows)) [
          | yes l ↦ l
          | no n ↦ none_in (named (row_of s row) stage) j (ap (λ r. named r stage) (get_or-eq_default s.rows empty_row (omega arith)) ∙ named-empty stage) h
        ]

    was : (row j : ℕ) (stage : Stage) → member (named (get_or (s.rows ++ (row₀ ∷ [])) (row - 1) empty_row) stage) j ≡ true
        → member (named (row_of s row) stage) j ≡ true
    was row j stage h =
        elim (dec_lt (row - 1) (length s.rows)) [
          | yes l ↦ sym (ap (λ (r : Row). member (named r stage) j) (there row l)) ∙ h
          | no n ↦
              elim (ℕ_discrete (row - 1) (length s.rows)) [
                | yes f ↦
                    none_in (named (get_or (s.rows ++ (row₀ ∷ [])) (row - 1) empty_row) stage) j
                    (ap (λ i. named (get_or (s.rows ++ (row₀ ∷ [])) i empty_row) stage) f
                    ∙ ap (λ r. named r stage) (get_or-append_seam s.rows row₀ [] empty_row) ∙ nobody stage)
                    h
                | no m ↦
                    none_in (named (get_or (s.rows ++ (row₀ ∷ [])) (row - 1) empty_row) stage) j
                    (ap (λ r. named r stage)
                    (get_or-eq_default (s.rows ++ (row₀ ∷ [])) empty_row (omega (arith, n, m, length-append s.rows (row₀ ∷ []))))
                    ∙ named-empty stage)
                    h
              ]
        ]

-- ---- a reply that counts

-- the message at place i is a reply of this stage to a process that waits for this row in it, and bears its present number
pub record Heard (s : State) (k i row : ℕ) (stage : Stage) : Type 0 where
  pub found : seek k 0 s.flight ≡ Some i
  pub reply : is_reply (message_at s i).body ≡ true
  pub of-stage : stage_for (message_at s i).body ≡ stage
  pub waits : pointed (recipient_at s i).phase ≡ row
  pub in-stage : stage_of (recipient_at s i).phase ≡ stage
  pub present : (message_at s i).rid.0 ≡ (recipient_at s i).rid.0
  pub actor : Within (message_at s i).to.0 s.n
  pub sender : (message_at s i).from.0 ≤ 7

module _ (s : State) (seven : length s.replicas ≡ 7) (few : s.n ≤ 7) (k i row₀ : ℕ) (stage₀ : Stage) (heard : Heard s k i row₀ stage₀) where
  abbrev receiver : ℕ
  receiver = (message_at s i).to.0

  -- its sender is counted for this row and in this phase
  counted-now : (j : ℕ) → (message_at s i).from.0 ≡ j → Counts s (Deliver k) row₀ j stage₀
  counted-now j e =
      record {
        number = k;
        place = i;
        event = refl;
        found = heard.found;
        reply = heard.reply;
        of-stage = heard.of-stage;
        sender = e;
        waits = heard.waits;
        in-stage = heard.in-stage;
        present = heard.present;
      }

  -- and nobody else, for no other
  counted-here : (row j : ℕ) (stage : Stage) → Counts s (Deliver k) row j stage → (row ≡ row₀) × (stage ≡ stage₀) × ((message_at s i).from.0 ≡ j)
  counted-here row j stage c =
      let there = counts-place s k i row j stage heard.found c in (
        sym c.waits ∙ ap (λ x. pointed (recipient_at s x).phase) there ∙ heard.waits,
        sym c.in-stage ∙ ap (λ x. stage_of (recipient_at s x).phase) there ∙ heard.in-stage,
        sym (ap (λ x. (message_at s x).from.0) there) ∙ c.sender,
      )

  -- the recipient waits for this row, in this phase
  waits-here : (row j : ℕ) (stage : Stage) → Waiting (recipient_at s i) row j stage
      → (row ≡ row₀) × (stage ≡ stage₀) × (member (recipient_at s i).repliers j ≡ true)
  waits-here row j stage h = (sym h.row_is ∙ heard.waits, sym h.stage_is ∙ heard.in-stage, h.counted)

  was-waiting : (j : ℕ) → member (recipient_at s i).repliers j ≡ true → Waited s row₀ j stage₀
  was-waiting j h =
      record { process = receiver; within-n = heard.actor; waiting = record { row_is = heard.waits; stage_is = heard.in-stage; counted = h } }

  -- whoever is in the set with the sender was in it, or is counted now
  joined-known : (j : ℕ) → member (repliers_then s i) j ≡ true → Known s row₀ j stage₀ ⊎ Counts s (Deliver k) row₀ j stage₀
  joined-known j h =
      elim (joined-only (recipient_at s i).repliers (message_at s i).from.0 j h) [
        | inl e ↦ inr (counted-now j e)
        | inr m ↦ inl (inr (was-waiting j m))
      ]

  sender-joined : (j : ℕ) → (message_at s i).from.0 ≡ j → member (repliers_then s i) j ≡ true
  sender-joined j e = ap (member (repliers_then s i)) (sym e) ∙ joined-has (recipient_at s i).repliers (message_at s i).from.0 heard.sender

  -- said of a row and a stage that are these
  told-as : (P : ℕ → Stage → Type 0) (row : ℕ) (stage : Stage) → row ≡ row₀ → stage ≡ stage₀ → P row₀ stage₀ → P row stage
  told-as P row stage e f h = subst (λ r. P r stage) (sym e) (subst (λ x. P row₀ x) (sym f) h)

  -- the phase goes on: the set is one larger
  pub counting-learns : (answer : Answer) → pointed answer.replica.phase ≡ row₀ → stage_of answer.replica.phase ≡ stage₀
      → answer.replica.repliers ≡ repliers_then s i
      → Learns s (Deliver k) (moved s receiver answer (removed i s.flight) (s.delivered + 1) s.rows)
  counting-learns answer row_is stage_is set =
      moved-learns s seven few (Deliver k) receiver heard.actor answer (removed i s.flight) (s.delivered + 1) s.rows
      (λ row j stage l h. inl h)
      (λ row j stage l h.
      let m = waits-here row j stage h in
      now-known row j stage m.0 m.1 (joined_keeps (recipient_at s i).repliers (message_at s i).from.0 j m.2))
      (λ row j stage l c. let h = counted-here row j stage c in now-known row j stage h.0 h.1 (sender-joined j h.2))
      (λ row j stage l h. inl (inl h))
      (λ row j stage l h.
      told-as (λ row stage. Known s row j stage ⊎ Counts s (Deliver k) row j stage) row stage (sym h.row_is ∙ row_is) (sym h.stage_is ∙ stage_is)
      (joined-known j (ap (λ x. member x j) (sym set) ∙ h.counted)))
    where
      now-known : (row j : ℕ) (stage : Stage) → row ≡ row₀ → stage ≡ stage₀ → member (repliers_then s i) j ≡ true
          → Known (moved s receiver answer (removed i s.flight) (s.delivered + 1) s.rows) row j stage
      now-known row j stage e f h =
          own-known s seven few (Deliver k) receiver heard.actor answer (removed i s.flight) (s.delivered + 1) s.rows row j stage
          (record { row_is = row_is ∙ sym e; stage_is = stage_is ∙ sym f; counted = ap (λ x. member x j) set ∙ h })

  -- the phase ends: the row names those in the set, and the set is empty
  pub ending-learns : (answer : Answer) (new : Row) → row₀ - 1 < length s.rows → 1 ≤ row₀ → answer.replica.repliers ≡ 0
      → named (row_of s row₀) stage₀ ≡ 0 → named new stage₀ ≡ repliers_then s i
      → ((stage : Stage) → (stage ≡ stage₀) ⊎ (named new stage ≡ named (row_of s row₀) stage))
      → Learns s (Deliver k) (moved s receiver answer (removed i s.flight) (s.delivered + 1) (set s.rows (row₀ - 1) new))
  ending-learns answer new inside first empty unnamed names others =
      moved-learns s seven few (Deliver k) receiver heard.actor answer (removed i s.flight) (s.delivered + 1) after
      (λ row j stage l h. inl (row_old row j stage l h))
      (λ row j stage l h.
      let m = waits-here row j stage h in
      now-known row j stage m.0 m.1 (joined_keeps (recipient_at s i).repliers (message_at s i).from.0 j m.2))
      (λ row j stage l c. let h = counted-here row j stage c in now-known row j stage h.0 h.1 (sender-joined j h.2))
      row-only
      (λ row j stage l h. none_in answer.replica.repliers j empty h.counted)
    where
      after : List Row
      after = set s.rows (row₀ - 1) new

      here : get_or after (row₀ - 1) empty_row ≡ new
      here = get_or-set_same s.rows (row₀ - 1) new empty_row inside

      elsewhere : (row : ℕ) → 1 ≤ row → row ≢ row₀ → get_or after (row - 1) empty_row ≡ row_of s row
      elsewhere row l n = get_or-set_other s.rows (row₀ - 1) (row - 1) new empty_row (λ e. n (omega (arith, l, first, e)))

      now-known : (row j : ℕ) (stage : Stage) → row ≡ row₀ → stage ≡ stage₀ → member (repliers_then s i) j ≡ true
          → Known (moved s receiver answer (removed i s.flight) (s.delivered + 1) after) row j stage
      now-known row j stage e f h =
          inl (told-as (λ row stage. member (named (get_or after (row - 1) empty_row) stage) j ≡ true) row stage e f
          (ap (λ r. member (named r stage₀) j) here ∙ ap (λ x. member x j) names ∙ h))

      row_old : (row j : ℕ) (stage : Stage) → 1 ≤ row → member (named (row_of s row) stage) j ≡ true
          → member (named (get_or after (row - 1) empty_row) stage) j ≡ true
      row_old row j stage l h =
          elim (ℕ_discrete row row₀) [
            | yes e ↦
                subst (λ row. member (named (get_or after (row - 1) empty_row) stage) j ≡ true) (sym e)
                (ap (λ r. member (named r stage) j) here ∙ kept (others stage) (subst (λ row. member (named (row_of s row) stage) j ≡ true) e h))
            | no n ↦ ap (λ r. member (named r stage) j) (elsewhere row l n) ∙ h
          ]
        where
          kept : (stage ≡ stage₀) ⊎ (named new stage ≡ named (row_of s row₀) stage) → member (named (row_of s row₀) stage) j ≡ true
              → member (named new stage) j ≡ true
          kept (inl e) m = none_in (named (row_of s row₀) stage) j (ap (named (row_of s row₀)) e ∙ unnamed) m
          kept (inr e) m = ap (λ x. member x j) e ∙ m

      row-only : (row j : ℕ) (stage : Stage) → 1 ≤ row → member (named (get_or after (row - 1) empty_row) stage) j ≡ true
          → Known s row j stage ⊎ Counts s (Deliver k) row j stage
      row-only row j stage l h =
          elim (ℕ_discrete row row₀) [
            | yes e ↦
                subst (λ row. Known s row j stage ⊎ Counts s (Deliver k) row j stage) (sym e)
                (was (others stage)
                (sym (ap (λ r. member (named r stage) j) here) ∙ subst (λ row. member (named (get_or after (row - 1) empty_row) stage) j ≡ true) e h))
            | no n ↦ inl (inl (sym (ap (λ r. member (named r stage) j) (elsewhere row l n)) ∙ h))
          ]
        where
          was : (stage ≡ stage₀) ⊎ (named new stage ≡ named (row_of s row₀) stage) → member (named new stage) j ≡ true
              → Known s row₀ j stage ⊎ Counts s (Deliver k) row₀ j stage
          was (inl e) m =
              subst (λ x. Known s row₀ j x ⊎ Counts s (Deliver k) row₀ j x) (sym e)
              (joined-known j (sym (ap (λ x. member x j) (ap (named new) e ∙ names)) ∙ m))
          was (inr e) m = inl (inl (sym (ap (λ x. member x j) e) ∙ m))
