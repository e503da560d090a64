-- What each test comes to, by its branches: a row that is noted, and whose replies ended its phases; and a replica behind the processes.
use Rattle.std.specs.Prelude.{◌≡◌, ℕ, ◌-◌, Bool, true, false, not, cond, ◌&&◌, ◌||◌, List, eqb, length, get_or, set}
use Rattle.std.proofs.Common.{sym, ap, ◌∙◌, eq-eqb, ne_eqb}
use Rattle.std.proofs.Math.Bool.{and_assoc}
use Rattle.replica.specs.declared.Replica.{Replica}
use Rattle.replica.specs.Handlers.{is_idle}
use Rattle.tables.specs.declared.Row.{Row}
use Rattle.state.specs.Needed.{responses_needed, acks_needed}
use Rattle.state.specs.State.{State}
use Rattle.state.specs.WellFormed.{every, is_write, enough, query_fits, update_fits, is_start, is_fresh}
use Rattle.judge.specs.declared.Waiting.{Waiting}
use Rattle.judge.specs.declared.Waiting.TheVariants.{Nothing}
use Rattle.judge.specs.Scans.{noted, is_pending, noted_in, stored_fit}

-- ---- rows

pub note-pending : (ws : List Waiting) (number : ℕ) (r : Row) (w : Waiting) → is_pending r ≡ true → w ≡ noted (get_or ws (r.process.0 - 1) Nothing) number r
    → set ws (r.process.0 - 1) w ≡ noted_in ws number r
note-pending ws number r w h e = rw (h, e)

pub note-other : (ws : List Waiting) (number : ℕ) (r : Row) → is_pending r ≡ false → ws ≡ noted_in ws number r
note-other ws number r h = rw h

-- ---- whose replies ended its phases

pub query-write : (s : State) (r : Row) → is_write r.kind ≡ true → eqb r.replied.query 0 ≡ query_fits s r
query-write s r h =
    sym
    (ap (λ (b : Bool). cond b (eqb r.replied.query 0) (enough s (responses_needed s) r.replied.query || (eqb r.answered.0 0 && eqb r.replied.query 0))) h)

pub query-read : (s : State) (r : Row) (t : Bool) → is_write r.kind ≡ false → t ≡ enough s (responses_needed s) r.replied.query
    → (t || (eqb r.answered.0 0 && eqb r.replied.query 0)) ≡ query_fits s r
query-read s r t h e =
    ap (λ (b : Bool). b || (eqb r.answered.0 0 && eqb r.replied.query 0)) e
    ∙ sym
    (ap (λ (b : Bool). cond b (eqb r.replied.query 0) (enough s (responses_needed s) r.replied.query || (eqb r.answered.0 0 && eqb r.replied.query 0))) h)

pub update-pending : (s : State) (r : Row) → r.answered.0 ≡ 0 → eqb r.replied.update 0 ≡ update_fits s r
update-pending s r h = sym (ap (λ (b : Bool). cond b (eqb r.replied.update 0) (enough s (acks_needed s) r.replied.update)) (eq-eqb r.answered.0 0 h))

pub update-done : (s : State) (r : Row) (t : Bool) → (r.answered.0 ≡ 0 → ⊥) → t ≡ enough s (acks_needed s) r.replied.update → t ≡ update_fits s r
update-done s r t h e = e ∙ sym (ap (λ (b : Bool). cond b (eqb r.replied.update 0) (enough s (acks_needed s) r.replied.update)) (ne_eqb r.answered.0 0 h))

-- ---- replicas

-- the test of the pairs of a replica behind the processes, apart from the others
pub fresh-is : (s : State) (r : Replica) (t u : Bool) → t ≡ is_idle r.phase → u ≡ stored_fit s 0 r.pairs
    → (not r.crashed && eqb r.clock.0 0 && eqb r.rid.0 0 && t && eqb r.repliers 0 && u) ≡ is_fresh r
fresh-is s r t u e f =
    rw (e, f)
    (sym
    (and_assoc (not r.crashed && eqb r.clock.0 0 && eqb r.rid.0 0 && is_idle r.phase && eqb r.repliers 0)
    (eqb (length r.pairs) 16) (every is_start r.pairs)))
