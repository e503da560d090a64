-- What the code computes is `tabled`: the tests of the scans, joined with those of the counts and of the replicas.
use Rattle.std.specs.Prelude.{◌≡◌, refl, ℕ, zero, suc, ◌+◌, ◌-◌, ◌<◌, ◌≤◌, Bool, true, false, not, cond, ◌&&◌, ◌||◌, List, [], ◌∷◌, eqb, leb, length, get_or, take, drop, replicate, Option, Some, None}
use Rattle.std.proofs.Common.{ap, ◌∙◌, arith, length-take-le, eqb-true, leb-true, eq-eqb, le-leb}
use Rattle.std.proofs.Math.Bool.{and-false, and_assoc}
use Rattle.words.specs.declared.Body.{Body}
use Rattle.words.specs.declared.Body.TheVariants.{Query, Response, Update, Ack}
use Rattle.words.specs.declared.Message.{Message}
use Rattle.words.specs.declared.Pair.{Pair}
use Rattle.words.specs.Ranges.{pair_fits}
use Rattle.replica.specs.declared.Phase.{Phase}
use Rattle.replica.specs.declared.Phase.TheVariants.{Idle, Querying, Updating}
use Rattle.replica.specs.declared.Replica.{Replica}
use Rattle.tables.specs.declared.Row.{Row}
use Rattle.state.specs.declared.Bench.{Bench}
use Rattle.state.specs.Needed.{responses_needed}
use Rattle.state.proofs.NeededLaws.{needed-same}
use Rattle.state.specs.State.{State, view, row_of}
use Rattle.state.specs.WellFormed.{every, counts_fit, body_fits, message_fits, rising, flight_fits, is_write, enough, row_fits, history_fits}
use Rattle.state.specs.WellFormed.{pending_of, is_empty, is_only, phase_fits, pairs_fit, replica_fits, each_fits, replicas_fit, well_formed}
use Rattle.state.specs.Tabled.{is_empty_message, is_empty_row, tabled}
use Rattle.judge.specs.declared.Limits.{Limits}
use Rattle.judge.specs.declared.Waiting.{Waiting}
use Rattle.judge.specs.declared.Waiting.TheVariants.{Nothing}
use Rattle.judge.specs.Scans.{limits_of, limited, counts_judged, risen, messages_judged, scanned, rows_judged}
use Rattle.judge.specs.Scans.{phase_judged, replica_judged, each_judged, replicas_judged, judged}
use Rattle.judge.specs.ScanLaws.{rises, all_noted, all-scanned, waits, waiting-seen, classified, waits-classified}

pub and-true : (a : Bool) → (a && true) ≡ a
and-true true = refl
and-true false = refl

-- ---- the tests look at nothing but the counts

abbrev lim : State → State
lim s = limited (record { n = s.n; m = s.m; accepted = s.accepted; sent = s.sent })

body_same : (s : State) (b : Body) → body_fits (lim s) b ≡ body_fits s b
body_same s (Query x) = refl
body_same s (Response pair) = refl
body_same s (Update x pair) = refl
body_same s Ack = refl

messages-same : (s : State) (xs : List Message) → every (message_fits (lim s)) xs ≡ every (message_fits s) xs
messages-same s [] = refl
messages-same s (m ∷ rest) = rw (body_same s m.body, messages-same s rest)

rows_same : (s : State) (xs : List Row) → every (row_fits (lim s)) xs ≡ every (row_fits s) xs
rows_same s [] = refl
rows_same s (r ∷ rest) = rw (rows_same s rest)

pairs-same : (s : State) (left : ℕ) (ps : List Pair) → pairs_fit (lim s) left ps ≡ pairs_fit s left ps
pairs-same s zero ps = refl
pairs-same s (suc left) [] = refl
pairs-same s (suc left) (p ∷ rest) = ap (λ (t : Bool). pair_fits s.accepted s.n p && t) (pairs-same s left rest)

-- ---- replicas

-- the one row that the phase points to
pointed : (i row : ℕ) (f g : ℕ → Bool) (b : Bool) → (eqb i row && f i && b && g i) ≡ ((eqb i row && true) && f row && b && g row)
pointed i row f g b = go (eqb i row) refl
  where
    go : (t : Bool) → eqb i row ≡ t → (t && f i && b && g i) ≡ ((t && true) && f row && b && g row)
    go true e = let same : i ≡ row = eqb-true i row e in rw same refl
    go false e = refl

pointed_two : (i row : ℕ) (f : ℕ → Bool) (b : Bool) → (eqb i row && b && f i) ≡ ((eqb i row && true) && b && f row)
pointed_two i row f b = go (eqb i row) refl
  where
    go : (t : Bool) → eqb i row ≡ t → (t && b && f i) ≡ ((t && true) && b && f row)
    go true e = let same : i ≡ row = eqb-true i row e in rw same refl
    go false e = refl

none-more : (t : Bool) → false ≡ (t && false)
none-more true = refl
none-more false = refl

phase-classified : (s : State) (is : List ℕ) (p : ℕ) (phase : Phase) (repliers : ℕ) → is ≡ pending_of p 1 s.rows → phase_judged (lim s) (classified (row_of s) is) phase repliers ≡ phase_fits s p phase repliers
phase-classified s [] p Idle repliers e = ap (λ (l : List ℕ). is_empty l && eqb repliers 0) e
phase-classified s [] p (Querying row gathered) repliers e =
    ap (λ (l : List ℕ). is_only row l && not (is_write (row_of s row).kind) && pair_fits s.accepted s.n gathered.best && eqb (row_of s row).replied.query 0) e
phase-classified s [] p (Updating row sent) repliers e =
    ap (λ (l : List ℕ). is_only row l && pair_fits s.accepted s.n sent && (is_write (row_of s row).kind || enough s (responses_needed s) (row_of s row).replied.query)) e
phase-classified s (i ∷ []) p Idle repliers e = ap (λ (l : List ℕ). is_empty l && eqb repliers 0) e
phase-classified s (i ∷ []) p (Querying row gathered) repliers e =
    pointed i row (λ j. not (is_write (row_of s j).kind)) (λ j. eqb (row_of s j).replied.query 0) (pair_fits s.accepted s.n gathered.best)
    ∙ ap (λ (l : List ℕ). is_only row l && not (is_write (row_of s row).kind) && pair_fits s.accepted s.n gathered.best && eqb (row_of s row).replied.query 0) e
phase-classified s (i ∷ []) p (Updating row sent) repliers e =
    pointed_two i row (λ j. is_write (row_of s j).kind || enough s (responses_needed s) (row_of s j).replied.query) (pair_fits s.accepted s.n sent)
    ∙ ap (λ (l : List ℕ). is_only row l && pair_fits s.accepted s.n sent && (is_write (row_of s row).kind || enough s (responses_needed s) (row_of s row).replied.query)) e
phase-classified s (i ∷ j ∷ more) p Idle repliers e = ap (λ (l : List ℕ). is_empty l && eqb repliers 0) e
phase-classified s (i ∷ j ∷ more) p (Querying row gathered) repliers e =
    ap (λ (t : Bool). t && not (is_write (row_of s row).kind) && pair_fits s.accepted s.n gathered.best && eqb (row_of s row).replied.query 0) (none-more (eqb i row))
    ∙ ap (λ (l : List ℕ). is_only row l && not (is_write (row_of s row).kind) && pair_fits s.accepted s.n gathered.best && eqb (row_of s row).replied.query 0) e
phase-classified s (i ∷ j ∷ more) p (Updating row sent) repliers e =
    ap (λ (t : Bool). t && pair_fits s.accepted s.n sent && (is_write (row_of s row).kind || enough s (responses_needed s) (row_of s row).replied.query)) (none-more (eqb i row))
    ∙ ap (λ (l : List ℕ). is_only row l && pair_fits s.accepted s.n sent && (is_write (row_of s row).kind || enough s (responses_needed s) (row_of s row).replied.query)) e

phase-same : (s : State) (p : ℕ) (phase : Phase) (repliers : ℕ) → phase_judged (lim s) (waits p 1 Nothing s.rows) phase repliers ≡ phase_fits s p phase repliers
phase-same s p phase repliers =
    ap (λ (w : Waiting). phase_judged (lim s) w phase repliers) (waits-classified p 1 s.rows) ∙ phase-classified s (pending_of p 1 s.rows) p phase repliers refl

replica-same : (s : State) (p : ℕ) (r : Replica) → replica_judged (lim s) (waits p 1 Nothing s.rows) r ≡ replica_fits s p r
replica-same s p r = rw (pairs-same s s.m r.pairs, needed-same s (lim s) refl r.phase, phase-same s p r.phase r.repliers) (simp and_assoc)

each_same : (s : State) (ws : List Waiting) (p : ℕ) (rs : List Replica) → ((k : ℕ) → k < 7 → get_or ws k Nothing ≡ waits (suc k) 1 Nothing s.rows) → 1 ≤ p → p + length rs ≤ 8
    → each_judged (lim s) ws p rs ≡ each_fits s p rs
each_same s ws p [] h l le = refl
each_same s ws zero (r ∷ rest) h l le = absurd (omega arith)
each_same s ws (suc k) (r ∷ rest) h l le =
    let e : suc k - 1 ≡ k = omega arith in
    rw (e, h k (omega arith), replica-same s (suc k) r, each_same s ws (suc (suc k)) rest h (omega arith) (omega arith))

replicas-same : (s : State) (ws : List Waiting) → ((k : ℕ) → k < 7 → get_or ws k Nothing ≡ waits (suc k) 1 Nothing s.rows)
    → replicas_judged (lim s) ws s.replicas ≡ (eqb (length s.replicas) 7 && each_fits s 1 s.replicas)
replicas-same s ws h = go (eqb (length s.replicas) 7) (λ e. let len = eqb-true (length s.replicas) 7 e in each_same s ws 1 s.replicas h (omega arith) (omega arith))
  where
    go : (t : Bool) → (t ≡ true → each_judged (lim s) ws 1 s.replicas ≡ each_fits s 1 s.replicas) → (t && each_judged (lim s) ws 1 s.replicas) ≡ (t && each_fits s 1 s.replicas)
    go true f = f refl
    go false f = refl

none-at : (n k : ℕ) → get_or (replicate n Nothing) k Nothing ≡ Nothing
none-at zero k = refl
none-at (suc n) zero = refl
none-at (suc n) (suc k) = none-at n k

-- ---- the whole

-- the tests in their two orders; what is counted in flight is only as much where the table is long enough
orders : (l₁ f e₁ ri d₁ l₂ g e₂ d₂ c c' reps : Bool) → (l₁ ≡ true → f ≡ true → c ≡ c')
    → (l₁ && f && (e₁ && ri && d₁)) && (l₂ && g && (e₂ && d₂)) && c && reps ≡ l₁ && l₂ && f && g && d₁ && d₂ && (c' && (e₁ && ri) && e₂ && reps)
orders false f e₁ ri d₁ l₂ g e₂ d₂ c c' reps h = refl
orders true false e₁ ri d₁ l₂ g e₂ d₂ c c' reps h = simp and-false
orders true true false ri d₁ l₂ g e₂ d₂ c c' reps h = simp and-false
orders true true true false d₁ l₂ g e₂ d₂ c c' reps h = simp and-false
orders true true true true false l₂ g e₂ d₂ c c' reps h = simp and-false
orders true true true true true false g e₂ d₂ c c' reps h = refl
orders true true true true true true false e₂ d₂ c c' reps h = refl
orders true true true true true true true false true c c' reps h = simp and-false
orders true true true true true true true false false c c' reps h = refl
orders true true true true true true true true false c c' reps h = refl
orders true true true true true true true true true c c' reps h = rw (h refl refl) (simp and-true)

counts_same : (b : Bench) (ms : List Message) (rs : List Row) → eqb (length ms) 512 ≡ true → leb b.flight 512 ≡ true → counts_judged b ≡ counts_fit (view b ms rs)
unfolding counts_fit
counts_same b ms rs e f =
    let len = eqb-true (length ms) 512 e in
    let le = leb-true b.flight 512 f in
    rw (length-take-le b.flight ms (omega arith))

-- the rows are judged before the messages
rows_first : (t m c reps : Bool) → (t && (m && c && reps)) ≡ m && t && c && reps
rows_first true true c reps = refl
rows_first true false c reps = refl
rows_first false true c reps = refl
rows_first false false c reps = refl

-- what fits, and what is seen then, apart
rows-cond : (t fits : Bool) (ws : List Waiting) → cond t (cond fits (Some ws) None) None ≡ cond (t && fits) (Some ws) None
rows-cond true fits ws = refl
rows-cond false fits ws = refl

judged-cond : (b : Bench) (ms : List Message) (t : Bool) (ws : List Waiting)
    → judged b ms (cond t (Some ws) None) ≡ t && (messages_judged (limited (limits_of b)) b.flight ms && counts_judged b && replicas_judged (limited (limits_of b)) ws b.replicas)
judged-cond b ms true ws = refl
judged-cond b ms false ws = refl

last-two : (l g d e : Bool) → ((l && g && d) && e) ≡ (l && g && (e && d))
last-two true true true e = and-true' e
  where
    and-true' : (t : Bool) → t ≡ (t && true)
    and-true' true = refl
    and-true' false = refl
last-two true true false e = none-more e
last-two true false d e = refl
last-two false g d e = refl

pub judged-tabled : (b : Bench) (ms : List Message) (rs : List Row) → judged b ms (rows_judged (limited (limits_of b)) b.rows rs) ≡ tabled b ms rs
unfolding tabled well_formed flight_fits history_fits replicas_fit
judged-tabled b ms rs =
    ap (λ (o : Option (List Waiting)). judged b ms (cond (eqb (length rs) 1024 && leb b.rows 1024 && every is_empty_row (drop b.rows rs)) o None)) (all-scanned lims (replicate 7 Nothing) 1 (take b.rows rs))
    ∙ ap (judged b ms) (rows-cond (eqb (length rs) 1024 && leb b.rows 1024 && every is_empty_row (drop b.rows rs)) (every (row_fits lims) (take b.rows rs)) seen)
    ∙ judged-cond b ms ((eqb (length rs) 1024 && leb b.rows 1024 && every is_empty_row (drop b.rows rs)) && every (row_fits lims) (take b.rows rs)) seen
    ∙ rw (
      last-two (eqb (length rs) 1024) (leb b.rows 1024) (every is_empty_row (drop b.rows rs)) (every (row_fits lims) (take b.rows rs)),
      rises lims 0 (take b.flight ms),
      messages-same (view b ms rs) (take b.flight ms),
      rows_same (view b ms rs) (take b.rows rs),
      replicas-same (view b ms rs) seen waited,
    )
    (rows_first (eqb (length rs) 1024 && leb b.rows 1024 && (every (row_fits (view b ms rs)) (take b.rows rs) && every is_empty_row (drop b.rows rs)))
    (eqb (length ms) 512 && leb b.flight 512 && (every (message_fits (view b ms rs)) (take b.flight ms) && rising 0 b.sent (take b.flight ms) && every is_empty_message (drop b.flight ms)))
    (counts_judged b) (eqb (length b.replicas) 7 && each_fits (view b ms rs) 1 b.replicas)
    ∙ orders (eqb (length ms) 512) (leb b.flight 512) (every (message_fits (view b ms rs)) (take b.flight ms)) (rising 0 b.sent (take b.flight ms)) (every is_empty_message (drop b.flight ms))
    (eqb (length rs) 1024) (leb b.rows 1024) (every (row_fits (view b ms rs)) (take b.rows rs)) (every is_empty_row (drop b.rows rs))
    (counts_judged b) (counts_fit (view b ms rs)) (eqb (length b.replicas) 7 && each_fits (view b ms rs) 1 b.replicas) (counts_same b ms rs))
  where
    lims : State
    lims = limited (limits_of b)

    seen : List Waiting
    seen = all_noted (replicate 7 Nothing) 1 (take b.rows rs)

    waited : (k : ℕ) → k < 7 → get_or seen k Nothing ≡ waits (suc k) 1 Nothing (take b.rows rs)
    waited k l = waiting-seen 1 (replicate 7 Nothing) (take b.rows rs) k refl l ∙ ap (λ (w : Waiting). waits (suc k) 1 w (take b.rows rs)) (none-at 7 k)

-- ---- what the code gives, by its branches

pub messages-are : (s : State) (flight : ℕ) (t : List Message) (a b : Bool) → length t ≡ 512 → flight ≤ 512 → a ≡ risen s 0 (take flight t)
    → b ≡ every is_empty_message (drop flight t) → (a && b) ≡ messages_judged s flight t
messages-are s flight t a b len le e f = rw (eq-eqb (length t) 512 len, le-leb flight 512 le, e, f) refl

pub rows_are : (s : State) (used : ℕ) (t : List Row) (seen : Option (List Waiting)) → length t ≡ 1024 → used ≤ 1024 → every is_empty_row (drop used t) ≡ true
    → seen ≡ scanned s (replicate 7 Nothing) 1 (take used t) → seen ≡ rows_judged s used t
rows_are s used t seen len le e f = rw (eq-eqb (length t) 1024 len, le-leb used 1024 le, e, f) refl

pub judged-is : (b : Bench) (ms : List Message) (rs : List Row) (l : Limits) (seen : Option (List Waiting)) → l ≡ limits_of b → seen ≡ rows_judged (limited l) b.rows rs
    → judged b ms seen ≡ tabled b ms rs
judged-is b ms rs l seen e f = ap (judged b ms) (f ∙ ap (λ (l : Limits). rows_judged (limited l) b.rows rs) e) ∙ judged-tabled b ms rs
