-- What one row comes to, and what tests of sums say.
use Rattle.std.specs.Prelude.{ℕ, zero, suc, ◌+◌, ◌-◌, ◌≤◌, ◌<◌, ◌^◌, min, max, ◌≡◌, refl, Bool, true, false, cond, ◌&&◌, List, [], ◌∷◌, leb, length, get_or}
use Rattle.std.proofs.Common.{sym, ap, subst, ◌∙◌, arith, get_or-set_same, leb-true, leb-false, lt-ltb, le-ltb, ltb-true, eq-eqb, ne_eqb}
use Rattle.std.proofs.lemmas.Bool.{false≢true}
use Rattle.tables.specs.declared.Row.{Row}
use Rattle.figures.specs.declared.Operations.{Operations}
use Rattle.figures.specs.declared.Waits.{Waits}
use Rattle.figures.specs.declared.History.{History}
use Rattle.figures.specs.declared.Traffic.{Traffic}
use Rattle.figures.specs.declared.Entry.{Entry}
use Rattle.figures.specs.declared.Sheet.{Sheet}
use Rattle.figures.specs.declared.Added.{Added}
use Rattle.figures.specs.Figures.{one, is_read_row, is_write_row, is_complete, operations_of, in64, lesser, figures_of, history_of}
use Rattle.figures.specs.Figures.{plus_operations, plus_waits, plus_history, plus_traffic, operations_fit, waits_fit, history_fits, traffic_fits, entered, sheet_fits, added_or28}
use Rattle.figures.specs.Parts.{one_operation, one_wait, most_wait, FewOperations, FewWaits, Few, OperationsRoom, WaitsRoom, HistoryRoom, TrafficRoom, SheetRoom, file_number}

-- ---- what is made of parts that are what they are to be

pub both-are : {a b x y : Bool} → a ≡ x → b ≡ y → (a && b) ≡ (x && y)
both-are e f = rw (e, f) refl

pub operations-are : {a b x y : ℕ} → a ≡ x → b ≡ y → ◌≡◌ {A = Operations} (record { begun = a; completed = b }) (record { begun = x; completed = y })
operations-are e f = rw (e, f) refl

pub waits-are : {count sum a b x y : ℕ} → a ≡ x → b ≡ y
    → ◌≡◌ {A = Waits} (record { count = count; sum = sum; least = a; greatest = b }) (record { count = count; sum = sum; least = x; greatest = y })
waits-are e f = rw (e, f) refl

pub history-is : {a b x y : Operations} {c z : Waits} → a ≡ x → b ≡ y → c ≡ z
    → ◌≡◌ {A = History} (record { reads = a; writes = b; waits = c }) (record { reads = x; writes = y; waits = z })
history-is e f g = rw (e, f, g) refl

pub entry-is : {a x : ℕ} {history : History} {b y : Traffic} → a ≡ x → b ≡ y
    → ◌≡◌ {A = Entry} (record { refusal = a; history = history; traffic = b }) (record { refusal = x; history = history; traffic = y })
entry-is e f = rw (e, f) refl

pub sheet-is : {schedules : ℕ} {a x : List ℕ} {b y : History} {c z : Traffic} → a ≡ x → b ≡ y → c ≡ z
    → ◌≡◌ {A = Sheet} (record { schedules = schedules; files = a; history = b; traffic = c }) (record { schedules = schedules; files = x; history = y; traffic = z })
sheet-is e f g = rw (e, f, g) refl

-- ---- one row

operation-is : (counts complete : Bool) → one_operation counts complete ≡ record { begun = one counts + 0; completed = one (counts && complete) + 0 }
operation-is true true = refl
operation-is true false = refl
operation-is false complete = refl

wait-is : (complete : Bool) (wait : ℕ) → one_wait complete wait ≡ figures_of (cond complete (wait ∷ []) [])
wait-is true wait = refl
wait-is false wait = refl

-- a wait that is over
pub waited : (complete : Bool) (wait : ℕ) → complete ≡ true → ◌≡◌ {A = Waits} (record { count = 1; sum = wait; least = wait; greatest = wait }) (one_wait complete wait)
waited true wait e = ap (λ (s : ℕ). of s wait) plus_none ∙ ap (λ (g : ℕ). of (wait + 0) g) most
  where
    of : ℕ → ℕ → Waits
    of s g = record { count = 1; sum = s; least = wait; greatest = g }

    plus_none : wait ≡ wait + 0
    plus_none = omega arith

    most : wait ≡ max wait 0
    most = omega arith
waited false wait e = absurd (false≢true e)

pub unwaited : (complete : Bool) (wait : ℕ) → complete ≡ false → figures_of [] ≡ one_wait complete wait
unwaited false wait e = refl
unwaited true wait e = absurd (false≢true (sym e))

abbrev made : Operations → Operations → Waits → History
made reads writes waits = record { reads = reads; writes = writes; waits = waits }

-- a row by its parts
pub row_is : (row : Row) (reads writes : Operations) (waits : Waits) → reads ≡ one_operation (is_read_row row) (is_complete row)
    → writes ≡ one_operation (is_write_row row) (is_complete row) → waits ≡ one_wait (is_complete row) (row.answered.0 - row.invoked.0)
    → ◌≡◌ {A = History} (record { reads = reads; writes = writes; waits = waits }) (history_of (row ∷ []))
row_is row reads writes waits e f g =
    ap (λ (x : Operations). made x writes waits) (e ∙ operation-is (is_read_row row) (is_complete row))
    ∙ ap (λ (x : Operations). made (operations_of is_read_row (row ∷ [])) x waits) (f ∙ operation-is (is_write_row row) (is_complete row))
    ∙ ap (λ (x : Waits). made (operations_of is_read_row (row ∷ [])) (operations_of is_write_row (row ∷ [])) x) (g ∙ wait-is (is_complete row) (row.answered.0 - row.invoked.0))

one-few : (b : Bool) → one b ≤ most_wait
one-few true = omega arith
one-few false = omega arith

operation-few : (counts complete : Bool) → FewOperations most_wait (one_operation counts complete)
operation-few counts complete = record { begun = one-few counts; completed = one-few (counts && complete) }

wait-few : (complete : Bool) (wait : ℕ) → wait ≤ most_wait → FewWaits most_wait (one_wait complete wait)
wait-few true wait l = omega arith
wait-few false wait l = omega arith

pub row-few : (row : Row) (reads writes : Operations) (waits : Waits) → reads ≡ one_operation (is_read_row row) (is_complete row)
    → writes ≡ one_operation (is_write_row row) (is_complete row) → waits ≡ one_wait (is_complete row) (row.answered.0 - row.invoked.0)
    → row.answered.0 ≤ most_wait → Few most_wait (record { reads = reads; writes = writes; waits = waits })
row-few row reads writes waits e f g l =
    record {
      reads = subst (FewOperations most_wait) (sym e) (operation-few (is_read_row row) (is_complete row));
      writes = subst (FewOperations most_wait) (sym f) (operation-few (is_write_row row) (is_complete row));
      waits = subst (FewWaits most_wait) (sym g) (wait-few (is_complete row) (row.answered.0 - row.invoked.0) (omega arith));
    }

-- ---- tests

pub fits-is : (a b : ℕ) → a ≤ 18446744073709551615 → leb b (18446744073709551615 - a) ≡ in64 (a + b)
fits-is a b l = go (leb b (18446744073709551615 - a)) refl
  where
    go : (t : Bool) → leb b (18446744073709551615 - a) ≡ t → t ≡ in64 (a + b)
    go true e = let h = leb-true b (18446744073709551615 - a) e in sym (lt-ltb (a + b) (2 ^ 64) (omega arith))
    go false e = let h = leb-false b (18446744073709551615 - a) e in sym (le-ltb (a + b) (2 ^ 64) (omega arith))

pub no-others : (some least others other : ℕ) → (some ≡ 0 → ⊥) → others ≡ 0 → least ≡ lesser some least others other
no-others zero least others other n e = absurd (n refl)
no-others (suc some) least zero other n e = refl
no-others (suc some) least (suc others) other n e = absurd (omega arith)

pub both_some : (some least others other : ℕ) → (some ≡ 0 → ⊥) → (others ≡ 0 → ⊥) → min least other ≡ lesser some least others other
both_some zero least others other n m = absurd (n refl)
both_some (suc some) least zero other n m = absurd (m refl)
both_some (suc some) least (suc others) other n m = refl

-- ---- a sheet and one schedule more

module _ (sheet : Sheet) (e : Entry) (number : e.refusal < length sheet.files) where
  under-number : get_or (entered sheet e).files e.refusal 0 ≡ get_or sheet.files e.refusal 0 + 1
  under-number = get_or-set_same sheet.files e.refusal (get_or sheet.files e.refusal 0 + 1) 0 number

  -- what is tested
  abbrev tested : Bool
  tested =
      in64 (sheet.schedules + 1) && in64 (get_or sheet.files e.refusal 0 + 1) && history_fits (plus_history sheet.history e.history)
      && traffic_fits (plus_traffic sheet.traffic e.traffic)

  tested-is : tested ≡ sheet_fits e.refusal (entered sheet e)
  tested-is =
      ap (λ (n : ℕ). in64 (sheet.schedules + 1) && in64 n && history_fits (plus_history sheet.history e.history) && traffic_fits (plus_traffic sheet.traffic e.traffic))
      (sym under-number)

  pub sheet-fits-is : (a b c d : Bool) → a ≡ in64 (sheet.schedules + 1) → b ≡ in64 (get_or sheet.files e.refusal 0 + 1)
      → c ≡ history_fits (plus_history sheet.history e.history) → d ≡ traffic_fits (plus_traffic sheet.traffic e.traffic)
      → (a && b && c && d) ≡ sheet_fits e.refusal (entered sheet e)
  sheet-fits-is a b c d ea eb ec ed = rw (ea, eb, ec, ed) tested-is

  within : (n : ℕ) → in64 n ≡ true → n < 2 ^ 64
  within n h = ltb-true n (2 ^ 64) h

  all4 : (a b c d : Bool) → (a && b && c && d) ≡ true → (a ≡ true) × ((b ≡ true) × ((c ≡ true) × (d ≡ true)))
  all4 true true true true h = (refl, (refl, (refl, refl)))
  all4 true true true false h = absurd (false≢true h)
  all4 true true false d h = absurd (false≢true h)
  all4 true false c d h = absurd (false≢true h)
  all4 false b c d h = absurd (false≢true h)

  both : (a b : Bool) → (a && b) ≡ true → (a ≡ true) × (b ≡ true)
  both true true h = (refl, refl)
  both true false h = absurd (false≢true h)
  both false b h = absurd (false≢true h)

  operations-room : (a b : Operations) → operations_fit (plus_operations a b) ≡ true → OperationsRoom a b
  operations-room a b h =
      let (x, y) = both (in64 (a.begun + b.begun)) (in64 (a.completed + b.completed)) h in
      record { begun = within _ x; completed = within _ y }

  waits-room : (a b : Waits) → waits_fit (plus_waits a b) ≡ true → WaitsRoom a b
  waits-room a b h =
      let (x, y) = both (in64 (a.count + b.count)) (in64 (a.sum + b.sum)) h in
      record { count = within _ x; sum = within _ y }

  history-room : (a b : History) → history_fits (plus_history a b) ≡ true → HistoryRoom a b
  history-room a b h =
      let (x, z) = both (operations_fit (plus_operations a.reads b.reads) && operations_fit (plus_operations a.writes b.writes)) (waits_fit (plus_waits a.waits b.waits)) h in
      let (x, y) = both (operations_fit (plus_operations a.reads b.reads)) (operations_fit (plus_operations a.writes b.writes)) x in
      record { reads = operations-room a.reads b.reads x; writes = operations-room a.writes b.writes y; waits = waits-room a.waits b.waits z }

  traffic-room : (a b : Traffic) → traffic_fits (plus_traffic a b) ≡ true → TrafficRoom a b
  traffic-room a b h =
      let (w, (x, (y, z))) = all4 (in64 (a.sent + b.sent)) (in64 (a.delivered + b.delivered)) (in64 (a.lost + b.lost)) (in64 (a.left + b.left)) h in
      record { sent = within _ w; delivered = within _ x; lost = within _ y; left = within _ z }

  -- a sheet that fits has room for the schedule
  pub sheet-room : e.refusal < 32 → sheet_fits e.refusal (entered sheet e) ≡ true → SheetRoom sheet e
  sheet-room l h =
      let (w, (x, (y, z))) =
      all4 (in64 (sheet.schedules + 1)) (in64 (get_or sheet.files e.refusal 0 + 1)) (history_fits (plus_history sheet.history e.history)) (traffic_fits (plus_traffic sheet.traffic e.traffic))
      (tested-is ∙ h) in
      record {
        number = l;
        schedules = within _ w;
        files = within _ x;
        history = history-room sheet.history e.history y;
        traffic = traffic-room sheet.traffic e.traffic z;
      }

-- ---- the reply

pub fitted : (sheet : Sheet) (e : Entry) (s : Sheet) → sheet_fits e.refusal (entered sheet e) ≡ true → s ≡ entered sheet e
    → ◌≡◌ {A = Added} (record { refusal = 0; sheet = s }) (added_or28 sheet e)
fitted sheet e s h f = rw (h, f) refl

pub passed : (sheet : Sheet) (e : Entry) → sheet_fits e.refusal (entered sheet e) ≡ false
    → ◌≡◌ {A = Added} (record { refusal = 28; sheet = sheet }) (added_or28 sheet e)
passed sheet e h = rw h refl

pub own-number : (refusal n : ℕ) → n ≡ 0 → refusal ≡ file_number refusal n
own-number refusal n e = rw (eq-eqb n 0 e) refl

pub other-number : (refusal n : ℕ) → (n ≡ 0 → ⊥) → 0 ≡ file_number refusal n
other-number refusal n h = rw (ne_eqb n 0 h) refl
