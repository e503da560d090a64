-- The theorem of a sheet over a list of schedules: each total is the sum over those that were not refused by 28, and the least and the greatest wait are attained and bound all.
use Rattle.std.specs.Prelude.{ℕ, zero, suc, ◌+◌, ◌-◌, ◌≤◌, ◌<◌, ◌^◌, max, ◌≡◌, Bool, cond, not, ◌⊎◌, length, get_or, replicate}
use Rattle.std.proofs.Math.Path.{refl, sym}
use Rattle.std.proofs.Common.{ap, subst, ◌∙◌, inl, inr, ⊎_elim, length-append, length-set, get_or-set_same, get_or-set_other, eqb-true, lt-ltb}
use Rattle.std.proofs.Math.Bool.{true, false}
use mathlib.Core.List.{List, [], ◌∷◌, ◌++◌, append_assoc, append-nil, Memᴰ}
use native.Mathlib.Omega.{arith, min_cases, max_cases}
use Rattle.std.proofs.Math.Dec.{eqb}
use Rattle.std.proofs.lemmas.Bool.{eqb-false}
use Rattle.tables.specs.declared.Row.{Row}
use Rattle.format.specs.Format.{file_refusal}
use Rattle.schedule.specs.Opening.{ran_file}
use Rattle.figures.specs.declared.History.{History}
use Rattle.figures.specs.declared.Entry.{Entry}
use Rattle.figures.specs.declared.Sheet.{Sheet}
use Rattle.figures.specs.declared.Added.{Added}
use Rattle.figures.specs.Figures.{one, count_if, is_complete, waits_of, lesser, least_of, greatest_of, history_of, traffic_of, no_traffic}
use Rattle.figures.specs.Figures.{plus_history, empty_sheet, one_more, entered, sheet_fits}
use Rattle.sheets.specs.Sheet.{added_by, added}
use Rattle.sheets.specs.Totals.{sheet_over, taken_over, sum_over, Totals, Within64, rows_of, Completed, Extremes}
use Rattle.figures.specs.Figures.{in64, history_fits, traffic_fits}
use Rattle.figures.specs.PartLaws.{both-are}
use Rattle.figures.specs.HistoryLaws.{count-append, history-append}
use Rattle.sheets.proofs.EntryLaws.{entry-below}

-- ---- what one schedule adds

module _ (bytes : List ℕ) where
  abbrev adds : Bool → Entry
  adds t =
      cond t (record { refusal = 0; history = history_of (ran_file bytes).state.rows; traffic = traffic_of (ran_file bytes).state })
      (record { refusal = file_refusal bytes; history = history_of []; traffic = no_traffic })

  added-history : (added_by bytes).history ≡ history_of (rows_of bytes)
  unfolding added_by
  added-history = go (eqb (file_refusal bytes) 0)
    where
      go : (t : Bool) → (adds t).history ≡ history_of (cond t (ran_file bytes).state.rows [])
      go true = refl
      go false = refl

  added-number : (added_by bytes).refusal ≡ file_refusal bytes
  unfolding added_by
  added-number = go (eqb (file_refusal bytes) 0) refl
    where
      go : (t : Bool) → eqb (file_refusal bytes) 0 ≡ t → (adds t).refusal ≡ file_refusal bytes
      go true e = sym (eqb-true (file_refusal bytes) 0 e)
      go false e = refl

-- ---- one more count

module _ (counts : List ℕ) (j k : ℕ) (within : k < length counts) where
  more-count : get_or (one_more j counts) k 0 ≡ get_or counts k 0 + one (eqb j k)
  more-count = go (eqb j k) refl
    where
      go : (t : Bool) → eqb j k ≡ t → get_or (one_more j counts) k 0 ≡ get_or counts k 0 + one t
      go true e =
          let same = eqb-true j k e in
          subst (λ (i : ℕ). get_or (one_more i counts) k 0 ≡ get_or counts k 0 + 1) (sym same) (get_or-set_same counts k (get_or counts k 0 + 1) 0 within)
      go false e = get_or-set_other counts j k (get_or counts j 0 + 1) 0 (λ q. eqb-false j k e (sym q)) ∙ none (get_or counts k 0)
        where
          none : (n : ℕ) → n ≡ n + 0
          none n = omega arith

-- ---- over schedules

abbrev rows_over : List (List ℕ) → List Row
rows_over [] = []
rows_over (bytes ∷ files) = rows_of bytes ++ rows_over files

rows_append : (xs ys : List (List ℕ)) → rows_over (xs ++ ys) ≡ rows_over xs ++ rows_over ys
rows_append [] ys = refl
rows_append (x ∷ xs) ys = ap (λ (l : List Row). rows_of x ++ l) (rows_append xs ys) ∙ sym (append_assoc (rows_of x) (rows_over xs) (rows_over ys))

over-append : (of : List ℕ → ℕ) (xs ys : List (List ℕ)) → sum_over of (xs ++ ys) ≡ sum_over of xs + sum_over of ys
over-append of [] ys = omega arith
over-append of (x ∷ xs) ys = let e = over-append of xs ys in omega arith

-- what a sheet comes to, with the history as that of all rows
record Counts (files : List (List ℕ)) (s : Sheet) : Type 0 where
  schedules : s.schedules ≡ length files
  long : length s.files ≡ 32
  by_number : (k : ℕ) → k < 32 → get_or s.files k 0 ≡ count_if (λ bytes. eqb (file_refusal bytes) k) files
  history : s.history ≡ history_of (rows_over files)
  sent : s.traffic.sent ≡ sum_over (λ bytes. (added_by bytes).traffic.sent) files
  delivered : s.traffic.delivered ≡ sum_over (λ bytes. (added_by bytes).traffic.delivered) files
  lost : s.traffic.lost ≡ sum_over (λ bytes. (added_by bytes).traffic.lost) files
  left : s.traffic.left ≡ sum_over (λ bytes. (added_by bytes).traffic.left) files

zeros : (n k : ℕ) → ◌≡◌ {A = ℕ} (get_or (replicate n 0) k 0) 0
zeros zero k = refl
zeros (suc n) zero = refl
zeros (suc n) (suc k) = zeros n k

none-counts : Counts [] empty_sheet
none-counts =
    record {
      schedules = refl;
      long = refl;
      by_number = λ k l. zeros 32 k;
      history = refl;
      sent = refl;
      delivered = refl;
      lost = refl;
      left = refl;
    }

module _ (files : List (List ℕ)) (s : Sheet) (c : Counts files s) (bytes : List ℕ) where
  abbrev more : List (List ℕ)
  more = files ++ (bytes ∷ [])

  one-more : (of : List ℕ → ℕ) (n : ℕ) → n ≡ sum_over of files → n + of bytes ≡ sum_over of more
  one-more of n e = omega (arith, over-append of files (bytes ∷ []))

  number_more : (k : ℕ) → k < 32 → get_or (entered s (added_by bytes)).files k 0 ≡ count_if (λ b. eqb (file_refusal b) k) more
  number_more k l =
      more-count s.files (added_by bytes).refusal k (omega (arith, c.long))
      ∙ ap (λ (j : ℕ). get_or s.files k 0 + one (eqb j k)) (added-number bytes)
      ∙ ap (λ (n : ℕ). n + one (eqb (file_refusal bytes) k)) (c.by_number k l)
      ∙ last (count_if test files) (one (eqb (file_refusal bytes) k))
      ∙ sym (count-append test files (bytes ∷ []))
    where
      test : List ℕ → Bool
      test b = eqb (file_refusal b) k

      last : (n m : ℕ) → n + m ≡ n + (m + 0)
      last n m = omega arith

  history-more : plus_history s.history (added_by bytes).history ≡ history_of (rows_over more)
  history-more =
      ap (λ (h : History). plus_history h (added_by bytes).history) c.history
      ∙ ap (plus_history (history_of (rows_over files))) (added-history bytes)
      ∙ sym (history-append (rows_over files) (rows_of bytes))
      ∙ ap (λ (l : List Row). history_of (rows_over files ++ l)) (sym (append-nil (rows_of bytes)))
      ∙ ap history_of (sym (rows_append files (bytes ∷ [])))

  counts-more : Counts more (entered s (added_by bytes))
  counts-more =
      record {
        schedules = omega (arith, c.schedules, length-append files (bytes ∷ []));
        long = length-set s.files (added_by bytes).refusal _ ∙ c.long;
        by_number = number_more;
        history = history-more;
        sent = one-more (λ b. (added_by b).traffic.sent) s.traffic.sent c.sent;
        delivered = one-more (λ b. (added_by b).traffic.delivered) s.traffic.delivered c.delivered;
        lost = one-more (λ b. (added_by b).traffic.lost) s.traffic.lost c.lost;
        left = one-more (λ b. (added_by b).traffic.left) s.traffic.left c.left;
      }

-- ---- one schedule after another

abbrev replied : Sheet → List ℕ → Bool → Added
replied s bytes t = cond t (record { refusal = 0; sheet = entered s (added_by bytes) }) (record { refusal = 28; sheet = s })

reply-is : (s : Sheet) (bytes : List ℕ) → added s bytes ≡ replied s bytes (sheet_fits (added_by bytes).refusal (entered s (added_by bytes)))
unfolding added
reply-is s bytes = refl

counts-over : (done : List (List ℕ)) (s : Sheet) (files : List (List ℕ)) → Counts done s → Counts (done ++ taken_over s files) (sheet_over s files)
counts-over done s [] c = subst (λ (l : List (List ℕ)). Counts l s) (sym (append-nil done)) c
counts-over done s (bytes ∷ files) c =
    subst Next (sym (reply-is s bytes))
    (go (sheet_fits (added_by bytes).refusal (entered s (added_by bytes)))
    (counts-over (done ++ (bytes ∷ [])) (entered s (added_by bytes)) files (counts-more done s c bytes))
    (counts-over done s files c))
  where
    Next : Added → Type 0
    Next a = Counts (done ++ cond (eqb a.refusal 0) (bytes ∷ taken_over a.sheet files) (taken_over a.sheet files)) (sheet_over a.sheet files)

    go : (t : Bool) → Counts ((done ++ (bytes ∷ [])) ++ taken_over (entered s (added_by bytes)) files) (sheet_over (entered s (added_by bytes)) files)
        → Counts (done ++ taken_over s files) (sheet_over s files) → Next (replied s bytes t)
    go true taken not =
        subst (λ (l : List (List ℕ)). Counts l (sheet_over (entered s (added_by bytes)) files)) (append_assoc done (bytes ∷ []) (taken_over (entered s (added_by bytes)) files)) taken
    go false taken not = not

-- ---- each total is the sum

module _ (of : History → ℕ) (none : of (history_of []) ≡ 0) (sums : (a b : History) → of (plus_history a b) ≡ of a + of b) where
  history-sum : (files : List (List ℕ)) → of (history_of (rows_over files)) ≡ sum_over (λ bytes. of (added_by bytes).history) files
  history-sum [] = none
  history-sum (bytes ∷ files) =
      ap of (history-append (rows_of bytes) (rows_over files)) ∙ sums (history_of (rows_of bytes)) (history_of (rows_over files))
      ∙ ap (λ (h : History). of h + of (history_of (rows_over files))) (sym (added-history bytes)) ∙ ap (λ (n : ℕ). of (added_by bytes).history + n) (history-sum files)

module _ (files : List (List ℕ)) (s : Sheet) (c : Counts files s) where
  total : (of : History → ℕ) → of (history_of []) ≡ 0 → ((a b : History) → of (plus_history a b) ≡ of a + of b)
      → of s.history ≡ sum_over (λ bytes. of (added_by bytes).history) files
  total of none sums = ap of c.history ∙ history-sum of none sums files

  counts-total : Totals files s
  counts-total =
      record {
        schedules = c.schedules;
        by_number = c.by_number;
        reads-begun = total (λ h. h.reads.begun) refl (λ a b. refl);
        reads-completed = total (λ h. h.reads.completed) refl (λ a b. refl);
        writes-begun = total (λ h. h.writes.begun) refl (λ a b. refl);
        writes-completed = total (λ h. h.writes.completed) refl (λ a b. refl);
        sent = c.sent;
        delivered = c.delivered;
        lost = c.lost;
        left = c.left;
        waits-counted = total (λ h. h.waits.count) refl (λ a b. refl);
        waits-sum = total (λ h. h.waits.sum) refl (λ a b. refl);
      }

-- from an empty sheet, of the schedules that were not refused by 28
pub totals : (files : List (List ℕ)) → Totals (taken_over empty_sheet files) (sheet_over empty_sheet files)
totals files = counts-total (taken_over empty_sheet files) (sheet_over empty_sheet files) (counts-over [] empty_sheet files none-counts)

-- ---- where no total passes 64 bits, none is refused

in-64 : (n : ℕ) → n < 2 ^ 64 → in64 n ≡ true
in-64 n l = lt-ltb n (2 ^ 64) l

module _ (s : Sheet) (long : length s.files ≡ 32) (bytes : List ℕ) (files : List (List ℕ)) (w : Within64 s (bytes ∷ files)) where
  abbrev e : Entry
  e = added_by bytes

  below : e.refusal < length s.files
  below = omega (arith, entry-below bytes (added_by bytes) refl)

  of_number : get_or (entered s e).files e.refusal 0 < 2 ^ 64
  of_number =
      let more = more-count s.files e.refusal e.refusal below in
      let mine = w.by_number e.refusal (omega (arith, below)) in
      let same : one (eqb e.refusal e.refusal) ≡ one (eqb (file_refusal bytes) e.refusal) = ap (λ (k : ℕ). one (eqb k e.refusal)) (added-number bytes) in
      omega (arith, more, mine, same)

  history-within : history_fits (entered s e).history ≡ true
  history-within =
      both-are
      (both-are
      (both-are (in-64 (s.history.reads.begun + e.history.reads.begun) (omega (arith, w.reads-begun)))
      (in-64 (s.history.reads.completed + e.history.reads.completed) (omega (arith, w.reads-completed))))
      (both-are (in-64 (s.history.writes.begun + e.history.writes.begun) (omega (arith, w.writes-begun)))
      (in-64 (s.history.writes.completed + e.history.writes.completed) (omega (arith, w.writes-completed)))))
      (both-are (in-64 (s.history.waits.count + e.history.waits.count) (omega (arith, w.waits-counted)))
      (in-64 (s.history.waits.sum + e.history.waits.sum) (omega (arith, w.waits-sum))))

  traffic-within : traffic_fits (entered s e).traffic ≡ true
  traffic-within =
      both-are
      (both-are
      (both-are (in-64 (s.traffic.sent + e.traffic.sent) (omega (arith, w.sent)))
      (in-64 (s.traffic.delivered + e.traffic.delivered) (omega (arith, w.delivered))))
      (in-64 (s.traffic.lost + e.traffic.lost) (omega (arith, w.lost))))
      (in-64 (s.traffic.left + e.traffic.left) (omega (arith, w.left)))

  fits_next : sheet_fits e.refusal (entered s e) ≡ true
  fits_next =
      both-are
      (both-are (both-are (in-64 (s.schedules + 1) (omega (arith, w.schedules))) (in-64 (get_or (entered s e).files e.refusal 0) of_number)) history-within)
      traffic-within

  number-next : (k : ℕ) → k < 32 → get_or (entered s e).files k 0 + count_if (λ b. eqb (file_refusal b) k) files < 2 ^ 64
  number-next k l =
      let more = more-count s.files e.refusal k (omega (arith, long)) in
      let same : one (eqb e.refusal k) ≡ one (eqb (file_refusal bytes) k) = ap (λ (j : ℕ). one (eqb j k)) (added-number bytes) in
      omega (arith, more, same, w.by_number k l)

  within-next : Within64 (entered s e) files
  within-next =
      record {
        schedules = omega (arith, w.schedules);
        by_number = number-next;
        reads-begun = omega (arith, w.reads-begun);
        reads-completed = omega (arith, w.reads-completed);
        writes-begun = omega (arith, w.writes-begun);
        writes-completed = omega (arith, w.writes-completed);
        sent = omega (arith, w.sent);
        delivered = omega (arith, w.delivered);
        lost = omega (arith, w.lost);
        left = omega (arith, w.left);
        waits-counted = omega (arith, w.waits-counted);
        waits-sum = omega (arith, w.waits-sum);
      }

taken-all : (s : Sheet) → length s.files ≡ 32 → (files : List (List ℕ)) → Within64 s files → taken_over s files ≡ files
taken-all s long [] w = refl
taken-all s long (bytes ∷ files) w =
    ap (λ (a : Added). cond (eqb a.refusal 0) (bytes ∷ taken_over a.sheet files) (taken_over a.sheet files))
    (reply-is s bytes ∙ ap (replied s bytes) (fits_next s long bytes files w))
    ∙ ap (λ (l : List (List ℕ)). bytes ∷ l)
    (taken-all (entered s (added_by bytes)) (length-set s.files (added_by bytes).refusal (get_or s.files (added_by bytes).refusal 0 + 1) ∙ long) files (within-next s long bytes files w))

pub none-refused : (files : List (List ℕ)) → Within64 empty_sheet files → taken_over empty_sheet files ≡ files
none-refused files w = taken-all empty_sheet refl files w

-- ---- the least and the greatest of numbers

some : {A : Type 0} {a : A} {l : List A} → Memᴰ a l → 0 < length l
some (mathlib.Core.List.Memᴰ.head e) = omega arith
some (mathlib.Core.List.Memᴰ.tail m) = omega arith

least-in : (ws : List ℕ) → 0 < length ws → Memᴰ (least_of ws) ws
least-in [] l = absurd (omega arith)
least-in (n ∷ []) l = mathlib.Core.List.Memᴰ.head refl
least-in (n ∷ k ∷ ws) l =
    let below : Memᴰ (least_of (k ∷ ws)) (k ∷ ws) = least-in (k ∷ ws) (omega arith) in
    min_cases n (least_of (k ∷ ws)) (Memᴰ (least_of (n ∷ k ∷ ws)) (n ∷ k ∷ ws)) (λ le e. mathlib.Core.List.Memᴰ.head e) (λ le e. mathlib.Core.List.Memᴰ.tail (mathlib.Core.List.Memᴰ.cast e below))

lesser-left : (n others m : ℕ) → lesser 1 n others m ≤ n
lesser-left n zero m = omega arith
lesser-left n (suc others) m = omega arith

lesser-right : (n others m : ℕ) → 0 < others → lesser 1 n others m ≤ m
lesser-right n zero m l = absurd (omega arith)
lesser-right n (suc others) m l = omega arith

least-below : {w : ℕ} {ws : List ℕ} → Memᴰ w ws → least_of ws ≤ w
least-below {w} (mathlib.Core.List.Memᴰ.head {x = x} {xs = xs} e) = omega (arith, lesser-left x (length xs) (least_of xs), e)
least-below {w} (mathlib.Core.List.Memᴰ.tail {x = x} {xs = xs} m) = omega (arith, lesser-right x (length xs) (least_of xs) (some m), least-below m)

greatest-in : (ws : List ℕ) → 0 < length ws → Memᴰ (greatest_of ws) ws
greatest-in [] l = absurd (omega arith)
greatest-in (n ∷ []) l = let same : max n 0 ≡ n = omega arith in mathlib.Core.List.Memᴰ.head same
greatest-in (n ∷ k ∷ ws) l =
    let below : Memᴰ (greatest_of (k ∷ ws)) (k ∷ ws) = greatest-in (k ∷ ws) (omega arith) in
    max_cases n (greatest_of (k ∷ ws)) (Memᴰ (greatest_of (n ∷ k ∷ ws)) (n ∷ k ∷ ws)) (λ le e. mathlib.Core.List.Memᴰ.tail (mathlib.Core.List.Memᴰ.cast e below)) (λ le e. mathlib.Core.List.Memᴰ.head e)

greatest-above : {w : ℕ} {ws : List ℕ} → Memᴰ w ws → w ≤ greatest_of ws
greatest-above {w} (mathlib.Core.List.Memᴰ.head {x = x} {xs = xs} e) = let same : max x (greatest_of xs) ≡ greatest_of (x ∷ xs) = refl in omega (arith, e, same)
greatest-above {w} (mathlib.Core.List.Memᴰ.tail {x = x} {xs = xs} m) = let same : max x (greatest_of xs) ≡ greatest_of (x ∷ xs) = refl in omega (arith, greatest-above m, same)

-- ---- of rows

abbrev waited : Row → ℕ
waited row = row.answered.0 - row.invoked.0

record Waited (rows : List Row) (wait : ℕ) : Type 0 where
  row : Row
  listed : Memᴰ row rows
  complete : is_complete row ≡ true
  is : waited row ≡ wait

further : (row : Row) (rows : List Row) (wait : ℕ) → Waited rows wait → Waited (row ∷ rows) wait
further row rows wait w = record { row = w.row; listed = mathlib.Core.List.Memᴰ.tail w.listed; complete = w.complete; is = w.is }

who-waited : (rows : List Row) (wait : ℕ) → Memᴰ wait (waits_of rows) → Waited rows wait
who-waited [] wait m = absurd (mathlib.Core.List.Memᴰ.not-nil m)
who-waited (row ∷ rows) wait m = go (is_complete row) refl m (who-waited rows wait)
  where
    go : (t : Bool) → is_complete row ≡ t → Memᴰ wait (cond t (waited row ∷ waits_of rows) (waits_of rows)) → (Memᴰ wait (waits_of rows) → Waited rows wait)
        → Waited (row ∷ rows) wait
    go true e m later =
        ⊎_elim (λ same. record { row = row; listed = mathlib.Core.List.Memᴰ.head refl; complete = e; is = sym same }) (λ n. further row rows wait (later n)) (mathlib.Core.List.Memᴰ.cases_cons m)
    go false e m later = further row rows wait (later m)

wait-listed : {row : Row} {rows : List Row} → Memᴰ row rows → is_complete row ≡ true → Memᴰ (waited row) (waits_of rows)
wait-listed {row} (mathlib.Core.List.Memᴰ.head {x = x} {xs = xs} e) complete =
    subst (λ (t : Bool). Memᴰ (waited row) (cond t (waited x ∷ waits_of xs) (waits_of xs))) (sym (ap is_complete (sym e) ∙ complete)) (mathlib.Core.List.Memᴰ.head (ap waited e))
wait-listed {row} (mathlib.Core.List.Memᴰ.tail {x = x} {xs = xs} m) complete = go (is_complete x) (wait-listed m complete)
  where
    go : (t : Bool) → Memᴰ (waited row) (waits_of xs) → Memᴰ (waited row) (cond t (waited x ∷ waits_of xs) (waits_of xs))
    go true l = mathlib.Core.List.Memᴰ.tail l
    go false l = l

-- ---- of schedules

completed-in : (files : List (List ℕ)) (wait : ℕ) → Waited (rows_over files) wait → Completed files wait
completed-in [] wait w = absurd (mathlib.Core.List.Memᴰ.not-nil w.listed)
completed-in (bytes ∷ files) wait w = go (mathlib.Core.List.Memᴰ.append_cases (rows_of bytes) w.listed) (completed-in files wait)
  where
    go : Memᴰ w.row (rows_of bytes) ⊎ Memᴰ w.row (rows_over files) → (Waited (rows_over files) wait → Completed files wait) → Completed (bytes ∷ files) wait
    go (inl m) later = record { bytes = bytes; among = mathlib.Core.List.Memᴰ.head refl; row = w.row; listed = m; complete = w.complete; waited = w.is }
    go (inr m) later =
        let c = later (record { row = w.row; listed = m; complete = w.complete; is = w.is }) in
        record { bytes = c.bytes; among = mathlib.Core.List.Memᴰ.tail c.among; row = c.row; listed = c.listed; complete = c.complete; waited = c.waited }

row-among : {bytes : List ℕ} {files : List (List ℕ)} {row : Row} → Memᴰ bytes files → Memᴰ row (rows_of bytes) → Memᴰ row (rows_over files)
row-among {row = row} (mathlib.Core.List.Memᴰ.head {x = x} {xs = xs} e) m = mathlib.Core.List.Memᴰ.append_left (rows_over xs) (subst (λ (b : List ℕ). Memᴰ row (rows_of b)) e m)
row-among (mathlib.Core.List.Memᴰ.tail {x = x} {xs = xs} n) m = mathlib.Core.List.Memᴰ.append_right (rows_of x) (row-among n m)

module _ (files : List (List ℕ)) (s : Sheet) (c : Counts files s) where
  abbrev all : List ℕ
  all = waits_of (rows_over files)

  some-waited : 0 < s.history.waits.count → 0 < length all
  some-waited l = subst (λ (h : History). 0 < h.waits.count) c.history l

  listed : (wait : ℕ) → Completed files wait → Memᴰ wait all
  listed wait d = subst (λ (n : ℕ). Memᴰ n all) d.waited (wait-listed (row-among d.among d.listed) d.complete)

  counts-extremes : Extremes files s
  counts-extremes =
      record {
        least = λ l. subst (λ (h : History). Completed files h.waits.least) (sym c.history) (completed-in files _ (who-waited (rows_over files) _ (least-in all (some-waited l))));
        greatest = λ l. subst (λ (h : History). Completed files h.waits.greatest) (sym c.history) (completed-in files _ (who-waited (rows_over files) _ (greatest-in all (some-waited l))));
        bounds = λ wait d. subst (λ (h : History). (h.waits.least ≤ wait) × (wait ≤ h.waits.greatest)) (sym c.history) (least-below (listed wait d), greatest-above (listed wait d));
      }

pub extremes : (files : List (List ℕ)) → Extremes (taken_over empty_sheet files) (sheet_over empty_sheet files)
extremes files = counts-extremes (taken_over empty_sheet files) (sheet_over empty_sheet files) (counts-over [] empty_sheet files none-counts)
