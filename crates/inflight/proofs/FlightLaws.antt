-- What a run over a table of 512 messages says of its file, from whether it says that the file starts a bench; and that the text which is written from it is the file's.
use Rattle.std.specs.Prelude.{ℕ, ◌+◌, ◌-◌, ◌*◌, ◌≤◌, ◌<◌, ◌≡◌, Bool, true, false, List, [], ◌∷◌, ◌++◌, eqb, length, take, get_or, replicate}
use Rattle.std.proofs.Math.Path.{refl, ap}
use Rattle.std.proofs.Common.{sym, subst, ◌∙◌, append_assoc, append-nil, arith, length-append, length-take, eqb-true}
use Rattle.std.proofs.Math.Bool.{cond}
use Rattle.std.proofs.Math.Seq.{take-append_seam}
use Rattle.std.proofs.lemmas.List.{length-replicate, take_more}
use Rattle.words.specs.declared.Message.{Message}
use Rattle.tables.specs.declared.Row.{Row}
use Rattle.tables.specs.Tables.{empty_message}
use Rattle.state.specs.Stepped.{Stepped}
use Rattle.state.specs.State.{State, laid_messages}
use Rattle.state.specs.Tabled.{bench_of}
use Rattle.state.proofs.Sized.{reached-sized}
use Rattle.state.specs.Reached.{Reached}
use Rattle.bench.specs.Start.{no_bench, replied}
use Rattle.format.specs.Format.{file_refusal}
use Rattle.format.proofs.FileLaws.{file-opens}
use Rattle.schedule.specs.Opening.{opening_refusal, opens, ran_file, run_reply, run_messages}
use Rattle.schedule.proofs.FileLaws.{file-reached}
use Rattle.text.specs.Printed.{printed_refusal}
use Rattle.text.specs.declared.page.Page.{Page}
use Rattle.text.specs.Paged.{Adds}
use Rattle.text.specs.PagedLaws.{adds_text}
use Rattle.inflight.specs.Flight.{message_line, message_lines, in_flight, messages_left}

-- ---- the lines of a table's front, one more

lines-last : (messages : List Message) (m : Message) → message_lines (messages ++ (m ∷ [])) ≡ message_lines messages ++ message_line m
lines-last [] m = append-nil (message_line m)
lines-last (first ∷ rest) m = ap (λ (text : List ℕ). message_line first ++ text) (lines-last rest m) ∙ sym (append_assoc (message_line first) (message_lines rest) (message_line m))

pub one-message : (messages : List Message) (i : ℕ) (none : Message) → i < length messages
    → message_lines (take i messages) ++ message_line (get_or messages i none) ≡ message_lines (take (i + 1) messages)
one-message messages i none inside =
    sym (lines-last (take i messages) (get_or messages i none))
    ∙ ap message_lines (sym (take_more messages i none inside))

-- ---- a run whose history has 1,024 rows

module _ (bytes : List ℕ) (messages : List Message) (rows : List Row) (long : length rows ≡ 1024) where
  pub messages-reply : (r : Stepped) → r ≡ run_reply (length messages) (length rows) bytes → r ≡ run_reply (length messages) 1024 bytes
  messages-reply r e = e ∙ ap (λ (k : ℕ). run_reply (length messages) k bytes) long

  pub messages-left : (messages' : List Message) → messages' ≡ run_messages bytes messages rows → messages' ≡ messages_left bytes messages
  unfolding run_messages messages_left
  messages-left messages' e = e ∙ ap (λ (k : ℕ). cond (opens (length messages) k bytes) (laid_messages (ran_file bytes).state) messages) long

-- ---- what it says of the file

module _ (bytes : List ℕ) where
  by-test : (t : Bool) → eqb (file_refusal bytes) 0 ≡ t → in_flight bytes ≡ cond t (message_lines (ran_file bytes).state.flight) (printed_refusal (file_refusal bytes))
  unfolding in_flight
  by-test t e = ap (λ (u : Bool). cond u (message_lines (ran_file bytes).state.flight) (printed_refusal (file_refusal bytes))) e

-- the table holds the messages in flight of the state that the run stopped at, and the bench their number
pub record Flying (bytes : List ℕ) (r : Stepped) (messages : List Message) : Type 0 where
  pub file : eqb (file_refusal bytes) 0 ≡ true
  pub count : r.bench.flight ≡ length (ran_file bytes).state.flight
  pub few : r.bench.flight ≤ 512
  pub laid : messages ≡ laid_messages (ran_file bytes).state

module _ (bytes : List ℕ) (messages : List Message) (long : length messages ≡ 512) (r : Stepped) (e : r ≡ run_reply (length messages) 1024 bytes)
    (messages' : List Message) (f : messages' ≡ messages_left bytes messages) where
  abbrev stopped : State
  stopped = (ran_file bytes).state

  number_is : opening_refusal (length messages) 1024 bytes ≡ file_refusal bytes
  unfolding opening_refusal
  number_is = rw long refl

  opens-is : opens (length messages) 1024 bytes ≡ eqb (file_refusal bytes) 0
  opens-is = ap (λ (k : ℕ). eqb k 0) number_is

  abbrev reply : Bool → Stepped
  reply t = cond t (replied (ran_file bytes).refusal (bench_of stopped)) (replied (opening_refusal (length messages) 1024 bytes) no_bench)

  reply-is : (t : Bool) → eqb (file_refusal bytes) 0 ≡ t → r ≡ reply t
  unfolding run_reply
  reply-is t z = e ∙ ap reply (opens-is ∙ z)

  left_is : (t : Bool) → eqb (file_refusal bytes) 0 ≡ t → messages' ≡ cond t (laid_messages stopped) messages
  unfolding messages_left
  left_is t z = f ∙ ap (λ (u : Bool). cond u (laid_messages stopped) messages) (opens-is ∙ z)

  reached : eqb (file_refusal bytes) 0 ≡ true → Reached stopped
  reached z = file-reached bytes (file-opens bytes (eqb-true (file_refusal bytes) 0 z))

  flying : eqb (file_refusal bytes) 0 ≡ true → Flying bytes r messages'
  flying z =
      let count : r.bench.flight ≡ length stopped.flight = ap (λ (x : Stepped). x.bench.flight) (reply-is true z) in
      record { file = z; count = count; few = omega (arith, count, (reached-sized stopped (reached z)).flight); laid = left_is true z }

  begun : true ≡ opens (length messages) 1024 bytes → Flying bytes r messages'
  begun h = flying (sym opens-is ∙ sym h)

  unbegun : false ≡ opens (length messages) 1024 bytes → eqb (file_refusal bytes) 0 ≡ false
  unbegun h = sym opens-is ∙ sym h

  -- a file that starts no bench: its number
  text-refused : false ≡ opens (length messages) 1024 bytes → {p q : Page} → Adds (printed_refusal r.refusal) 14 p q → Adds (in_flight bytes) 73728 p q
  text-refused h w = adds_text (ap printed_refusal given ∙ sym (by-test bytes false (unbegun h))) (omega arith) w
    where
      given : r.refusal ≡ file_refusal bytes
      given = ap (λ (x : Stepped). x.refusal) (reply-is false (unbegun h)) ∙ number_is

-- a run over a table of 512 empty messages
module _ (bytes : List ℕ) (none : Message) {r : Stepped} {messages : List Message}
    (e : (r ≡ run_reply (length (replicate 512 none)) 1024 bytes) × (messages ≡ messages_left bytes (replicate 512 none))) where
  pub flown : true ≡ opens (length (replicate 512 none)) 1024 bytes → Flying bytes r messages
  flown h = begun bytes (replicate 512 none) (length-replicate 512 none) r e.0 messages e.1 h

  pub refused : false ≡ opens (length (replicate 512 none)) 1024 bytes → {p q : Page} → Adds (printed_refusal r.refusal) 14 p q → Adds (in_flight bytes) 73728 p q
  refused h w = text-refused bytes (replicate 512 none) (length-replicate 512 none) r e.0 messages e.1 h w

-- ---- the text of the messages in flight

module _ {bytes : List ℕ} {r : Stepped} {messages : List Message} (s : Flying bytes r messages) where
  pub in_table : r.bench.flight ≤ length messages
  in_table =
      subst (λ (l : List Message). r.bench.flight ≤ length l) (sym s.laid)
      (omega (arith, s.count, length-append (ran_file bytes).state.flight (replicate (512 - length (ran_file bytes).state.flight) empty_message)))

  front : take r.bench.flight messages ≡ (ran_file bytes).state.flight
  front =
      ap (λ (l : List Message). take r.bench.flight l) s.laid ∙ ap (λ (n : ℕ). take n (laid_messages (ran_file bytes).state)) s.count
      ∙ take-append_seam (ran_file bytes).state.flight (replicate (512 - length (ran_file bytes).state.flight) empty_message)

  pub few-lines : 144 * length (take r.bench.flight messages) ≤ 73728
  few-lines = omega (arith, s.few, length-take r.bench.flight messages)

  pub text-written : {p q : Page} → Adds (message_lines (take r.bench.flight messages)) (144 * length (take r.bench.flight messages)) p q → Adds (in_flight bytes) 73728 p q
  text-written w = adds_text (ap message_lines front ∙ sym (by-test bytes true s.file)) few-lines w
