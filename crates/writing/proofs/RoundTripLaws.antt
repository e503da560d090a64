-- The two round trips, proved; and what the second says of the writer's reply and of the lent output.
use Rattle.std.specs.Prelude.{ℕ, suc, ◌-◌, ◌≤◌, ◌≡◌, Bool, true, false, not, ◌||◌, eqb, ltb, length}
use Rattle.std.proofs.Math.Path.{refl, sym, ap}
use Rattle.std.proofs.Common.{◌∙◌, arith, length-append}
use Rattle.std.proofs.Math.Bool.{cond}
use mathlib.Core.List.{List, [], ◌∷◌, ◌++◌, append_assoc}
use borrow.Author.Tests.{eqb-true, eqb-false, eq-eqb, ltb-false, le-ltb}
use Rattle.words.specs.Ranges.{within}
use Rattle.tables.specs.Tables.{laid_at}
use Rattle.state.specs.declared.Event.{Event}
use Rattle.format.specs.Format.{byte_at, word_at, file_refusal}
use Rattle.writing.specs.Bytes.{word_bytes, events_bytes, behind_length, file_bytes}
use Rattle.writing.specs.Held.{Bytes, HeldAll}
use Rattle.writing.specs.Reading.{Reading, read_from, read_out}
use Rattle.writing.specs.Writing.{write_refusal, filed, write_reply, write_left}
use Rattle.writing.specs.RoundTrip.{ReadBack, WrittenBack}
use Rattle.writing.proofs.EventsLaws.{events-least}
use Rattle.writing.proofs.NumberLaws.{joined, word_back, word-again}
use Rattle.writing.proofs.SizeLaws.{word_size, file-size}
use Rattle.writing.proofs.TurnLaws.{reads_on, writes-on}
use Rattle.writing.proofs.WritingLaws.{Passed, passed}

-- ---- what was written is read

module _ (n m : ℕ) (events : List Event) where
  abbrev count : ℕ
  count = length (behind_length n m events)

  abbrev head : List ℕ
  head = word_bytes count ++ (1 ∷ (n ∷ (m ∷ [])))

  head-long : length head ≡ 7
  head-long = omega (arith, length-append (word_bytes count) (1 ∷ (n ∷ (m ∷ []))), word_size count)

  file-is : file_bytes n m events ≡ head ++ events_bytes events
  unfolding file_bytes
  file-is = sym (append_assoc (word_bytes count) (1 ∷ (n ∷ (m ∷ []))) (events_bytes events))

  read_all : HeldAll events → read_out (file_bytes n m events) ≡ record { events = events; refusal = 0 }
  unfolding read_out
  read_all held =
      ap (λ (file : List ℕ). read_from (length (file_bytes n m events)) file 7) file-is ∙ ap (read_from (length (file_bytes n m events)) (head ++ events_bytes events)) (sym head-long)
      ∙ reads_on (length (file_bytes n m events)) head events held (omega (arith, file-size n m events, events-least events))

  length-field : word_at (file_bytes n m events) 0 ≡ count
  unfolding file_bytes word_bytes
  length-field = word_back count

  length-right : word_at (file_bytes n m events) 0 ≡ length (file_bytes n m events) - 4
  length-right = let rest : count ≡ length (file_bytes n m events) - 4 = omega (arith, file-size n m events) in length-field ∙ rest

  version-right : byte_at (file_bytes n m events) 4 ≡ 1
  unfolding file_bytes word_bytes
  version-right = refl

  processes-right : byte_at (file_bytes n m events) 5 ≡ n
  unfolding file_bytes word_bytes
  processes-right = refl

  registers-right : byte_at (file_bytes n m events) 6 ≡ m
  unfolding file_bytes word_bytes
  registers-right = refl

  file-opens : (room : ℕ) → Passed n m (length (file_bytes n m events)) room → file_refusal (file_bytes n m events) ≡ 0
  unfolding file_refusal
  file-opens room p =
      rw (
        le-ltb (length (file_bytes n m events)) 7 (omega (arith, file-size n m events)),
        le-ltb 65536 (length (file_bytes n m events)) p.short,
        length-right,
        eq-eqb (length (file_bytes n m events) - 4) (length (file_bytes n m events) - 4) refl,
        version-right,
        processes-right,
        registers-right,
        p.processes,
        p.registers,
      ) refl

pub read_back : ReadBack
read_back n m events room held z =
    let p = passed n m (length (file_bytes n m events)) room (eq-eqb (write_refusal n m (length (file_bytes n m events)) room) 0 z) in
    record { opens = file-opens n m events room p; processes = processes-right n m events; registers = registers-right n m events; all = read_all n m events held }

-- ---- what was read is written

-- a file that none of 1 to 5 refuses
pub record Opened (bytes : List ℕ) : Type 0 where
  pub long : 7 ≤ length bytes
  pub short : length bytes ≤ 65536
  pub field : word_at bytes 0 ≡ length bytes - 4
  pub version : byte_at bytes 4 ≡ 1
  pub processes : within (byte_at bytes 5) 7 ≡ true
  pub registers : within (byte_at bytes 6) 16 ≡ true

none : (a b c d e f : Bool) → ◌≡◌ {A = ℕ} (cond (a || b) 1 (cond (not c) 2 (cond (not d) 3 (cond (not e) 4 (cond (not f) 5 0))))) 0
    → (a ≡ false) × ((b ≡ false) × ((c ≡ true) × ((d ≡ true) × ((e ≡ true) × (f ≡ true)))))
none true b c d e f z = absurd (eqb-false 1 0 refl z)
none false true c d e f z = absurd (eqb-false 1 0 refl z)
none false false false d e f z = absurd (eqb-false 2 0 refl z)
none false false true false e f z = absurd (eqb-false 3 0 refl z)
none false false true true false f z = absurd (eqb-false 4 0 refl z)
none false false true true true false z = absurd (eqb-false 5 0 refl z)
none false false true true true true z = (refl, (refl, (refl, (refl, (refl, refl)))))

pub opened : (bytes : List ℕ) → file_refusal bytes ≡ 0 → Opened bytes
unfolding file_refusal
opened bytes z =
    let held = none (ltb (length bytes) 7) (ltb 65536 (length bytes)) (eqb (word_at bytes 0) (length bytes - 4)) (eqb (byte_at bytes 4) 1) (within (byte_at bytes 5) 7) (within (byte_at bytes 6) 16) z in
    record {
      long = ltb-false (length bytes) 7 held.0;
      short = ltb-false 65536 (length bytes) held.1.0;
      field = eqb-true (word_at bytes 0) (length bytes - 4) held.1.1.0;
      version = eqb-true (byte_at bytes 4) 1 held.1.1.1.0;
      processes = held.1.1.1.1.0;
      registers = held.1.1.1.1.1;
    }

-- the head of a file, byte by byte, and the rest
again : (bytes : List ℕ) → Bytes bytes → Opened bytes → (read_out bytes).refusal ≡ 0 → file_bytes (byte_at bytes 5) (byte_at bytes 6) (read_out bytes).events ≡ bytes
unfolding read_out file_bytes
again [] held o z = absurd (omega (arith, o.long))
again (a ∷ []) held o z = absurd (omega (arith, o.long))
again (a ∷ (b ∷ [])) held o z = absurd (omega (arith, o.long))
again (a ∷ (b ∷ (c ∷ []))) held o z = absurd (omega (arith, o.long))
again (a ∷ (b ∷ (c ∷ (d ∷ [])))) held o z = absurd (omega (arith, o.long))
again (a ∷ (b ∷ (c ∷ (d ∷ (v ∷ []))))) held o z = absurd (omega (arith, o.long))
again (a ∷ (b ∷ (c ∷ (d ∷ (v ∷ (n ∷ [])))))) held o z = absurd (omega (arith, o.long))
again (a ∷ (b ∷ (c ∷ (d ∷ (v ∷ (n ∷ (m ∷ rest))))))) held o z = whole
  where
    front : List ℕ
    front = a ∷ (b ∷ (c ∷ (d ∷ (v ∷ (n ∷ (m ∷ []))))))

    reading : Reading
    reading = read_out (front ++ rest)

    events : events_bytes reading.events ≡ rest
    events = writes-on (length (front ++ rest)) front rest (λ i. held (suc (suc (suc (suc (suc (suc (suc i)))))))) (omega arith) z

    counted : length (behind_length n m reading.events) ≡ joined a b c d
    counted = let field : joined a b c d ≡ length (front ++ rest) - 4 = o.field in omega (arith, ap length events, field)

    whole : file_bytes n m reading.events ≡ front ++ rest
    whole =
        ap (λ (k : ℕ). word_bytes k ++ behind_length n m reading.events) counted
        ∙ ap (λ (l : List ℕ). l ++ behind_length n m reading.events) (word-again a b c d (held 0) (held 1) (held 2) (held 3))
        ∙ ap (λ (l : List ℕ). a ∷ (b ∷ (c ∷ (d ∷ (1 ∷ (n ∷ (m ∷ l))))))) events
        ∙ ap (λ (k : ℕ). a ∷ (b ∷ (c ∷ (d ∷ (k ∷ (n ∷ (m ∷ rest))))))) (sym o.version)

pub written_back : WrittenBack
written_back bytes held z meets = again bytes held (opened bytes z) meets

-- the writer takes it, and lays the same bytes at the front of the lent output
module _ (bytes : List ℕ) (held : Bytes bytes) (z : file_refusal bytes ≡ 0) (meets : (read_out bytes).refusal ≡ 0) (out : List ℕ) (room : length bytes ≤ length out) where
  accepted : write_refusal (byte_at bytes 5) (byte_at bytes 6) (length (file_bytes (byte_at bytes 5) (byte_at bytes 6) (read_out bytes).events)) (length out) ≡ 0
  unfolding write_refusal
  accepted =
      let o = opened bytes z in
      rw (written_back bytes held z meets, o.processes, o.registers, le-ltb 65536 (length bytes) o.short, le-ltb (length out) (length bytes) room) refl

  pub accepted-back : write_reply (byte_at bytes 5) (byte_at bytes 6) (read_out bytes).events (length out) ≡ record { refusal = 0; size = length bytes }
  unfolding write_reply
  accepted-back =
      ap (λ (number : ℕ). filed number (length (file_bytes (byte_at bytes 5) (byte_at bytes 6) (read_out bytes).events))) accepted
      ∙ ap (λ (file : List ℕ). filed 0 (length file)) (written_back bytes held z meets)

  pub laid-back : write_left (byte_at bytes 5) (byte_at bytes 6) (read_out bytes).events out ≡ laid_at 0 bytes out
  unfolding write_left
  laid-back =
      ap (λ (number : ℕ). cond (eqb number 0) (laid_at 0 (file_bytes (byte_at bytes 5) (byte_at bytes 6) (read_out bytes).events) out) out) accepted
      ∙ ap (λ (file : List ℕ). laid_at 0 file out) (written_back bytes held z meets)
