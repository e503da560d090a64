-- The schedule file: document 01, "Schedule file" and "Numbers of refusal". A file is a list of bytes.
use Rattle.std.specs.Prelude.{ℕ, ◌+◌, ◌-◌, ◌*◌, cond, not, ◌||◌, List, eqb, ltb, leb, ℤ, length, get_or}
use Rattle.std.specs.Int.{w64}
use Rattle.std.proofs.Common.{to_z}
use Rattle.words.specs.Ranges.{within}
use Rattle.state.specs.declared.Event.{Event}
use Rattle.state.specs.declared.Event.TheVariants.{Read, Write, Deliver, Crash, Lose}
use Rattle.format.specs.Parse.{Parse}
use Rattle.format.specs.Parse.{Next, Refused, End}

abbrev pub byte_at : List ℕ → ℕ → ℕ
byte_at bytes at = get_or bytes at 0

-- four bytes, big-endian
abbrev pub word_at : List ℕ → ℕ → ℕ
word_at bytes at = ((byte_at bytes at * 256 + byte_at bytes (at + 1)) * 256 + byte_at bytes (at + 2)) * 256 + byte_at bytes (at + 3)

-- eight bytes, big-endian, two's complement
abbrev pub value_of : List ℕ → ℕ → ℤ
value_of bytes at = to_z w64 (word_at bytes at * 4294967296 + word_at bytes (at + 4))

-- the file as a whole: 1 to 5, the first that holds; 0 if none
unfoldable pub file_refusal : List ℕ → ℕ
file_refusal bytes =
    cond (ltb (length bytes) 7 || ltb 65536 (length bytes)) 1
    (cond (not (eqb (word_at bytes 0) (length bytes - 4))) 2
    (cond (not (eqb (byte_at bytes 4) 1)) 3
    (cond (not (within (byte_at bytes 5) 7)) 4
    (cond (not (within (byte_at bytes 6) 16)) 5 0))))

-- an event of this many bytes, its first byte included; 7 if the end cuts it
abbrev pub whole : List ℕ → ℕ → ℕ → Event → Parse
whole bytes at size event = cond (leb (at + size) (length bytes)) (Next event (at + size)) (Refused 7)

-- the event at a place
unfoldable pub event_at : List ℕ → ℕ → Parse
event_at bytes at =
    let kind = byte_at bytes at in
    let p = byte_at bytes (at + 1) in
    let x = byte_at bytes (at + 2) in
    cond (leb (length bytes) at) End
    (cond (eqb kind 1) (whole bytes at 3 (Read (record { 0 = p }) x))
    (cond (eqb kind 2) (whole bytes at 11 (Write (record { 0 = p }) x (value_of bytes (at + 3))))
    (cond (eqb kind 3) (whole bytes at 5 (Deliver (word_at bytes (at + 1))))
    (cond (eqb kind 4) (whole bytes at 2 (Crash (record { 0 = p })))
    (cond (eqb kind 5) (whole bytes at 5 (Lose (word_at bytes (at + 1)))) (Refused 6))))))

-- document 01's number for what stands at a place: 6 or 7 where it is refused, 0 where an event or the end stands there
abbrev pub parse_refusal : Parse → ℕ
parse_refusal (Next event at) = 0
parse_refusal (Refused number) = number
parse_refusal End = 0
