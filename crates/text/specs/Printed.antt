-- The text of a replay: document 01, "Replay output", line by line. A text is a list of bytes.
use Rattle.std.specs.Prelude.{ℕ, zero, suc, ◌+◌, ◌-◌, ◌/◌, ◌%◌, cond, List, [], ◌∷◌, ◌++◌, eqb, ltb, ℤ, pos, negsuc, length, get_or}
use Rattle.words.specs.declared.Pair.{Pair}
use Rattle.words.specs.Stamps.{start_pair}
use Rattle.replica.specs.declared.Replica.{Replica}
use Rattle.tables.specs.declared.Kind.{Kind}
use Rattle.tables.specs.declared.Kind.TheVariants.{Read, Write}
use Rattle.tables.specs.declared.Row.{Row}
use Rattle.state.specs.State.{State, replica_of}

-- ---- words and numbers

-- a number in decimal: its digits, the last first found
abbrev pub digits : ℕ → ℕ → List ℕ → List ℕ
digits zero n rest = rest
digits (suc left) n rest = cond (ltb n 10) ((48 + n) ∷ rest) (digits left (n / 10) ((48 + n % 10) ∷ rest))

-- no number here has more than 20 digits
unfoldable pub decimal : ℕ → List ℕ
decimal n = digits 20 n []

-- a value: `-` in front of a negative one
unfoldable pub signed : ℤ → List ℕ
signed (pos n) = decimal n
signed (negsuc n) = 45 ∷ decimal (suc n)

abbrev pub space : ℕ
space = 32

abbrev pub newline : ℕ
newline = 10

-- what stands for something that is not there
abbrev pub dash : List ℕ
dash = 45 ∷ []

abbrev pub word_run : List ℕ
word_run = 114 ∷ (117 ∷ (110 ∷ []))

abbrev pub word_op : List ℕ
word_op = 111 ∷ (112 ∷ [])

abbrev pub word_order : List ℕ
word_order = 111 ∷ (114 ∷ (100 ∷ (101 ∷ (114 ∷ []))))

abbrev pub word_proc : List ℕ
word_proc = 112 ∷ (114 ∷ (111 ∷ (99 ∷ [])))

abbrev pub word_reg : List ℕ
word_reg = 114 ∷ (101 ∷ (103 ∷ []))

abbrev pub word_sent : List ℕ
word_sent = 115 ∷ (101 ∷ (110 ∷ (116 ∷ [])))

abbrev pub word_delivered : List ℕ
word_delivered = 100 ∷ (101 ∷ (108 ∷ (105 ∷ (118 ∷ (101 ∷ (114 ∷ (101 ∷ (100 ∷ []))))))))

abbrev pub word_lost : List ℕ
word_lost = 108 ∷ (111 ∷ (115 ∷ (116 ∷ [])))

abbrev pub word_flight : List ℕ
word_flight = 102 ∷ (108 ∷ (105 ∷ (103 ∷ (104 ∷ (116 ∷ [])))))

abbrev pub word_up : List ℕ
word_up = 117 ∷ (112 ∷ [])

abbrev pub word_down : List ℕ
word_down = 100 ∷ (111 ∷ (119 ∷ (110 ∷ [])))

abbrev pub word_refused : List ℕ
word_refused = 114 ∷ (101 ∷ (102 ∷ (117 ∷ (115 ∷ (101 ∷ (100 ∷ []))))))

-- a field: a space and what follows
abbrev pub field : List ℕ → List ℕ
field text = space ∷ text

abbrev pub number : ℕ → List ℕ
number n = field (decimal n)

-- ---- the lines

-- run N M accepted refusal
unfoldable pub run_line : State → ℕ → List ℕ
run_line s refusal = word_run ++ (number s.n ++ (number s.m ++ (number s.accepted ++ (number refusal ++ (newline ∷ [])))))

-- kind r or w
abbrev pub letter_of : Kind → ℕ
letter_of Read = 114
letter_of Write = 119

-- `-` for answered while pending
abbrev pub answered : ℕ → List ℕ
answered zero = field dash
answered (suc t) = number (suc t)

-- `- - -` at the end for a pending read
abbrev pub pair_of : Row → List ℕ
pair_of r = number r.stamp.time.0 ++ (number r.stamp.process.0 ++ field (signed r.value))

abbrev pub ending : Kind → ℕ → Row → List ℕ
ending Read zero r = field dash ++ (field dash ++ field dash)
ending Read (suc t) r = pair_of r
ending Write t r = pair_of r

-- op number process kind register invoked answered time process value
unfoldable pub row_line : ℕ → Row → List ℕ
row_line i r =
    word_op ++ (number i ++ (number r.process.0 ++ (field (letter_of r.kind ∷ []) ++ (number r.register ++ (number r.invoked.0
    ++ (answered r.answered.0 ++ (ending r.kind r.answered.0 r ++ (newline ∷ []))))))))

abbrev pub row_lines : ℕ → List Row → List ℕ
row_lines i [] = []
row_lines i (r ∷ rest) = row_line i r ++ row_lines (suc i) rest

-- `order` and the row numbers
abbrev pub numbers : List ℕ → List ℕ
numbers [] = []
numbers (i ∷ rest) = number i ++ numbers rest

unfoldable pub order_line : List ℕ → List ℕ
order_line order = word_order ++ (numbers order ++ (newline ∷ []))

-- proc p clock up|down
unfoldable pub proc_line : ℕ → Replica → List ℕ
proc_line p r =
    word_proc ++ (number p ++ (number r.clock.0 ++ (field (cond r.crashed word_down word_up) ++ (newline ∷ []))))

-- for processes p, p + 1 .. as many as are left
abbrev pub proc_lines : State → ℕ → ℕ → List ℕ
proc_lines s p zero = []
proc_lines s p (suc left) = proc_line p (replica_of s p) ++ proc_lines s (suc p) left

-- reg p x time process value, where the stamp time is above 0
unfoldable pub reg_line : ℕ → ℕ → Pair → List ℕ
reg_line p x pair =
    cond (eqb pair.stamp.time.0 0) []
    (word_reg ++ (number p ++ (number x ++ (number pair.stamp.time.0 ++ (number pair.stamp.process.0
    ++ (field (signed pair.value) ++ (newline ∷ [])))))))

abbrev pub reg_lines : Replica → ℕ → ℕ → ℕ → List ℕ
reg_lines r p x zero = []
reg_lines r p x (suc left) = reg_line p x (get_or r.pairs (x - 1) start_pair) ++ reg_lines r p (suc x) left

abbrev pub store_lines : State → ℕ → ℕ → List ℕ
store_lines s p zero = []
store_lines s p (suc left) = reg_lines (replica_of s p) p 1 s.m ++ store_lines s (suc p) left

-- sent a delivered b lost c flight d
unfoldable pub count_line : State → List ℕ
count_line s =
    word_sent ++ (number s.sent ++ (field word_delivered ++ (number s.delivered ++ (field word_lost ++ (number s.lost ++ (field word_flight
    ++ (number (length s.flight) ++ (newline ∷ []))))))))

-- the whole text of a replay that started a bench
unfoldable pub printed : State → ℕ → List ℕ → List ℕ
printed s refusal order =
    run_line s refusal ++ (row_lines 1 s.rows ++ (order_line order ++ (proc_lines s 1 s.n ++ (store_lines s 1 s.n ++ count_line s))))

-- a file refused by 1 to 5 prints only this
unfoldable pub printed_refusal : ℕ → List ℕ
printed_refusal refusal = word_refused ++ (number refusal ++ (newline ∷ []))
