-- The lines over plain numbers, as they are written.
use Rattle.std.specs.Prelude.{ℕ, zero, suc, ◌-◌, Bool, false, cond, List, [], ◌∷◌, ◌++◌, get_or, eqb, ℤ}
use Rattle.words.specs.declared.Pair.{Pair}
use Rattle.words.specs.declared.Stamp.{Stamp}
use Rattle.words.specs.Stamps.{start_pair}
use Rattle.tables.specs.declared.Kind.{Kind}
use Rattle.tables.specs.declared.Kind.TheVariants.{Read, Write}
use Rattle.tables.specs.declared.Row.{Row}
use Rattle.replica.specs.declared.Replica.{Replica}
use Rattle.state.specs.declared.Bench.{Bench}
use Rattle.state.specs.State.{fresh_replica}
use Rattle.text.specs.Printed.{number, field, signed, newline, dash, letter_of, answered, ending, word_op, word_reg, word_run}
use Rattle.text.specs.Printed.{word_proc, word_up, word_down, word_sent, word_delivered, word_lost, word_flight, proc_line, reg_line, reg_lines, order_line}

abbrev pub run_text : ℕ → ℕ → ℕ → ℕ → List ℕ
run_text n m accepted refusal = word_run ++ (number n ++ (number m ++ (number accepted ++ (number refusal ++ (newline ∷ [])))))

-- up or down
abbrev pub state_text : Bool → List ℕ
state_text crashed = field (cond crashed word_down word_up)

abbrev pub proc_text : ℕ → ℕ → Bool → List ℕ
proc_text p clock crashed = word_proc ++ (number p ++ (number clock ++ (state_text crashed ++ (newline ∷ []))))

abbrev pub count_text : ℕ → ℕ → ℕ → ℕ → List ℕ
count_text sent delivered lost flight =
    word_sent ++ (number sent ++ (field word_delivered ++ (number delivered ++ (field word_lost ++ (number lost ++ (field word_flight
    ++ (number flight ++ (newline ∷ []))))))))

-- a stamp and a value
abbrev pub pair_text : Stamp → ℤ → List ℕ
pair_text stamp value = number stamp.time.0 ++ (number stamp.process.0 ++ field (signed value))

-- a pending read has no pair to print
abbrev pub is_blank : Kind → ℕ → Bool
is_blank Read t = eqb t 0
is_blank Write t = false

abbrev pub blank_text : List ℕ
blank_text = field dash ++ (field dash ++ field dash)

-- a row up to its kind, and from its register on
abbrev pub row_head : ℕ → ℕ → Kind → List ℕ
row_head i process kind = word_op ++ (number i ++ (number process ++ field (letter_of kind ∷ [])))

abbrev pub row_rest : Row → List ℕ
row_rest r =
    number r.register ++ (number r.invoked.0 ++ (answered r.answered.0 ++ (ending r.kind r.answered.0 r ++ (newline ∷ []))))

-- a register that was written
abbrev pub reg_text : ℕ → ℕ → Pair → List ℕ
reg_text p x pair = word_reg ++ (number p ++ (number x ++ (pair_text pair.stamp pair.value ++ (newline ∷ []))))

-- as many registers of a process as are left, from x on
abbrev pub reg_texts : List Pair → ℕ → ℕ → ℕ → List ℕ
reg_texts pairs p x zero = []
reg_texts pairs p x (suc left) = reg_line p x (get_or pairs (x - 1) start_pair) ++ reg_texts pairs p (suc x) left

-- as many processes as are left, from p on: their clocks, and their registers up to m
abbrev pub proc_texts : List Replica → ℕ → ℕ → List ℕ
proc_texts replicas p zero = []
proc_texts replicas p (suc left) = proc_line p (get_or replicas (p - 1) fresh_replica) ++ proc_texts replicas (suc p) left

abbrev pub store_texts : List Replica → ℕ → ℕ → ℕ → List ℕ
store_texts replicas m p zero = []
store_texts replicas m p (suc left) = reg_lines (get_or replicas (p - 1) fresh_replica) p 1 m ++ store_texts replicas m (suc p) left

-- what follows the rows, of a bench
abbrev pub tail_text : Bench → List ℕ → List ℕ
tail_text b order =
    order_line order ++ (proc_texts b.replicas 1 b.n ++ (store_texts b.replicas b.m 1 b.n
    ++ count_text b.sent b.delivered b.lost b.flight))
