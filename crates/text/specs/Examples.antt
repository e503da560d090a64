-- Case A of document 01, line by line, and numbers at their ends: the text as bytes.
use Rattle.std.specs.Prelude.{◌≡◌, refl, true, false, [], ◌∷◌, pos, negsuc}
use Rattle.words.specs.Stamps.{stamp_of}
use Rattle.tables.specs.declared.Kind.TheVariants.{Read, Write}
use Rattle.tables.specs.declared.Row.{Row}
use Rattle.tables.specs.Tables.{nobody}
use Rattle.text.specs.Lines.{run_text, proc_text, count_text}
use Rattle.text.specs.Printed.{decimal, signed, row_line, order_line, reg_line, printed_refusal}

-- 0; 18446744073709551615; -9223372036854775808
zero_is : decimal 0 ≡ 48 ∷ []
unfolding decimal
zero_is = refl

greatest-is : decimal 18446744073709551615 ≡ 49 ∷ 56 ∷ 52 ∷ 52 ∷ 54 ∷ 55 ∷ 52 ∷ 52 ∷ 48 ∷ 55 ∷ 51 ∷ 55 ∷ 48 ∷ 57 ∷ 53 ∷ 53 ∷ 49 ∷ 54 ∷ 49 ∷ 53 ∷ []
unfolding decimal
greatest-is = refl

least-is : signed (negsuc 9223372036854775807) ≡ 45 ∷ 57 ∷ 50 ∷ 50 ∷ 51 ∷ 51 ∷ 55 ∷ 50 ∷ 48 ∷ 51 ∷ 54 ∷ 56 ∷ 53 ∷ 52 ∷ 55 ∷ 55 ∷ 53 ∷ 56 ∷ 48 ∷ 56 ∷ []
unfolding signed decimal
least-is = refl

-- run 3 2 12 0
run-line : run_text 3 2 12 0 ≡ 114 ∷ 117 ∷ 110 ∷ 32 ∷ 51 ∷ 32 ∷ 50 ∷ 32 ∷ 49 ∷ 50 ∷ 32 ∷ 48 ∷ 10 ∷ []
unfolding decimal
run-line = refl

write : Row
write =
    record {
      process = record { 0 = 1 };
      kind = Write;
      register = 1;
      invoked = record { 0 = 1 };
      answered = record { 0 = 0 };
      stamp = stamp_of 1 1;
      value = pos 7;
      replied = nobody;
    }

-- processes 2 and 3 replied, twice
read : Row
read =
    record {
      process = record { 0 = 3 };
      kind = Read;
      register = 1;
      invoked = record { 0 = 1 };
      answered = record { 0 = 7 };
      stamp = stamp_of 1 1;
      value = pos 7;
      replied = record { query = 12; update = 12 };
    }

pending : Row
pending =
    record {
      process = record { 0 = 3 };
      kind = Read;
      register = 1;
      invoked = record { 0 = 1 };
      answered = record { 0 = 0 };
      stamp = stamp_of 0 0;
      value = pos 0;
      replied = nobody;
    }

-- op 1 1 w 1 1 - 1 1 7
write-line : row_line 1 write ≡ 111 ∷ 112 ∷ 32 ∷ 49 ∷ 32 ∷ 49 ∷ 32 ∷ 119 ∷ 32 ∷ 49 ∷ 32 ∷ 49 ∷ 32 ∷ 45 ∷ 32 ∷ 49 ∷ 32 ∷ 49 ∷ 32 ∷ 55 ∷ 10 ∷ []
unfolding write row_line decimal signed
write-line = refl

-- op 2 3 r 1 1 7 1 1 7
read-line : row_line 2 read ≡ 111 ∷ 112 ∷ 32 ∷ 50 ∷ 32 ∷ 51 ∷ 32 ∷ 114 ∷ 32 ∷ 49 ∷ 32 ∷ 49 ∷ 32 ∷ 55 ∷ 32 ∷ 49 ∷ 32 ∷ 49 ∷ 32 ∷ 55 ∷ 10 ∷ []
unfolding read row_line decimal signed
read-line = refl

-- op 2 3 r 1 1 - - - -, as it is before it is answered
pending-line : row_line 2 pending ≡ 111 ∷ 112 ∷ 32 ∷ 50 ∷ 32 ∷ 51 ∷ 32 ∷ 114 ∷ 32 ∷ 49 ∷ 32 ∷ 49 ∷ 32 ∷ 45 ∷ 32 ∷ 45 ∷ 32 ∷ 45 ∷ 32 ∷ 45 ∷ 10 ∷ []
unfolding pending row_line decimal signed
pending-line = refl

-- order 1 2
order-line : order_line (1 ∷ 2 ∷ []) ≡ 111 ∷ 114 ∷ 100 ∷ 101 ∷ 114 ∷ 32 ∷ 49 ∷ 32 ∷ 50 ∷ 10 ∷ []
unfolding order_line decimal
order-line = refl

-- proc 1 1 down; proc 2 5 up
down-line : proc_text 1 1 true ≡ 112 ∷ 114 ∷ 111 ∷ 99 ∷ 32 ∷ 49 ∷ 32 ∷ 49 ∷ 32 ∷ 100 ∷ 111 ∷ 119 ∷ 110 ∷ 10 ∷ []
unfolding decimal
down-line = refl

up-line : proc_text 2 5 false ≡ 112 ∷ 114 ∷ 111 ∷ 99 ∷ 32 ∷ 50 ∷ 32 ∷ 53 ∷ 32 ∷ 117 ∷ 112 ∷ 10 ∷ []
unfolding decimal
up-line = refl

-- reg 2 1 1 1 7; nothing of a register that was not written
reg-line : reg_line 2 1 (record { stamp = stamp_of 1 1; value = pos 7 }) ≡ 114 ∷ 101 ∷ 103 ∷ 32 ∷ 50 ∷ 32 ∷ 49 ∷ 32 ∷ 49 ∷ 32 ∷ 49 ∷ 32 ∷ 55 ∷ 10 ∷ []
unfolding reg_line decimal signed
reg-line = refl

no_line : reg_line 1 1 (record { stamp = stamp_of 0 0; value = pos 0 }) ≡ []
unfolding reg_line
no_line = refl

-- sent 14 delivered 9 lost 0 flight 5
count-line : count_text 14 9 0 5 ≡ 115 ∷ 101 ∷ 110 ∷ 116 ∷ 32 ∷ 49 ∷ 52 ∷ 32 ∷ 100 ∷ 101 ∷ 108 ∷ 105 ∷ 118 ∷ 101 ∷ 114 ∷ 101 ∷ 100 ∷ 32 ∷ 57 ∷ 32 ∷ 108 ∷ 111 ∷ 115 ∷ 116 ∷ 32 ∷ 48 ∷ 32 ∷ 102 ∷ 108 ∷ 105 ∷ 103 ∷ 104 ∷ 116 ∷ 32 ∷ 53 ∷ 10 ∷ []
unfolding decimal
count-line = refl

-- refused 4
refused-line : printed_refusal 4 ≡ 114 ∷ 101 ∷ 102 ∷ 117 ∷ 115 ∷ 101 ∷ 100 ∷ 32 ∷ 52 ∷ 10 ∷ []
unfolding printed_refusal decimal
refused-line = refl
