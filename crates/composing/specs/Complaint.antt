-- What is said of a line that is wrong: `line NUMBER: ` and what is wrong with it. A text is a list of bytes.
use Rattle.std.specs.Prelude.{ℕ, List, [], ◌∷◌, ◌++◌}
use Rattle.text.specs.Printed.{number}
use Rattle.showing.specs.Shown.{ended}
use Rattle.script.specs.declared.Fault.{Fault}
use Rattle.script.specs.declared.Fault.TheVariants.{Unknown, Missing, TooMany, NotANumber, TooLarge, NoBench, Processes, Registers, TooLong}

abbrev pub word_line : List ℕ
word_line = 108 ∷ (105 ∷ (110 ∷ (101 ∷ [])))

-- `: unknown word`
abbrev pub text_unknown : List ℕ
text_unknown = 58 ∷ (32 ∷ (117 ∷ (110 ∷ (107 ∷ (110 ∷ (111 ∷ (119 ∷ (110 ∷ (32 ∷ (119 ∷ (111 ∷ (114 ∷ (100 ∷ [])))))))))))))

-- `: a number is missing`
abbrev pub text_missing : List ℕ
text_missing = 58 ∷ (32 ∷ (97 ∷ (32 ∷ (110 ∷ (117 ∷ (109 ∷ (98 ∷ (101 ∷ (114 ∷ (32 ∷ (105 ∷ (115 ∷ (32 ∷ (109 ∷ (105 ∷ (115 ∷ (115 ∷ (105 ∷ (110 ∷ (103 ∷ []))))))))))))))))))))

-- `: too many words`
abbrev pub text_too_many : List ℕ
text_too_many = 58 ∷ (32 ∷ (116 ∷ (111 ∷ (111 ∷ (32 ∷ (109 ∷ (97 ∷ (110 ∷ (121 ∷ (32 ∷ (119 ∷ (111 ∷ (114 ∷ (100 ∷ (115 ∷ [])))))))))))))))

-- `: not a number`
abbrev pub text_not_a_number : List ℕ
text_not_a_number = 58 ∷ (32 ∷ (110 ∷ (111 ∷ (116 ∷ (32 ∷ (97 ∷ (32 ∷ (110 ∷ (117 ∷ (109 ∷ (98 ∷ (101 ∷ (114 ∷ [])))))))))))))

-- `: too large for its field`
abbrev pub text_too_large : List ℕ
text_too_large = 58 ∷ (32 ∷ (116 ∷ (111 ∷ (111 ∷ (32 ∷ (108 ∷ (97 ∷ (114 ∷ (103 ∷ (101 ∷ (32 ∷ (102 ∷ (111 ∷ (114 ∷ (32 ∷ (105 ∷ (116 ∷ (115 ∷ (32 ∷ (102 ∷ (105 ∷ (101 ∷ (108 ∷ (100 ∷ []))))))))))))))))))))))))

-- `: bench N M stands first, and only there`
abbrev pub text_no_bench : List ℕ
text_no_bench = 58 ∷ (32 ∷ (98 ∷ (101 ∷ (110 ∷ (99 ∷ (104 ∷ (32 ∷ (78 ∷ (32 ∷ (77 ∷ (32 ∷ (115 ∷ (116 ∷ (97 ∷ (110 ∷ (100 ∷ (115 ∷ (32 ∷ (102 ∷ (105 ∷ (114 ∷ (115 ∷ (116 ∷ (44 ∷ (32 ∷ (97 ∷ (110 ∷ (100 ∷ (32 ∷ (111 ∷ (110 ∷ (108 ∷ (121 ∷ (32 ∷ (116 ∷ (104 ∷ (101 ∷ (114 ∷ (101 ∷ [])))))))))))))))))))))))))))))))))))))))

-- `: N is not 1 to 7`
abbrev pub text_processes : List ℕ
text_processes = 58 ∷ (32 ∷ (78 ∷ (32 ∷ (105 ∷ (115 ∷ (32 ∷ (110 ∷ (111 ∷ (116 ∷ (32 ∷ (49 ∷ (32 ∷ (116 ∷ (111 ∷ (32 ∷ (55 ∷ []))))))))))))))))

-- `: M is not 1 to 16`
abbrev pub text_registers : List ℕ
text_registers = 58 ∷ (32 ∷ (77 ∷ (32 ∷ (105 ∷ (115 ∷ (32 ∷ (110 ∷ (111 ∷ (116 ∷ (32 ∷ (49 ∷ (32 ∷ (116 ∷ (111 ∷ (32 ∷ (49 ∷ (54 ∷ [])))))))))))))))))

-- `: the file would pass 65,536 bytes`
abbrev pub text_too_long : List ℕ
text_too_long = 58 ∷ (32 ∷ (116 ∷ (104 ∷ (101 ∷ (32 ∷ (102 ∷ (105 ∷ (108 ∷ (101 ∷ (32 ∷ (119 ∷ (111 ∷ (117 ∷ (108 ∷ (100 ∷ (32 ∷ (112 ∷ (97 ∷ (115 ∷ (115 ∷ (32 ∷ (54 ∷ (53 ∷ (44 ∷ (53 ∷ (51 ∷ (54 ∷ (32 ∷ (98 ∷ (121 ∷ (116 ∷ (101 ∷ (115 ∷ [])))))))))))))))))))))))))))))))))

unfoldable pub fault_text : Fault → List ℕ
fault_text Unknown = text_unknown
fault_text Missing = text_missing
fault_text TooMany = text_too_many
fault_text NotANumber = text_not_a_number
fault_text TooLarge = text_too_large
fault_text NoBench = text_no_bench
fault_text Processes = text_processes
fault_text Registers = text_registers
fault_text TooLong = text_too_long

unfoldable pub complaint : ℕ → Fault → List ℕ
complaint line fault = word_line ++ (number line ++ (fault_text fault ++ ended))
