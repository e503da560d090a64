-- What printing a sheet gives: how many bytes the text has, or, where the buffer is not always long enough, its refusal. C has 0 for that: no text is empty.
use Rattle.std.specs.Prelude.{ℕ, cond, List, Result, Ok, Err, leb, length}
use Rattle.words.specs.declared.refusal.Refusal.{Refusal}
use Rattle.words.specs.declared.refusal.Refusal.TheVariants.{ShortOutput}
use Rattle.figures.specs.declared.Sheet.{Sheet}
use Rattle.sheet_text.specs.SheetText.{sheet_text}

unfoldable pub print_result : Sheet → List ℕ → Result ℕ Refusal
print_result s out = cond (leb 1409 (length out)) (Ok (length (sheet_text s))) (Err ShortOutput)
