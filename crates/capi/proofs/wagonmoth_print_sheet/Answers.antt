-- C has 0 for a buffer that is too short.
use Rattle.std.proofs.Common.{◌∙◌, ap}
use Rattle.std.specs.Result.{result_unwrap_or}
use Rattle.sheet_text.specs.TextLaws.{size-is}
use Rattle.capi.proofs.wagonmoth_print_sheet.Goals as goal

pub returns : goal.returns
returns c = (c.unwrap_or.ensures ∙ ap (λ r. result_unwrap_or r 0) c.print.ensures.value.0 ∙ size-is c.args.sheet c.args.out.now, c.print.ensures.value.1)
