-- What a query gathers: document 01, "Events". At first nothing, which is the starting pair; each response that counts leaves the greater pair.
use Rattle.words.specs.declared.Pair.{Pair}
use Rattle.words.specs.Stamps.{start_pair, newer}
use Rattle.replica.specs.declared.Gathered.{Gathered}

abbrev pub gathered_from : Pair → Gathered
gathered_from best = record { best = best }

abbrev pub nothing_gathered : Gathered
nothing_gathered = gathered_from start_pair

-- with one more response, which bears this pair
abbrev pub gathered_with : Gathered → Pair → Gathered
gathered_with gathered pair = gathered_from (newer gathered.best pair)
