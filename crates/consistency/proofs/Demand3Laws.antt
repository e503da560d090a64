-- Our bench: the one order of every reached state explains it, and keeps real time.
use Rattle.std.specs.Prelude.{pos}
use Rattle.placing.specs.Sequential.{Sequential}
use Rattle.placing.specs.RealTime.{RealTime}
use Rattle.placing.proofs.Placing.{placing, real_time as placed-in-time}
use Rattle.state.specs.State.{State}
use Rattle.state.specs.Reached.{Reached}
use Rattle.consistency.specs.Operations.{operations_of, order_of}
use Rattle.consistency.proofs.FactsLaws.{facts}

pub sequential : (s : State) → Reached s → Sequential (pos 0) (operations_of s) (order_of s)
sequential s r = placing (pos 0) (operations_of s) (facts s r)

-- the order keeps real time too, as logical times tell it
pub real_time : (s : State) → Reached s → RealTime (operations_of s) (order_of s)
real_time s r = placed-in-time (pos 0) (operations_of s) (facts s r)
