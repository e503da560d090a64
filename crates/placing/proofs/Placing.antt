-- The placing theorem: of every history that meets `Facts`, the one order is sequential, and it keeps real time.
use Rattle.std.specs.Prelude.{List}
use Rattle.placing.specs.Operation.{Operation}
use Rattle.placing.specs.Sequential.{Sequential}
use Rattle.placing.specs.RealTime.{RealTime}
use Rattle.placing.specs.OneOrder.{one_order}
use Rattle.placing.specs.Facts.{Facts}
use Rattle.placing.proofs.PlacedLaws.{placed-times}
use Rattle.placing.proofs.OrderLaws.{order-sequence, order-reads, order-real-time}

pub placing : {Value : Type 0} (nought : Value) (os : List (Operation Value)) → Facts nought os → Sequential nought os (one_order os)
placing nought os facts =
    record {
      once = placed-times os;
      sequence = order-sequence nought os facts;
      reads = order-reads nought os facts;
    }

pub real_time : {Value : Type 0} (nought : Value) (os : List (Operation Value)) → Facts nought os → RealTime os (one_order os)
real_time nought os facts = record { kept = order-real-time nought os facts }
