-- One operation of a history, over any type of values. A mark is a logical time, or any other number that meets `Facts`.
use Rattle.std.specs.Prelude.{ℕ, Bool, true, false, ◌||◌}
use Rattle.std.proofs.Math.Option.{Option, none, some}
use Rattle.words.specs.declared.Stamp.{Stamp}

pub data Kind : Type 0 where
  Read Write : Kind

pub record Operation (Value : Type 0) : Type 0 where
  pub process : ℕ
  pub kind : Kind
  pub register : ℕ
  -- the invocation mark, and the response mark or none while the operation is pending
  pub invoked : ℕ
  pub answered : Option ℕ
  pub stamp : Stamp
  pub value : Value

abbrev pub is_write : Kind → Bool
is_write Read = false
is_write Write = true

abbrev pub is_some : {A : Type 0} → Option A → Bool
is_some none = false
is_some (some a) = true

-- listed: all completed operations and all writes invoked; a pending read is not
abbrev pub listed : {Value : Type 0} → Operation Value → Bool
listed o = is_some o.answered || is_write o.kind
