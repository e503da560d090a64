-- Requests and replies: who asks and who is asked, and the phase that a message is of.
use Rattle.std.specs.Prelude.{ℕ, Bool, true, false, cond}
use Rattle.words.specs.declared.Body.{Body}
use Rattle.words.specs.declared.Body.TheVariants.{Query, Response, Update, Ack}
use Rattle.words.specs.declared.Message.{Message}
use Rattle.replica.specs.declared.Phase.{Phase}
use Rattle.replica.specs.declared.Phase.TheVariants.{Idle, Querying, Updating}

abbrev pub is_reply : Body → Bool
is_reply (Query x) = false
is_reply (Response pair) = true
is_reply (Update x pair) = false
is_reply Ack = true

-- a request comes from the asker, a reply goes to it
abbrev pub asker : Message → ℕ
asker m = cond (is_reply m.body) m.to.0 m.from.0

abbrev pub asked : Message → ℕ
asked m = cond (is_reply m.body) m.from.0 m.to.0

pub data Stage : Type 0 where
  idle : Stage
  querying : Stage
  updating : Stage

-- the phase without what it keeps, and the phase that a message is of
abbrev pub stage_of : Phase → Stage
stage_of Idle = Stage.idle
stage_of (Querying row gathered) = Stage.querying
stage_of (Updating row sent) = Stage.updating

abbrev pub stage_for : Body → Stage
stage_for (Query x) = Stage.querying
stage_for (Response pair) = Stage.querying
stage_for (Update x pair) = Stage.updating
stage_for Ack = Stage.updating
