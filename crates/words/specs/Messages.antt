-- The message of an unused place: a query, all fields 0.
use Rattle.words.specs.declared.Message.{Message}
use Rattle.words.specs.declared.Sender.{Sender}
use Rattle.words.specs.declared.Body.TheVariants.{Query}

abbrev pub empty_message : Message
empty_message =
    record {
      number = 0;
      from = record { 0 = 0 };
      to = record { 0 = 0 };
      time = record { 0 = 0 };
      rid = record { 0 = 0 };
      body = Query 0;
    }

-- what a receiver reads of an envelope
abbrev pub sender_of : Message → Sender
sender_of m = record { from = m.from; time = m.time; rid = m.rid }
