-- The messages in flight and the packets in transit: the one at a place, all without it, and what a broadcast or a reply adds.
use Rattle.std.specs.Prelude.{ℕ, zero, suc, ◌≤◌, ◌<◌, ◌≡◌, refl, Bool, List, [], ◌∷◌, map, length, get_or}
use Rattle.std.proofs.Common.{ap, ◌∙◌, add-one, arith}
use Rattle.words.specs.declared.Message.{Message}
use Rattle.tables.specs.Tables.{empty_message, removed, following, copies}
use Rattle.sc_abd.specs.Algorithm1.{Content, to_all, bcast}
use Rattle.sc_abd.specs.System.{without, nowhere, asks_for, asks_after}
use Rattle.sc_abd.specs.Same.{content_of, packet_of}

pub packet-at : (i : ℕ) (xs : List Message) → i < length xs → get_or (map packet_of xs) i nowhere ≡ packet_of (get_or xs i empty_message)
packet-at i [] l = absurd (omega arith)
packet-at zero (x ∷ xs) l = refl
packet-at (suc i) (x ∷ xs) l = packet-at i xs (omega arith)

pub packets-without : (i : ℕ) (xs : List Message) → map packet_of (removed i xs) ≡ without i (map packet_of xs)
packets-without i [] = refl
packets-without zero (x ∷ xs) = refl
packets-without (suc i) (x ∷ xs) = ap (λ l. packet_of x ∷ l) (packets-without i xs)

pub packets-sent : (count : ℕ) (m : Message)
    → map packet_of (copies m count) ≡ to_all m.from.0 m.to.0 count (content_of m.time.0 m.rid.0 m.body)
packets-sent zero m = refl
packets-sent (suc count) m =
    ap (λ l. packet_of m ∷ l)
    (packets-sent count (following m)
    ∙ ap (λ j. to_all m.from.0 j count (content_of m.time.0 m.rid.0 m.body)) (add-one m.to.0))

-- a broadcast tells whether it is a query
pub asks-all : (n i : ℕ) (before : Bool) (m : Content) → 1 ≤ n → asks_after before (bcast n i m) ≡ asks_for before m
asks-all zero i before m l = absurd (omega arith)
asks-all (suc n) i before m l = refl
