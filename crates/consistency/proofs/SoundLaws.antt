-- Every state that accepted events give from a fresh start is sound, beside what its processes held.
use Rattle.std.specs.Prelude.{ℕ, ◌-◌, ◌≤◌, ◌<◌, ◌≡◌, refl, length, get_or}
use Rattle.std.proofs.Common.{sym, ap, subst, ◌∙◌, inl, arith}
use mathlib.Core.List.Memᴰ
use mathlib.Core.List.{List, [], ◌∷◌, map, Memᴰ}
use Rattle.std.proofs.lemmas.List.{length-map}
use Rattle.std.proofs.Math.ListN.{get_or-map}
use Rattle.words.specs.declared.Message.{Message}
use Rattle.words.specs.declared.Pair.{Pair}
use Rattle.words.specs.RangeLaws.{within-most}
use Rattle.words.specs.Stamps.{start_pair, start_stamp}
use Rattle.words.proofs.StampLaws.{at_most-reflexive}
use Rattle.words.specs.QuorumLaws.{inside-empty}
use Rattle.replica.specs.declared.Replica.{Replica}
use Rattle.tables.specs.declared.Row.{Row}
use Rattle.tables.specs.Tables.{empty_row}
use Rattle.state.specs.State.{State, fresh_replica, fresh, replica_of}
use Rattle.state.specs.Step.{step}
use Rattle.state.specs.Reached.{Reached}
use Rattle.state.specs.Reached.Reached.{start, next}
use Rattle.state.proofs.EveryLaws.{get_or-empty}
use Rattle.consistency.specs.Held.{Held, held_in, held_after}
use Rattle.consistency.specs.Unnamed.{unnamed, without_sets}
use Rattle.consistency.specs.Moves.{Move}
use Rattle.consistency.specs.MoveLaws.{moves}
use Rattle.moves.specs.Lists.{All}
use Rattle.moves.specs.Places.{fresh-replica}
use Rattle.moves.specs.RequestNumbers.{Numbered, Timely}
use Rattle.moves.specs.Stages.{asker}
use Rattle.moves.proofs.RequestNumberLaws.{reached-numbered}
use Rattle.consistency.specs.Sound.{Sound, Begun}
use Rattle.consistency.proofs.MoveKept.{move-kept}
use Rattle.consistency.proofs.StoresKept.{move-stores}
use Rattle.consistency.proofs.WaitsKept.{move-waits, now-idle}
use Rattle.consistency.proofs.FlightKept.{move-flight}
use Rattle.consistency.proofs.EntriesKept.{move-entered}
use Rattle.consistency.proofs.TurnsKept.{move-turns}

-- ---- a fresh start

module _ (n m : ℕ) where
  fresh-pair : (q j : ℕ) → get_or (replica_of (fresh n m) q).pairs j start_pair ≡ start_pair
  fresh-pair q j = ap (λ (r : Replica). get_or r.pairs j start_pair) (fresh-replica n m q) ∙ get_or-empty 16 j start_pair

  fresh-sound : n ≤ 7 → m ≤ 16 → Sound (fresh n m) (λ k time x. start_stamp)
  fresh-sound few registers =
      record {
        sized = record { few = few; registers = registers; seven = refl };
        recalls = record {
          now = λ k time x first l. sym (ap (λ (p : Pair). p.stamp) (fresh-pair k (x - 1)));
          rising = λ k x a b first l. at_most-reflexive start_stamp;
        };
        stores = λ q first. record {
          sixteen = ap (λ (r : Replica). length r.pairs) (fresh-replica n m q);
          early = λ j. omega (arith, ap (λ (p : Pair). p.stamp.time.0) (fresh-pair q j));
          source = λ j. inl (fresh-pair q j);
        };
        waits = λ q first. now-idle (fresh n m) (λ k time x. start_stamp) q fresh_replica (fresh-replica n m q) (inside-empty n) refl refl;
        flight = λ message f. absurd (Memᴰ.not-nil f);
        begun = λ message f. absurd (Memᴰ.not-nil f);
        rows = λ j l. absurd (omega arith);
        turns = record { pending = λ j l. absurd (omega arith); in_turn = λ i j l k. absurd (omega arith) };
      }

-- ---- request numbers, by the invariant of demand 2

member-of-all : {A : Type 0} (P : A → Type 0) {a : A} (xs : List A) → All P xs → Memᴰ a xs → P a
member-of-all P [] all m = absurd (Memᴰ.not-nil m)
member-of-all P (x ∷ xs) all (Memᴰ.head e) = subst P (sym e) all.0
member-of-all P (x ∷ xs) all (Memᴰ.tail m) = member-of-all P xs all.1 m

numbers-begun : (t : State) → Numbered t → (message : Message) → Memᴰ message t.flight → Begun t message message.body
numbers-begun t numbered message flying =
    (member-of-all (λ m. (1 ≤ asker m) × Timely (replica_of t (asker m)) m) t.flight numbered.timely flying).1.reached

-- ---- a move

move-sound : {s t : State} {held : Held} → Sound s held → Numbered t → Move s t → Sound t (held_after held t)
move-sound {t = t} sound numbered move =
    let kept = move-kept sound move in
    record {
      sized = record {
        few = rw kept.processes sound.sized.few;
        registers = rw kept.registers sound.sized.registers;
        seven = kept.replicas ∙ sound.sized.seven;
      };
      recalls = kept.recalls;
      stores = move-stores sound kept move;
      waits = move-waits sound kept move;
      flight = move-flight sound kept move;
      begun = numbers-begun t numbered;
      rows = move-entered sound kept move;
      turns = move-turns t sound move;
    }

-- the rows' sets are no part of it
unnamed-numbered : (t : State) → Numbered t → Numbered (without_sets t)
unnamed-numbered t n = record { timely = n.timely; once = n.once }

pub reached-sound : {s : State} (r : Reached s) → Sound (without_sets s) (held_in r)
unfolding held_in held_after
reached-sound (start n m f g) = fresh-sound n m (within-most n 7 f) (within-most m 16 g)
reached-sound (next s e r z) = continued (reached-sound r)
  where
    continued : Sound (without_sets s) (held_in r) → Sound (without_sets (step s e).state) (held_after (held_in r) (without_sets (step s e).state))
    continued sound =
        let few = sound.sized.few in
        let move = moves s sound.sized.seven few (λ message m. let c = sound.flight message m in (c.to-first, omega (arith, c.to_last))) e z in
        move-sound sound (unnamed-numbered (step s e).state (reached-numbered (step s e).state (next s e r z))) move

-- a completed operation was invoked before it was answered
pub answered-later : {s : State} → Reached s → (j : ℕ) → j < length s.rows → ((get_or s.rows j empty_row).answered.0 ≡ 0 → ⊥)
    → (get_or s.rows j empty_row).invoked.0 < (get_or s.rows j empty_row).answered.0
answered-later {s} r j l n =
    let row : get_or (map unnamed s.rows) j empty_row ≡ unnamed (get_or s.rows j empty_row) = get_or-map unnamed s.rows j empty_row in
    let there = (reached-sound r).rows j (omega (arith, length-map s.rows unnamed)) in
    subst (λ (y : Row). (y.answered.0 ≡ 0 → ⊥) → y.invoked.0 < y.answered.0) row (λ k. (there.done k).later) n
