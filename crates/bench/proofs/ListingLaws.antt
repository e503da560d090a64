-- What a well-formed bench says of the rows that the order is made of; and that what is laid is what `order` replies.
use Rattle.std.specs.Prelude.{◌≡◌, refl, ℕ, ◌-◌, ◌≤◌, Bool, not, ◌&&◌, ◌||◌, List, ◌++◌, leb, eqb, length, replicate, take, drop}
use Rattle.std.proofs.Math.Path.{ap}
use Rattle.std.proofs.Common.{arith, eqb-true, leb-true, le-leb}
use Rattle.std.proofs.Math.Bool.{true, false}
use Rattle.std.specs.Bool.{beq}
use Rattle.words.specs.declared.Message.{Message}
use Rattle.words.specs.Ranges.{is_zero, stamp_fits}
use Rattle.words.specs.RangeLaws.{and_left, and_right}
use Rattle.tables.specs.declared.Row.{Row}
use Rattle.state.specs.declared.Bench.{Bench}
use Rattle.state.specs.State.{State, view}
use Rattle.state.proofs.EveryLaws.{both, every-mono}
use Rattle.state.specs.Tabled.{tabled, lengths_fit, is_empty_message, is_empty_row}
use Rattle.state.specs.WellFormed.{every, well_formed, row_fits}
use Rattle.state.proofs.WellLaws.{Well, RowOk, row_ok}
use Rattle.order.specs.Operations.{order_of}
use Rattle.order.specs.Keys.{row_ranged}
use Rattle.bench.specs.Listing.{Ordered, can_list, listed_reply, unlisted, laid_numbers, list_reply, list_left}
use Rattle.bench.proofs.ReplyLaws.{pick}
use Rattle.bench.specs.TabledUse.{well-tabled}

-- ---- a row of a well-formed state is inside the ranges

row-in-range : (s : State) → Well s → (r : Row) → row_fits s r ≡ true → row_ranged r ≡ true
row-in-range s w r e =
    let k : RowOk s r = row_ok s r e in
    let fit : Bool = stamp_fits s.accepted s.n r.stamp in
    let a : Bool = leb r.stamp.time.0 s.accepted in
    let z : Bool = beq (eqb r.stamp.time.0 0) (eqb r.stamp.process.0 0) in
    let y : Bool = leb r.stamp.process.0 s.n in
    let t : (a && z && y) ≡ true = and_left fit (not (eqb r.stamp.time.0 0) || is_zero r.value) k.pair in
    let time : r.stamp.time.0 ≤ s.accepted = leb-true _ _ (and_left a z (and_left (a && z) y t)) in
    let process : r.stamp.process.0 ≤ s.n = leb-true _ _ (and_right (a && z) y t) in
    let p : r.process.0 ≤ 7 = omega (arith, k.process.most, w.processes.most) in
    let x : r.register ≤ 16 = omega (arith, k.register.most, w.registers.most) in
    let i : r.invoked.0 ≤ 12000 = omega (arith, k.invoked, w.events) in
    let c : r.stamp.time.0 ≤ 12000 = omega (arith, time, w.events) in
    let q : r.stamp.process.0 ≤ 7 = omega (arith, process, w.processes.most) in
    both (both (le-leb _ _ k.process.least) (le-leb _ _ p))
    (both (both (le-leb _ _ k.register.least) (le-leb _ _ x)) (both (le-leb _ _ i) (both (le-leb _ _ c) (le-leb _ _ q))))

module _ (b : Bench) (messages : List Message) (rows : List Row) where
  abbrev lengths : Bool
  lengths = lengths_fit messages rows

  abbrev flight : Bool
  flight = leb b.flight 512

  abbrev used : Bool
  used = leb b.rows 1024

  abbrev behind : Bool
  behind = every is_empty_message (drop b.flight messages)

  abbrev unused : Bool
  unused = every is_empty_row (drop b.rows rows)

  fits : tabled b messages rows ≡ true → (lengths && flight && used) ≡ true
  unfolding tabled
  fits e =
      and_left (lengths && flight && used) behind
      (and_left (lengths && flight && used && behind) unused (and_left (lengths && flight && used && behind && unused) (well_formed (view b messages rows)) e))

  pub rows-1024 : tabled b messages rows ≡ true → length rows ≡ 1024
  rows-1024 e = eqb-true _ _ (and_right (eqb (length messages) 512) (eqb (length rows) 1024) (and_left lengths flight (and_left (lengths && flight) used (fits e))))

  pub count-1024 : tabled b messages rows ≡ true → b.rows ≤ 1024
  count-1024 e = leb-true _ _ (and_right (lengths && flight) used (fits e))

  pub rows-ranged : tabled b messages rows ≡ true → every row_ranged (take b.rows rows) ≡ true
  rows-ranged e =
      let w : Well (view b messages rows) = well-tabled b messages rows e in
      every-mono (row_fits (view b messages rows)) row_ranged (row-in-range (view b messages rows) w) (take b.rows rows) w.history

-- ---- the reply

pub record Listed (b : Bench) (messages : List Message) (rows : List Row) (out : List ℕ) (r : Ordered) (out' : List ℕ) : Type 0 where
  pub reply : r ≡ list_reply b messages rows out
  pub left : out' ≡ list_left b messages rows out

module _ (b : Bench) (messages : List Message) (rows : List Row) (out : List ℕ) where
  abbrev order : List ℕ
  order = order_of (take b.rows rows)

  abbrev can : Bool
  can = can_list (tabled b messages rows) (length out)

  pub can-formed : can ≡ true → tabled b messages rows ≡ true
  can-formed e = and_left (tabled b messages rows) (eqb (length out) 1024) e

  pub can-long : can ≡ true → length out ≡ 1024
  can-long e = eqb-true _ _ (and_right (tabled b messages rows) (eqb (length out) 1024) e)

  pub was-listed : can ≡ true → (n : ℕ) (zs : List ℕ) → n ≡ length order → zs ≡ order ++ replicate (1024 - length order) 0 → Listed b messages rows out (listed_reply n) zs
  unfolding list_reply list_left
  was-listed e n zs f g =
      record {
        reply = pick can true (listed_reply (length order)) unlisted _ e (ap listed_reply f);
        left = pick can true (laid_numbers order) out zs e g;
      }

  pub was-not : can ≡ false → Listed b messages rows out unlisted out
  unfolding list_reply list_left
  was-not e =
      record {
        reply = pick can false (listed_reply (length order)) unlisted _ e refl;
        left = pick can false (laid_numbers order) out out e refl;
      }
