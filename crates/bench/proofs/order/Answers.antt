-- The order is asked only of a tabled bench and a table of 1,024 places; what is laid is what `order` replies.
use Rattle.std.proofs.Common.{◌∙◌, ap, sym, Bool, length}
use Rattle.bench.specs.Listing.{can_list}
use Rattle.bench.proofs.ListingLaws.{can-formed, can-long, rows-1024, count-1024, rows-ranged, was-listed, was-not}
use Rattle.bench.proofs.order.Goals as goal

pub fill_order-requires : goal.fill_order-requires
fill_order-requires c =
    let a = c.args in
    let can = ap (λ (t : Bool). can_list t (length a.out.now)) (sym c.is_tabled.ensures) ∙ c.if-is_tabled-out.true in
    let formed = can-formed a.b a.messages.now a.rows.now a.out.now can in
    let long = can-long a.b a.messages.now a.rows.now a.out.now can in
    (rows-1024 a.b a.messages.now a.rows.now formed, (long, (count-1024 a.b a.messages.now a.rows.now formed, rows-ranged a.b a.messages.now a.rows.now formed)))

pub returns-then-is_tabled-out : goal.returns-then-is_tabled-out
returns-then-is_tabled-out c =
    let a = c.args in
    let can = ap (λ (t : Bool). can_list t (length a.out.now)) (sym c.is_tabled.ensures) ∙ c.if-is_tabled-out.true in
    let r = was-listed a.b a.messages.now a.rows.now a.out.now can _ _ c.fill_order.ensures.0 c.fill_order.ensures.1 in
    (r.reply, r.left)

pub returns : goal.returns
returns c =
    let a = c.args in
    let can = ap (λ (t : Bool). can_list t (length a.out.now)) (sym c.is_tabled.ensures) ∙ c.if-is_tabled-out.false in
    let r = was-not a.b a.messages.now a.rows.now a.out.now can in
    (r.reply, r.left)
