use Rattle.std.proofs.Common.{◌∙◌, ap, sym, arith, refl}
use Rattle.csq_words.proofs.Imports.{with_prefix_of, table_size}
use Rattle.csq_words.proofs.Prefixes.{joins_seen_as, sees_all_as}
use Rattle.csq_words.proofs.SeatValues.{here, prefix_here}
use Rattle.csq_words.proofs.pass_seat.PassSeat.learn.Goals as goal

pub join_seat-requires : goal.join_seat-requires
join_seat-requires g c =
    let words = c.words.inside in
    let table = ap (λ w. w.table) c.words.view_is in
    let pass = here c.in-Some.is c.self.view_is c.self.invariant c.requires.words in
    let prefix = prefix_here c.seen.inside.seat c.seen.view_is c.seen.invariant in (
      pass.0 ∙ sym table,
      ap (λ z. z.table) c.seen.view_is ∙ (c.requires.seen ∙ sym table),
      c.seen.invariant.0,
      omega (arith, c.words.invariant.0, c.words.invariant.2),
      joins_seen_as (table_size words.table.shared.key) c.in-Some.seat.id c.seen.inside.seat.id c.in-Some.seat.me.0 c.seen.inside.seat.me.0 _ _ pass.2 prefix,
    )

pub load-requires : goal.load-requires
load-requires g c =
    let words = c.words.inside in
    let table = ap (λ w. w.table) c.words.view_is in
    let pass = here c.in-Some.is c.self.view_is c.self.invariant c.requires.words in
    let prefix = prefix_here c.seen.inside.seat c.seen.view_is c.seen.invariant in
    let joined = c.join_seat.ensures in (
      joined.0 ∙ (pass.0 ∙ sym table),
      omega (arith, c.words.invariant.0, c.words.invariant.2),
      sees_all_as (table_size words.table.shared.key) words.table.shared.table_id.slots c.join_seat.new.seat.id c.join_seat.new.seat.me _ _ (ap (λ m. m.0) joined.2 ∙ (λ k. with_prefix_of (pass.2 k) (prefix k))) _ refl,
    )
