use Rattle.std.proofs.Common.{◌∙◌, ap, sym, arith}
use Rattle.csq_words.specs.Rule.{table_size}
use Rattle.csq_words.proofs.Prefixes.{copies_seen_as}
use Rattle.csq_words.proofs.seen.SeenPrefix.again.Goals as goal

pub split_seat-seat-requires : goal.split_seat-seat-requires
split_seat-seat-requires g c =
    let words = c.words.inside in (
      ap (λ z. z.table) c.self.view_is ∙ (c.requires.words ∙ sym (ap (λ w. w.table) c.words.view_is)),
      omega (arith, c.words.invariant.0, c.words.invariant.2),
      copies_seen_as (table_size words.table.shared.key) c.self.inside.seat.id c.self.inside.seat.me.0 _ c.self.invariant.1,
    )
