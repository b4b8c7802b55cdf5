use Rattle.std.proofs.Common.{◌≡◌, ◌-◌, true, List, ◌∷◌, ◌∙◌, ap, sym, subst, rules}
use Rattle.csq_queue.proofs.Imports.{slice_set, PassRecord, MayComeBack, joined_record, pass_record, held_count, owed_count, AreFlags, OpenPassState, limits_on}
use Rattle.csq_queue.proofs.Backing.{may_come_back, flags_more}
use Rattle.csq_queue.proofs.Opening.{IsOpenOn, on_words, own_words, pass_on}
use Rattle.csq_queue.proofs.open.queue.OpenQueue.give_back.Goals as goal

pub note-requires-clause-may : goal.note-requires-clause-may
note-requires-clause-may g c =
    let n = c.args.words.now.size.irps in
    let r = pass_record c.pass.inside.seat in
    let held : held_count r.steps ≡ 0 = ap (λ (z : OpenPassState). held_count z.pass.steps) c.pass.view_is ∙ c.requires.nothing.0 in
    let owed : owed_count r.steps ≡ 0 = ap (λ (z : OpenPassState). owed_count z.pass.steps) c.pass.view_is ∙ c.requires.nothing.1 in
    (subst (MayComeBack n) (sym (ap joined_record c.enter.ensures.joined)) (may_come_back n r c.pass.invariant.0.outside held owed), search rules)

pub invariant_of-self : goal.invariant_of-self
invariant_of-self g c =
    let w = c.args.words.now in
    let s = g.L.PendingList.listing c.self.inside.list in
    let was = on_words w s c.self.inside.seat c.self.inside.back.items c.args.self.now c.self.view_is c.requires.queue c.self.inside.kept c.self.invariant in
    let p = pass_on c.pass.inside.seat c.pass.inside.irps c.pass.inside.passes c.pass.inside.number c.pass.inside.tokens c.pass.inside.claims w c.args.pass c.pass.view_is c.requires.pass c.pass.invariant.0 in
    let flags = slice_set c.self.inside.back.items (c.pass.inside.number - 1) true in
    let back = c.self.inside.seat.queue.back in
    let r = pass_record c.pass.inside.seat in
    let more = flags_more c.self.inside.back.items w.size.passes c.pass.inside.number r back p.pass_is p.from p.to was.flags_are in
    let noted : c.note.new.self.queue.back ≡ r ∷ back = search rules in
    let is : c.receipt.new.self.queue.back ≡ r ∷ back = ap (λ z. z.queue.back) c.receipt.ensures.same ∙ noted in
    let now : IsOpenOn w s s c.self.inside.kept c.receipt.new.self flags = record {
      here = search rules;
      alone = search rules;
      legal = search rules;
      list_is = search rules;
      first_is = search rules;
      idle = search rules;
      begin = was.begin;
      made = search rules;
      few = was.few;
      most = was.most;
      flags_are = subst (λ (z : List PassRecord). AreFlags flags w.size.passes z) (sym is) more;
    } in
    own_words w.table (limits_on w s) s c.self.inside.kept c.receipt.new.self flags now
