-- What a driver's list is, as its peeks give it from the first to the last.
use Rattle.std.specs.Prelude.{◌≡◌, ◌↔◌, List, [], ◌∷◌, map, Option, Some, None, IsTrue}
use Rattle.irp_core.specs.declared.ids.IrpId.{IrpId}
use Rattle.csq_list.specs.declared.entry.{Entry.{Entry}, Peek.TheVariants.{Any}}
use Rattle.csq_list.specs.Searches.{is_distinct}
use Rattle.csq_checked.specs.Peeks.{peek_verdict}
use Rattle.csq_checked.specs.declared.judge.peek.PeekVerdict.TheVariants.{Agrees}

-- peeks that go on after this IRP answer these, one after the other, and then none; and each agrees
abbrev pub AllAgree : List Entry → Option IrpId → List IrpId → Type 0
AllAgree es after [] = peek_verdict es after Any None ≡ Agrees
AllAgree es after (i ∷ is) = (peek_verdict es after Any (Some i) ≡ Agrees) × AllAgree es (Some i) is

-- peeks from the first to the last all agree exactly if they give the queue's list
abbrev pub AgreeingPeeksGiveTheList : Type 0
AgreeingPeeksGiveTheList = (es : List Entry) → IsTrue (is_distinct es) → (is : List IrpId) → AllAgree es None is ↔ (is ≡ map (λ (e : Entry). e.irp) es)
