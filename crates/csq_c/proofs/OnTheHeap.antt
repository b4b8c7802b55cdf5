-- The heap's handle and a box of the heap, as a call passes them. Assumes nothing.
use Rattle.std.proofs.Common.{[], ◌∷◌, refl}
use Rattle.std_alloc.proofs.BoxSteps.Form.{Bx}
use Rattle.std_heap.proofs.Global.TheLaws.{the_row_laws, the_within}
use Rattle.std_heap.specs.contracts.Global.{the_row}
use Rattle.csq_c.proofs.Imports.{ghosts, dict, ◌⊑◌, no, layout, param, arg, RattleType, Dict, impl, tnil, tcons, dnil}
use Rattle.std_alloc.specs.contracts.boxed.Box as boxed
use denote.Param.Laws.{Laws, arg_laws}
use mir.Raw.{raw}
use Rattle.csq_c.proofs.Destruct++none.drop.Symbol.{symbol}

abbrev pub Heap : RattleType
Heap = arg (raw (layout the_row)) no the_row

abbrev pub heap_laws : Laws Heap
heap_laws = arg_laws (raw (layout the_row)) no the_row the_row_laws refl

-- the handle needs no drop
abbrev pub let_go : Dict
let_go = impl (symbol ∷ []) (tcons (layout Heap) tnil) dnil

abbrev pub at_heap : (T : RattleType) → Laws T → Bx
at_heap T laws = record { row = T; laws = laws; al = record { row = Heap; laws = heap_laws; g = ghosts; d = dict; drops = let_go } }

abbrev pub HeapBox : RattleType → RattleType
HeapBox T = boxed.the_row (param 0 T) the_row ghosts

pub heap_lives : [] ⊑ Heap.lives
heap_lives = the_within []
