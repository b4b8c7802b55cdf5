-- The names that several proof files of this crate import, each from its home.
pub use Rattle.core.proofs.alloc.Calls.{Goes-blank, handle_tells}
pub use Rattle.core.proofs.option.Made.{Some-of, none_of}
pub use Rattle.csq_c.specs.Holds.{frees, heap, held}
pub use Rattle.std.proofs.raw_atomic.Walks.{leaves, proved, proved_at}
pub use Rattle.std.specs.Box.Ownership.{box_owns}
pub use Rattle.std.specs.Prelude.{MatchOption, None, Option, Some}
pub use Rattle.std_heap.specs.contracts.GlobalAllocator.TheImpl.{dict, ghosts}
pub use base.Fml.{Fml, GName, Lft, Share, flft, fres, fsep, ftrue}
pub use base.Fraction.{full_share}
pub use base.Logic.{SProp, emp, ent, fst∗, guard, guard_i, id⊢, never, sep, snd∗, via}
pub use contract.BorrowLft.{◌⊑◌}
pub use contract.Monad.{Fun, fact, fact_i, fact_use}
pub use contract.Running.{tables}
pub use denote.Exit.{no, yes}
pub use denote.Memory.{cell_at, lone, mem, part_at}
unfoldable pub use denote.Memory.{part_of}
pub use denote.Param.{arg, bounded, layout, layouts, param}
pub use denote.RattleType.{RattleType, Valss}
pub use denote.RawPtr.{Ptr, Testable, block_ptr, in_a_block, lies_at, null_ptr, ptr_val, tests_null}
pub use denote.Signature.{mut_ref_to, plain}
pub use denote.Steps.{closes, heard, nothing, only, opens}
pub use denote.Triple.Entry.{alive}
pub use denote.Triple.Walked.{Goes-dropped, Goes-spent_ref, Stays, ends_at, says, stay_dropped, walk_of}
pub use mir.MapTy.{inst_fn}
pub use mir.Syntax.{Dict, Fn, Sym, a_type, aggregate, assign, copy, dcons, dnil, field, impl, local, named, place, return, rv_opd, seq, tcons, tnil, ty_ptr, ty_struct, value_local}
pub use mir.Val.{Val, WT, has_ty, of_list, vcons, vnil, vptr, vstruct, vunit}
pub use prog.Wp.{Calls, Loops, WpFn}
pub use seplogic.Ra.Ura.{Ura}
pub use types.ByLocal.{alloc_all, env, free_all, get, get_in, lands_as, lands_last, look_at, pass_all, sets, sets_last, through}
pub use types.Kit.{ !, Goal, Item, Seq, Step, at_ret, await, by, done, drop, feq_i, feq_l, fjoin, fpack, fpick, frame, fsplit, fsplit3, given, group, join, keep, later, learn, move, pick, prop, qed, raw, regoal, rewrite, some, split, split3, step, suffices, use0, use1, ‵, ⋆, ◌$◌, ◌∵◌, ◌⊛◌}
pub use types.Logic.{Logic, sem}
pub use types.Match.{live}
pub use types.Part.{agg, look_in, sub, whole}
pub use types.Run.{addr, and_then, bin, blocks, branches, enter, exec, first, fld, lit, load, no_more, of_opd, returns, returns_within, skips, stop, unit_lit}
