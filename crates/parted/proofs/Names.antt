-- The names that the proofs by hand of this crate cite.
pub use Rattle.std.proofs.Common.{◌≡◌, ℕ, ◌+◌, ◌-◌, ◌^◌, ◌<◌, ◌≤◌, List, [], ◌∷◌, ◌++◌, refl, sym, ap, ◌∙◌, subst, arith, T, true, ◌&&◌, w64}
pub use mir.Syntax.{a_type, dcons, dnil, named}
pub use mir.Val.{Val, vunit, vptr, vstruct, vcons, vnil, of_list, has_ty, WT}
pub use mir.MapTy.{inst_fn}
pub use mir.Raw.{raw as bare}
pub use base.Fraction.{full_share}
pub use base.Logic.{SProp, ent, emp, id⊢, fst∗, never}
pub use base.Fml.{Lft, Fml, ftrue, fsep, feq, flft, fhide, flent}
pub use types.Logic.{sem}
pub use types.Kit.{Item, ‵, raw, ◌⊛◌, some, later, at_ret, ◌$◌, ◌∵◌, !, qed, by, move, keep, drop, use0, use1, use2, use3, split, split3, join, fsplit, fsplit3, fjoin, fjoin3, fpick, fpack, feq_i, feq_l, pick, await, rewrite, suffices}
pub use types.Run.{enter, of_opd, unit_lit, addr, load, stop, fld, hop, no_more, and_then, first, blocks, exec, returns}
pub use types.ByLocal.{alloc_all, pass_all, free_all, look_at, get, get_in, through, sets, sets_last, lands_as, lands_last, is, env}
pub use types.Part.{agg, sub, whole, look_in}
pub use types.Tokens.{lft_new, bor_new, lent_back, shr_bor-open, obor_close}
pub use types.Within.{tokens_halve}
pub use contract.BorrowLft.{◌⊑◌, meet_⊑_left}
pub use contract.Monad.{fact, fact_i}
pub use contract.Running.{tables}
pub use denote.Builtin.{RawPtr, RefOf, u64}
pub use denote.Exit.{yes, no}
pub use denote.Laws.{Is, shows}
pub use denote.Memory.{cell_at, hidden_shr}
pub use denote.Moves.{moves_from}
pub use denote.Opens.{hide, unhide}
pub use denote.Param.{param, layout, layouts, bounded}
pub use denote.Param.Laws.{param_laws}
pub use denote.Plain.{uint_vals, uint_Tells}
pub use denote.RattleType.{RattleType, Valss, owns}
pub use denote.RawPtr.{Ptr, InBlock, block_ptr, null_ptr, ptr_val, block_of, count_of, at_block, lies_at, in_a_block}
pub use denote.Ref.{mut_vals, mut_Tells, shr_vals, shr_Tells}
pub use denote.Signature.{types_at, plain}
pub use denote.Steps.{nothing, only, peeks, heard, opens, closes, looks, shuts}
pub use denote.Struct.Lending.{lent_at, lent_at_shr_laws, lent_out, in_block_says, Lends-lies}
pub use denote.Struct.Owning.{shape}
pub use denote.Struct.Struct.{within}
pub use denote.Struct.Tuple.{Tuple}
pub use denote.Triple.Call.{calls_at, calls_at_last}
pub use denote.Triple.Clauses.{Lasts, lasts}
pub use denote.Triple.Entry.{alive}
pub use denote.Triple.Spec.{triple_of}
pub use denote.Triple.Walked.{Stays, stay_dropped, stay_ref, walk_of, Goes-dropped, Goes-ref}
pub use Rattle.core.proofs.atomic.Steps.{tail, Ptr-Good}
pub use Rattle.atomic_table.proofs.Walks.{proved, proved_at, leaves}
pub use Rattle.atomic_table.proofs.Calls.{fm}
pub use Rattle.atomic_table.proofs.Fields.{strip_good, token_val, pin_told}
pub use Rattle.parted.specs.Owned.{tokens, over, life_shared}
pub use Rattle.parted.proofs.Counted.{all_out, all_in, parted, joined, borrowed}
pub use Rattle.parted.proofs.Bytes.{blank, LifeData, life_told, life_made, EndedData, ended_made, PledgeData, pledge_told, pledge_made, word, SeenData, seen_told, seen_made, seen_opens}
pub use Rattle.parted.proofs.Values.{seen_placed, lends_to}
pub use Rattle.core.proofs.alloc.Calls.{α, token, handle_tells, Goes-blank}
pub use Rattle.std_alloc.specs.Box.Ownership.{box_owns}
pub use Rattle.std_alloc.proofs.BoxSteps.Steps.{box_out, box_in}
pub use Rattle.std_alloc.proofs.ResultValues.{and_tt}
