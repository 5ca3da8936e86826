-- What the two proofs by hand of a list that contracts alone see cite.
pub use Rattle.std.proofs.Common.{◌≡◌, [], ◌∷◌, refl, length}
pub use Rattle.std.proofs.raw_atomic.Walks.{proved, leaves}
pub use mir.Syntax.{a_type, named}
pub use mir.MapTy.{inst_fn}
pub use mir.Val.{Val, vptr, vstruct, vcons, vnil}
pub use base.Logic.{SProp, emp}
pub use base.Fml.{Fml}
pub use contract.Monad.{fact, fact_i}
pub use contract.Running.{tables}
pub use types.Kit.{‵, raw, ◌⊛◌, ◌$◌, ◌∵◌, !, qed, by, move, keep, use0, split, fjoin}
pub use types.Run.{enter, no_more, and_then, returns}
pub use types.ByLocal.{alloc_all, pass_all, free_all, look_at, get, sets}
pub use types.Part.{agg}
pub use denote.Builtin.{RefOf, SliceRefOf}
pub use denote.Exit.{yes}
pub use denote.Param.{param, layouts}
pub use denote.RattleType.{RattleType, owns}
pub use denote.Ref.{shr_vals, shr_Tells}
pub use denote.Slice.{slice_val, shr_slice_vals, shr_slice_Tells}
pub use denote.Shadow.{makes_shadow}
pub use denote.Signature.{types_at, type_at, plain}
pub use denote.Steps.{nothing}
pub use denote.Triple.Entry.{alive}
pub use denote.Triple.Walked.{Stays, stay_dropped, walk_of, Goes-dropped}
