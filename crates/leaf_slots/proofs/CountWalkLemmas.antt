-- What the two proofs by hand of the count cite.
pub use Rattle.std.proofs.Common.{◌≡◌, ℕ, ◌+◌, List, [], ◌∷◌, refl}
pub use Rattle.std.proofs.raw_atomic.Walks.{proved}
pub use base.Fml.{Fml, ftrue, flft}
pub use mir.Syntax.{named}
pub use mir.Val.{Val, vunit, vstruct, vcons, vnil}
pub use contract.Running.{tables}
pub use types.Kit.{‵, raw, ◌⊛◌, ◌$◌, ◌∵◌, !, qed, done, move, keep, drop, use0, split, join, fsplit, fsplit3, fjoin, feq_i, suffices, frame, group}
pub use types.Run.{enter, of_opd, unit_lit, no_more, and_then, returns}
pub use types.ByLocal.{alloc_all, pass_all, free_all, look_at, get, sets}
pub use types.Part.{agg}
pub use denote.Exit.{yes}
pub use denote.Ref.{MutRef, mut_vals, mut_Tells}
pub use denote.Shadow.{makes_shadow}
pub use denote.Signature.{types_at, type_at, plain}
pub use denote.Steps.{nothing, opens, closes}
pub use denote.Triple.Entry.{on_entry}
pub use denote.Triple.Walked.{Stays, walk_of, says, stay_ref, Goes-ref, ends_at}
