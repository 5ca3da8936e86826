-- A value at an address, seen under a life and lent to it. Assumes `Logic`.
use Rattle.std.proofs.Common.{ℕ, [], ◌∷◌}
use seplogic.Ra.Ura.{Ura}
use base.Logic.{ent, sep, emp, never_e}
use base.Fml.{Lft, Incl, Incl-trans, Share, Fml, ftrue, fsep, flft, flent}
use contract.BorrowLft.{meet_⊑_left, meet_⊑_right}
use contract.Monad.{fact, fact_i}
use types.Logic.{Logic, sem}
use types.Kit.{‵, raw, ◌⊛◌, later, ◌$◌, ◌∵◌, !, qed, move, keep, use0, use1, use2, fsplit, join, split, split3, await, updating, now, done}
use types.Tokens.{bor_new}
use denote.RattleType.{RattleType}
use denote.Memory.{shared_of}
use denote.RawPtr.{Ptr, block_ptr, null_ptr, block_of, count_of, InBlock, in_block}
use denote.Struct.Lending.{Lends, lent_at}

module _ {M : Type 1} {𝓤 : Ura M} (𝓛 : Logic 𝓤) where
  open 𝓛 use {H, A}

  -- nothing lies at null
  placed : (p : Ptr) (F : Fml) → ent 𝓤 (sem 𝓛 (fsep (in_block p ftrue) F)) (sep 𝓤 (fact 𝓤 (InBlock p)) (sem 𝓛 (fsep (in_block p ftrue) F)))
  placed (block_ptr b o) F = qed 𝓛 (‵ (fsep ftrue F) ∷ []) ∵ use0 𝓛 (raw (fact 𝓤 (Unit {0}))) (fact_i 𝓤 (Unit {0}) (emp 𝓤) tt) $ done !
  placed null_ptr F = qed 𝓛 (‵ (fsep (in_block null_ptr ftrue) F) ∷ []) ∵ fsplit ! $
      use1 𝓛 (raw (fact 𝓤 (InBlock null_ptr)) ⊛ ‵ (fsep (in_block null_ptr ftrue) F)) (never_e 𝓤 _) $ split ! $ keep ! (0 ∷ 1 ∷ []) $ done !

  pub seen_placed : (R : RattleType) (p : Ptr) (x : R.Denot) (κ : Lft) → ent 𝓤 (sem 𝓛 (lent_at R p x κ)) (sep 𝓤 (fact 𝓤 (InBlock p)) (sem 𝓛 (lent_at R p x κ)))
  seen_placed R p x κ = placed p (shared_of R x (block_of p) (count_of p) κ)

  -- P is lent to life a, which a share of its token shows to run; q is a token of what P has to outlive
  pub lends_to : (P : Fml) (t : Lft → Fml) (l μ : Lft) (q : Share) (a : ℕ) (s : Share) → Lends 𝓛 P t l → Incl μ l
      → ent 𝓤 (sep 𝓤 (sem 𝓛 P) (sep 𝓤 (A.lft (a ∷ []) s) (A.lft μ q))) (H.⇛ (sep 𝓤 (sem 𝓛 (flent (a ∷ []) P)) (sep 𝓤 (sem 𝓛 (t (a ∷ []))) (sep 𝓤 (A.lft (a ∷ []) s) (A.lft μ q)))))
  lends_to P t l μ q a s lends inc = qed 𝓛 (‵ P ∷ ‵ (flft (a ∷ []) s) ∷ ‵ (flft μ q) ∷ []) ∵ updating ! $ bor_new ! tt (a ∷ []) $
      -- [the borrow; the right to have it back; the two tokens]
      move ! (2 ∷ 3 ∷ []) $ join ! $ move ! (1 ∷ 0 ∷ []) $ use2 𝓛 (later (‵ (t (a ∷ [])) ⊛ ‵ (flft (a ∷ []) s) ⊛ ‵ (flft μ q)))
      (lends (a ∷ []) ((a ∷ [], s) ∷ (μ, q) ∷ []) (Incl-trans (meet_⊑_right (a ∷ []) μ) inc) (meet_⊑_left (a ∷ []) μ)) $
      await ! tt $ split3 ! $ now ! $ move ! (3 ∷ []) $ done !
