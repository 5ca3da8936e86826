-- What a `&` to a struct of this crate holds, from what it takes to borrow the struct by one token. Assumes `Logic`.
use Rattle.std.proofs.Common.{[], ◌∷◌}
use seplogic.Ra.Ura.{Ura}
use base.Logic.{ent, sep, wand, apply∗}
use base.Before.{before}
use base.Fml.{Lft, Share, Fml, fbor, flft}
use ghost.Rules.{span, thinned}
use types.Logic.{Logic, sem, lfts}
use types.Kit.{‵, raw, ◌⊛◌, some, later, ◌$◌, ◌∵◌, !, qed, move, drop, use1, use2, split, pick, await, updating, now, done}
use types.Tokens.{bor_open, obor_close, one_token}
use denote.Sharing.{ShrLaws, said}
use denote.Struct.Lending.{Lends}

module _ (P : Fml) (t : Lft → Fml) {M : Type 1} {𝓤 : Ura M} (𝓛 : Logic 𝓤) where
  open 𝓛 use {H, A}

  -- a borrow of P becomes t, and one token of its lifetime is only shown
  abbrev pub ByToken : Type 1
  ByToken = (κ : Lft) (q : Share) → ent 𝓤 (sep 𝓤 (A.bor κ P) (A.lft κ q)) (H.⇛ (sep 𝓤 (sem 𝓛 (t κ)) (A.lft κ q)))

  -- the same by several tokens: they are one of their meet, and that is one of κ
  pub lends_by : (l : Lft) → ByToken → Lends 𝓛 P t l
  lends_by l shown κ ts outlives within = qed 𝓛 (‵ (fbor κ P) ∷ raw (lfts 𝓛 ts) ∷ []) ∵ updating ! $ move ! (1 ∷ []) $
      use1 𝓛 (some (λ (s : Share). ‵ (flft (span ts) s) ⊛ raw (wand 𝓤 (A.lft (span ts) s) (lfts 𝓛 ts)))) (one_token 𝓛 ts) $ pick ! (λ s. split ! $
      let q : Share = thinned κ s in
      use1 𝓛 (‵ (flft κ q) ⊛ raw (wand 𝓤 (A.lft κ q) (A.lft (span ts) s))) (𝓛.lfts.lft-incl (span ts) κ s within) $ split ! $
      -- [the token; the way back to the meet's; the way back to all; the borrow]
      move ! (3 ∷ 0 ∷ []) $ use2 𝓛 (later (‵ (t κ) ⊛ ‵ (flft κ q))) (shown κ q) $ await ! tt $ split ! $
      move ! (1 ∷ 2 ∷ []) $ use2 𝓛 (‵ (flft (span ts) s)) (apply∗ 𝓤 (A.lft κ q) (A.lft (span ts) s)) $
      move ! (0 ∷ 2 ∷ []) $ use2 𝓛 (raw (lfts 𝓛 ts)) (apply∗ 𝓤 (A.lft (span ts) s) (lfts 𝓛 ts)) $
      now ! $ move ! (1 ∷ 0 ∷ []) $ done !)

-- a `&` to the owner of P holds G, which is had out of P, and twice
module _ (P G : Fml) (shown : (M : Type 1) (𝓤 : Ura M) (𝓛 : Logic 𝓤) → ent 𝓤 (sem 𝓛 P) (sep 𝓤 (sem 𝓛 P) (sem 𝓛 G))) where
  pub said_lends : {M : Type 1} {𝓤 : Ura M} (𝓛 : Logic 𝓤) (l : Lft) → Lends 𝓛 P (said G) l
  said_lends {M = M} {𝓤 = 𝓤} 𝓛 l = lends_by P (said G) 𝓛 l (λ κ q. qed 𝓛 (‵ (fbor κ P) ∷ ‵ (flft κ q) ∷ []) ∵ updating ! $ bor_open ! tt $ move ! (1 ∷ []) $
      use1 𝓛 (‵ P ⊛ ‵ G) (shown M 𝓤 𝓛) $ split ! $ move ! (2 ∷ 0 ∷ []) $ obor_close ! tt $ drop ! $ now ! $ move ! (1 ∷ 0 ∷ []) $ done !)

pub said_laws : (G : Fml) → ((M : Type 1) (𝓤 : Ura M) (𝓛 : Logic 𝓤) → ent 𝓤 (sem 𝓛 G) (sep 𝓤 (sem 𝓛 G) (sem 𝓛 G))) → ShrLaws (said G)
said_laws G twice = record {
  contraction = λ M 𝓤 𝓛 κ. twice M 𝓤 𝓛;
  mono = λ M 𝓤 𝓛 κ' κ. qed 𝓛 (‵ (before κ' κ) ∷ ‵ G ∷ []) ∵ drop ! $ done !;
}
