-- The tokens of a life are shares of its lifetime's token, 2 ^ 63 in all. Assumes `Logic`.
use Rattle.std.proofs.Common.{ℕ, ◌+◌, ◌-◌, ◌^◌, ◌<◌, ◌≤◌, [], ◌∷◌, refl, arith}
use seplogic.Ra.Ura.{Ura}
use base.Fraction.{full_share}
use base.FractionLaws.{Counts, counts_some, Counts-op, Counts-all}
use base.Logic.{ent, sep, id⊢, upd_i}
use base.Fml.{Lft, Share, ftrue, fsep, fseps, fex, fwand, fupd, fdead, fbor, flft}
use types.Logic.{Logic, sem}
use types.Kit.{‵, ◌⊛◌, ◌$◌, ◌∵◌, !, qed, by, move, keep, use1, use2, split, fsplit3, fjoin, fpick, fpack, assume, suffices, updating, now, done}
use types.Tokens.{bor_open, obor_alter, bor_fracture, lft_end}
use denote.Steps.{nothing}
use Rattle.parted.specs.Owned.{tokens, life_shared, over}
use Rattle.parted.proofs.Behind.{ByToken}

module _ {M : Type 1} {𝓤 : Ura M} (𝓛 : Logic 𝓤) (a : ℕ) where
  open 𝓛 use {H, A}

  counted : (k : ℕ) (q : Share) → Counts 63 q k → ent 𝓤 (A.lft (a ∷ []) q) (sem 𝓛 (tokens a k))
  counted k q is = qed 𝓛 (‵ (flft (a ∷ []) q) ∷ []) ∵ fpack ! (Counts 63 q k) (λ _. flft (a ∷ []) q) is $ fpack ! Share (λ s. fex (Counts 63 s k) (λ _. flft (a ∷ []) s)) q $ done !

  -- two shares are one that counts the sum
  added : (i j : ℕ) (q : Share) → Counts 63 q (i + j) → ent 𝓤 (sep 𝓤 (sem 𝓛 (tokens a i)) (sem 𝓛 (tokens a j))) (A.lft (a ∷ []) q)
  added i j q is = qed 𝓛 (‵ (tokens a i) ∷ ‵ (tokens a j) ∷ []) ∵ fpick ! (λ s. fpick ! (λ at_s. move ! (1 ∷ []) $ fpick ! (λ r. fpick ! (λ at_r. move ! (1 ∷ []) $
      by ! (𝓛.lfts.lft_glue (a ∷ []) q s r (Counts-op 63 s r q i j (i + j) at_s at_r is refl))))))

  pub all_out : ent 𝓤 (A.lft (a ∷ []) full_share) (sem 𝓛 (tokens a (2 ^ 63)))
  all_out = counted (2 ^ 63) full_share (Counts-all 63)

  pub parted : (i j : ℕ) → 0 < i → 0 < j → i + j ≤ 2 ^ 63 → ent 𝓤 (sem 𝓛 (tokens a (i + j))) (sep 𝓤 (sem 𝓛 (tokens a i)) (sem 𝓛 (tokens a j)))
  parted i j some_i some_j fits = let s = counts_some 63 i some_i (omega arith) in let r = counts_some 63 j some_j (omega arith) in
      qed 𝓛 (‵ (tokens a (i + j)) ∷ []) ∵ fpick ! (λ q. fpick ! (λ is.
      use1 𝓛 (‵ (flft (a ∷ []) s.0) ⊛ ‵ (flft (a ∷ []) r.0)) (𝓛.lfts.lft_cut (a ∷ []) q s.0 r.0 (Counts-op 63 s.0 r.0 q i j (i + j) s.1 r.1 is refl)) $ split ! $
      use1 𝓛 (‵ (tokens a i)) (counted i s.0 s.1) $ move ! (1 ∷ []) $ use1 𝓛 (‵ (tokens a j)) (counted j r.0 r.1) $ move ! (1 ∷ 0 ∷ []) $ done !))

  pub joined : (i j : ℕ) → 0 < i + j → i + j ≤ 2 ^ 63 → ent 𝓤 (sep 𝓤 (sem 𝓛 (tokens a i)) (sem 𝓛 (tokens a j))) (sem 𝓛 (tokens a (i + j)))
  joined i j some fits = let q = counts_some 63 (i + j) some fits in
      qed 𝓛 (‵ (tokens a i) ∷ ‵ (tokens a j) ∷ []) ∵ use2 𝓛 (‵ (flft (a ∷ []) q.0)) (added i j q.0 q.1) $ by ! (counted (i + j) q.0 q.1)

  -- all tokens are the whole, which ends the life
  pub all_in : ent 𝓤 (sem 𝓛 (tokens a (2 ^ 63))) (H.⇛ (sem 𝓛 (over a)))
  all_in = qed 𝓛 (‵ (tokens a (2 ^ 63)) ∷ []) ∵ updating ! $ use1 𝓛 (‵ (tokens a 1) ⊛ ‵ (tokens a (2 ^ 63 - 1))) (parted 1 (2 ^ 63 - 1) (omega arith) (omega arith) (omega arith)) $ split ! $
      use2 𝓛 (‵ (flft (a ∷ []) full_share)) (added 1 (2 ^ 63 - 1) full_share (Counts-all 63)) $ lft_end ! tt $ now ! $ done !

  -- the way back from a borrow of a share to one of the tokens that it counts
  counts_still : (k : ℕ) (κ : Lft) (q : Share) → Counts 63 q k → ent 𝓤 (sem 𝓛 ftrue) (sem 𝓛 (fwand (fsep (fdead κ) (fseps (flft (a ∷ []) q ∷ []))) (fupd (tokens a k))))
  unfolding fseps
  counts_still k κ q is = qed 𝓛 (‵ ftrue ∷ []) ∵ assume ! (‵ (fsep (fdead κ) (fsep (flft (a ∷ []) q) ftrue))) $ suffices ! (sem 𝓛 (tokens a k)) (upd_i 𝓤 (sem 𝓛 (tokens a k))) $
      fsplit3 ! $ keep ! (1 ∷ []) $ by ! (counted k q is)

  -- borrowed tokens say that the life runs on
  pub borrowed : (k : ℕ) → ByToken (tokens a k) (life_shared a) 𝓛
  unfolding fseps
  borrowed k κ q = qed 𝓛 (‵ (fbor κ (tokens a k)) ∷ ‵ (flft κ q) ∷ []) ∵ updating ! $ bor_open ! tt $ move ! (1 ∷ []) $ fpick ! (λ s. fpick ! (λ is.
      nothing ! $ use1 𝓛 (‵ (fwand (fsep (fdead κ) (fseps (flft (a ∷ []) s ∷ []))) (fupd (tokens a k)))) (counts_still k κ s is) $
      nothing ! $ move ! (2 ∷ 0 ∷ []) $ fjoin ! $ move ! (2 ∷ 0 ∷ 1 ∷ []) $ obor_alter ! tt (flft (a ∷ []) s ∷ []) $
      use1 𝓛 (‵ (fbor κ (flft (a ∷ []) s)) ⊛ ‵ ftrue) (id⊢ 𝓤 _) $ split ! $ bor_fracture ! tt (λ r. flft (a ∷ []) r) s $ now ! $ keep ! (0 ∷ 2 ∷ []) $ done !))
