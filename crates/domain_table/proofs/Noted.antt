-- what is leased besides, behind a load
use Rattle.std.proofs.Common.{◌≡◌, ◌<◌, true, ℕ, suc, List, Option, [], ◌∷◌, ◌++◌, append-nil, refl, sym, ap, ◌∙◌, subst, ⊎_elim}
use Rattle.atomic_table.specs.Table.{Me}
use Rattle.sdd_steps.specs.declared.participant.Loaded.{Loaded}
use Rattle.sdd_homes.specs.declared.Lease.{Lease}
use Rattle.sdd_homes.specs.Book.{Content}
use Rattle.domain_table.specs.Contents.{is_blank, blanks}
use Rattle.domain_table.specs.Layout.{packed}
use Rattle.domain_table.specs.Leases.{leased_homes, has_all, HasLeased, HasNoted, HasCode, IsFoundAs}
use Rattle.domain_table.specs.Plays.{own_home, loading, HasLoaded}
use Rattle.domain_table.specs.declared.board.Acting.{Acting}
use Rattle.domain_table.specs.declared.board.Home.{Home}
use Rattle.domain_table.specs.declared.board.Home.TheVariants.{Blank}
use Rattle.domain_table.specs.declared.row.Row.{Row}
use Rattle.domain_table.proofs.Told.{all_there, are_there}

pub homes_both : (d : Acting) (ls ks : List Lease) → leased_homes d (ls ++ ks) ≡ leased_homes d ls ++ leased_homes d ks
homes_both d [] ks = refl
homes_both d (l ∷ ls) ks = ap (λ hs. own_home d l.slot ∷ hs) (homes_both d ls ks)

module _ {T : Type 0} where
  -- nothing was loaded, or something that is leased already
  pub none_noted : (m m' : Me (Home T) Acting) → m' ≡ m → HasNoted m m'
  none_noted m m' e = (m.0.known.loaded, [], e ∙ λ j. (record m.0 { leases = sym (append-nil m.0.leases) j }, sym (append-nil m.1) j))

  pub again_noted : (m m' : Me (Home T) Acting) (h : Loaded) → m' ≡ (loading h m.0.leases m.0, m.1) → HasNoted m m'
  again_noted m m' h e = (m.0.known.loaded ++ h ∷ [], [], e ∙ λ j. (loading h (sym (append-nil m.0.leases) j) m.0, sym (append-nil m.1) j))

  pub blanks_both : (ks ls : List ℕ) → blanks {T = T} (ks ++ ls) ≡ blanks ks ++ blanks ls
  blanks_both [] ls = refl
  blanks_both (k ∷ ks) ls = ap (λ xs. (k, Blank) ∷ xs) (blanks_both ks ls)

  module _ (m m' : Me (Home T) Acting) (n : HasNoted m m') where
    pub is_leased : HasLeased m m'
    is_leased = (n.0, m.0.leases ++ n.1, ap (λ (z : Me (Home T) Acting). z.0) n.2)

    pub out_now : (k : ℕ) → has_all is_blank (k ∷ leased_homes m.0 m.0.leases) m.1 ≡ true → has_all is_blank (k ∷ leased_homes m'.0 m'.0.leases) m'.1 ≡ true
    out_now k out = let ks : List ℕ = k ∷ leased_homes m.0 m.0.leases in let more : List ℕ = leased_homes m.0 n.1 in
        let lie : m.1 ++ blanks more ≡ blanks (ks ++ more) = ap (λ xs. xs ++ blanks more) (all_there ks m.1 out) ∙ sym (blanks_both ks more) in
        subst (λ (z : Me (Home T) Acting). has_all is_blank (k ∷ leased_homes z.0 z.0.leases) z.1 ≡ true) (sym n.2) ((λ j. has_all is_blank (k ∷ homes_both m.0 m.0.leases n.1 j) (lie j)) ∙ are_there T (ks ++ more))

-- a word that was loaded is found with the tag that is told, and names what this row is of
pub found_as : {S T : Type 0} (In : Content → S → Type 0) (m m' : Me S Acting) (w t : ℕ) (rows : List (Row T)) (at : Option ℕ) → HasLoaded In m w m' → ((y u c : ℕ) → y < 2147483648 → u < 4 → w ≡ packed y u c → t ≡ u) → ((y u c : ℕ) → y < 2147483648 → u < 4 → w ≡ packed y u c → HasCode rows at c) → IsFoundAs w t rows at
found_as In m m' w t rows at l tag code = ⊎_elim (λ e. pack l.0 e.0.0 0 l.1 e.0.1 e.0.2) (λ e. pack l.0 e.1.0 (suc e.0) l.1 e.1.1 e.1.2) l.2
  where
    pack : (y u c : ℕ) → y < 2147483648 → u < 4 → w ≡ packed y u c → IsFoundAs w t rows at
    pack y u c low few is = let same : t ≡ u = tag y u c low few is in (y, c, low, subst (λ z. z < 4) (sym same) few, is ∙ ap (λ z. packed y z c) (sym same), code y u c low few is)
