-- one element crosses from one list to another
use Rattle.std.proofs.Common.{◌≡◌, List, [], ◌∷◌, ◌++◌, map, reverse, sym, ap, ◌∙◌}
use Rattle.std.proofs.lemmas.List.{map-append, reverse-append, append_assoc}

-- It is the last one of a list, and the first where that is told from its end.
pub first_told : {X Y : Type 0} (f : Y → X) (y : Y) (ys ws : List Y) → ws ≡ ys ++ y ∷ [] → reverse (map f ws) ≡ f y ∷ reverse (map f ys)
first_told f y ys ws ws_is = ap (λ l. reverse (map f l)) ws_is ∙ (ap reverse (map-append f ys (y ∷ [])) ∙ reverse-append (map f ys) (f y ∷ []))

-- It is the last one of a list, and becomes the last one of the other, which is told from its end.
pub crossing : {X Y Z : Type 0} (f : Y → X) (g : Z → X) (y : Y) (z : Z) (ys ws : List Y) (zs us : List Z) → ws ≡ ys ++ y ∷ [] → us ≡ zs ++ z ∷ [] → g z ≡ f y → map g us ++ reverse (map f ys) ≡ map g zs ++ reverse (map f ws)
crossing f g y z ys ws zs us ws_is us_is same =
    let told = first_told f y ys ws ws_is in
    let left : map g us ≡ map g zs ++ f y ∷ [] = ap (map g) us_is ∙ (map-append g zs (z ∷ []) ∙ ap (λ x. map g zs ++ x ∷ []) same) in
    ap (λ l. l ++ reverse (map f ys)) left ∙ (append_assoc (map g zs) (f y ∷ []) (reverse (map f ys)) ∙ ap (λ l. map g zs ++ l) (sym told))
