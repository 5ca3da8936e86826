use Rattle.std.proofs.Common.{sym, ap, ◌∙◌}
use Rattle.std.specs.Range.Bound.{bound_map}
use Rattle.std.specs.Borrow.{Bor}
use Rattle.tree_nodes.specs.Content.{pairs_of}
use Rattle.tree_nodes.specs.Bounds.{up_to_end}
use Rattle.tree_nodes.proofs.InsertionPointLemmas.{end_none, end_included, end_excluded}
use Rattle.tree_nodes.proofs.WalkLemmas.{if_none, if_some}
use Rattle.tree_nodes.proofs.arenas.Arenas.last_within.Goals as goal

pub returns-in-Included-clause-none : goal.returns-in-Included-clause-none
returns-in-Included-clause-none g c =
    let ps = pairs_of c.args.self.now in
    let end = ap (λ b. up_to_end g.K.Ord.cmp (bound_map (λ (k : Bor g.row.K.Denot). k.now) b) ps) c.in-Included.is ∙ end_included g.K.Ord.cmp c.in-Included.key.now ps in
    if_none c.last_up_to.result (λ e. end ∙ e) c.last_up_to.ensures.none

pub returns-in-Included-clause-there : goal.returns-in-Included-clause-there
returns-in-Included-clause-there g c =
    let ps = pairs_of c.args.self.now in
    let end = ap (λ b. up_to_end g.K.Ord.cmp (bound_map (λ (k : Bor g.row.K.Denot). k.now) b) ps) c.in-Included.is ∙ end_included g.K.Ord.cmp c.in-Included.key.now ps in
    if_some c.last_up_to.result (λ s e. e ∙ sym end) c.last_up_to.ensures.there

pub returns-in-Excluded-clause-none : goal.returns-in-Excluded-clause-none
returns-in-Excluded-clause-none g c =
    let ps = pairs_of c.args.self.now in
    let end = ap (λ b. up_to_end g.K.Ord.cmp (bound_map (λ (k : Bor g.row.K.Denot). k.now) b) ps) c.in-Excluded.is ∙ end_excluded g.K.Ord.cmp c.in-Excluded.key.now ps in
    if_none c.last_up_to-in-Excluded.result (λ e. end ∙ e) c.last_up_to-in-Excluded.ensures.none

pub returns-in-Excluded-clause-there : goal.returns-in-Excluded-clause-there
returns-in-Excluded-clause-there g c =
    let ps = pairs_of c.args.self.now in
    let end = ap (λ b. up_to_end g.K.Ord.cmp (bound_map (λ (k : Bor g.row.K.Denot). k.now) b) ps) c.in-Excluded.is ∙ end_excluded g.K.Ord.cmp c.in-Excluded.key.now ps in
    if_some c.last_up_to-in-Excluded.result (λ s e. e ∙ sym end) c.last_up_to-in-Excluded.ensures.there

pub returns-in-Unbounded-clause-there : goal.returns-in-Unbounded-clause-there
returns-in-Unbounded-clause-there g c =
    let ps = pairs_of c.args.self.now in
    let end = ap (λ b. up_to_end g.K.Ord.cmp (bound_map (λ (k : Bor g.row.K.Denot). k.now) b) ps) c.in-Unbounded.is ∙ end_none g.K.Ord.cmp ps in
    if_some c.last_from.result (λ s e. e ∙ c.last_leaf.ensures.last ∙ sym end) c.last_from.ensures.there
