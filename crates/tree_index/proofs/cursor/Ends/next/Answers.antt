use Rattle.std.proofs.Common.{cond, None, sym, ap, ◌∙◌, subst}
use Rattle.leaf_array.specs.Lookups.{deref_bound}
use Rattle.tree_nodes.specs.Content.{pairs_of}
use Rattle.tree_index.specs.Cursor.{kept_below, lies_before, pair_at}
use Rattle.tree_index.specs.Ends.{IsEnd, cursor_of, end_position}
use Rattle.tree_index.proofs.cursor.Ends.next.Goals as goal

pub beside-requires : goal.beside-requires
beside-requires g c = c.requires

pub given-requires-clause-sound : goal.given-requires-clause-sound
given-requires-clause-sound g c = c.requires.sound

pub given-requires-clause-spot : goal.given-requires-clause-spot
given-requires-clause-spot g c = c.in-Some.ensures.end

pub given-requires-clause-backward : goal.given-requires-clause-backward
given-requires-clause-backward g c = c.requires.backward

pub given-requires-clause-own : goal.given-requires-clause-own
given-requires-clause-own g c = c.in-Some.ensures.pair

pub returns-in-Some-clause-ready : goal.returns-in-Some-clause-ready
returns-in-Some-clause-ready g c = record { sound = c.requires.sound; forward = c.in-Some.ensures.end; backward = c.requires.backward }

pub returns-in-Some-clause-moved : goal.returns-in-Some-clause-moved
returns-in-Some-clause-moved g c =
    let lower = deref_bound c.args.lower in
    ap (λ e. record (cursor_of c.args.self.now lower (deref_bound c.args.upper)) { forward = e }) (c.in-Some.ensures.place lower)

pub returns-in-Some-clause-answer : goal.returns-in-Some-clause-answer
returns-in-Some-clause-answer g c =
    let cmp = g.K.Ord.cmp in
    let a = c.args.self.now.arenas.now in
    let upper = deref_bound c.args.upper in
    c.given.ensures
    ∙ ap (λ e. cond (lies_before e (end_position a c.args.self.now.backward)) (kept_below cmp upper (pair_at (pairs_of a) e)) None) (c.in-Some.ensures.place (deref_bound c.args.lower))

pub forth-self-requires : goal.forth-self-requires
forth-self-requires g c = c.requires

pub given-requires-in-At-clause-sound : goal.given-requires-in-At-clause-sound
given-requires-in-At-clause-sound g c = c.requires.sound

pub given-requires-in-At-clause-spot : goal.given-requires-in-At-clause-spot
given-requires-in-At-clause-spot g c = subst (IsEnd c.args.self.now.arenas.now) c.in-At.is c.forth-self.ensures.end

pub given-requires-in-At-clause-backward : goal.given-requires-in-At-clause-backward
given-requires-in-At-clause-backward g c = c.requires.backward

pub given-requires-in-At-clause-own : goal.given-requires-in-At-clause-own
given-requires-in-At-clause-own g c = c.pair.ensures

pub returns-in-At-clause-ready : goal.returns-in-At-clause-ready
returns-in-At-clause-ready g c = record { sound = c.requires.sound; forward = c.forth-self.ensures.end; backward = c.requires.backward }

pub returns-in-At-clause-moved : goal.returns-in-At-clause-moved
returns-in-At-clause-moved g c =
    let lower = deref_bound c.args.lower in
    ap (λ e. record (cursor_of c.args.self.now lower (deref_bound c.args.upper)) { forward = e }) c.forth-self.ensures.place

pub returns-in-At-clause-answer : goal.returns-in-At-clause-answer
returns-in-At-clause-answer g c =
    let cmp = g.K.Ord.cmp in
    let a = c.args.self.now.arenas.now in
    let upper = deref_bound c.args.upper in
    c.given-in-At.ensures
    ∙ ap (λ e. cond (lies_before e (end_position a c.args.self.now.backward)) (kept_below cmp upper (pair_at (pairs_of a) e)) None) (sym (ap (end_position a) c.in-At.is) ∙ c.forth-self.ensures.place)
