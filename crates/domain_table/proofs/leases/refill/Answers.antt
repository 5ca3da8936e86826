use Rattle.std.proofs.Common.{◌≡◌, ◌<◌, ℕ, List, [], ◌∷◌, ◌++◌, map, length, drop, append_assoc, sym, ap, ◌∙◌, subst}
use Rattle.atomic_table.specs.Table.{rest}
use Rattle.sdd_homes.specs.declared.Lease.{Lease}
use Rattle.sdd_homes.specs.Book.{home, part}
use Rattle.domain_table.specs.Contents.{IsIn, blanks}
use Rattle.domain_table.specs.Leases.{row_told, lease_told, leased_homes}
use Rattle.domain_table.specs.Plays.{own_home}
use Rattle.domain_table.specs.declared.board.Home.{Home}
use Rattle.domain_table.specs.declared.board.Home.TheVariants.{Blank, Part}
use Rattle.domain_table.specs.declared.row.Row.{Row}
use Rattle.domain_table.proofs.Leased.{first_told, more_filled, front, turned_on}
use Rattle.domain_table.proofs.leases.refill.Goals as goal

-- the row that came out is that of the next lease
abbrev First : {T : Type 0} → ℕ → Row T → List (Row T) → List Lease → Type 0
First life r rs next = (l : Lease) × (ks : List Lease) × (next ≡ l ∷ ks) × (row_told r ≡ lease_told life l) × (map row_told rs ≡ map (lease_told life) ks)

first : {T : Type 0} (life : ℕ) (r : Row T) (rs all : List (Row T)) (next : List Lease) → all ≡ r ∷ rs → map row_told all ≡ map (lease_told life) next → First life r rs next
first life r rs all next items told = first_told life r rs next (sym (ap (map row_told) items) ∙ told)

pub into_parts-parts-requires : goal.into_parts-parts-requires
into_parts-parts-requires g c = let i = c.loop-row.invariant.filled in let f = first c.args.ended.now.id c.in-Some.row c.pop_front.new.self.items c.loop-row.rows.items i.1 c.in-Some.ensures.items i.4 in sym (ap (λ (t : ℕ × ℕ × ℕ × ℕ). t.3) f.3)

pub exchange-requires : goal.exchange-requires
exchange-requires g c = let t = c.requires.table in let i = c.loop-row.invariant.filled in let f = first c.args.ended.now.id c.in-Some.row c.pop_front.new.self.items c.loop-row.rows.items i.1 c.in-Some.ensures.items i.4 in let m = c.args.seat.now.me in let d = m.0 in
    let all : List (ℕ × Home _) = drop (length d.leases) m.1 in let is = i.6 ∙ λ j. (d, blanks (leased_homes d (f.2 j)) ++ (all ++ i.2)) in let there = front c.loop-row.seat.me d f.0 f.1 all i.2 is in
    let at : own_home d f.0.slot ≡ c.home_of-home.result = (λ j. home (t.1 j) (sym (ap (λ (x : ℕ × ℕ × ℕ × ℕ). x.0) f.3) j) (t.3 j)) ∙ sym c.home_of-home.ensures in
    (c.loop-row.invariant.seat.0 ∙ t.0, (Blank, there ∙ λ j. (at j, Blank) ∷ rest (sym there j)))

pub loop-row-preserved : goal.loop-row-preserved
loop-row-preserved g c = let i = c.loop-row.invariant.filled in let f = first c.args.ended.now.id c.in-Some.row c.pop_front.new.self.items c.loop-row.rows.items i.1 c.in-Some.ensures.items i.4 in let m = c.args.seat.now.me in let d = m.0 in let t : List (ℕ × Home _) = drop (length d.leases) m.1 in
    let is = i.6 ∙ λ j. (d, blanks (leased_homes d (f.2 j)) ++ (t ++ i.2)) in let e = c.exchange.ensures in let u = c.turn.ensures in let p = c.into_parts-parts.ensures in let r = c.in-Some.row in let y = Part c.into_parts-parts.result r.count in
    let count = ap (λ (x : ℕ × ℕ × ℕ × ℕ). x.2) f.3 in let round = ap (λ (x : ℕ × ℕ × ℕ × ℕ). x.1) f.3 in let l : Lease = f.0 in
    let good : IsIn g.H.Holding.holds (part l.round l.count) y = (c.into_parts-parts.result, ap (Part c.into_parts-parts.result) count, p.0 ∙ round, p.1 ∙ count, subst (λ n. 0 < n) count p.2, p.3) in record {
      seat = (u.0 ∙ (e.0 ∙ c.loop-row.invariant.seat.0), u.1 ∙ (e.1 ∙ c.loop-row.invariant.seat.1));
      room = c.pop_front.ensures.capacity ∙ c.loop-row.invariant.room;
      filled = (
        i.0 ++ l ∷ [],
        f.1,
        i.2 ++ (own_home d l.slot, y) ∷ [],
        i.3 ∙ (ap (λ ls. i.0 ++ ls) f.2 ∙ sym (append_assoc i.0 (l ∷ []) f.1)),
        f.4,
        more_filled (IsIn g.H.Holding.holds) d i.0 i.2 l y good i.5,
        turned_on c.loop-row.seat.me d l f.1 t i.2 is c.home_of-home.result c.exchange.result y c.exchange.new.seat.me c.turn.new.self.me e.2 e.3 u.2,
      );
    }
