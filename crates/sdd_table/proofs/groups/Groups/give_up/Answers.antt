use Rattle.std.proofs.Common.{◌≡◌, ◌∙◌, ◌-◌, ◌<◌, List, length, map, set, ap, sym, arith}
use Rattle.sdd_table.specs.Groups.{GroupState, count_at, no_group, row_at, with_count, without}
use Rattle.sdd_table.specs.Arena.{group_of, groups_of}
use Rattle.sdd_table.specs.Tokens.{kept_slot}
use Rattle.sdd_table.proofs.ArenaLemmas.{arena_counted, arena_ended, ends_last, entry_set, gives_row, known, room_again, stays_out}
use Rattle.sdd_table.proofs.groups.Groups.give_up.Goals as goal

pub invariant_of-self-then-entry-gt1 : goal.invariant_of-self-then-entry-gt1
invariant_of-self-then-entry-gt1 c =
    let name = c.args.group.name in
    let inside : name < length c.self.inside.entries.items = omega (arith, c.if-name-len.false, c.len.ensures, c.self.inside.entries.ok.0) in
    let is = known c.self.inside name c.index_mut-entry.result.now inside c.index_mut-entry.ensures.value in
    let count = ap (λ (s : GroupState). s.count) is in
    arena_counted c.self.inside name _ c.self.invariant inside (omega (arith, count, c.if-entry-gt1.true)) (omega (arith, c.if-entry-gt1.true))

pub returns-then-entry-gt1-clause-groups : goal.returns-then-entry-gt1-clause-groups
returns-then-entry-gt1-clause-groups c =
    let name = c.args.group.name in
    let inside : name < length c.self.inside.entries.items = omega (arith, c.if-name-len.false, c.len.ensures, c.self.inside.entries.ok.0) in
    let is = known c.self.inside name c.index_mut-entry.result.now inside c.index_mut-entry.ensures.value in
    let count = ap (λ (s : GroupState). s.count) is in
    let now = ap (λ (x : List GroupState). count_at x name) c.self.view_is in
    entry_set c.self.inside name _ c.self.inside.free
    ∙ (ap (λ (s : GroupState). set (groups_of c.self.inside) name (record { count = s.count - 1; row = s.row })) (sym is)
    ∙ (ap (λ (x : List GroupState). with_count name (count_at x name - 1) x) c.self.view_is
    ∙ sym (stays_out c.args.self.now name (omega (arith, c.if-entry-gt1.true, count, now)))))

pub push_reserved-requires : goal.push_reserved-requires
push_reserved-requires c =
    let name = c.args.group.name in
    let inside : name < length c.self.inside.entries.items = omega (arith, c.if-name-len.false, c.len.ensures, c.self.inside.entries.ok.0) in
    let is = known c.self.inside name c.index_mut-entry.result.now inside c.index_mut-entry.ensures.value in
    let count = ap (λ (s : GroupState). s.count) is in
    omega (arith, room_again c.self.inside name c.self.invariant (omega (arith, count, c.if-entry-eq0.false)), c.self.inside.free.ok.0)

pub invariant_of-self-2 : goal.invariant_of-self-2
invariant_of-self-2 c =
    let name = c.args.group.name in
    let inside : name < length c.self.inside.entries.items = omega (arith, c.if-name-len.false, c.len.ensures, c.self.inside.entries.ok.0) in
    let is = known c.self.inside name c.index_mut-entry.result.now inside c.index_mut-entry.ensures.value in
    let count = ap (λ (s : GroupState). s.count) is in
    let after = c.replace-row.ensures.after in
    arena_ended c.self.inside name c.replace-row.new.dest c.push_reserved.new.self c.self.invariant inside (omega (arith, count, c.if-entry-eq0.false))
    (ap (λ e. e.count) after) (ap (λ e. map kept_slot e.row.items) after ∙ ap (λ xs. map kept_slot xs) c.new.ensures.items)
    c.push_reserved.ensures.items (omega (arith, c.push_reserved.ensures.capacity))

pub returns-clause-groups : goal.returns-clause-groups
returns-clause-groups c =
    let name = c.args.group.name in
    let inside : name < length c.self.inside.entries.items = omega (arith, c.if-name-len.false, c.len.ensures, c.self.inside.entries.ok.0) in
    let is = known c.self.inside name c.index_mut-entry.result.now inside c.index_mut-entry.ensures.value in
    let count = ap (λ (s : GroupState). s.count) is in
    let now = ap (λ (x : List GroupState). count_at x name) c.self.view_is in
    let none : group_of c.replace-row.new.dest ≡ no_group = ap (λ e. group_of e) c.replace-row.ensures.after ∙ ap (λ xs. record { count = 0; row = map kept_slot xs }) c.new.ensures.items in
    entry_set c.self.inside name _ c.push_reserved.new.self
    ∙ (ap (λ (s : GroupState). set (groups_of c.self.inside) name s) none
    ∙ (ap (λ (x : List GroupState). without name x) c.self.view_is
    ∙ sym (ends_last c.args.self.now name (omega (arith, c.if-entry-gt1.false, count, now)))))

pub returns-clause-row : goal.returns-clause-row
returns-clause-row c =
    let name = c.args.group.name in
    let inside : name < length c.self.inside.entries.items = omega (arith, c.if-name-len.false, c.len.ensures, c.self.inside.entries.ok.0) in
    let is = known c.self.inside name c.index_mut-entry.result.now inside c.index_mut-entry.ensures.value in
    let count = ap (λ (s : GroupState). s.count) is in
    let now = ap (λ (x : List GroupState). count_at x name) c.self.view_is in
    ap (λ e. map kept_slot e.row.items) c.replace-row.ensures.value
    ∙ (sym (ap (λ (s : GroupState). s.row) is)
    ∙ (ap (λ (x : List GroupState). row_at x name) c.self.view_is
    ∙ sym (gives_row c.args.self.now name (omega (arith, c.if-entry-gt1.false, count, now)))))
