use Rattle.std.proofs.Common.{◌≡◌, ◌<◌, ◌≤◌, ℕ, Some, sym, ap, ◌∙◌, subst}
use Rattle.std.proofs.lemmas.Bool.{false≢true}
use Rattle.sdd_plain.specs.Epochs.{tag_number}
use Rattle.sdd_domain.specs.CellSteps.{HasExchanged}
use Rattle.sdd_domain.specs.Comparing.{owner_code, code_of, IsBack}
use Rattle.shared_lists.proofs.Made.{read_some, quiet_some, some_then}
use Rattle.shared_lists.proofs.Pushes.{push_made, pushed_before, codes_same, many_more, read_many, some_many}
use Rattle.shared_lists.proofs.TagLemmas.{below_two}
use Rattle.shared_lists.proofs.linked_entry.LinkedEntry.try_push.Goals as goal

pub returns-in-Ok-clause-tried : goal.returns-in-Ok-clause-tried
returns-in-Ok-clause-tried g c = let a = c.args.local.now in let n = c.load-next.new.local in let b = c.get_shared-owner.new.local in let d = c.follow.new.local in let e = c.compare_exchange.new.local in
    let own : ℕ = c.args.link.now.cell in let cell : ℕ = c.args.self.now.link.now.cell in let p = c.load-next.result in let t : ℕ = tag_number p.tag in let m : ℕ = tag_number c.args.tag in let code : ℕ = owner_code (Some c.args.entry) in
    let home_n = c.load-next.ensures.same.0.0.0 in let home_b = c.get_shared-owner.ensures.same.0.0.0 ∙ home_n in let home_d = c.follow.ensures.same.0.0.0 ∙ home_b in
    let before = some_then a n b (read_some a n cell t (code_of p.slot) c.load-next.ensures.looked) (quiet_some n b c.get_shared-owner.ensures.cells) in
    let same = codes_same c.get_shared-owner.result c.in-Ok.old p.slot (c.owns-is_there.ensures c.if-not-is_there.false ∙ c.slot.ensures) c.in-Ok.ensures.exact in
    let put = c.follow.ensures.put in let filled = subst (λ k. HasExchanged b own put.0 put.1 0 k d) same put.2 in
    (t, below_two t (λ h. false≢true (c.if-tells_deleted.ensures.1 (subst (λ z. 2 ≤ tag_number z) (sym c.tag.ensures) h))), pushed_before a e c.let_go.new.local (c.compare_exchange.ensures.same.0.0.0 ∙ home_d) own cell t m code (push_made a b d e own cell home_b home_d put.0 put.1 t m (owner_code c.in-Ok.old) code before filled c.in-Ok.ensures.exchanged) c.let_go.ensures.cells)

pub returns-in-Err-Some-default-clause-tried : goal.returns-in-Err-Some-default-clause-tried
returns-in-Err-Some-default-clause-tried g c = let a = c.args.local.now in let n = c.load-next.new.local in let b = c.get_shared-owner.new.local in let d = c.follow.new.local in let e = c.compare_exchange.new.local in
    let cell : ℕ = c.args.self.now.link.now.cell in let p = c.load-next.result in let f = c.in-Err-Some-default.field-0-1 in let home_n = c.load-next.ensures.same.0.0.0 in
    let behind = some_then n b e (quiet_some n b c.get_shared-owner.ensures.cells) (some_then b d e c.follow.ensures.some (read_some d e cell (tag_number f.tag) (code_of f.slot) c.in-Err-Some-default.ensures.looked)) in
    let back = subst (IsBack (Some c.args.entry)) c.in-Err-Some-default.field-0-0-is c.in-Err-Some-default.ensures.back in ((back.0, ap Some back.1, back.2), many_more a n e home_n 1 0 (read_many a n cell (tag_number p.tag) (code_of p.slot) c.load-next.ensures.looked) (some_many n e behind))
