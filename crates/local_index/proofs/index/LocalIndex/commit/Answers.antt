use Rattle.std.proofs.Common.{refl, ◌++◌, ◌∷◌, [], List, sym, ap, ◌∙◌, lit<, subst, arith}
use Rattle.local_index.specs.State.{MayAccept, State, Refuses, transaction_of}
use Rattle.local_index.proofs.index.LocalIndex.commit.Goals as goal

pub returns-in-Some-clause-commits : goal.returns-in-Some-clause-commits
returns-in-Some-clause-commits g c = record {
  may = rw c.as_slice-reads.ensures at c.in-Some.ensures.some c.args.writes.items;
  given_back = refl;
  unchanged = refl;
}

pub returns-in_default-prepare-clause-commits : goal.returns-in_default-prepare-clause-commits
returns-in_default-prepare-clause-commits g c = record {
  may = rw c.as_slice-reads.ensures at c.in_default.ensures.none;
  given_back = refl;
  unchanged = refl;
}

pub returns-in-Ok-install-clause-commits : goal.returns-in-Ok-install-clause-commits
returns-in-Ok-install-clause-commits g c =
    let old : State _ _ = c.args.self.now in
    let reads = c.in-Ok.ensures.reads ∙ c.as_slice-reads.ensures in record {
      may = rw c.as_slice-reads.ensures at c.in_default.ensures.none;
      number = c.next_number-number.ensures;
      replies = c.in-Ok-install.ensures.told;
      changed = c.in-Ok-install.ensures.ok ∙ ap (λ rs. record old { history = old.history ++ transaction_of g.K.Ord.cmp old rs c.args.writes.items ∷ []; used = c.install.new.self.used }) reads;
      room = c.in-Ok-install.ensures.room;
    }

pub returns-in-Err-clause-commits : goal.returns-in-Err-clause-commits
returns-in-Err-clause-commits g c =
    subst (λ (rs : List _). Refuses g.K.Ord.cmp g.row.S c.args.self.now rs c.args.writes.items c.in-Err.refused c.install.new.self) (c.in-Ok.ensures.reads ∙ c.as_slice-reads.ensures) c.in-Err.ensures.refused

pub next_number-number-requires : goal.next_number-number-requires
next_number-number-requires g c = (lit< tt, c.in_default.ensures.none.not_last)

pub install-requires : goal.install-requires
install-requires g c =
    let accepted = subst (λ (rs : List _). MayAccept g.K.Ord.cmp c.args.self.now rs) (sym c.in-Ok.ensures.reads) c.in_default.ensures.none in
    (lit< tt, (c.requires.keys, (c.requires.values, (c.in-Ok.ensures.empty, (omega (arith, c.in-Ok.ensures.room, c.len.ensures, c.args.writes.ok.0), accepted)))))

pub returns-in-Some-clause-short : goal.returns-in-Some-clause-short
returns-in-Some-clause-short g c = λ e. absurd (c.in-Some.ensures.early e)

pub returns-in-Ok-install-clause-sessions : goal.returns-in-Ok-install-clause-sessions
returns-in-Ok-install-clause-sessions g c = ap (λ (x : State _ _). x.places) c.in-Ok-install.ensures.ok

pub returns-in-Ok-install-clause-few : goal.returns-in-Ok-install-clause-few
returns-in-Ok-install-clause-few g c = c.in-Ok-install.ensures.few

pub returns-in-Err-clause-sessions : goal.returns-in-Err-clause-sessions
returns-in-Err-clause-sessions g c = ap (λ (x : State _ _). x.places) c.in-Err.ensures.refused.unchanged

pub returns-in-Err-clause-short : goal.returns-in-Err-clause-short
returns-in-Err-clause-short g c = c.in-Err.ensures.short
