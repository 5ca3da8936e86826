-- an item whose last owner is released goes into one bag, and else bags stay
use Rattle.std.proofs.Common.{◌≡◌, ◌<◌, ◌+◌, ℕ, Option, None, Some, ◌∷◌, cond, ne_eqb, ap, arith}
use Rattle.sdd_homes.specs.declared.Garbage.{Garbage}
use Rattle.sdd_homes.specs.declared.Lease.{Lease}
use Rattle.domain_table.specs.Leases.{first_age, gone_to}
use Rattle.domain_table.specs.Plays.{retiring, collecting}
use Rattle.domain_table.specs.declared.board.Acting.{Acting}

-- the bags of d once a lease of l was released, where the word was k
abbrev pub rebagged : Option ℕ → ℕ → Lease → Acting → Acting
rebagged to k l d = record d { waits = retiring to k l d.waits; collected = collecting to k l d.collected }

pub bags_stay : (to : Option ℕ) (n : ℕ) (l : Lease) (d : Acting) → 0 < n → rebagged to (n + 3) l d ≡ d
bags_stay None n l d more = ap (λ b. record d { waits = cond b (record { item = l.item; slot = l.slot; round = l.round; age = 0; next = 0 } ∷ d.waits) d.waits }) (ne_eqb (n + 3) 3 (λ e. omega arith))
bags_stay (Some note) n l d more = ap (λ b. record d { collected = cond b (record { item = l.item; slot = l.slot; round = l.round; age = note; next = 0 } ∷ d.collected) d.collected }) (ne_eqb (n + 3) 3 (λ e. omega arith))

abbrev pub gone : Option ℕ → Lease → Garbage
gone to l = record { item = l.item; slot = l.slot; round = l.round; age = first_age to; next = 0 }

pub one_goes : (to : Option ℕ) (n : ℕ) (l : Lease) (d : Acting) → n ≡ 0 → rebagged to (n + 3) l d ≡ gone_to to (gone to l) d
one_goes None n l d none = ap (λ z. rebagged None (z + 3) l d) none
one_goes (Some note) n l d none = ap (λ z. rebagged (Some note) (z + 3) l d) none
