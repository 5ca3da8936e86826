-- Writes of a list of pairs: the list that each leaves, and the reply to it.
use Rattle.std.specs.Prelude.{cond, not, List, [], ◌∷◌}
use Rattle.std.specs.declared.cmp.Ordering.{Ordering}
use Rattle.std.specs.declared.ops.Bound.{Bound}
use Rattle.std.specs.BTreeMap.Range.{range_contains}
use Rattle.std.specs.List.{filter}
use Rattle.leaf_array.specs.Edits.{inserted, removed, upserted}
use Rattle.leaf_array.specs.Pairs.{has_key}
use Rattle.version_views.specs.declared.write.Reply.{Reply}
use Rattle.version_views.specs.declared.write.Reply.TheVariants as replies
use Rattle.version_views.specs.declared.write.Write.{Write}
use Rattle.version_views.specs.declared.write.Write.TheVariants as writes

module _ {K V : Type 0} (cmp : K → K → Ordering) where
  -- the pairs whose keys lie outside two bounds
  abbrev pub pairs_outside : Bound K → Bound K → List (K × V) → List (K × V)
  pairs_outside lower upper pairs = filter (λ p. not (range_contains cmp lower upper p.0)) pairs

  -- the list that a write leaves
  abbrev pub after_write : Write K V → List (K × V) → List (K × V)
  after_write (writes.Insert key value) pairs = inserted cmp key value pairs
  after_write (writes.Upsert key value) pairs = upserted cmp key value pairs
  after_write (writes.Remove key) pairs = removed cmp key pairs
  after_write (writes.RemoveRange lower upper) pairs = pairs_outside lower upper pairs
  after_write writes.Clear pairs = []

  -- the reply to a write
  abbrev pub reply_to : Write K V → List (K × V) → Reply
  reply_to (writes.Insert key value) pairs = cond (has_key cmp key pairs) replies.Duplicate replies.Inserted
  reply_to (writes.Upsert key value) pairs = replies.Upserted
  reply_to (writes.Remove key) pairs = cond (has_key cmp key pairs) replies.Removed replies.Absent
  reply_to (writes.RemoveRange lower upper) pairs = replies.RangeRemoved
  reply_to writes.Clear pairs = replies.Cleared

  -- the list that writes leave, one after the other
  abbrev pub after_writes : List (Write K V) → List (K × V) → List (K × V)
  after_writes [] pairs = pairs
  after_writes (w ∷ ws) pairs = after_writes ws (after_write w pairs)

  -- the replies to writes
  abbrev pub replies_to : List (Write K V) → List (K × V) → List Reply
  replies_to [] pairs = []
  replies_to (w ∷ ws) pairs = reply_to w pairs ∷ replies_to ws (after_write w pairs)
