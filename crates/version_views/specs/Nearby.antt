-- Where a key is in a version, in the words of a tree.
use Rattle.tree_index.specs.declared.proximity.Proximity.{Proximity}
use Rattle.tree_index.specs.declared.proximity.Proximity.TheVariants as trees
use Rattle.version_views.specs.declared.nearby.Nearby.{Nearby}
use Rattle.version_views.specs.declared.nearby.Nearby.TheVariants as versions

-- the same case with the same cursor
abbrev pub as_proximity : {K V W O R : Type 0} → Nearby K V W O R → Proximity K V
as_proximity (versions.Exact c) = trees.Exact c
as_proximity (versions.Between c) = trees.Between c
as_proximity (versions.Smaller c) = trees.Smaller c
as_proximity (versions.Larger c) = trees.Larger c
as_proximity versions.Empty = trees.Empty
