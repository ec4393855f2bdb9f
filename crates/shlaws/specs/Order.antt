-- The order of a script's nodes, said without a way to put them in it.
use Rattle.std.specs.Prelude.{◌≡◌, ℕ, ◌<◌, ◌≤◌, ◌⊎◌, ◌==◌, ◌&&◌, Bool, List as Row, AllPairs, filter}
use Rattle.shast.specs.declared.node.NodeLine.{NodeLine}

-- one node may stand before another: it starts before it, or at one place with it and is not the shorter
abbrev pub MayPrecede : NodeLine → NodeLine → Type 0
MayPrecede a b = (a.start < b.start) ⊎ ((a.start ≡ b.start) × (b.«end» ≤ a.«end»))

-- each node may stand before all those after it
abbrev pub AreInOrder : Row NodeLine → Type 0
AreInOrder ns = AllPairs MayPrecede ns

-- a node stands from this offset to that
abbrev pub stands_from : ℕ → ℕ → NodeLine → Bool
stands_from start until n = n.start == start && n.«end» == until

-- at each place the two rows have the same nodes, one after another alike
abbrev pub HaveTheSameAtEachPlace : Row NodeLine → Row NodeLine → Type 0
HaveTheSameAtEachPlace ms ns =
    (start until : ℕ) → filter (stands_from start until) ms ≡ filter (stands_from start until) ns
