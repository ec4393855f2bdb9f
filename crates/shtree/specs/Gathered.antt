-- What a walk over a tree gathers of its nodes.
use Rattle.std.specs.Prelude.{◌≡◌, Bool, List as Row, ◌++◌, OnOk, Result, filter, length, take}
use Rattle.shast.specs.declared.node.NodeLine.{NodeLine}

-- those of some nodes that are wanted, after the nodes so far
unfoldable pub gathered : (NodeLine → Bool) → Row NodeLine → Row NodeLine → Row NodeLine
gathered wanted so_far ns = so_far ++ filter wanted ns

-- nodes begin with these
unfoldable pub Begins : Row NodeLine → Row NodeLine → Type 0
Begins first ns = take (length first) ns ≡ first

-- whatever the nodes began with, they begin with it still
abbrev pub Keeps : Row NodeLine → Row NodeLine → Type 0
Keeps before after = (first : Row NodeLine) → Begins first before → Begins first after

-- A part of the walk gathers nodes: unless memory ran out, those of them that are wanted stand after the
-- nodes before, and nothing else does. Either way, whatever the nodes began with, they begin with it still.
pub record Gathers {X E : Type 0} (wanted : NodeLine → Bool) (before : Row NodeLine)
    (result : Result X E) (after ns : Row NodeLine) : Type 0 where
  pub ok : OnOk result (after ≡ gathered wanted before ns)
  pub kept : Keeps before after
