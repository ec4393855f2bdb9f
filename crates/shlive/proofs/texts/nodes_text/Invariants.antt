use Rattle.std.proofs.Common.{◌≡◌, ◌++◌, codes, decimal, flat_map, length, take}
use Rattle.shtext.specs.Buffer.{buffer_bytes}
use Rattle.shlive.specs.Replies.{node_text}
use Rattle.shlive.proofs.texts.nodes_text.Given as goal

abbrev pub invariant-loop-node : goal.invariant-loop-node
invariant-loop-node l =
    l.text.items ++ codes "\n" ≡ l.word ++ codes " " ++ decimal (length l.nodes) ++ codes "\n"
    ++ flat_map (node_text (buffer_bytes l.script)) (take l.node-index l.nodes)
