use Rattle.std.proofs.Common.{◌≡◌, ◌++◌, List, ℕ, flat_map, drop}
use Rattle.std.specs.Io.KnownBytes.{Appends}
use Rattle.shlive.proofs.reply.write_flushed.Given as goal

abbrev pub invariant-loop-piece : goal.invariant-loop-piece
invariant-loop-piece g l =
    (l.output.failed ≡ l.fn.output.failed)
    × ((text : List ℕ) × Appends (g.W.Write.contents l.fn.output.writer) (g.W.Write.contents l.output.writer) text
    × (flat_map (λ p. p.now) l.pieces ≡ text ++ flat_map (λ p. p.now) (drop l.piece-index l.pieces)))
