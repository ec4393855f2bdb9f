use Rattle.std.proofs.Common.{◌+◌, ◌++◌, ap, append-nil, drop, flat_map, is_ok, not, sym, subst, ◌∙◌}
use Rattle.std.proofs.Math.Bool.{or-false}
use Rattle.std.proofs.lemmas.List.{drop_all}
use Rattle.std.specs.Io.KnownBytes.{Appends}
use Rattle.shtext.proofs.Known.{Writes-flushed}
use Rattle.shlive.proofs.Written.{next_piece, not_ok, piece_failed, piece_next, piece_written}
use Rattle.shlive.proofs.reply.write_flushed.Goals as goal

pub returns-then-is_err-clause-bytes : goal.returns-then-is_err-clause-bytes
returns-then-is_err-clause-bytes g c =
    let inv = c.loop-piece.invariant.1 in
    let told = g.W.Write.contents in
    let failed = not_ok c.write_whole.result ∙ sym c.is_err.ensures.value ∙ c.if-is_err.true in
    let at = c.loop-piece.piece-index in
    piece_failed (told c.args.output.now.writer) (told c.loop-piece.output.writer) (told c.write_whole.new.self.writer)
    (not (is_ok c.write_whole.result)) (flat_map (λ p. p.now) c.args.pieces.now) inv.0
    (flat_map (λ p. p.now) (drop at c.args.pieces.now)) _
    (flat_map (λ p. p.now) (drop (at + 1) c.args.pieces.now)) failed inv.2
    (next_piece c.args.pieces.now at _ c.loop-piece-test.true) inv.1 c.write_whole.ensures.bytes

pub loop-piece-preserved : goal.loop-piece-preserved
loop-piece-preserved g c =
    let inv = c.loop-piece.invariant.1 in
    let told = g.W.Write.contents in
    let fine = not_ok c.write_whole.result ∙ sym c.is_err.ensures.value ∙ c.if-is_err.false in
    let at = c.loop-piece.piece-index in (
      rw (c.write_whole.ensures.failed, fine, or-false) c.loop-piece.invariant.0,
      (
        _,
        piece_written (told c.args.output.now.writer) (told c.loop-piece.output.writer)
            (told c.write_whole.new.self.writer)
            (not (is_ok c.write_whole.result)) inv.0 _ fine inv.1 c.write_whole.ensures.bytes,
        piece_next (flat_map (λ p. p.now) c.args.pieces.now) inv.0 (flat_map (λ p. p.now) (drop at c.args.pieces.now)) _
            (flat_map (λ p. p.now) (drop (at + 1) c.args.pieces.now)) inv.2
            (next_piece c.args.pieces.now at _ c.loop-piece-test.true),
      ),
    )

pub returns-clause-bytes : goal.returns-clause-bytes
returns-clause-bytes g c =
    let inv = c.loop-piece.invariant.1 in
    let told = g.W.Write.contents in
    let at = c.loop-piece.piece-index in
    let none = ap (flat_map (λ p. p.now)) (drop_all at c.args.pieces.now c.loop-piece-test.false) in
    let all = inv.2 ∙ ap (λ l. inv.0 ++ l) none ∙ append-nil inv.0 in
    Writes-flushed (told c.args.output.now.writer) (told c.loop-piece.output.writer) (told c.flush.new.self.writer)
    (not (is_ok c.flush.result)) (flat_map (λ p. p.now) c.args.pieces.now)
    (subst (Appends (told c.args.output.now.writer) (told c.loop-piece.output.writer)) (sym all) inv.1)
    c.flush.ensures.bytes
