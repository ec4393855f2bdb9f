use Rattle.std.proofs.Common.{◌≡◌, [], ◌++◌, append-nil, arith, ap, length, length-append, refl, sym, ◌∙◌, drop}
use Rattle.std.proofs.lemmas.List.{length-take}
use Rattle.shlive.specs.Ahead.{ahead_of}
use Rattle.shlive.proofs.Taken.{front_and_rest, takes_both, takes_front}
use Rattle.shlive.proofs.payload.take_payload.Goals as goal

pub returns-in-Err-clause-cut : goal.returns-in-Err-clause-cut
returns-in-Err-clause-cut g c =
    let inv = c.pieces.invariant.1 in (
      inv.0,
      omega (arith, inv.1, c.pieces-test.true),
      takes_both _ _ _ inv.0 [] inv.0 inv.3 c.fill.ensures.takes (append-nil inv.0),
      c.in-Err.ensures.stops,
    )

pub pieces-preserved : goal.pieces-preserved
pieces-preserved g c =
    let inv = c.pieces.invariant.1 in
    let ahead = ahead_of g.R.Read.remaining in
    let piece = c.front-piece.result.now in
    let waits = c.fill.new.self.bytes in
    let long = length-take c.pieces.left waits in
    let size = ap length c.front-piece.ensures in
    let parts : waits ≡ piece ++ c.pass.new.self.bytes
    = sym (ap (λ l. piece ++ l) c.pass.ensures.bytes ∙ ap (λ l. l ++ drop (length l) waits) c.front-piece.ensures
    ∙ front_and_rest c.pieces.left waits) in
    let takes = takes_both (ahead c.args.input.now c.args.incoming.now) (ahead c.fill.new.input c.fill.new.self)
    (ahead c.fill.new.input c.pass.new.self) inv.0 piece _
    (takes_both (ahead c.args.input.now c.args.incoming.now) (ahead c.pieces.input c.pieces.incoming)
    (ahead c.fill.new.input c.fill.new.self) inv.0 [] inv.0 inv.3 c.fill.ensures.takes (append-nil inv.0))
    (takes_front (ahead c.fill.new.input c.fill.new.self)
    (ahead c.fill.new.input c.pass.new.self) piece refl c.pass.ensures.count parts) refl in
    let both = length-append inv.0 piece in (
      (c.in_default.ensures.ready.0, rw c.pass.ensures.count c.in_default.ensures.ready.1),
      (inv.0 ++ piece, omega (arith, inv.1, both, long, size), c.keep_more-kept.ensures inv.0 inv.2, takes),
    )
