use Rattle.std.proofs.Common.{[], ◌∷◌, ◌++◌, append-nil, refl}
use Rattle.std.proofs.lemmas.Bool.{ne_eqb}
use Rattle.shlive.specs.Ahead.{ahead_of}
use Rattle.shlive.proofs.InLine.{in_line_more}
use Rattle.shlive.proofs.Taken.{takes_both, takes_byte}
use Rattle.shlive.proofs.lines.take_line.Goals as goal

pub returns-in-Err-clause-cut : goal.returns-in-Err-clause-cut
returns-in-Err-clause-cut g c =
    let inv = c.bytes.invariant.1 in (
      inv.0,
      inv.1,
      takes_both _ _ _ inv.0 [] inv.0 inv.3 c.fill.ensures.takes (append-nil inv.0),
      c.in-Err.ensures.stops,
    )

pub returns-then-byte-eq10-clause-line : goal.returns-then-byte-eq10-clause-line
returns-then-byte-eq10-clause-line g c =
    let inv = c.bytes.invariant.1 in
    let ahead = ahead_of g.R.Read.remaining in
    let takes = takes_byte (ahead c.args.input.now c.args.incoming.now) (ahead c.bytes.input c.bytes.incoming)
    (ahead c.fill.new.input c.fill.new.self) (ahead c.fill.new.input c.take-byte.new.self)
    inv.0 c.take-byte.result inv.3 c.fill.ensures.takes refl c.take-byte.ensures.count c.take-byte.ensures.bytes in
    (inv.0, inv.1, inv.2, rw c.if-byte-eq10.true at takes)

pub bytes-preserved : goal.bytes-preserved
bytes-preserved g c =
    let inv = c.bytes.invariant.1 in
    let ahead = ahead_of g.R.Read.remaining in
    let takes = takes_byte (ahead c.args.input.now c.args.incoming.now) (ahead c.bytes.input c.bytes.incoming)
    (ahead c.fill.new.input c.fill.new.self) (ahead c.fill.new.input c.take-byte.new.self)
    inv.0 c.take-byte.result inv.3 c.fill.ensures.takes refl c.take-byte.ensures.count c.take-byte.ensures.bytes in (
      (c.in_default.ensures.ready.0, rw c.take-byte.ensures.count c.in_default.ensures.ready.1),
      (
        inv.0 ++ c.take-byte.result ∷ [],
        in_line_more inv.0 c.take-byte.result inv.1 (ne_eqb c.take-byte.result 10 c.if-byte-eq10.false),
        c.push.ensures inv.0 inv.2,
        takes,
      ),
    )
