use Rattle.std.proofs.Common.{◌≡◌, ◌+◌, ◌++◌, ◌∙◌, take, length, arith, refl, length-append}
use Rattle.std.proofs.lemmas.Bool.{ne_eqb}
use Rattle.std.proofs.lemmas.List.{length-take-le}
use Rattle.std.proofs.lemmas.Result.{err_from_is_err_and}
use Rattle.shtext.proofs.Known.{Consumes-trans}
use Rattle.shtool.proofs.engine.read_into.Goals as goal

pub returns-in_err-count-clause-err : goal.returns-in_err-count-clause-err
returns-in_err-count-clause-err g c =
    let read = c.pieces.invariant.taken in
    let more = c.in_err-count.ensures.err in
    let size : length (read.0 ++ more.0) ≡ c.pieces.held + length more.0 =
    omega (arith, read.3, length-append read.0 more.0) in
    let p = err_from_is_err_and c.from_residual.result c.from_residual.ensures.1 in
    rw (p.1, p.2) (
      read.0 ++ more.0,
      Consumes-trans (g.R.Read.remaining c.args.input.now.reader) (g.R.Read.remaining c.pieces.input.reader)
          (g.R.Read.remaining c.read_piece.new.input.reader) read.0 more.0 _ read.2 more.1 refl,
      more.2 (read.0 ++ more.0) size,
    )

pub returns-in_default-clause-err : goal.returns-in_default-clause-err
returns-in_default-clause-err g c =
    let read = c.pieces.invariant.taken in
    let count = c.in_ok-count.count in
    let ok = c.in_ok-count.ensures.ok in
    let front = take count c.read_piece.new.piece in (
      read.0 ++ front,
      Consumes-trans (g.R.Read.remaining c.args.input.now.reader) (g.R.Read.remaining c.pieces.input.reader)
          (g.R.Read.remaining c.read_piece.new.input.reader) read.0 front _ read.2 ok.2 refl,
      (ok.3, omega (arith, read.3, length-append read.0 front, ok.1, length-take-le count c.read_piece.new.piece ok.0)),
    )

pub pieces-preserved : goal.pieces-preserved
pieces-preserved g c =
    let read = c.pieces.invariant.taken in
    let count = c.in_ok-count.count in
    let ok = c.in_ok-count.ensures.ok in
    let front = take count c.read_piece.new.piece in record {
      taken = (
        read.0 ++ front,
        λ setup begun. c.in-Ok.ensures setup read.0 (read.1 setup begun),
        Consumes-trans (g.R.Read.remaining c.args.input.now.reader) (g.R.Read.remaining c.pieces.input.reader)
            (g.R.Read.remaining c.read_piece.new.input.reader) read.0 front _ read.2 ok.2 refl,
        omega (arith, read.3, length-append read.0 front, length-take-le count c.read_piece.new.piece ok.0),
      );
      low = ok.1;
      size = c.read_piece.ensures.size ∙ c.pieces.invariant.size;
      sound = ok.3;
      unended = ok.4 ∙ ne_eqb count 0 c.if-count-eq0.false;
    }
