use Rattle.std.proofs.Common.{◌<◌, ◌∙◌, ap, arith, length, take}
use Rattle.shwindow.proofs.Joined.{block_read, kept_joined}
use Rattle.shwindow.proofs.blocks.Blocks.keep_before.Goals as goal

pub returns-clause-before : goal.returns-clause-before
returns-clause-before g c =
    let blocks = c.args.self.now.blocks in
    let ok = blocks.ok in
    let place = c.args.place in
    let kept = c.requires.kept (omega arith) in
    let low : place.block < length blocks.items = omega (arith, kept.0, c.requires.within) in
    let read = block_read blocks.items place.block c.index_mut-block.result.now low c.index_mut-block.ensures.value in
    kept_joined blocks.items place c.keep.new.self low (c.keep.ensures ∙ ap (take place.line) read)
