use Rattle.std.proofs.Common.{◌≡◌, ◌+◌, ◌<◌, ◌∙◌, ap, arith, length}
use Rattle.shwindow.proofs.Joined.{block_read}
use Rattle.shwindow.proofs.Places.{from_next}
use Rattle.shwindow.proofs.blocks.Blocks.end_in_block.Goals as goal

pub returns-clause-rest : goal.returns-clause-rest
returns-clause-rest g c =
    let blocks = c.args.self.now.blocks in
    let ok = blocks.ok in
    let from = c.args.from in
    let upto = c.args.upto in
    let within : from.block < length blocks.items = omega arith in
    let count = ap length (c.lines.ensures.lines
    ∙ block_read blocks.items from.block c.index.result.now within c.index.ensures) in
    let next : upto.block ≡ from.block + 1 = omega arith in
    let first : upto.line ≡ 0 = omega arith in
    from_next blocks.items from upto (length c.lines.result.now) next first count
