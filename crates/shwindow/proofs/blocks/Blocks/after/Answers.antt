use Rattle.std.proofs.Common.{◌∙◌, ◌+◌, ◌<◌, ◌≤◌, ap, arith, length}
use Rattle.shwindow.specs.Blocks.{block_at}
use Rattle.shwindow.proofs.Joined.{after_out, after_within, block_read, place_line}
use Rattle.shwindow.proofs.blocks.Blocks.after.Goals as goal

pub returns-then-place-last-clause-rest : goal.returns-then-place-last-clause-rest
returns-then-place-last-clause-rest g c =
    let blocks = c.args.self.now.blocks in
    let ok = blocks.ok in
    let within : c.args.place.block < length blocks.items = omega arith in
    let same = ap length (c.lines.ensures.lines
    ∙ block_read blocks.items c.args.place.block c.index-block.result.now within c.index-block.ensures) in
    let low : c.args.place.line < length (block_at blocks.items c.args.place.block) =
    omega (arith, same, c.if-place-last.true) in
    after_within blocks.items c.args.place low

pub returns-else-place-last-clause-rest : goal.returns-else-place-last-clause-rest
returns-else-place-last-clause-rest g c =
    let blocks = c.args.self.now.blocks in
    let ok = blocks.ok in
    let within : c.args.place.block < length blocks.items = omega arith in
    let same = ap length (block_read blocks.items c.args.place.block c.index-block.result.now within
    c.index-block.ensures) in
    let lines = ap length c.lines.ensures.lines in
    let some = c.lines.ensures.some in
    let low = place_line blocks.items c.args.place c.requires.place (omega (arith, same, some)) in
    let high : length (block_at blocks.items c.args.place.block) ≤ c.args.place.line + 1 =
    omega (arith, same, lines, c.if-place-last.false) in
    after_out blocks.items c.args.place low high
