use Rattle.std.proofs.Common.{◌≡◌, ◌<◌, ◌∙◌, ap, arith, length, sym}
use Rattle.shwindow.proofs.Joined.{block_read, joined_empty, joined_single}
use Rattle.shwindow.proofs.blocks.Blocks.few.Goals as goal

pub returns-in-0-clause-count : goal.returns-in-0-clause-count
returns-in-0-clause-count g c =
    let blocks = c.args.self.now.blocks in
    let ok = blocks.ok in
    let none : length blocks.items ≡ 0 = omega (arith, c.in-0.is, c.len.ensures) in
    sym (ap length (joined_empty blocks.items none))

pub returns-in-1-clause-count : goal.returns-in-1-clause-count
returns-in-1-clause-count g c =
    let blocks = c.args.self.now.blocks in
    let ok = blocks.ok in
    let one : length blocks.items ≡ 1 = omega (arith, c.in-1.is, c.len.ensures) in
    let within : 0 < length blocks.items = omega arith in
    ap length (c.lines.ensures.lines ∙ block_read blocks.items 0 c.index.result.now within c.index.ensures
    ∙ sym (joined_single blocks.items one))
