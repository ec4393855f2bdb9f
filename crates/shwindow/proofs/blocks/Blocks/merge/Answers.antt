use Rattle.std.proofs.Common.{◌+◌, ◌<◌, ◌++◌, ◌∙◌, ap, arith, length}
use Rattle.shwindow.specs.Blocks.{block_at, in_one_row}
use Rattle.shwindow.specs.Lines.{extent}
use Rattle.shwindow.proofs.Joined.{block_read, extent_two_blocks, merged, put_back, taken_out}
use Rattle.shwindow.proofs.blocks.Blocks.merge.Goals as goal

pub append-requires : goal.append-requires
append-requires g c =
    let blocks = c.args.self.now.blocks in
    let ok = blocks.ok in
    let n = c.args.first in
    let low : n + 1 < length blocks.items =
    omega (arith, c.if-saturating_sub-lt2.false, c.saturating_sub.ensures, c.len.ensures) in
    let rest = c.remove-moved.new.self.items in
    let out = taken_out blocks.items rest n low c.remove-moved.ensures.items in
    let block = block_read rest n c.index_mut-block.result.now out.2 c.index_mut-block.ensures.value ∙ out.3 in
    let moved = block_read blocks.items (n + 1) c.remove-moved.result low c.remove-moved.ensures.value in
    let one = ap extent block in
    let two = ap extent moved in
    omega (arith, one, two, extent_two_blocks n blocks.items low, c.requires)

pub returns-in-Err : goal.returns-in-Err
returns-in-Err g c =
    let blocks = c.args.self.now.blocks in
    let ok = blocks.ok in
    let n = c.args.first in
    let low : n + 1 < length blocks.items =
    omega (arith, c.if-saturating_sub-lt2.false, c.saturating_sub.ensures, c.len.ensures) in
    let rest = c.remove-moved.new.self.items in
    let out = taken_out blocks.items rest n low c.remove-moved.ensures.items in
    let moved = block_read blocks.items (n + 1) c.remove-moved.result low c.remove-moved.ensures.value in
    let same = c.in-Err.ensures.err
    ∙ block_read rest n c.index_mut-block.result.now out.2 c.index_mut-block.ensures.value in
    ap in_one_row c.put_one.ensures
    ∙ put_back blocks.items rest n c.append.new.self c.in-Err.moved low c.remove-moved.ensures.items same
    (c.in-Err.ensures.back ∙ moved)

pub returns-in_default : goal.returns-in_default
returns-in_default g c =
    let blocks = c.args.self.now.blocks in
    let ok = blocks.ok in
    let n = c.args.first in
    let low : n + 1 < length blocks.items =
    omega (arith, c.if-saturating_sub-lt2.false, c.saturating_sub.ensures, c.len.ensures) in
    let rest = c.remove-moved.new.self.items in
    let out = taken_out blocks.items rest n low c.remove-moved.ensures.items in
    let block = block_read rest n c.index_mut-block.result.now out.2 c.index_mut-block.ensures.value ∙ out.3 in
    let moved = block_read blocks.items (n + 1) c.remove-moved.result low c.remove-moved.ensures.value in
    let both = c.in_default.ensures.ok ∙ ap (λ x. x ++ c.remove-moved.result) block
    ∙ ap (λ x. block_at blocks.items n ++ x) moved in
    merged blocks.items rest n c.append.new.self low c.remove-moved.ensures.items both
