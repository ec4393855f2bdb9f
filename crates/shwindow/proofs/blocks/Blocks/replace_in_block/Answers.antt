use Rattle.std.proofs.Common.{◌≡◌, ◌++◌, ◌∙◌, ap, arith, drop, set, take}
use Rattle.shwindow.specs.Blocks.{block_at, in_one_row, lines_before, lines_from}
use Rattle.shwindow.specs.Lines.{extent}
use Rattle.shwindow.specs.Places.{in_block}
use Rattle.shwindow.proofs.Joined.{between_joined, block_read, extent_between_blocks}
use Rattle.shwindow.proofs.blocks.Blocks.replace_in_block.Given.{Over}
use Rattle.shwindow.proofs.blocks.Blocks.replace_in_block.Goals as goal
use Rattle.shwindow.proofs.blocks.Blocks.replace_in_block.Goals.{After-index_mut-block, In_ok-replace}

-- the block that changes
block : (g : Over) (c : After-index_mut-block g) →
    c.index_mut-block.result.now ≡ block_at c.args.self.now.blocks.items c.args.from.block
block g c =
    let blocks = c.args.self.now.blocks.items in
    block_read blocks c.args.from.block c.index_mut-block.result.now c.requires.gives.block
    c.index_mut-block.ensures.value

-- its lines then
lines_then : (g : Over) (c : After-index_mut-block g) →
    take c.args.from.line c.index_mut-block.result.now
    ++ (c.into_lines-lines.result.items ++ drop c.args.to c.index_mut-block.result.now)
    ≡ take c.args.from.line (block_at c.args.self.now.blocks.items c.args.from.block)
    ++ (in_one_row c.args.new.blocks.items
    ++ drop c.args.to (block_at c.args.self.now.blocks.items c.args.from.block))
lines_then g c =
    let old = block_at c.args.self.now.blocks.items c.args.from.block in
    ap (λ x. take c.args.from.line x ++ (c.into_lines-lines.result.items ++ drop c.args.to x)) (block g c)
    ∙ ap (λ x. take c.args.from.line old ++ (x ++ drop c.args.to old)) c.into_lines-lines.ensures

pub replace-requires-clause-fits : goal.replace-requires-clause-fits
replace-requires-clause-fits g c =
    let same = ap extent (lines_then g (goal.at.replace-requires-clause-fits g c).After-index_mut-block) in
    omega (
      arith,
      same,
      c.requires.fits,
      extent_between_blocks c.args.self.now.blocks.items c.args.from c.args.to (in_one_row c.args.new.blocks.items),
    )

-- all lines then
all_lines : (g : Over) (c : In_ok-replace g) →
    c.index_mut-block.result.now ≡ block_at c.args.self.now.blocks.items c.args.from.block
    → in_one_row (set c.args.self.now.blocks.items c.args.from.block c.replace.new.self)
    ≡ lines_before c.args.self.now.blocks.items c.args.from
    ++ (in_one_row c.args.new.blocks.items
    ++ lines_from c.args.self.now.blocks.items (in_block c.args.from c.args.to))
all_lines g c read =
    let blocks = c.args.self.now.blocks.items in
    let old = block_at blocks c.args.from.block in
    between_joined blocks c.args.from c.args.to
    (in_one_row c.args.new.blocks.items) c.replace.new.self c.requires.gives.block
    (c.in_ok-replace.ensures.ok
    ∙ ap (λ x. take c.args.from.line x ++ (c.into_lines-lines.result.items ++ drop c.args.to x)) read
    ∙ ap (λ x. take c.args.from.line old ++ (x ++ drop c.args.to old)) c.into_lines-lines.ensures)

pub merge-requires : goal.merge-requires
merge-requires g c =
    let at = goal.at.merge-requires g c in
    omega (arith, ap extent (all_lines g at.In_ok-replace (block g at.After-index_mut-block)), c.requires.fits)

pub merge-requires-then-is_fewer : goal.merge-requires-then-is_fewer
merge-requires-then-is_fewer g c =
    let at = goal.at.merge-requires-then-is_fewer g c in
    omega (
      arith,
      ap extent (c.merge.ensures ∙ all_lines g at.In_ok-replace (block g at.After-index_mut-block)),
      c.requires.fits,
    )

pub returns-then-is_fewer-clause-ok : goal.returns-then-is_fewer-clause-ok
returns-then-is_fewer-clause-ok g c =
    let at = goal.at.returns-then-is_fewer-clause-ok g c in
    c.merge-then-is_fewer.ensures ∙ c.merge.ensures ∙ all_lines g at.In_ok-replace (block g at.After-index_mut-block)

pub returns-else-is_fewer-clause-ok : goal.returns-else-is_fewer-clause-ok
returns-else-is_fewer-clause-ok g c =
    let at = goal.at.returns-else-is_fewer-clause-ok g c in
    all_lines g at.In_ok-replace (block g at.After-index_mut-block)
