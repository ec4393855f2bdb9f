use Rattle.std.proofs.Common.{◌≡◌, ◌+◌, ◌-◌, ◌<◌, ◌++◌, ◌∷◌, [], ◌∙◌, ap, arith, length}
use Rattle.std.proofs.lemmas.Result.{on_ok_weaker}
use Rattle.shwindow.specs.Blocks.{in_one_row}
use Rattle.shwindow.specs.Lines.{extent}
use Rattle.shwindow.proofs.Joined.{block_read, extent_block, joined_last, joined_push}
use Rattle.shwindow.proofs.blocks.Blocks.push.Goals as goal

pub returns-then-is_full : goal.returns-then-is_full
returns-then-is_full g c =
    let blocks = c.args.self.now.blocks.items in
    ap in_one_row c.in_ok-push.ensures.items ∙ joined_push blocks c.in_ok-block.block
    ∙ ap (λ k. in_one_row blocks ++ k) c.in_ok-block.ensures

pub push-requires-2 : goal.push-requires-2
push-requires-2 g c =
    let blocks = c.args.self.now.blocks in
    let ok = blocks.ok in
    let some = c.is_full.ensures c.if-is_full.false in
    let within : c.len-last.result - 1 < length blocks.items = omega (arith, some, c.len-last.ensures) in
    let same = ap extent (block_read blocks.items
    (c.len-last.result - 1) c.index_mut-block.result.now within c.index_mut-block.ensures.value) in
    omega (arith, same, extent_block (c.len-last.result - 1) blocks.items within, c.requires)

pub returns : goal.returns
returns g c =
    let blocks = c.args.self.now.blocks in
    let ok = blocks.ok in
    let some = c.is_full.ensures c.if-is_full.false in
    let last : (c.len-last.result - 1) + 1 ≡ length blocks.items = omega (arith, some, c.len-last.ensures) in
    let within : c.len-last.result - 1 < length blocks.items = omega arith in
    let same = block_read blocks.items
    (c.len-last.result - 1) c.index_mut-block.result.now within c.index_mut-block.ensures.value in
    on_ok_weaker c.push-2.result (λ is. joined_last (c.len-last.result - 1) blocks.items c.push-2.new.self
    (c.args.line ∷ []) last (is ∙ ap (λ k. k ++ c.args.line ∷ []) same)) c.push-2.ensures.ok
