use Rattle.std.proofs.Common.{◌+◌, ◌++◌, ◌∷◌, ◌∙◌, ap, arith, drop, length, set, sym, take}
use Rattle.shwindow.specs.Blocks.{block_at, in_one_row}
use Rattle.shwindow.proofs.Joined.{block_read_of, cut_joined, joined_at, place_block}
use Rattle.shwindow.proofs.blocks.Blocks.cut.Goals as goal

pub returns-then-place-eq0-clause-from : goal.returns-then-place-eq0-clause-from
returns-then-place-eq0-clause-from g c =
    let blocks = c.args.self.now.blocks.items in
    let place = c.args.place in
    joined_at place.block blocks ∙ ap
    (λ n. drop n (block_at blocks place.block) ++ in_one_row (drop (place.block + 1) blocks))
    (sym c.if-place-eq0.true)

pub returns-clause-before : goal.returns-clause-before
returns-clause-before g c =
    let blocks = c.args.self.now.blocks.items in
    let place = c.args.place in
    let n = place.block in
    let room = c.reserve.ensures.items in
    let low = place_block blocks place c.requires (omega arith) in
    let read = block_read_of blocks n c.reserve.new.self.items c.index_mut-block.result.now room
    (omega (arith, ap length room, low)) c.index_mut-block.ensures.value in
    let k = c.cut.new.self in
    let l = c.in_ok-after.after in
    let before = c.in_ok-after.ensures.kept ∙ ap (take place.line) read.1 in
    let after = c.in_ok-after.ensures.ok ∙ ap (drop place.line) read.1 in
    let new = c.put_one.ensures ∙ ap (λ x. take (n + 1) (set x n k) ++ l ∷ drop (n + 1) (set x n k)) room in
    (cut_joined blocks place k l low before after c.put_one.new.into.items new).0

pub returns-clause-from : goal.returns-clause-from
returns-clause-from g c =
    let blocks = c.args.self.now.blocks.items in
    let place = c.args.place in
    let n = place.block in
    let room = c.reserve.ensures.items in
    let low = place_block blocks place c.requires (omega arith) in
    let read = block_read_of blocks n c.reserve.new.self.items c.index_mut-block.result.now room
    (omega (arith, ap length room, low)) c.index_mut-block.ensures.value in
    let k = c.cut.new.self in
    let l = c.in_ok-after.after in
    let before = c.in_ok-after.ensures.kept ∙ ap (take place.line) read.1 in
    let after = c.in_ok-after.ensures.ok ∙ ap (drop place.line) read.1 in
    let new = c.put_one.ensures ∙ ap (λ x. take (n + 1) (set x n k) ++ l ∷ drop (n + 1) (set x n k)) room in
    (cut_joined blocks place k l low before after c.put_one.new.into.items new).1
