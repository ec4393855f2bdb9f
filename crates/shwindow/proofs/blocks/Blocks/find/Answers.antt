use Rattle.std.proofs.Common.{◌≡◌, ◌+◌, ◌∙◌, ap, arith, length, sym}
use Rattle.std.proofs.lemmas.List.{take_all}
use Rattle.shwindow.specs.Blocks.{in_one_row}
use Rattle.shwindow.specs.Lines.{extent}
use Rattle.shwindow.proofs.Joined.{block_read_of, extent_blocks, extent_more_blocks, extent_no_blocks, found_end, found_in}
use Rattle.shwindow.proofs.blocks.Blocks.find.Goals as goal

pub all-init : goal.all-init
all-init g c = (sym (extent_no_blocks g.row.K.Denot), omega arith)

pub overflow_add-begin : goal.overflow_add-begin
overflow_add-begin g c =
    let blocks = c.args.self.now.blocks.items in
    let read = block_read_of blocks c.all.index c.deref-block-items.result.now c.block-item.result
    c.deref-block-items.ensures.value c.all-test.true c.block-item.is in
    let same = ap extent read.1 in
    omega (
      arith,
      same,
      extent_more_blocks c.all.index blocks read.0,
      extent_blocks (c.all.index + 1) blocks,
      c.all.invariant.0,
      c.len.ensures,
      c.requires,
    )

pub find-line-requires : goal.find-line-requires
find-line-requires g c =
    let blocks = c.args.self.now.blocks.items in
    let read = block_read_of blocks c.all.index c.deref-block-items.result.now c.block-item.result
    c.deref-block-items.ensures.value c.all-test.true c.block-item.is in
    let same = ap extent read.1 in
    record {
      low = c.all.invariant.1;
      fits = omega (
        arith,
        same,
        extent_more_blocks c.all.index blocks read.0,
        extent_blocks (c.all.index + 1) blocks,
        c.all.invariant.0,
        c.requires,
      );
    }

pub returns-then-at-begin : goal.returns-then-at-begin
returns-then-at-begin g c =
    let blocks = c.args.self.now.blocks.items in
    let read = block_read_of blocks c.all.index c.deref-block-items.result.now c.block-item.result
    c.deref-block-items.ensures.value c.all-test.true c.block-item.is in
    let is = c.find-line.ensures in
    let found = found_in blocks c.args.at
    (record { block = c.all.index; line = c.find-line.result.0 }) c.block-item.result c.all.begin
    c.find-line.result.1 read.0 read.1 c.all.invariant.0 (omega (arith, c.if-at-begin.true, c.len.ensures))
    is.within is.begin is.low is.past in
    record { place = found.place; begin = found.begin_is; low = found.low; past = found.past }

pub all-preserved : goal.all-preserved
all-preserved g c =
    let blocks = c.args.self.now.blocks.items in
    let read = block_read_of blocks c.all.index c.deref-block-items.result.now c.block-item.result
    c.deref-block-items.ensures.value c.all-test.true c.block-item.is in
    let same = ap extent read.1 in (
      omega (arith, same, extent_more_blocks c.all.index blocks read.0, c.all.invariant.0, c.len-begin.ensures),
      omega (arith, c.if-at-begin.false, c.len.ensures, c.len-begin.ensures),
    )

pub returns : goal.returns
returns g c =
    let blocks = c.args.self.now.blocks in
    let ok = blocks.ok in
    let all = take_all c.all.index blocks.items
    (omega (arith, ap length c.deref-block-items.ensures.value, c.all-test.false)) in
    let begin : c.all.begin ≡ extent (in_one_row blocks.items) = c.all.invariant.0
    ∙ ap (λ ks. extent (in_one_row ks)) all in
    let is = c.end.ensures in
    let found = found_end blocks.items c.args.at c.end.result c.all.begin
    (is.block ∙ ok.0) is.place is.rest begin c.all.invariant.1 in
    record { place = found.place; begin = found.begin_is; low = found.low; past = found.past }
