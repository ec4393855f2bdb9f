use Rattle.std.proofs.Common.{arith}
use Rattle.shtext.proofs.Fullness.{full_count}
use Rattle.shtext.proofs.buffer.Buffer.chunk_count.Goals as goal

pub returns-clause-few : goal.returns-clause-few
returns-clause-few c =
    let chunks = c.args.self.now.chunks in
    let ok = chunks.ok in
    let count = full_count chunks.items c.args.self.now.full in
    omega (arith, count, ok.0, c.len.ensures)
