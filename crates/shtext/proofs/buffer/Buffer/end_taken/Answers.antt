use Rattle.std.proofs.Common.{◌<◌, inr, ℕ, [], List, List as Row, arith, ap, length, take, length-append}
use Rattle.std.proofs.lemmas.List.{get_or_default}
use Rattle.shtext.specs.Chunks.{chunk_at, joined}
use Rattle.shtext.proofs.Fullness.{next_few}
use Rattle.shtext.proofs.Joined.{joined_more}
use Rattle.shtext.proofs.buffer.Buffer.end_taken.Goals as goal

pub returns-then-len-lt-FEWEST-clause-full : goal.returns-then-len-lt-FEWEST-clause-full
returns-then-len-lt-FEWEST-clause-full c = λ low.
    let ks : Row (List ℕ) = c.args.self.now.chunks.items in
    let to : ℕ = c.args.to in
    let k : List ℕ = chunk_at ks to in
    let within : to < length ks = omega (arith, low) in
    let more = ap length (joined_more to ks k within (get_or_default ks to [] k within)) in
    let long = length-append (joined (take to ks)) k in
    let full = c.args.self.now.full to low in
    omega (arith, more, long, full)

pub returns-then-len-lt-FEWEST-clause-near : goal.returns-then-len-lt-FEWEST-clause-near
returns-then-len-lt-FEWEST-clause-near c =
    let ks : Row (List ℕ) = c.args.self.now.chunks.items in
    let within : c.args.to < length ks = omega (arith, c.if-to-len.true, c.len.ensures, c.args.self.now.chunks.ok.0) in
    inr (c.if-len-lt-FEWEST.true, next_few 1 ks c.args.to c.args.self.now.each within)
