use Rattle.std.proofs.Common.{◌≡◌, ◌<◌, ◌+◌, ◌-◌, ℕ, List, List as Row, length, take, drop, arith, ap, subst, sym, ◌∙◌, length-append}
use Rattle.shtext.specs.Chunks.{joined}
use Rattle.shsource.specs.Text.{IsRun}
use Rattle.shtext.proofs.Joined.{joined_around, joined_more}
use Rattle.shtext.proofs.Runs.{run_within}
use Rattle.shtext.proofs.buffer.Buffer.stretch.Goals as goal

pub bytes_from-requires : goal.bytes_from-requires
bytes_from-requires c =
    let ks : Row (List ℕ) = c.args.self.now.chunks.items in
    let i : ℕ = c.find-index.result in
    let k : List ℕ = c.index-chunk.result.now in
    let more = ap length (joined_more i ks k c.find-index.ensures.within c.index-chunk.ensures) in
    let long = length-append (joined (take i ks)) k in
    omega (arith, more, long, c.find-index.ensures.high, c.begin-begin.ensures)

pub returns-clause-run : goal.returns-clause-run
returns-clause-run c =
    let ks : Row (List ℕ) = c.args.self.now.chunks.items in
    let i : ℕ = c.find-index.result in
    let k : List ℕ = c.index-chunk.result.now in
    let X : List ℕ = joined (take i ks) in
    let more = ap length (joined_more i ks k c.find-index.ensures.within c.index-chunk.ensures) in
    let long = length-append X k in
    let high : c.args.at < length X + length k = omega (arith, more, long, c.find-index.ensures.high) in
    let run : c.bytes_from.result.now ≡ drop (c.args.at - length X) k = c.bytes_from.ensures.bytes
    ∙ ap (λ m. drop (c.args.at - m) k) c.begin-begin.ensures in
    subst (IsRun (joined ks) c.args.at) (sym run)
    (run_within (joined ks) X k (joined (drop (i + 1) ks)) c.args.at
    (joined_around i ks k c.find-index.ensures.within c.index-chunk.ensures) c.find-index.ensures.low high)
