use Rattle.std.proofs.Common.{◌≡◌, ◌≤◌, ◌+◌, ◌-◌, List, ℕ, List as Row, arith, ap, ◌∙◌, length, take, drop, count_by, length-append}
use Rattle.shsource.specs.Text.{is_newline, line_of}
use Rattle.shtext.specs.Chunks.{before, joined}
use Rattle.shtext.proofs.Joined.{joined_around, joined_more}
use Rattle.shtext.proofs.Starts.{lines_before}
use Rattle.shtext.proofs.buffer.Buffer.line.Goals as goal

pub bytes_to-requires : goal.bytes_to-requires
bytes_to-requires c =
    let ks : Row (List ℕ) = c.args.self.now.chunks.items in
    let i : ℕ = c.find-index.result in
    let k : List ℕ = c.index-chunk.result.now in
    let more = ap length (joined_more i ks k c.find-index.ensures.within c.index-chunk.ensures) in
    let long = length-append (joined (take i ks)) k in
    omega (arith, more, long, c.find-index.ensures.high, c.begin-begin.ensures)

pub returns : goal.returns
returns c =
    let ks : Row (List ℕ) = c.args.self.now.chunks.items in
    let i : ℕ = c.find-index.result in
    let k : List ℕ = c.index-chunk.result.now in
    let X : List ℕ = joined (take i ks) in
    let o : ℕ = c.args.at - c.begin-begin.result in
    let more = ap length (joined_more i ks k c.find-index.ensures.within c.index-chunk.ensures) in
    let long = length-append X k in
    let within : o ≤ length k = omega (arith, more, long, c.find-index.ensures.high, c.begin-begin.ensures) in
    let there : length X + o ≡ c.args.at = omega (arith, c.begin-begin.ensures, c.find-index.ensures.low) in
    let line = lines_before (joined ks) X k (joined (drop (i + 1) ks)) o
    (joined_around i ks k c.find-index.ensures.within c.index-chunk.ensures) within in
    let here = ap (line_of (joined ks)) there in
    let count = c.newlines_in-before.ensures ∙ ap (count_by is_newline) c.bytes_to.ensures in
    let sum : c.sum_before-2.result ≡ count_by is_newline X = c.sum_before-2.ensures
    ∙ ap (λ l. before l i) c.deref-2.ensures.value
    ∙ c.args.self.now.all_newlines i (omega (arith, c.find-index.ensures.within)) in
    omega (arith, line, here, count, sum)
