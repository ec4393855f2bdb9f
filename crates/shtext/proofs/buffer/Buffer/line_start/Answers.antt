use Rattle.std.proofs.Common.{◌≡◌, ◌<◌, ◌+◌, ◌-◌, List, ℕ, List as Row, arith, ap, sym, subst, ◌∙◌, length, take, drop, count_by, get_or, Some}
use Rattle.shsource.specs.Text.{IsLineStart, is_newline}
use Rattle.shtext.proofs.Newlines.{since_start}
use Rattle.shtext.specs.Chunks.{before, joined}
use Rattle.shtext.proofs.Joined.{joined_around, joined_low, joined_more}
use Rattle.shtext.proofs.Starts.{start_after}
use Rattle.shtext.proofs.Summing.{newlines_append}
use Rattle.shtext.proofs.buffer.Buffer.line_start.Goals as goal

pub returns-else-n-eq0 : goal.returns-else-n-eq0
returns-else-n-eq0 c = (
  omega arith,
  omega (arith, c.if-n-lt2.true, c.if-n-eq0.false),
  ap (λ m. 1 + m) (since_start (joined c.args.self.now.chunks.items)),
)

pub after_newline-after-requires : goal.after_newline-after-requires
after_newline-after-requires c =
    let ks : Row (List ℕ) = c.args.self.now.chunks.items in
    let i : ℕ = c.place_of-index.result in
    let k : List ℕ = c.index-chunk.result.now in
    let X : List ℕ = joined (take i ks) in
    let within : i < length ks = omega
    (arith, c.place_of-index.ensures.within, ap length c.deref-2.ensures.value, c.args.self.now.newline_count) in
    let more = ap (count_by is_newline) (joined_more i ks k within c.index-chunk.ensures) in
    let long = newlines_append X k in
    let low : c.sum_before-2.result ≡ count_by is_newline X = c.sum_before-2.ensures
    ∙ ap (λ l. before l i) c.deref-3.ensures.value ∙ c.args.self.now.all_newlines i (omega (arith, within)) in
    let high : before c.deref-2.result.now (i + 1) ≡ count_by is_newline (joined (take (i + 1) ks)) =
    ap (λ l. before l (i + 1)) c.deref-2.ensures.value
    ∙ c.args.self.now.all_newlines (i + 1) (omega (arith, within)) in
    let same = ap (count_by is_newline) c.bytes-bytes.ensures.bytes in
    let less : before c.deref-2.result.now i ≡ count_by is_newline X = ap (λ l. before l i) c.deref-2.ensures.value
    ∙ c.args.self.now.all_newlines i (omega (arith, within)) in
    omega (arith, more, long, low, high, same, less, c.place_of-index.ensures.low, c.place_of-index.ensures.high)

pub overflow_add-result : goal.overflow_add-result
overflow_add-result c =
    let ks : Row (List ℕ) = c.args.self.now.chunks.items in
    let i : ℕ = c.place_of-index.result in
    let k : List ℕ = c.index-chunk.result.now in
    let small = c.args.self.now.small in
    let few = c.bytes-bytes.ensures.few in
    let same = ap length c.bytes-bytes.ensures.bytes in
    omega (arith, joined_low i ks, small, few, same, c.begin.ensures, c.after_newline-after.ensures.within)

pub returns : goal.returns
returns c =
    let ks : Row (List ℕ) = c.args.self.now.chunks.items in
    let i : ℕ = c.place_of-index.result in
    let k : List ℕ = c.index-chunk.result.now in
    let X : List ℕ = joined (take i ks) in
    let o : ℕ = c.after_newline-after.result in
    let n : ℕ = c.args.n in
    let within : i < length ks = omega
    (arith, c.place_of-index.ensures.within, ap length c.deref-2.ensures.value, c.args.self.now.newline_count) in
    let low : c.sum_before-2.result ≡ count_by is_newline X = c.sum_before-2.ensures
    ∙ ap (λ l. before l i) c.deref-3.ensures.value ∙ c.args.self.now.all_newlines i (omega (arith, within)) in
    let less : before c.deref-2.result.now i ≡ count_by is_newline X = ap (λ l. before l i) c.deref-2.ensures.value
    ∙ c.args.self.now.all_newlines i (omega (arith, within)) in
    let is = c.bytes-bytes.ensures.bytes in
    let same = ap length is in
    let newline = ap (λ (l : List ℕ). is_newline (get_or l (o - 1) 0)) (sym is)
    ∙ c.after_newline-after.ensures.newline in
    let passed : count_by is_newline (take o k) ≡ n - 2 - c.sum_before-2.result + 1 =
    ap (λ (l : List ℕ). count_by is_newline (take o l)) (sym is) ∙ c.after_newline-after.ensures.count in
    let begin : length X + o ≡ c.begin.result + o = omega (arith, c.begin.ensures) in
    subst (λ at. IsLineStart (joined ks) n (Some at)) begin
    (start_after (joined ks) X k (joined (drop (i + 1) ks)) o n
    (joined_around i ks k within c.index-chunk.ensures) c.after_newline-after.ensures.some
    (omega (arith, same, c.after_newline-after.ensures.within)) newline
    (omega (arith, passed, low, less, c.place_of-index.ensures.low, c.if-n-lt2.false)))
