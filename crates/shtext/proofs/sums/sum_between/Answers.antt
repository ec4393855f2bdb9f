use Rattle.std.proofs.Common.{◌≡◌, ◌<◌, ◌+◌, ℕ, List, List as Row, length, take, arith, ap, ◌∙◌, length-append, count_by}
use Rattle.std.proofs.lemmas.List.{drop-set-lt}
use Rattle.std.proofs.lemmas.List.Sums.{count_by-le-length}
use Rattle.shsource.specs.Text.{is_newline}
use Rattle.shtext.specs.Chunks.{joined}
use Rattle.shtext.proofs.Joined.{joined_low, joined_more}
use Rattle.shtext.proofs.Summing.{newlines_append, sums_set}
use Rattle.shtext.proofs.sums.sum_between.Goals as goal

pub overflow_add-end : goal.overflow_add-end
overflow_add-end c =
    let ks : Row (List ℕ) = c.args.chunks.now in
    let n : ℕ = c.chunks.index in
    let k : List ℕ = c.index-chunks-index.result in
    let within : n < length ks = omega (arith, c.chunks-test.true, c.requires.within) in
    let more = ap length (joined_more n ks k within c.index-chunks-index.is) in
    let long = length-append (joined (take n ks)) k in
    omega (arith, more, long, c.len-end.ensures.len, c.chunks.invariant.«end», joined_low (n + 1) ks, c.requires.small)

pub overflow_add-line : goal.overflow_add-line
overflow_add-line c =
    let ks : Row (List ℕ) = c.args.chunks.now in
    let n : ℕ = c.chunks.index in
    let k : List ℕ = c.index-chunks-index.result in
    let within : n < length ks = omega (arith, c.chunks-test.true, c.requires.within) in
    let more = ap (count_by is_newline) (joined_more n ks k within c.index-chunks-index.is) in
    let long = newlines_append (joined (take n ks)) k in
    let few = count_by-le-length is_newline (joined (take (n + 1) ks)) in
    omega (
      arith,
      more,
      long,
      few,
      c.newlines-line.ensures,
      c.chunks.invariant.line,
      joined_low (n + 1) ks,
      c.requires.small,
    )

pub chunks-preserved : goal.chunks-preserved
chunks-preserved c =
    let ks : Row (List ℕ) = c.args.chunks.now in
    let n : ℕ = c.chunks.index in
    let inv = c.chunks.invariant in
    let k : List ℕ = c.index-chunks-index.result in
    let within : n < length ks = omega (arith, c.chunks-test.true, c.requires.within) in
    let is = joined_more n ks k within c.index-chunks-index.is in
    let ends = ap length is ∙ length-append (joined (take n ks)) k in
    let newlines = ap (count_by is_newline) is ∙ newlines_append (joined (take n ks)) k in
    let now_end : c.chunks.«end» + c.len-end.result ≡ length (joined (take (n + 1) ks)) =
    omega (arith, ends, c.len-end.ensures.len, inv.«end») in
    let now_line : c.chunks.line + c.newlines-line.result ≡ count_by is_newline (joined (take (n + 1) ks)) =
    omega (arith, newlines, c.newlines-line.ensures, inv.line) in
    let few_ends : n < length c.chunks.ends = omega (arith, within, c.chunks.auto.ends, c.requires.end_count) in
    let few_newlines : n < length c.chunks.newlines =
    omega (arith, within, c.chunks.auto.newlines, c.requires.newline_count) in
    record {
      low = omega (arith, inv.low);
      high = omega (arith, c.chunks-test.true);
      «end» = now_end;
      line = now_line;
      ends = sums_set (λ m. length (joined (take m ks))) c.chunks.ends n
          (c.chunks.«end» + c.len-end.result) few_ends inv.ends now_end;
      newlines = sums_set (λ m. count_by is_newline (joined (take m ks))) c.chunks.newlines n
          (c.chunks.line + c.newlines-line.result) few_newlines inv.newlines now_line;
      ends_after = drop-set-lt c.args.to c.chunks.ends n (c.chunks.«end» + c.len-end.result) c.chunks-test.true
          ∙ inv.ends_after;
      newlines_after = drop-set-lt c.args.to c.chunks.newlines n
          (c.chunks.line + c.newlines-line.result) c.chunks-test.true
          ∙ inv.newlines_after;
    }
