use Rattle.std.proofs.Common.{[], ◌≡◌, ◌+◌, ◌<◌, ◌≤◌, List, ℕ, count_by, length, take, refl, sym, ap, ◌∙◌, arith}
use Rattle.std.proofs.lemmas.List.{get_or-take, length-take-le}
use Rattle.std.proofs.lemmas.List.Sums.{count_by-le-length}
use Rattle.std.proofs.Math.Seq.{take-length}
use Rattle.shsource.specs.Text.{is_newline, line_of}
use Rattle.shtext.proofs.Counting.{lines}
use Rattle.shtext.proofs.Newlines.{since_start}
use Rattle.shtext.proofs.line_col.line_col_of.Goals as goal

pub runs-init : goal.runs-init
runs-init g c =
    let none = since_start [] in
    record {
      order = omega arith;
      within = omega arith;
      line = refl;
      since = omega (arith, none);
      few = omega arith;
    }

pub runs-preserved : goal.runs-preserved
runs-preserved g c =
    let bytes : List ℕ = g.S.Source.bytes c.args.source.now in
    let inv = c.runs.invariant in
    let whole : List ℕ = c.run-run.result.now in
    let run : List ℕ = take c.min.result whole in
    let is = c.run-run.ensures in
    let short : c.min.result ≤ length whole = omega (arith, c.min.ensures) in
    let count : length run ≡ c.min.result = length-take-le c.min.result whole short in
    let fits : c.runs.from + length run ≤ length bytes =
    omega (arith, count, c.min.ensures, inv.within, c.requires.within) in
    let same = λ (k : ℕ) (lt : k < length run).
    is.same k (omega (arith, lt, count, short)) ∙ sym (get_or-take c.min.result whole k 0 (omega (arith, lt, count))) in
    let since = c.line_begin-start.ensures bytes fits same inv.since in
    let line : line_of bytes (c.runs.from + length run) ≡ line_of bytes c.runs.from + count_by is_newline run
    = lines bytes run c.runs.from same (length run) fits (omega arith)
    ∙ ap (λ l. line_of bytes c.runs.from + count_by is_newline l) (take-length run) in
    let few : count_by is_newline run ≤ length run = count_by-le-length is_newline run in
    record {
      order = omega (arith, since);
      within = omega (arith, count, c.min.ensures, inv.within);
      line = omega (arith, line, inv.line, c.newlines_in-line.ensures);
      since = since;
      few = omega (arith, few, inv.few, c.newlines_in-line.ensures);
    }
