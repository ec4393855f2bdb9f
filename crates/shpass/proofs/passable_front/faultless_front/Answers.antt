use Rattle.std.proofs.Common.{rules, ◌≡◌, None}
use Rattle.shgrammar.specs.Search.{LineBefore}
use Rattle.shgrammar.proofs.Passing.{may_pass, newline_before, passed_more}
use Rattle.shpass.proofs.passable_front.faultless_front.Goals as goal

pub lines-preserved : goal.lines-preserved
lines-preserved g c =
    let bytes = g.S.Source.bytes c.args.source.now in
    let line : LineBefore c.args.edition bytes c.lines.at c.in-Some.next =
    rw c.in-Some.is at c.in_ok-next.ensures.some in record {
      within = line.within;
      passed = passed_more c.args.edition bytes c.lines.at c.in-Some.next c.lines.invariant.passed line;
      newline = λ some. newline_before c.args.edition bytes c.lines.at c.in-Some.next line;
    }

pub returns-clause-passed : goal.returns-clause-passed
returns-clause-passed g c = may_pass c.args.edition
    (g.S.Source.bytes c.args.source.now) c.lines.at c.lines.invariant.passed

pub returns-clause-all : goal.returns-clause-all
returns-clause-all g c = let none : c.in_ok-next.field-0 ≡ None = search rules in c.in_ok-next.ensures.none none
