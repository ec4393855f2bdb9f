use Rattle.std.proofs.Common.{codes, subst, sym}
use Rattle.std.proofs.lemmas.Result.{IfOk-weaker}
use Rattle.clap.specs.Words.{found_of, rows_of}
use Rattle.shtool.specs.Words.{AreOptions}
use Rattle.shtool.proofs.Options.{flag_read}
use Rattle.shtool.proofs.words.options_of.Goals as goal

pub returns-clause-options : goal.returns-clause-options
returns-clause-options c =
    let found = found_of c.args.matches.now in
    IfOk-weaker c.new.result _ _ (λ layout is. subst (AreOptions (rows_of found)) (sym is) (record {
      indent = c.indent_of.ensures;
      case_indent = flag_read found (codes "case-indent") _ c.get_flag.ensures.none c.get_flag.ensures.value
          c.get_flag.ensures.other;
      space_redirects = flag_read found (codes "space-redirects") _ c.get_flag-2.ensures.none c.get_flag-2.ensures.value
          c.get_flag-2.ensures.other;
      func_next_line = flag_read found (codes "func-next-line") _ c.get_flag-3.ensures.none c.get_flag-3.ensures.value
          c.get_flag-3.ensures.other;
    })) c.new.ensures.fields
